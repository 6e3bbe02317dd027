-- The share of the desk that an account has (`Share` of pec_service), and that of who asks. This project's profile.
use Rattle.std.specs.Prelude.{Option, Result, Ok, Err}
use Rattle.std.specs.Option.{option_and_then}
use Rattle.pec_types.specs.Bytes.{Bytes}
use Rattle.pec_outside.specs.DiskModel.{Sight}
use Rattle.pec_directory.specs.Directory.{providers_of}
use Rattle.pec_seal.specs.Seals.{Seals}
use Rattle.pec_http.specs.Asking.{Question, See, Submit}
use Rattle.pec_http.specs.declared.demands.Look.TheVariants as looks
use Rattle.pec_http.specs.declared.stops.Stop.{Stop}
use Rattle.pec_network.specs.Carrying.{AllStand}
use Rattle.pec_network.specs.Network.{sites, world_of}
use Rattle.pec_service.specs.Own.{Share, asker, share_in}
use Rattle.pec_desk.specs.Desks.{DeskState}

abbrev pub share_of : {D S : Type 0} → (S → Seals) → DeskState D S → Bytes → Option Share
share_of seals desk address =
    share_in (world_of seals desk.network) (providers_of desk.network.kept) (sites desk.network) address

-- The share of who asks.
abbrev pub asking_share : {D S : Type 0} → (S → Seals) → DeskState D S → Result Question Stop → Option Share
asking_share seals desk asked = option_and_then (share_of seals desk) (asker asked)

-- Whoever looks at an item is given back what was kept: disks tell what they hold, and what is kept stands on them. Of
-- other requests nothing is asked.
abbrev pub ReadsItsOwn : {D S : Type 0} → (D → Sight) → Type 0 → DeskState D S → Result Question Stop → Type 0
ReadsItsOwn sight tells desk (Ok (Submit address path message)) = Unit {0}
ReadsItsOwn sight tells desk (Ok (See address looks.Book)) = Unit {0}
ReadsItsOwn sight tells desk (Ok (See address looks.Items)) = Unit {0}
ReadsItsOwn sight tells desk (Ok (See address (looks.Item place))) = tells × AllStand sight desk.network.providers
ReadsItsOwn sight tells desk (Err stop) = Unit {0}
