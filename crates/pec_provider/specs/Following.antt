-- Which entries may follow a provider's, in the ledger of any journals: `MayFollow`. A provider carries on in this
-- sense (`CarriesOn` of pec_chronicle). This project's profile.
use Rattle.std.specs.Prelude.{ℕ}
use Rattle.pec_ledger.specs.Ledger.{Journals, Meets}
use Rattle.pec_ledger.specs.Steps.{half}
use Rattle.pec_ledger.specs.Trade.{Trade}
use Rattle.pec_chronicle.specs.Carrying.{Following}

-- An entry may follow a list of a provider's entries: it meets its conditions in the half that they come to.
abbrev pub MayFollow : Trade → Journals → ℕ → Following
MayFollow trade journals me list entry = Meets trade journals me (half trade me list) entry
