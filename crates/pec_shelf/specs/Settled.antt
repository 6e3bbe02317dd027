-- A trade, where the directory and heads are those of this provider: what the code follows. `settled` is the trade itself
-- where the trade is one of the directory.
use Rattle.std.specs.Prelude.{ℕ, nat_lt, Bool, true, not, ◌&&◌, List, [], ◌∷◌, length}
use Rattle.std.specs.List.{filter_map, list_any}
use Rattle.std.specs.Option.{option_map}
use Rattle.std.specs.Str.{bytes_eq}
use Rattle.pec_types.specs.Bytes.{Bytes, Path}
use Rattle.pec_types.specs.declared.messages.Recipient.{Recipient}
use Rattle.pec_directory.specs.Canonical.{digest_of}
use Rattle.pec_directory.specs.Directory.{Kept, Provider, home_of, is_account_of, providers_of}
use Rattle.pec_ledger.specs.Half.{Half}
use Rattle.pec_ledger.specs.Lookups.{counted}
use Rattle.pec_ledger.specs.OfDirectory.{facts_in, quota_of, recipients_named}
use Rattle.pec_ledger.specs.Trade.{Trade}
use Rattle.pec_shelf.specs.Seen.{certified_at}
use Rattle.pec_shelf.specs.declared.certified.Certified.{Certified}

abbrev pub settled : List Kept → Trade → Trade
settled kept trade = record trade {
  providers = length (providers_of kept);
  digest = digest_of (providers_of kept);
  home = home_of (providers_of kept);
  is_account = is_account_of (providers_of kept);
  quota = quota_of (providers_of kept);
  facts = facts_in;
  envelope_recipients = recipients_named;
}

-- the recipients that some provider of the directory has at home
abbrev pub certified_among : List Provider → List Recipient → List Certified
certified_among providers recipients =
    filter_map (λ (recipient : Recipient). option_map (certified_at recipient) (home_of providers recipient.address)) recipients

-- no address stands again behind itself
abbrev pub all_differ : Path → Bool
all_differ [] = true
all_differ (address ∷ addresses) = not (list_any (bytes_eq address) addresses) && all_differ addresses

-- an account of a provider has room
abbrev pub has_room_at : List Provider → ℕ → Half → Bytes → Bool
has_room_at providers me half account =
    is_account_of providers me account && nat_lt (counted half account) (quota_of providers account)
