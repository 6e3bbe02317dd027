-- The items of an account that are in its mailbox, or in its archive: `kept_at`. This project's profile.
use Rattle.std.specs.Prelude.{ℕ, slice_get, Option}
use Rattle.pec_types.specs.Bytes.{Bytes}
use Rattle.pec_ledger.specs.Half.{Half, Posted}
use Rattle.pec_ledger.specs.Lookups.{archive, mailbox}
use Rattle.pec_provider.specs.declared.showing.Keeping.{Keeping}
use Rattle.pec_provider.specs.declared.showing.Keeping.TheVariants as keepings

-- the item at a place, from 0
abbrev pub kept_at : Keeping → Half → Bytes → ℕ → Option Posted
kept_at keepings.Mailbox half account place = slice_get (mailbox half account) place
kept_at keepings.Archive half account place = slice_get (archive half account) place
