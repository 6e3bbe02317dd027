-- The premises of the ledger's laws are met in the small world, and a journal follows its own state.
use Rattle.std.proofs.Common.{ℕ, List, [], ◌∷◌, false, refl, sym, arith, Option, Some}
use Rattle.std.proofs.lemmas.List.{append-nil}
use Rattle.pec_types.specs.Bytes.{Bytes}
use Rattle.pec_types.specs.declared.messages.Facts.{Facts}
use Rattle.pec_kinds.specs.declared.receipts.Kind.{Kind}
use Rattle.pec_ledger.specs.Examples.{alice, anna, first, receipt_on, to_one}
use Rattle.pec_ledger.specs.Network.{FollowsState, Site, journal_at}
use Rattle.pec_ledger.specs.SmallWorld.{facts_from, small}
use Rattle.pec_ledger.specs.Trade.{Trade}
use Rattle.pec_ledger.specs.TradeLaws.{CanBeComposed, IsOfKind, IsSent, Names}
use Rattle.pec_ledger.proofs.ListLemmas.{contains_here}

-- what alice writes to anna, as facts
abbrev written : Facts
written = facts_from alice (0 ∷ anna)

pub sent : IsSent small first (to_one anna)
sent = record { provider = omega arith; number = omega arith; facts = written; are = refl; account = refl; admitted = refl; few = omega arith }

pub names_anna : Names small written (Some anna)
names_anna = record { address = anna; is = refl; among = contains_here anna []; home = refl }

pub can_be : (kind : Kind) (recipient : Option Bytes) → IsOfKind small written kind (receipt_on kind recipient) → CanBeComposed small (receipt_on kind recipient) (to_one anna)
unfolding sent
can_be kind recipient is = record { sent = sent; by = omega arith; in_range = omega arith; kind = is }

pub follows_itself : (trade : Trade) (state : List Site) (p : ℕ) → FollowsState trade state p (journal_at state p)
follows_itself trade state p = record { choice = false; further = []; is = sym (append-nil (journal_at state p)); follows = tt }
