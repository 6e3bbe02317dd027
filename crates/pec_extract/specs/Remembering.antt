-- What is remembered of taken messages while an extract is written: the facts of their originals (`facts_kept`), each
-- as the journal has them (`AreTaken`). This project's profile.
use Rattle.std.specs.Prelude.{◌≡◌, ℕ, ◌+◌, ◌*◌, List, find, Option, Some, IfSome, option_map}
use Rattle.pec_types.specs.Message.{Id}
use Rattle.pec_types.specs.declared.messages.Facts.{Facts}
use Rattle.pec_types.specs.declared.messages.TheConstants.{MESSAGES}
use Rattle.pec_directory.specs.Directory.{Provider}
use Rattle.pec_records.specs.declared.entries.Entry.{Entry}
use Rattle.pec_ledger.specs.Half.{Half}
use Rattle.pec_ledger.specs.Pairs.{same_id}
use Rattle.pec_ledger.specs.Trade.{Trade}
use Rattle.pec_provider.specs.Telling.{facts_taken, own_facts}
use Rattle.pec_extract.specs.LogRows.{Told, facts_by, told_with}

-- a message that was taken, and the facts of its original
pub record Original : Type 0 where
  pub id : Id
  pub facts : Facts

-- the number of a message by which it is found; no promise rests on which one it is
unfoldable pub number_of : Id → ℕ
number_of id = id.provider * MESSAGES + id.number

-- the facts that are remembered of a message
abbrev pub facts_kept : List Original → Id → Option Facts
facts_kept originals id =
    option_map (λ (original : Original). original.facts)
    (find (λ (original : Original). same_id id original.id) originals)

-- Whatever is remembered of a message is what the journal says of the original that was taken.
abbrev pub AreTaken : Trade → ℕ → List Entry → List Original → Type 0
AreTaken trade me journal originals =
    (id : Id) → IfSome (facts_kept originals id) (λ facts. facts_taken trade me journal id ≡ Some facts)

-- What the row of an entry says, where what it tells of an original is what is remembered.
abbrev pub told_known : Trade → List Provider → ℕ → Half → List Original → (number submitted : ℕ) → Entry → Option Told
told_known trade providers me half originals number submitted entry =
    told_with trade providers me half number submitted
    (facts_by (own_facts me half) (facts_kept originals) me submitted entry) entry
