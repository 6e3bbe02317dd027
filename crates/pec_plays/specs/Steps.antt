-- What a provider does on one thing that comes to it, a frame or a pair that is to be decided: `Step`. It depends on
-- the provider's own journal alone, by the tables of `Reception` and `Decisions`. This project's profile.
use Rattle.std.specs.Prelude.{ℕ, ◌+◌, nat_lt, Bool, false, List, ◌++◌, Option, Some, None}
use Rattle.std.specs.Option.{option_to_list}
use Rattle.pec_types.specs.declared.letters.Letter.{Letter}
use Rattle.pec_types.specs.declared.turns.Event.{Event}
use Rattle.pec_records.specs.declared.entries.Entry.{Entry}
use Rattle.pec_ledger.specs.Steps.{half, size_of}
use Rattle.pec_ledger.specs.Trade.{Trade}

-- The entry that is appended, if there is one, what is told of it, the letters that are owed from then on, and whether
-- the journal has no room for the entry.
pub record Step : Type 0 where
  pub entry : Option Entry
  pub event : Event
  pub owed : List Letter
  pub full : Bool

-- where a journal may end at most, in bytes
abbrev pub longest_journal : ℕ
longest_journal = 1099511627776

-- The journal of a provider has no room for an entry.
unfoldable pub has_no_room : Trade → ℕ → List Entry → Entry → Bool
has_no_room trade provider journal entry = nat_lt longest_journal ((half trade provider journal).end + size_of entry)

-- a step that appends an entry
abbrev pub enters : Trade → ℕ → List Entry → Entry → Event → List Letter → Step
enters trade provider journal entry event owed =
    record { entry = Some entry; event = event; owed = owed; full = has_no_room trade provider journal entry }

-- a step that appends nothing
abbrev pub passes : Event → List Letter → Step
passes event owed = record { entry = None; event = event; owed = owed; full = false }

-- the journal behind a step
abbrev pub journal_after : List Entry → Step → List Entry
journal_after journal step = journal ++ option_to_list step.entry
