-- How an entry that is a step of a provider's half is appended: the shelf and the entries over the disk go on together.
-- This project's profile.
use Rattle.std.specs.Prelude.{◌≡◌, ◌+◌, ◌<◌, ◌≤◌, nat_lt, Bool, true, List, map, Option, Some}
use Rattle.pec_types.specs.declared.mailboxes.Mark.{Mark}
use Rattle.pec_types.specs.declared.turns.ProviderFault.{ProviderFault}
use Rattle.pec_types.specs.declared.turns.ProviderFault.TheVariants as faults
use Rattle.pec_directory.specs.Directory.{Kept}
use Rattle.pec_records.specs.declared.entries.Entry.{Entry}
use Rattle.pec_ledger.specs.Half.{Half}
use Rattle.pec_ledger.specs.OfDirectory.{IsOf}
use Rattle.pec_ledger.specs.Steps.{marks_by, size_of}
use Rattle.pec_ledger.specs.Trade.{Trade}
use Rattle.pec_plays.specs.Steps.{longest_journal}
use Rattle.pec_chronicle.specs.Carrying.{with_entry}
use Rattle.pec_chronicle.specs.Chronicle.{ChronicleState}
use Rattle.pec_shelf.specs.Prepared.{told}
use Rattle.pec_shelf.specs.Seen.{Seen}

-- a journal with this half has no room for an entry
abbrev pub is_full : Half → Entry → Bool
is_full half entry = nat_lt longest_journal (half.end + size_of entry)

-- These are the marks of an entry, as a clock call tells them.
abbrev pub AreMarks : List Kept → Seen → Entry → List Mark → Type 0
AreMarks kept shelf entry marks =
    (trade : Trade) → IsOf kept trade → marks ≡ map told (marks_by trade shelf.me shelf.half entry)

-- ---- entries over a disk

module _ {D : Type 0} (old new : ChronicleState D) where
  -- no entry came, and none was interrupted
  pub record Same : Type 0 where
    pub entries : new.entries ≡ old.entries
    pub interrupted : new.interrupted ≡ old.interrupted
    pub down : new.down ≡ old.down
    pub end : new.end ≡ old.end

  -- the entry came
  pub record Entered (entry : Entry) : Type 0 where
    pub entries : new.entries ≡ with_entry old.entries entry
    pub interrupted : new.interrupted ≡ old.interrupted
    pub down : new.down ≡ old.down
    pub end : new.end ≡ old.end + size_of entry
    pub fits : old.end + size_of entry ≤ longest_journal

  -- its append failed, and nothing is appended any more
  pub record Torn (entry : Entry) : Type 0 where
    pub entries : new.entries ≡ old.entries
    pub interrupted : new.interrupted ≡ Some entry
    pub down : new.down ≡ true
    pub fits : old.end + size_of entry ≤ longest_journal

  -- the journal has no room for it
  pub record NoRoom (entry : Entry) : Type 0 where
    pub same : Same
    pub full : longest_journal < old.end + size_of entry

-- what is there after a fault
abbrev pub Failed : {D : Type 0} → ChronicleState D → ChronicleState D → Entry → ProviderFault → Type 0
Failed old new entry faults.DiskFault = Torn old new entry
Failed old new entry faults.JournalFull = NoRoom old new entry
Failed old new entry faults.NoMemory = Same old new
Failed old new entry _ = ⊥

-- ---- which entry may follow

-- this entry, where there is one, may follow this list, and nothing else follows anything
abbrev pub OnlyMay : List Entry → Option Entry → List Entry → Entry → Type 0
OnlyMay here entry list next = (list ≡ here) × (entry ≡ Some next)
