-- What an entry is prepared as: `Prepared`, all that it adds; and what is answered on an entry of a journal, `Drafts`:
-- exactly the steps of the provider's half are drafted. RFC 6109, sections 3.1 to 3.4, within this project's profile.
use Rattle.std.specs.Prelude.{◌≡◌, ℕ, ◌+◌, ◌^◌, ◌<◌, ◌≤◌, List, [], ◌∷◌, ◌++◌, map, length, Option, None, Some, Result, Ok, Err}
use Rattle.std.specs.List.{flat_map}
use Rattle.pec_types.specs.declared.mailboxes.Mark.{Mark as Told}
use Rattle.pec_types.specs.declared.places.Place.{Place}
use Rattle.pec_directory.specs.Directory.{Kept}
use Rattle.pec_records.specs.declared.entries.Entry.{Entry}
use Rattle.pec_records.specs.declared.entries.Entry.TheVariants as entries
use Rattle.pec_ledger.specs.Along.{AllAlong}
use Rattle.pec_ledger.specs.Deadlines.{acceptances}
use Rattle.pec_ledger.specs.Half.{Adds, Half, Mark, empty, joined}
use Rattle.pec_ledger.specs.OfDirectory.{IsOf}
use Rattle.pec_ledger.specs.Own.{Own}
use Rattle.pec_ledger.specs.Steps.{adds, messages_by, moment_of, notice_by, step}
use Rattle.pec_ledger.specs.Trade.{Trade}
use Rattle.pec_shelf.specs.Deadlines.{clock_at}
use Rattle.pec_shelf.specs.Seen.{IsFor, Seen, certified_by}
use Rattle.pec_shelf.specs.declared.certified.Certified.{Certified}
use Rattle.pec_shelf.specs.declared.deadlines.Clock.{Clock}
use Rattle.pec_shelf.specs.declared.faults.DraftFault.{DraftFault}
use Rattle.pec_shelf.specs.declared.faults.DraftFault.TheVariants as faults

-- An entry that was prepared: what it adds to the half, the certified recipients of the message that it adds, where the
-- cursors of the time limits stand behind it, if it is a clock call, and where its bytes will stand.
pub record Prepared : Type 0 where
  pub adds : Adds
  pub certified : List (List Certified)
  pub clock : Option Clock
  pub place : Place

-- The entry may follow: it meets its own condition in the half, and its moment isn't before the greatest.
pub record IsStep (trade : Trade) (me : ℕ) (half : Half) (entry : Entry) : Type 0 where
  pub own : Own trade me half entry
  pub in_time : half.last ≤ moment_of entry

-- The entry is a step of the half, in some world of the directory.
pub record IsStepOf (kept : List Kept) (shelf : Seen) (entry : Entry) : Type 0 where
  pub trade : Trade
  pub of : IsOf kept trade
  pub step : IsStep trade shelf.me shelf.half entry

-- Each entry is a step of the half before it.
abbrev pub AreSteps : Trade → ℕ → List Entry → Type 0
AreSteps trade me list = AllAlong (step trade me) (IsStep trade me) empty list

-- where the cursors of the time limits stand behind an entry, if it is a clock call
abbrev pub clock_by : Trade → Half → Entry → Option Clock
clock_by trade half (entries.Ticked now) = Some (clock_at now (acceptances trade half))
clock_by trade half _ = None

-- the moment of the last clock call behind an entry
abbrev pub ticked_behind : ℕ → Option Clock → ℕ
ticked_behind last None = last
ticked_behind last (Some clock) = clock.at

-- What an entry is prepared as, whose bytes will stand at this place.
abbrev pub prepared : Trade → ℕ → Half → Entry → Place → Prepared
prepared trade me half entry place = record {
  adds = adds trade me half entry;
  certified = map (certified_by trade) (messages_by trade me half entry);
  clock = clock_by trade half entry;
  place = place;
}

-- the place of what has none yet
abbrev pub nowhere : Place
nowhere = record { at = 0; length = 0 }

-- what adds no row
abbrev pub nothing : Prepared
nothing = record {
  adds = record {
    moment = 0;
    version = 0;
    size = 0;
    messages = [];
    charged = [];
    marks = [];
    known = [];
    taken = [];
    decided = [];
    acked = [];
    items = [];
    moves = [];
  };
  certified = [];
  clock = None;
  place = nowhere;
}

-- the rows alone, without a moment, a version, bytes and a place
abbrev pub rows_of : Prepared → Prepared
rows_of ready = record {
  adds = record ready.adds { moment = 0; version = 0; size = 0 };
  certified = ready.certified;
  clock = ready.clock;
  place = nowhere;
}

-- These are the rows of an entry.
abbrev pub AreRows : Trade → ℕ → Half → Entry → Prepared → Type 0
AreRows trade me half entry rows = rows ≡ rows_of (prepared trade me half entry nowhere)

-- What is answered on an entry of a journal: it is drafted exactly where it is a step. Want of memory is free.
abbrev pub Drafts : Trade → ℕ → Half → Entry → Result Entry DraftFault → Type 0
Drafts trade me half entry (Ok draft) = IsStep trade me half entry × (draft ≡ entry)
Drafts trade me half entry (Err faults.NotAStep) = IsStep trade me half entry → ⊥
Drafts trade me half entry (Err faults.NoMemory) = Unit {0}

-- the certified recipients of all messages, one after another
abbrev pub all_of : List (List Certified) → List Certified
all_of certified = flat_map (λ (some : List Certified). some) certified

-- None of the lists that a prepared entry adds is longer than this, there are no more pairs, and its place is one.
pub record AreWithin (ready : Prepared) (room : ℕ) : Type 0 where
  pub pairs : length (all_of ready.certified) ≤ room
  pub messages : length ready.adds.messages ≤ room
  pub certified : length ready.certified ≤ room
  pub charged : length ready.adds.charged ≤ room
  pub marks : length ready.adds.marks ≤ room
  pub known : length ready.adds.known ≤ room
  pub taken : length ready.adds.taken ≤ room
  pub decided : length ready.adds.decided ≤ room
  pub acked : length ready.adds.acked ≤ room
  pub items : length ready.adds.items ≤ room
  pub moves : length ready.adds.moves ≤ room
  pub place : 0 < room

-- The shelf has memory for what was prepared, and its figures stay below 2 to the 64.
pub record HasRoomFor (shelf : Seen) (ready : Prepared) : Type 0 where
  pub lists : AreWithin ready shelf.room
  pub entries : shelf.half.entries + 1 < 2 ^ 64
  pub bytes : shelf.half.end + ready.adds.size < 2 ^ 64

-- What was prepared came from this shelf, as it is: some entry, a step of a trade whose homes the shelf keeps, is
-- prepared so.
pub record CameFrom (shelf : Seen) (ready : Prepared) : Type 0 where
  pub trade : Trade
  pub entry : Entry
  pub for : IsFor trade shelf
  pub step : IsStep trade shelf.me shelf.half entry
  pub is : ready ≡ prepared trade shelf.me shelf.half entry ready.place

-- The shelf is the old one with what was prepared.
pub record Goes (old new : Seen) (ready : Prepared) : Type 0 where
  pub me : new.me ≡ old.me
  pub half : new.half ≡ joined old.half ready.adds
  pub certified : new.certified ≡ old.certified ++ ready.certified
  pub ticked : new.ticked ≡ ticked_behind old.ticked ready.clock
  pub places : new.places ≡ old.places ++ ready.place ∷ []

-- what was prepared, with marks and their notices
abbrev pub with_marks : Half → Prepared → List Mark → Prepared
with_marks half ready marks = record {
  adds = record ready.adds {
    marks = ready.adds.marks ++ marks;
    items = ready.adds.items ++ map (notice_by half) marks;
  };
  certified = ready.certified;
  clock = ready.clock;
  place = ready.place;
}

-- a mark, as a clock call tells it
abbrev pub told : Mark → Told
told mark = record { id = mark.pair.id; recipient = mark.pair.recipient; due = mark.due }
