-- A provider's turn in a round: it is planned as if no append failed (`plan`), and then cut where one did (`Cut`,
-- `turned`). So a turn that was cut is a front of the whole one. This project's profile.
use Rattle.std.specs.Prelude.{ℕ, zero, suc, ◌+◌, ◌-◌, nat_lt, false, List, [], ◌∷◌, ◌++◌, length, map, take, drop, slice_get, if◌then◌else◌, Option, Some, None}
use Rattle.std.specs.List.{flat_map}
use Rattle.std.specs.Option.{option_and_then, option_to_list}
use Rattle.pec_types.specs.Bytes.{Bytes}
use Rattle.pec_types.specs.declared.letters.Letter.{Letter}
use Rattle.pec_types.specs.declared.turns.Event.{Event}
use Rattle.pec_types.specs.declared.turns.ProviderFault.{ProviderFault}
use Rattle.pec_types.specs.declared.turns.ProviderFault.TheVariants as faults
use Rattle.pec_records.specs.declared.entries.Entry.{Entry}
use Rattle.pec_screen.specs.Verdicts.{Patterns}
use Rattle.pec_ledger.specs.Network.{Site}
use Rattle.pec_ledger.specs.Pairs.{Pair}
use Rattle.pec_ledger.specs.Steps.{half}
use Rattle.pec_ledger.specs.Trade.{Trade}
use Rattle.pec_plays.specs.Decisions.{Looks, decide, kept_looks, undecided}
use Rattle.pec_plays.specs.Frames.{due_frames}
use Rattle.pec_plays.specs.Reception.{arrive}
use Rattle.pec_plays.specs.Steps.{Step, journal_after}

-- ---- plans

module _ (trade : Trade) (provider now : ℕ) (looks : Looks) where
  -- the steps on pairs, each on the journal behind the one before
  abbrev pub decisions : List Entry → List Pair → List Step
  decisions journal [] = []
  decisions journal (pair ∷ pairs) =
      decide trade provider now looks journal pair
      ∷ decisions (journal_after journal (decide trade provider now looks journal pair)) pairs

  -- The steps on the waiting frames, and then on all taken pairs that are undecided.
  abbrev pub plan : List Entry → List Bytes → List Step
  plan journal [] = decisions journal (undecided trade provider journal)
  plan journal (frame ∷ frames) =
      arrive trade provider now journal frame ∷ plan (journal_after journal (arrive trade provider now journal frame)) frames

-- the entries of steps
abbrev pub entries_of : List Step → List Entry
entries_of steps = flat_map (λ (step : Step). option_to_list step.entry) steps

-- what is told of steps, in order
abbrev pub events_of : List Step → List Event
events_of steps = map (λ (step : Step). step.event) steps

-- the answers that steps owe, in order
abbrev pub owed_of : List Step → List Letter
owed_of steps = flat_map (λ (step : Step). step.owed) steps

-- the entry of the step of a number
abbrev pub entry_at : List Step → ℕ → Option Entry
entry_at steps number = option_and_then (λ (step : Step). step.entry) (slice_get steps number)

-- ---- cuts

-- How a turn went. All of it was done; or a call of the disk failed, which is the append of the step of a number or,
-- behind all steps, a read for a letter that is due; or the journal had no room for that step's entry; or memory ran
-- out before that step; or before it, which is a decision, the read of the envelope failed. Only a disk that gives back
-- other bytes than it took can be the cause of these two: all was done, but these frames were put in place of those
-- that are due, a list for each provider; and screens looked at other messages than those that were taken, and this was
-- found, while apart from that the turn went as a cut says.
pub data Cut : Type 0 where
  Whole : Cut
  Fails : (number : ℕ) (fault : ProviderFault) → Cut
  Full : (number : ℕ) → Cut
  Stops : (number : ℕ) → Cut
  Unread : (number : ℕ) (fault : ProviderFault) → Cut
  Other : (out : List (List Bytes)) → Cut
  Sees : (looks : Looks) (cut : Cut) → Cut

-- what is found as pairs are decided, in a turn that went so, of a provider whose screens have these patterns
abbrev pub looks_by : Trade → ℕ → List Patterns → Cut → Looks
looks_by trade provider screens Whole = kept_looks trade provider screens
looks_by trade provider screens (Fails number fault) = kept_looks trade provider screens
looks_by trade provider screens (Full number) = kept_looks trade provider screens
looks_by trade provider screens (Stops number) = kept_looks trade provider screens
looks_by trade provider screens (Unread number fault) = kept_looks trade provider screens
looks_by trade provider screens (Other out) = kept_looks trade provider screens
looks_by trade provider screens (Sees looks cut) = looks

-- A turn: the provider as it then stands, what is told of it, the frames that it put for each provider, and why it
-- ended early, if it did.
pub record Turned : Type 0 where
  pub site : Site
  pub events : List Event
  pub out : List (List Bytes)
  pub ended : Option ProviderFault

-- the frames of all links, the first link's first
abbrev pub frames_in : List (List Bytes) → List Bytes
frames_in links = flat_map (λ (link : List Bytes). link) links

-- links without the first so many frames, the first link's first
abbrev pub without_first : ℕ → List (List Bytes) → List (List Bytes)
without_first number [] = []
without_first number (link ∷ links) = drop number link ∷ without_first (number - length link) links

-- the frames for each provider from a number on
abbrev pub puts_from : Trade → ℕ → List Entry → (ℕ → ℕ) → List Letter → ℕ → ℕ → List (List Bytes)
puts_from trade provider journal rooms owed to zero = []
puts_from trade provider journal rooms owed to (suc count) =
    due_frames trade provider journal to (rooms to) owed ∷ puts_from trade provider journal rooms owed (to + 1) count

-- of these frames, a list for each provider from a number on, as many as the links have room for
abbrev pub that_fit : (ℕ → ℕ) → ℕ → List (List Bytes) → List (List Bytes)
that_fit rooms to [] = []
that_fit rooms to (frames ∷ out) = take (rooms to) frames ∷ that_fit rooms (to + 1) out

-- the provider behind the first steps
abbrev pub behind : Site → List Step → ℕ → Site
behind site steps taken = record {
  journal = site.journal ++ entries_of steps;
  up = site.up;
  interrupted = site.interrupted;
  screens = site.screens;
  waiting = without_first taken site.waiting;
}

-- a turn that ended at the step of a number: the frame in hand is gone, and nothing is put
abbrev pub stopped : Site → List Step → ℕ → ProviderFault → Turned
stopped site steps number fault = record {
  site = behind site (take number steps) (number + 1);
  events = events_of (take number steps);
  out = [];
  ended = Some fault;
}

-- a provider of whose disk a call failed: it is down, and where an entry was appended by it, whether that is on the
-- disk isn't known
abbrev pub broken : Site → Option Entry → Site
broken site entry =
    record { journal = site.journal; up = false; interrupted = entry; screens = site.screens; waiting = site.waiting }

-- A turn that was planned so, as it went with this cut. What is due is put where all was done, or other frames are, as
-- many as the links have room for; else nothing is. Where a read failed, all frames were handled and the pairs before
-- that one decided, or all where it was for a letter, and no entry is interrupted.
abbrev pub cut_turn : Trade → ℕ → (ℕ → ℕ) → Site → List Step → Cut → Turned
cut_turn trade provider rooms site steps Whole = record {
  site = behind site steps (length steps);
  events = events_of steps;
  out = puts_from trade provider (site.journal ++ entries_of steps) rooms (owed_of steps) 0 trade.providers;
  ended = None;
}
cut_turn trade provider rooms site steps (Fails number fault) =
    record (stopped site steps number fault) {
      site = broken (behind site (take number steps) (number + 1)) (entry_at steps number);
    }
cut_turn trade provider rooms site steps (Full number) = stopped site steps number faults.JournalFull
cut_turn trade provider rooms site steps (Stops number) = stopped site steps number faults.NoMemory
cut_turn trade provider rooms site steps (Unread number fault) =
    record (stopped site steps number fault) { site = broken (behind site (take number steps) (number + 1)) None }
cut_turn trade provider rooms site steps (Other out) = record {
  site = behind site steps (length steps);
  events = events_of steps;
  out = that_fit rooms 0 out;
  ended = None;
}
cut_turn trade provider rooms site steps (Sees looks cut) = cut_turn trade provider rooms site steps cut

-- ---- turns

-- a turn that didn't begin
abbrev pub not_begun : Site → ProviderFault → Turned
not_begun site fault = record { site = site; events = []; out = []; ended = Some fault }

-- the greatest moment of a journal, in seconds
abbrev pub last_of : Trade → ℕ → List Entry → ℕ
last_of trade provider journal = (half trade provider journal).last

-- The steps of a provider's turn at a moment, as it goes with a cut.
abbrev pub steps_of : Trade → ℕ → ℕ → Site → Cut → List Step
steps_of trade provider now site cut =
    plan trade provider now (looks_by trade provider site.screens cut) site.journal (frames_in site.waiting)

-- The turn of a provider at a moment: it takes and puts nothing where it is down or the clock is behind its journal.
unfoldable pub turned : Trade → ℕ → ℕ → (ℕ → ℕ) → Cut → Site → Turned
turned trade provider now rooms cut site =
    if site.up
    then (if nat_lt now (last_of trade provider site.journal)
    then not_begun site (faults.ClockBack (last_of trade provider site.journal))
    else cut_turn trade provider rooms site (steps_of trade provider now site cut) cut)
    else not_begun site faults.Down
