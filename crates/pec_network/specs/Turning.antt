-- A provider's turn, as its calls make it: how it goes from one place to another (`Leads`), how it ends (`Ends`), what
-- it puts behind all steps (`Puts`), and what it was (`Took`). This project's profile.
use Rattle.std.specs.Prelude.{◌≡◌, ◌≢◌, ◌⊎◌, ℕ, ◌≤◌, nat_lt, true, false, List, [], ◌∷◌, ◌++◌, length, take, slice_index_or, IsTrue}
use Rattle.std.specs.Prelude.{Option, Some, None, Err}
use Rattle.pec_types.specs.Bytes.{Bytes}
use Rattle.pec_types.specs.Message.{Id}
use Rattle.pec_types.specs.declared.messages.Decision.{Decision}
use Rattle.pec_types.specs.declared.turns.Event.{Event}
use Rattle.pec_types.specs.declared.turns.ProviderFault.{ProviderFault}
use Rattle.pec_types.specs.declared.turns.ProviderFault.TheVariants as faults
use Rattle.pec_types.specs.declared.turns.Turn.{Turn}
use Rattle.pec_records.specs.declared.entries.Entry.{Entry}
use Rattle.pec_records.specs.declared.entries.Entry.TheVariants as entries
use Rattle.pec_outside.specs.DiskModel.{Sight}
use Rattle.pec_ledger.specs.Ledger.{Fit, Journals}
use Rattle.pec_ledger.specs.Network.{AreGenuine, Site}
use Rattle.pec_ledger.specs.Trade.{Trade}
use Rattle.pec_plays.specs.Decisions.{Looks, kept_looks}
use Rattle.pec_plays.specs.Possible.{HaveRoom, IsOfKept, IsOfRead, MayCut, TellsCut}
use Rattle.pec_plays.specs.Rounds.{sent_from}
use Rattle.pec_plays.specs.Steps.{Step}
use Rattle.pec_plays.specs.Turns.{Cut, Other, Sees, Turned, behind, entries_of, events_of, frames_in, last_of}
use Rattle.pec_plays.specs.Turns.{owed_of, plan, steps_of, turned, without_first}
use Rattle.pec_chronicle.specs.Carrying.{CarriesOn}
use Rattle.pec_chronicle.specs.Chronicle.{ChronicleState}
use Rattle.pec_provider.specs.Following.{MayFollow}
use Rattle.pec_provider.specs.Provider.{Desk, stopped}
use Rattle.pec_provider.specs.Reading.{HasStopped}
use Rattle.pec_provider.specs.Working.{Does}
use Rattle.pec_screen.specs.Verdicts.{Patterns}

-- the frames that wait for a provider, a list for each sender
abbrev pub Waiting : Type 0
Waiting = List (List Bytes)

-- a desk behind steps
abbrev pub done : Desk → List Step → Desk
done desk steps = record {
  journal = desk.journal ++ entries_of steps;
  owed = desk.owed ++ owed_of steps;
  up = desk.up;
  interrupted = desk.interrupted;
}

-- the room on a link, of rooms in the order of providers
abbrev pub room_in : List ℕ → ℕ → ℕ
room_in rooms to = slice_index_or rooms to 0

-- ---- turns

-- frames that are put in place of those that are due are for so many providers at most
abbrev pub IsForFew : ℕ → Cut → Type 0
IsForFew count (Other out) = length out ≤ count
IsForFew count (Sees looks cut) = IsForFew count cut
IsForFew count cut = Unit {0}

-- It isn't told that an entry isn't what a letter is composed of, where these are the provider's entries in journals
-- that are Fit.
abbrev pub NoneIsChanged : Trade → ℕ → List Entry → Option ProviderFault → Type 0
NoneIsChanged trade me entries ended =
    (journals : Journals) → Fit trade journals → journals me ≡ entries → (number : ℕ) → ended ≢ Some (faults.Changed number)

-- A turn was this one: it was cut so, as it tells, and it may be cut so. `Stood` says when its disk gave back what it
-- took; then its screens looked at what was taken, no other frames were put than those that were due, and no entry is
-- told as changed.
pub record Took (Stood : Type 0) (trade : Trade) (me now : ℕ) (rooms : ℕ → ℕ) (old : Site) (turn : Turned) : Type 0 where
  pub cut : Cut
  pub tells : TellsCut turn.ended (length turn.events) cut
  pub is : turned trade me now rooms cut old ≡ turn
  pub may : old.up ≡ true → nat_lt now (last_of trade me old.journal) ≡ false
      → MayCut trade me (steps_of trade me now old cut) cut
  pub kept : Stood → IsOfKept cut
  pub unchanged : Stood → NoneIsChanged trade me turn.site.journal turn.ended
  pub few : IsForFew trade.providers cut

-- What a provider puts behind all its steps, where these frames are due: those, or others where its disk may have given
-- back other bytes than it took, no more than the links have room for. Or a read failed: it puts nothing and is down,
-- and no entry is interrupted.
abbrev pub Puts : Type 0 → List (List Bytes) → (ℕ → ℕ) → Desk → Desk → Option ProviderFault → List (List Bytes) → Type 0
Puts Stood due rooms old new None out =
    (new ≡ old) × (Stood → out ≡ due) × (length out ≡ length due)
    × ((to : ℕ) → length (slice_index_or out to []) ≤ rooms to)
Puts Stood due rooms old new (Some fault) out =
    (new ≡ stopped old) × (old.interrupted ≡ None) × IsOfRead fault × (out ≡ [])

-- Some steps of a turn were done, in which screens found so, and some frames are gone. They found what the provider's own
-- screens find in what was taken, unless the disk gave back something else: `Stood` says when it gave back what it took.
pub record IsFront (Stood : Type 0) (trade : Trade) (me now : ℕ) (old new : Site) : Type 0 where
  pub looks : Looks
  pub kept : (looks ≡ kept_looks trade me old.screens) ⊎ (Stood → ⊥)
  pub steps : ℕ
  pub frames : ℕ
  pub is : new ≡ behind old (take steps (plan trade me now looks old.journal (frames_in old.waiting))) frames

-- In a turn that had begun memory ran out: what was done is a front of it.
pub record StopsShort (Stood : Type 0) (trade : Trade) (me now : ℕ) (old new : Site) : Type 0 where
  pub up : old.up ≡ true
  pub in_time : last_of trade me old.journal ≤ now
  pub front : IsFront Stood trade me now old new

-- a turn, of what is told of it and what was put
abbrev pub turn_of : Site → Turn → List (List Bytes) → Turned
turn_of site turn out = record { site = site; events = turn.events; out = out; ended = turn.ended }

-- what is told of a turn
abbrev pub told_of : ℕ → Turned → Turn
told_of me turn = record { provider = me; events = turn.events; sent = sent_from 0 turn.out; ended = turn.ended }

-- ---- within a turn

-- The step decides a pair whose recipient is an account of the provider, and the provider was up, with no interrupted
-- entry, and is down: a read of the envelope failed, or gave what was never kept so.
pub record StopsAt (trade : Trade) (me : ℕ) (step : Step) (old new : Desk) : Type 0 where
  pub moment : ℕ
  pub id : Id
  pub recipient : Bytes
  pub decision : Decision
  pub entry : step.entry ≡ Some (entries.Decided moment id recipient decision)
  pub account : IsTrue (trade.is_account me recipient)
  pub stops : HasStopped old new

-- How a step wasn't done: the append of its entry failed, the read before it did, or the journal had no room for its
-- entry.
abbrev pub IsNotDone : Trade → ℕ → Step → Desk → Desk → ProviderFault → Type 0
IsNotDone trade me step old new faults.DiskFault = Does step old new (Err faults.DiskFault) ⊎ StopsAt trade me step old new
IsNotDone trade me step old new (faults.Changed number) = StopsAt trade me step old new
IsNotDone trade me step old new faults.JournalFull = Does step old new (Err faults.JournalFull)
IsNotDone trade me step old new _ = ⊥

-- `Stood` says when the disk gave back what it took, and `screens` are the patterns of the provider's screens.
module _ (Stood : Type 0) (trade : Trade) (me now : ℕ) (screens : List Patterns) where
  -- the plan from a place of a turn on, by what is found from there on
  abbrev pub plan_at : Looks → Desk → Waiting → List Step
  plan_at looks desk left = plan trade me now looks desk.journal (frames_in left)

  -- and where its screens look at what was taken
  abbrev pub honest_plan : Desk → Waiting → List Step
  honest_plan desk left = plan_at (kept_looks trade me screens) desk left

  -- From a place of a turn these steps were done, for whose entries the journal had room, and they led to another
  -- place. The rest of the plan is the plan from there, whatever is found from there on.
  pub record Leads (desk : Desk) (left : Waiting) (events : List Event) (later : Desk) (less : Waiting) (more : List Event)
      : Type 0 where
    pub steps : List Step
    -- what is found, by what is found from the later place on
    pub sees : Looks → Looks
    pub whole : (ahead : Looks) → plan_at (sees ahead) desk left ≡ steps ++ plan_at ahead later less
    -- that is what screens find in what was taken, unless the disk gave back something else
    pub honest : (honest_plan desk left ≡ steps ++ honest_plan later less) ⊎ (Stood → ⊥)
    pub room : HaveRoom steps
    pub here : later ≡ done desk steps
    pub gone : less ≡ without_first (length steps) left
    pub told : more ≡ events ++ events_of steps

  -- The next step from a place wasn't done, for a cause.
  pub record IsBroken (desk : Desk) (left : Waiting) (fault : ProviderFault) (later : Desk) (less : Waiting) : Type 0 where
    pub step : Step
    pub looks : Looks
    pub rest : List Step
    pub next : plan_at looks desk left ≡ step ∷ rest
    pub honest : ((others : List Step) × (honest_plan desk left ≡ step ∷ others)) ⊎ (Stood → ⊥)
    pub gone : less ≡ without_first 1 left
    pub not_done : IsNotDone trade me step desk later fault
    pub unchanged : Stood → NoneIsChanged trade me later.journal (Some fault)

  -- Nothing more was done from a place, for a cause. The turn had begun while the provider was at work, so want of
  -- memory, a full journal, a fault of the disk and an entry that isn't what a pair is decided by are the causes.
  abbrev pub Breaks : Desk → Waiting → ProviderFault → Desk → Waiting → Type 0
  Breaks desk left faults.NoMemory later less = (later ≡ desk) × (frames : ℕ) × (less ≡ without_first frames left)
  Breaks desk left faults.DiskFault later less = IsBroken desk left faults.DiskFault later less
  Breaks desk left (faults.Changed number) later less = IsBroken desk left (faults.Changed number) later less
  Breaks desk left faults.JournalFull later less = IsBroken desk left faults.JournalFull later less
  Breaks desk left _ later less = ⊥

  -- From a place of a turn steps were done, and then the turn ended, for a cause.
  pub record Ends (desk : Desk) (left : Waiting) (events : List Event) (fault : ProviderFault) (later : Desk) (less : Waiting)
      (more : List Event) : Type 0 where
    pub last : Desk
    pub waits : Waiting
    pub leads : Leads desk left events last waits more
    pub breaks : Breaks last waits fault later less

module _ (trade : Trade) (me now : ℕ) where
  -- From old entries to new ones a provider carries on where the frames that wait are genuine, and then those that are
  -- left are.
  abbrev pub CarriesFrames : {D : Type 0} → (D → Sight) → ChronicleState D → Waiting → ChronicleState D → Waiting → Type
      0
  CarriesFrames sight old waiting new left =
      (journals : Journals) → Fit trade journals → AreGenuine trade journals (frames_in waiting)
      → CarriesOn sight (MayFollow trade journals me) old new × AreGenuine trade journals (frames_in left)
