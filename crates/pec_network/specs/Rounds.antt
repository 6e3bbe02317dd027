-- What a round of a network is: it was played, with cuts that its turns tell (`IsRound`), or memory ran out within it
-- (`StopsWithin`, `StopsOver`). This project's profile.
use Rattle.std.specs.Prelude.{◌≡◌, ◌≢◌, ℕ, ◌<◌, ◌≤◌, false, List, [], length, map, slice_get, slice_index_or}
use Rattle.std.specs.Prelude.{All, Some, None}
use Rattle.pec_types.specs.declared.turns.ProviderFault.TheVariants as faults
use Rattle.pec_types.specs.declared.turns.Turn.{Turn}
use Rattle.pec_ledger.specs.Ledger.{Journals}
use Rattle.pec_ledger.specs.Network.{AreGenuine, Site, Sound, interrupted_at, journal_at, site_at}
use Rattle.pec_ledger.specs.Trade.{Trade}
use Rattle.pec_plays.specs.Commands.{Luck, Round, Turns, played}
use Rattle.pec_plays.specs.Possible.{GaveWhatWasKept, MayMeet, TellsCut}
use Rattle.pec_plays.specs.Scripts.{put_instead}
use Rattle.pec_plays.specs.Rounds.{link_size}
use Rattle.pec_plays.specs.Turns.{Cut, frames_in}
use Rattle.pec_posts.specs.Arrivals.{Waiting, room_on, waiting_from}
use Rattle.pec_provider.specs.Provider.{ProviderState}
use Rattle.pec_network.specs.Changing.{HasRisenAt}

-- ---- rounds

-- The turns of a round were cut so, and nothing else could fail in it.
abbrev pub luck_of_cuts : (ℕ → Cut) → Luck
luck_of_cuts cuts = record { cuts = cuts; fails = false; found = false; read = None; shown = None }

-- No turn ended for an entry that isn't what a letter is composed of.
abbrev pub NoneChanged : List Turn → Type 0
NoneChanged turns = All (λ (turn : Turn). (number : ℕ) → turn.ended ≢ Some (faults.Changed number)) turns

-- No turn put other frames in place of those that were due.
abbrev pub PutsNothingInstead : Luck → Type 0
PutsNothingInstead luck = (provider : ℕ) → put_instead (luck.cuts provider) ≡ None

-- A round was played, and told so: each turn was cut so, as it tells and as it may be cut. `Stood` says when all disks
-- gave back what they took; then no turn put other frames than those that were due, and from a Sound state no entry is
-- told as changed.
pub record IsRound (Stood : Type 0) (trade : Trade) (moment : ℕ) (old : List Site) (turns : List Turn) (new : List Site)
    : Type 0 where
  pub cuts : ℕ → Cut
  pub tells : (number : ℕ) (turn : Turn) → slice_get turns number ≡ Some turn
      → TellsCut turn.ended (length turn.events) (cuts number)
  pub is : played trade (luck_of_cuts cuts) old (Round moment) ≡ record { answer = Turns turns; after = new }
  pub may : MayMeet trade (luck_of_cuts cuts) old (Round moment)
  pub kept : Stood → GaveWhatWasKept (luck_of_cuts cuts)
  pub unchanged : Stood → Sound trade old → NoneChanged turns
  pub memory : All (λ (turn : Turn). turn.ended ≢ Some faults.NoMemory) turns

-- Memory ran out within a round: each provider has the entries of a front of its turn, as with this luck, in which no turn
-- puts other frames than those that are due.
pub record StopsWithin (trade : Trade) (moment : ℕ) (old new : List Site) : Type 0 where
  pub luck : Luck
  pub instead : PutsNothingInstead luck
  pub journals : (provider : ℕ)
      → journal_at new provider ≡ journal_at (played trade luck old (Round moment)).after provider
  pub interrupted : (provider : ℕ)
      → interrupted_at new provider ≡ interrupted_at (played trade luck old (Round moment)).after provider

-- So it was over these disks: where all gave back what they took, which `Stood` says, screens looked at what was taken.
abbrev pub StopsOver : Type 0 → Trade → ℕ → List Site → List Site → Type 0
StopsOver Stood trade moment old new =
    (stops : StopsWithin trade moment old new) × (Stood → GaveWhatWasKept stops.luck)

-- ---- what is asked and told of disks

-- The frames that wait are genuine in these journals.
abbrev pub FramesAreGenuine : Trade → Journals → List Site → Type 0
FramesAreGenuine trade journals sites = (to : ℕ) → AreGenuine trade journals (frames_in (site_at sites to).waiting)

-- A turn that ended by a fault of its disk is told only where the count of that provider's disk rose.
abbrev pub BlamesDisks : {D : Type 0} → (D → ℕ) → List Turn → List (ProviderState D) → List (ProviderState D) → Type 0
BlamesDisks {D} count turns old new =
    (provider : ℕ) (turn : Turn) → slice_get turns provider ≡ Some turn → turn.ended ≡ Some faults.DiskFault
    → HasRisenAt count provider old new

-- ---- within a round

-- A round keeps a state Sound, where no turn puts other frames than those that are due.
abbrev pub KeepsSound : Trade → ℕ → List Site → Type 0
KeepsSound trade moment old =
    (luck : Luck) → PutsNothingInstead luck → Sound trade old → Sound trade (played trade luck old (Round moment)).after

-- How many more frames the links from each sender hold, by the provider for which they wait; no link holds more than it
-- may.
pub record AreRooms (senders : ℕ) (arrivals : List Waiting) (rooms : List (List ℕ)) : Type 0 where
  pub count : length rooms ≡ senders
  pub is : (from : ℕ) → from < senders → slice_index_or rooms from [] ≡ map (room_on from) arrivals
  pub short : (from : ℕ) → from < senders
      → All (λ (links : Waiting). length (waiting_from links from) ≤ link_size) arrivals
