-- How a run goes, act by act: each act that was done is a step, with the state behind it. `Goes` says that these acts
-- were done one after another, from one point to another, or as many of them as came before the run was stopped or
-- strayed. It composes; `Climbs` is what a loop over acts keeps; and `IsScriptPlayed` is what acts come to that are a
-- script. `AllMoments` says what a crash may leave of disks at any moment of it. This project's profile.
use Rattle.std.specs.Prelude.{◌≡◌, ◌≢◌, ◌⊎◌, ℕ, ◌≤◌, List, [], ◌∷◌, ◌++◌, map, Option, None, Some}
use Rattle.pec_types.specs.Bytes.{Bytes}
use Rattle.pec_outside.specs.DiskModel.{LeavesOnly, Sight}
use Rattle.pec_outside.specs.Flow.{HasRisen, WrotePart, followed_by}
use Rattle.pec_chronicle.specs.Carrying.{FollowsSo}
use Rattle.pec_chronicle.specs.Chronicle.{ChronicleState, Stands}
use Rattle.pec_directory.specs.Directory.{Provider}
use Rattle.pec_ledger.specs.Network.{Site, Sound, interrupted_at, journal_at}
use Rattle.pec_ledger.specs.Trade.{Trade}
use Rattle.pec_plays.specs.Commands.{Command, Luck, played}
use Rattle.pec_plays.specs.Possible.{GaveWhatWasKept, MayMeet}
use Rattle.pec_plays.specs.Scripts.{HandsIn}
use Rattle.pec_screen.specs.Verdicts.{Patterns}
use Rattle.pec_runs.specs.AnswerLines.{answer_text}
use Rattle.pec_runs.specs.Endings.{End, end_text}
use Rattle.pec_runs.specs.Openings.{NoMore}
use Rattle.pec_runs.specs.Plays.{HasMemory, MayPlay, MayStray, Rest, RoseBy, ShowsItsOwn, Strayed, UnchangedIn, faults_by, outcome_from, spares_left}
use Rattle.pec_runs.specs.Ran.{LeavesOff, Tells, command_in_hand}
use Rattle.pec_runs.specs.ScriptLines.{Script}
use Rattle.pec_runs.specs.Statuses.{Status, status_of}
use Rattle.pec_runs.specs.Statuses as statuses

-- ---- acts

-- What a run does: it plays a command and writes the lines of its answer; it plays one that is answered elsewhere; or
-- it writes.
pub data Act : Type 0 where
  Plays : (command : Command) → Act
  Hands : (command : Command) → Act
  Writes : (text : Bytes) → Act

-- the command that the first of these acts plays
abbrev pub next_of : List Act → Option Command
next_of [] = None
next_of (Plays command ∷ acts) = Some command
next_of (Hands command ∷ acts) = Some command
next_of (Writes text ∷ acts) = None

-- The acts of a script: its commands are played, and then its last line is written.
abbrev pub acts_of_script : List Provider → Script → List Act
acts_of_script providers script = map Plays script.commands ++ Writes (end_text providers script.end) ∷ []

-- ---- steps

-- A network between two acts: its state; the patterns of the spares that are left; and by provider the count of faults
-- of its disk, and its entries over it.
pub record State (D : Type 0) : Type 0 where
  pub sites : List Site
  pub spares : List Patterns
  pub counts : ℕ → ℕ
  pub chronicles : ℕ → Option (ChronicleState D)

-- An act that was done, with what devices did in it, and the network behind it.
pub record Step (D : Type 0) : Type 0 where
  pub act : Act
  pub luck : Luck
  pub behind : State D

-- a command's luck before others; an act without a command has none
abbrev pub luck_before : Act → Luck → List Luck → List Luck
luck_before (Plays command) luck lucks = luck ∷ lucks
luck_before (Hands command) luck lucks = luck ∷ lucks
luck_before (Writes text) luck lucks = lucks

module _ {D : Type 0} where
  -- the network behind steps
  abbrev pub state_behind : State D → List (Step D) → State D
  state_behind here [] = here
  state_behind here (step ∷ steps) = state_behind step.behind steps

  -- their acts
  abbrev pub acts_of : List (Step D) → List Act
  acts_of steps = map (λ (step : Step D). step.act) steps

  -- the lucks of the commands that steps played
  abbrev pub lucks_in : List (Step D) → List Luck
  lucks_in [] = []
  lucks_in (step ∷ steps) = luck_before step.act step.luck (lucks_in steps)

-- A command takes the last spare where it asks for one, and these spares are left behind its answer.
pub record IsHanded (trade : Trade) (spares : List Patterns) (sites : List Site) (command : Command) (luck : Luck)
    (left : List Patterns) : Type 0 where
  pub last : HandsIn spares command
  pub behind : left ≡ spares_left spares command (played trade luck sites command).answer

module _ (trade : Trade) (tells : Type 0) where
  -- A command was played from a state to another, with a luck that it may meet. No turn that is told ended for want of
  -- memory, and each fault that is told of a disk raised that disk's count. Where disks tell what they hold, what was
  -- read is what was kept: no frame was put and no item shown in place of another, and from a Sound state no entry is
  -- told as changed.
  pub record IsCall (sites : List Site) (from upto : ℕ → ℕ) (command : Command) (luck : Luck) (after : List Site)
      : Type 0 where
    pub meet : MayMeet trade luck sites command
    pub memory : HasMemory (played trade luck sites command).answer
    pub counts : (provider : ℕ)
        → RoseBy (faults_by trade provider command (played trade luck sites command).answer) (from provider)
        (upto provider)
    pub state : after ≡ (played trade luck sites command).after
    pub kept : tells → GaveWhatWasKept luck
    pub shown : tells → ShowsItsOwn luck
    pub unchanged : tells → UnchangedIn trade sites (played trade luck sites command).answer

  module _ {D : Type 0} where
    -- The act was done from here.
    abbrev pub IsStep : State D → Act → Luck → State D → Type 0
    IsStep here (Plays command) luck behind =
        IsCall here.sites here.counts behind.counts command luck behind.sites
        × IsHanded trade here.spares here.sites command luck behind.spares
    IsStep here (Hands command) luck behind =
        IsCall here.sites here.counts behind.counts command luck behind.sites
        × IsHanded trade here.spares here.sites command luck behind.spares
    IsStep here (Writes text) luck behind = behind ≡ here

    -- Each was done from the network behind those before it.
    abbrev pub AreSteps : State D → List (Step D) → Type 0
    AreSteps here [] = Unit {0}
    AreSteps here (step ∷ steps) = IsStep here step.act step.luck step.behind × AreSteps step.behind steps

module _ (trade : Trade) where
  -- the lines that are written of an act
  abbrev pub text_by : List Provider → List Site → Act → Luck → Bytes
  text_by providers sites (Plays command) luck = answer_text providers (played trade luck sites command).answer
  text_by providers sites (Hands command) luck = []
  text_by providers sites (Writes text) luck = text

  module _ {D : Type 0} where
    -- all that is written of steps
    abbrev pub text_of : List Provider → State D → List (Step D) → Bytes
    text_of providers here [] = []
    text_of providers here (step ∷ steps) =
        text_by providers here.sites step.act step.luck ++ text_of providers step.behind steps

-- ---- moments

-- The entries that are kept of providers are those that the ledger sees.
abbrev pub AreSeen : {D : Type 0} → State D → Type 0
AreSeen {D} here =
    (provider : ℕ) (one : ChronicleState D) → here.chronicles provider ≡ Some one
    → (journal_at here.sites provider ≡ one.entries) × (interrupted_at here.sites provider ≡ one.interrupted)

-- Each provider's count of faults is that of the disk that it stands over.
abbrev pub AreCounted : {D : Type 0} → (D → ℕ) → State D → Type 0
AreCounted {D} faults here =
    (provider : ℕ) (one : ChronicleState D) → here.chronicles provider ≡ Some one
    → here.counts provider ≡ faults one.disk

-- So it is behind each of these steps.
abbrev pub AllCounted : {D : Type 0} → (D → ℕ) → List (Step D) → Type 0
AllCounted faults [] = Unit {0}
AllCounted faults (step ∷ steps) = AreCounted faults step.behind × AllCounted faults steps

module _ (trade : Trade) {D : Type 0} (sight : D → Sight) where
  -- A provider's entries over its disk, and what they were in a state: where these stood on the disk those stand there
  -- again, and at any moment between a crash leaves of the disk the journal of a list that follows the state.
  pub record CameFrom (sites : List Site) (provider : ℕ) (before : Option (ChronicleState D)) (now : ChronicleState D)
      : Type 0 where
    pub was : ChronicleState D
    pub is : before ≡ Some was
    pub stands : Stands sight was → Stands sight now
    pub moments : Stands sight was → LeavesOnly (sight was.disk) (sight now.disk) (FollowsSo trade sites provider)

  -- So each provider's came from a state, where that is Sound.
  pub record Moments (here there : State D) : Type 0 where
    pub seen : AreSeen there
    pub came : Sound trade here.sites → (provider : ℕ) (now : ChronicleState D) → there.chronicles provider ≡ Some now
        → CameFrom here.sites provider (here.chronicles provider) now

  -- From a state to another: nothing was done, and the disks are the same ones; or they went through such moments.
  abbrev pub IsMoment : State D → State D → Type 0
  IsMoment here there = (there ≡ here) ⊎ Moments here there

  -- So it is from each step to the next.
  abbrev pub AreMoments : State D → List (Step D) → Type 0
  AreMoments here [] = Unit {0}
  AreMoments here (step ∷ steps) = IsMoment here step.behind × AreMoments step.behind steps

  -- So it is along all steps, and from the last of them to where the run stopped.
  pub record AllMoments (here there : State D) (steps : List (Step D)) : Type 0 where
    pub each : AreMoments here steps
    pub last : IsMoment (state_behind here steps) there

-- ---- how a run goes

-- What stops a run on its way: its input or its output failed, or memory ran out.
pub data Stop : Type 0 where
  ReadFault : Stop
  WriteFault : Stop
  NoMemory : Stop

-- Where a run stands: its network, what its output holds where that is told, and the output's count of faults.
pub record Point (D : Type 0) : Type 0 where
  pub state : State D
  pub held : Option Bytes
  pub faults : ℕ

-- no count fell
pub record NoneFell {D : Type 0} (here there : Point D) : Type 0 where
  pub disks : (provider : ℕ) → here.state.counts provider ≤ there.state.counts provider
  pub output : here.faults ≤ there.faults

module _ {D : Type 0} where
  -- These bytes were written from here to there, or a front of them where the output failed.
  abbrev pub IsWritten : Bytes → Point D → Point D → Option Stop → Type 0
  IsWritten text here there None = there.held ≡ followed_by here.held text
  IsWritten text here there (Some WriteFault) =
      WrotePart here.held there.held text × HasRisen here.faults there.faults
  IsWritten text here there (Some ReadFault) = ⊥
  IsWritten text here there (Some NoMemory) = ⊥

module _ (trade : Trade) (providers : List Provider) (tells : Type 0) {D : Type 0} (sight : D → Sight) where
  -- How it ends behind the steps that were done, with these acts left: none is left; or the output failed, and a front
  -- of their lines was written; or, with an act left, the input failed, or memory ran out. Where memory ran out that act
  -- may have been played, in whole or in part.
  abbrev pub EndsSo : State D → Bytes → List Act → Option Bytes → Point D → Option Stop → Type 0
  EndsSo behind text left before there None =
      (left ≡ []) × (there.state ≡ behind) × (there.held ≡ followed_by before text)
  EndsSo behind text left before there (Some WriteFault) = (there.state ≡ behind) × WrotePart before there.held text
  EndsSo behind text left before there (Some ReadFault) =
      (left ≢ []) × (there.state ≡ behind) × (there.held ≡ followed_by before text)
  EndsSo behind text left before there (Some NoMemory) =
      (left ≢ []) × LeavesOff trade behind.sites (next_of left) there.state.sites
      × (there.held ≡ followed_by before text)

  -- Behind the steps that were done the run strayed: of what came then, all that is known is that more may have been
  -- written.
  pub record GoesAstray (behind : State D) (text : Bytes) (left : List Act) (before : Option Bytes) (there : Point D)
      : Type 0 where
    pub strays : MayStray tells behind.sites (next_of left)
    pub more : Bytes
    pub held : there.held ≡ followed_by before (text ++ more)

-- `faults` is the count of faults that a disk itself tells.
module _ (trade : Trade) (providers : List Provider) (tells : Type 0) {D : Type 0} (sight : D → Sight)
    (faults : D → ℕ) where
  -- A run went from here to there by these acts: all were done one after another, or some, and then it was stopped so;
  -- or it strayed. The output is blamed only where its count of faults rose. Behind each step the counts of faults are
  -- those of the disks, where they were as it began.
  pub record Goes (acts : List Act) (here there : Point D) (stop : Option Stop) : Type 0 where
    pub steps : List (Step D)
    pub left : List Act
    pub acts_are : acts_of steps ++ left ≡ acts
    pub each : AreSteps trade tells here.state steps
    pub counted : AreCounted faults here.state → AllCounted faults steps
    pub moments : tells → AllMoments trade sight here.state there.state steps
    pub ends :
        EndsSo trade providers tells sight (state_behind here.state steps) (text_of trade providers here.state steps)
        left here.held there stop
        ⊎ GoesAstray trade providers tells sight (state_behind here.state steps)
        (text_of trade providers here.state steps) left here.held there
    pub since : (provider : ℕ) → (state_behind here.state steps).counts provider ≤ there.state.counts provider
    pub later : NoneFell here there
    pub blame : stop ≡ Some WriteFault → HasRisen here.faults there.faults

  -- How far a loop over acts is: some are done, and these are left.
  pub record Climbs (acts left : List Act) (first here : Point D) : Type 0 where
    pub done : List Act
    pub acts_are : done ++ left ≡ acts
    pub goes : Goes done first here None

  -- ---- scripts

  -- A script was played from here to there, with this status: by steps, to an outcome that may be, of which so much was
  -- written; and it left this state, where disks tell what they hold, and wherever it didn't stray.
  -- What was written is a front of the lines of the steps.
  pub record IsScriptPlayed (script : Script) (status : Status) (here there : Point D) : Type 0 where
    pub steps : List (Step D)
    pub unplayed : List Act
    pub acts_are : acts_of steps ++ unplayed ≡ acts_of_script providers script
    pub each : AreSteps trade tells here.state steps
    pub counted : AreCounted faults here.state → AllCounted faults steps
    pub moments : tells → AllMoments trade sight here.state there.state steps
    pub since : (provider : ℕ) → (state_behind here.state steps).counts provider ≤ there.state.counts provider
    pub rest : Rest
    pub may : MayPlay trade tells here.state.spares here.state.sites here.state.counts there.state.counts script
        (lucks_in steps) rest
    pub told : Tells providers status here.held there.held
        (outcome_from trade (lucks_in steps) rest here.state.sites script)
    pub written : tells → WrotePart here.held there.held (text_of trade providers here.state steps)
    pub left : List Site
    pub leaves_off : LeavesOff trade (outcome_from trade (lucks_in steps) rest here.state.sites script).after
        (command_in_hand status NoMore rest (lucks_in steps) script) left
    pub is_left : tells → left ≡ there.state.sites
    pub stays : rest ≢ Strayed → left ≡ there.state.sites

-- the status of a run that was stopped so
abbrev pub stopped_status : Stop → Status
stopped_status ReadFault = statuses.ReadFault
stopped_status WriteFault = statuses.WriteFault
stopped_status NoMemory = statuses.NoMemory

-- the status of a script that came to its end, or was stopped so
abbrev pub status_by : End → Option Stop → Status
status_by end None = status_of end
status_by end (Some stop) = stopped_status stop
