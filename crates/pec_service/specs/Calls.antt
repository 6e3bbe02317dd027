-- Commands that a service plays, one after another, each with what devices did in it: `AreCalls`; and what a run comes to
-- that goes by clock calls: `ClockWent`. This project's profile.
use Rattle.std.specs.Prelude.{◌≡◌, ℕ, zero, suc, ◌+◌, ◌≤◌, List, [], ◌∷◌, ◌++◌, map, slice_get, Option, None, Some}
use Rattle.std.specs.List.{AllByRecursion}
use Rattle.pec_types.specs.Bytes.{Bytes}
use Rattle.pec_outside.specs.DiskModel.{Sight}
use Rattle.pec_outside.specs.Flow.{WrotePart, followed_by}
use Rattle.pec_directory.specs.Directory.{Provider}
use Rattle.pec_ledger.specs.Network.{Site}
use Rattle.pec_ledger.specs.Trade.{Trade}
use Rattle.pec_plays.specs.Commands.{Answer, Command, Luck, Round, Tick, played}
use Rattle.pec_plays.specs.Possible.{GaveWhatWasKept}
use Rattle.pec_plays.specs.Scripts.{IsUnforged}
use Rattle.pec_runs.specs.AnswerLines.{answer_text}
use Rattle.pec_runs.specs.Moves.{Moves, MovesOn}
use Rattle.pec_runs.specs.Ran.{LeavesOff}
use Rattle.pec_runs.specs.Steps.{Act, Hands, Plays, Point, Step, Stop, Writes}
use Rattle.pec_runs.specs.Steps as steps

-- A network between two commands: its state, and the counts of faults of its disks.
pub record State : Type 0 where
  pub sites : List Site
  pub counts : ℕ → ℕ

-- a command that was played with a luck, and the network behind it
pub record Call : Type 0 where
  pub command : Command
  pub luck : Luck
  pub behind : State

-- the network behind calls
abbrev pub state_behind : State → List Call → State
state_behind here [] = here
state_behind here (call ∷ calls) = state_behind call.behind calls

abbrev pub commands_of : List Call → List Command
commands_of calls = map (λ (call : Call). call.command) calls

abbrev pub lucks_of : List Call → List Luck
lucks_of calls = map (λ (call : Call). call.luck) calls

module _ (trade : Trade) where
  abbrev pub answer_of : List Site → Call → Answer
  answer_of sites call = (played trade call.luck sites call.command).answer

module _ (trade : Trade) (tells : Type 0) where
  -- The command was played from here, with a luck that it may meet (`IsCall` of pec_runs).
  abbrev pub IsCall : State → Call → Type 0
  IsCall here call =
      steps.IsCall trade tells here.sites here.counts call.behind.counts call.command call.luck call.behind.sites

  -- Each was played from the network behind those before it.
  abbrev pub AreCalls : State → List Call → Type 0
  AreCalls here [] = Unit {0}
  AreCalls here (call ∷ calls) = IsCall here call × AreCalls call.behind calls

module _ (trade : Trade) where
  -- the lines of their answers
  abbrev pub calls_text : List Provider → State → List Call → Bytes
  calls_text providers here [] = []
  calls_text providers here (call ∷ calls) =
      answer_text providers (answer_of trade here.sites call) ++ calls_text providers call.behind calls

-- The clock calls of so many providers, from this one on, and one round.
abbrev pub clock_from : ℕ → ℕ → ℕ → List Command
clock_from zero provider moment = Round moment ∷ []
clock_from (suc more) provider moment = Tick provider moment ∷ clock_from more (provider + 1) moment

-- each may come, in whichever state, where each turn puts what is due
abbrev pub AllMayCome : Trade → List Command → Type 0
AllMayCome trade due = AllByRecursion
    (λ (command : Command). (luck : Luck) (sites : List Site) → GaveWhatWasKept luck
    → IsUnforged trade luck sites command)
    due

-- ---- steps of a run

-- a network as a service sees it, without its disks
abbrev pub seen : {D : Type 0} → steps.State D → State
seen state = record { sites = state.sites; counts = state.counts }

-- the call of an act before others
abbrev pub call_before : Act → Luck → State → List Call → List Call
call_before (Plays command) luck behind calls = record { command = command; luck = luck; behind = behind } ∷ calls
call_before (Hands command) luck behind calls = record { command = command; luck = luck; behind = behind } ∷ calls
call_before (Writes text) luck behind calls = calls

-- the calls of steps
abbrev pub calls_by : {D : Type 0} → List (Step D) → List Call
calls_by [] = []
calls_by (step ∷ more) = call_before step.act step.luck (seen step.behind) (calls_by more)

module _ (trade : Trade) (providers : List Provider) {D : Type 0} where
  -- How calls ended: all that was due was played and written; or the output failed, and a front of their lines was written;
  -- or memory ran out in what came next, of which nothing was written.
  abbrev pub CallsEnd : (here : State) → List Call → List Command → Option Bytes → Point D → Option Stop → Type 0
  CallsEnd here calls unplayed before there None =
      (unplayed ≡ []) × (state_behind here calls ≡ seen there.state)
      × (there.held ≡ followed_by before (calls_text trade providers here calls))
  CallsEnd here calls unplayed before there (Some steps.WriteFault) =
      (state_behind here calls ≡ seen there.state)
      × WrotePart before there.held (calls_text trade providers here calls)
  CallsEnd here calls unplayed before there (Some steps.ReadFault) =
      (state_behind here calls ≡ seen there.state)
      × (there.held ≡ followed_by before (calls_text trade providers here calls))
  CallsEnd here calls unplayed before there (Some steps.NoMemory) =
      LeavesOff trade (state_behind here calls).sites (slice_get unplayed 0) there.state.sites
      × (there.held ≡ followed_by before (calls_text trade providers here calls))
      × ((provider : ℕ) → (state_behind here calls).counts provider ≤ there.state.counts provider)

  -- Of the commands that are due some were played from here, one after another; and what a crash leaves at each moment of
  -- that is said, where each of the commands may come in any state.
  pub record ClockWent (tells : Type 0) (sight : D → Sight) (faults : D → ℕ) (due : List Command) (here there : Point D)
      (stop : Option Stop) : Type 0 where
    pub calls : List Call
    pub unplayed : List Command
    pub plays : commands_of calls ++ unplayed ≡ due
    pub are : AreCalls trade tells (seen here.state) calls
    pub ends : CallsEnd (seen here.state) calls unplayed here.held there stop
    pub moves : AllMayCome trade due → Moves trade tells sight faults here.state there.state
    pub moves_on : AllMayCome trade due → stop ≡ None → MovesOn trade tells sight faults here.state there.state
