-- A run that goes by clock calls: its steps are calls, and it can't stray.
use Rattle.std.proofs.Common.{◌≡◌, ◌≢◌, ℕ, zero, suc, ◌+◌, ◌<◌, ◌≤◌, inl, inr, List, [], ◌∷◌, ◌++◌, map, refl, ap, sym, subst, ◌∙◌, Option, Some, None}
use Rattle.std.specs.Prelude.{slice_get}
use Rattle.std.proofs.lemmas.Option.{none-some}
use Rattle.pec_types.specs.Bytes.{Bytes}
use Rattle.pec_outside.specs.DiskModel.{Sight}
use Rattle.pec_outside.specs.Flow.{WrotePart, followed_by}
use Rattle.pec_directory.specs.Directory.{Provider}
use Rattle.pec_types.specs.declared.moments.TheConstants.{END_OF_TIME}
use Rattle.pec_ledger.specs.Network.{Site, Sound}
use Rattle.pec_ledger.specs.Trade.{Trade}
use Rattle.pec_ledger.specs.TradeLaws.{IsTrade}
use Rattle.pec_plays.specs.Commands.{Command, Luck, Restart, played}
use Rattle.pec_plays.specs.Possible.{GaveWhatWasKept, IsOfKept}
use Rattle.pec_plays.specs.Scripts.{IsUnforged, put_instead}
use Rattle.pec_plays.specs.Turns.{Cut}
use Rattle.pec_plays.specs.Turns as cuts
use Rattle.pec_runs.specs.AnswerLines.{answer_text}
use Rattle.pec_runs.specs.Moves.{KeepSound, Moves, MovesOn}
use Rattle.pec_runs.specs.Ran.{LeavesOff}
use Rattle.pec_runs.specs.Steps.{Act, AreSteps, EndsSo, Goes, GoesAstray, IsStep, Plays, Point, Step, Stop}
use Rattle.pec_runs.specs.Steps.{acts_of, next_of, text_of}
use Rattle.pec_runs.specs.Steps as steps
use Rattle.pec_service.specs.Calls.{AllMayCome, AreCalls, CallsEnd, ClockWent, State, calls_by, calls_text}
use Rattle.pec_service.specs.Calls.{clock_from, commands_of, seen, state_behind}

-- ---- steps are calls

module _ (trade : Trade) (providers : List Provider) (tells : Type 0) {D : Type 0} where
  -- What is said of a front of the commands that are due: which calls it was, and which commands are left.
  record Front (here : steps.State D) (some : List (Step D)) (left : List Act) (due : List Command) : Type 0 where
    unplayed : List Command
    left_is : left ≡ map Plays unplayed
    plays : commands_of (calls_by some) ++ unplayed ≡ due
    are : AreCalls trade tells (seen here) (calls_by some)
    behind : state_behind (seen here) (calls_by some) ≡ seen (steps.state_behind here some)
    text : calls_text trade providers (seen here) (calls_by some) ≡ text_of trade providers here some

  nothing_done : (here : steps.State D) (left : List Act) (due : List Command) → left ≡ map Plays due
      → Front here [] left due
  nothing_done here left due is =
      record { unplayed = due; left_is = is; plays = refl; are = tt; behind = refl; text = refl }

  one_more : (here behind : steps.State D) (command : Command) (luck : Luck) (some : List (Step D)) (left : List Act)
      (due : List Command) → IsStep trade tells here (Plays command) luck behind → Front behind some left due
      → Front here (record { act = Plays command; luck = luck; behind = behind } ∷ some) left (command ∷ due)
  one_more here behind command luck some left due is front = record {
    unplayed = front.unplayed;
    left_is = front.left_is;
    plays = ap (λ (l : List Command). command ∷ l) front.plays;
    are = (is.0, front.are);
    behind = front.behind;
    text = ap (λ (t : Bytes). answer_text providers (played trade luck here.sites command).answer ++ t) front.text;
  }

  front_of : (here : steps.State D) (some : List (Step D)) (left : List Act) (due : List Command)
      → acts_of some ++ left ≡ map Plays due → AreSteps trade tells here some → Front here some left due
  front_of here [] left due is are = nothing_done here left due is
  front_of here (step ∷ some) left [] is are = cc
  front_of here (step ∷ some) left (command ∷ due) is are =
      let act : step.act ≡ Plays command = cc
      in let rest : acts_of some ++ left ≡ map Plays due = cc
      in subst (λ (a : Act). Front here (record { act = a; luck = step.luck; behind = step.behind } ∷ some) left
      (command ∷ due)) (sym act)
      (one_more here step.behind command step.luck some left due
      (subst (λ (a : Act). IsStep trade tells here a step.luck step.behind) act are.0)
      (front_of step.behind some left due rest are.1))

-- ---- what comes next

next_is : (unplayed : List Command) → next_of (map Plays unplayed) ≡ slice_get unplayed 0
next_is [] = refl
next_is (command ∷ unplayed) = refl

-- no command that is due behind others is a restart
pub NoRestart : List Command → Type 0
NoRestart [] = Unit {0}
NoRestart (command ∷ due) = ((provider : ℕ) → command ≢ Restart provider) × NoRestart due

clock_is : (more from moment : ℕ) → NoRestart (clock_from more from moment)
unfolding NoRestart
clock_is zero from moment = (λ p e. cc, tt)
clock_is (suc more) from moment = (λ p e. cc, clock_is more (from + 1) moment)

behind_is : (some unplayed : List Command) → NoRestart (some ++ unplayed) → NoRestart unplayed
unfolding NoRestart
behind_is [] unplayed none = none
behind_is (command ∷ some) unplayed none = behind_is some unplayed none.1

not_next : (unplayed : List Command) (provider : ℕ) → NoRestart unplayed
    → next_of (map Plays unplayed) ≡ Some (Restart provider) → ⊥
unfolding NoRestart
not_next [] provider none is = cc
not_next (command ∷ unplayed) provider none is = none.0 provider cc

-- ---- the law

module _ (trade : Trade) (providers : List Provider) (tells : Type 0) {D : Type 0} (sight : D → Sight)
    (faults : D → ℕ) (due : List Command) (none : NoRestart due) (here there : Point D) where
  module _ (some : List (Step D)) (left : List Act) (front : Front trade providers tells here.state some left due)
      (since : (p : ℕ) → (steps.state_behind here.state some).counts p ≤ there.state.counts p) where
    held_is : there.held ≡ followed_by here.held (text_of trade providers here.state some)
        → there.held ≡ followed_by here.held (calls_text trade providers (seen here.state) (calls_by some))
    held_is is = is ∙ ap (followed_by here.held) (sym front.text)

    ends_so : (stop : Option Stop) → EndsSo trade providers tells sight (steps.state_behind here.state some)
        (text_of trade providers here.state some) left here.held there stop
        → CallsEnd trade providers (seen here.state) (calls_by some) front.unplayed here.held there stop
    ends_so None ends = (
      no_more front.unplayed (sym front.left_is ∙ ends.0),
      front.behind ∙ ap seen (sym ends.1),
      held_is ends.2,
    )
      where
        no_more : (unplayed : List Command) → map Plays unplayed ≡ [] → unplayed ≡ []
        no_more [] e = refl
        no_more (command ∷ unplayed) e = cc
    ends_so (Some steps.WriteFault) ends = (
      front.behind ∙ ap seen (sym ends.0),
      subst (λ (t : Bytes). WrotePart here.held there.held t) (sym front.text) ends.1,
    )
    ends_so (Some steps.ReadFault) ends = (front.behind ∙ ap seen (sym ends.1), held_is ends.2)
    ends_so (Some steps.NoMemory) ends = (
      subst (λ (s : State). LeavesOff trade s.sites (slice_get front.unplayed 0) there.state.sites) (sym front.behind)
          (subst (λ (n : Option Command). LeavesOff trade (steps.state_behind here.state some).sites n
          there.state.sites)
          (ap next_of front.left_is ∙ next_is front.unplayed) ends.1),
      held_is ends.2,
      subst (λ (s : State). (p : ℕ) → s.counts p ≤ there.state.counts p) (sym front.behind) since,
    )

    not_astray : GoesAstray trade providers tells sight (steps.state_behind here.state some)
        (text_of trade providers here.state some) left here.held there → ⊥
    not_astray astray =
        not_next front.unplayed astray.strays.provider
        (behind_is (commands_of (calls_by some)) front.unplayed (subst NoRestart (sym front.plays) none))
        (sym (ap next_of front.left_is) ∙ astray.strays.restarts)

  -- ---- moments

  module _ (stays : IsTrade trade → (luck : Luck) (sites : List Site) (command : Command) → Sound trade sites
      → IsUnforged trade luck sites command → Sound trade (played trade luck sites command).after) where
    step_sound : (at behind : steps.State D) (act : Act) (luck : Luck) (command : Command) → act ≡ Plays command
        → IsStep trade tells at act luck behind
        → ((luck : Luck) (sites : List Site) → GaveWhatWasKept luck → IsUnforged trade luck sites command) → tells
        → IsTrade trade → Sound trade at.sites → Sound trade behind.sites
    step_sound at behind act luck command same is may told is_trade sound =
        let call = subst (λ (a : Act). IsStep trade tells at a luck behind) same is
        in subst (λ (s : List Site). Sound trade s) (sym call.0.state)
        (stays is_trade luck at.sites command sound (may luck at.sites (call.0.kept told)))

    keep_sound : (at : steps.State D) (some : List (Step D)) (left : List Act) (commands : List Command)
        → acts_of some ++ left ≡ map Plays commands → AreSteps trade tells at some → AllMayCome trade commands
        → tells → KeepSound trade at some
    keep_sound at [] left commands is are may told = tt
    keep_sound at (step ∷ some) left [] is are may told = cc
    keep_sound at (step ∷ some) left (command ∷ commands) is are may told =
        let act : step.act ≡ Plays command = cc
        in let rest : acts_of some ++ left ≡ map Plays commands = cc
        in (
          step_sound at step.behind step.act step.luck command act are.0 may.0 told,
          keep_sound step.behind some left commands rest are.1 may.1 told,
        )

    moves_of : (stop : Option Stop) (goes : Goes trade providers tells sight faults (map Plays due) here there stop)
        → AllMayCome trade due → Moves trade tells sight faults here.state there.state
    moves_of stop goes may = record {
      steps = goes.steps;
      counted = goes.counted;
      sound = λ told. keep_sound here.state goes.steps goes.left due goes.acts_are goes.each may told;
      moments = goes.moments;
    }

    moves_on_of : (goes : Goes trade providers tells sight faults (map Plays due) here there None) → AllMayCome trade due
        → MovesOn trade tells sight faults here.state there.state
    unfolding moves_of
    moves_on_of goes may =
        let front = front_of trade providers tells here.state goes.steps goes.left due goes.acts_are goes.each
        in record {
          moves = moves_of None goes may;
          whole = elim goes.ends [
            | inl ends ↦ ends.1
            | inr astray ↦ absurd (not_astray goes.steps goes.left front goes.since astray)
          ];
        }

  pub went : (stays : IsTrade trade → (luck : Luck) (sites : List Site) (command : Command) → Sound trade sites
      → IsUnforged trade luck sites command → Sound trade (played trade luck sites command).after)
      → (stop : Option Stop) → Goes trade providers tells sight faults (map Plays due) here there stop
      → ClockWent trade providers tells sight faults due here there stop
  went stays stop goes =
      let front = front_of trade providers tells here.state goes.steps goes.left due goes.acts_are goes.each
      in record {
        moves = λ may. moves_of stays stop goes may;
        moves_on = λ may none. moves_on_of stays
            (subst (λ (s : Option Stop). Goes trade providers tells sight faults (map Plays due) here there s) none goes) may;
        calls = calls_by goes.steps;
        unplayed = front.unplayed;
        plays = front.plays;
        are = front.are;
        ends = elim goes.ends [
          | inl ends ↦ ends_so goes.steps goes.left front goes.since stop ends
          | inr astray ↦ absurd (not_astray goes.steps goes.left front goes.since astray)
        ];
      }

pub clock_went : (trade : Trade) (providers : List Provider) (tells : Type 0) {D : Type 0} (sight : D → Sight)
    (faults : D → ℕ) (more from moment : ℕ) (here there : Point D) (stop : Option Stop)
    → (IsTrade trade → (luck : Luck) (sites : List Site) (command : Command) → Sound trade sites
    → IsUnforged trade luck sites command → Sound trade (played trade luck sites command).after)
    → Goes trade providers tells sight faults (map Plays (clock_from more from moment)) here there stop
    → ClockWent trade providers tells sight faults (clock_from more from moment) here there stop
clock_went trade providers tells sight faults more from moment here there stop stays goes =
    went trade providers tells sight faults (clock_from more from moment) (clock_is more from moment) here there stays stop goes

-- a turn whose disk gave back what was kept puts no frame in place of a due one
none_put : (cut : Cut) (out : List (List Bytes)) → IsOfKept cut → put_instead cut ≡ Some out → ⊥
none_put cuts.Whole out kept is = none-some out is
none_put (cuts.Fails number fault) out kept is = none-some out is
none_put (cuts.Full number) out kept is = none-some out is
none_put (cuts.Stops number) out kept is = none-some out is
none_put (cuts.Unread number fault) out kept is = none-some out is
none_put (cuts.Other other) out kept is = kept
none_put (cuts.Sees looks cut) out kept is = kept

-- clock calls and a round at a moment that a clock tells may come in any state
pub clock_may_come : (trade : Trade) (more from moment : ℕ) → moment < END_OF_TIME
    → AllMayCome trade (clock_from more from moment)
clock_may_come trade zero from moment in_time =
    (λ luck sites kept. (in_time, λ p out within other. absurd (none_put (luck.cuts p) out (kept p) other)), tt)
clock_may_come trade (suc more) from moment in_time =
    (λ luck sites kept. in_time, clock_may_come trade more (from + 1) moment in_time)
