-- A run that plays a script passes on what it found, however far it came.
use Rattle.std.proofs.Common.{◌≡◌, ◌≢◌, ℕ, ◌⊎◌, inl, inr, List, [], ◌∷◌, refl, sym, subst, ◌∙◌, Option}
use Rattle.pec_types.specs.Bytes.{Bytes}
use Rattle.pec_outside.specs.DiskModel.{Sight}
use Rattle.pec_ledger.specs.Ledger.{Fit}
use Rattle.pec_ledger.specs.Network.{Site, journals_in}
use Rattle.pec_ledger.specs.Trade.{Trade}
use Rattle.pec_ledger.specs.TradeLaws.{IsTrade}
use Rattle.pec_plays.specs.Commands.{Luck}
use Rattle.pec_screen.specs.Verdicts.{Patterns}
use Rattle.pec_runs.specs.Endings.{End}
use Rattle.pec_runs.specs.Happened.{Asked, Begun, Halted, Happened, Over, Stage, providers_in, stage_of}
use Rattle.pec_runs.specs.Headline.{AllHonest}
use Rattle.pec_runs.specs.Moments.{AreHonest}
use Rattle.pec_runs.specs.Openings.{Fails, Form, Holds, IsOpening, Next, NoMore, Opening, Resume, Stops, Unfits, disks_at}
use Rattle.pec_runs.specs.Passing.{AreFitting, AreFoundAs, AreRunsOn, OneRun, Passes, RanHonestly, held, last_run}
use Rattle.pec_runs.specs.Ran.{Counts, beginning, world}
use Rattle.pec_runs.specs.ScriptLines.{Script}
use Rattle.pec_runs.specs.Statuses.{Status}
use Rattle.pec_runs.specs.Steps.{lucks_in}
use Rattle.pec_runs.specs.Moves.{KeepSound}
use Rattle.pec_runs.specs.Through.{AreAtHome, AreHadFrom, GoesThrough, MovesThrough, PlaysThrough, RanThrough}
use Rattle.pec_runs.proofs.LineLemmas.{ReadsSo}
use Rattle.pec_runs.proofs.RunLemmas.{commands_can, has_begun, is_world}
use Rattle.pec_runs.proofs.ThroughLemmas.{as_moves, had_in_any, steps_honest}

all_or_not : (next : Next) → (next ≡ NoMore) ⊎ (next ≢ NoMore)
all_or_not NoMore = inl refl
all_or_not Holds = inr (λ e. cc)
all_or_not (Unfits unfit) = inr (λ e. cc)
all_or_not Fails = inr (λ e. cc)
all_or_not Stops = inr (λ e. cc)

over_not_begun : (end : End) (form : Form) (script : Script) → Over end ≡ Begun form script → ⊥
over_not_begun end form script e = cc

halted_not_begun : (form : Form) (script : Script) → Halted ≡ Begun form script → ⊥
halted_not_begun form script e = cc

module _ {D : Type 0} (tells : Type 0) (sight : D → Sight) (faults : D → ℕ) (asked : Asked) (status : Status)
    (unread before after : Option Bytes) (home left : ℕ → Option D) (old new : Counts)
    (ran : RanThrough tells sight faults asked status unread before after home left old new) where
  abbrev happened : Happened
  happened = ran.ran.happened

  abbrev stage : Stage
  stage = stage_of asked happened.hands happened.early happened.parts

  abbrev Played : Form → Script → Type 0
  Played form script = PlaysThrough tells sight faults home left old.disks new.disks before after happened form script

  module _ (form : Form) (script : Script) (begun : stage ≡ Begun form script) where
    pub world_is : IsTrade (world happened)
    world_is = is_world asked status unread before after tells _ _ old new ran.ran form script begun

    pub opening_is : IsOpening (world happened) (disks_at tells sight home) form happened.opening
    opening_is = (has_begun asked status unread before after tells _ _ old new ran.ran form script begun).opening

    -- its steps inject no forged frame
    pub honest_steps : ReadsSo → (played : Played form script)
        → AllHonest (world happened) happened.lucks (beginning happened) script.commands
        → AreHonest (world happened) played.goes.first played.goes.steps
    honest_steps reads played honest =
        let lucky = subst (λ (l : List Luck). AllHonest (world happened) l (beginning happened) script.commands)
        (sym played.lucks) honest in
        steps_honest (world happened) tells (providers_in happened.setting) played.goes.first played.goes.steps played.unplayed
        script.commands script.end played.acts played.goes.each
        (commands_can asked status unread before after tells _ _ old new ran.ran form script begun reads)
        (subst (λ (s : List Site). AllHonest (world happened) (lucks_in played.goes.steps) s script.commands)
        (sym played.goes.begins) lucky)

  module _ (reads : ReadsSo)
      (stopped : (trade : Trade) (form : Form) (home left found : ℕ → Option D) → AreAtHome trade home
      → AreHadFrom sight tells form trade home left → AreFoundAs tells sight trade left found
      → Passes trade (held tells sight home) (held tells sight found))
      (ended : (trade : Trade) → IsTrade trade → (home left found : ℕ → Option D) (from upto : ℕ → ℕ) (form : Form)
      (screens : List (List Patterns)) (opening : Opening) → IsOpening trade (disks_at tells sight home) form opening → opening.next ≡ NoMore
      → AreAtHome trade home
      → MovesThrough tells sight faults home left from upto trade form screens opening.journals
      → AreFoundAs tells sight trade left found → Passes trade (held tells sight home) (held tells sight found))
      (moves : (form : Form) (goes : GoesThrough tells sight faults home left old.disks new.disks (world happened) form
      happened.screens happened.opening.journals) → AreHonest (world happened) goes.first goes.steps
      → IsTrade (world happened) → KeepSound (world happened) goes.first goes.steps)
      (found : ℕ → Option D) where
    abbrev Passed : Trade → Type 0
    Passed trade = Passes trade (held tells sight home) (held tells sight found)

    moves_so : (form : Form) (goes : GoesThrough tells sight faults home left old.disks new.disks (world happened) form
        happened.screens happened.opening.journals) → KeepSound (world happened) goes.first goes.steps
        → MovesThrough tells sight faults home left old.disks new.disks (world happened) form happened.screens happened.opening.journals
    moves_so form goes keep = as_moves tells sight faults home left old.disks new.disks (world happened) form
        happened.screens happened.opening.journals goes keep

    by_next : (form : Form) (script : Script) → stage ≡ Begun form script
        → (happened.opening.next ≡ NoMore
        → AllHonest (world happened) happened.lucks (beginning happened) script.commands)
        → AreAtHome (world happened) home → AreFoundAs tells sight (world happened) left found
        → (happened.opening.next ≡ NoMore) ⊎ (happened.opening.next ≢ NoMore) → Passed (world happened)
    by_next form script begun honest at_home left_as (inl all) =
        let played = ran.through.played form script begun all in
        ended (world happened) (world_is form script begun) home left found old.disks new.disks form happened.screens happened.opening
        (opening_is form script begun) all at_home
        (moves_so form played.goes (moves form played.goes (honest_steps form script begun reads played (honest all))
        (world_is form script begun))) left_as
    by_next form script begun honest at_home left_as (inr some) =
        stopped (world happened) form home left found at_home (ran.through.stopped form script begun some) left_as

    pub run_passes : (trade : Trade)
        → ((form : Form) (script : Script) → stage ≡ Begun form script → world happened ≡ trade)
        → AreAtHome trade home
        → ((form : Form) (script : Script) → stage ≡ Begun form script → happened.opening.next ≡ NoMore
        → AllHonest trade happened.lucks (beginning happened) script.commands)
        → AreFoundAs tells sight trade left found → Passed trade
    run_passes trade same at_home honest left_as = by_stage stage refl
      where
        unasked : ((form : Form) (script : Script) → stage ≡ Begun form script → ⊥) → Passed trade
        unasked none =
            stopped trade Resume home left found at_home
            (had_in_any sight tells (world happened) trade home left (ran.through.unasked none)) left_as

        by_stage : (at : Stage) → stage ≡ at → Passed trade
        by_stage (Over end) e = unasked (λ form script begun. over_not_begun end form script (sym e ∙ begun))
        by_stage Halted e = unasked (λ form script begun. halted_not_begun form script (sym e ∙ begun))
        by_stage (Begun form script) e =
            let one = same form script e in
            subst (λ (t : Trade). Passed t) one
            (by_next form script e
            (λ all. subst (λ (t : Trade). AllHonest t happened.lucks (beginning happened) script.commands) (sym one)
            (honest form script e all))
            (subst (λ (t : Trade). AreAtHome t home) (sym one) at_home)
            (subst (λ (t : Trade). AreFoundAs tells sight t left found) (sym one) left_as)
            (all_or_not happened.opening.next))

-- ---- runs one after another

-- what the law of a run says, where it is found as it left its disks
abbrev EndedPasses : {D : Type 0} → Type 0 → (D → Sight) → (D → ℕ) → Trade → Type 0
EndedPasses {D} tells sight faults trade =
    (run : OneRun D) (next : ℕ → Option D) → RanHonestly tells sight faults trade run
    → AreFoundAs tells sight trade run.left next
    → Passes trade (held tells sight run.home) (held tells sight next)

module _ {D : Type 0} (tells : Type 0) (sight : D → Sight) (faults : D → ℕ) (trade : Trade)
    (ended : EndedPasses tells sight faults trade)
    (passed : (old new : ℕ → Option D) → Passes trade (held tells sight old) (held tells sight new)
    → AreFitting trade (held tells sight old) → AreFitting trade (held tells sight new)) where
  pub runs_on : (run : OneRun D) (more : List (OneRun D)) → AreFitting trade (held tells sight run.home)
      → AreRunsOn tells sight faults trade run more → AreFitting trade (held tells sight (last_run run more).home)
  runs_on run [] fitting are = fitting
  runs_on run (next ∷ more) fitting are =
      runs_on next more (passed run.home next.home (ended run next.home are.0 are.1) fitting) are.2

pub opened_fit : {D : Type 0} (tells : Type 0) (sight : D → Sight) (faults : D → ℕ) (trade : Trade) (run : OneRun D)
    (honest : RanHonestly tells sight faults trade run) (script : Script)
    → stage_of run.asked honest.ran.ran.happened.hands honest.ran.ran.happened.early honest.ran.ran.happened.parts ≡ Begun Resume script
    → ((opening : Opening) → IsOpening trade (disks_at tells sight run.home) Resume opening → opening.next ≡ NoMore
    → Fit trade (journals_in opening.journals))
    → honest.ran.ran.happened.opening.next ≡ NoMore
    → Fit trade (journals_in honest.ran.ran.happened.opening.journals)
opened_fit tells sight faults trade run honest script begun opened all =
    opened honest.ran.ran.happened.opening
    (subst (λ (t : Trade). IsOpening t (disks_at tells sight run.home) Resume honest.ran.ran.happened.opening)
    (honest.world_is Resume script begun)
    (opening_is tells sight faults run.asked run.status run.unread run.before run.after run.home run.left run.old run.new honest.ran
    Resume script begun)) all
