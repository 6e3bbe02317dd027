-- A run that serves passes on what it found, however far it came.
use Rattle.std.proofs.Common.{◌≡◌, ◌≢◌, ℕ, ◌⊎◌, inl, inr, List, [], ◌∷◌, refl, sym, subst, ◌∙◌, Option, None, Some}
use Rattle.pec_types.specs.Bytes.{Bytes}
use Rattle.pec_outside.specs.DiskModel.{Sight}
use Rattle.pec_ledger.specs.Trade.{Trade}
use Rattle.pec_screen.specs.Verdicts.{Patterns}
use Rattle.pec_ledger.specs.TradeLaws.{IsTrade}
use Rattle.pec_runs.specs.Endings.{End}
use Rattle.pec_runs.specs.Openings.{Fails, Form, Holds, IsOpening, Next, NoMore, Opening, Resume, Stops, Unfits, disks_at}
use Rattle.pec_runs.specs.Openings as runs
use Rattle.pec_runs.specs.Passing.{AreFitting, AreFoundAs, OneRun, Passes, RanHonestly, held}
use Rattle.pec_runs.specs.Statuses.{Status}
use Rattle.pec_runs.specs.Through.{AreAtHome, AreHadFrom, IsHadFrom, Made, MovesThrough, Same, Still, size_begun}
use Rattle.pec_service.specs.Calling.{AreCallsOn, CalledHonestly, OneCall, OneService, Plays, ServedHonestly, Serves, home_of}
use Rattle.pec_service.specs.Calling.{last_call, left_of}
use Rattle.pec_service.specs.Runs.{AllCounts, Asked, Begins, Halts, Happened, Outside, Over, Stage, stage_of, world}
use Rattle.pec_service.specs.Through.{ServiceRanThrough}
use Rattle.pec_service.proofs.RunLemmas.{has_journals, is_world}

all_or_not : (next : Next) → (next ≡ NoMore) ⊎ (next ≢ NoMore)
all_or_not NoMore = inl refl
all_or_not Holds = inr (λ e. cc)
all_or_not (Unfits unfit) = inr (λ e. cc)
all_or_not Fails = inr (λ e. cc)
all_or_not Stops = inr (λ e. cc)

over_not : (end : End) → Over end ≡ Begins → ⊥
over_not end e = cc

halts_not : Halts ≡ Begins → ⊥
halts_not e = cc

-- nothing was written, in whichever world
in_any : {D : Type 0} (sight : D → Sight) (tells : Type 0) (trade other : Trade) (old new : ℕ → Option D)
    → AreHadFrom sight tells Resume trade old new → AreHadFrom sight tells Resume other old new
in_any {D} sight tells trade other old new had =
    λ told p was now before behind. so p was now (had told p was now before behind)
  where
    apart : Resume ≡ runs.Run → ⊥
    apart e = cc

    so : (p : ℕ) (was now : D) → IsHadFrom sight Resume (size_begun trade p) was now
        → IsHadFrom sight Resume (size_begun other p) was now
    so p was now (Same same) = Same same
    so p was now (Still stays) = Still stays
    so p was now (Made run none grows) = absurd (apart run)

module _ {D : Type 0} (tells : Type 0) (sight : D → Sight) (faults : D → ℕ) (asked : Asked) (status : Status)
    (unread before after : Option Bytes) (home left : ℕ → Option D) (here there : Outside) (old new : AllCounts)
    (ran : ServiceRanThrough tells sight faults asked status unread before after home left here there old new) where
  abbrev happened : Happened
  happened = ran.ran.served.happened

  abbrev stage : Stage
  stage = stage_of happened.early happened.directory

  module _ (begins : stage ≡ Begins) (form : Form) (is : happened.form ≡ Some form) where
    pub world_is : IsTrade (world happened)
    world_is = is_world asked status unread before after _ _ _ here there _ _ ran.ran.served form begins is

    pub opening_is : IsOpening (world happened) (disks_at tells sight home) form happened.course.opening
    opening_is = (has_journals asked status unread before after _ _ _ here there _ _ ran.ran.served form begins is).opening

  module _
      (stopped : (trade : Trade) (form : Form) (home left found : ℕ → Option D) → AreAtHome trade home
      → AreHadFrom sight tells form trade home left → AreFoundAs tells sight trade left found
      → Passes trade (held tells sight home) (held tells sight found))
      (ended : (trade : Trade) → IsTrade trade → (home left found : ℕ → Option D) (from upto : ℕ → ℕ) (form : Form)
      (screens : List (List Patterns)) (opening : Opening) → IsOpening trade (disks_at tells sight home) form opening → opening.next ≡ NoMore
      → AreAtHome trade home → MovesThrough tells sight faults home left from upto trade form screens opening.journals
      → AreFoundAs tells sight trade left found → Passes trade (held tells sight home) (held tells sight found))
      (found : ℕ → Option D) where
    abbrev Passed : Trade → Type 0
    Passed trade = Passes trade (held tells sight home) (held tells sight found)

    by_next : (begins : stage ≡ Begins) (form : Form) → happened.form ≡ Some form → AreAtHome (world happened) home
        → AreFoundAs tells sight (world happened) left found
        → (happened.course.opening.next ≡ NoMore) ⊎ (happened.course.opening.next ≢ NoMore) → Passed (world happened)
    by_next begins form is at_home left_as (inl all) =
        ended (world happened) (world_is begins form is) home left found old.devices.disks new.devices.disks form
        asked.screens happened.course.opening (opening_is begins form is) all at_home
        ((ran.through.served begins form is all).through) left_as
    by_next begins form is at_home left_as (inr some) =
        stopped (world happened) form home left found at_home (ran.through.stopped begins form is some) left_as

    by_form : (begins : stage ≡ Begins) (form : Option Form) → happened.form ≡ form → AreAtHome (world happened) home
        → AreFoundAs tells sight (world happened) left found → Passed (world happened)
    by_form begins None is at_home left_as =
        stopped (world happened) Resume home left found at_home (ran.through.unlooked begins is) left_as
    by_form begins (Some form) is at_home left_as =
        by_next begins form is at_home left_as (all_or_not happened.course.opening.next)

    pub service_passes : (trade : Trade) → (stage ≡ Begins → world happened ≡ trade) → AreAtHome trade home
        → AreFoundAs tells sight trade left found → Passed trade
    service_passes trade same at_home left_as = by_stage stage refl
      where
        unasked : (stage ≡ Begins → ⊥) → Passed trade
        unasked none =
            stopped trade Resume home left found at_home
            (in_any sight tells (world happened) trade home left (ran.through.unasked none)) left_as

        by_stage : (at : Stage) → stage ≡ at → Passed trade
        by_stage (Over end) e = unasked (λ begins. over_not end (sym e ∙ begins))
        by_stage Halts e = unasked (λ begins. halts_not (sym e ∙ begins))
        by_stage Begins e =
            let one = same e in
            subst (λ (t : Trade). Passed t) one
            (by_form e happened.form refl (subst (λ (t : Trade). AreAtHome t home) (sym one) at_home)
            (subst (λ (t : Trade). AreFoundAs tells sight t left found) (sym one) left_as))

-- ---- runs one after another

-- what the laws of a run and of a service say, where it is found as it left its disks
abbrev CallPasses : {D : Type 0} → Type 0 → (D → Sight) → (D → ℕ) → Trade → Type 0
CallPasses {D} tells sight faults trade =
    (call : OneCall D) (next : ℕ → Option D) → CalledHonestly tells sight faults trade call
    → AreFoundAs tells sight trade (left_of call) next
    → Passes trade (held tells sight (home_of call)) (held tells sight next)

module _ {D : Type 0} (tells : Type 0) (sight : D → Sight) (faults : D → ℕ) (trade : Trade) where
  pub call_passes :
      ((run : OneRun D) (next : ℕ → Option D) → RanHonestly tells sight faults trade run
      → AreFoundAs tells sight trade run.left next → Passes trade (held tells sight run.home) (held tells sight next))
      → ((service : OneService D) (next : ℕ → Option D) → ServedHonestly tells sight faults trade service
      → AreFoundAs tells sight trade service.left next
      → Passes trade (held tells sight service.home) (held tells sight next))
      → CallPasses tells sight faults trade
  call_passes plays serves (Plays run) next honest left_as = plays run next honest left_as
  call_passes plays serves (Serves service) next honest left_as = serves service next honest left_as

  module _ (ended : CallPasses tells sight faults trade)
      (passed : (old new : ℕ → Option D) → Passes trade (held tells sight old) (held tells sight new)
      → AreFitting trade (held tells sight old) → AreFitting trade (held tells sight new)) where
    pub calls_on : (call : OneCall D) (more : List (OneCall D)) → AreFitting trade (held tells sight (home_of call))
        → AreCallsOn tells sight faults trade call more
        → AreFitting trade (held tells sight (home_of (last_call call more)))
    calls_on call [] fitting are = fitting
    calls_on call (next ∷ more) fitting are =
        calls_on next more (passed (home_of call) (home_of next) (ended call (home_of next) are.0 are.1) fitting) are.2
