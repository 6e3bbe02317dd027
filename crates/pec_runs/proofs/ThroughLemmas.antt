-- What a run leaves, at whatever moment it ended or was killed, passes on what it found.
use Rattle.std.proofs.Common.{◌≡◌, ℕ, zero, suc, ◌<◌, ◌≤◌, ◌⊎◌, inl, inr, List, [], ◌∷◌, ◌++◌, length, refl, ap, sym, subst, ◌∙◌, arith, Option, Some}
use Rattle.std.specs.List.{AllByRecursion}
use Rattle.std.proofs.lemmas.Option.{same_Some}
use Rattle.pec_types.specs.Bytes.{Bytes}
use Rattle.pec_outside.specs.DiskModel.{Sight}
use Rattle.pec_directory.specs.Directory.{Provider}
use Rattle.pec_records.specs.declared.entries.Entry.{Entry}
use Rattle.pec_ledger.specs.Network.{Site, Sound, at_start}
use Rattle.pec_ledger.specs.Trade.{Trade}
use Rattle.pec_ledger.specs.TradeLaws.{IsTrade}
use Rattle.pec_chronicle.specs.Chronicle.{ChronicleState}
use Rattle.pec_plays.specs.Commands.{Command}
use Rattle.pec_screen.specs.Verdicts.{Patterns}
use Rattle.pec_runs.specs.Endings.{End, end_text}
use Rattle.pec_runs.specs.Headline.{AllHonest, CanBeSaid}
use Rattle.pec_runs.specs.Moments.{AllStandIn, AreHonest, HoldsAll, IsHonestAct, IsKilledAt, IsKilledIn, Phase, number_told, state_at}
use Rattle.pec_runs.specs.Moves.{KeepSound}
use Rattle.pec_runs.specs.Openings.{Form, IsOpening, NoMore, Opening, Resume, Run, disks_at}
use Rattle.pec_runs.specs.Passing.{AreFitting, AreFoundAs, AreFoundBetween, AreFoundWithin, Followed, HadOnly, Passes, held}
use Rattle.pec_runs.specs.ScriptLines.{Script}
use Rattle.pec_runs.specs.Steps.{Act, AllMoments, AreSteps, IsMoment, IsStep, Plays, State, Step, Writes}
use Rattle.pec_runs.specs.Steps.{acts_of, acts_of_script, luck_before, lucks_in, state_behind}
use Rattle.pec_runs.specs.Through.{AreAtHome, AreHadFrom, GoesThrough, IsHadFrom, Made, MovesThrough, Same, Still}
use Rattle.pec_runs.specs.Through.{size_begun}
use Rattle.pec_runs.proofs.LineLemmas.{one_unforged}
use Rattle.pec_runs.proofs.MomentLemmas.{StaysSound, keeps_at, killed_follows, seen_at, sound_on, told_kept}
use Rattle.pec_runs.proofs.PassingLemmas.{opened_fitting, some_there}
use Rattle.pec_runs.proofs.RunLemmas.{sound_beginning}
use Rattle.pec_runs.proofs.StepLemmas.{JointStays}

-- ---- while journals are had

module _ {D : Type 0} (tells : Type 0) (sight : D → Sight) (trade : Trade) (told : tells)
    (only_now : (disk : D) (bytes : Bytes) → (sight disk).left_since (sight disk).moment bytes
    → (sight disk).may_leave bytes)
    (counts_now : (disk : D) (t : ℕ) (bytes : Bytes) → t ≤ (sight disk).moment → (sight disk).may_leave bytes
    → (sight disk).left_since t bytes)
    (reads_so : (disk : D) → (sight disk).may_leave (sight disk).seen) where
  abbrev Held : (ℕ → Option D) → ℕ → Bytes → Type 0
  Held home provider bytes = held tells sight home provider bytes

  module _ (form : Form) (home : ℕ → Option D) (provider : ℕ) (was : D) (is : home provider ≡ Some was) where
    -- what was found on the disk, or what is made on it
    abbrev WasOrMade : Bytes → Type 0
    WasOrMade bytes =
        Held home provider bytes
        ⊎ (Held home provider []
        × (((before : Bytes) → Held home provider before → length before ≤ size_begun trade provider)
        → length bytes ≤ size_begun trade provider))

    at_once : (bytes : Bytes) → (sight was).may_leave bytes → Held home provider bytes
    at_once bytes leaves = (told, (was, is, leaves))

    empty_before : (sight was).seen ≡ [] → Held home provider []
    empty_before none = at_once [] (subst (λ (b : Bytes). (sight was).may_leave b) none (reads_so was))

    -- a crash at some moment between left it
    between : (now : D) → IsHadFrom sight form (size_begun trade provider) was now → (bytes : Bytes)
        → (sight now).left_since (sight was).moment bytes → WasOrMade bytes
    between now (Same same) bytes left =
        inl (at_once bytes (only_now was bytes
        (subst (λ (d : D). (sight d).left_since (sight was).moment bytes) same left)))
    between now (Still stays) bytes left = inl (at_once bytes (stays.moments.each bytes left))
    between now (Made run none grows) bytes left = inr (
      empty_before none,
      λ small. (grows (size_begun trade provider) (omega arith) (λ image leaves. small image (at_once image leaves))).each
          bytes left,
    )

    -- a crash leaves it now
    behind : (now : D) → IsHadFrom sight form (size_begun trade provider) was now → (bytes : Bytes)
        → (sight now).may_leave bytes → WasOrMade bytes
    behind now (Same same) bytes leaves =
        inl (at_once bytes (subst (λ (d : D). (sight d).may_leave bytes) same leaves))
    behind now (Still stays) bytes leaves = inl (at_once bytes (stays.crash bytes leaves))
    behind now (Made run none grows) bytes leaves = inr (
      empty_before none,
      λ small.
          let all = grows (size_begun trade provider) (omega arith) (λ image at. small image (at_once image at)) in
          all.each bytes (counts_now now (sight was).moment bytes all.later leaves),
    )

  at_home_so : (home : ℕ → Option D) → AreAtHome trade home → (provider : ℕ) → provider < trade.providers
      → (was : D) × (home provider ≡ Some was)
  at_home_so home at_home provider within = some_there (home provider) (at_home provider within)

  -- killed while journals were had
  pub had_between : (form : Form) (home new found : ℕ → Option D) → AreHadFrom sight tells form trade home new
      → AreFoundBetween tells sight trade home new found
      → Passes trade (held tells sight home) (held tells sight found)
  had_between form home new found had between_ = HadOnly (λ p within bytes holds.
      let left = between_ p bytes within holds in
      between form home p left.was left.before left.now (had told p left.was left.now left.before left.behind) bytes
      left.left)

  -- ended before all were had
  pub had_behind : (form : Form) (home new found : ℕ → Option D) → AreAtHome trade home
      → AreHadFrom sight tells form trade home new → AreFoundAs tells sight trade new found
      → Passes trade (held tells sight home) (held tells sight found)
  had_behind form home new found at_home had left_as = HadOnly (λ p within bytes holds.
      let left = left_as p bytes within holds in
      let was = at_home_so home at_home p within in
      behind form home p was.0 was.1 left.1.0 (had told p was.0 left.1.0 was.1 left.1.1) bytes left.1.2)

-- nothing was written, in whichever world
pub had_in_any : {D : Type 0} (sight : D → Sight) (tells : Type 0) (trade other : Trade) (old new : ℕ → Option D)
    → AreHadFrom sight tells Resume trade old new → AreHadFrom sight tells Resume other old new
had_in_any {D} sight tells trade other old new had =
    λ told p was now before behind. so p was now (had told p was now before behind)
  where
    apart : Resume ≡ Run → ⊥
    apart e = cc

    so : (p : ℕ) (was now : D) → IsHadFrom sight Resume (size_begun trade p) was now
        → IsHadFrom sight Resume (size_begun other p) was now
    so p was now (Same same) = Same same
    so p was now (Still stays) = Still stays
    so p was now (Made run none grows) = absurd (apart run)

-- ---- with all journals had

-- the number of the step behind all that were done
last_number : {D : Type 0} (here there : State D) (steps : List (Step D))
    → (number : ℕ) × (number ≤ length steps) × (state_at number here there steps ≡ state_behind here steps)
    × (state_at (suc number) here there steps ≡ there)
last_number here there [] = (zero, omega arith, refl, refl)
last_number here there (step ∷ steps) =
    let n = last_number step.behind there steps in (suc n.0, omega (arith, n.1), n.2, n.3)

module _ {D : Type 0} (tells : Type 0) (sight : D → Sight) (trade : Trade) (told : tells) (is_trade : IsTrade trade)
    (joint : JointStays trade) (start : (all : ℕ → List Patterns) → Sound trade (at_start trade all))
    (only_now : (disk : D) (bytes : Bytes) → (sight disk).left_since (sight disk).moment bytes
    → (sight disk).may_leave bytes)
    (counts_now : (disk : D) (t : ℕ) (bytes : Bytes) → t ≤ (sight disk).moment → (sight disk).may_leave bytes
    → (sight disk).left_since t bytes)
    (reads_so : (disk : D) → (sight disk).may_leave (sight disk).seen)
    (home left : ℕ → Option D) (form : Form) (screens : List (List Patterns)) (opening : Opening)
    (is : IsOpening trade (disks_at tells sight home) form opening) (all : opening.next ≡ NoMore)
    (at_home : AreAtHome trade home) (from upto : ℕ → ℕ)
    (faults : D → ℕ) (goes : MovesThrough tells sight faults home left from upto trade form screens opening.journals) where
  abbrev steps : List (Step D)
  steps = goes.moves.steps

  abbrev At : ℕ → State D
  At number = state_at number goes.first goes.last steps

  abbrev moments : AllMoments trade sight goes.first goes.last steps
  moments = goes.moves.moments told

  -- what was found fits, so the run began Sound
  sound_first : AreFitting trade (held tells sight home) → Sound trade goes.first.sites
  sound_first fitting =
      subst (λ (s : List Site). Sound trade s) (sym goes.begins)
      (sound_beginning trade (disks_at tells sight home) screens form opening joint start is all (λ resume.
      opened_fitting tells sight home trade told reads_so at_home fitting opening
      (subst (λ (f : Form). IsOpening trade (disks_at tells sight home) f opening) resume is) all))

  within_step : (found : ℕ → Option D) (number : ℕ) → number ≤ length steps
      → (Sound trade (At number).sites → AllStandIn sight (At number)
      → AreFoundWithin tells sight trade number goes.first goes.last steps found)
      → Passes trade (held tells sight home) (held tells sight found)
  within_step found number within so = Followed (At number).sites (λ fitting.
      let there = keeps_at trade sight is_trade number goes.first goes.last steps (goes.moves.sound told) moments
      (sound_first fitting) (goes.stand told) within in
      let killed = so there.0 there.1 in (
        there.0,
        λ p bytes l holds.
            killed_follows trade sight only_now number goes.first goes.last steps moments within there.0 there.1
            (seen_at trade sight number goes.first goes.last steps moments goes.seen within) p bytes
            (killed p bytes l holds),
      ))

  -- killed within a step
  pub killed_passes : (found : ℕ → Option D) (number : ℕ) → number ≤ length steps
      → AreFoundWithin tells sight trade number goes.first goes.last steps found
      → Passes trade (held tells sight home) (held tells sight found)
  killed_passes found number within killed = within_step found number within (λ sound stand. killed)

  -- what was told is on the disks
  pub told_there : AreFitting trade (held tells sight home) → (phase : Phase) (number : ℕ) → number ≤ length steps
      → (provider : ℕ) (bytes : Bytes) → IsKilledAt sight phase number goes.first goes.last steps provider bytes
      → HoldsAll (At (number_told phase number)).sites provider bytes
  told_there fitting phase number within provider bytes killed =
      let there = keeps_at trade sight is_trade number goes.first goes.last steps (goes.moves.sound told) moments
      (sound_first fitting) (goes.stand told) within in
      told_kept trade sight only_now phase number goes.first goes.last steps moments within there.0 there.1
      (seen_at trade sight number goes.first goes.last steps moments goes.seen within) provider bytes killed

  -- what is left in the end was left behind the last step
  module _ (number : ℕ) (earlier : At number ≡ state_behind goes.first steps) (later : At (suc number) ≡ goes.last)
      (sound : Sound trade (At number).sites) (stand : AllStandIn sight (At number)) (provider : ℕ)
      (one : ChronicleState D) (last : goes.last.chronicles provider ≡ Some one) (bytes : Bytes)
      (leaves : (sight one.disk).may_leave bytes) where
    now_is : (At (suc number)).chronicles provider ≡ Some one
    now_is = ap (λ (s : State D). s.chronicles provider) later ∙ last

    in_the_end : IsMoment trade sight (state_behind goes.first steps) goes.last
        → IsKilledIn sight number goes.first goes.last steps provider bytes
    in_the_end (inl same) = record {
      was = one;
      before = ap (λ (s : State D). s.chronicles provider) (earlier ∙ sym same) ∙ last;
      now = one;
      behind = now_is;
      left = counts_now one.disk (sight one.disk).moment bytes (omega arith) leaves;
    }
    in_the_end (inr came_on) =
        let came = came_on.came (subst (λ (s : State D). Sound trade s.sites) earlier sound) provider one last in
        let was = ap (λ (s : State D). s.chronicles provider) earlier ∙ came.is in
        record {
          was = came.was;
          before = was;
          now = one;
          behind = now_is;
          left = counts_now one.disk (sight came.was.disk).moment bytes
              (came.moments (stand provider came.was was)).later leaves;
        }

  -- ended with its script or its service, or behind it, or within a command
  pub ended_passes : (found : ℕ → Option D) → AreFoundAs tells sight trade left found
      → Passes trade (held tells sight home) (held tells sight found)
  ended_passes found left_as =
      let n = last_number goes.first goes.last steps in
      within_step found n.0 n.1 (λ sound stand p bytes within holds.
      let found_so = left_as p bytes within holds in
      let one = goes.kept told p within in
      let disk : found_so.1.0 ≡ one.0.disk = same_Some found_so.1.0 one.0.disk (sym found_so.1.1 ∙ one.2) in
      in_the_end n.0 n.2 n.3 sound stand p one.0 one.1 bytes
      (subst (λ (d : D). (sight d).may_leave bytes) disk found_so.1.2) moments.last)

-- steps of a run are moves, where no forged frame is injected
pub steps_move : {D : Type 0} (trade : Trade) (tells : Type 0) (sight : D → Sight) → (IsTrade trade → StaysSound trade) → (here : State D)
    (done : List (Step D)) → AreSteps trade tells here done → AreHonest trade here done → KeepSound trade here done
steps_move trade tells sight stays here [] are honest = tt
steps_move trade tells sight stays here (step ∷ done) are honest = (
  λ is_trade sound. sound_on trade sight tells (stays is_trade) here step.behind step.act step.luck are.0 sound honest.0,
  steps_move trade tells sight stays step.behind done are.1 honest.1,
)

abbrev pub as_moves : {D : Type 0} (tells : Type 0) (sight : D → Sight) (faults : D → ℕ) (home left : ℕ → Option D) (from upto : ℕ → ℕ)
    (trade : Trade) (form : Form) (screens : List (List Patterns)) (journals : List (List Entry))
    → (goes : GoesThrough tells sight faults home left from upto trade form screens journals)
    → KeepSound trade goes.first goes.steps → MovesThrough tells sight faults home left from upto trade form screens journals
as_moves tells sight faults home left from upto trade form screens journals goes keep = record {
  first = goes.first;
  last = goes.last;
  begins = goes.begins;
  seen = goes.seen;
  begun = goes.begun;
  stand = goes.stand;
  had = goes.had;
  moves = record { steps = goes.steps; counted = λ first. goes.counted; sound = λ told. keep; moments = goes.moments };
  kept = goes.kept;
  elsewhere = goes.elsewhere;
}

-- ---- no forged frame

abbrev script_with : List Command → End → Script
script_with commands end = record { commands = commands; end = end }

module _ {D : Type 0} (trade : Trade) (tells : Type 0) (providers : List Provider) where
  nothing_honest : (here : State D) (steps : List (Step D)) (unplayed : List Act) → acts_of steps ++ unplayed ≡ []
      → AreHonest trade here steps
  nothing_honest here [] unplayed none = tt
  nothing_honest here (step ∷ steps) unplayed none = cc

  -- the steps of a script that injects no forged frame
  pub steps_honest : (here : State D) (steps : List (Step D)) (unplayed : List Act) (commands : List Command) (end : End)
      → acts_of steps ++ unplayed ≡ acts_of_script providers (script_with commands end) → AreSteps trade tells here steps
      → AllByRecursion CanBeSaid commands → AllHonest trade (lucks_in steps) here.sites commands
      → AreHonest trade here steps
  steps_honest here [] unplayed commands end is are can honest = tt
  steps_honest here (step ∷ steps) unplayed [] end is are can honest =
      let act : step.act ≡ Writes (end_text providers end) = cc in
      let rest : acts_of steps ++ unplayed ≡ [] = cc in
      (subst (λ (a : Act). IsHonestAct trade step.luck here.sites a) (sym act) tt, nothing_honest step.behind steps unplayed rest)
  steps_honest here (step ∷ steps) unplayed (command ∷ commands) end is are can honest =
      let act : step.act ≡ Plays command = cc in
      let rest : acts_of steps ++ unplayed ≡ acts_of_script providers (script_with commands end) = cc in
      let done = subst (λ (a : Act). IsStep trade tells here a step.luck step.behind) act are.0 in
      let all = subst (λ (a : Act). AllHonest trade (luck_before a step.luck (lucks_in steps)) here.sites
      (command ∷ commands)) act honest in (
        subst (λ (a : Act). IsHonestAct trade step.luck here.sites a) (sym act)
            (one_unforged trade step.luck here.sites command can.0 all.0 all.1),
        steps_honest step.behind steps unplayed commands end rest are.1 can.1
            (subst (λ (s : List Site). AllHonest trade (lucks_in steps) s commands) (sym done.0.state) all.2),
      )
