-- Lemmas on images of disks in memory: the front of a log up to the call of a number.
use Rattle.std.proofs.Common.{◌≡◌, ℕ, zero, suc, ◌+◌, ◌-◌, ◌<◌, ◌≤◌, Bool, true, false, if◌then◌else◌, List, [], ◌∷◌, ◌++◌, map, length, get_or, take, drop, refl, sym, ap, ◌∙◌, subst, arith}
use Rattle.std.specs.List.{count_by}
use Rattle.std.proofs.lemmas.List.{at_drop_more, append_assoc}
use Rattle.std.proofs.lemmas.List.Sums.{sum_by-cons}
use Rattle.pec_outside.specs.declared.disk_log.Step as program
use Rattle.pec_outside.specs.DiskLog.{step_of}
use Rattle.pec_outside.specs.MemoryDisk.{Step, LeftSince, after_crash, front_of, held_of, is_call}
use Rattle.pec_outside.proofs.StepLemmas.{crash_left}

-- ---- a front is some of the first steps

record IsFront (front log : List Step) : Type 0 where
  pub within : length front ≤ length log
  pub is : take (length front) log ≡ front

one_more : (step : Step) (front log : List Step) → IsFront front log → IsFront (step ∷ front) (step ∷ log)
one_more step front log here = record { within = omega (arith, here.within); is = ap (λ rest. step ∷ rest) here.is }

front_is : (calls : ℕ) (log : List Step) → IsFront (front_of calls log) log
front_is calls [] = record { within = omega arith; is = refl }
front_is zero (step ∷ log) = record { within = omega arith; is = refl }
front_is (suc calls) (step ∷ log) =
    one_more step (front_of (if is_call step then calls else suc calls) log) log (front_is (if is_call step then calls else suc calls) log)

pub front_left : (log : List Step) (calls kept since : ℕ) → since ≤ length (front_of calls log) → LeftSince log since (held_of (after_crash (front_of calls log) kept)).bytes
front_left log calls kept since from =
    let here = front_is calls log in
    record {
      steps = length (front_of calls log);
      from = from;
      within = here.within;
      leaves = subst (λ (l : List Step). (held_of l).images (held_of (after_crash (front_of calls log) kept)).bytes) (sym here.is) (crash_left (front_of calls log) kept);
    }

-- ---- it has that many calls

abbrev count_of : Bool → ℕ
count_of call = if call then 1 else 0

count_cons : (step : Step) (log : List Step) → count_by is_call (step ∷ log) ≡ count_of (is_call step) + count_by is_call log
count_cons step log = sum_by-cons (λ (s : Step). count_of (is_call s)) step log

count_step : (step : Step) (log : List Step) (calls : ℕ) → ((k : ℕ) → k ≤ count_by is_call log → count_by is_call (front_of k log) ≡ k)
    → suc calls ≤ count_by is_call (step ∷ log) → (call : Bool) → is_call step ≡ call
    → count_by is_call (step ∷ front_of (if is_call step then calls else suc calls) log) ≡ suc calls
count_step step log calls below within true is =
    let one : count_of (is_call step) ≡ 1 = ap count_of is in
    let rest : count_by is_call (front_of (if is_call step then calls else suc calls) log) ≡ count_by is_call (front_of calls log) =
    ap (λ (b : Bool). count_by is_call (front_of (if b then calls else suc calls) log)) is in
    let here = below calls (omega (arith, within, count_cons step log, one)) in
    omega (arith, count_cons step (front_of (if is_call step then calls else suc calls) log), one, rest, here)
count_step step log calls below within false is =
    let one : count_of (is_call step) ≡ 0 = ap count_of is in
    let rest : count_by is_call (front_of (if is_call step then calls else suc calls) log) ≡ count_by is_call (front_of (suc calls) log) =
    ap (λ (b : Bool). count_by is_call (front_of (if b then calls else suc calls) log)) is in
    let here = below (suc calls) (omega (arith, within, count_cons step log, one)) in
    omega (arith, count_cons step (front_of (if is_call step then calls else suc calls) log), one, rest, here)

pub front_count : (log : List Step) (calls : ℕ) → calls ≤ count_by is_call log → count_by is_call (front_of calls log) ≡ calls
front_count [] zero within = refl
front_count [] (suc calls) within = absurd (omega (arith, within))
front_count (step ∷ log) zero within = refl
front_count (step ∷ log) (suc calls) within = count_step step log calls (λ k w. front_count log k w) within (is_call step) refl

-- ---- one step of it is done again

pub front_none : (calls : ℕ) (log : List Step) → calls ≡ 0 → front_of calls log ≡ []
front_none calls [] none = refl
front_none zero (step ∷ log) none = refl
front_none (suc calls) (step ∷ log) none = absurd (omega (arith, none))

front_more : (calls : ℕ) (step : Step) (log : List Step) → 0 < calls → front_of calls (step ∷ log) ≡ step ∷ front_of (if is_call step then calls - 1 else calls) log
front_more zero step log more = absurd (omega (arith, more))
front_more (suc calls) step log more =
    let less : calls ≡ suc calls - 1 = omega arith in
    ap (λ (k : ℕ). step ∷ front_of (if is_call step then k else suc calls) log) less

pub goes_on : (all done new : List Step) (steps : List program.Step) (i calls left : ℕ) (d : program.Step) (step : Step)
    → all ≡ done ++ front_of calls (map step_of (drop i steps)) → i < length steps → 0 < calls
    → step_of (get_or steps i d) ≡ step → new ≡ done ++ step ∷ [] → left ≡ (if is_call step then calls - 1 else calls)
    → all ≡ new ++ front_of left (map step_of (drop (i + 1) steps))
goes_on all done new steps i calls left d step before within more is pushed behind =
    let rest = map step_of (drop (i + 1) steps) in
    before
    ∙ at_drop_more (λ (xs : List program.Step). done ++ front_of calls (map step_of xs)) steps i d within
    ∙ ap (λ (s : Step). done ++ front_of calls (s ∷ rest)) is
    ∙ ap (λ (xs : List Step). done ++ xs) (front_more calls step rest more)
    ∙ ap (λ (k : ℕ). done ++ (step ∷ front_of k rest)) (sym behind)
    ∙ sym (append_assoc done (step ∷ []) (front_of left rest))
    ∙ ap (λ (xs : List Step). xs ++ front_of left rest) (sym pushed)
