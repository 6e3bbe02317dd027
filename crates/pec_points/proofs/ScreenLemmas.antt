-- What the screens say behind the rows before theirs, and which messages reach them.
use Rattle.std.proofs.Common.{◌≡◌, ℕ, Bool, true, false, List, [], ◌∷◌, ◌++◌, cond, Option, Some, None, refl, ap, sym, subst, ◌∙◌}
use Rattle.std.proofs.lemmas.Bool.{false≢true}
use Rattle.std.specs.List.{find}
use Rattle.std.specs.Option.{option_and_then}
use Rattle.pec_types.specs.Tables.{NoneApplies, first_again, none_again, none_is}
use Rattle.pec_types.specs.declared.messages.Facts.{Facts}
use Rattle.pec_types.specs.declared.messages.Cause.{Cause}
use Rattle.pec_types.specs.declared.messages.Cause.TheVariants.{Virus}
use Rattle.pec_heads.specs.FactsReading.{facts_of}
use Rattle.pec_points.specs.Case.{Case, unscreened}
use Rattle.pec_points.specs.Admission.{Applies, Looked, ReachesScreens, earlier_rows, rows}
use Rattle.pec_points.specs.AdmissionReading.{admission_of, admission_with, admitted, applies, head_in, screened, seen_behind}
use Rattle.pec_points.specs.declared.admission.Admission.{Admission}
use Rattle.pec_points.specs.declared.admission.Admission.TheVariants.{Accepted, Not}
use Rattle.pec_points.proofs.Ties.{Ties}
use Rattle.pec_points.proofs.HeadLemmas.{no_some}
use Rattle.pec_points.proofs.AdmissionLemmas.{Admitted, Says, admission_says, each_row, with_some_head}

-- ---- the last row

abbrev with_last : Bool → Option Cause → Option Cause
with_last found (Some cause) = Some cause
with_last true None = Some Virus
with_last false None = None

last_here : (t : Bool) → cond t (Some Virus) None ≡ with_last t None
last_here true = refl
last_here false = refl

last_later : (t found : Bool) (row : Cause) (rest more : Option Cause) → more ≡ with_last found rest
    → cond t (Some row) more ≡ with_last found (cond t (Some row) rest)
last_later true found row rest more e = refl
last_later false found row rest more e = e

find_last : (test : Cause → Bool) (front : List Cause) → find test (front ++ Virus ∷ []) ≡ with_last (test Virus) (find test front)
find_last test [] = last_here (test Virus)
find_last test (row ∷ front) =
    last_later (test row) (test Virus) row (find test front) (find test (front ++ Virus ∷ [])) (find_last test front)

none_last : (cause : Option Cause) → with_last false cause ≡ cause
none_last (Some cause) = refl
none_last None = refl

screened_by : (found : Bool) (cause : Option Cause) (facts : Option Facts) → (cause ≡ None → (f : Facts) × (facts ≡ Some f))
    → admitted (with_last found cause) facts ≡ screened found (admitted cause facts)
screened_by true (Some cause) facts there = refl
screened_by false (Some cause) facts there = refl
screened_by true None (Some facts) there = refl
screened_by false None (Some facts) there = refl
screened_by found None None there = absurd (let h = there refl in let e = h.1 in cc)

-- ---- rows that don't apply

front_none : {Row : Type 0} (Applies : Row → Type 0) (front : List Row) (last : Row) → NoneApplies Applies (front ++ last ∷ []) → NoneApplies Applies front
front_none Applies [] last none = tt
front_none Applies (row ∷ front) last none = (none.0, front_none Applies front last none.1)

none_push : {Row : Type 0} (Applies : Row → Type 0) (front : List Row) (last : Row) → NoneApplies Applies front → (Applies last → ⊥)
    → NoneApplies Applies (front ++ last ∷ [])
none_push Applies [] last none not_last = (not_last, tt)
none_push Applies (row ∷ front) last none not_last = (none.0, none_push Applies front last none.1 not_last)

module _ (ties : Ties) where
  earlier_none : (case : Case) → find (applies case) earlier_rows ≡ None → find (applies (unscreened case)) rows ≡ None
  earlier_none case e = find_last (applies (unscreened case)) earlier_rows ∙ ap (with_last false) e

  facts_there : (case : Case) → find (applies case) earlier_rows ≡ None
      → (f : Facts) × (option_and_then facts_of (head_in case.message) ≡ Some f)
  facts_there case e =
      let plain = unscreened case in
      let there = with_some_head ties plain (none_is (applies plain) (Applies plain) (each_row ties plain) rows (earlier_none case e)) (head_in case.message) refl
      in (there.facts, there.facts_are)

  -- The answer is that of the rows before the screens', and where these accept the message, what the screens say.
  pub screens_last : (case : Case) → admission_of case ≡ screened case.found (admission_of (unscreened case))
  unfolding admission_of admission_with
  screens_last case =
      let facts = option_and_then facts_of (head_in case.message) in
      let earlier = find (applies case) earlier_rows in
      ap (λ cause. admitted cause facts) (find_last (applies case) earlier_rows)
      ∙ (screened_by case.found earlier facts (facts_there case)
      ∙ ap (λ cause. screened case.found (admitted cause facts))
      (sym (none_last earlier) ∙ sym (find_last (applies (unscreened case)) earlier_rows)))

  -- ---- which messages reach the screens

  abbrev Reach : Case → Admission → Type 0
  Reach case (Accepted facts) = ReachesScreens case
  Reach case (Not cause) = ReachesScreens case → ⊥

  reach_by : (case : Case) (admission : Admission) → Says (unscreened case) admission → Reach case admission
  reach_by case (Accepted facts) says = front_none (Applies (unscreened case)) earlier_rows Virus says.none
  reach_by case (Not cause) says = λ none.
      let plain = unscreened case in
      no_some (find (applies plain) rows) cause
      (none_again (applies plain) (Applies plain) (each_row ties plain) rows (none_push (Applies plain) earlier_rows Virus none (λ e. false≢true e)))
      (first_again (applies plain) (Applies plain) (each_row ties plain) rows cause says)

  pub reaches : (case : Case) (admission : Admission) → admission_of (unscreened case) ≡ admission → Reach case admission
  reaches case admission e = subst (Reach case) e (reach_by case (admission_of (unscreened case)) (admission_says ties (unscreened case)))

-- How often each screen looked, by the answer of the rows before theirs.
pub looked_by : ((case : Case) (facts : Facts) → admission_of (unscreened case) ≡ Accepted facts → ReachesScreens case)
    → ((case : Case) (cause : Cause) → admission_of (unscreened case) ≡ Not cause → ReachesScreens case → ⊥)
    → (case : Case) (earlier : Admission) (before after : List ℕ) → earlier ≡ admission_of (unscreened case)
    → after ≡ seen_behind earlier before → Looked case before after
looked_by reached unreached case (Accepted facts) before after is e =
    record { once = λ reaches. e; never = λ not. absurd (not (reached case facts (sym is))) }
looked_by reached unreached case (Not cause) before after is e =
    record { once = λ reaches. absurd (unreached case cause (sym is) reaches); never = λ not. e }
