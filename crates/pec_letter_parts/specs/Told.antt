-- Exact answers, one after another: where a reading is told exactly, and so is what follows it, both together are (`then_told`); and
-- where a table is asked of what is read, what the table says is told exactly (`table_told`). It is for crates that read letters on.
use Rattle.std.specs.Prelude.{◌≡◌, ◌⊎◌, Result, Ok, Err}
use Rattle.std.proofs.Common.{inl, inr, refl, ap, sym, subst, ◌∙◌}
use Rattle.pec_types.specs.Answers.{Gives, ReadsExactly, TellsExactly, seen_as, told_is_read}
use Rattle.pec_types.specs.Results.{◌>>=◌}

-- the value that is answered, or else this one
abbrev value_or : {X E : Type 0} → X → Result X E → X
value_or other (Ok value) = value
value_or other (Err fault) = other

-- the fault that is answered, or else this one
abbrev fault_or : {X E : Type 0} → E → Result X E → E
fault_or other (Ok value) = other
fault_or other (Err fault) = fault

abbrev HasValue : {X E : Type 0} → Result X E → Type 0
HasValue (Ok value) = Unit {0}
HasValue (Err fault) = ⊥

-- no answer is a value and a fault
pub clash : {X E : Type 0} (r : Result X E) (x : X) (fault : E) → r ≡ Ok x → r ≡ Err fault → ⊥
clash r x fault a b = subst HasValue (sym a ∙ b) tt

-- an answer is one value at most, and one fault
pub ok_is : {X E : Type 0} (r : Result X E) (x y : X) → r ≡ Ok x → r ≡ Ok y → x ≡ y
ok_is r x y a b = ap (value_or x) (sym a ∙ b)

pub err_is : {X E : Type 0} (r : Result X E) (f g : E) → r ≡ Err f → r ≡ Err g → f ≡ g
err_is r f g a b = ap (fault_or f) (sym a ∙ b)

-- Both readings together are told exactly.
pub then_told : {X Y E : Type 0} (A : X → Type 0) (F : E → Type 0) (B : X → Y → Type 0) (G : X → E → Type 0) (r : Result X E) (k : X → Result Y E)
    → TellsExactly A F r → ((x : X) → TellsExactly (B x) (G x) (k x))
    → TellsExactly (λ y. (x : X) × (A x × B x y)) (λ f. F f ⊎ ((x : X) × (A x × G x f))) (r >>= k)
then_told A F B G (Ok x) k first next = record {
  value = λ y. (
    (λ is. (x, ((first.value x).0 refl, ((next x).value y).0 is))),
    (λ h. ap k (ok_is (Ok x) x h.0 refl ((first.value h.0).1 h.1.0)) ∙ ((next h.0).value y).1 h.1.1),
  );
  fault = λ f. (
    (λ is. inr (x, ((first.value x).0 refl, ((next x).fault f).0 is))),
    (λ h. elim h [
      | inl here ↦ absurd (clash (Ok x) x f refl ((first.fault f).1 here))
      | inr there ↦ ap k (ok_is (Ok x) x there.0 refl ((first.value there.0).1 there.1.0)) ∙ ((next there.0).fault f).1 there.1.1
    ]),
  );
}
then_told A F B G (Err e) k first next = record {
  value = λ y. (
    (λ is. absurd (clash (Err e) y e is refl)),
    (λ h. absurd (clash (Err e) h.0 e ((first.value h.0).1 h.1.0) refl)),
  );
  fault = λ f. (
    (λ is. inl ((first.fault f).0 (ap Err (err_is (Err e) e f refl is)))),
    (λ h. elim h [
      | inl here ↦ ap Err (err_is (Err e) e f refl ((first.fault f).1 here))
      | inr there ↦ absurd (clash (Err e) there.0 e ((first.value there.0).1 there.1.0) refl)
    ]),
  );
}

-- what a function answers, said of itself
pub itself_told : {X E : Type 0} (r : Result X E) → TellsExactly (λ x. r ≡ Ok x) (λ f. r ≡ Err f) r
itself_told r = record { value = λ x. ((λ is. is), (λ is. is)); fault = λ f. ((λ is. is), (λ is. is)) }

-- What is read, and what a table says of it, are told exactly.
pub table_told : {X Y E : Type 0} (A : X → Type 0) (F : E → Type 0) (k : X → Result Y E) (r : Result X E) → TellsExactly A F r
    → TellsExactly (λ y. (x : X) × (A x × (k x ≡ Ok y))) (λ f. F f ⊎ ((x : X) × (A x × (k x ≡ Err f)))) (r >>= k)
table_told A F k r told = then_told A F (λ x y. k x ≡ Ok y) (λ x f. k x ≡ Err f) r k told (λ x. itself_told (k x))

-- What a call answers is read exactly, where it is what is told exactly.
pub gives_read : {X Y E : Type 0} (A : Y → Type 0) (F : E → Type 0) (no_memory : E) (seen : X → Y) (answer : Result X E) (told : Result Y E)
    → TellsExactly A F told → Gives no_memory seen answer told → ReadsExactly A F no_memory (seen_as seen answer)
gives_read A F no_memory seen (Ok value) told tells same = told_is_read A F no_memory (Ok (seen value)) told tells same
gives_read A F no_memory seen (Err fault) told tells same = told_is_read A F no_memory (Err fault) told tells same
