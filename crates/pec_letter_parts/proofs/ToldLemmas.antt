-- What one reading tells exactly, by other words and by one fault in place of its own.
use Rattle.std.proofs.Common.{◌≡◌, ◌↔◌, Result, Ok, Err, refl, ap, sym}
use Rattle.pec_types.specs.Answers.{TellsExactly}
use Rattle.pec_letter_parts.specs.Asking.{readable}
use Rattle.pec_letter_parts.specs.Told.{clash, err_is, ok_is}

-- what a reading can say, and one fault in place of its own
pub readable_told : {X D E : Type 0} (A : X → Type 0) (Q : Type 0) (e : E) (r : Result X D)
    → ((x : X) → (r ≡ Ok x) ↔ A x) → ((d : D) → r ≡ Err d → Q) → (Q → (x : X) → A x → ⊥)
    → TellsExactly A (λ f. (f ≡ e) × Q) (readable r e)
readable_told A Q e (Ok x) value why never = record {
  value = λ y. ((λ is. (value y).0 (ap Ok (ok_is (Ok x) x y refl is))), (λ a. ap Ok (ok_is (Ok x) x y refl ((value y).1 a))));
  fault = λ f. ((λ is. absurd (clash (Ok x) x f refl is)), (λ h. absurd (never h.1 x ((value x).0 refl))));
}
readable_told A Q e (Err d) value why never = record {
  value = λ y. ((λ is. absurd (clash (Err e) y e is refl)), (λ a. absurd (clash (Err d) y d ((value y).1 a) refl)));
  fault = λ f. ((λ is. (sym (err_is (Err e) e f refl is), why d refl)), (λ h. ap Err (sym h.0)));
}

-- the same by other words
pub same_told : {X E : Type 0} (A B : X → Type 0) (F G : E → Type 0) (r : Result X E)
    → ((x : X) → A x → B x) → ((x : X) → B x → A x) → ((f : E) → F f → G f) → ((f : E) → G f → F f)
    → TellsExactly A F r → TellsExactly B G r
same_told A B F G r ab ba fg gf told = record {
  value = λ x. ((λ is. ab x ((told.value x).0 is)), (λ b. (told.value x).1 (ba x b)));
  fault = λ f. ((λ is. fg f ((told.fault f).0 is)), (λ g. (told.fault f).1 (gf f g)));
}

-- a value that is given
pub given_told : {X E : Type 0} (z : X) → TellsExactly (λ x. x ≡ z) (λ (f : E). ⊥) (Ok z)
given_told z = record {
  value = λ x. ((λ is. ok_is (Ok z) x z is refl), (λ is. ap Ok (sym is)));
  fault = λ f. ((λ is. clash (Ok z) z f refl is), (λ none. absurd none));
}
