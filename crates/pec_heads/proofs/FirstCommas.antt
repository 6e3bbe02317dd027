-- The first comma of a text, where no quote stands before it, is the first outside quotes.
use Rattle.std.proofs.Common.{◌≡◌, ℕ, Bool, true, false, not, ◌&&◌, [], ◌∷◌, ◌++◌, length, take, Some, None, refl, ap, subst, sym, ◌∙◌, arith}
use Rattle.std.proofs.lemmas.Bool.{and_parts, not-true}
use Rattle.std.proofs.Math.Seq.{take-append_seam}
use Rattle.std.specs.List.{list_all, position}
use Rattle.pec_types.specs.Bytes.{Bytes, is_quote}
use Rattle.pec_heads.specs.Bytes.{NonePass}
use Rattle.pec_heads.specs.Lists.{is_comma}
use Rattle.pec_heads.specs.ListReading.{after, comma_from, is_outside}
use Rattle.pec_heads.specs.declared.quoting.Quoting.{Quoting}
use Rattle.pec_heads.specs.declared.quoting.Quoting.TheVariants.{Outside}
use Rattle.pec_heads.proofs.Places.{first_of, none_of}

and_false : (x : Bool) → (x && false) ≡ false
and_false true = refl
and_false false = refl

comma_absent : (q : Quoting) (text : Bytes) → NonePass is_comma text → comma_from q text ≡ None
comma_absent q [] none = refl
comma_absent q (b ∷ bs) none =
    let p = and_parts (not (is_comma b)) (list_all (λ x. not (is_comma x)) bs) none
    in rw (not-true (is_comma b) p.0, and_false (is_outside q), comma_absent (after q b) bs p.1) refl

comma_first : (front : Bytes) (b : ℕ) (back : Bytes) → NonePass is_comma front → NonePass is_quote front → is_comma b ≡ true
    → comma_from Outside (front ++ b ∷ back) ≡ Some (length front)
comma_first [] b back none plain passes = rw passes refl
comma_first (a ∷ front) b back none plain passes =
    let p = and_parts (not (is_comma a)) (list_all (λ x. not (is_comma x)) front) none
    in let u = and_parts (not (is_quote a)) (list_all (λ x. not (is_quote x)) front) plain
    in rw (not-true (is_comma a) p.0, not-true (is_quote a) u.0, comma_first front b back p.1 u.1 passes) (ap Some (omega arith))

front_cut : (text front : Bytes) (b : ℕ) (back : Bytes) (k : ℕ) → text ≡ front ++ b ∷ back → k ≡ length front → take k text ≡ front
front_cut text front b back k e at = rw (e, at, take-append_seam) refl

pub comma_none : (text : Bytes) → position is_comma text ≡ None → comma_from Outside text ≡ None
comma_none text e = comma_absent Outside text (none_of is_comma text e)

pub comma_plain : (text : Bytes) (k : ℕ) → position is_comma text ≡ Some k → position is_quote (take k text) ≡ None
    → comma_from Outside text ≡ Some k
comma_plain text k e plain =
    let f = first_of is_comma text k e
    in let front : Bytes = f.0
    in let cut = front_cut text front f.1.0.byte f.1.0.back k f.1.0.parts f.1.1
    in let quoteless = none_of is_quote front (subst (λ (bytes : Bytes). position is_quote bytes ≡ None) cut plain)
    in ap (comma_from Outside) f.1.0.parts ∙ comma_first front f.1.0.byte f.1.0.back f.1.0.before quoteless f.1.0.passes ∙ ap Some (sym f.1.1)
