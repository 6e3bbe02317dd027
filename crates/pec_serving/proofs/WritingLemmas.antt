-- Bytes that are written one after another.
use Rattle.std.proofs.Common.{◌≡◌, ℕ, List, [], ◌++◌, Option, None, Some, Result, Ok, Err, refl, sym, ap, ◌∙◌}
use Rattle.std.specs.Prelude.{OnErr}
use Rattle.std.proofs.lemmas.List.{append-nil, append_assoc}
use Rattle.pec_outside.specs.Flow.{WrotePart, followed_by}

pub followed_twice : (held : Option (List ℕ)) (a b : List ℕ) → followed_by (followed_by held a) b ≡ followed_by held (a ++ b)
followed_twice None a b = refl
followed_twice (Some bytes) a b = ap Some (append_assoc bytes a b)

pub followed_nothing : (held : Option (List ℕ)) → held ≡ followed_by held []
followed_nothing None = refl
followed_nothing (Some bytes) = ap Some (sym (append-nil bytes))

-- a front of more was written
pub part_behind : (held mid after : Option (List ℕ)) (first more : List ℕ) → mid ≡ followed_by held first
    → WrotePart mid after more → WrotePart held after (first ++ more)
part_behind held mid after first more written part = record {
  rest = part.rest;
  wrote = record {
    done = first ++ part.wrote.done;
    held = part.wrote.held
        ∙ ap (λ (o : Option (List ℕ)). followed_by o part.wrote.done) written
        ∙ followed_twice held first part.wrote.done;
    text = ap (λ (t : List ℕ). first ++ t) part.wrote.text ∙ sym (append_assoc first part.wrote.done part.rest);
  };
}

-- ---- three pieces

module _ (u v w x : Option (List ℕ)) (a b d : List ℕ) where
  pub all_three : v ≡ followed_by u a → w ≡ followed_by v b → x ≡ followed_by w d → x ≡ followed_by u (a ++ (b ++ d))
  all_three first second third =
      third ∙ ap (λ (o : Option (List ℕ)). followed_by o d) (second ∙ ap (λ (o : Option (List ℕ)). followed_by o b) first)
      ∙ followed_twice (followed_by u a) b d ∙ followed_twice u a (b ++ d)

-- a front of the first of several pieces
pub part_before : (held after : Option (List ℕ)) (first more : List ℕ) → WrotePart held after first
    → WrotePart held after (first ++ more)
part_before held after first more part = record {
  rest = part.rest ++ more;
  wrote = record {
    done = part.wrote.done;
    held = part.wrote.held;
    text = ap (λ (t : List ℕ). t ++ more) part.wrote.text ∙ append_assoc part.wrote.done part.rest more;
  };
}

pub on_err : {T E P : Type 0} (r : Result T E) → P → OnErr r P
on_err (Ok x) p = tt
on_err (Err e) p = p
