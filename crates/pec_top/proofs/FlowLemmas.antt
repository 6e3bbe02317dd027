-- Lemmas on bytes that are written one after another, and before a fault.
use Rattle.std.proofs.Common.{◌≡◌, ℕ, List, [], ◌++◌, Option, None, Some, Result, Ok, Err, OnErr, refl, sym, ap, ◌∙◌}
use Rattle.std.proofs.Common.{append_assoc}
use Rattle.std.proofs.lemmas.List.{append-nil}
use Rattle.pec_outside.specs.Flow.{followed_by, Wrote, WrotePart}

pub followed_by-append : (o : Option (List ℕ)) (a b : List ℕ) → followed_by (followed_by o a) b ≡ followed_by o (a ++
    b)
followed_by-append None a b = refl
followed_by-append (Some bytes) a b = ap Some (append_assoc bytes a b)

pub followed_by-nil : (o : Option (List ℕ)) → followed_by o [] ≡ o
followed_by-nil None = refl
followed_by-nil (Some bytes) = ap Some (append-nil bytes)

-- one more piece was written
pub wrote_more : (u v w : Option (List ℕ)) (all now piece more : List ℕ) → Wrote u v all now → w ≡ followed_by v piece
    → now ≡ piece ++ more → Wrote u w all more
wrote_more u v w all now piece more wrote written cut = record {
  done = wrote.done ++ piece;
  held = written ∙ ap (λ o. followed_by o piece) wrote.held ∙ followed_by-append u wrote.done piece;
  text = wrote.text ∙ ap (λ rest. wrote.done ++ rest) cut ∙ sym (append_assoc wrote.done piece more);
}

-- a part of one more piece was written
pub wrote_part : (u v w : Option (List ℕ)) (all now piece more : List ℕ) → Wrote u v all now → WrotePart v w piece
    → now ≡ piece ++ more → WrotePart u w all
wrote_part u v w all now piece more wrote part cut = record {
  rest = part.rest ++ more;
  wrote = wrote_more u v w all now part.wrote.done (part.rest ++ more) wrote part.wrote.held
      (cut ∙ ap (λ front. front ++ more) part.wrote.text ∙ append_assoc part.wrote.done part.rest more);
}

-- the last piece was written
pub wrote_last : (u v w : Option (List ℕ)) (all now piece : List ℕ) → Wrote u v all now → w ≡ followed_by v piece
    → now ≡ piece → w ≡ followed_by u all
wrote_last u v w all now piece wrote written cut =
    let whole : Wrote u w all [] = wrote_more u v w all now piece [] wrote written (cut ∙ sym (append-nil piece)) in
    whole.held ∙ ap (λ done. followed_by u done) (sym (whole.text ∙ append-nil whole.done))

-- nothing was written yet
pub wrote_nothing : (u : Option (List ℕ)) (text : List ℕ) → WrotePart u u text
wrote_nothing u text = record {
  rest = text;
  wrote = record {
    done = [];
    held = sym (followed_by-nil u);
    text = refl;
  };
}

pub on_err : {T E P : Type 0} (r : Result T E) → P → OnErr r P
on_err (Ok x) p = tt
on_err (Err e) p = p
