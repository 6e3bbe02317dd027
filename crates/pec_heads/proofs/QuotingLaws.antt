-- Quotes: what goes through `after` are quoted strings and bytes outside quotes, and these go through it.
use Rattle.std.proofs.Common.{◌≡◌, ℕ, List, [], ◌∷◌, ◌++◌, Bool, true, false, not, ◌||◌, cond, ◌⊎◌, inl, inr, refl, ap, sym, ◌∙◌, append_assoc}
use Rattle.std.proofs.lemmas.Bool.{eqb-true, or_right}
use Rattle.std.specs.List.{flat_map}
use Rattle.pec_types.specs.Bytes.{is_quote}
use Rattle.pec_heads.specs.Lists.{is_backslash, is_comma, Inner, plain, taken, inner_text, AllInner, Piece, bare, quoted, piece_text, AllPieces, IsPieces, IsUnclosed}
use Rattle.pec_heads.specs.ListReading.{is_outside, after}
use Rattle.pec_heads.specs.declared.quoting.Quoting.{Quoting}
use Rattle.pec_heads.specs.declared.quoting.Quoting.TheVariants.{Outside, Inside, Escaped}

pub quote_is : (b : ℕ) → is_quote b ≡ true → b ≡ 34
quote_is b e = eqb-true b 34 e

backslash_is : (b : ℕ) → is_backslash b ≡ true → b ≡ 92
backslash_is b e = eqb-true b 92 e

-- ---- what stands behind a place inside quotes: the rest of the string, and then this

pub record QuotedThen (Then : List ℕ → Type 0) (bytes : List ℕ) : Type 0 where
  pub inner : List Inner
  pub rest : List ℕ
  pub inner_is : AllInner inner
  pub rest_is : Then rest
  pub text : bytes ≡ flat_map inner_text inner ++ 34 ∷ rest

-- the quotes don't close again
pub record StaysOpen (bytes : List ℕ) : Type 0 where
  pub inner : List Inner
  pub tail : List ℕ
  pub inner_is : AllInner inner
  pub tail_is : (tail ≡ []) ⊎ (tail ≡ 92 ∷ [])
  pub text : bytes ≡ flat_map inner_text inner ++ tail

pub record Begins (Then : List ℕ → Type 0) (bytes : List ℕ) : Type 0 where
  pub byte : ℕ
  pub rest : List ℕ
  pub parts : bytes ≡ byte ∷ rest
  pub rest_is : Then rest

abbrev pub ClosedFrom : (ℕ → Bool) → Quoting → List ℕ → Type 0
ClosedFrom p Outside bytes = IsPieces p bytes
ClosedFrom p Inside bytes = QuotedThen (IsPieces p) bytes
ClosedFrom p Escaped bytes = Begins (QuotedThen (IsPieces p)) bytes

abbrev pub OpenInside : List ℕ → Type 0
OpenInside bytes = StaysOpen bytes ⊎ QuotedThen IsUnclosed bytes

abbrev pub OpenFrom : Quoting → List ℕ → Type 0
OpenFrom Outside bytes = IsUnclosed bytes
OpenFrom Inside bytes = OpenInside bytes
OpenFrom Escaped bytes = (bytes ≡ []) ⊎ Begins OpenInside bytes

-- one more byte in front, inside quotes
more_quoted : (Then : List ℕ → Type 0) (x : Inner) (bytes : List ℕ) → ((inner : List Inner) → AllInner inner → AllInner (x ∷ inner)) → QuotedThen Then bytes → QuotedThen Then (inner_text x ++ bytes)
more_quoted Then x bytes fits q = record {
  inner = x ∷ q.inner;
  rest = q.rest;
  inner_is = fits q.inner q.inner_is;
  rest_is = q.rest_is;
  text = ap (λ ys. inner_text x ++ ys) q.text ∙ sym (append_assoc (inner_text x) (flat_map inner_text q.inner) (34 ∷ q.rest));
}

more_open : (x : Inner) (bytes : List ℕ) → ((inner : List Inner) → AllInner inner → AllInner (x ∷ inner)) → OpenInside bytes → OpenInside (inner_text x ++ bytes)
more_open x bytes fits (inl s) = inl (record {
  inner = x ∷ s.inner;
  tail = s.tail;
  inner_is = fits s.inner s.inner_is;
  tail_is = s.tail_is;
  text = ap (λ ys. inner_text x ++ ys) s.text ∙ sym (append_assoc (inner_text x) (flat_map inner_text s.inner) s.tail);
})
more_open x bytes fits (inr q) = inr (more_quoted IsUnclosed x bytes fits q)

quoted_piece : (p : ℕ → Bool) (b : ℕ) (bytes : List ℕ) → b ≡ 34 → (q : QuotedThen (IsPieces p) bytes) → IsPieces p (b ∷ bytes)
quoted_piece p b bytes e q = record {
  pieces = quoted q.inner ∷ q.rest_is.pieces;
  each = (q.inner_is, q.rest_is.each);
  text = rw (e, q.text, q.rest_is.text, append_assoc) refl;
}

bare_piece : (p : ℕ → Bool) (b : ℕ) (bytes : List ℕ) → is_quote b ≡ false → p b ≡ true → IsPieces p bytes → IsPieces p (b ∷ bytes)
bare_piece p b bytes e f h = record { pieces = bare b ∷ h.pieces; each = (e, f, h.each); text = ap (λ ys. b ∷ ys) h.text }

closed_outside : (p : ℕ → Bool) (b : ℕ) (bytes : List ℕ) (t : Bool) → is_quote b ≡ t → (is_quote b ≡ false → p b ≡ true) → ClosedFrom p (cond t Inside Outside) bytes → IsPieces p (b ∷ bytes)
closed_outside p b bytes true e f h = quoted_piece p b bytes (quote_is b e) h
closed_outside p b bytes false e f h = bare_piece p b bytes e (f e) h

closed_escaped : (p : ℕ → Bool) (b : ℕ) (bytes : List ℕ) (t : Bool) → is_backslash b ≡ t → is_quote b ≡ false → ClosedFrom p (cond t Escaped Inside) bytes → QuotedThen (IsPieces p) (b ∷ bytes)
closed_escaped p b bytes true e f h = rw (backslash_is b e, h.parts) (more_quoted (IsPieces p) (taken h.byte) h.rest (λ inner i. i) h.rest_is)
closed_escaped p b bytes false e f h = more_quoted (IsPieces p) (plain b) bytes (λ inner i. (f, e, i)) h

closed_inside : (p : ℕ → Bool) (b : ℕ) (bytes : List ℕ) (t : Bool) → is_quote b ≡ t → ClosedFrom p (cond t Outside (cond (is_backslash b) Escaped Inside)) bytes → QuotedThen (IsPieces p) (b ∷ bytes)
closed_inside p b bytes true e h = record { inner = []; rest = bytes; inner_is = tt; rest_is = h; text = rw (quote_is b e) refl }
closed_inside p b bytes false e h = closed_escaped p b bytes (is_backslash b) refl e h

pub closed_step : (p : ℕ → Bool) (s : Quoting) (b : ℕ) (bytes : List ℕ) → (is_outside s ≡ true → is_quote b ≡ false → p b ≡ true) → ClosedFrom p (after s b) bytes → ClosedFrom p s (b ∷ bytes)
closed_step p Outside b bytes f h = closed_outside p b bytes (is_quote b) refl (f refl) h
closed_step p Inside b bytes f h = closed_inside p b bytes (is_quote b) refl h
closed_step p Escaped b bytes f h = record { byte = b; rest = bytes; parts = refl; rest_is = h }

no_pieces : (p : ℕ → Bool) → IsPieces p []
no_pieces p = record { pieces = []; each = tt; text = refl }

pub none_closed : (p : ℕ → Bool) (s : Quoting) → is_outside s ≡ true → ClosedFrom p s []
none_closed p Outside e = no_pieces p
none_closed p Inside e = absurd cc
none_closed p Escaped e = absurd cc

-- ---- quotes that don't close

open_quoted : (b : ℕ) (bytes : List ℕ) → b ≡ 34 → OpenInside bytes → IsUnclosed (b ∷ bytes)
open_quoted b bytes e (inl s) = record {
  front = [];
  inner = s.inner;
  tail = s.tail;
  front_is = no_pieces (λ c. not (is_comma c));
  inner_is = s.inner_is;
  tail_is = s.tail_is;
  text = rw (e, s.text) refl;
}
open_quoted b bytes e (inr q) = record {
  front = b ∷ (flat_map inner_text q.inner ++ 34 ∷ q.rest_is.front);
  inner = q.rest_is.inner;
  tail = q.rest_is.tail;
  front_is = quoted_piece (λ c. not (is_comma c)) b (flat_map inner_text q.inner ++ 34 ∷ q.rest_is.front) e
      (record { inner = q.inner; rest = q.rest_is.front; inner_is = q.inner_is; rest_is = q.rest_is.front_is; text = refl });
  inner_is = q.rest_is.inner_is;
  tail_is = q.rest_is.tail_is;
  text = rw (q.text, q.rest_is.text, append_assoc) refl;
}

open_bare : (b : ℕ) (bytes : List ℕ) → is_quote b ≡ false → not (is_comma b) ≡ true → IsUnclosed bytes → IsUnclosed (b ∷ bytes)
open_bare b bytes e f u = record {
  front = b ∷ u.front;
  inner = u.inner;
  tail = u.tail;
  front_is = bare_piece (λ c. not (is_comma c)) b u.front e f u.front_is;
  inner_is = u.inner_is;
  tail_is = u.tail_is;
  text = ap (λ ys. b ∷ ys) u.text;
}

open_outside : (b : ℕ) (bytes : List ℕ) (t : Bool) → is_quote b ≡ t → (is_quote b ≡ false → not (is_comma b) ≡ true) → OpenFrom (cond t Inside Outside) bytes → IsUnclosed (b ∷ bytes)
open_outside b bytes true e f h = open_quoted b bytes (quote_is b e) h
open_outside b bytes false e f h = open_bare b bytes e (f e) h

open_escaped : (b : ℕ) (bytes : List ℕ) (t : Bool) → is_backslash b ≡ t → is_quote b ≡ false → OpenFrom (cond t Escaped Inside) bytes → OpenInside (b ∷ bytes)
open_escaped b bytes true e f (inl none) = inl (record { inner = []; tail = 92 ∷ []; inner_is = tt; tail_is = inr refl; text = rw (backslash_is b e, none) refl })
open_escaped b bytes true e f (inr h) = rw (backslash_is b e, h.parts) (more_open (taken h.byte) h.rest (λ inner i. i) h.rest_is)
open_escaped b bytes false e f h = more_open (plain b) bytes (λ inner i. (f, e, i)) h

open_inside : (b : ℕ) (bytes : List ℕ) (t : Bool) → is_quote b ≡ t → OpenFrom (cond t Outside (cond (is_backslash b) Escaped Inside)) bytes → OpenInside (b ∷ bytes)
open_inside b bytes true e h = inr (record { inner = []; rest = bytes; inner_is = tt; rest_is = h; text = rw (quote_is b e) refl })
open_inside b bytes false e h = open_escaped b bytes (is_backslash b) refl e h

pub open_step : (s : Quoting) (b : ℕ) (bytes : List ℕ) → (is_outside s ≡ true → is_quote b ≡ false → not (is_comma b) ≡ true) → OpenFrom (after s b) bytes → OpenFrom s (b ∷ bytes)
open_step Outside b bytes f h = open_outside b bytes (is_quote b) refl (f refl) h
open_step Inside b bytes f h = open_inside b bytes (is_quote b) refl h
open_step Escaped b bytes f h = inr (record { byte = b; rest = bytes; parts = refl; rest_is = h })

-- at the end
pub at_end : (s : Quoting) → ClosedFrom (λ b. not (is_comma b)) s [] ⊎ OpenFrom s []
at_end Outside = inl (no_pieces (λ b. not (is_comma b)))
at_end Inside = inr (inl (record { inner = []; tail = []; inner_is = tt; tail_is = inl refl; text = refl }))
at_end Escaped = inr (inl refl)

-- ---- and back: a function that goes over bytes by `after`, goes over pieces

abbrev pub pushed : {X : Type 0} → (ℕ → X → X) → List ℕ → X → X
pushed push [] x = x
pushed push (b ∷ bs) x = push b (pushed push bs x)

pub pushed-append : {X : Type 0} (push : ℕ → X → X) (xs ys : List ℕ) (x : X) → pushed push (xs ++ ys) x ≡ pushed push xs (pushed push ys x)
pushed-append push [] ys x = refl
pushed-append push (b ∷ xs) ys x = ap (push b) (pushed-append push xs ys x)

-- a byte that is gone over: inside quotes any, outside a quote or one that passes
abbrev pub may_pass : (ℕ → Bool) → Quoting → ℕ → Bool
may_pass p s b = not (is_outside s) || (is_quote b || p b)

pub record GoesOver {X : Type 0} (p : ℕ → Bool) (F : Quoting → List ℕ → X) (push : ℕ → X → X) : Type 0 where
  pub step : (s : Quoting) (b : ℕ) (bs : List ℕ) → may_pass p s b ≡ true → F s (b ∷ bs) ≡ push b (F (after s b) bs)

over_inner : {X : Type 0} (p : ℕ → Bool) (F : Quoting → List ℕ → X) (push : ℕ → X → X) → GoesOver p F push → (inner : List Inner) (more : List ℕ) → AllInner inner
    → F Inside (flat_map inner_text inner ++ more) ≡ pushed push (flat_map inner_text inner) (F Inside more)
over_inner p F push g [] more i = refl
over_inner p F push g (plain b ∷ inner) more i =
    g.step Inside b (flat_map inner_text inner ++ more) refl ∙ rw (i.0, i.1) (ap (push b) (over_inner p F push g inner more i.2))
over_inner p F push g (taken b ∷ inner) more i =
    g.step Inside 92 (b ∷ (flat_map inner_text inner ++ more)) refl
    ∙ ap (push 92) (g.step Escaped b (flat_map inner_text inner ++ more) refl ∙ ap (push b) (over_inner p F push g inner more i))

pub over_quoted : {X : Type 0} (p : ℕ → Bool) (F : Quoting → List ℕ → X) (push : ℕ → X → X) → GoesOver p F push → (inner : List Inner) (more : List ℕ) → AllInner inner
    → F Outside (34 ∷ (flat_map inner_text inner ++ more)) ≡ pushed push (34 ∷ flat_map inner_text inner) (F Inside more)
over_quoted p F push g inner more i = g.step Outside 34 (flat_map inner_text inner ++ more) refl ∙ ap (push 34) (over_inner p F push g inner more i)

pub over_pieces : {X : Type 0} (p : ℕ → Bool) (F : Quoting → List ℕ → X) (push : ℕ → X → X) → GoesOver p F push → (pieces : List Piece) (more : List ℕ) → AllPieces p pieces
    → F Outside (flat_map piece_text pieces ++ more) ≡ pushed push (flat_map piece_text pieces) (F Outside more)
over_pieces p F push g [] more h = refl
over_pieces p F push g (bare b ∷ pieces) more h =
    g.step Outside b (flat_map piece_text pieces ++ more) (or_right (is_quote b) (p b) h.1) ∙ rw h.0 (ap (push b) (over_pieces p F push g pieces more h.2))
over_pieces {X} p F push g (quoted inner ∷ pieces) more h =
    let in_text : List ℕ = flat_map inner_text inner
    in let text : List ℕ = flat_map piece_text pieces
    in let parts : ((in_text ++ 34 ∷ []) ++ text) ++ more ≡ in_text ++ 34 ∷ (text ++ more) =
    append_assoc (in_text ++ 34 ∷ []) text more ∙ append_assoc in_text (34 ∷ []) (text ++ more)
    in ap (λ ys. F Outside (34 ∷ ys)) parts
    ∙ over_quoted p F push g inner (34 ∷ (text ++ more)) h.0
    ∙ ap (λ y. push 34 (pushed push in_text y)) (g.step Inside 34 (text ++ more) refl ∙ ap (push 34) (over_pieces p F push g pieces more h.1))
    ∙ sym (ap (push 34) (pushed-append push (in_text ++ 34 ∷ []) text (F Outside more) ∙ pushed-append push in_text (34 ∷ []) (pushed push text (F Outside more))))
