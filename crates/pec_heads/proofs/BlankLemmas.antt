-- Blanks at the ends of bytes, cut off.
use Rattle.std.proofs.Common.{◌≡◌, ℕ, List, [], ◌∷◌, ◌++◌, Bool, true, false, refl, ap, sym, ◌∙◌, append_assoc}
use Rattle.std.specs.List.{list_all}
use Rattle.std.proofs.lemmas.Bool.{and_parts, and_from, cond_both}
use Rattle.std.proofs.lemmas.List.{append-nil}
use Rattle.pec_heads.specs.Bytes.{is_blank, AreBlanks, begins_blank, ends_blank, before_cut, cut_blanks, skip_blanks, trimmed, IsTrimmed}

-- the last byte, a blank or not
last_blank : (xs : List ℕ) (b : ℕ) → is_blank b ≡ true → cut_blanks (xs ++ b ∷ []) ≡ cut_blanks xs
last_blank [] b e = rw e refl
last_blank (x ∷ xs) b e = ap (before_cut x) (last_blank xs b e)

put_before : (x b : ℕ) (xs : List ℕ) → before_cut x (xs ++ b ∷ []) ≡ x ∷ (xs ++ b ∷ [])
put_before x b [] = refl
put_before x b (y ∷ xs) = refl

last_stays : (xs : List ℕ) (b : ℕ) → is_blank b ≡ false → cut_blanks (xs ++ b ∷ []) ≡ xs ++ b ∷ []
last_stays [] b e = rw e refl
last_stays (x ∷ xs) b e = ap (before_cut x) (last_stays xs b e) ∙ put_before x b xs

pub cut_one : (xs ys : List ℕ) (b : ℕ) → ys ≡ xs ++ b ∷ [] → is_blank b ≡ true → cut_blanks ys ≡ cut_blanks xs
cut_one xs ys b e t = rw e (last_blank xs b t)

pub cut_none : (xs ys : List ℕ) (b : ℕ) → ys ≡ xs ++ b ∷ [] → is_blank b ≡ false → cut_blanks ys ≡ ys
cut_none xs ys b e t = rw e (last_stays xs b t)

-- ---- that what is left is what stands between the blanks

pub record IsSkipped (bytes : List ℕ) : Type 0 where
  pub left : List ℕ
  pub parts : bytes ≡ left ++ skip_blanks bytes
  pub blank : AreBlanks left
  pub begins : begins_blank (skip_blanks bytes) ≡ false

skipped_one : (b : ℕ) (bs : List ℕ) → is_blank b ≡ true → IsSkipped bs → IsSkipped (b ∷ bs)
skipped_one b bs t h = record {
  left = b ∷ h.left;
  parts = rw t (ap (λ xs. b ∷ xs) h.parts);
  blank = and_from (is_blank b) (list_all is_blank h.left) t h.blank;
  begins = rw t h.begins;
}

skipped_none : (b : ℕ) (bs : List ℕ) → is_blank b ≡ false → IsSkipped (b ∷ bs)
skipped_none b bs t = record { left = []; parts = rw t refl; blank = refl; begins = rw t t }

skipped_case : (b : ℕ) (bs : List ℕ) (t : Bool) → is_blank b ≡ t → IsSkipped bs → IsSkipped (b ∷ bs)
skipped_case b bs true e h = skipped_one b bs e h
skipped_case b bs false e h = skipped_none b bs e

pub skipped : (bytes : List ℕ) → IsSkipped bytes
skipped [] = record { left = []; parts = refl; blank = refl; begins = refl }
skipped (b ∷ bs) = skipped_case b bs (is_blank b) refl (skipped bs)

pub record IsCut (bytes value : List ℕ) : Type 0 where
  pub right : List ℕ
  pub parts : bytes ≡ value ++ right
  pub blank : AreBlanks right
  pub ends : ends_blank value ≡ false

cut_case : (b : ℕ) (bs value : List ℕ) → IsCut bs value → IsCut (b ∷ bs) (before_cut b value)
cut_case b bs (c ∷ value) h = record { right = h.right; parts = ap (λ xs. b ∷ xs) h.parts; blank = h.blank; ends = h.ends }
cut_case b bs [] h =
    cond_both (is_blank b) [] (b ∷ []) (IsCut (b ∷ bs))
    (λ t. record { right = b ∷ bs; parts = refl; blank = and_from (is_blank b) (list_all is_blank bs) t (rw (← h.parts) at h.blank); ends = refl })
    (λ t. record { right = h.right; parts = ap (λ xs. b ∷ xs) h.parts; blank = h.blank; ends = t })

pub cut_is : (bytes : List ℕ) → IsCut bytes (cut_blanks bytes)
cut_is [] = record { right = []; parts = refl; blank = refl; ends = refl }
cut_is (b ∷ bs) = cut_case b bs (cut_blanks bs) (cut_is bs)

-- what begins with no blank doesn't once its end is cut
begins_cut : (bytes value right : List ℕ) → bytes ≡ value ++ right → begins_blank bytes ≡ false → begins_blank value ≡ false
begins_cut bytes [] right e h = refl
begins_cut bytes (b ∷ value) right e h = rw e at h

pub trimmed_is : (bytes : List ℕ) → IsTrimmed bytes (trimmed bytes)
unfolding trimmed
trimmed_is bytes =
    let s = skipped bytes
    in let c = cut_is (skip_blanks bytes)
    in record {
      left = s.left;
      right = c.right;
      parts = s.parts ∙ ap (λ xs. s.left ++ xs) c.parts ∙ sym (append_assoc s.left (cut_blanks (skip_blanks bytes)) c.right);
      left_blank = s.blank;
      right_blank = c.blank;
      begins = begins_cut (skip_blanks bytes) (cut_blanks (skip_blanks bytes)) c.right c.parts s.begins;
      ends = c.ends;
    }

-- and back

skip_left : (left bytes : List ℕ) → AreBlanks left → skip_blanks (left ++ bytes) ≡ skip_blanks bytes
skip_left [] bytes h = refl
skip_left (b ∷ left) bytes h = let p = and_parts (is_blank b) (list_all is_blank left) h in rw p.0 (skip_left left bytes p.1)

skip_none : (bytes : List ℕ) → begins_blank bytes ≡ false → skip_blanks bytes ≡ bytes
skip_none [] h = refl
skip_none (b ∷ bs) h = rw h refl

cut_all : (right : List ℕ) → AreBlanks right → cut_blanks right ≡ []
cut_all [] h = refl
cut_all (b ∷ right) h = let p = and_parts (is_blank b) (list_all is_blank right) h in rw (cut_all right p.1, p.0) refl

pub cut_right : (value right : List ℕ) → AreBlanks right → ends_blank value ≡ false → cut_blanks (value ++ right) ≡ value
cut_right [] right h e = cut_all right h
cut_right (b ∷ []) right h e = rw (cut_all right h, e) refl
cut_right (b ∷ c ∷ value) right h e = ap (before_cut b) (cut_right (c ∷ value) right h e)

skip_all : (right : List ℕ) → AreBlanks right → skip_blanks right ≡ []
skip_all [] h = refl
skip_all (b ∷ right) h = let p = and_parts (is_blank b) (list_all is_blank right) h in rw p.0 (skip_all right p.1)

skip_blank_value : (value right : List ℕ) → begins_blank value ≡ false → AreBlanks right → cut_blanks (skip_blanks (value ++ right)) ≡ cut_blanks (value ++ right)
skip_blank_value [] right b h = ap cut_blanks (skip_all right h) ∙ sym (cut_all right h)
skip_blank_value (x ∷ value) right b h = ap cut_blanks (skip_none (x ∷ (value ++ right)) b)

pub trimmed_only : (bytes value : List ℕ) → IsTrimmed bytes value → trimmed bytes ≡ value
unfolding trimmed
trimmed_only bytes value h =
    rw (h.parts, append_assoc, skip_left h.left (value ++ h.right) h.left_blank)
    (skip_blank_value value h.right h.begins h.right_blank ∙ cut_right value h.right h.right_blank h.ends)

pub trimmed_kept : (value : List ℕ) → begins_blank value ≡ false → ends_blank value ≡ false → trimmed value ≡ value
trimmed_kept value b e =
    trimmed_only value value record { left = []; right = []; parts = sym (append-nil value); left_blank = refl; right_blank = refl; begins = b; ends = e }
