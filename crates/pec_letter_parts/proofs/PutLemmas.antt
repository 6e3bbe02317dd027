-- What is put piece by piece is what the pieces are together.
use Rattle.std.proofs.Common.{◌≡◌, List, [], ◌∷◌, ◌++◌, Option, None, Some, ap, sym, ◌∙◌, append_assoc, refl}
use Rattle.std.proofs.lemmas.Grind.{flat_map-append}
use Rattle.std.proofs.lemmas.List.{append-nil}
use Rattle.std.specs.List.{flat_map}
use Rattle.std.specs.Option.{option_and_then}
use Rattle.pec_types.specs.Bytes.{Bytes}
use Rattle.pec_heads.specs.WrittenHeads.{Written, field_text, head_text}

put_two : (o o1 o2 a b : Bytes) → o1 ≡ o ++ a → o2 ≡ o1 ++ b → o2 ≡ o ++ (a ++ b)
put_two o o1 o2 a b e f = f ∙ ap (λ x. x ++ b) e ∙ append_assoc o a b

put_three : (o o1 o2 o3 a b c : Bytes) → o1 ≡ o ++ a → o2 ≡ o1 ++ b → o3 ≡ o2 ++ c → o3 ≡ o ++ (a ++ (b ++ c))
put_three o o1 o2 o3 a b c e f g = put_two o o1 o3 a (b ++ c) e (put_two o1 o2 o3 b c f g)

put_four : (o o1 o2 o3 o4 a b c d : Bytes) → o1 ≡ o ++ a → o2 ≡ o1 ++ b → o3 ≡ o2 ++ c → o4 ≡ o3 ++ d → o4 ≡ o ++ (a ++ (b ++ (c ++ d)))
put_four o o1 o2 o3 o4 a b c d e f g h = put_two o o1 o4 a (b ++ (c ++ d)) e (put_three o1 o2 o3 o4 b c d f g h)

-- two fields
pub put_fields : (o o1 o2 : Bytes) (v w : Written) → o1 ≡ o ++ field_text v → o2 ≡ o1 ++ field_text w → o2 ≡ o ++ head_text (v ∷ w ∷ [])
put_fields o o1 o2 v w e f = put_two o o1 o2 (field_text v) (field_text w) e f ∙ ap (λ x. o ++ (field_text v ++ x)) (sym (append-nil (field_text w)))

-- a field, others that may be absent, and a field
pub put_round : (o o1 o2 o3 : Bytes) (v : Written) (vs : List Written) (w : Written)
    → o1 ≡ o ++ field_text v → o2 ≡ o1 ++ head_text vs → o3 ≡ o2 ++ field_text w → o3 ≡ o ++ head_text (v ∷ (vs ++ w ∷ []))
put_round o o1 o2 o3 v vs w e f g =
    put_three o o1 o2 o3 (field_text v) (head_text vs) (field_text w) e f g
    ∙ ap (λ x. o ++ (field_text v ++ (head_text vs ++ x))) (sym (append-nil (field_text w)))
    ∙ ap (λ x. o ++ (field_text v ++ x)) (sym (flat_map-append field_text vs (w ∷ [])))

-- three groups of fields, and a field
pub put_groups : (o o1 o2 o3 o4 : Bytes) (us vs ws : List Written) (w : Written)
    → o1 ≡ o ++ head_text us → o2 ≡ o1 ++ head_text vs → o3 ≡ o2 ++ head_text ws → o4 ≡ o3 ++ field_text w → o4 ≡ o ++ head_text (us ++ (vs ++ (ws ++ w ∷ [])))
put_groups o o1 o2 o3 o4 us vs ws w e f g h =
    put_four o o1 o2 o3 o4 (head_text us) (head_text vs) (head_text ws) (field_text w) e f g h
    ∙ ap (λ x. o ++ (head_text us ++ (head_text vs ++ (head_text ws ++ x)))) (sym (append-nil (field_text w)))
    ∙ ap (λ x. o ++ (head_text us ++ (head_text vs ++ x))) (sym (flat_map-append field_text ws (w ∷ [])))
    ∙ ap (λ x. o ++ (head_text us ++ x)) (sym (flat_map-append field_text vs (ws ++ w ∷ [])))
    ∙ ap (λ x. o ++ x) (sym (flat_map-append field_text us (vs ++ (ws ++ w ∷ []))))

-- the texts of three lists of parts, and what closes them
pub put_parts : (o o1 o2 o3 o4 : Bytes) (f : Bytes → Bytes) (ps qs rs : List Bytes) (z : Bytes)
    → o1 ≡ o ++ flat_map f ps → o2 ≡ o1 ++ flat_map f qs → o3 ≡ o2 ++ flat_map f rs → o4 ≡ o3 ++ z → o4 ≡ o ++ (flat_map f (ps ++ (qs ++ rs)) ++ z)
put_parts o o1 o2 o3 o4 f ps qs rs z a b c d =
    put_two o o3 o4 (flat_map f (ps ++ (qs ++ rs))) z
    (put_three o o1 o2 o3 (flat_map f ps) (flat_map f qs) (flat_map f rs) a b c
    ∙ ap (λ x. o ++ (flat_map f ps ++ x)) (sym (flat_map-append f qs rs))
    ∙ ap (λ x. o ++ x) (sym (flat_map-append f ps (qs ++ rs))))
    d

-- a head of two groups of fields, the line that ends it, and a body, from nothing on
pub put_letter : (o o1 o2 o3 o4 : Bytes) (us vs : List Written) (end body : Bytes)
    → o ≡ [] → o1 ≡ o ++ head_text us → o2 ≡ o1 ++ head_text vs → o3 ≡ o2 ++ end → o4 ≡ o3 ++ body → o4 ≡ head_text (us ++ vs) ++ (end ++ body)
put_letter o o1 o2 o3 o4 us vs end body none a b c d =
    put_four o o1 o2 o3 o4 (head_text us) (head_text vs) end body a b c d
    ∙ ap (λ x. x ++ (head_text us ++ (head_text vs ++ (end ++ body)))) none
    ∙ sym (append_assoc (head_text us) (head_text vs) (end ++ body))
    ∙ ap (λ x. x ++ (end ++ body)) (sym (flat_map-append field_text us vs))

-- one thing after another, where it is there
pub then_some : {A B : Type 0} (o : Option A) (f : A → Option B) (y : B) → option_and_then f o ≡ Some y → (x : A) × ((o ≡ Some x) × (f x ≡ Some y))
then_some None f y e = absurd cc
then_some (Some x) f y e = (x, (refl, e))
