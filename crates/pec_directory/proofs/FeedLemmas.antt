-- One piece fed behind another.
use Rattle.std.proofs.Common.{◌≡◌, ℕ, ◌+◌, ◌<◌, List, [], ◌∷◌, ◌++◌, length, take, get_or, subst, sym, ap, ◌∙◌, append-nil, append_assoc}
use Rattle.std.specs.List.{flat_map}
use Rattle.std.proofs.lemmas.Grind.{flat_map-append}
use Rattle.std.proofs.lemmas.List.{take_more}
use Rattle.sha2.specs.Hashers.{Holds256}
use Rattle.sha2.specs.declared.Sha256.{Sha256}
use Rattle.pec_directory.specs.Feeding.{Fed}

pub fed_nothing : (hasher : Sha256) → Fed hasher hasher []
fed_nothing hasher held holds = subst (Holds256 hasher) (sym (append-nil held)) holds

pub fed_more : (a b c : Sha256) (x y : List ℕ) → Fed a b x → Fed b c y → Fed a c (x ++ y)
fed_more a b c x y first second held holds = subst (Holds256 c) (append_assoc held x y) (second (held ++ x) (first held holds))

-- one more line, for the next of some items
pub fed_next : {X : Type 0} (line : X → List ℕ) (items : List X) (i : ℕ) (x : X) → i < length items → x ≡ get_or items i x → (a b c : Sha256) → Fed a b (flat_map line (take i items)) → Fed b c (line x)
    → Fed a c (flat_map line (take (i + 1) items))
fed_next line items i x within is a b c before next =
    subst (Fed a c) (sym more) (fed_more a b c (flat_map line (take i items)) (line x) before next)
  where
    more : flat_map line (take (i + 1) items) ≡ flat_map line (take i items) ++ line x
    more =
        ap (flat_map line) (take_more items i x within ∙ ap (λ y. take i items ++ y ∷ []) (sym is))
        ∙ flat_map-append line (take i items) (x ∷ []) ∙ ap (λ l. flat_map line (take i items) ++ l) (append-nil (line x))
