-- A path of one address.
use Rattle.std.proofs.Common.{◌≡◌, ◌-◌, ◌≤◌, [], ◌∷◌, Bool, true, false, not, ◌&&◌, length, take, drop, get_or, refl}
use Rattle.std.proofs.Common.{ap, sym, subst, ◌∙◌, arith}
use Rattle.std.specs.Prelude.{◌==◌}
use Rattle.std.specs.Str.{bytes_eq}
use Rattle.std.proofs.Math.Dec.{eqb-suc-zero}
use Rattle.std.proofs.lemmas.List.{take_rest}
use Rattle.pec_types.specs.Bytes.{Bytes, Path}
use Rattle.pec_plays.specs.Reception.{same_path}

ends : (rest : Path) → (length rest == 0) ≡ same_path rest []
ends [] = refl
ends (address ∷ rest) = eqb-suc-zero (length rest)

turned : (t : Bool) → false ≡ not t → t ≡ true
turned true e = refl
turned false e = absurd (cc)

-- the path begins with an address, and nothing is behind it
pub alone : (path : Path) (one address : Bytes) (last : Bool) → 1 ≤ length path → one ≡ get_or path 0 one
    → false ≡ not (bytes_eq one address)
    → last ≡ (length (take (length path - 1) (drop 1 path)) == 0) → last ≡ same_path path (address ∷ [])
alone [] one address last l is same e = absurd (omega arith)
alone (first ∷ rest) one address last l is same e =
    e ∙ ap (λ (behind : Path). length behind == 0) (take_rest (first ∷ rest) 1) ∙ ends rest
    ∙ sym (ap (λ t. t && same_path rest []) (subst (λ (x : Bytes). bytes_eq x address ≡ true) is
    (turned (bytes_eq one address) same)))
