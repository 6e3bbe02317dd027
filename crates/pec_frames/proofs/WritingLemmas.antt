-- An address more of a path that is written.
use Rattle.std.proofs.Common.{◌≡◌, ◌-◌, ◌≤◌, ◌==◌, [], ◌∷◌, ◌++◌, Bool, length, get_or, take, drop, ap, subst, ◌∙◌, arith, append_assoc}
use Rattle.std.specs.List.{AllByRecursion}
use Rattle.std.proofs.lemmas.Bool.{ne_eqb}
use Rattle.std.proofs.lemmas.List.{append-nil, take_all}
use Rattle.pec_types.specs.Address.{IsLowerAddress}
use Rattle.pec_types.specs.Bytes.{Bytes, Path, comma}
use Rattle.pec_frames.specs.Entries.{behind_address}
use Rattle.pec_frames.specs.Frames.{path_line}

-- what was put of a path, of which these addresses are left
pub record IsPut (path : Path) (line : Bytes) (rest : Path) : Type 0 where
  pub text : line ++ path_line rest ≡ path_line path
  pub lower : AllByRecursion IsLowerAddress rest → AllByRecursion IsLowerAddress path

text_step : (address : Bytes) (rest : Path) (line new : Bytes) (last : Bool) → last ≡ (length rest == 0) → new ≡ line ++ (address ++ behind_address last)
    → new ++ path_line rest ≡ line ++ path_line (address ∷ rest)
text_step address [] line new last e is =
    append-nil new ∙ is ∙ ap (λ t. line ++ (address ++ behind_address t)) e ∙ ap (λ xs. line ++ xs) (append-nil address)
text_step address (next ∷ rest) line new last e is =
    ap (λ xs. xs ++ path_line (next ∷ rest)) (is ∙ ap (λ t. line ++ (address ++ behind_address t)) (e ∙ ne_eqb (length (next ∷ rest)) 0 (λ none. omega (arith, none))))
    ∙ append_assoc line (address ++ comma ∷ []) (path_line (next ∷ rest))
    ∙ ap (λ xs. line ++ xs) (append_assoc address (comma ∷ []) (path_line (next ∷ rest)))

put_step : (path : Path) (first : Bytes) (others rest : Path) (line new address : Bytes) (last : Bool) → IsPut path line (first ∷ others) → address ≡ first → rest ≡ others
    → last ≡ (length rest == 0) → new ≡ line ++ (address ++ behind_address last) → IsLowerAddress address → IsPut path new rest
put_step path first others rest line new address last put is left e written lower = record {
  text =
      text_step address rest line new last e written
      ∙ ap (λ (xs : Path). line ++ path_line (address ∷ xs)) left
      ∙ ap (λ (x : Bytes). line ++ path_line (x ∷ others)) is
      ∙ put.text;
  lower = λ later. put.lower (subst IsLowerAddress is lower, subst (λ (xs : Path). AllByRecursion IsLowerAddress xs) left later);
}

pub put_more : (path rest : Path) (line new address : Bytes) (last : Bool) → IsPut path line rest → 1 ≤ length rest → address ≡ get_or rest 0 address
    → last ≡ (length (take (length rest - 1) (drop 1 rest)) == 0) → new ≡ line ++ (address ++ behind_address last) → IsLowerAddress address
    → IsPut path new (take (length rest - 1) (drop 1 rest))
put_more path [] line new address last put some is e written lower = absurd (omega (arith, some))
put_more path (first ∷ others) line new address last put some is e written lower =
    put_step path first others (take (length (first ∷ others) - 1) others) line new address last put is (take_all (length (first ∷ others) - 1) others (omega arith)) e written lower
