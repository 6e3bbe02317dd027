-- Lines that stand apart by empty ones: the first group ends at the first empty line.
use Rattle.std.proofs.Common.{◌≡◌, ◌+◌, ℕ, List, [], ◌∷◌, Bool, true, false, cond, Option, None, Some, take, drop, refl, ap, sym, ◌∙◌, add-one, option_map}
use Rattle.std.specs.List.{onto_first, slice_split}
use Rattle.pec_ldif.specs.Lines.{Line}
use Rattle.pec_ldif.specs.Records.{is_parting}
use Rattle.pec_ldif.specs.RecordsReading.{parting_at}

abbrev pub groups_at : List Line → Option ℕ → List (List Line)
groups_at lines None = lines ∷ []
groups_at lines (Some at) = take at lines ∷ slice_split is_parting (drop (at + 1) lines)

first_group : (l : Line) (ls : List Line) (t : Bool) (o : Option ℕ) → slice_split is_parting ls ≡ groups_at ls o
    → cond t ([] ∷ slice_split is_parting ls) (onto_first l (slice_split is_parting ls))
    ≡ groups_at (l ∷ ls) (cond t (Some 0) (option_map (λ at. at + 1) o))
first_group l ls true o h = refl
first_group l ls false None h = ap (onto_first l) h
first_group l ls false (Some k) h =
    ap (onto_first l) h
    ∙ ap (λ n. take n (l ∷ ls) ∷ slice_split is_parting (drop (k + 1) ls)) (sym (add-one k))
    ∙ ap (λ n. take (k + 1) (l ∷ ls) ∷ slice_split is_parting (drop n (l ∷ ls))) (sym (add-one (k + 1)))

groups_are : (lines : List Line) → slice_split is_parting lines ≡ groups_at lines (parting_at lines)
groups_are [] = refl
groups_are (l ∷ ls) = first_group l ls (is_parting l) (parting_at ls) (groups_are ls)

pub groups_by : (lines : List Line) (o : Option ℕ) → o ≡ parting_at lines → slice_split is_parting lines ≡ groups_at lines o
groups_by lines o e = groups_are lines ∙ ap (groups_at lines) (sym e)
