-- The entries of a path: the first one ends at the first comma.
use Rattle.std.proofs.Common.{◌≡◌, ℕ, ◌+◌, List, [], ◌∷◌, ◌++◌, Bool, true, false, cond, eqb, Option, None, Some, Err, length, take, drop, refl, ap, sym, ◌∙◌, add-one, option_map}
use Rattle.std.specs.List.{onto_first, slice_split}
use Rattle.pec_types.specs.AddressReading.{address_of}
use Rattle.pec_types.specs.Bytes.{Bytes, Path}
use Rattle.pec_types.specs.Results.{◌>>=◌}
use Rattle.pec_frames.specs.FramesReading.{comma_at, entries_from, is_comma, read_entry}
use Rattle.pec_frames.specs.declared.TheConstants.{MOST_ADDRESSES}
use Rattle.pec_frames.specs.declared.faults.FrameFault.TheVariants.{BadPath}

abbrev pub pieces_at : Bytes → Option ℕ → List Bytes
pieces_at text None = text ∷ []
pieces_at text (Some at) = take at text ∷ slice_split is_comma (drop (at + 1) text)

first_piece : (b : ℕ) (bs : Bytes) (t : Bool) (o : Option ℕ) → slice_split is_comma bs ≡ pieces_at bs o
    → cond t ([] ∷ slice_split is_comma bs) (onto_first b (slice_split is_comma bs)) ≡ pieces_at (b ∷ bs) (cond t (Some 0) (option_map (λ at. at + 1) o))
first_piece b bs true o h = refl
first_piece b bs false None h = ap (onto_first b) h
first_piece b bs false (Some k) h =
    ap (onto_first b) h
    ∙ ap (λ n. take n (b ∷ bs) ∷ slice_split is_comma (drop (k + 1) bs)) (sym (add-one k))
    ∙ ap (λ n. take (k + 1) (b ∷ bs) ∷ slice_split is_comma (drop n (b ∷ bs))) (sym (add-one (k + 1)))

pub split_is : (text : Bytes) → slice_split is_comma text ≡ pieces_at text (comma_at text)
split_is [] = refl
split_is (b ∷ bs) = first_piece b bs (is_comma b) (comma_at bs) (split_is bs)

pub split_by : (text : Bytes) (o : Option ℕ) → o ≡ comma_at text → slice_split is_comma text ≡ pieces_at text o
split_by text o e = split_is text ∙ ap (pieces_at text) (sym e)

first_of : (place : ℕ) (found : Path) (text : Bytes) (o : Option ℕ) → eqb (length found) MOST_ADDRESSES ≡ true → entries_from place found (pieces_at text o) ≡ Err (BadPath place)
first_of place found text None t = ap (λ full. cond full (Err (BadPath place)) (read_entry place (address_of text) >>= λ address. entries_from (place + (length text + 1)) (found ++ address ∷ []) [])) t
first_of place found text (Some at) t =
    ap (λ full. cond full (Err (BadPath place))
    (read_entry place (address_of (take at text)) >>= λ address. entries_from (place + (length (take at text) + 1)) (found ++ address ∷ []) (slice_split is_comma (drop (at + 1) text)))) t

-- a path is full where one more entry stands
pub one_too_many : (place : ℕ) (found : Path) (text : Bytes) → eqb (length found) MOST_ADDRESSES ≡ true → entries_from place found (slice_split is_comma text) ≡ Err (BadPath place)
one_too_many place found text t = ap (entries_from place found) (split_is text) ∙ first_of place found text (comma_at text) t
