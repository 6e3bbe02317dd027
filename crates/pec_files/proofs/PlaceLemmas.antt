-- One place of a folder is set: what stands at it and at the others.
use Rattle.std.proofs.Common.{◌≡◌, ◌≢◌, ℕ, List, ap, ◌∙◌, ◌<◌, map, length, slice_set, arith}
use Rattle.std.specs.List.{slice_index_or}
use Rattle.std.proofs.lemmas.List.{map-set, get_or-set_same, get_or-set_other, length-map}
use Rattle.pec_files.specs.declared.file_depot.Standing.{Standing}
use Rattle.pec_files.specs.Folders.{Slot, out}
use Rattle.pec_files.specs.Standings.{slot_of}

pub set_here : (slots : List Standing) (at : ℕ) (next : Standing) → at < length slots
    → slice_index_or (map slot_of (slice_set slots at next)) at (out 0) ≡ slot_of next
set_here slots at next within =
    ap (λ (l : List Slot). slice_index_or l at (out 0)) (map-set slot_of slots at next)
    ∙ get_or-set_same (map slot_of slots) at (slot_of next) (out 0) (omega (arith, within, length-map slots slot_of))

pub set_elsewhere : (slots : List Standing) (at : ℕ) (next : Standing) (k : ℕ) → k ≢ at
    → slice_index_or (map slot_of (slice_set slots at next)) k (out 0) ≡ slice_index_or (map slot_of slots) k (out 0)
set_elsewhere slots at next k other =
    ap (λ (l : List Slot). slice_index_or l k (out 0)) (map-set slot_of slots at next)
    ∙ get_or-set_other (map slot_of slots) at k (slot_of next) (out 0) other
