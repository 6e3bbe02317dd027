-- Fields in one store: one more, and the last of them going on.
use Rattle.std.proofs.Common.{◌≡◌, ℕ, ◌-◌, ◌≤◌, List, [], ◌∷◌, ◌++◌, length, drop, suc, refl, ap, arith, append_assoc, length-append, length-drop}
use Rattle.std.proofs.Math.Seq.{drop-append_seam}
use Rattle.std.proofs.lemmas.List.{take_all, take-append-le, drop-append-le}
use Rattle.pec_heads.specs.Bytes.{part_of}
use Rattle.pec_heads.specs.Heads.{NamedValue}
use Rattle.pec_heads.specs.HeadReading.{onto_last}
use Rattle.pec_heads.specs.Views.{AllStartWithin, field_at, fields_at}
use Rattle.pec_heads.specs.declared.fields.Start.{Start}

abbrev pub grown : NamedValue → List ℕ → NamedValue
grown f bytes = record { name = f.name; value = f.value ++ bytes }

pub onto_last-append : (fs : List NamedValue) (f : NamedValue) (bytes : List ℕ) → onto_last (fs ++ f ∷ []) bytes ≡ fs ++ grown f bytes ∷ []
onto_last-append [] f bytes = refl
onto_last-append (g ∷ []) f bytes = refl
onto_last-append (g ∷ h ∷ fs) f bytes = ap (λ gs. g ∷ gs) (onto_last-append (h ∷ fs) f bytes)

-- ---- parts of bytes, with more behind them

part_stays : (from to : ℕ) (bytes more : List ℕ) → from ≤ length bytes → to ≤ length bytes → part_of from to (bytes ++ more) ≡ part_of from to bytes
unfolding part_of
part_stays from to bytes more begins ends =
    let fits : to - from ≤ length (drop from bytes) = omega (arith, length-drop from bytes)
    in rw (drop-append-le from bytes more begins, take-append-le (to - from) (drop from bytes) more fits) refl

part_rest : (from : ℕ) (bytes : List ℕ) → part_of from (length bytes) bytes ≡ drop from bytes
unfolding part_of
part_rest from bytes = take_all (length bytes - from) (drop from bytes) (omega (arith, length-drop from bytes))

part_grows : (from : ℕ) (bytes more : List ℕ) → from ≤ length bytes → part_of from (length (bytes ++ more)) (bytes ++ more) ≡ part_of from (length bytes) bytes ++ more
part_grows from bytes more begins = rw (part_rest from (bytes ++ more), part_rest from bytes, drop-append-le from bytes more begins) refl

part_new : (bytes more : List ℕ) → part_of (length bytes) (length (bytes ++ more)) (bytes ++ more) ≡ more
part_new bytes more = rw (part_rest (length bytes) (bytes ++ more), drop-append_seam bytes more) refl

-- ---- fields, with more behind them

pub length-fields_at : (bytes : List ℕ) (starts : List Start) → length (fields_at bytes starts) ≡ length starts
length-fields_at bytes [] = refl
length-fields_at bytes (s ∷ starts) = ap (λ n. suc n) (length-fields_at bytes starts)

pub within_more : (size more : ℕ) (starts : List Start) → size ≤ more → AllStartWithin size starts → AllStartWithin more starts
within_more size more [] le within = tt
within_more size more (s ∷ starts) le within = (omega (arith, within.0), omega (arith, within.1), within_more size more starts le within.2)

pub grows : (bytes more : List ℕ) (starts : List Start) → AllStartWithin (length bytes) starts → fields_at (bytes ++ more) starts ≡ onto_last (fields_at bytes starts) more
grows bytes more [] within = refl
grows bytes more (s ∷ []) within =
    rw (part_stays s.name s.value bytes more within.0 within.1, part_grows s.value bytes more within.1) refl
grows bytes more (s ∷ t ∷ starts) within =
    rw (part_stays s.name s.value bytes more within.0 within.1, part_stays s.value t.name bytes more within.1 within.2.0) (ap (λ fs. field_at bytes s (t ∷ starts) ∷ fs) (grows bytes more (t ∷ starts) within.2))

-- fields that end where the next one starts
opens : (bytes more : List ℕ) (starts : List Start) (new : Start) → AllStartWithin (length bytes) starts → new.name ≡ length bytes
    → fields_at (bytes ++ more) (starts ++ new ∷ []) ≡ fields_at bytes starts ++ field_at (bytes ++ more) new [] ∷ []
opens bytes more [] new within at = refl
opens bytes more (s ∷ []) new within at =
    rw (at, part_stays s.name s.value bytes more within.0 within.1, part_stays s.value (length bytes) bytes more within.1 (omega arith)) refl
opens bytes more (s ∷ t ∷ starts) new within at =
    rw (part_stays s.name s.value bytes more within.0 within.1, part_stays s.value t.name bytes more within.1 within.2.0) (ap (λ fs. field_at bytes s (t ∷ starts) ∷ fs) (opens bytes more (t ∷ starts) new within.2 at))

abbrev pub stored_as : List ℕ → List ℕ → NamedValue
stored_as name rest = record { name = name; value = rest }

new_field : (bytes name rest : List ℕ) (new : Start) → new.name ≡ length bytes → new.value ≡ length (bytes ++ name)
    → field_at ((bytes ++ name) ++ rest) new [] ≡ stored_as name rest
new_field bytes name rest new at value =
    rw (at, value, part_new (bytes ++ name) rest, part_stays (length bytes) (length (bytes ++ name)) (bytes ++ name) rest (omega (arith, length-append bytes name)) (omega arith), part_new bytes name) refl

pub opened : (bytes name rest : List ℕ) (starts : List Start) (new : Start) → AllStartWithin (length bytes) starts → new.name ≡ length bytes → new.value ≡ length (bytes ++ name)
    → fields_at ((bytes ++ name) ++ rest) (starts ++ new ∷ []) ≡ fields_at bytes starts ++ stored_as name rest ∷ []
opened bytes name rest starts new within at value =
    let e : fields_at (bytes ++ (name ++ rest)) (starts ++ new ∷ []) ≡ fields_at bytes starts ++ field_at (bytes ++ (name ++ rest)) new [] ∷ []
    = opens bytes (name ++ rest) starts new within at
    in rw (← new_field bytes name rest new at value, append_assoc bytes name rest) e

within_opened : (size : ℕ) (starts : List Start) (new : Start) → new.name ≤ size → new.value ≤ size → AllStartWithin size starts → AllStartWithin size (starts ++ new ∷ [])
within_opened size [] new name value within = (name, value, tt)
within_opened size (s ∷ starts) new name value within = (within.0, within.1, within_opened size starts new name value within.2)

pub opened_within : (bytes name rest : List ℕ) (starts : List Start) (new : Start) → AllStartWithin (length bytes) starts → new.name ≡ length bytes → new.value ≡ length (bytes ++ name)
    → AllStartWithin (length ((bytes ++ name) ++ rest)) (starts ++ new ∷ [])
opened_within bytes name rest starts new within at value =
    within_opened (length ((bytes ++ name) ++ rest)) starts new (omega (arith, length-append (bytes ++ name) rest, length-append bytes name)) (omega (arith, length-append (bytes ++ name) rest))
    (within_more (length bytes) (length ((bytes ++ name) ++ rest)) starts (omega (arith, length-append (bytes ++ name) rest, length-append bytes name)) within)
