-- What waits for a provider once a round has ended, link by link.
use Rattle.std.proofs.Common.{◌≡◌, ℕ, zero, suc, ◌≤◌, List, [], ◌∷◌, ◌++◌, length, refl, ap, sym, ◌∙◌, arith}
use Rattle.std.specs.Prelude.{slice_index_or}
use Rattle.std.proofs.lemmas.List.{append-nil, ext_get_or}
use Rattle.pec_types.specs.Bytes.{Bytes}
use Rattle.pec_plays.specs.Rounds.{delivered_to}
use Rattle.pec_rows.specs.Rows.{IsBehind}

row_length : (to : ℕ) (outs : List (List (List Bytes))) (links : List (List Bytes)) → length outs ≤ length links
    → length (delivered_to to outs links) ≡ length links
row_length to [] links l = refl
row_length to (out ∷ outs) [] l = absurd (omega arith)
row_length to (out ∷ outs) (link ∷ links) l = ap suc (row_length to outs links (omega arith))

row_at : (to : ℕ) (outs : List (List (List Bytes))) (links : List (List Bytes)) (from : ℕ)
    → slice_index_or (delivered_to to outs links) from []
    ≡ slice_index_or links from [] ++ slice_index_or (slice_index_or outs from []) to []
row_at to [] links from = sym (append-nil (slice_index_or links from []))
row_at to (out ∷ outs) [] zero = refl
row_at to (out ∷ outs) [] (suc from) = row_at to outs [] from
row_at to (out ∷ outs) (link ∷ links) zero = refl
row_at to (out ∷ outs) (link ∷ links) (suc from) = row_at to outs links from

pub row_is : (to : ℕ) (outs : List (List (List Bytes))) (left new : List (List Bytes)) → IsBehind to outs left new → new ≡ delivered_to to outs left
row_is to outs left new behind =
    ext_get_or [] new (delivered_to to outs left) (behind.count ∙ sym (row_length to outs left behind.senders))
    (λ from l. behind.each from (omega (arith, l, behind.count)) ∙ sym (row_at to outs left from))
