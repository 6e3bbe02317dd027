-- The loop over causes that reads the number of one of them, a turn at a time.
use Rattle.std.proofs.Common.{◌≡◌, ℕ, ◌+◌, ◌<◌, ◌≤◌, List, [], ◌∷◌, length, get_or, drop, Ok, Err, sym, ap, ◌∙◌}
use Rattle.std.proofs.lemmas.List.{at_drop_more, at_drop_all}
use Rattle.pec_types.specs.Words.{cause_number}
use Rattle.pec_types.specs.declared.messages.Cause.{Cause}
use Rattle.pec_grammar.specs.Grammar.{Cursor, Read, ◌>>=◌, word_at, otherwise, named_at, choice_at}
use Rattle.pec_records.specs.Entry.{cause_field}
use Rattle.pec_records.specs.EntryReading.{cause_rows}

module _ (causes : List Cause) (i : ℕ) (d : Cause) (at : Cursor) (total : Read Cause) (inside : i < length causes)
    (so_far : total ≡ choice_at (cause_rows (drop i causes)) at) where
  this_or_later : total ≡ otherwise (named_at (cause_field (get_or causes i d)) (get_or causes i d) at) at (choice_at (cause_rows (drop (i + 1) causes)))
  unfolding choice_at
  this_or_later = so_far ∙ at_drop_more (λ z. choice_at (cause_rows z) at) causes i d inside

  pub cause_found : (number : ℕ) (after : Cursor) → number ≡ cause_number (get_or causes i d) → word_at (number ∷ []) at ≡ Ok (tt, after)
      → total ≡ Ok (get_or causes i d, after)
  cause_found number after same read =
      this_or_later
      ∙ ap (λ r. otherwise (r >>= λ w. Ok (get_or causes i d, w.1)) at (choice_at (cause_rows (drop (i + 1) causes))))
      (ap (λ n. word_at (n ∷ []) at) (sym same) ∙ read)

  pub cause_goes_on : (number : ℕ) (stop : List ℕ) → number ≡ cause_number (get_or causes i d) → word_at (number ∷ []) at ≡ Err stop
      → total ≡ choice_at (cause_rows (drop (i + 1) causes)) (record { rest = at.rest; farthest = stop })
  cause_goes_on number stop same read =
      this_or_later
      ∙ ap (λ r. otherwise (r >>= λ w. Ok (get_or causes i d, w.1)) at (choice_at (cause_rows (drop (i + 1) causes))))
      (ap (λ n. word_at (n ∷ []) at) (sym same) ∙ read)

pub cause_ends : (causes : List Cause) (i : ℕ) (at : Cursor) (total : Read Cause) → length causes ≤ i
    → total ≡ choice_at (cause_rows (drop i causes)) at → total ≡ Err at.farthest
unfolding choice_at
cause_ends causes i at total le so_far = so_far ∙ at_drop_all (λ z. choice_at (cause_rows z) at) causes i le
