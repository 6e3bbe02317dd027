-- The loops of the readers of words, a turn at a time, and what stops a reader.
use Rattle.std.proofs.Common.{◌≡◌, ℕ, ◌+◌, ◌<◌, ◌≤◌, eqb, List, length, get_or, drop, map, Result, Ok, Err, sym, ap, ◌∙◌}
use Rattle.std.proofs.lemmas.List.{at_drop_more, at_drop_all}
use Rattle.std.specs.Borrow.{Bor}
use Rattle.pec_grammar.specs.Grammar.{Cursor, Read, ◌>>=◌, byte_at, word_at, otherwise, named_at, choice_at}
use Rattle.pec_grammar.specs.Reading.{entry, Fails}
use Rattle.pec_grammar.specs.declared.cursors.ReadError.{ReadError}
use Rattle.pec_grammar.specs.declared.cursors.ReadError.TheVariants as errors

word_next : (bytes : List ℕ) (i : ℕ) (at : Cursor) → i < length bytes → word_at (drop i bytes) at ≡ (byte_at (λ b. eqb b (get_or bytes i 0)) at >>= λ b. word_at (drop (i + 1) bytes) b.1)
unfolding word_at
word_next bytes i at lt = at_drop_more (λ z. word_at z at) bytes i 0 lt

pub word_goes_on : (bytes : List ℕ) (i : ℕ) (at after : Cursor) (total : Read (Unit {0})) → i < length bytes → byte_at (λ b. eqb b (get_or bytes i 0)) at ≡ Ok (get_or bytes i 0, after)
    → total ≡ word_at (drop i bytes) at → total ≡ word_at (drop (i + 1) bytes) after
word_goes_on bytes i at after total lt read so_far = so_far ∙ (word_next bytes i at lt ∙ ap (λ r. r >>= λ b. word_at (drop (i + 1) bytes) b.1) read)

pub word_stops : (bytes : List ℕ) (i : ℕ) (at : Cursor) (stop : List ℕ) (total : Read (Unit {0})) → i < length bytes → byte_at (λ b. eqb b (get_or bytes i 0)) at ≡ Err stop
    → total ≡ word_at (drop i bytes) at → total ≡ Err stop
word_stops bytes i at stop total lt read so_far = so_far ∙ (word_next bytes i at lt ∙ ap (λ r. r >>= λ b. word_at (drop (i + 1) bytes) b.1) read)

pub word_ends : (bytes : List ℕ) (i : ℕ) (at : Cursor) (total : Read (Unit {0})) → length bytes ≤ i → total ≡ word_at (drop i bytes) at → total ≡ Ok (tt, at)
unfolding word_at
word_ends bytes i at total le so_far = so_far ∙ at_drop_all (λ z. word_at z at) bytes i le

module _ {T : Type 0} (table : List (Bor (List ℕ) × T)) (i : ℕ) (item : Bor (List ℕ) × T) (at : Cursor) (total : Read T) where
  choice_next : i < length table → item ≡ get_or table i item → choice_at (map entry (drop i table)) at ≡ otherwise (named_at item.0.now item.1 at) at (choice_at (map entry (drop (i + 1) table)))
  unfolding choice_at
  choice_next lt is =
      at_drop_more (λ z. choice_at (map entry z) at) table i item lt
      ∙ ap (λ e. otherwise (named_at e.0.now e.1 at) at (choice_at (map entry (drop (i + 1) table)))) (sym is)

  pub choice_found : (after : Cursor) → i < length table → item ≡ get_or table i item → word_at item.0.now at ≡ Ok (tt, after)
      → total ≡ choice_at (map entry (drop i table)) at → total ≡ Ok (item.1, after)
  choice_found after lt is read so_far =
      so_far ∙ (choice_next lt is ∙ ap (λ r. otherwise (r >>= λ w. Ok (item.1, w.1)) at (choice_at (map entry (drop (i + 1) table)))) read)

  pub choice_goes_on : (stop : List ℕ) → i < length table → item ≡ get_or table i item → word_at item.0.now at ≡ Err stop
      → total ≡ choice_at (map entry (drop i table)) at → total ≡ choice_at (map entry (drop (i + 1) table)) (record { rest = at.rest; farthest = stop })
  choice_goes_on stop lt is read so_far =
      so_far ∙ (choice_next lt is ∙ ap (λ r. otherwise (r >>= λ w. Ok (item.1, w.1)) at (choice_at (map entry (drop (i + 1) table)))) read)

pub choice_ends : {T : Type 0} (table : List (Bor (List ℕ) × T)) (i : ℕ) (at : Cursor) (total : Read T) → length table ≤ i → total ≡ choice_at (map entry (drop i table)) at → total ≡ Err at.farthest
unfolding choice_at
choice_ends table i at total le so_far = so_far ∙ at_drop_all (λ z. choice_at (map entry z) at) table i le

-- what stops a part stops the whole
pub fails_by : {X Y : Type 0} (e : ReadError) (part : Result X (List ℕ)) (total : Result Y (List ℕ)) → Fails e part → ((stop : List ℕ) → part ≡ Err stop → total ≡ Err stop) → Fails e total
fails_by errors.NoMemory part total fails stops = tt
fails_by (errors.Stop stop) part total fails stops = stops stop.rest.now fails

-- a part that was read leads on
pub leads_on : {A B : Type 0} (part : Read A) (taken : A × Cursor) (next : A × Cursor → Read B) (total : Read B) → part ≡ Ok taken → next taken ≡ total → (part >>= next) ≡ total
leads_on part taken next total read rest = ap (λ r. r >>= next) read ∙ rest
