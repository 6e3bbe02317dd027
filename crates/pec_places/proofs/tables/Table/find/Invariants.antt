use Rattle.std.proofs.Common.{◌≡◌, ℕ, ◌<◌, length, map, take, find, Some, slice_get, slice_index}
use Rattle.std.specs.Option.{option_and_then, option_or}
use Rattle.pec_places.proofs.TableLemmas.{left}
use Rattle.pec_places.proofs.tables.Table.find.Given as goal

abbrev pub invariant-loop-next : goal.invariant-loop-next
invariant-loop-next g l = record {
  found : find (g.S.Sought.finds l.key) l.self.rows
      ≡ option_or (find (g.S.Sought.finds l.key) (take (left l.next) l.self.rows)) (option_and_then (slice_get l.self.rows) l.found);
  at : (place : ℕ) → l.next ≡ Some place
      → (place < length l.self.rows) × (slice_index (map g.R.Numbered.number_of l.self.rows) place ≡ g.S.Sought.sought l.key);
}

abbrev pub decreases-loop-next : goal.decreases-loop-next
decreases-loop-next g l = left l.next
