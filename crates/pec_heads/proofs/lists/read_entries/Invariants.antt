-- What was read and what the entries that are left read as are together what all entries read as.
use Rattle.std.proofs.Common.{◌≡◌, ◌+◌, ◌-◌, ◌≤◌, [], length}
use Rattle.pec_heads.specs.ListReading.{entries_at, list_from}
use Rattle.pec_heads.proofs.lists.read_entries.Given as goal

abbrev pub invariant-loop-place : goal.invariant-loop-place
invariant-loop-place l = record {
  read : list_from l.addresses.items l.place (entries_at l.place l.text) ≡ list_from [] 0 (entries_at 0 l.text);
  within : l.place ≤ length l.text + 1;
}

abbrev pub decreases-loop-place : goal.decreases-loop-place
decreases-loop-place l = length l.text + 1 - l.place
