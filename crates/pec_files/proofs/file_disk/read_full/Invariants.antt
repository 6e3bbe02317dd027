use Rattle.std.proofs.Common.{◌≡◌, ◌≤◌, length}
use Rattle.pec_files.proofs.file_disk.read_full.Given as goal

abbrev pub invariant-loop : goal.invariant-loop
invariant-loop l = record {
  within : l.count ≤ length l.room;
  size : length l.room ≡ length l.fn.room;
}
