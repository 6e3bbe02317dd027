use Rattle.std.proofs.Common.{◌≡◌, ◌-◌, ◌≤◌, length, take}
use Rattle.pec_outside.specs.DiskModel.{Stays}
use Rattle.pec_journal.specs.JournalFile.{header}
use Rattle.pec_journal.specs.Reopening.{Stood}
use Rattle.pec_journal.proofs.reopening.read_places.Given as goal

abbrev pub invariant-loop-places : goal.invariant-loop-places
invariant-loop-places g l = let disks = g.D.Disk in record {
  within : l.at ≤ l.size;
  stood : disks.tells → l.size ≡ length (disks.sight l.fn.disk).seen → take (length header) (disks.sight l.fn.disk).seen ≡ header
      → Stood (disks.sight l.fn.disk).seen l.at l.places.items;
  stays : disks.tells → Stays (disks.sight l.fn.disk) (disks.sight l.disk);
  later : g.D.Counted.faults l.fn.disk ≤ g.D.Counted.faults l.disk;
}

abbrev pub decreases-loop-places : goal.decreases-loop-places
decreases-loop-places g l = l.size - l.at
