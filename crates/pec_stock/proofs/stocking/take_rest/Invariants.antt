use Rattle.std.proofs.Common.{◌≡◌, ◌≤◌, ◌-◌, List, length}
use Rattle.pec_outside.specs.DiskModel.{Stays}
use Rattle.pec_types.specs.Bytes.{Bytes}
use Rattle.pec_ledger.specs.Trade.{Trade}
use Rattle.pec_chronicle.specs.Opening.{Reads}
use Rattle.pec_stock.specs.Opening.{IsHere}
use Rattle.pec_stock.specs.Stocking.{HasTaken}
use Rattle.pec_stock.proofs.stocking.take_rest.Given as goal

abbrev pub invariant-loop-entry : goal.invariant-loop-entry
invariant-loop-entry g l =
    let disk = g.D.Disk in
    record {
      taken : HasTaken l.directory l.fn.shelf.me l.shelf l.opening.read;
      number : l.number ≡ length l.opening.read;
      here : (trade : Trade) → IsHere trade l.fn.opening.read → IsHere trade l.opening.read;
      reads : disk.tells → (texts : List Bytes) → Reads disk.sight l.fn.opening texts → Reads disk.sight l.opening texts;
      stays : disk.tells → Stays (disk.sight l.fn.opening.disk) (disk.sight l.opening.disk);
      later : g.D.Counted.faults l.fn.opening.disk ≤ g.D.Counted.faults l.opening.disk;
    }

abbrev pub decreases-loop-entry : goal.decreases-loop-entry
decreases-loop-entry g l = length l.opening.places - length l.opening.read
