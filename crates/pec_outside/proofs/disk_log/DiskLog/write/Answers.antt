use Rattle.std.proofs.Common.{◌≡◌, ◌++◌, ◌∷◌, [], if◌then◌else◌, min, length, refl, ap, arith}
use Rattle.pec_outside.specs.DiskModel.{written}
use Rattle.pec_outside.specs.DiskLog.{steps_of}
use Rattle.pec_outside.specs.MemoryDisk.{held_of}
use Rattle.pec_outside.proofs.LogLemmas.{goes}
use Rattle.pec_outside.proofs.disk_log.DiskLog.write.Goals as goal

pub returns : goal.returns
returns c =
    let held = held_of (steps_of c.args.self.now) in
    let place = min c.args.at (length held.bytes) in
    let here : c.min-place.result ≡ place = omega (arith, c.min-place.ensures, c.len.ensures, ap length c.requires.log.bytes) in
    let size : c.len-2.result ≡ length c.args.piece.items = omega (arith, c.len-2.ensures) in
    let bytes : c.put.new.bytes.items ≡ (if c.args.answered then written held.bytes place c.args.piece.items else held.bytes) =
    rw (← here, ← c.requires.log.bytes, ← c.as_slice.ensures.value) c.put.ensures in
    let pending : c.push_reserved.new.self.items ≡ held.pending ++ record { at = place; length = length c.args.piece.items } ∷ [] =
    rw (← here, ← size, ← c.requires.log.pending) c.push_reserved.ensures.items in
    goes _ _ _ _ refl c.push_reserved-2.ensures.items bytes pending
    (λ some. omega (arith, c.push_reserved-2.ensures.len, c.push_reserved-2.ensures.capacity, c.requires.room.steps))
