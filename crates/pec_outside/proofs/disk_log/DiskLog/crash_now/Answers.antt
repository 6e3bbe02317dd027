use Rattle.std.proofs.Common.{◌≡◌, refl, ◌∙◌, vec_len, arith}
use Rattle.std.proofs.lemmas.List.{take_at}
use Rattle.std.specs.Vec.{with_items}
use Rattle.pec_outside.specs.DiskLog.{steps_of}
use Rattle.pec_outside.specs.MemoryDisk.{held_of, crash_image, crashed}
use Rattle.pec_outside.proofs.LogLemmas.{goes}
use Rattle.pec_outside.proofs.disk_log.DiskLog.crash_now.Goals as goal

pub returns : goal.returns
returns c =
    let held = held_of (steps_of c.args.self.now) in
    let bytes : c.lose.new.bytes ≡ crash_image held.pending c.args.kept 0 held.bytes = rw (← c.requires.log.bytes, ← c.requires.log.pending, ← c.as_slice.ensures.value, ← c.deref_mut.ensures.value) c.lose.ensures in
    let whole : (with_items c.args.self.now.bytes c.lose.new.bytes).items ≡ c.lose.new.bytes =
    take_at c.lose.new.bytes _ (vec_len c.args.self.now.bytes) (omega (arith, c.lose.auto.bytes, c.deref_mut.ensures.len)) in
    goes c.args.self.now (record { bytes = with_items c.args.self.now.bytes c.lose.new.bytes; pending = c.clear.new.self; steps = c.push_reserved.new.self }) _ (crashed c.args.kept) refl
    c.push_reserved.ensures.items (whole ∙ bytes) c.clear.ensures.items (λ pending. omega (arith, pending, c.clear.ensures.len))
