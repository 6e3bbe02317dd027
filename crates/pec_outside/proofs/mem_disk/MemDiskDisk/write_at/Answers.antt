use Rattle.std.proofs.Common.{◌≡◌, true, false, [], ◌∷◌, ◌++◌, rules}
use Rattle.pec_outside.specs.DiskLog.{steps_of}
use Rattle.pec_outside.specs.MemoryDisk.{wrote}
use Rattle.pec_outside.proofs.StepLemmas.{wrote_seen, wrote_tears}
use Rattle.pec_outside.proofs.mem_disk.MemDiskDisk.write_at.Goals as goal

pub returns-in-Ok-begin-clause-written : goal.returns-in-Ok-begin-clause-written
returns-in-Ok-begin-clause-written c within =
    let gone : steps_of c.write.new.self ≡ c.args.self.now.log ++ wrote c.args.at c.args.piece.now true ∷ [] = search rules in
    rw gone (wrote_seen c.args.self.now.log c.args.at c.args.piece.now within)

pub returns-in-Ok-begin-clause-tears : goal.returns-in-Ok-begin-clause-tears
returns-in-Ok-begin-clause-tears c within =
    let gone : steps_of c.write.new.self ≡ c.args.self.now.log ++ wrote c.args.at c.args.piece.now true ∷ [] = search rules in
    rw gone (wrote_tears c.args.self.now.log c.args.at c.args.piece.now true within)

pub returns-in-Err-clause-tears : goal.returns-in-Err-clause-tears
returns-in-Err-clause-tears c within =
    let gone : steps_of c.write-in-Err.new.self ≡ c.args.self.now.log ++ wrote c.args.at c.args.piece.now false ∷ [] = search rules in
    rw gone (wrote_tears c.args.self.now.log c.args.at c.args.piece.now false within)
