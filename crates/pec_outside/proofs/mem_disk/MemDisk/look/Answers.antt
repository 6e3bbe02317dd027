use Rattle.std.proofs.Common.{◌≡◌, [], ◌∷◌, ◌++◌, rules}
use Rattle.pec_outside.specs.DiskLog.{steps_of}
use Rattle.pec_outside.specs.MemoryDisk.{looked}
use Rattle.pec_outside.proofs.StepLemmas.{looked_rests}
use Rattle.pec_outside.proofs.mem_disk.MemDisk.look.Goals as goal

pub returns-in-Ok-clause-rests : goal.returns-in-Ok-clause-rests
returns-in-Ok-clause-rests c =
    let gone : steps_of c.look.new.self ≡ c.args.self.now.log ++ looked ∷ [] = search rules in
    rw gone (looked_rests c.args.self.now.log)

pub returns-in-Err-clause-rests : goal.returns-in-Err-clause-rests
returns-in-Err-clause-rests c =
    let gone : steps_of c.look-in-Err.new.self ≡ c.args.self.now.log ++ looked ∷ [] = search rules in
    rw gone (looked_rests c.args.self.now.log)
