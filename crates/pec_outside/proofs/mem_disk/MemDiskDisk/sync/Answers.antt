use Rattle.std.proofs.Common.{◌≡◌, true, false, [], ◌∷◌, ◌++◌, rules}
use Rattle.pec_outside.specs.DiskLog.{steps_of}
use Rattle.pec_outside.specs.MemoryDisk.{synced}
use Rattle.pec_outside.proofs.StepLemmas.{synced_only, synced_rests, unsynced_rests}
use Rattle.pec_outside.proofs.mem_disk.MemDiskDisk.sync.Goals as goal

pub returns-in-Ok-clause-durable : goal.returns-in-Ok-clause-durable
returns-in-Ok-clause-durable c =
    let gone : steps_of c.sync.new.self ≡ c.args.self.now.log ++ synced true ∷ [] = search rules in
    rw gone (synced_only c.args.self.now.log)

pub returns-in-Ok-clause-rests : goal.returns-in-Ok-clause-rests
returns-in-Ok-clause-rests c =
    let gone : steps_of c.sync.new.self ≡ c.args.self.now.log ++ synced true ∷ [] = search rules in
    rw gone (synced_rests c.args.self.now.log)

pub returns-in-Err-clause-rests : goal.returns-in-Err-clause-rests
returns-in-Err-clause-rests c =
    let gone : steps_of c.sync-in-Err.new.self ≡ c.args.self.now.log ++ synced false ∷ [] = search rules in
    rw gone (unsynced_rests c.args.self.now.log)
