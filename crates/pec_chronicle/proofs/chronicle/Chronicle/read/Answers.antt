use Rattle.std.proofs.Common.{refl, ap, ◌∙◌}
use Rattle.std.specs.Prelude.{Some, map}
use Rattle.pec_outside.specs.Moments.{stays, stays_on}
use Rattle.pec_records.specs.Entry.{entry_text}
use Rattle.pec_chronicle.specs.Carrying.{NothingMay}
use Rattle.pec_chronicle.specs.Fields.{disk_in}
use Rattle.pec_chronicle.proofs.ReadingLemmas.{entry_there, same_entry}
use Rattle.pec_chronicle.proofs.StepLemmas.{carries_rested}
use Rattle.pec_chronicle.proofs.chronicle.Chronicle.read.Goals as goal

pub returns-in-Ok-clause-entry : goal.returns-in-Ok-clause-entry
returns-in-Ok-clause-entry g c tells stands number there =
    let keeps = (rw (← c.self.view_is) at stands).up (rw (← c.self.view_is) at c.requires.up) in
    let list = c.self.inside.history.items in
    let found = entry_there c.entries_stand_at_their_places.ensures.stands list number c.args.place c.self.invariant.past.written
    (rw (← c.self.view_is) at there) in
    let is = c.in-Ok.ensures.is tells (map entry_text list) (entry_text found.0) keeps.file found.3 in
    rw (← c.self.view_is) (found.2 ∙ ap Some (same_entry c.one_entry.ensures.value found.0 _ (entry_text found.0) found.1 is))

pub returns-in-Err-clause-unchanged : goal.returns-in-Err-clause-unchanged
returns-in-Err-clause-unchanged g c tells stands number there is =
    let keeps = (rw (← c.self.view_is) at stands).up (rw (← c.self.view_is) at c.requires.up) in
    let list = c.self.inside.history.items in
    let found = entry_there c.entries_stand_at_their_places.ensures.stands list number c.args.place c.self.invariant.past.written
    (rw (← c.self.view_is) at there) in
    c.in-Err.ensures.changed tells (map entry_text list) (entry_text found.0) keeps.file found.3 is found.0 found.1

pub returns-in-Ok-clause-carries : goal.returns-in-Ok-clause-carries
returns-in-Ok-clause-carries g c tells =
    let disk = disk_in c.self.inside.drive in
    rw (← c.self.view_is) (carries_rested g.D.Disk.sight NothingMay _ _ _ _ _ _ _ refl refl c.read_at.ensures.end (λ up. up)
    (stays_on _ _ _ (stays (g.D.Disk.sight disk) (c.a_disk_is_so.ensures.now tells disk)) (c.read_at.ensures.rests tells)))

pub returns-in-Err-NoMemory-clause-carries : goal.returns-in-Err-NoMemory-clause-carries
returns-in-Err-NoMemory-clause-carries g c tells =
    let disk = disk_in c.self.inside.drive in
    rw (← c.self.view_is) (carries_rested g.D.Disk.sight NothingMay _ _ _ _ _ _ _ refl refl c.read_at.ensures.end (λ up. up)
    (stays_on _ _ _ (stays (g.D.Disk.sight disk) (c.a_disk_is_so.ensures.now tells disk)) (c.read_at.ensures.rests tells)))

pub returns-in-Err-clause-carries : goal.returns-in-Err-clause-carries
returns-in-Err-clause-carries g c tells =
    let disk = disk_in c.self.inside.drive in
    rw (← c.self.view_is) (carries_rested g.D.Disk.sight NothingMay _ _ _ _ _ _ _ refl refl c.read_at.ensures.end (λ up. cc)
    (stays_on _ _ _ (stays (g.D.Disk.sight disk) (c.a_disk_is_so.ensures.now tells disk)) (c.read_at.ensures.rests tells)))
