use Rattle.pec_chronicle.proofs.ReadingLemmas.{carries_opened, opened_journal, opened_list, opened_stands}
use Rattle.pec_chronicle.proofs.openings.Opening.done.Goals as goal

pub returns-clause-stands : goal.returns-clause-stands
returns-clause-stands g c tells texts reads =
    let sight = g.D.Disk.sight in
    let so = rw (← c.self.view_is) at reads in
    let whole = rw (← c.self.view_is) at c.requires in
    rw (← c.self.view_is, c.of.ensures) (opened_stands sight _ _ texts so whole, opened_journal sight _ texts so whole)

pub returns-clause-list : goal.returns-clause-list
returns-clause-list g c tells list opens = opened_list g.D.Disk.sight c.a_disk_holds_one_list.ensures _ list opens c.requires

pub returns-clause-carries : goal.returns-clause-carries
returns-clause-carries g c tells was stays finds =
    rw c.of.ensures (carries_opened g.D.Disk.sight c.a_disk_holds_one_list.ensures was _ _ (rw (← c.self.view_is) at c.requires)
    (rw (← c.self.view_is) at stays) (rw (← c.self.view_is) at finds))
