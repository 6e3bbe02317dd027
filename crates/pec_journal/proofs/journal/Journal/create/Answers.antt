use Rattle.std.proofs.Common.{arith}
use Rattle.pec_journal.proofs.AppendLemmas.{rested_grows}
use Rattle.pec_journal.proofs.journal.Journal.create.Goals as goal

pub returns-in-Ok-write_through-clause-any_moment : goal.returns-in-Ok-write_through-clause-any_moment
returns-in-Ok-write_through-clause-any_moment g c tells =
    let sight = g.D.Disk.sight in
    rw c.over.ensures (rested_grows 9 (sight c.args.disk) (sight c.size.new.self) (sight c.write_through.new.disk)
    (g.met.D.Disk.only_now tells c.args.disk) (g.met.D.Disk.counts_now tells c.size.new.self) (c.size.ensures.rests tells)
    (c.write_through.ensures.grows tells (omega arith)))

pub returns-in-Err-write_through-clause-any_moment_err : goal.returns-in-Err-write_through-clause-any_moment_err
returns-in-Err-write_through-clause-any_moment_err g c tells =
    let sight = g.D.Disk.sight in
    rested_grows 9 (sight c.args.disk) (sight c.size.new.self) (sight c.write_through.new.disk)
    (g.met.D.Disk.only_now tells c.args.disk) (g.met.D.Disk.counts_now tells c.size.new.self) (c.size.ensures.rests tells)
    (c.write_through.ensures.grows tells (omega arith))
