use Rattle.pec_chronicle.proofs.drives.Drive.read.Goals as goal

pub returns-clause-entry : goal.returns-clause-entry
returns-clause-entry g c tells entries entry file stands =
    c.in_ok-bytes.ensures.entry tells entries entry (rw c.in-Open.is at file) stands
