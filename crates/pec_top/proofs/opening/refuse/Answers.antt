-- The fault is told; or its disk couldn't be looked at again, or memory ran out.
use Rattle.std.proofs.Common.{false, inl, inr, refl}
use Rattle.pec_directory.specs.Directory.{providers_of}
use Rattle.pec_runs.specs.Openings.{Fails, Stops, disks_at}
use Rattle.pec_top.specs.Opened.{next_by, provider_named}
use Rattle.pec_top.proofs.HeadlessLemmas.{disk_failed, held_fails, held_known, held_none}
use Rattle.pec_top.proofs.opening.refuse.Goals as goal

pub returns-in_default-clause-refused : goal.returns-in_default-clause-refused
returns-in_default-clause-refused g c =
    let disks = disks_at (g.P.Depot.tells × g.P.D.Disk.tells) g.P.D.Disk.sight (g.P.Depot.home c.args.depot.now) in record {
      holds = false;
      next = Fails;
      is_next = inr (refl, c.in_default.ensures.unfit);
      may_hold = λ other. held_fails c.args.how disks (provider_named other c.args.fault);
      finishes = λ other. refl;
    }

pub returns-in-Ok-refusal_of-clause-refused : goal.returns-in-Ok-refusal_of-clause-refused
returns-in-Ok-refusal_of-clause-refused g c =
    let disks = disks_at (g.P.Depot.tells × g.P.D.Disk.tells) g.P.D.Disk.sight (g.P.Depot.home c.args.depot.now) in
    let holds = c.in-Ok.holds in record {
      holds = holds;
      next = next_by c.args.fault;
      is_next = inl (inl refl);
      may_hold = held_known disks holds c.args.how c.args.fault c.in-Ok.ensures.holds;
      finishes = λ other. c.in-Ok-refusal_of.ensures other;
    }

pub returns-in-Ok-refusal_of-clause-blame : goal.returns-in-Ok-refusal_of-clause-blame
returns-in-Ok-refusal_of-clause-blame g c = λ failed.
    inl (disk_failed c.args.fault c.in-Ok.holds (providers_of c.args.directory.now) c.in-Ok-refusal_of.refusal failed
    (c.in-Ok-refusal_of.ensures 0))

pub returns-in-Err-clause-refused : goal.returns-in-Err-clause-refused
returns-in-Err-clause-refused g c =
    let disks = disks_at (g.P.Depot.tells × g.P.D.Disk.tells) g.P.D.Disk.sight (g.P.Depot.home c.args.depot.now) in record {
      holds = false;
      next = Stops;
      is_next = inl (inr refl);
      may_hold = λ other. held_none c.args.how disks (provider_named other c.args.fault);
      finishes = λ other. refl;
    }
