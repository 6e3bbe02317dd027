use Rattle.std.proofs.Common.{◌∙◌, ℕ, ap, map, sym}
use Rattle.pec_network.specs.Judging.{lists_of}
use Rattle.pec_network.specs.Network.{of_first}
use Rattle.pec_network.proofs.BeginLemmas.{nothing_begun, of_directory, sites_rested}
use Rattle.pec_network.proofs.network.Network.begin.Goals as goal

pub returns-in_default-clause-refused : goal.returns-in_default-clause-refused
returns-in_default-clause-refused g c =
    nothing_begun g.P.Depot.tells g.D.Disk.tells g.D.Disk.sight c.args.directory c.args.form (g.P.Depot.home c.args.depot.now)
    c.count.ensures.lawful (λ reads disk. c.a_disk_is_so.ensures.now reads disk)

pub invariant_of-result : goal.invariant_of-result
invariant_of-result g c = (
  of_directory c.args.directory c.in-Ok-begin_all.providers.items c.in-Ok.arrivals.items c.count.result c.requires
      c.count.ensures.count c.in-Ok-begin_all.ensures.all c.in-Ok.ensures.arrivals c.in-Ok-begin_all.ensures.runs
      (λ number other l. (c.in-Ok-begin_all.ensures.begun number other l).desk),
  c.in-Ok.ensures.count ∙ c.count.ensures.count,
)

pub returns-in-Ok-begin_all-clause-rests : goal.returns-in-Ok-begin_all-clause-rests
returns-in-Ok-begin_all-clause-rests g c =
    sites_rested c.in-Ok-begin_all.providers.items (lists_of g.J.Judge.patterns c.in-Ok.judges.items)
    (map g.J.Judge.patterns c.args.judges.items) c.in-Ok.arrivals.items c.count.result
    (c.in-Ok-begin_all.ensures.all ∙ sym c.count.ensures.count) c.in-Ok.ensures.screens c.in-Ok.ensures.arrivals
    (λ number other l. (c.in-Ok-begin_all.ensures.begun number other l).desk)

pub returns-in-Ok-begin_all-clause-screens : goal.returns-in-Ok-begin_all-clause-screens
returns-in-Ok-begin_all-clause-screens g c =
    c.in-Ok.ensures.screens
    ∙ ap (λ (n : ℕ). of_first n (map g.J.Judge.patterns c.args.judges.items)) c.count.ensures.count

pub returns-in-Ok-begin_all-clause-looks : goal.returns-in-Ok-begin_all-clause-looks
returns-in-Ok-begin_all-clause-looks g c =
    c.in-Ok.ensures.looks
    ∙ ap (λ (n : ℕ). of_first n (map g.J.Judge.seen c.args.judges.items)) c.count.ensures.count
