use Rattle.std.proofs.Common.{◌∙◌, arith}
use Rattle.pec_network.proofs.BeginLemmas.{begun_next, count_next, counts_next, out_next, runs_next}
use Rattle.pec_network.proofs.opening.begin_each.Goals as goal

pub loop-me-preserved : goal.loop-me-preserved
loop-me-preserved g c =
    let port = g.P.Depot in
    let so_far = c.loop-me.invariant in
    let this = c.in_ok-provider.ensures in
    let front = c.loop-me.providers.items in
    let me = c.loop-me.me in
    let all = c.push_reserved.new.self.items in
    let provider = c.in_ok-provider.provider in
    let next = c.push_reserved.ensures.items in record {
      count = count_next front me so_far.count all provider next;
      room = c.push_reserved.ensures.capacity ∙ so_far.room;
      runs = runs_next front me so_far.count all provider next c.args.directory.now so_far.runs this.runs;
      begun =
          begun_next front me so_far.count all provider next port.tells g.D.Disk.tells g.D.Disk.sight c.args.directory.now c.args.form
          (port.home c.args.depot.now) (port.home c.loop-me.depot) so_far.begun so_far.out this.begun;
      counts =
          counts_next front me so_far.count all provider next g.D.Counted.faults (port.last c.args.depot.now) (port.last c.loop-me.depot)
          so_far.counts so_far.last this.count;
      out = λ told.
          out_next front me so_far.count all provider next (port.home c.args.depot.now) (port.home c.loop-me.depot) (port.home c.begin_next.new.depot)
          (so_far.out told) (this.out told);
      last = λ number. this.last number ∙ so_far.last number;
      later = let first = so_far.later in let then = c.begin_next.ensures.later in omega arith;
    }
