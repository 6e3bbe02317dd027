-- Disk after disk is looked at, and each is as it was.
use Rattle.std.proofs.Common.{arith, refl, ◌∙◌}
use Rattle.pec_top.proofs.RestLemmas.{empty_next, rest_none, rest_on}
use Rattle.pec_top.proofs.survey.choose_form.Goals as goal

pub loop-provider-init : goal.loop-provider-init
loop-provider-init g c = record {
  empty = λ k below. absurd (omega (arith, below));
  elsewhere = λ told k past. refl;
  rest = λ told. rest_none g.P.D.Disk.tells g.P.D.Disk.sight (g.P.Depot.home c.args.depot.now);
  last = λ k. omega arith;
  later = omega arith;
}

pub loop-provider-preserved : goal.loop-provider-preserved
loop-provider-preserved g c =
    let so_far = c.loop-provider.invariant in
    let this = c.in_ok-holds.ensures in
    let old = g.P.Depot.home c.args.depot.now in
    let mid = g.P.Depot.home c.loop-provider.depot in
    record {
      empty =
          empty_next g.P.Depot.tells g.P.D.Disk.tells g.P.D.Disk.sight old mid so_far.rest c.loop-provider.provider
          c.in_ok-holds.holds c.if-holds.false this.holds so_far.empty;
      elsewhere = λ told k past.
          let inside = c.loop-provider-test.true in
          this.elsewhere told k (λ e. omega (arith, e, past, inside)) ∙ so_far.elsewhere told k past;
      rest = λ told.
          rest_on g.P.D.Disk.tells g.P.D.Disk.sight old mid (g.P.Depot.home c.holds_something.new.depot) (so_far.rest told)
          (this.rest told);
      last = λ k. let a = so_far.last k in let b = this.last k in omega (arith, a, b);
      later = let a = so_far.later in let b = this.later in omega (arith, a, b);
    }

pub returns-clause-chosen : goal.returns-clause-chosen
returns-clause-chosen g c = λ k within bytes read.
    let past = c.loop-provider-test.false in
    c.loop-provider.invariant.empty k (omega (arith, within, past)) bytes read
