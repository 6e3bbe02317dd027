use Rattle.std.proofs.Common.{arith}
use Rattle.pec_shelf.specs.Drawers.{own_rows}
use Rattle.pec_shelf.proofs.DrawerLemmas.{filter_short}
use Rattle.pec_shelf.proofs.drawers.Drawers.counted.Goals as goal

pub returns-in-Some-clause-below : goal.returns-in-Some-clause-below
returns-in-Some-clause-below g c =
    omega (
      arith,
      c.in-Some.ensures.counted_are,
      filter_short g.R.Owned.counts_in (own_rows g.R.Owned.owner_of c.args.account.now c.args.self.now.rows),
      c.count-count.ensures.value,
      c.count-count.ensures.below,
    )

pub returns-in-None-clause-below : goal.returns-in-None-clause-below
returns-in-None-clause-below g c =
    omega (
      arith,
      c.counted_among.ensures,
      filter_short g.R.Owned.counts_in (own_rows g.R.Owned.owner_of c.args.account.now c.args.self.now.rows),
      c.count-count.ensures.value,
      c.count-count.ensures.below,
    )
