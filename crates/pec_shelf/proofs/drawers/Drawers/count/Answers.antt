use Rattle.std.proofs.Common.{arith}
use Rattle.pec_shelf.specs.Drawers.{is_own}
use Rattle.pec_shelf.proofs.DrawerLemmas.{filter_short}
use Rattle.pec_shelf.proofs.drawers.Drawers.count.Goals as goal

pub count_between-requires-clause-high : goal.count_between-requires-clause-high
count_between-requires-clause-high g c =
    omega (arith, c.len-all.ensures.value, filter_short (λ (row : g.row.R.Denot). is_own c.args.account.now (g.R.Owned.owner_of row)) c.args.self.now.rows)

pub returns-in-Some-clause-below : goal.returns-in-Some-clause-below
returns-in-Some-clause-below g c =
    omega (
      arith,
      c.in-Some.ensures.rows_are,
      c.len-all.ensures.value,
      c.len-all.ensures.below,
      filter_short (λ (row : g.row.R.Denot). is_own c.args.account.now (g.R.Owned.owner_of row)) c.args.self.now.rows,
    )

pub returns-in-None-clause-below : goal.returns-in-None-clause-below
returns-in-None-clause-below g c =
    omega (
      arith,
      c.count_between.ensures,
      c.len-all.ensures.value,
      c.len-all.ensures.below,
      filter_short (λ (row : g.row.R.Denot). is_own c.args.account.now (g.R.Owned.owner_of row)) c.args.self.now.rows,
    )
