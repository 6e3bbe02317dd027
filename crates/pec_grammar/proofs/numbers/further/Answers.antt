use Rattle.pec_grammar.proofs.NumberLemmas.{unit_fits, further_is}
use Rattle.pec_grammar.proofs.numbers.further.Goals as goal

pub pow-requires : goal.pow-requires
pow-requires c = unit_fits c.args.left c.requires

pub returns-then-saturating_mul-bound : goal.returns-then-saturating_mul-bound
returns-then-saturating_mul-bound c =
    let f = further_is _ _ _ _ _ _ _ _ c.ranges.b.fits c.ranges.bound.fits c.saturating_mul.ensures c.saturating_add-further.ensures c.pow.ensures c.saturating_mul-2.ensures
    c.if-saturating_mul-bound.true in
    record { value = f.0; below = f.1 }
