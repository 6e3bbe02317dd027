use Rattle.std.proofs.Common.{[], ap, inr, Err}
use Rattle.std.proofs.lemmas.Result.{err_from_is_err_and}
use Rattle.pec_stock.proofs.TakingLemmas.{step_back, stops_here, taken_more, taken_none}
use Rattle.pec_stock.proofs.opening.take_start.Goals as goal

pub take_in-requires : goal.take_in-requires
take_in-requires c = record { holds = ([], c.requires.holds, c.requires.place) }

pub returns-in-Ok-clause-taken : goal.returns-in-Ok-clause-taken
returns-in-Ok-clause-taken c =
    let kept = c.args.directory.now in
    let before = c.args.shelf.now in
    taken_more kept before.me before [] (taken_none kept before c.requires.holds) c.take_in.new.shelf c.args.entry
    (c.in-Ok.ensures.taken [] c.requires.holds) c.take_in.ensures.me (λ trade of. c.in-Ok.ensures.step trade of)

-- no step of the half without entries
pub returns-in-Err-NotAStep-clause-not_own : goal.returns-in-Err-NotAStep-clause-not_own
returns-in-Err-NotAStep-clause-not_own c = λ trade of.
    let kept = c.args.directory.now in
    let before = c.args.shelf.now in
    inr (
      c.in_ok-begins.ensures.here trade of,
      stops_here trade before.me [] c.args.entry [] tt
          (λ step. c.in-Err-NotAStep.ensures.none trade of (ap (λ f. Err f) c.in-Err-NotAStep.field-0-is)
          (step_back kept before.me before [] (taken_none kept before c.requires.holds) trade of c.args.entry step)),
    )

pub returns-in_err-begins-clause-not_own : goal.returns-in_err-begins-clause-not_own
returns-in_err-begins-clause-not_own c = λ trade of.
    let p = err_from_is_err_and c.from_residual.result c.from_residual.ensures.1 in
    rw (p.1, p.2) (c.in_err-begins.ensures.not_own trade c.args.shelf.now.me of)
