use Rattle.std.proofs.lemmas.Result.{err_from_is_err_and}
use Rattle.pec_provider.proofs.provider.Provider.vault.Goals as goal

pub returns-in_err-asked-clause-refused : goal.returns-in_err-asked-clause-refused
returns-in_err-asked-clause-refused g c = λ trade of.
    let p = err_from_is_err_and c.from_residual.result c.from_residual.ensures.1 in
    rw (p.1, p.2) (c.in_err-asked.ensures.refused trade of)
