-- What holds no envelope would be no charge to compose, and one that is owed is due.
use Rattle.pec_ledger.specs.Network.{journals_in}
use Rattle.pec_extract.proofs.ChangeLemmas.{owed_charge, changed_letter}
use Rattle.pec_extract.proofs.laws.no_log_has_changed.Goals as goal

pub returns : goal.returns
returns c = λ trade world journals fit number changed.
    let me = changed.0 in
    let is = changed.2 in
    c.nothing_has_changed.ensures.letters trade world (journals_in journals) fit me is.id.provider 1 (owed_charge me
    is.id)
    number (changed_letter trade me (journals_in journals me) number is)
