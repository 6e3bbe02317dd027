use Rattle.std.proofs.Common.{Some, None, ◌∙◌}
use Rattle.pec_http.proofs.PhraseLemmas.{phrase_by, phrase_short}
use Rattle.pec_http.proofs.statuses.Status.phrase.Goals as goal

pub returns-in-Some-clause-value : goal.returns-in-Some-clause-value
returns-in-Some-clause-value c = c.as_bytes.ensures.value
    ∙ phrase_by c.args.self c.in-Ok.code (Some c.in-Some.phrase.now) (c.in-Ok.ensures.1 ∙ c.number.ensures) c.in-Some.ensures.value

pub returns-in-Some-clause-short : goal.returns-in-Some-clause-short
returns-in-Some-clause-short c =
    let value = c.as_bytes.ensures.value
    ∙ phrase_by c.args.self c.in-Ok.code (Some c.in-Some.phrase.now) (c.in-Ok.ensures.1 ∙ c.number.ensures) c.in-Some.ensures.value
    in rw value (phrase_short c.args.self)

pub returns-in-None-clause-value : goal.returns-in-None-clause-value
returns-in-None-clause-value c =
    phrase_by c.args.self c.in-Ok.code None (c.in-Ok.ensures.1 ∙ c.number.ensures) c.in-None.ensures.value
