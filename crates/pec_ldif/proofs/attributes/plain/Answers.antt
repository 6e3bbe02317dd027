-- A plain value is UTF-8.
use Rattle.std.proofs.Common.{sym, ◌∙◌}
use Rattle.pec_ldif.proofs.ValueLemmas.{plain_utf8}
use Rattle.pec_ldif.proofs.attributes.plain.Goals as goal

pub returns-in-Err : goal.returns-in-Err
returns-in-Err c = absurd (c.in-Err.ensures.cases.0 (plain_utf8 c.args.value.now (sym c.is_plain.ensures ∙ c.if-not-is_plain.false)))
