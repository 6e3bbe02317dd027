-- Where no quote stands before it, the first comma of all is the first outside quotes.
use Rattle.std.proofs.Common.{sym, ◌∙◌}
use Rattle.pec_heads.proofs.FirstCommas.{comma_none, comma_plain}
use Rattle.pec_heads.proofs.quoting.comma.Goals as goal

pub returns-in_err-first-clause-value : goal.returns-in_err-first-clause-value
returns-in_err-first-clause-value c =
    c.from_residual.ensures ∙ sym (comma_none c.args.text.now (sym c.in_err-first.ensures.value))

pub returns-in-None-clause-value : goal.returns-in-None-clause-value
returns-in-None-clause-value c =
    sym (comma_plain c.args.text.now c.in_ok-first.first (sym c.in_ok-first.ensures.value) (sym c.in-None.ensures))
