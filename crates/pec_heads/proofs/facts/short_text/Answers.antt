-- What is printed of what is left of a value is its text.
use Rattle.std.proofs.Common.{Some, ap, sym, ◌∙◌}
use Rattle.pec_heads.specs.Bytes.{trimmed}
use Rattle.pec_heads.proofs.FactSteps.{short_none, short_some}
use Rattle.pec_heads.proofs.facts.short_text.Goals as goal

pub returns-then-is_empty : goal.returns-then-is_empty
returns-then-is_empty c =
    short_none c.args.value.now c.trim-value.result.now (c.trim-value.ensures ∙ ap trimmed c.front.ensures) (sym c.if-is_empty.ensures)

pub returns : goal.returns
returns c =
    ap Some c.in_ok-text.ensures
    ∙ short_some c.args.value.now c.trim-value.result.now (c.trim-value.ensures ∙ ap trimmed c.front.ensures) (sym c.if-is_empty.ensures)
