-- A printable value is printed as itself, and what is printed of another is printable.
use Rattle.std.proofs.Common.{rules, sym, ◌∙◌}
use Rattle.pec_heads.proofs.FactSteps.{printable_printed, printed_printable}
use Rattle.pec_heads.proofs.facts.print.Goals as goal

pub returns-then-is_none : goal.returns-then-is_none
returns-then-is_none c = c.in_ok-text.ensures ∙ sym (printable_printed c.args.value.now (search rules))

pub of_printable-requires-2 : goal.of_printable-requires-2
of_printable-requires-2 c = rw (c.as_slice.ensures.value, c.in_ok-bytes.ensures) (printed_printable c.args.value.now)
