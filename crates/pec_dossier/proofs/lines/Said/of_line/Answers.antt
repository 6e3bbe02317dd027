-- A line says what is read of it.
use Rattle.std.proofs.Common.{sym, arith, None, Some}
use Rattle.pec_dossier.proofs.LineLemmas.{past_ends, refused_ends, said_over, said_some}
use Rattle.pec_dossier.proofs.lines.Said.of_line.Goals as goal

pub returns-then-number-gt-MOST_LINES-clause-says : goal.returns-then-number-gt-MOST_LINES-clause-says
returns-then-number-gt-MOST_LINES-clause-says c = λ line is lines.
    past_ends c.args.number line lines _
    (λ few. let many = c.if-number-gt-MOST_LINES.true in absurd (omega (arith, few, many))) c.in_ok-text.ensures

pub returns-then-is_passed_over-clause-says : goal.returns-then-is_passed_over-clause-says
returns-then-is_passed_over-clause-says c = λ line is.
    said_over c.args.number line c.args.content.now is c.if-number-gt-MOST_LINES.false c.requires
    (sym c.if-is_passed_over.ensures)

pub returns-in-Some-clause-says : goal.returns-in-Some-clause-says
returns-in-Some-clause-says c = λ line is.
    said_some c.args.number line c.args.content.now is c.if-number-gt-MOST_LINES.false c.requires
    (Some c.in-Some.message.items) (sym c.if-is_passed_over.ensures) (rw c.in-Some.is at c.in_ok-message.ensures)

pub returns-in_ok-text-in-None-clause-says : goal.returns-in_ok-text-in-None-clause-says
returns-in_ok-text-in-None-clause-says c = λ line is lines.
    refused_ends c.args.number line lines _
    (said_some c.args.number line c.args.content.now is c.if-number-gt-MOST_LINES.false c.requires None
    (sym c.if-is_passed_over.ensures) (rw c.in-None.is at c.in_ok-message.ensures))
    c.in_ok-text-in-None.ensures
