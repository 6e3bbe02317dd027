-- A line says what is read of it.
use Rattle.std.proofs.Common.{◌≡◌, ◌∙◌, ap, refl, sym, arith, Err, length}
use Rattle.pec_types.specs.Bytes.{Bytes}
use Rattle.pec_directory.specs.Directory.{providers_of}
use Rattle.pec_runs.specs.Endings as ends
use Rattle.pec_runs.specs.ScriptLines.{SaysNone, is_passed_over, line_by}
use Rattle.pec_script.specs.LinesReading.{command_of}
use Rattle.pec_top.specs.declared.ending.End.TheVariants as lasts
use Rattle.pec_top.proofs.SaidLemmas.{ends_so, past_ends, refused_line_text, said_command, said_over}
use Rattle.pec_top.proofs.said.Said.of_line.Goals as goal

pub returns-then-number-gt-MOST_LINES-clause-says : goal.returns-then-number-gt-MOST_LINES-clause-says
returns-then-number-gt-MOST_LINES-clause-says c = λ spare line is lines.
    past_ends (providers_of c.args.directory.now) c.args.number line lines _
    (λ few. let many = c.if-number-gt-MOST_LINES.true in absurd (omega (arith, few, many))) c.in_ok-text.ensures

pub returns-then-is_passed_over-clause-says : goal.returns-then-is_passed_over-clause-says
returns-then-is_passed_over-clause-says c = λ spare line is.
    let size = ap (λ (b : Bytes). length b) is in
    let short = c.requires in
    said_over spare (providers_of c.args.directory.now) c.args.number line c.if-number-gt-MOST_LINES.false
    (omega (arith, size, short)) (ap is_passed_over is ∙ sym c.if-is_passed_over.ensures)

pub returns-in-Ok-clause-says : goal.returns-in-Ok-clause-says
returns-in-Ok-clause-says c = λ spare line is.
    said_command spare (providers_of c.args.directory.now) c.args.number line c.args.content.now is
    c.if-number-gt-MOST_LINES.false c.requires (sym c.if-is_passed_over.ensures)
    ∙ ap (line_by spare) c.in-Ok.ensures.exact

pub returns-in-Ok-clause-can : goal.returns-in-Ok-clause-can
returns-in-Ok-clause-can c =
    c.what_a_line_says_can_be_played.ensures c.args.directory.now c.args.content.now c.in-Ok.command c.requires
    c.in-Ok.ensures.exact

pub returns-in_ok-text-in-Err-clause-says : goal.returns-in_ok-text-in-Err-clause-says
returns-in_ok-text-in-Err-clause-says c = λ spare line is lines.
    let providers = providers_of c.args.directory.now in
    let reads : command_of providers c.args.content.now ≡ Err c.in-Err.fault =
    c.in-Err.ensures.exact c.in_ok-text-in-Err.ensures.reason in
    ends_so providers c.args.number line lines _ lasts.Refused
    (ends.LineRefused c.args.number c.in-Err.fault) (SaysNone c.in-Err.fault)
    (λ hand. said_command hand providers c.args.number line c.args.content.now is c.if-number-gt-MOST_LINES.false c.requires
    (sym c.if-is_passed_over.ensures) ∙ ap (line_by hand) reads)
    (λ script. refl) (c.in_ok-text-in-Err.ensures.text ∙ sym (refused_line_text providers c.args.number c.in-Err.fault))
    refl
