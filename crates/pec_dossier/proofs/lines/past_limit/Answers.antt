-- The number of a line is tested first, and then its length.
use Rattle.std.proofs.Common.{◌∙◌, Bool, [], ap, sym}
use Rattle.std.specs.Prelude.{if◌then◌else◌}
use Rattle.std.proofs.lemmas.Bool.{le-ltb, lt-ltb}
use Rattle.pec_runs.specs.Endings.{end_text}
use Rattle.pec_runs.specs.Endings as ends
use Rattle.pec_runs.specs.ScriptLines.{most_lines}
use Rattle.pec_dossier.proofs.LineLemmas.{long_script_text}
use Rattle.pec_dossier.proofs.lines.past_limit.Goals as goal

pub returns-then-number-gt-MOST_LINES : goal.returns-then-number-gt-MOST_LINES
returns-then-number-gt-MOST_LINES c =
    c.in_ok-text.ensures.items ∙ (sym long_script_text
    ∙ sym (ap (λ (past : Bool). end_text [] (if past then ends.LongScript else ends.LongLine c.args.number))
    (lt-ltb most_lines c.args.number c.if-number-gt-MOST_LINES.true)))

pub returns : goal.returns
returns c =
    c.in_ok-text-2.ensures
    ∙ sym (ap (λ (past : Bool). end_text [] (if past then ends.LongScript else ends.LongLine c.args.number))
    (le-ltb most_lines c.args.number c.if-number-gt-MOST_LINES.false))
