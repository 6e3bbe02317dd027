-- The input says a directory, and the lines behind it are checked; or the run ends with it.
use Rattle.std.proofs.Common.{◌∙◌, []}
use Rattle.std.proofs.lemmas.Result.{err_from_is_err_and}
use Rattle.pec_directory.specs.Directory.{providers_of}
use Rattle.pec_dossier.specs.Reading.{result_shown as lines_shown}
use Rattle.pec_outside.specs.Flow.{behind}
use Rattle.pec_top.specs.Shown.{result_shown}
use Rattle.pec_top.proofs.CheckingLemmas.{checked_lines, checked_over, checked_stopped, ended_read, ended_shown, ended_since, ended_started}
use Rattle.pec_top.proofs.EndLemmas.{last_told}
use Rattle.pec_top.proofs.InputLemmas.{all_read_behind, behind_nothing}
use Rattle.pec_top.proofs.checking.check_form.Goals as goal

pub returns-in_err-directory-clause-checked : goal.returns-in_err-directory-clause-checked
returns-in_err-directory-clause-checked g c =
    let stop = c.in_err-directory.field-0.0 in
    let p = err_from_is_err_and c.from_residual.result c.from_residual.ensures.1 in
    rw (p.1, p.2) (checked_stopped stop c.in_err-directory.ensures.stops (g.S.Stream.left c.args.input.now)
    (g.W.Stream.held c.args.out.now))

pub returns-in-Opens-clause-checked : goal.returns-in-Opens-clause-checked
returns-in-Opens-clause-checked g c =
    let unread = g.S.Stream.left c.args.input.now in
    let before = g.W.Stream.held c.args.out.now in
    let after = g.W.Stream.held c.check_lines.new.out in
    let taken = rw (c.in-Opens.is, c.new-buffer.ensures, behind_nothing unread) at c.in_ok-directory.ensures.read in
    let run = c.check_lines.result in
    rw (c.ended_by.ensures, ended_shown run) (checked_lines (lines_shown run) before after unread _
    (providers_of c.in-Opens.directory) taken c.check_lines.ensures.checked)

pub returns-in-Opens-clause-all_read : goal.returns-in-Opens-clause-all_read
returns-in-Opens-clause-all_read g c =
    let run = c.check_lines.result in
    let unread = g.S.Stream.left c.check_lines.new.source in
    rw c.ended_by.ensures (all_read_behind _ c.check_lines.new.buffer unread
    (ended_read run (behind c.check_lines.new.buffer unread) c.check_lines.ensures.all_read))

pub returns-in-Opens-clause-blame : goal.returns-in-Opens-clause-blame
returns-in-Opens-clause-blame g c =
    rw c.ended_by.ensures (ended_since c.check_lines.result (g.S.Counted.faults c.args.input.now)
    (g.S.Counted.faults c.read.new.source) (g.S.Counted.faults c.check_lines.new.source)
    (g.W.Counted.faults c.args.out.now) (g.W.Counted.faults c.check_lines.new.out) c.read.ensures.later
    c.check_lines.ensures.blame)

pub returns-in-Opens-clause-started : goal.returns-in-Opens-clause-started
returns-in-Opens-clause-started g c = rw c.ended_by.ensures (ended_started c.check_lines.result)

pub returns-clause-checked : goal.returns-clause-checked
returns-clause-checked g c =
    let unread = g.S.Stream.left c.args.input.now in
    let before = g.W.Stream.held c.args.out.now in
    let after = g.W.Stream.held c.write_last.new.out in
    let over = rw (c.in-Ends.is, c.new-buffer.ensures, behind_nothing unread) at c.in_ok-directory.ensures.read in
    checked_over (result_shown c.write_last.result) before after unread _ c.in-Ends.end over
    (last_told over.end c.in-Ends.end over.shown before after _ (c.deref.ensures.value ∙ over.text_is [])
    c.write_last.result c.write_last.ensures.ok c.write_last.ensures.err c.write_last.ensures.stop)
