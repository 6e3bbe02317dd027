-- The input says a directory, which is written; or the run ends with it.
use Rattle.std.proofs.Common.{◌∙◌, [], ap, refl, subst, sym, Ok, Err}
use Rattle.std.proofs.lemmas.Result.{err_from_is_err_and}
use Rattle.pec_outside.specs.Flow.{WrotePart, followed_by}
use Rattle.pec_directory.specs.Directory.{providers_of}
use Rattle.pec_ldif.specs.Writing.{ldif_text}
use Rattle.pec_runs.specs.Statuses as statuses
use Rattle.pec_top.specs.Shown.{end_shown, stop_shown}
use Rattle.pec_top.proofs.EndLemmas.{halted_told, last_told}
use Rattle.pec_top.proofs.ExportingLemmas.{exported_over, exported_stopped, exported_whole}
use Rattle.pec_top.proofs.FlowLemmas.{followed_by-nil}
use Rattle.pec_top.proofs.exporting.export_form.Goals as goal

pub returns-in_err-directory-clause-exported : goal.returns-in_err-directory-clause-exported
returns-in_err-directory-clause-exported g c =
    let before = g.W.Stream.held c.args.out.now in
    let stop = c.in_err-directory.field-0.0 in
    let p = err_from_is_err_and c.from_residual.result c.from_residual.ensures.1 in
    rw (p.1, p.2) (exported_stopped ldif_text (stop_shown stop) (g.S.Stream.left c.args.input.now) before before
    (halted_told stop c.in_err-directory.ensures.stops before before [] (sym (followed_by-nil before))))

pub returns-in_err-text-in-Opens-clause-exported : goal.returns-in_err-text-in-Opens-clause-exported
returns-in_err-text-in-Opens-clause-exported g c =
    let before = g.W.Stream.held c.args.out.now in
    let p = err_from_is_err_and c.from_residual-in_err-text-in-Opens.result c.from_residual-in_err-text-in-Opens.ensures.1 in
    rw (p.1, p.2) (exported_stopped ldif_text statuses.NoMemory (g.S.Stream.left c.args.input.now) before before
    (refl, sym (followed_by-nil before)))

pub returns-in_err-end-in-Opens-clause-exported : goal.returns-in_err-end-in-Opens-clause-exported
returns-in_err-end-in-Opens-clause-exported g c =
    let before = g.W.Stream.held c.args.out.now in
    let after = g.W.Stream.held c.write_last.new.out in
    let taken = rw c.in-Opens.is at c.in_ok-directory.ensures.read in
    let p = err_from_is_err_and c.from_residual-in_err-end-in-Opens.result
    c.from_residual-in_err-end-in-Opens.ensures.1 in
    rw (p.1, p.2, c.in_err-end-in-Opens.ensures.stop) (exported_whole ldif_text statuses.WriteFault
    (g.S.Stream.left c.args.input.now) before after taken.bytes taken.input taken.short
    (providers_of c.in-Opens.directory) taken.reads
    (subst (WrotePart before after) (c.deref.ensures.value ∙ c.in_ok-text-in-Opens.ensures) c.in_err-end-in-Opens.ensures.err))

pub returns-in_ok-end-in-Opens-clause-exported : goal.returns-in_ok-end-in-Opens-clause-exported
returns-in_ok-end-in-Opens-clause-exported g c =
    let before = g.W.Stream.held c.args.out.now in
    let after = g.W.Stream.held c.write_last.new.out in
    let taken = rw c.in-Opens.is at c.in_ok-directory.ensures.read in
    rw (c.in_ok-end-in-Opens.ensures.ok.0) (exported_whole ldif_text statuses.Done
    (g.S.Stream.left c.args.input.now) before after taken.bytes taken.input taken.short
    (providers_of c.in-Opens.directory) taken.reads
    (refl, c.in_ok-end-in-Opens.ensures.ok.1 ∙ ap (followed_by before) (c.deref.ensures.value ∙ c.in_ok-text-in-Opens.ensures)))

pub returns-in_err-end-in-Ends-clause-exported : goal.returns-in_err-end-in-Ends-clause-exported
returns-in_err-end-in-Ends-clause-exported g c =
    let before = g.W.Stream.held c.args.out.now in
    let after = g.W.Stream.held c.write_last-in-Ends.new.out in
    let over = rw c.in-Ends.is at c.in_ok-directory.ensures.read in
    let stop = c.in_err-end-in-Ends.field-0.0 in
    let p = err_from_is_err_and c.from_residual-in_err-end-in-Ends.result
    c.from_residual-in_err-end-in-Ends.ensures.1 in
    rw (p.1, p.2) (exported_over ldif_text (stop_shown stop) (g.S.Stream.left c.args.input.now) before after over.bytes
    over.input over.end over.stage
    (last_told over.end c.in-Ends.last over.shown before after _ (c.deref-in-Ends.ensures.value ∙ over.text_is [])
    (Err stop) tt c.in_err-end-in-Ends.ensures.err c.in_err-end-in-Ends.ensures.stop))

pub returns-in_ok-end-in-Ends-clause-exported : goal.returns-in_ok-end-in-Ends-clause-exported
returns-in_ok-end-in-Ends-clause-exported g c =
    let before = g.W.Stream.held c.args.out.now in
    let after = g.W.Stream.held c.write_last-in-Ends.new.out in
    let over = rw c.in-Ends.is at c.in_ok-directory.ensures.read in
    let end = c.in_ok-end-in-Ends.end in
    exported_over ldif_text (end_shown end) (g.S.Stream.left c.args.input.now) before after over.bytes over.input over.end
    over.stage
    (last_told over.end c.in-Ends.last over.shown before after _ (c.deref-in-Ends.ensures.value ∙ over.text_is [])
    (Ok end) c.in_ok-end-in-Ends.ensures.ok tt tt)
