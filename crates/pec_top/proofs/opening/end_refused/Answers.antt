-- The last line is written, or a front of it.
use Rattle.std.proofs.Common.{◌∙◌, refl, sym, subst}
use Rattle.pec_runs.specs.Endings as ends
use Rattle.pec_runs.specs.Plays.{Finish, finish_text}
use Rattle.pec_runs.specs.Ran.{TellsAs}
use Rattle.pec_top.specs.Shown.{result_shown}
use Rattle.pec_top.specs.declared.ending.End.TheVariants as lasts
use Rattle.pec_top.proofs.EndLemmas.{told_last}
use Rattle.pec_top.proofs.opening.end_refused.Goals as goal

pub returns-in-NotEmpty-clause-told : goal.returns-in-NotEmpty-clause-told
returns-in-NotEmpty-clause-told g c = λ providers finish given.
    let is = rw c.in-NotEmpty.is at given in
    let before = g.W.Stream.held c.args.out.now in
    let after = g.W.Stream.held c.write_last.new.out in
    let run = c.write_last.result in
    subst (λ (f : Finish). TellsAs (result_shown run) before after (finish_text providers f) f) (sym is.1)
    (told_last (ends.NotEmpty is.0) lasts.NotEmpty refl before after _ _ (c.deref.ensures.value ∙ is.2) run
    c.write_last.ensures.ok c.write_last.ensures.err c.write_last.ensures.stop)

pub returns-in-NotEmpty-clause-line : goal.returns-in-NotEmpty-clause-line
returns-in-NotEmpty-clause-line g c = λ failed. rw c.in-NotEmpty.is tt

pub returns-in-NotFit-clause-line : goal.returns-in-NotFit-clause-line
returns-in-NotFit-clause-line g c = λ failed. rw c.in-NotFit.is tt

pub returns-in-NotFit-clause-told : goal.returns-in-NotFit-clause-told
returns-in-NotFit-clause-told g c = λ providers finish given.
    let is = rw c.in-NotFit.is at given in
    let before = g.W.Stream.held c.args.out.now in
    let after = g.W.Stream.held c.write_last-in-NotFit.new.out in
    let run = c.write_last-in-NotFit.result in
    subst (λ (f : Finish). TellsAs (result_shown run) before after (finish_text providers f) f) (sym is.2)
    (told_last (ends.NotFit is.0 is.1) lasts.NotFit refl before after _ _ (c.deref-in-NotFit.ensures.value ∙ is.3) run
    c.write_last-in-NotFit.ensures.ok c.write_last-in-NotFit.ensures.err c.write_last-in-NotFit.ensures.stop)
