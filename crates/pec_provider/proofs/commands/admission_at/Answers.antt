-- The cause is the table's, and behind it what the screens say; the facts are those of the head.
use Rattle.std.proofs.Common.{◌∙◌, ap, sym}
use Rattle.pec_directory.specs.Directory.{providers_of}
use Rattle.pec_screen.specs.VerdictReading.{finds}
use Rattle.pec_points.specs.AdmissionReading.{admission_of}
use Rattle.pec_points.specs.Case.{case_at, unscreened}
use Rattle.pec_reception.specs.OfTrades.{cause_at, cause_in}
use Rattle.pec_provider.proofs.LookLemmas.{accepted_facts, cause_screened}
use Rattle.pec_provider.proofs.commands.admission_at.Goals as goal

pub returns-clause-cause : goal.returns-clause-cause
unfolding cause_at
returns-clause-cause g c =
    let found = finds (g.J.Judge.patterns c.args.screens.now) c.args.message.now in
    let case = case_at (providers_of c.args.house.now.directory.now) c.args.house.now.me c.args.sender.now c.args.path.now c.args.message.now found in
    ap cause_in (c.in_ok-admission.ensures.exact ∙ c.a_message_has_one_answer.ensures.screened case)
    ∙ cause_screened found (admission_of (unscreened case))

pub returns-clause-facts : goal.returns-clause-facts
returns-clause-facts g c = λ facts is.
    let found = finds (g.J.Judge.patterns c.args.screens.now) c.args.message.now in
    let case = case_at (providers_of c.args.house.now.directory.now) c.args.house.now.me c.args.sender.now c.args.path.now c.args.message.now found in
    accepted_facts case facts (sym c.in_ok-admission.ensures.exact ∙ is)
