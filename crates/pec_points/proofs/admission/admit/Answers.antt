-- What the rows before the screens answered, and what the screens said, is `admission_of`, and so what the table says.
use Rattle.std.proofs.Common.{◌≡◌, ℕ, false, ap, sym, ◌∙◌}
use Rattle.pec_directory.specs.Directory.{providers_of}
use Rattle.pec_screen.specs.VerdictReading.{finds}
use Rattle.pec_points.specs.Case.{case_at, unscreened}
use Rattle.pec_points.specs.AdmissionReading.{admission_of, screened}
use Rattle.pec_points.proofs.ScreenLemmas.{looked_by}
use Rattle.pec_points.proofs.admission.admit.Goals as goal

pub returns : goal.returns
returns g c =
    let law = c.a_message_has_one_answer.ensures in
    let found = finds (g.J.Judge.patterns c.args.screens.now) c.args.message.now in
    let case = case_at (providers_of c.args.directory.now) c.args.provider c.args.sender.now c.args.path.now c.args.message.now found in
    let earlier : c.in_ok-admission.admission ≡ admission_of (unscreened case) =
    c.in_ok-admission.ensures
    ∙ ap (λ (limit : ℕ). admission_of (record (unscreened case) { limit = limit })) c.limit_of-limit.ensures in
    let exact : c.by_screens.result ≡ admission_of case =
    c.by_screens.ensures.answer ∙ (ap (screened found) earlier ∙ sym (law.screened case)) in
    record {
      refused = λ cause. rw exact (law.refused case cause);
      accepted = λ facts. rw exact (law.accepted case facts);
      exact = exact;
      looked = looked_by law.reached law.unreached case c.in_ok-admission.admission _ _ earlier c.by_screens.ensures.seen;
      no_memory = tt;
      patterns = c.by_screens.ensures.patterns;
    }
