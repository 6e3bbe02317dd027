-- What is told of the message, and the tally with it.
use Rattle.std.proofs.Common.{◌∷◌, [], ◌++◌, ℕ, length, ap, sym, ◌∙◌, Ok, Err}
use Rattle.pec_directory.specs.Directory.{providers_of}
use Rattle.pec_script.specs.Texts.{text_of}
use Rattle.pec_dossier.specs.Tallies.{reports_in, tally_of}
use Rattle.pec_dossier.specs.Texts.{Told, message_rows}
use Rattle.pec_dossier.proofs.TellingLemmas.{one_genuine, one_refused, tally_counts, tally_findings}
use Rattle.pec_dossier.proofs.tallies.Tally.check.Goals as goal

pub returns-in_ok-add-in-Ok : goal.returns-in_ok-add-in-Ok
returns-in_ok-add-in-Ok g c = λ all is.
    let providers = providers_of c.args.directory.now in
    let tally = c.args.self.now in
    let told : Told = Ok c.in-Ok.report in
    let same = sym c.in-Ok.ensures.exact in
    let found = c.in_ok-add-in-Ok.ensures.ok (reports_in all) (tally_findings all tally is) in (
      c.in_ok-text-in-Ok.ensures
          ∙ (ap (λ (k : ℕ). text_of (message_rows providers k told)) (tally_counts all tally is)
          ∙ ap (λ (t : Told). text_of (message_rows providers (length all) t)) same),
      one_genuine all c.in-Ok.report tally _ is found ∙ ap (λ (t : Told). tally_of (all ++ t ∷ [])) same,
    )

pub returns-in_ok-text-in-Err : goal.returns-in_ok-text-in-Err
returns-in_ok-text-in-Err g c = λ all is.
    let providers = providers_of c.args.directory.now in
    let tally = c.args.self.now in
    let told : Told = Err c.in-Err.fault in
    let same = sym (c.in-Err.ensures.exact c.in_ok-text-in-Err.ensures.reason) in (
      c.in_ok-text-in-Err.ensures.text
          ∙ (ap (λ (k : ℕ). text_of (message_rows providers k told)) (tally_counts all tally is)
          ∙ ap (λ (t : Told). text_of (message_rows providers (length all) t)) same),
      one_refused all c.in-Err.fault tally is ∙ ap (λ (t : Told). tally_of (all ++ t ∷ [])) same,
    )
