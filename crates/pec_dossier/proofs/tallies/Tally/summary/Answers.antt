-- The last line stands behind those of the findings.
use Rattle.std.proofs.Common.{List, [], ◌∷◌, map, ap, sym, ◌∙◌}
use Rattle.pec_check.specs.declared.dossiers.Finding.{Finding}
use Rattle.pec_directory.specs.Directory.{providers_of}
use Rattle.pec_script.specs.Pages.{line_after}
use Rattle.pec_script.specs.Texts.{text_of}
use Rattle.pec_dossier.specs.Tallies.{count_words, summary_text}
use Rattle.pec_dossier.specs.Texts.{finding_words}
use Rattle.pec_dossier.proofs.TellingLemmas.{text_both}
use Rattle.pec_dossier.proofs.tallies.Tally.summary.Goals as goal

pub returns : goal.returns
unfolding summary_text
returns c =
    let words = finding_words (providers_of c.args.directory.now) in
    let last = count_words c.args.self.now in
    let rows = map words c.args.self.now.findings in
    c.in_ok-page-2.ensures
    ∙ (ap (λ t. line_after t last)
    (c.in_ok-page.ensures
    ∙ ap (λ (findings : List Finding). text_of (map words findings)) (c.deref.ensures.value ∙ c.in_ok-findings.ensures))
    ∙ (c.lines_are_put_in_their_order.ensures (text_of rows) (last ∷ []) ∙ sym (text_both rows (last ∷ []))))
