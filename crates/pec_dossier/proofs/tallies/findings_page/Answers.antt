-- Behind the last finding the page has the lines of all.
use Rattle.std.proofs.Common.{List, [], sym, ◌∙◌}
use Rattle.std.proofs.lemmas.List.{at_drop_all}
use Rattle.pec_check.specs.declared.dossiers.Finding.{Finding}
use Rattle.pec_directory.specs.Directory.{providers_of}
use Rattle.pec_script.specs.Pages.{only, text_for}
use Rattle.pec_dossier.specs.Texts.{finding_words}
use Rattle.pec_dossier.proofs.TellingLemmas.{put_each}
use Rattle.pec_dossier.proofs.tallies.findings_page.Goals as goal

pub returns : goal.returns
returns c =
    let providers = providers_of c.args.directory.now in
    let findings = c.args.findings.now in
    let text = c.loop-finding.page.text.items in
    sym (at_drop_all (λ (rest : List Finding). text_for (λ (finding : Finding). only (finding_words providers finding))
    text rest) findings c.loop-finding.finding-index c.loop-finding-test.false)
    ∙ (c.loop-finding.invariant
    ∙ put_each c.lines_are_put_in_their_order.ensures (finding_words providers) [] findings)
