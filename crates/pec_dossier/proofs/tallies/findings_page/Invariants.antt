use Rattle.std.proofs.Common.{◌≡◌, [], drop}
use Rattle.pec_check.specs.declared.dossiers.Finding.{Finding}
use Rattle.pec_directory.specs.Directory.{providers_of}
use Rattle.pec_script.specs.Pages.{only, text_for}
use Rattle.pec_dossier.specs.Texts.{finding_words}
use Rattle.pec_dossier.proofs.tallies.findings_page.Given as goal

abbrev pub invariant-loop-finding : goal.invariant-loop-finding
invariant-loop-finding l =
    text_for (λ (finding : Finding). only (finding_words (providers_of l.directory) finding)) l.page.text.items
    (drop l.finding-index l.findings)
    ≡ text_for (λ (finding : Finding). only (finding_words (providers_of l.directory) finding)) [] l.findings
