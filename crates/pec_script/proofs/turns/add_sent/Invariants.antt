use Rattle.std.proofs.Common.{◌≡◌, drop}
use Rattle.pec_directory.specs.Directory.{providers_of}
use Rattle.pec_script.specs.Pages.{text_for}
use Rattle.pec_script.specs.Texts.{sent_rows}
use Rattle.pec_script.proofs.turns.add_sent.Given as goal

abbrev pub invariant-loop-peer : goal.invariant-loop-peer
invariant-loop-peer l =
    text_for (sent_rows (providers_of l.directory) l.name) l.page.text.items (drop l.peer-index l.sent) ≡ text_for (sent_rows (providers_of l.directory) l.name) l.fn.page.text.items l.sent
