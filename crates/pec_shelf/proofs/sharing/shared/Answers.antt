use Rattle.std.proofs.Common.{sym, ◌∙◌}
use Rattle.pec_directory.specs.Directory.{providers_of}
use Rattle.pec_shelf.proofs.SharingLemmas.{account_is}
use Rattle.pec_shelf.proofs.sharing.shared.Goals as goal

pub returns-in-Some : goal.returns-in-Some
returns-in-Some c =
    c.address.ensures ∙ account_is (providers_of c.args.directory.now) c.args.address.now c.in-Some.account.now (sym c.in-Some.ensures)
