-- What was tested is what is asked.
use Rattle.std.proofs.Common.{sym, ◌∙◌}
use Rattle.pec_directory.specs.Directory.{providers_of}
use Rattle.pec_receipts.proofs.GivingLemmas.{given_told}
use Rattle.pec_receipts.proofs.receipts.Receipt.can_be_given.Goals as goal

pub returns : goal.returns
returns c =
    let told = given_told (providers_of c.args.directory.now) c.args.self.now
    in ((λ e. told.0 (sym c.is_given-given.ensures ∙ e)), (λ given. c.is_given-given.ensures ∙ told.1 given))
