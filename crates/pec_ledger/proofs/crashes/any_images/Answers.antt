-- Journals that follow a state, each by itself, are Fit: from the lemmas.
use Rattle.pec_ledger.proofs.Images.{any_images, any_list_of_images}
use Rattle.pec_ledger.proofs.crashes.any_images.Goals as goal

pub returns : goal.returns
returns c = record { journals = any_images; lists = any_list_of_images }
