use Rattle.pec_shelf.proofs.ListLemmas.{differ_is}
use Rattle.pec_shelf.proofs.accounts.differ.Goals as goal

pub returns : goal.returns
returns c = differ_is c.args.addresses.now c.all_differ.result c.all_differ.ensures
