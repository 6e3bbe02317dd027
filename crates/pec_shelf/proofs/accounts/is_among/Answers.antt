use Rattle.pec_shelf.proofs.OwnLemmas.{among_is}
use Rattle.pec_shelf.proofs.accounts.is_among.Goals as goal

pub returns-clause-among : goal.returns-clause-among
returns-clause-among c = among_is c.args.address.now c.args.addresses.now c.stands_in.result c.stands_in.ensures
