use Rattle.pec_directory.specs.Directory.{providers_of}
use Rattle.pec_shelf.proofs.ListLemmas.{all_is}
use Rattle.pec_shelf.specs.Settled.{has_room_at}
use Rattle.pec_shelf.proofs.accounts.have_room.Goals as goal

pub returns : goal.returns
returns c = λ trade. all_is (has_room_at (providers_of c.args.directory.now) c.args.shelf.now.me c.args.shelf.now.half) c.args.accounts.now c.all_have_room.result c.all_have_room.ensures
