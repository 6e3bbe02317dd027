use Rattle.std.proofs.Common.{◌<◌, length}
use Rattle.pec_shelf.proofs.ListLemmas.{not_empty}
use Rattle.pec_shelf.proofs.conditions.may_place_anomaly.Goals as goal

pub returns : goal.returns
returns c = λ trade moment message.
    let some : 0 < length c.args.accounts.now = not_empty (length c.args.accounts.now) c.is_empty.result c.is_empty.ensures c.if-is_empty.false in
    (λ room. (some, c.differ.ensures.0 c.if-not-differ.false, (c.have_room.ensures trade).0 room), λ own. (c.have_room.ensures trade).1 own.2)
