use Rattle.pec_ledger.specs.Pairs.{pair_of}
use Rattle.pec_shelf.proofs.PairLemmas.{row_is}
use Rattle.pec_shelf.proofs.shelf.Shelf.row.Goals as goal

pub returns : goal.returns
returns c = λ trade for.
    row_is trade c.args.self.now (pair_of c.args.id c.args.recipient.now) c.sent_half-sent.result c.received_half-received.result c.row_with-row.result
    for c.sent_half-sent.ensures c.received_half-received.ensures c.row_with-row.ensures
