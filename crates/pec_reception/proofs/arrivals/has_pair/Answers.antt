-- The shelf keeps the homes of the directory.
use Rattle.pec_ledger.specs.Lookups.{accepted_at}
use Rattle.pec_reception.proofs.PairLemmas.{pair_same}
use Rattle.pec_reception.proofs.arrivals.has_pair.Goals as goal

pub returns : goal.returns
returns c = λ trade. λ of.
    pair_same trade c.args.recipient.now (accepted_at c.args.shelf.now.half c.args.number) c.has_pair-there.result
    (c.has_pair-there.ensures trade (c.requires.homes trade of))
