-- The shelf keeps the homes of the directory.
use Rattle.pec_ledger.specs.Lookups.{accepted_at}
use Rattle.pec_reception.proofs.PairLemmas.{pairs_same}
use Rattle.pec_reception.proofs.arrivals.has_pairs_at.Goals as goal

pub returns : goal.returns
returns c = λ trade. λ of.
    pairs_same trade c.args.by (accepted_at c.args.shelf.now.half c.args.number) c.has_pairs-there.result
    (c.has_pairs-there.ensures trade (c.requires.homes trade of))
