use Rattle.pec_ledger.specs.Lookups.{mailbox}
use Rattle.pec_shelf.proofs.ArchiveLemmas.{found_there}
use Rattle.pec_shelf.proofs.archives.stands.Goals as goal

pub returns : goal.returns
returns c =
    found_there c.posted.result (λ row. row.now) (mailbox c.args.shelf.now.half c.args.account.now) c.args.place c.is_some.result
    c.posted.ensures c.is_some.ensures
