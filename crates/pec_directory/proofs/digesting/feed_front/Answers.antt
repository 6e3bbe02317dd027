use Rattle.std.proofs.Common.{codes}
use Rattle.pec_directory.specs.Canonical.{front_of, line_of}
use Rattle.pec_directory.proofs.FeedLemmas.{fed_more}
use Rattle.pec_directory.proofs.digesting.feed_front.Goals as goal

pub returns : goal.returns
unfolding front_of
returns c =
    let provider = c.args.provider.now.provider in
    fed_more c.args.hasher.now c.feed_line.new.hasher c.feed_line-2.new.hasher (line_of (codes "provider") provider.name) (line_of (codes "receipts") provider.receipts)
    (rw (c.bytes.ensures.value, c.name.ensures) at c.feed_line.ensures) (rw (c.bytes-2.ensures.value, c.receipts.ensures) at c.feed_line-2.ensures)
