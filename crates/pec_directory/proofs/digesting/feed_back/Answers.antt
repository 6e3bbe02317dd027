use Rattle.std.proofs.Common.{◌++◌, codes}
use Rattle.std.specs.Fmt.{decimal}
use Rattle.hex.specs.Hex.{encode_lower}
use Rattle.pec_directory.specs.Canonical.{back_of, line_of}
use Rattle.pec_directory.proofs.FeedLemmas.{fed_more}
use Rattle.pec_directory.proofs.digesting.feed_back.Goals as goal

pub returns : goal.returns
unfolding back_of
returns c =
    let provider = c.args.provider.now.provider in
    let key = line_of (codes "key") (encode_lower provider.key) in
    let rule = line_of (codes "zone") provider.rule in
    fed_more c.args.hasher.now c.feed_line-2.new.hasher c.feed_line-3.new.hasher (key ++ rule) (line_of (codes "limit") (decimal provider.limit))
    (fed_more c.args.hasher.now c.feed_line.new.hasher c.feed_line-2.new.hasher key rule
    (rw (c.as_bytes.ensures.value, c.in_ok-key.ensures, c.key.ensures) at c.feed_line.ensures) (rw (c.bytes.ensures.value, c.rule.ensures) at c.feed_line-2.ensures))
    (rw (c.as_bytes-2.ensures.value, c.format.ensures.text, c.limit.ensures) at c.feed_line-3.ensures)
