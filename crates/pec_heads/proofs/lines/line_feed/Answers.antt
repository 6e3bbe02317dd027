-- What the library's search finds is the first line feed.
use Rattle.pec_heads.specs.Lines.{is_feed}
use Rattle.pec_heads.proofs.Places.{below_search, by_search}
use Rattle.pec_heads.proofs.lines.line_feed.Goals as goal

pub returns : goal.returns
returns c = record {
  value = by_search is_feed c.args.text.now c.memchr.result c.memchr.ensures;
  below = below_search is_feed c.args.text.now c.memchr.result c.memchr.ensures;
}
