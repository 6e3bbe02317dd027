-- What the library's search finds is the first quote.
use Rattle.pec_types.specs.Bytes.{is_quote}
use Rattle.pec_heads.proofs.Places.{by_search}
use Rattle.pec_heads.proofs.quoting.quote.Goals as goal

pub returns : goal.returns
returns c = by_search is_quote c.args.text.now c.memchr.result c.memchr.ensures
