-- What the library's search finds is the first comma.
use Rattle.pec_heads.specs.Lists.{is_comma}
use Rattle.pec_heads.proofs.Places.{by_search}
use Rattle.pec_heads.proofs.quoting.first_comma.Goals as goal

pub returns-clause-value : goal.returns-clause-value
returns-clause-value c = by_search is_comma c.args.text.now c.memchr.result c.memchr.ensures
