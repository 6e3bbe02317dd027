use Rattle.std.proofs.Common.{sym, ◌∙◌}
use Rattle.pec_index.proofs.IndexLemmas.{value_at-shown}
use Rattle.pec_index.proofs.indexes.Index.get.Goals as goal

pub returns : goal.returns
returns g c = rw (← c.self.view_is) (c.get.ensures.value ∙ sym (value_at-shown _ c.self.inside.map.entries))
