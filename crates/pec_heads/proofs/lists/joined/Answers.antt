-- The last comma is taken off again.
use Rattle.pec_heads.specs.Heads.{values_of}
use Rattle.pec_heads.specs.Views.{fields_shown}
use Rattle.pec_heads.proofs.EntrySteps.{all_joined}
use Rattle.pec_heads.proofs.lists.joined.Goals as goal

pub returns : goal.returns
returns c =
    all_joined c.as_slice-bytes.result.now c.loop-rest.rest.now c.args.name.now c.loop-rest.text.items c.pop.new.self.items c.loop-rest.text.len (values_of c.args.name.now (fields_shown c.args.fields.now))
    c.in_default.len_below c.loop-rest.invariant c.loop-rest.text.ok.0 c.pop.ensures.rest
