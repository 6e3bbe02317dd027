-- There are as many fields as starts.
use Rattle.std.proofs.Common.{◌==◌, ◌∙◌, ap}
use Rattle.pec_heads.proofs.FieldLemmas.{length-fields_at}
use Rattle.pec_heads.proofs.fields.Fields.is_empty.Goals as goal

pub returns : goal.returns
returns c = rw (length-fields_at c.args.self.now.bytes.items c.args.self.now.starts.items) (c.is_empty.ensures ∙ ap (λ n. n == 0) c.args.self.now.starts.ok.0)
