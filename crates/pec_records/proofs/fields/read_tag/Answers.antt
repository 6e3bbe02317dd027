use Rattle.pec_records.proofs.fields.read_tag.Goals as goal

pub returns : goal.returns
returns c = c.one_of.ensures
