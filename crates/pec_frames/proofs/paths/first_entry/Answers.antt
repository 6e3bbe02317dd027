-- The entry ends at the comma, or is all that is left.
use Rattle.std.proofs.Common.{Some, None}
use Rattle.std.proofs.lemmas.List.{take_rest}
use Rattle.pec_frames.proofs.EntryLemmas.{split_by}
use Rattle.pec_frames.proofs.paths.first_entry.Goals as goal

pub returns-in-Some-clause-entries : goal.returns-in-Some-clause-entries
returns-in-Some-clause-entries c = rw take_rest (split_by c.args.text.now (Some c.in-Some.at) c.in-Some.ensures.value)

pub returns-in-None-clause-entries : goal.returns-in-None-clause-entries
returns-in-None-clause-entries c = split_by c.args.text.now None c.in-None.ensures.value
