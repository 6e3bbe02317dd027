-- The law of look-ups, from the lemmas.
use Rattle.pec_heads.proofs.WrittenLaws.{found_here, found_elsewhere, found_several}
use Rattle.pec_heads.proofs.writing.fields_are_found_by_their_names.Goals as goal

pub returns : goal.returns
returns c = record { here = found_here; elsewhere = found_elsewhere; several = found_several }
