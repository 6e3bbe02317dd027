-- The law of composed types, from the lemmas and the laws of blanks and of fields.
use Rattle.pec_bodies.proofs.WrittenLaws.{type_is_read, type_is_shown, type_stands}
use Rattle.pec_bodies.proofs.composing.a_composed_type_has_its_boundary.Goals as goal

pub returns : goal.returns
returns c =
    let trims = c.blanks_are_cut_at_both_ends.ensures.only
    in let line = c.a_line_is_read_as_its_value.ensures
    in record { boundary = type_is_read trims; stands = type_stands line.stands; shown = type_is_shown trims line.shown }
