-- The law of parts, from the lemmas and the law of heads.
use Rattle.pec_bodies.proofs.PartLaws.{body_told, never_both, one_fault, one_list, some_reading}
use Rattle.pec_bodies.proofs.parts.a_body_has_one_reading.Goals as goal

pub returns : goal.returns
returns c =
    let heads = c.a_text_has_one_reading.ensures.told
    in record { some = some_reading heads; either = never_both heads; parts = one_list heads; fault = one_fault heads; told = body_told heads }
