-- The law of brief forms, from the lemmas and the laws of heads and bodies.
use Rattle.pec_brief.proofs.BriefLemmas.{brief_is_told}
use Rattle.pec_brief.proofs.OutsideLemmas.{outside_stays, plain_stays}
use Rattle.pec_brief.proofs.shortening.a_message_has_one_brief_form.Goals as goal

pub returns : goal.returns
returns c =
    let unchanged = c.parts_stand_in_order.ensures.unchanged
    in record {
      told = brief_is_told (record { heads = c.a_text_has_one_reading.ensures.told; bodies = c.a_body_has_one_reading.ensures.told });
      plain = plain_stays unchanged;
      outside = outside_stays unchanged;
    }
