-- The law of what is seen, from the laws of heads and letters.
use Rattle.pec_receipts.proofs.SeenLemmas.{seen_told}
use Rattle.pec_receipts.proofs.reading.a_text_is_one_receipt.Goals as goal

pub returns : goal.returns
returns g c = λ sealer providers text.
    seen_told (g.S.Sealer.seals sealer) text (c.a_text_is_one_letter.ensures.headed sealer text) c.a_head_has_one_letter.ensures providers
