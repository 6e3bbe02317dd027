-- An envelope's head names no acknowledgement, and its mark is no receipt's.
use Rattle.pec_receipts.proofs.OtherLemmas.{envelope_unseen, unread_unseen}
use Rattle.pec_receipts.proofs.laws.an_envelope_is_no_receipt.Goals as goal

pub returns : goal.returns
returns g c = record {
  letter = λ sealer providers text letter word is marked.
      envelope_unseen (g.S.Sealer.seals sealer)
      (record { heads = λ bytes. c.a_text_is_one_letter.ensures.headed sealer bytes; letters = c.a_head_has_one_letter.ensures })
      providers text letter word is marked;
  unread = λ sealer providers text read word fault headed marked unread.
      unread_unseen (g.S.Sealer.seals sealer)
      (record { heads = λ bytes. c.a_text_is_one_letter.ensures.headed sealer bytes; letters = c.a_head_has_one_letter.ensures })
      providers text read word fault headed marked unread;
}
