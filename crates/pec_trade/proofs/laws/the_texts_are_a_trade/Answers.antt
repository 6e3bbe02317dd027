-- The laws of all parts together.
use Rattle.std.proofs.Common.{arith}
use Rattle.std.proofs.lemmas.List.{length-map}
use Rattle.pec_directory.specs.Directory.{Kept}
use Rattle.pec_trade.proofs.EnvelopeLemmas.{Envelopes, Values, composed as envelope_composed, seen_names}
use Rattle.pec_trade.proofs.FactsLemmas.{Heads}
use Rattle.pec_trade.proofs.NamedLemmas.{Lines}
use Rattle.pec_trade.proofs.NoticeLemmas.{anomaly_there, notice}
use Rattle.pec_trade.proofs.PuttingLemmas.{can_be_put}
use Rattle.pec_trade.proofs.ReceiptLemmas.{Receipts, composed as receipt_composed}
use Rattle.pec_trade.proofs.SeenLemmas.{Views}
use Rattle.pec_trade.proofs.SentLemmas.{Sending, sent_as}
use Rattle.pec_trade.proofs.TextLemmas.{Texts}
use Rattle.pec_trade.proofs.TradeLemmas.{Parts, is_trade}
use Rattle.pec_trade.proofs.laws.the_texts_are_a_trade.Goals as goal

pub returns : goal.returns
returns g c =
    let heads : Heads = record {
      told = c.a_text_has_one_reading.ensures.told;
      one = c.a_text_has_one_reading.ensures.head;
      list = c.a_list_has_one_reading.ensures.list;
      facts = c.a_head_has_one_account.ensures.told;
      bounded = c.facts_are_bounded.ensures.texts;
      recipients = c.facts_are_bounded.ensures.recipients;
      short = c.facts_are_bounded.ensures.short;
    }
    in let texts : Texts = record {
      causes = c.each_cause_is_one_of_all.ensures.passes;
      letters = c.a_letter_has_one_text.ensures;
      bodies = c.parts_have_one_composed_body.ensures.there;
      certificates = c.a_certificate_has_one_text.ensures.text;
      written = c.what_is_certified_can_be_written.ensures.written;
      issuer = c.what_is_certified_can_be_written.ensures.issuer;
      clock = λ kept moment before. c.a_rule_has_one_clock.ensures.stamp kept.zone moment before;
      address = c.a_value_is_one_line.ensures.address;
      named = c.a_name_is_one_short_line.ensures.short;
      brief = c.a_message_has_one_brief_form.ensures.told;
    }
    in let lines : Lines = record {
      told = c.a_text_has_one_reading.ensures.told;
      each = c.printable_is_said_of_each_byte.ensures.each;
      plain = c.a_line_is_read_as_its_value.ensures.printable;
      returned = c.lines_are_the_text.ensures.returned;
      next = c.lines_are_the_text.ensures.next_returned;
    }
    in let values : Values = record {
      angled_is = c.a_value_is_one_line.ensures.angled;
      text = c.a_value_is_one_line.ensures.text;
      subject = c.a_value_is_one_line.ensures.subject;
      address = c.a_value_is_one_line.ensures.address;
      joined = c.a_value_is_one_line.ensures.joined;
      named = c.a_name_is_one_short_line.ensures.printable;
      service = c.a_name_is_one_short_line.ensures.service;
    }
    in let sending : Sending = record {
      heads = heads;
      admits = c.a_message_has_one_answer.ensures.accepted;
      printable = c.what_is_certified_can_be_written.ensures.facts;
    }
    in let seals_of = g.S.Sealer.seals
    in let views : (sealer : g.row.S.Denot) → Views (seals_of sealer) = λ sealer. record {
      told = c.a_text_is_one_envelope.ensures.told sealer;
      other = c.an_envelope_is_no_receipt.ensures.letter sealer;
    }
    in let envelopes : (sealer : g.row.S.Denot) → Envelopes (seals_of sealer) = λ sealer. record {
      texts = texts;
      values = values;
      lines = lines;
      views = views sealer;
      text = c.a_message_has_one_envelope.ensures.text (seals_of sealer);
      there = c.a_message_has_one_envelope.ensures.there (seals_of sealer);
      seen = c.what_is_composed_is_seen.ensures sealer;
      names = c.a_text_is_one_envelope.ensures.names sealer;
      letters = c.a_text_is_one_letter.ensures.letter sealer;
      back = λ heading contents provider. c.a_composed_letter_is_read_back.ensures.letter (seals_of sealer) provider heading contents;
      opens = λ provider bytes text e. (c.sealing_and_opening.ensures.opens sealer provider bytes text).1 e;
      numbers = λ provider name e. ((g.met.S.Sealer.lawful sealer).each_others provider name).0 e;
    }
    in let receipts : (sealer : g.row.S.Denot) → Receipts (seals_of sealer) = λ sealer. record {
      texts = texts;
      views = views sealer;
      seen = c.what_is_given_is_seen.ensures sealer;
    }
    in let parts : (sealer : g.row.S.Denot) → Parts (seals_of sealer) = λ sealer. record {
      sending = sending;
      frames = record {
        told = c.an_address_is_told_exactly.ensures;
        tells = c.a_text_is_one_frame.ensures;
        path = c.a_frame_is_read_as_it_was_made.ensures.path;
        message = c.a_frame_is_read_as_it_was_made.ensures.message;
      };
      envelopes = envelopes sealer;
      receipts = receipts sealer;
      notices = record {
        receipts = receipts sealer;
        heads = heads;
        told = c.an_address_is_told_exactly.ensures;
        anomaly = λ kept provider number moment message text. (c.a_message_has_one_anomaly.ensures (seals_of sealer) kept provider number moment message text).0;
        head = c.an_anomaly_is_no_letter.ensures.head sealer;
        letter = c.an_anomaly_is_no_letter.ensures.letter sealer;
        unseen = c.an_anomaly_is_no_letter.ensures.unseen sealer;
        unread = c.an_envelope_is_no_receipt.ensures.unread sealer;
      };
      ids = λ providers text id lawful. (c.a_text_names_one_message.ensures.names providers text id lawful).0;
    }
    in record {
      trade = λ sealer kept lawful fits. is_trade (seals_of sealer) (parts sealer) kept lawful fits;
      envelopes = λ sealer kept lawful fits id moment original sent before.
          let made = envelope_composed (seals_of sealer) (envelopes sealer) kept lawful fits id moment sent.facts original
          (sent_as sending kept (seals_of sealer) lawful id original sent) before
          in (made.text, made.there, made.is, made.given);
      receipts = λ sealer kept lawful fits receipt original can.
          let made = receipt_composed (seals_of sealer) (receipts sealer) kept lawful fits receipt original can
          (sent_as sending kept (seals_of sealer) lawful receipt.id original can.sent)
          in (made.text, made.there, made.can, made.is, made.bytes);
      notices = λ sealer kept lawful fits id moment account cause path message within below is some few lower before.
          let made = notice (seals_of sealer) (parts sealer).notices kept lawful fits id moment account cause path message (record {
            within = omega (arith, within, length-map kept (λ (one : Kept). one.provider));
            below = below;
            is = is;
            some = some;
            few = few;
            lower = lower;
            before = before;
          })
          in (made.text, made.there, made.can, made.bytes, made.seen);
      anomalies = λ sealer kept lawful fits provider entry moment message within below small.
          anomaly_there (seals_of sealer) (parts sealer).notices kept lawful fits provider entry moment message
          (omega (arith, within, length-map kept (λ (one : Kept). one.provider))) below small;
      put = λ sealer kept lawful fits.
          can_be_put (seals_of sealer) (record {
            envelopes = envelopes sealer;
            receipts = receipts sealer;
            told = c.an_address_is_told_exactly.ensures;
            sending = sending;
          }) kept lawful fits;
      names = λ sealer kept lawful fits. seen_names (seals_of sealer) (envelopes sealer) kept lawful fits;
    }
