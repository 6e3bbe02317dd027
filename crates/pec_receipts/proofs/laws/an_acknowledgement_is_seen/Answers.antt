-- The head that is read of an acknowledgement says everything.
use Rattle.pec_receipts.proofs.AckLemmas.{AckLaws, acknowledged_is_seen}
use Rattle.pec_receipts.proofs.laws.an_acknowledgement_is_seen.Goals as goal

pub returns : goal.returns
returns g c = λ sealer kept r original text lawful given facts below before few is_ack is.
    let seals = g.S.Sealer.seals sealer
    in let laws : AckLaws seals = record {
      values = record {
        each = c.printable_is_said_of_each_byte.ensures.each;
        angled_is = c.a_value_is_one_line.ensures.angled;
        text = c.a_value_is_one_line.ensures.text;
        subject = c.a_value_is_one_line.ensures.subject;
        address = c.a_value_is_one_line.ensures.address;
        joined = c.a_value_is_one_line.ensures.joined;
      };
      named = c.a_name_is_one_short_line.ensures.printable;
      short = c.a_name_is_one_short_line.ensures.short;
      service = c.a_name_is_one_short_line.ensures.service;
      clock = λ issuer moment before. c.a_rule_has_one_clock.ensures.stamp issuer.zone moment before;
      heads = λ bytes. c.a_text_is_one_letter.ensures.headed sealer bytes;
      heading = c.a_composed_letter_is_read_back.ensures.heading;
      written = c.what_is_written_is_read.ensures.head;
      listed = c.a_folded_list_is_read_as_its_addresses.ensures.shown;
      cut = c.blanks_are_cut_at_both_ends.ensures.cut;
      told = c.an_address_is_told_exactly.ensures;
      names = λ providers id law w b. c.a_text_names_one_message.ensures.named providers id law w b;
      dated = λ stamp stands. (c.a_header_date_has_one_stamp.ensures.stamp stamp _).1 (c.a_header_date_has_one_stamp.ensures.text stamp stands);
    }
    in acknowledged_is_seen seals laws kept r original text lawful given facts below before few is_ack is
