-- The letter that is read of a receipt passes the table.
use Rattle.pec_receipts.proofs.LawLemmas.{Laws, certified_is_seen}
use Rattle.pec_receipts.proofs.laws.what_is_certified_is_seen.Goals as goal

pub returns : goal.returns
returns g c = λ sealer kept r said original text lawful given facts below before few says is.
    let seals = g.S.Sealer.seals sealer
    in let laws : Laws seals = record {
      values = record {
        each = c.printable_is_said_of_each_byte.ensures.each;
        angled_is = c.a_value_is_one_line.ensures.angled;
        text = c.a_value_is_one_line.ensures.text;
        subject = c.a_value_is_one_line.ensures.subject;
        address = c.a_value_is_one_line.ensures.address;
        joined = c.a_value_is_one_line.ensures.joined;
      };
      named = c.a_name_is_one_short_line.ensures.printable;
      short = c.a_name_is_one_short_line.ensures.short;
      service = c.a_name_is_one_short_line.ensures.service;
      clock = λ issuer moment before. c.a_rule_has_one_clock.ensures.stamp issuer.zone moment before;
      back = c.a_composed_letter_is_read_back.ensures.letter;
      heads = λ bytes. c.a_text_is_one_letter.ensures.headed sealer bytes;
      letters = c.a_head_has_one_letter.ensures;
      places = c.each_cause_is_one_of_all.ensures.place;
      passing = λ providers law. record {
        id = λ i field letter w b same e. c.what_is_composed_passes.ensures.id providers i field letter law w b same e;
        issuer = λ p letter e called. c.what_is_composed_passes.ensures.issuer providers p letter e called;
        home = λ i letter e. c.what_is_composed_passes.ensures.home providers i letter e;
        types = λ all letter e. c.what_is_composed_passes.ensures.typed providers all letter e;
        wish = c.what_is_composed_passes.ensures.wish;
        dated = c.what_is_composed_passes.ensures.dated;
      };
    }
    in certified_is_seen seals laws kept r said original text lawful given facts below before few says is
