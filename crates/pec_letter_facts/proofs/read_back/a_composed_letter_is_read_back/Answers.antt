-- A composed letter is read back, by the laws of lines, heads, dates and composed bodies.
use Rattle.pec_letter_facts.proofs.LineLemmas.{Laws, heading_stands}
use Rattle.pec_letter_facts.proofs.LookupLemmas.{found_in_heading}
use Rattle.pec_letter_facts.proofs.ReadBackLemmas.{Reading, read_as, read_back}
use Rattle.pec_letter_facts.proofs.read_back.a_composed_letter_is_read_back.Goals as goal

pub returns : goal.returns
returns c =
    let laws : Laws = record {
      stands = c.a_line_is_read_as_its_value.ensures.stands;
      plain = c.a_line_is_read_as_its_value.ensures.printable;
      lists = c.a_folded_list_is_read_as_its_addresses.ensures.stands;
      dates = c.a_printed_stamp_is_one_line.ensures.date;
      dated = c.a_header_date_has_one_stamp.ensures.text;
      types = c.a_composed_type_has_its_boundary.ensures.stands;
    }
    in let reading : Reading = record {
      heads = c.what_is_written_is_read.ensures.head;
      behind = c.what_is_written_is_read.ensures.body;
      again = c.what_is_composed_is_read_again.ensures;
      boundary = c.a_composed_type_has_its_boundary.ensures.boundary;
      types = c.a_composed_type_has_its_boundary.ensures.shown;
      kept = c.blanks_are_cut_at_both_ends.ensures.kept;
      folded = c.a_folded_list_is_read_as_its_addresses.ensures.shown;
    }
    in record {
      read = λ seals provider heading contents text can is. read_as laws reading seals provider heading contents text can is;
      letter = λ seals provider heading contents cert certificate text can has is_cert is.
          read_back seals provider heading contents cert certificate text has is_cert (read_as laws reading seals provider heading contents text can is);
      heading = λ heading can. (heading_stands laws heading can, found_in_heading reading.folded reading.kept heading can);
    }
