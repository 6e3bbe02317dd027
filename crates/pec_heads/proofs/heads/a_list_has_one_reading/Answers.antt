-- The law of lists, from the lemmas.
use Rattle.pec_heads.proofs.EntryForms.{forms}
use Rattle.pec_heads.proofs.ListLaws.{list_or_fault, list_never_both, one_list, one_list_fault}
use Rattle.pec_heads.proofs.ReadingLaws.{list_told}
use Rattle.pec_heads.proofs.heads.a_list_has_one_reading.Goals as goal

pub returns : goal.returns
returns c =
    let told = c.an_address_is_told_exactly.ensures
    in record {
      forms = forms;
      some = list_or_fault told;
      either = list_never_both told;
      list = one_list told;
      fault = one_list_fault told;
      told = list_told told;
    }
