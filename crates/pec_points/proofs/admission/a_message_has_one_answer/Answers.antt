-- The law of admission, from the lemmas, over the laws of pec_heads.
use Rattle.pec_points.proofs.Ties.{Ties}
use Rattle.pec_points.proofs.AdmissionLemmas.{some_answer, never_both, one_cause, one_account, refused_says, accepted_says}
use Rattle.pec_points.proofs.ScreenLemmas.{reaches, screens_last}
use Rattle.pec_points.proofs.admission.a_message_has_one_answer.Goals as goal

pub returns : goal.returns
returns c =
    let ties : Ties = record {
      heads = c.a_text_has_one_reading.ensures.told;
      lists = c.a_list_has_one_reading.ensures.told;
      facts = c.a_head_has_one_account.ensures.told;
      gathered = c.facts_are_bounded.ensures.gathered;
    } in
    record {
      some = some_answer ties;
      either = never_both ties;
      cause = one_cause ties;
      facts = one_account ties;
      refused = refused_says ties;
      accepted = accepted_says ties;
      screened = screens_last ties;
      reached = λ case facts e. reaches ties case _ e;
      unreached = λ case cause e. reaches ties case _ e;
    }
