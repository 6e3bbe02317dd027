use Rattle.pec_service.specs.Runs.{world}
use Rattle.pec_service.specs.Services.{connections_of}
use Rattle.pec_service.proofs.RunLemmas.{has_journals, is_world, serves_on}
use Rattle.pec_service.proofs.runs.a_serving_runs_books_belong_to_the_ledger.Goals as goal

pub returns : goal.returns
returns g c = record {
  headline = λ asked status unread before after depot left here there old new ran form begins is_form at_hand fit honest.
      let happened = ran.served.happened
      in let trade = is_world asked status unread before after _ _ _ here there _ _ ran.served form begins is_form
      in let journals = has_journals asked status unread before after _ _ _ here there _ _ ran.served form begins is_form
      in let serves = serves_on asked status unread before after _ _ _ here there _ _ ran.served form begins is_form at_hand
      in let start = c.a_run_begins_sound.ensures (world happened) trade asked.screens depot form happened.course.opening journals.opening
      at_hand fit
      in c.a_services_books_belong_to_the_ledger.ensures.headline (world happened) trade happened.setting.kept _
      (connections_of happened.course.service) start.0 start.1 serves.is.each honest;
  honest = λ asked status unread before after depot left here there old new told ran form begins is_form at_hand.
      let happened = ran.served.happened
      in let serves = serves_on asked status unread before after _ _ _ here there _ _ ran.served form begins is_form at_hand
      in c.a_services_books_belong_to_the_ledger.ensures.honest (world happened) happened.setting.kept _
      (connections_of happened.course.service) told serves.is.each;
}
