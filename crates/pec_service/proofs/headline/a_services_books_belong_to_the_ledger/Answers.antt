use Rattle.pec_service.specs.Calls.{commands_of, lucks_of}
use Rattle.pec_service.specs.Services.{calls_in}
use Rattle.pec_service.proofs.ConnectionLemmas.{are_honest, are_unforged, sound_behind, states_are}
use Rattle.pec_service.proofs.headline.a_services_books_belong_to_the_ledger.Goals as goal

pub returns : goal.returns
returns g c = record {
  headline = λ trade world kept here all sound none are honest.
      c.the_books_belong_to_the_ledger.ensures trade world (lucks_of (calls_in all)) here.network.sites
      (commands_of (calls_in all)) sound none (are_unforged trade _ kept here all are honest);
  states = λ trade kept here all are. states_are trade _ kept here all are;
  sound = λ trade world kept here all sound are honest.
      sound_behind trade _ kept (c.a_network_stays_sound.ensures.commands trade world) here all are honest sound;
  honest = λ trade kept here all told are.
      are_honest trade _ kept (c.what_is_due_is_no_forged_frame.ensures.scripts trade) told here all are;
}
