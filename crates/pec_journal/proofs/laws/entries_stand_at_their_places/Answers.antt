use Rattle.pec_journal.proofs.ReopeningLemmas.{all_stand, stands_still, places-push}
use Rattle.pec_journal.proofs.laws.entries_stand_at_their_places.Goals as goal

pub returns : goal.returns
returns c = record { stands = all_stand; stays = stands_still; more = places-push }
