use Rattle.pec_service.proofs.StoredLemmas.{shown_is_seen, stored_is_said}
use Rattle.pec_service.proofs.replies.what_was_stored_is_not_answered_500.Goals as goal

pub returns : goal.returns
returns g c = record {
  submissions = λ trade kept here connection number address path message is heard lack.
      stored_is_said trade _ kept here connection is number address path message heard lack;
  looks = λ trade kept here connection address place is heard lack.
      shown_is_seen trade _ kept here connection is address place heard lack;
}
