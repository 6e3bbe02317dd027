-- What an entry does with boxes: from the lemmas.
use Rattle.std.proofs.Common.{◌∙◌}
use Rattle.pec_ledger.specs.Lookups.{mailbox}
use Rattle.pec_ledger.proofs.BoxLemmas.{without_is}
use Rattle.pec_ledger.proofs.MoveLemmas.{archived_archive, archived_mailbox, others_stay, placed_archive, placed_mailbox}
use Rattle.pec_ledger.proofs.boxes.an_entry_fills_boxes.Goals as goal

pub returns : goal.returns
returns c = record {
  taken_out = λ trade p h moment account place. archived_mailbox trade p h moment account place ∙ without_is (mailbox h account) place;
  put_last = archived_archive;
  others = others_stay;
  behind = λ trade J p es follows e none account. placed_mailbox trade p J es follows e none account;
  stays = λ trade J p es follows e none account. placed_archive trade p J es follows e none account;
}
