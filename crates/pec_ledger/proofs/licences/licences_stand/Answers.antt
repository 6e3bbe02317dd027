-- What stays while journals go on: from the lemmas.
use Rattle.pec_ledger.proofs.Growth.{joint_stays, licence_stays}
use Rattle.pec_ledger.proofs.ItemTexts.{all_genuine_stay, is_item_text_stays}
use Rattle.pec_ledger.proofs.licences.licences_stand.Goals as goal

pub returns : goal.returns
returns c = record {
  letters = licence_stays;
  items = is_item_text_stays;
  conditions = joint_stays;
  frames = all_genuine_stay;
}
