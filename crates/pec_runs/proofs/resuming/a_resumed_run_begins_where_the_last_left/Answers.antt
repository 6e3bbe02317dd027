-- What a run leaves fits, and the next one begins with it: from the lemmas.
use Rattle.pec_runs.specs.Openings.{Resume}
use Rattle.pec_runs.specs.Ran.{world}
use Rattle.pec_runs.proofs.RunLemmas.{again_fit, all_there, fits_left, has_begun, is_setting, is_world}
use Rattle.pec_runs.proofs.SettingLemmas.{same_world}
use Rattle.pec_runs.proofs.resuming.a_resumed_run_begins_where_the_last_left.Goals as goal

pub returns : goal.returns
returns g c =
    λ words others status other unread before after other_unread other_before other_after depot left found last old between behind new told
    ran again form script rest begun at_hand begun_again at_hand_again same found_so fit honest hand.
    let trade = world ran.happened
    in let first = has_begun words status unread before after _ _ _ old between ran form script begun
    in let second = has_begun others other other_unread other_before other_after _ _ _ behind new again Resume rest begun_again
    in let is = is_world words status unread before after _ _ _ old between ran form script begun
    in let fits = fits_left words status unread before after _ _ _ old between ran form script begun
    (c.licences_stand.ensures.conditions trade)
    (record {
      count = c.a_round_is_its_turns.ensures.count trade;
      journals = c.a_round_is_its_turns.ensures.journals trade;
      interrupted = c.a_round_is_its_turns.ensures.interrupted trade;
    })
    (record {
      commands = c.a_network_stays_sound.ensures.commands trade is;
      ends = c.a_network_stays_sound.ensures.ends trade is;
    })
    (c.soundness.ensures.start trade) c.a_line_has_one_reading.ensures at_hand fit honest hand
    in let one = same_world c.providers_have_one_world.ensures ran.happened.setting again.happened.setting
    (is_setting words status unread before after _ _ _ old between ran form script begun)
    (is_setting others other other_unread other_before other_after _ _ _ behind new again Resume rest begun_again) same
    in again_fit _ _ trade (world again.happened) one
    (c.licences_stand.ensures.conditions trade)
    first.left fits _ form ran.happened.opening again.happened.opening
    (all_there trade _ form ran.happened.opening first.opening at_hand)
    (all_there (world again.happened) _ Resume again.happened.opening second.opening at_hand_again)
    first.disks second.opening found_so c.a_disk_holds_one_list.ensures
