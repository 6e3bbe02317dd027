-- Two runs without faults write alike: from the lemmas, and the laws of settings and of transcripts.
use Rattle.std.proofs.Common.{sym, ◌∙◌}
use Rattle.std.specs.Prelude.{Some}
use Rattle.pec_runs.specs.Openings.{Run}
use Rattle.pec_runs.specs.Ran.{world}
use Rattle.pec_runs.proofs.RunLemmas.{directory_is, has_begun, is_setting}
use Rattle.pec_runs.proofs.SettingLemmas.{made_alike, same_made, same_providers, same_world, wrote_alike}
use Rattle.pec_runs.proofs.TranscriptLemmas.{has_its_hands}
use Rattle.pec_runs.proofs.settings.one_input_has_one_transcript.Goals as goal

pub returns : goal.returns
returns g c = record {
  alike = λ asked others status other unread before after other_unread other_before other_after depot left found last old
      between behind new told ran again form script begun begun_again same opening screens none none_again kept kept_again.
      let worlds = same_world c.providers_have_one_world.ensures ran.happened.setting again.happened.setting
      (is_setting asked status unread before after _ _ _ old between ran form script begun)
      (is_setting others other other_unread other_before other_after _ _ _ behind new again form script begun_again) same
      in wrote_alike asked others ran.happened again.happened form script begun begun_again same worlds opening
      (again.given.screens ∙ (screens ∙ sym ran.given.screens)) status other before after other_before other_after
      (c.a_run_without_faults_has_one_transcript.ensures.one asked status unread before after depot left old between told
      ran none kept)
      (c.a_run_without_faults_has_one_transcript.ensures.one others other other_unread other_before other_after found last
      behind new told again none_again kept_again);
  made = λ asked status other text before after other_before other_after depot left found last old between behind new told
      ran again script twin begun begun_again all all_again none none_again kept kept_again.
      let is = is_setting asked status (Some text) before after _ _ _ old between ran Run script begun
      in let is_again = is_setting asked other (Some text) other_before other_after _ _ _ behind new again Run twin begun_again
      in let first = has_begun asked status (Some text) before after _ _ _ old between ran Run script begun
      in let second = has_begun asked other (Some text) other_before other_after _ _ _ behind new again Run twin begun_again
      in let same = same_providers text ran.happened.parts again.happened.parts _ _ ran.input again.input
      (directory_is asked status (Some text) before after _ _ _ old between ran Run script begun)
      (directory_is asked other (Some text) other_before other_after _ _ _ behind new again Run twin begun_again)
      in let worlds = same_world c.providers_have_one_world.ensures ran.happened.setting again.happened.setting is is_again same
      in made_alike asked ran.happened again.happened script twin Run begun begun_again ran.given again.given
      (again.input ∙ sym ran.input) worlds
      (same_made (world ran.happened) (world again.happened) worlds _ _ ran.happened.opening again.happened.opening
      first.opening second.opening all all_again) status other before after other_before other_after same
      (has_its_hands c.a_script_without_faults_is_one.ensures c.quiet_runs_are_one.ensures.script_there asked status
      (Some text) before after _ _ _ old between ran told none kept Run script begun all)
      (has_its_hands c.a_script_without_faults_is_one.ensures c.quiet_runs_are_one.ensures.script_there asked other
      (Some text) other_before other_after _ _ _ behind new again told none_again kept_again Run twin begun_again all_again)
      (c.a_run_without_faults_has_one_transcript.ensures.one asked status (Some text) before after depot left old between
      told ran none kept)
      (c.a_run_without_faults_has_one_transcript.ensures.one asked other (Some text) other_before other_after found last
      behind new told again none_again kept_again);
}
