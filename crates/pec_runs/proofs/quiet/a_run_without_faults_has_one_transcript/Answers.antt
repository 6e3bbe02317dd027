-- One transcript: from the lemmas and the law of scripts.
use Rattle.pec_plays.specs.Possible.{quiet_lucks}
use Rattle.pec_runs.proofs.HandsLemmas.{hands_there}
use Rattle.pec_runs.proofs.TranscriptLemmas.{at_end_all, has_one_transcript, quiet_plays}
use Rattle.pec_runs.proofs.quiet.a_run_without_faults_has_one_transcript.Goals as goal

pub returns : goal.returns
returns g c = record {
  one = λ words status unread before after depot left old new told ran none same.
      has_one_transcript c.a_script_without_faults_is_one.ensures c.quiet_runs_are_one.ensures.script_there
      words status unread before after _ _ _ old new ran told none same;
  goes_on = λ trade spares sites counts written handed. (
    quiet_plays c.quiet_runs_are_one.ensures.script_there trade _ spares sites counts written handed,
    at_end_all (quiet_lucks trade sites written.commands) written.commands written.end
        (c.quiet_runs_are_one.ensures.script_there trade sites written.commands).1,
  );
  handed = λ trade providers spares sites number lines. hands_there trade providers spares sites number lines;
}
