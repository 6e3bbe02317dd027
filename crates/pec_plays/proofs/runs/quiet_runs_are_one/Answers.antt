-- Runs without faults are one: from the lemmas.
use Rattle.pec_plays.proofs.QuietLemmas.{played_one, quiet_along, quiet_enough, quiet_is_kept, quiet_there, script_one}
use Rattle.pec_plays.proofs.runs.quiet_runs_are_one.Goals as goal

pub returns : goal.returns
returns c = record {
  commands = λ trade sites command luck other none may quiet others_may others_quiet.
      played_one trade sites luck other quiet others_quiet command none may others_may;
  scripts = λ trade sites commands lucks others none same quiet others_quiet. script_one trade lucks others sites commands same none quiet others_quiet;
  kept = quiet_is_kept;
  command_there = quiet_there;
  script_there = λ trade sites commands. (quiet_along trade sites commands, quiet_enough trade sites commands);
}
