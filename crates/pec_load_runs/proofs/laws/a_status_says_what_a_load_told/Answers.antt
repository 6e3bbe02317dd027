-- By the laws that are called.
use Rattle.pec_runs.specs.Openings.{Run}
use Rattle.pec_load_runs.proofs.ScriptLemmas.{Told}
use Rattle.pec_load_runs.proofs.StatusLemmas.{load_complete, load_done, load_quiet}
use Rattle.pec_load_runs.proofs.laws.a_status_says_what_a_load_told.Goals as goal

pub returns : goal.returns
returns g c =
    let told : Told = record {
      parted = c.a_load_has_its_directory.ensures.parted;
      short = c.a_load_has_its_directory.ensures.short;
      said = c.a_load_has_its_directory.ensures.said;
      heard = c.a_load_has_its_commands.ensures.heard;
      few = c.a_load_has_its_commands.ensures.few;
      says = c.a_line_is_one_thing.ensures.says;
    } in
    record {
      done = λ screens count before after depot left old new few load.
          load_done told screens count before after (g.P.Depot.tells × g.P.D.Disk.tells) g.P.D.Disk.sight g.P.D.Counted.faults (g.P.Depot.home depot)
          (g.P.Depot.home left) old new few load;
      quiet = λ screens count status before after depot left old new load none.
          load_quiet count screens before after (g.P.Depot.tells × g.P.D.Disk.tells) g.P.D.Disk.sight g.P.D.Counted.faults (g.P.Depot.home depot)
          (g.P.Depot.home left) old new status load none;
      complete = λ tells screens count status before after depot left old new few load none can.
          load_complete told screens count before after (g.P.Depot.tells × g.P.D.Disk.tells) g.P.D.Disk.sight
          g.P.D.Counted.faults (g.P.Depot.home depot) (g.P.Depot.home left) old new status few
          (λ trade opening is can. c.journals_are_had_without_faults.ensures.had tells trade Run (g.P.Depot.home depot) opening
          is can)
          load none can;
    }
