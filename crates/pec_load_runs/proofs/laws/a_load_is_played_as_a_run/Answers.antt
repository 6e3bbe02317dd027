-- By the laws that are called.
use Rattle.std.proofs.Common.{refl}
use Rattle.pec_input.specs.Lines.{raw_lines}
use Rattle.pec_input.specs.Parts.{parts_of}
use Rattle.pec_load.specs.Heard.{load_input}
use Rattle.pec_load_runs.proofs.ScriptLemmas.{Told, load_begins}
use Rattle.pec_load_runs.proofs.StatusLemmas.{load_status, load_stays}
use Rattle.pec_load_runs.proofs.laws.a_load_is_played_as_a_run.Goals as goal

pub returns : goal.returns
returns g c =
    let told : Told = record {
      parted = c.a_load_has_its_directory.ensures.parted;
      short = c.a_load_has_its_directory.ensures.short;
      said = c.a_load_has_its_directory.ensures.said;
      heard = c.a_load_has_its_commands.ensures.heard;
      few = c.a_load_has_its_commands.ensures.few;
      says = c.a_line_is_one_thing.ensures.says;
    } in
    record {
      begun = λ screens hands count few. load_begins told screens hands count few (parts_of (raw_lines (load_input count))) refl;
      ends = λ screens count status before after depot left old new few ran.
          load_status told screens count status before after _ _ _ old new few ran;
      stays = λ screens count status before after depot left old new few ran.
          load_stays told screens count status before after _ _ _ old new few ran;
    }
