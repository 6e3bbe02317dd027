-- What is kept of the messages of a dossier, `tally_of`, by what is told of each; and what is written of it behind the
-- last of them, `summary_text`. This project's profile.
use Rattle.std.specs.Prelude.{List, [], ◌∷◌, ◌++◌, length, map, codes, Option, None, Some, Ok, Err}
use Rattle.std.specs.Fmt.{decimal}
use Rattle.std.specs.List.{filter_map}
use Rattle.std.specs.Result.{result_ok}
use Rattle.pec_types.specs.Bytes.{Bytes}
use Rattle.pec_directory.specs.Directory.{Provider}
use Rattle.pec_check.specs.Findings.{findings_of}
use Rattle.pec_check.specs.declared.checking.CheckFault.{CheckFault}
use Rattle.pec_check.specs.declared.reports.Report.{Report}
use Rattle.pec_script.specs.Texts.{Row, text_of}
use Rattle.pec_dossier.specs.Texts.{Told, finding_words}
use Rattle.pec_dossier.specs.declared.tallies.Tally.{Tally}

abbrev pub fault_in : Told → Option CheckFault
fault_in (Ok report) = None
fault_in (Err fault) = Some fault

abbrev pub reports_in : List Told → List Report
reports_in told = filter_map result_ok told

abbrev pub faults_in : List Told → List CheckFault
faults_in told = filter_map fault_in told

-- What they prove together, and how many are genuine letters and how many aren't.
unfoldable pub tally_of : List Told → Tally
tally_of told = record {
  findings = findings_of (reports_in told);
  genuine = length (reports_in told);
  refused = length (faults_in told);
}

-- `check GENUINE REFUSED`
abbrev pub count_words : Tally → Row
count_words tally = codes "check" ∷ decimal tally.genuine ∷ decimal tally.refused ∷ []

-- a line for each pair, and the last line
abbrev pub summary_rows : List Provider → Tally → List Row
summary_rows providers tally = map (finding_words providers) tally.findings ++ count_words tally ∷ []

unfoldable pub summary_text : List Provider → Tally → Bytes
summary_text providers tally = text_of (summary_rows providers tally)
