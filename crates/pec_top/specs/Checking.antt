-- How a run that checks a dossier ends whose lines ended so. This project's profile.
use Rattle.std.specs.Prelude.{Result, Ok, Err}
use Rattle.pec_dossier.specs.declared.ending.Last.{Last}
use Rattle.pec_dossier.specs.declared.ending.Last.TheVariants as lasts
use Rattle.pec_dossier.specs.declared.ending.Stop.{Stop as LinesStop}
use Rattle.pec_dossier.specs.declared.ending.Stop.TheVariants as lines
use Rattle.pec_top.specs.declared.ending.End.{End}
use Rattle.pec_top.specs.declared.ending.End.TheVariants as ends
use Rattle.pec_top.specs.declared.ending.Stop.{Stop}
use Rattle.pec_top.specs.declared.ending.Stop.TheVariants as stops

abbrev pub ended_by : Result Last LinesStop → Result End Stop
ended_by (Ok lasts.Done) = Ok ends.Done
ended_by (Ok lasts.Refused) = Ok ends.Refused
ended_by (Ok lasts.TooLong) = Ok ends.TooLong
ended_by (Err lines.NoMemory) = Err stops.NoMemory
ended_by (Err lines.ReadFault) = Err stops.ReadFault
ended_by (Err lines.WriteFault) = Err stops.WriteFault
