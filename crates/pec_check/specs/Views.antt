-- What contracts see of a dossier's entries.
use Rattle.std.specs.Prelude.{Option}
use Rattle.pec_types.specs.declared.messages.Decision.{Decision}
use Rattle.pec_check.specs.Findings.{finding_on}
use Rattle.pec_check.specs.declared.dossiers.Finding.{Finding}
use Rattle.pec_check.specs.declared.pairs.PairKey.{PairKey}

abbrev pub finding_shown : PairKey × Option Decision → Finding
finding_shown entry = finding_on entry.0 entry.1
