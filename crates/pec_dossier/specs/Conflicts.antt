-- What the letters of an honest network prove: `TellsTheDecision`, of a finding, in a ledger. RFC 6109, section 3, for the
-- letters; what they prove is this project's profile.
use Rattle.std.specs.Prelude.{◌≡◌, ℕ, List, map, Some}
use Rattle.pec_types.specs.Bytes.{Bytes}
use Rattle.pec_types.specs.declared.messages.Decision.{Decision}
use Rattle.pec_directory.specs.Directory.{Provider}
use Rattle.pec_seal.specs.Seals.{Seals}
use Rattle.pec_ledger.specs.Ledger.{IsDecidedSo, Journals}
use Rattle.pec_ledger.specs.Pairs.{pair_of}
use Rattle.pec_ledger.specs.Trade.{Trade}
use Rattle.pec_check.specs.Findings.{findings_of}
use Rattle.pec_check.specs.GenuineReading.{report_of}
use Rattle.pec_check.specs.declared.dossiers.Finding.{Finding}
use Rattle.pec_dossier.specs.Tallies.{reports_in}

-- What these texts prove together, those of them that are genuine letters.
abbrev pub findings_in : Seals → List Provider → List Bytes → List Finding
findings_in seals providers texts = findings_of (reports_in (map (report_of seals providers) texts))

-- The finding is no conflict, and the decision that it tells is the one by which its pair is decided in the ledger.
pub record TellsTheDecision (trade : Trade) (journals : Journals) (finding : Finding) : Type 0 where
  pub decision : Decision
  pub tells : finding.decision ≡ Some decision
  pub moment : ℕ
  pub decided : IsDecidedSo trade journals (pair_of finding.id finding.recipient) decision moment
