-- What the laws of pec_heads say of its functions: each tells its relation exactly, and recipients are gathered as a set.
use Rattle.std.specs.Prelude.{◌≡◌, ◌↔◌, ◌++◌, Option}
use Rattle.pec_types.specs.Answers.{TellsExactly}
use Rattle.pec_types.specs.Bytes.{Bytes, Path}
use Rattle.pec_types.specs.declared.messages.Facts.{Facts}
use Rattle.pec_heads.specs.Heads.{IsFaulty, IsRead}
use Rattle.pec_heads.specs.HeadReading.{read_of}
use Rattle.pec_heads.specs.Lists.{IsList, IsListFault}
use Rattle.pec_heads.specs.ListReading.{list_of}
use Rattle.pec_heads.specs.BoundedFacts.{addresses_of}
use Rattle.pec_heads.specs.FactsOfHeads.{AreFacts, has_address, recipients_of}
use Rattle.pec_heads.specs.FactsReading.{facts_of}
use Rattle.pec_points.specs.Admission.{Fields}

pub record Ties : Type 0 where
  pub heads : (text : Bytes) → TellsExactly (IsRead text) (IsFaulty text) (read_of text)
  pub lists : (text : Bytes) → TellsExactly (IsList text) (IsListFault text) (list_of text)
  pub facts : (head : Fields) (found : Option Facts) → (facts_of head ≡ found) ↔ AreFacts head found
  pub gathered : (to copies : Path) (address : Bytes) → has_address (addresses_of (recipients_of to copies)) address ≡ has_address (to ++ copies) address
