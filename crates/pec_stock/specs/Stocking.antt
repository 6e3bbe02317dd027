-- How entries are taken in, one after another. This project's profile.
use Rattle.std.specs.Prelude.{◌≡◌, ℕ, List}
use Rattle.pec_directory.specs.Directory.{Kept}
use Rattle.pec_records.specs.declared.entries.Entry.{Entry}
use Rattle.pec_ledger.specs.OfDirectory.{IsOf}
use Rattle.pec_ledger.specs.Trade.{Trade}
use Rattle.pec_shelf.specs.Prepared.{AreSteps}
use Rattle.pec_shelf.specs.Seen.{Seen}
use Rattle.pec_stock.specs.Stock.{Holds}

-- Each entry is a step of the half before it, in every world of the directory.
abbrev pub AllSteps : List Kept → ℕ → List Entry → Type 0
AllSteps kept me list = (trade : Trade) → IsOf kept trade → AreSteps trade me list

-- A provider's shelf has taken these entries in, each of which is a step of the half before it.
pub record HasTaken (kept : List Kept) (me : ℕ) (shelf : Seen) (list : List Entry) : Type 0 where
  pub holds : Holds kept shelf list
  pub whose : shelf.me ≡ me
  pub steps : AllSteps kept me list
