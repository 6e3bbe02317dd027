-- Disks with which a run can begin: empty ones where journals are made, and journals of providers' own where they are opened
-- (`CanBegin`). This project's profile.
use Rattle.std.specs.Prelude.{◌≡◌, ℕ, ◌<◌, List, [], Option, Some}
use Rattle.pec_outside.specs.DiskModel.{Sight}
use Rattle.pec_records.specs.declared.entries.Entry.{Entry}
use Rattle.pec_ledger.specs.Trade.{Trade}
use Rattle.pec_chronicle.specs.Chronicle.{IsJournalOf}
use Rattle.pec_stock.specs.Stock.{IsOwn}
use Rattle.pec_runs.specs.Openings.{Form, Resume, Run}

module _ {D : Type 0} (sight : D → Sight) (trade : Trade) (home : ℕ → Option D) where
  -- A provider's disk is at home, and it is empty.
  pub record IsBlank (provider : ℕ) : Type 0 where
    pub disk : D
    pub is : home provider ≡ Some disk
    pub empty : (sight disk).seen ≡ []

  -- It is at home, and it holds the journal of entries of the provider's own.
  pub record IsItsOwn (provider : ℕ) : Type 0 where
    pub disk : D
    pub is : home provider ≡ Some disk
    pub entries : List Entry
    pub own : IsOwn trade provider entries
    pub journal : IsJournalOf entries (sight disk).seen

  -- So it is of each provider, by the form of the run.
  abbrev pub CanBegin : Form → Type 0
  CanBegin Run = (provider : ℕ) → provider < trade.providers → IsBlank provider
  CanBegin Resume = (provider : ℕ) → provider < trade.providers → IsItsOwn provider
