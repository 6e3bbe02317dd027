-- What an extract leaves of the provider whose log it tells (`Reads`), what is said of an entry that isn't what was kept
-- (`OnChanged`, `IsLogChanged`), and that there is none of those for a range (`LogTells`). This project's profile.
use Rattle.std.specs.Prelude.{◌≡◌, ℕ, IfSome, IsTrue, List, slice_get, Option, Some, Result, Ok, Err}
use Rattle.pec_types.specs.Message.{Id}
use Rattle.pec_types.specs.Moments.{is_within}
use Rattle.pec_types.specs.declared.letters.Letter.TheVariants as letters
use Rattle.pec_records.specs.declared.entries.Entry.{Entry}
use Rattle.pec_ledger.specs.Steps.{moment_of}
use Rattle.pec_ledger.specs.Trade.{Trade}
use Rattle.pec_provider.specs.Provider.{Desk}
use Rattle.pec_provider.specs.Reading.{HasEnvelope, HasStopped, IsNotOf}
use Rattle.pec_extract.specs.LogRows.{original_in}
use Rattle.pec_extract.specs.declared.faults.ExtractFault.{ExtractFault}
use Rattle.pec_extract.specs.declared.faults.ExtractFault.TheVariants as faults

-- The provider is as it was; but where a read failed, or gave what was never kept so, it is down.
abbrev pub Reads : {X : Type 0} → Desk → Desk → Result X ExtractFault → Type 0
Reads old new (Err faults.DiskFault) = HasStopped old new
Reads old new (Err (faults.Changed number)) = HasStopped old new
Reads old new answer = new ≡ old

-- the sink failed, or memory ran out
abbrev pub IsOfSink : ExtractFault → Type 0
IsOfSink faults.WriteFault = Unit {0}
IsOfSink faults.NoMemory = Unit {0}
IsOfSink _ = ⊥

-- what is said of the number of an entry that isn't what was kept
abbrev pub OnChanged : (ℕ → Type 0) → ExtractFault → Type 0
OnChanged Is (faults.Changed number) = Is number
OnChanged Is _ = Unit {0}

-- The entry of this number, by which a message was taken, holds no envelope that is seen as one of that message.
pub record IsLogChanged (trade : Trade) (me : ℕ) (journal : List Entry) (number : ℕ) : Type 0 where
  pub id : Id
  pub is : IsNotOf trade me journal (letters.Charge id me) number

module _ (trade : Trade) (me : ℕ) where
  -- Of whatever original the row of an entry tells the facts, the entry by which its message was taken holds an envelope of
  -- it.
  abbrev pub TellsOriginal : List Entry → Entry → Type 0
  TellsOriginal journal entry = IfSome (original_in entry) (HasEnvelope trade me journal)

  -- So it is of each entry whose moment is in a range: `IsLogChanged` is said of none by which a row of the range is told.
  abbrev pub LogTells : (from upto : ℕ) → List Entry → Type 0
  LogTells from upto journal =
      (number : ℕ) (entry : Entry) → slice_get journal number ≡ Some entry → IsTrue (is_within from upto (moment_of entry))
      → TellsOriginal journal entry
