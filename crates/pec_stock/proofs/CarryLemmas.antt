-- How the calls of an append carry on: only its entry may follow, and only the entries before it.
use Rattle.std.proofs.Common.{◌≡◌, sym, ap}
use Rattle.std.specs.Prelude.{Some}
use Rattle.pec_outside.specs.DiskModel.{Sight}
use Rattle.pec_records.specs.declared.entries.Entry.{Entry}
use Rattle.pec_chronicle.specs.Carrying.{CarriesOn, NothingMay, ThisMay}
use Rattle.pec_chronicle.specs.CarryingLaws.{carries_and_then, carries_nothing, carries_this}
use Rattle.pec_chronicle.specs.Chronicle.{ChronicleState}
use Rattle.pec_stock.specs.Entering.{OnlyMay}

module _ {D : Type 0} (sight : D → Sight) (entry : Entry) (old mid new : ChronicleState D) where
  -- room is made
  pub reserve_alone : CarriesOn sight NothingMay old mid → CarriesOn sight (OnlyMay old.entries (Some entry)) old mid
  reserve_alone = carries_nothing sight (OnlyMay old.entries (Some entry)) old mid

  -- room is made, and then the entry is appended
  pub reserve_and_append : (encoded : Entry) → encoded ≡ entry → mid.entries ≡ old.entries → CarriesOn sight NothingMay old mid
      → CarriesOn sight (ThisMay mid.entries encoded) mid new → CarriesOn sight (OnlyMay old.entries (Some entry)) old new
  reserve_and_append encoded is same first second =
      carries_and_then sight (OnlyMay old.entries (Some entry)) old mid new (reserve_alone first)
      (carries_this sight (OnlyMay old.entries (Some entry)) mid.entries encoded (same, ap Some (sym is)) mid new second)
