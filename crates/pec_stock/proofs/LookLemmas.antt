-- How often acceptances are looked up while an entry is entered.
use Rattle.std.proofs.Common.{ℕ, refl, arith, Result, Ok, Err, IsErr, IsOk}
use Rattle.std.proofs.lemmas.Bool.{false≢true}
use Rattle.pec_records.specs.declared.entries.Entry.{Entry}
use Rattle.pec_records.specs.declared.entries.Entry.TheVariants as entries
use Rattle.pec_ledger.specs.Trade.{Trade}
use Rattle.pec_shelf.specs.Looked.{Looked}
use Rattle.pec_shelf.specs.Seen.{Seen}

-- a fault is no answer
pub never_ok : {X Y : Type 0} (result : Result X Y) → IsErr result → IsOk result → ⊥
never_ok (Ok value) err ok = false≢true err
never_ok (Err fault) err ok = false≢true ok

-- none is looked up where the call doesn't come so far
pub looked_none : {X Y : Type 0} (trade : Trade) (shelf : Seen) (entry : Entry) (steps : ℕ) (result : Result X Y) → (IsOk result → ⊥)
    → Looked trade shelf entry shelf.looks steps steps result
looked_none trade shelf (entries.Start provider digest) steps result never = (refl, refl)
looked_none trade shelf (entries.Accepted moment sender message) steps result never = (refl, refl)
looked_none trade shelf (entries.NotAccepted moment sender cause path message) steps result never = (refl, refl)
looked_none trade shelf (entries.Took moment id message) steps result never = (refl, refl)
looked_none trade shelf (entries.Decided moment id recipient decision) steps result never = (refl, refl)
looked_none trade shelf (entries.Charged moment id by) steps result never = (refl, refl)
looked_none trade shelf (entries.Learned moment id recipient decision decided message) steps result never = (refl, refl)
looked_none trade shelf (entries.Acked moment id recipient) steps result never = (refl, refl)
looked_none trade shelf (entries.Ticked moment) steps result never =
    record { alike = λ l s. refl; most = λ l. omega arith; least = λ ok. absurd (never ok) }
looked_none trade shelf (entries.Anomaly moment accounts message) steps result never = (refl, refl)
looked_none trade shelf (entries.StartTwo provider digest) steps result never = (refl, refl)
looked_none trade shelf (entries.Upgraded moment) steps result never = (refl, refl)
looked_none trade shelf (entries.Archived moment account place) steps result never = (refl, refl)

-- what was looked up is so for an answer that comes later
pub looked_through : {X Y Z W : Type 0} (trade : Trade) (shelf : Seen) (entry : Entry) (looks steps later : ℕ) (first : Result X Y) (second : Result Z W)
    → (IsOk second → IsOk first) → Looked trade shelf entry looks steps later first → Looked trade shelf entry looks steps later second
looked_through trade shelf (entries.Start provider digest) looks steps later first second so looked = looked
looked_through trade shelf (entries.Accepted moment sender message) looks steps later first second so looked = looked
looked_through trade shelf (entries.NotAccepted moment sender cause path message) looks steps later first second so looked = looked
looked_through trade shelf (entries.Took moment id message) looks steps later first second so looked = looked
looked_through trade shelf (entries.Decided moment id recipient decision) looks steps later first second so looked = looked
looked_through trade shelf (entries.Charged moment id by) looks steps later first second so looked = looked
looked_through trade shelf (entries.Learned moment id recipient decision decided message) looks steps later first second so looked = looked
looked_through trade shelf (entries.Acked moment id recipient) looks steps later first second so looked = looked
looked_through trade shelf (entries.Ticked moment) looks steps later first second so looked =
    record { alike = looked.alike; most = looked.most; least = λ ok. looked.least (so ok) }
looked_through trade shelf (entries.Anomaly moment accounts message) looks steps later first second so looked = looked
looked_through trade shelf (entries.StartTwo provider digest) looks steps later first second so looked = looked
looked_through trade shelf (entries.Upgraded moment) looks steps later first second so looked = looked
looked_through trade shelf (entries.Archived moment account place) looks steps later first second so looked = looked
