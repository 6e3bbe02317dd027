-- How often a clock call of a provider looks acceptances up, in the words of its entries.
use Rattle.std.proofs.Common.{ℕ, List, refl, subst, arith, Result, Ok, Err, IsErr, IsOk}
use Rattle.std.proofs.lemmas.Bool.{false≢true}
use Rattle.pec_types.specs.Passed.{passing}
use Rattle.pec_directory.specs.Directory.{Kept}
use Rattle.pec_ledger.specs.Deadlines.{acceptances, last_tick}
use Rattle.pec_ledger.specs.Half.{Half}
use Rattle.pec_ledger.specs.OfDirectory.{IsOf}
use Rattle.pec_ledger.specs.Steps.{half}
use Rattle.pec_ledger.specs.Trade.{Trade}
use Rattle.pec_seal.specs.Seals.{Seals}
use Rattle.pec_shelf.specs.Looked.{Counts}
use Rattle.pec_provider.specs.Provider.{ProviderState, Runs}
use Rattle.pec_provider.proofs.RunLemmas.{half_runs}

-- a fault is no answer
pub never_ok : {X Y : Type 0} (result : Result X Y) → IsErr result → IsOk result → ⊥
never_ok (Ok value) err ok = false≢true err
never_ok (Err fault) err ok = false≢true ok

-- the limits of the half that it keeps are those of its entries
pub counted_of : {D : Type 0} {seals : Seals} (kept : List Kept) (me : ℕ) (old : ProviderState D) (trade : Trade) (moment looks steps later : ℕ) (Through : Type 0)
    → Runs kept seals me old → IsOf kept trade
    → Counts (passing old.shelf.ticked moment (acceptances trade old.shelf.half)) old.shelf.looks looks steps later Through
    → Counts (passing (last_tick old.chronicle.entries) moment (acceptances trade (half trade me old.chronicle.entries))) old.shelf.looks looks steps later Through
counted_of kept me old trade moment looks steps later Through runs of counts =
    subst (λ (h : Half). Counts (passing (last_tick old.chronicle.entries) moment (acceptances trade h)) old.shelf.looks looks steps later Through)
    (half_runs kept me old trade runs of)
    (subst (λ (n : ℕ). Counts (passing n moment (acceptances trade old.shelf.half)) old.shelf.looks looks steps later Through) runs.agree.holds.ticked counts)

-- none is looked up by a call that doesn't come so far
pub none_counted : (limits looks steps : ℕ) (Through : Type 0) → (Through → ⊥) → Counts limits looks looks steps steps Through
none_counted limits looks steps Through never = record { alike = λ l s. refl; most = λ l. omega arith; least = λ ok. absurd (never ok) }

-- a later answer
pub counted_later : (limits looks looks_later steps later : ℕ) (First Second : Type 0) → (Second → First) → Counts limits looks looks_later steps later First
    → Counts limits looks looks_later steps later Second
counted_later limits looks looks_later steps later First Second so counts =
    record { alike = counts.alike; most = counts.most; least = λ ok. counts.least (so ok) }
