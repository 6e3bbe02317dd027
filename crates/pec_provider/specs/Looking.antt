-- How often screens looked, by what was answered: at the message of a submission, `Looks`, and at the original by
-- which a pair is decided, `LooksNext`; and whether that came to the screens, `HaveLooked`. This project's profile.
use Rattle.std.specs.Prelude.{◌≡◌, ◌⊎◌, ℕ, List, [], ◌∷◌, map, if◌then◌else◌, IsSome, Option, Some, None, Result, Ok, Err}
use Rattle.pec_types.specs.declared.turns.ProviderFault.{ProviderFault}
use Rattle.pec_types.specs.declared.turns.ProviderFault.TheVariants as faults
use Rattle.pec_points.specs.Admission.{Looked}
use Rattle.pec_points.specs.Case.{Case}
use Rattle.pec_records.specs.declared.entries.Entry.{Entry}
use Rattle.pec_screen.specs.Verdicts.{counted}
use Rattle.pec_ledger.specs.Pairs.{Pair}
use Rattle.pec_ledger.specs.Trade.{Trade}

-- They look where the message was admitted or refused by the table, also where its entry isn't appended then; not where
-- the submission is refused before; and where memory ran out, this may have been before they look, or behind it.
abbrev pub Looks : {X : Type 0} → Case → List ℕ → List ℕ → Result X ProviderFault → Type 0
Looks case before after (Ok x) = Looked case before after
Looks case before after (Err faults.JournalFull) = Looked case before after
Looks case before after (Err faults.DiskFault) = Looked case before after
Looks case before after (Err faults.NoMemory) = (after ≡ before) ⊎ Looked case before after
Looks case before after (Err _) = after ≡ before

-- The first of these pairs came to the screens: each has looked once where its recipient is an account.
abbrev pub LooksAt : Trade → ℕ → List Pair → List ℕ → List ℕ → Type 0
LooksAt trade me [] before after = after ≡ before
LooksAt trade me (pair ∷ pairs) before after =
    after ≡ (if trade.is_account me pair.recipient then map counted before else before)

-- Where the disk failed, the read did if no entry is interrupted behind the call, and then no screen has looked.
abbrev pub LooksBehind : Trade → ℕ → List Pair → Option Entry → List ℕ → List ℕ → Type 0
LooksBehind trade me pairs None before after = after ≡ before
LooksBehind trade me pairs (Some entry) before after = LooksAt trade me pairs before after

-- They look where the first of these pairs is decided, also where its entry isn't appended then; not where the call is
-- refused before, or the envelope couldn't be read; and where memory ran out, this may have been before they look, or
-- behind it.
abbrev pub LooksNext : {X : Type 0} → Trade → ℕ → List Pair → Option Entry → List ℕ → List ℕ → Result X ProviderFault
    → Type 0
LooksNext trade me pairs interrupted before after (Ok x) = LooksAt trade me pairs before after
LooksNext trade me pairs interrupted before after (Err faults.JournalFull) = LooksAt trade me pairs before after
LooksNext trade me pairs interrupted before after (Err faults.DiskFault) =
    LooksBehind trade me pairs interrupted before after
LooksNext trade me pairs interrupted before after (Err faults.NoMemory) =
    (after ≡ before) ⊎ LooksAt trade me pairs before after
LooksNext trade me pairs interrupted before after (Err _) = after ≡ before

-- The first pair came to the screens, if its recipient is an account: it was decided, or its entry wasn't appended then.
abbrev pub HaveLooked : {X : Type 0} → Option Entry → Result X ProviderFault → Type 0
HaveLooked interrupted (Ok x) = Unit {0}
HaveLooked interrupted (Err faults.JournalFull) = Unit {0}
HaveLooked interrupted (Err faults.DiskFault) = IsSome interrupted
HaveLooked interrupted (Err _) = ⊥
