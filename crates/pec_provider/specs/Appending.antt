-- What the parts of a provider's calls do: whether it is at work, what it makes of a submission, and what the append of
-- an entry leaves. This project's profile.
use Rattle.std.specs.Prelude.{◌≡◌, ℕ, ◌<◌, true, false, List, ◌∷◌, [], ◌++◌, Result, Ok, Err}
use Rattle.pec_types.specs.Bytes.{Bytes, Path}
use Rattle.pec_types.specs.declared.turns.ProviderFault.{ProviderFault}
use Rattle.pec_types.specs.declared.turns.ProviderFault.TheVariants as faults
use Rattle.pec_types.specs.declared.turns.Submitted.{Submitted}
use Rattle.pec_records.specs.declared.entries.Entry.{Entry}
use Rattle.pec_screen.specs.Verdicts.{Patterns}
use Rattle.pec_ledger.specs.Network.{Site, site_at}
use Rattle.pec_ledger.specs.OfDirectory.{IsOf}
use Rattle.pec_ledger.specs.Steps.{half}
use Rattle.pec_ledger.specs.Trade.{Trade}
use Rattle.pec_directory.specs.Directory.{Kept}
use Rattle.pec_plays.specs.Commands.{Answer, Luck, Played, Refuses, Submit, Submits, answers, append, played}
use Rattle.pec_plays.specs.Steps.{has_no_room}
use Rattle.pec_plays.specs.Turns.{last_of}
use Rattle.pec_shelf.specs.Prepared.{IsStep}
use Rattle.pec_provider.specs.Playing.{luck_of}
use Rattle.pec_provider.specs.Provider.{Desk, site_of}
use Rattle.pec_provider.specs.Working.{IsAtWork, broken}

-- Whether a provider is at work, and why not.
abbrev pub WorksAt : {X : Type 0} → Trade → ℕ → ℕ → Desk → Result X ProviderFault → Type 0
WorksAt trade me now desk (Ok x) = IsAtWork trade me now desk
WorksAt trade me now desk (Err faults.Down) = desk.up ≡ false
WorksAt trade me now desk (Err (faults.ClockBack moment)) =
    (desk.up ≡ true) × (now < last_of trade me desk.journal) × (moment ≡ last_of trade me desk.journal)
WorksAt trade me now desk (Err _) = ⊥

-- The entry is a step of the provider's entries, in some world of the directory.
pub record MayEnter (kept : List Kept) (me : ℕ) (list : List Entry) (entry : Entry) : Type 0 where
  pub trade : Trade
  pub of : IsOf kept trade
  pub step : IsStep trade me (half trade me list) entry

abbrev pub entered : Desk → Entry → Desk
entered desk entry = record {
  journal = desk.journal ++ entry ∷ [];
  owed = desk.owed;
  up = desk.up;
  interrupted = desk.interrupted;
}

-- An entry is appended; or its append fails, the journal has no room for it, or memory runs out.
abbrev pub Appends : {X : Type 0} → Trade → ℕ → Entry → Desk → Desk → Result X ProviderFault → Type 0
Appends trade me entry old new (Ok x) = (has_no_room trade me old.journal entry ≡ false) × (new ≡ entered old entry)
Appends trade me entry old new (Err faults.DiskFault) =
    (has_no_room trade me old.journal entry ≡ false) × (new ≡ broken old entry)
Appends trade me entry old new (Err faults.JournalFull) = (has_no_room trade me old.journal entry ≡ true) × (new ≡ old)
Appends trade me entry old new (Err faults.NoMemory) = new ≡ old
Appends trade me entry old new (Err _) = ⊥

-- ---- what a command comes to

-- The command of a provider with these screens appends this entry, and is then answered so.
abbrev pub ComesTo : (Luck → List Site → Played) → Trade → ℕ → List Patterns → Desk → Entry → Answer → Type 0
ComesTo play trade me screens desk entry answer =
    (sites : List Site) (waiting : List (List Bytes)) → site_at sites me ≡ site_of desk screens waiting
    → (luck : Luck) → play luck sites ≡ append trade luck sites me entry answer

-- The command is refused; want of memory is no answer of one.
abbrev pub IsRefused : (Luck → List Site → Played) → ℕ → List Patterns → Desk → ProviderFault → Type 0
IsRefused play me screens desk faults.NoMemory = Unit {0}
IsRefused play me screens desk faults.DiskFault = ⊥
IsRefused play me screens desk fault =
    (sites : List Site) (waiting : List (List Bytes)) → site_at sites me ≡ site_of desk screens waiting
    → play (luck_of false) sites ≡ answers sites (Refuses fault)

-- What is made of a submission, by what these screens find: an entry and its answer, or a refusal.
abbrev pub Admits : Trade → ℕ → ℕ → Bytes → Path → Bytes → List Patterns → Desk
    → Result (Entry × Submitted) ProviderFault → Type 0
Admits trade me moment sender path message screens desk (Ok made) =
    ComesTo (λ luck sites. played trade luck sites (Submit me moment sender path message)) trade me screens desk made.0
    (Submits made.1)
Admits trade me moment sender path message screens desk (Err fault) =
    IsRefused (λ luck sites. played trade luck sites (Submit me moment sender path message)) me screens desk fault
