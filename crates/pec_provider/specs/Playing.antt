-- What a provider's calls outside of turns answer, and what they leave: a submission, a clock call, an item moved
-- into an archive and a journal raised to version 2 are played as the commands of pec_plays, whatever other providers
-- there are (`PlaysWith`, `Plays`); what an account asks for is shown, or why not (`IsUnasked`, `IsUnshown`). This
-- project's profile.
use Rattle.std.specs.Prelude.{◌≡◌, ℕ, Bool, true, false, List, slice_get, IsSome, Option, None, Result, Ok, Err}
use Rattle.std.specs.Option.{option_and_then}
use Rattle.pec_types.specs.Bytes.{Bytes}
use Rattle.pec_types.specs.declared.turns.ProviderFault.{ProviderFault}
use Rattle.pec_types.specs.declared.turns.ProviderFault.TheVariants as faults
use Rattle.pec_records.specs.declared.entries.Entry.{Entry}
use Rattle.pec_screen.specs.Verdicts.{Patterns}
use Rattle.pec_ledger.specs.Half.{Posted}
use Rattle.pec_ledger.specs.Items.{item_text}
use Rattle.pec_ledger.specs.Lookups.{archive, mailbox}
use Rattle.pec_ledger.specs.Network.{Site, site_at}
use Rattle.pec_ledger.specs.Steps.{half}
use Rattle.pec_ledger.specs.Trade.{Trade}
use Rattle.pec_plays.specs.Commands.{Answer, Luck, Played, Refuses, answers, with_site}
use Rattle.pec_plays.specs.Turns.{Whole}
use Rattle.pec_provider.specs.Provider.{Desk, site_of}

-- ---- commands

-- the append of a command's entry fails, or doesn't
abbrev pub luck_of : Bool → Luck
luck_of fails =
    record { cuts = λ provider. Whole; fails = fails; found = false; read = None; shown = None }

-- A command was played on these sites, and answered so: the provider's site is then the new one. An append that fails
-- is told by the answer; all other refusals, and want of memory, leave the site as it was.
abbrev pub PlaysOn : {X : Type 0} → (X → Answer) → (Luck → Played) → List Site → ℕ → Site → Result X ProviderFault
    → Type 0
PlaysOn tells play sites me new (Ok x) =
    play (luck_of false) ≡ record { answer = tells x; after = with_site sites me new }
PlaysOn tells play sites me new (Err faults.DiskFault) =
    play (luck_of true) ≡ record { answer = Refuses faults.DiskFault; after = with_site sites me new }
PlaysOn tells play sites me new (Err faults.NoMemory) = new ≡ site_at sites me
PlaysOn tells play sites me new (Err fault) =
    (play (luck_of false) ≡ answers sites (Refuses fault)) × (new ≡ site_at sites me)

-- So it is on all sites among which this provider stands with these screens, whatever frames wait for it.
abbrev pub PlaysWith : {X : Type 0} → (X → Answer) → (Luck → List Site → Played) → ℕ → List Patterns → Desk → Desk
    → Result X ProviderFault → Type 0
PlaysWith tells play me screens old new answer =
    (sites : List Site) (waiting : List (List Bytes)) → site_at sites me ≡ site_of old screens waiting
    → PlaysOn tells (λ luck. play luck sites) sites me (site_of new screens waiting) answer

-- So it is whatever screens it has.
abbrev pub Plays : {X : Type 0} → (X → Answer) → (Luck → List Site → Played) → ℕ → Desk → Desk → Result X ProviderFault
    → Type 0
Plays tells play me old new answer = (screens : List Patterns) → PlaysWith tells play me screens old new answer

-- ---- what accounts are shown

-- Why an account isn't shown what it asks for: it is none of the provider's, or the provider is down, or memory ran
-- out.
abbrev pub IsUnasked : Bool → Bool → ProviderFault → Type 0
IsUnasked account up faults.NoAccount = account ≡ false
IsUnasked account up faults.Down = (account ≡ true) × (up ≡ false)
IsUnasked account up faults.NoMemory = (account ≡ true) × (up ≡ true)
IsUnasked account up _ = ⊥

-- the bytes of an item, where there is one and it has a text
abbrev pub text_at : Trade → ℕ → List Entry → Option Posted → Option Bytes
text_at trade me journal posted = option_and_then (item_text trade me journal) posted

-- those of the item at a place of an account's mailbox
abbrev pub item_at : Trade → ℕ → List Entry → Bytes → ℕ → Option Bytes
item_at trade me journal account place =
    text_at trade me journal (slice_get (mailbox (half trade me journal) account) place)

-- those of the item at a place of its archive
abbrev pub vault_item_at : Trade → ℕ → List Entry → Bytes → ℕ → Option Bytes
vault_item_at trade me journal account place =
    text_at trade me journal (slice_get (archive (half trade me journal) account) place)

-- Why no item is shown: for one of these causes, or there is none, or the read failed, or gave what was never kept so.
abbrev pub IsUnshown : Bool → Bool → Option Bytes → ProviderFault → Type 0
IsUnshown account up item faults.NoItem = (account ≡ true) × (up ≡ true) × (item ≡ None)
IsUnshown account up item faults.DiskFault = (account ≡ true) × (up ≡ true) × IsSome item
IsUnshown account up item (faults.Changed number) = (account ≡ true) × (up ≡ true) × IsSome item
IsUnshown account up item fault = IsUnasked account up fault
