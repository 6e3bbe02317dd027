-- What a provider can tell of a message that it accepted or took: `facts_here`; and why it tells nothing, `IsUntoldOf`.
-- This project's profile.
use Rattle.std.specs.Prelude.{◌≡◌, ℕ, ◌==◌, Bool, true, false, List, [], Option, None, Some, is_some, if◌then◌else◌, ◌||◌}
use Rattle.std.specs.Option.{option_and_then, option_map}
use Rattle.pec_types.specs.Bytes.{Path}
use Rattle.pec_types.specs.Message.{Id}
use Rattle.pec_types.specs.declared.messages.Facts.{Facts}
use Rattle.pec_types.specs.declared.turns.ProviderFault.{ProviderFault}
use Rattle.pec_types.specs.declared.turns.ProviderFault.TheVariants as faults
use Rattle.pec_records.specs.declared.entries.Entry.{Entry}
use Rattle.pec_ledger.specs.Half.{Half, Taken}
use Rattle.pec_ledger.specs.Lookups.{Accepted, accepted_at, taken_of}
use Rattle.pec_ledger.specs.Steps.{half}
use Rattle.pec_ledger.specs.Trade.{Trade}
use Rattle.pec_plays.specs.Frames.{original_taken}

-- the facts of a message that was accepted here, by its half
abbrev pub own_facts : ℕ → Half → Id → Option Facts
own_facts me half id =
    if me == id.provider then option_map (λ (message : Accepted). message.facts) (accepted_at half id.number) else None

-- the first of two, where it is there
abbrev pub or_else : Option Facts → Option Facts → Option Facts
or_else None other = other
or_else (Some facts) other = Some facts

-- the recipients for which a message was taken, where it was
abbrev pub recipients_taken : Option Taken → Path
recipients_taken None = []
recipients_taken (Some row) = row.recipients

-- The provider accepted the message, or took it.
abbrev pub is_here : ℕ → Half → Id → Bool
is_here me half id = is_some (own_facts me half id) || is_some (taken_of half id)

module _ (trade : Trade) (me : ℕ) (journal : List Entry) where
  -- the facts of the original of a message that was taken here
  abbrev pub facts_taken : Id → Option Facts
  facts_taken id =
      option_and_then
      (λ (row : Taken). option_and_then trade.facts (original_taken trade me journal id row))
      (taken_of (half trade me journal) id)

  -- The facts of a message that was accepted here, or else of the original of one that was taken here.
  abbrev pub facts_here : Id → Option Facts
  facts_here id = or_else (own_facts me (half trade me journal) id) (facts_taken id)

-- Why the facts of a message aren't told: the provider is down; it neither accepted nor took the message; memory ran out,
-- or, of one that was taken alone, the read failed or gave what was never kept so.
abbrev pub IsUntoldOf : (up : Bool) → (own here : Bool) → ProviderFault → Type 0
IsUntoldOf up own here faults.Down = up ≡ false
IsUntoldOf up own here faults.NoItem = (up ≡ true) × (here ≡ false)
IsUntoldOf up own here faults.NoMemory = (up ≡ true) × (here ≡ true)
IsUntoldOf up own here faults.DiskFault = (up ≡ true) × (own ≡ false) × (here ≡ true)
IsUntoldOf up own here (faults.Changed number) = (up ≡ true) × (own ≡ false) × (here ≡ true)
IsUntoldOf up own here _ = ⊥
