-- Ledgers that are reached by steps: entries that are appended one after another, each of which may follow in the whole
-- ledger as it then is (`IsReached`). RFC 6109, sections 3.1 to 3.4, within this project's profile.
use Rattle.std.specs.Prelude.{◌≡◌, ℕ, ◌==◌, List, [], ◌∷◌, ◌++◌, if◌then◌else◌}
use Rattle.pec_records.specs.declared.entries.Entry.{Entry}
use Rattle.pec_ledger.specs.Ledger.{Journals, Meets, ledger}
use Rattle.pec_ledger.specs.Trade.{Trade}

-- An entry that a provider appends.
pub record OneStep : Type 0 where
  pub provider : ℕ
  pub entry : Entry

-- the journals behind one step
abbrev pub with_step : Journals → OneStep → Journals
with_step journals step provider =
    if provider == step.provider then journals provider ++ step.entry ∷ [] else journals provider

-- the journals behind these steps
abbrev pub behind_steps : Journals → List OneStep → Journals
behind_steps journals [] = journals
behind_steps journals (step ∷ steps) = behind_steps (with_step journals step) steps

module _ (trade : Trade) where
  -- Each entry meets its conditions in the ledger behind those before it.
  abbrev pub AllMay : Journals → List OneStep → Type 0
  AllMay journals [] = Unit {0}
  AllMay journals (step ∷ steps) =
      Meets trade journals step.provider (ledger trade journals step.provider) step.entry
      × AllMay (with_step journals step) steps

  -- Journals that are reached from others.
  pub record IsReached (old new : Journals) : Type 0 where
    pub steps : List OneStep
    pub each : AllMay old steps
    pub leads : (provider : ℕ) → new provider ≡ behind_steps old steps provider
