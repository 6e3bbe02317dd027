-- What has become of the messages of a network's providers, one provider after another. It comes to `total_of` over the
-- network's sites.
use Rattle.std.specs.Prelude.{ℕ, ◌+◌, ◌<◌, List, [], ◌∷◌, length, slice_index_or}
use Rattle.pec_directory.specs.Directory.{Kept}
use Rattle.pec_ledger.specs.Steps.{half}
use Rattle.pec_ledger.specs.Trade.{Trade}
use Rattle.pec_seal.specs.Seals.{Seals}
use Rattle.pec_provider.specs.Provider.{ProviderState, Runs}
use Rattle.pec_provider.specs.Summing.{plus, summary_of}
use Rattle.pec_provider.specs.Summing.{Summary}

-- these are the providers of a directory, numbered from 0
abbrev pub AllRun : {D : Type 0} → List Kept → Seals → List (ProviderState D) → Type 0
AllRun {D} kept seals providers =
    (number : ℕ) (other : ProviderState D) → number < length providers
    → Runs kept seals number (slice_index_or providers number other)

-- a summary with those of the providers from this number on
abbrev pub total_over : {D : Type 0} → Trade → Summary → ℕ → List (ProviderState D) → Summary
total_over trade summary number [] = summary
total_over trade summary number (provider ∷ providers) =
    total_over trade (plus summary (summary_of trade number (half trade number provider.chronicle.entries))) (number + 1)
    providers
