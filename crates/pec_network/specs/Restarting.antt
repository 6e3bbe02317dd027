-- What a restart answers, and what it leaves: it is played with the luck that the number of entries tells. This
-- project's profile.
use Rattle.std.specs.Prelude.{◌≡◌, ℕ, nat_lt, true, false, List, length, slice_index_or, None}
use Rattle.pec_records.specs.declared.entries.Entry.{Entry}
use Rattle.pec_ledger.specs.Network.{Site, journal_at, site_at}
use Rattle.pec_plays.specs.Commands.{IsUp, Luck, Played, Refuses, Restarted, answers}
use Rattle.pec_plays.specs.Turns.{Whole}
use Rattle.pec_provider.specs.Playing.{luck_of}
use Rattle.pec_provider.specs.Provider.{ProviderState, desk_of, fresh}
use Rattle.pec_stock.specs.declared.faults.ReopenFault.{ReopenFault}
use Rattle.pec_stock.specs.declared.faults.ReopenFault.TheVariants as reopen
use Rattle.pec_types.specs.declared.turns.ProviderFault.TheVariants as refusals
use Rattle.pec_network.specs.declared.faults.NotFit.TheVariants as unfits
use Rattle.pec_network.specs.declared.faults.RestartFault.{RestartFault}
use Rattle.pec_network.specs.declared.faults.RestartFault.TheVariants as faults

-- a provider's refusal to open its journal, as the network's
abbrev pub restarted_as : ReopenFault → RestartFault
restarted_as reopen.DiskFault = faults.DiskFault
restarted_as (reopen.NotAJournal place) = faults.NotFit (unfits.Journal place)
restarted_as (reopen.OtherDirectory kept given) = faults.NotFit (unfits.OtherDirectory kept given)
restarted_as (reopen.BadEntry number) = faults.NotFit (unfits.BadEntry number)
restarted_as reopen.NoMemory = faults.NoMemory

-- The interrupted entry was found exactly where there are more entries now.
abbrev pub luck_told : List Site → ℕ → ℕ → Luck
luck_told sites provider entries = record {
  cuts = λ number. Whole;
  fails = false;
  found = nat_lt (length (journal_at sites provider)) entries;
  read = None;
  shown = None;
}

-- A restart was played, and told so many entries.
abbrev pub IsRestarted : (Luck → Played) → List Site → ℕ → List Site → ℕ → Type 0
IsRestarted play old provider new entries =
    play (luck_told old provider entries) ≡ record { answer = Restarted entries; after = new }

-- A restart was refused, and all is as it was: the provider is up; or its disk failed; or the journal isn't the
-- provider's own; or memory ran out.
abbrev pub IsNotRestarted : (Luck → Played) → List Site → ℕ → List Site → RestartFault → Type 0
IsNotRestarted play old provider new faults.Up = (play (luck_of false) ≡ answers old IsUp) × (new ≡ old)
IsNotRestarted play old provider new faults.DiskFault =
    (play (luck_of true) ≡ answers old (Refuses refusals.DiskFault)) × (new ≡ old)
IsNotRestarted play old provider new (faults.NotFit why) = ((site_at old provider).up ≡ false) × (new ≡ old)
IsNotRestarted play old provider new faults.NoMemory = new ≡ old

-- The provider is up over so many entries, and nothing is interrupted.
abbrev pub IsUpAt : {D : Type 0} → ℕ → List (ProviderState D) → ℕ → Type 0
IsUpAt {D} number providers entries =
    (journal : List Entry) × (length journal ≡ entries)
    × ((other : ProviderState D) → desk_of (slice_index_or providers number other) ≡ fresh journal)

-- It isn't the journal that is refused.
abbrev pub IsFit : RestartFault → Type 0
IsFit (faults.NotFit why) = ⊥
IsFit _ = Unit {0}
