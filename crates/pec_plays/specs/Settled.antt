-- What an answer settles of the state behind it, `AreOneBut`: all, but where a call of the disk failed as a provider
-- was to decide a pair whose recipient is an account. That call was a read before the append or the append itself, so
-- the entry of the decision may be interrupted or not. This project's profile.
use Rattle.std.specs.Prelude.{◌≡◌, ◌⊎◌, ℕ, List, length, Some, None}
use Rattle.pec_types.specs.declared.turns.ProviderFault.TheVariants as faults
use Rattle.pec_records.specs.declared.entries.Entry.{Entry}
use Rattle.pec_ledger.specs.Network.{Site, site_at}
use Rattle.pec_ledger.specs.Trade.{Trade}
use Rattle.pec_plays.specs.Commands.{Command, Luck, Round}
use Rattle.pec_plays.specs.Possible.{IsLookedAt}
use Rattle.pec_plays.specs.Rounds.{rooms_of}
use Rattle.pec_plays.specs.Turns.{Turned, Whole, entry_at, steps_of, turned}

-- One site has this interrupted entry, the other one has none, and apart from that they are one.
pub record DifferBy (entry : Entry) (one other : Site) : Type 0 where
  pub has : one ≡ record (other) { interrupted = Some entry }
  pub none : other.interrupted ≡ None

module _ (trade : Trade) (now : ℕ) (sites : List Site) (luck : Luck) where
  -- the turn of a provider in a round at a moment
  abbrev pub turn_at : ℕ → Turned
  turn_at provider = turned trade provider now (rooms_of sites provider) (luck.cuts provider) (site_at sites provider)

  -- The turn of a provider ended by a fault of the disk at the decision of a pair whose recipient is an account, of
  -- which this is the entry.
  pub record IsInDoubt (provider : ℕ) (entry : Entry) : Type 0 where
    pub failed : (turn_at provider).ended ≡ Some faults.DiskFault
    pub looked : IsLookedAt trade provider (steps_of trade provider now (site_at sites provider) Whole) (length (turn_at provider).events)
    pub is : entry_at (steps_of trade provider now (site_at sites provider) Whole) (length (turn_at provider).events) ≡ Some entry

-- In two states behind a command a provider's site is one, or an entry is in doubt that one of the two sites has.
abbrev pub IsOneBut : Trade → Command → List Site → Luck → ℕ → Site → Site → Type 0
IsOneBut trade (Round now) sites luck provider one other =
    (one ≡ other)
    ⊎ ((entry : Entry) × IsInDoubt trade now sites luck provider entry × (DifferBy entry one other ⊎ DifferBy entry other one))
IsOneBut trade _ sites luck provider one other = one ≡ other

-- Two states behind a command are one, but for entries that are in doubt.
pub record AreOneBut (trade : Trade) (command : Command) (sites : List Site) (luck : Luck) (one other : List Site) : Type 0 where
  pub count : length one ≡ length other
  pub each : (provider : ℕ) → IsOneBut trade command sites luck provider (site_at one provider) (site_at other provider)
