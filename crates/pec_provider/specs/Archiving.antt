-- Whether an item may be archived, `Archives`, and a journal raised to version 2, `Raises`, and why not. This project's
-- profile.
use Rattle.std.specs.Prelude.{◌≡◌, ℕ, ◌<◌, true, List, length, Some, Result, Ok, Err}
use Rattle.pec_types.specs.Bytes.{Bytes}
use Rattle.pec_types.specs.declared.turns.ProviderFault.{ProviderFault}
use Rattle.pec_screen.specs.Verdicts.{Patterns}
use Rattle.pec_ledger.specs.Lookups.{mailbox}
use Rattle.pec_ledger.specs.Steps.{half}
use Rattle.pec_ledger.specs.Trade.{Trade}
use Rattle.pec_plays.specs.Commands.{Upgrade, account_home, archived, played}
use Rattle.pec_provider.specs.Appending.{IsRefused}
use Rattle.pec_provider.specs.Provider.{Desk}
use Rattle.pec_provider.specs.Working.{IsAtWork}

-- The address is an account of the provider, which is at work, its mailbox has an item at the place, and the journal
-- is of version 2.
pub record MayArchive (trade : Trade) (me moment : ℕ) (account : Bytes) (place : ℕ) (desk : Desk) : Type 0 where
  pub account_is : trade.is_account me account ≡ true
  pub works : IsAtWork trade me moment desk
  pub item : place < length (mailbox (half trade me desk.journal) account)
  pub version : (half trade me desk.journal).version ≡ 2

-- So it is; or the command is refused, whatever screens the provider has.
abbrev pub Archives : Trade → ℕ → ℕ → Bytes → ℕ → Desk → Result (Unit {0}) ProviderFault → Type 0
Archives trade me moment account place desk (Ok done) = MayArchive trade me moment account place desk
Archives trade me moment account place desk (Err fault) =
    (screens : List Patterns)
    → IsRefused (λ luck sites. archived trade luck sites (account_home trade account (Some me)) moment account place) me
    screens desk fault

-- The provider is at work, and its journal is of version 1.
pub record MayRaise (trade : Trade) (me moment : ℕ) (desk : Desk) : Type 0 where
  pub works : IsAtWork trade me moment desk
  pub version : (half trade me desk.journal).version ≡ 1

-- So it is; or the command is refused.
abbrev pub Raises : Trade → ℕ → ℕ → Desk → Result (Unit {0}) ProviderFault → Type 0
Raises trade me moment desk (Ok done) = MayRaise trade me moment desk
Raises trade me moment desk (Err fault) =
    (screens : List Patterns)
    → IsRefused (λ luck sites. played trade luck sites (Upgrade me moment)) me screens desk fault
