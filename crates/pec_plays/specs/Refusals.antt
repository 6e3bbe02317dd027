-- When a provider does what it is asked: `IsAtWork`, `TakesMessages`, `HoldsItem`, `HasRoomFor`. The order of refusals
-- is this project's profile.
use Rattle.std.specs.Prelude.{◌≡◌, ℕ, ◌<◌, ◌≤◌, true, false, List, IsTrue, Some}
use Rattle.pec_types.specs.Bytes.{Bytes}
use Rattle.pec_types.specs.declared.messages.TheConstants.{MESSAGES}
use Rattle.pec_records.specs.declared.entries.Entry.{Entry}
use Rattle.pec_ledger.specs.Network.{Site, is_up, journal_at}
use Rattle.pec_ledger.specs.Trade.{Trade}
use Rattle.pec_plays.specs.Commands.{account_home, items_at, messages_at}
use Rattle.pec_plays.specs.Steps.{has_no_room}
use Rattle.pec_plays.specs.Turns.{last_of}

module _ (trade : Trade) (sites : List Site) (provider now : ℕ) where
  -- The provider is up, and the moment isn't before the greatest of its journal.
  pub record IsAtWork : Type 0 where
    pub up : is_up sites provider ≡ true
    pub in_time : last_of trade provider (journal_at sites provider) ≤ now

  -- It may number one more message of an account of its.
  pub record TakesMessages (sender : Bytes) : Type 0 where
    pub account : IsTrue (trade.is_account provider sender)
    pub works : IsAtWork
    pub number : messages_at trade sites provider < MESSAGES

  -- It is the account's, whose mailbox has an item at the place.
  pub record HoldsItem (account : Bytes) (place : ℕ) : Type 0 where
    pub home : account_home trade account (trade.home account) ≡ Some provider
    pub works : IsAtWork
    pub item : place < items_at trade sites provider account

  -- Its journal has room for an entry.
  abbrev pub HasRoomFor : Entry → Type 0
  HasRoomFor entry = has_no_room trade provider (journal_at sites provider) entry ≡ false
