-- The desk of a network at a moment: what it answers, `answers_of`, in the words of what the network plays and shows. Its
-- accounts are those of the directory, whichever provider they are at. This project's profile.
use Rattle.std.specs.Prelude.{◌≡◌, ℕ, ◌<◌, ◌≤◌, false, List, [], Option, None, Some, Result, Ok, Err, is_some, length, slice_get}
use Rattle.pec_types.specs.Bytes.{Bytes, Path}
use Rattle.pec_types.specs.declared.mailboxes.ItemLine.{ItemLine}
use Rattle.pec_types.specs.declared.messages.BookLine.{BookLine}
use Rattle.pec_types.specs.declared.turns.ProviderFault.{ProviderFault}
use Rattle.pec_types.specs.declared.turns.ProviderFault.TheVariants as faults
use Rattle.pec_types.specs.declared.turns.Submitted.{Submitted}
use Rattle.pec_outside.specs.DiskModel.{Sight}
use Rattle.pec_directory.specs.Directory.{Provider, account_home, first_domain, providers_of}
use Rattle.pec_records.specs.Entry.{most_addresses}
use Rattle.pec_seal.specs.Seals.{Seals}
use Rattle.pec_ledger.specs.Network.{Site}
use Rattle.pec_plays.specs.Commands.{Answer, Book, Items, Lines, Mailbox, Played, Refuses, Show, Shown, Submit, Submits, answers, played}
use Rattle.pec_network.specs.OfProviders.{ProviderState, luck_of}
use Rattle.pec_network.specs.Carrying.{AllStand}
use Rattle.pec_network.specs.Changing.{ConcernsOne}
use Rattle.pec_network.specs.Network.{NetworkState, sites, world_of}
use Rattle.pec_network.specs.Playing.{IsPlayedOver, IsReadOver}
use Rattle.pec_http.specs.Desks.{Answers}
use Rattle.pec_service.specs.Passes.{pass_of}
use Rattle.pec_script.specs.Texts.{book_text, items_text}

-- The network, and the moment at which all that comes to the desk is done, in seconds.
pub record DeskState (D S : Type 0) : Type 0 where
  pub network : NetworkState D S
  pub moment : ℕ

-- ---- who asks

-- the first domain of the provider of a number
abbrev pub domain_at : List Provider → Option ℕ → Bytes
domain_at providers None = []
domain_at providers (Some number) = first_domain providers number

-- ---- what is asked

-- the count of faults of a provider's disk
abbrev pub count_in : {D : Type 0} → (D → ℕ) → Option (ProviderState D) → ℕ
count_in count None = 0
count_in count (Some provider) = count provider.chronicle.disk

abbrev pub count_at : {D : Type 0} → (D → ℕ) → List (ProviderState D) → Option ℕ → ℕ
count_at count providers None = 0
count_at count providers (Some number) = count_in count (slice_get providers number)

-- An account handed a message in, and its provider said this: the command was played so at the desk's moment. No other
-- provider was touched, and the disks carry on.
pub record HandsIn {D S : Type 0} (sight : D → Sight) (count : D → ℕ) (tells : Type 0) (seals : S → Seals)
    (old : DeskState D S) (address : Bytes) (addresses : Path) (message : Bytes) (said : Result Submitted ProviderFault)
    (new : DeskState D S) : Type 0 where
  pub number : ℕ
  pub home : account_home (providers_of old.network.kept) address ≡ Some number
  pub within : number < length old.network.kept
  pub moment : new.moment ≡ old.moment
  pub path : (0 < length addresses) × (length addresses ≤ most_addresses)
  pub plays : IsPlayedOver seals Submits (Submit number old.moment address addresses message) old.network new.network said
  pub concerns : ConcernsOne sight count tells seals number old.network new.network said

-- An account looked at the item at a place of its mailbox, and its provider said this: the command was played so, and its
-- entry was read from the provider's disk. The moment stays, no other provider was touched, and the disks carry on.
pub record LooksAt {D S : Type 0} (sight : D → Sight) (count : D → ℕ) (tells : Type 0) (seals : S → Seals)
    (old : DeskState D S) (address : Bytes) (place : ℕ) (said : Result Bytes ProviderFault) (new : DeskState D S)
    : Type 0 where
  pub number : ℕ
  pub home : account_home (providers_of old.network.kept) address ≡ Some number
  pub within : number < length old.network.kept
  pub moment : new.moment ≡ old.moment
  pub reads : IsReadOver (tells × AllStand sight old.network.providers) seals Shown (Show address place) old.network
      new.network said
  pub concerns : ConcernsOne sight count tells seals number old.network new.network said

-- What was answered to a command that shows something is written so.
pub record IsWritten {X : Type 0} (tells : X → Answer) (text : X → Bytes) (asked : Played) (state : List Site) (bytes : Bytes) : Type 0 where
  pub what : X
  pub answer : asked ≡ answers state (tells what)
  pub is : bytes ≡ text what

-- An account was shown what it asked for, or refused.
abbrev pub IsSeen : {X : Type 0} → (X → Answer) → (X → Bytes) → Played → List Site → Result Bytes ProviderFault → Type 0
IsSeen tells text asked state (Ok bytes) = IsWritten tells text asked state bytes
IsSeen tells text asked state (Err faults.NoMemory) = Unit {0}
IsSeen tells text asked state (Err fault) = asked ≡ answers state (Refuses fault)

abbrev pub lines_shown : List BookLine → Answer
lines_shown lines = Lines lines

abbrev pub items_shown : List ItemLine → Answer
items_shown lines = Items lines

-- ---- the desk

-- What the desk answers: no luck changes what a book or a mailbox shows, so those commands stand here with any.
abbrev pub answers_of : {D S : Type 0} → (D → Sight) → (D → ℕ) → Type 0 → (S → Seals) → Answers (DeskState D S)
answers_of sight count tells seals = record {
  is_account = λ desk address. is_some (account_home (providers_of desk.network.kept) address);
  pass = λ desk address key. pass_of desk.network.kept address key;
  domain = λ desk address. domain_at (providers_of desk.network.kept) (account_home (providers_of desk.network.kept) address);
  faults = λ desk address. count_at count desk.network.providers (account_home (providers_of desk.network.kept) address);
  submit = λ desk address path message said after. HandsIn sight count tells seals desk address path message said after;
  book = λ desk address said. IsSeen lines_shown (book_text (providers_of desk.network.kept))
      (played (world_of seals desk.network) (luck_of false) (sites desk.network) (Book address)) (sites desk.network) said;
  items = λ desk address said. IsSeen items_shown (items_text (providers_of desk.network.kept))
      (played (world_of seals desk.network) (luck_of false) (sites desk.network) (Mailbox address)) (sites desk.network) said;
  item = λ desk address place said after. LooksAt sight count tells seals desk address place said after;
}
