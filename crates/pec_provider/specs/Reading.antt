-- What the calls of a provider that read its disk leave (`Reads`), why they answer nothing (`IsUnread`), and when an entry
-- isn't what a letter or an item is composed of, or what is decided on (`LetterIsChanged`, `ItemIsChanged`,
-- `VaultItemIsChanged`, `EnvelopeIsChanged`); and over any disk, of which entry frames and items are composed, and in which
-- screens find what they find (`AreFramed`, `ShownBy`, `FindsIn`). This project's profile.
use Rattle.std.specs.Prelude.{◌≡◌, ◌⊎◌, ℕ, ◌<◌, ◌≤◌, Bool, true, false, IsTrue, List, [], ◌∷◌, ◌++◌, slice_get, Contains, Option, Some, None, Result, Ok, Err}
use Rattle.std.specs.Option.{option_to_list}
use Rattle.pec_types.specs.Bytes.{Bytes}
use Rattle.pec_types.specs.Message.{Id}
use Rattle.pec_types.specs.declared.letters.Letter.{Letter}
use Rattle.pec_types.specs.declared.letters.Letter.TheVariants as letters
use Rattle.pec_types.specs.declared.turns.ProviderFault.{ProviderFault}
use Rattle.pec_types.specs.declared.turns.ProviderFault.TheVariants as faults
use Rattle.pec_records.specs.Entry.{CanBeWritten}
use Rattle.pec_records.specs.declared.entries.Entry.{Entry}
use Rattle.pec_screen.specs.VerdictReading.{finds}
use Rattle.pec_screen.specs.Verdicts.{Patterns}
use Rattle.pec_ledger.specs.Due.{due_letters}
use Rattle.pec_ledger.specs.Half.{Posted}
use Rattle.pec_ledger.specs.Lookups.{archive, mailbox}
use Rattle.pec_ledger.specs.Pairs.{Pair}
use Rattle.pec_ledger.specs.Steps.{half}
use Rattle.pec_ledger.specs.Trade.{Trade}
use Rattle.pec_plays.specs.Decisions.{undecided}
use Rattle.pec_chronicle.specs.Chronicle.{ChronicleState}
use Rattle.pec_outgoing.specs.declared.faults.ComposeFault.{ComposeFault}
use Rattle.pec_outgoing.specs.declared.faults.ComposeFault.TheVariants as compose
use Rattle.pec_outgoing.specs.ItemNeeds.{ServesItem, ShownOf, needed_item}
use Rattle.pec_outgoing.specs.Needs.{FramedOf, Serves, enveloped_in, needed}
use Rattle.pec_provider.specs.Provider.{Desk, stopped}

-- ---- what is left

-- It was up, with no interrupted entry, and is down, and nothing else of it has changed.
abbrev pub HasStopped : Desk → Desk → Type 0
HasStopped old new = (old.up ≡ true) × (old.interrupted ≡ None) × (new ≡ stopped old)

-- A call that reads leaves the provider as it was; but where a read failed, or gave what was never kept so, it is down.
abbrev pub Reads : {X : Type 0} → Desk → Desk → Result X ProviderFault → Type 0
Reads old new (Err faults.DiskFault) = HasStopped old new
Reads old new (Err (faults.Changed number)) = HasStopped old new
Reads old new answer = new ≡ old

-- The same of its entries over the disk: they are what they were, and it is down where a read failed.
abbrev pub ReadsOver : {D X : Type 0} → ChronicleState D → ChronicleState D → Result X ProviderFault → Type 0
ReadsOver old new (Ok x) = new ≡ record old { disk = new.disk }
ReadsOver old new (Err faults.NoMemory) = new ≡ record old { disk = new.disk }
ReadsOver old new (Err faults.DiskFault) = new ≡ record old { down = true; disk = new.disk }
ReadsOver old new (Err (faults.Changed number)) = new ≡ record old { down = true; disk = new.disk }
ReadsOver old new (Err _) = ⊥

-- ---- why nothing is answered

-- It is down, or memory ran out, or the read failed, or gave what was never kept so.
abbrev pub IsUnread : Bool → ProviderFault → Type 0
IsUnread up faults.Down = up ≡ false
IsUnread up faults.NoMemory = up ≡ true
IsUnread up faults.DiskFault = up ≡ true
IsUnread up (faults.Changed number) = up ≡ true
IsUnread up _ = ⊥

-- Why the entry of a number isn't told, of so many: there is none, or for one of these causes.
abbrev pub IsUntold : Bool → ℕ → ℕ → ProviderFault → Type 0
IsUntold up entries number faults.Down = up ≡ false
IsUntold up entries number faults.NoItem = (up ≡ true) × (entries ≤ number)
IsUntold up entries number fault = IsUnread up fault × (number < entries)

-- why nothing was composed of the entry of a number, as a provider tells it
abbrev pub as_provider : ℕ → ComposeFault → ProviderFault
as_provider number compose.Changed = faults.Changed number
as_provider number compose.NoMemory = faults.NoMemory

-- and what that leaves: where the entry isn't what was needed nothing is read any more
abbrev pub GivesUp : {D : Type 0} → ChronicleState D → ChronicleState D → ComposeFault → Type 0
GivesUp old new compose.Changed = new ≡ record old { down = true }
GivesUp old new compose.NoMemory = new ≡ old

-- ---- what was never kept so

-- what is said of the number of an entry that isn't what it is to be
abbrev pub OnChanged : (ℕ → Type 0) → ProviderFault → Type 0
OnChanged Is (faults.Changed number) = Is number
OnChanged Is _ = Unit {0}

-- there is no entry of a number, and this is the number
abbrev pub IsAbsent : List Entry → ℕ → ℕ → Type 0
IsAbsent journal number told = (told ≡ number) × (slice_get journal number ≡ None)

module _ (trade : Trade) (me : ℕ) (journal : List Entry) where
  -- Of the entry of this number a letter is to be composed, and it isn't what that is composed of.
  pub record IsNotOf (letter : Letter) (number : ℕ) : Type 0 where
    pub needs : needed me (half trade me journal) letter ≡ Some number
    pub serves : (entry : Entry) → slice_get journal number ≡ Some entry
        → Serves trade me (half trade me journal) letter entry → ⊥

  -- A letter is due to a provider for which that is so.
  pub record LetterIsChanged (to room : ℕ) (owed : List Letter) (number : ℕ) : Type 0 where
    pub letter : Letter
    pub due : Contains (due_letters trade me (half trade me journal) to room owed) letter
    pub is : IsNotOf letter number

  -- The first undecided pair is decided by what screens find in the envelope that was taken, which is read from the
  -- entry of this number, and that holds none that is seen as one of its message: it isn't what a charge of it is
  -- composed of.
  pub record EnvelopeIsChanged (number : ℕ) : Type 0 where
    pub pair : Pair
    pub pairs : List Pair
    pub next : undecided trade me journal ≡ pair ∷ pairs
    pub is : IsNotOf (letters.Charge pair.id me) number

  -- The entry by which this message was taken, if it was, holds an envelope that is seen as one of it.
  abbrev pub HasEnvelope : Id → Type 0
  HasEnvelope id = (number : ℕ) → IsNotOf (letters.Charge id me) number → ⊥

  -- Of the entry of this number an item, where there is one, is to be composed, and it isn't what that is composed of.
  pub record PostedIsChanged (item : Option Posted) (number : ℕ) : Type 0 where
    pub posted : Posted
    pub there : item ≡ Some posted
    pub needs : needed_item (half trade me journal) posted ≡ Some number
    pub serves : (entry : Entry) → slice_get journal number ≡ Some entry
        → ServesItem trade me (half trade me journal) posted entry → ⊥

  -- So it is for the item at a place of an account's mailbox.
  abbrev pub ItemIsChanged : Bytes → ℕ → ℕ → Type 0
  ItemIsChanged account place number =
      PostedIsChanged (slice_get (mailbox (half trade me journal) account) place) number

  -- So it is for the item at a place of its archive.
  abbrev pub VaultItemIsChanged : Bytes → ℕ → ℕ → Type 0
  VaultItemIsChanged account place number =
      PostedIsChanged (slice_get (archive (half trade me journal) account) place) number

-- ---- what was read

-- The entry that was read for this number. `Stood` says when the disk gave back what it took: then it is the entry of this
-- number.
pub record IsGiven (Stood : Type 0) (journal : List Entry) (number : ℕ) (entry : Entry) : Type 0 where
  pub there : Stood → slice_get journal number ≡ Some entry
  pub written : CanBeWritten entry

module _ (Stood : Type 0) (trade : Trade) (me : ℕ) (journal : List Entry) where
  -- What screens of these patterns find in the original of a message that was taken: the entry that was read holds its
  -- envelope, and they looked at the original in that.
  pub record FindsIn (screens : List Patterns) (id : Id) (found : Bool) : Type 0 where
    pub number : ℕ
    pub needs : needed me (half trade me journal) (letters.Charge id me) ≡ Some number
    pub entry : Entry
    pub given : IsGiven Stood journal number entry
    pub original : Bytes
    pub holds : enveloped_in trade id entry ≡ Some original
    pub is : found ≡ finds screens original

  -- So it is of the first of these pairs, where its recipient is an account.
  abbrev pub FindsFirst : List Patterns → List Pair → Bool → Type 0
  FindsFirst screens [] found = Unit {0}
  FindsFirst screens (pair ∷ pairs) found = IsTrue (trade.is_account me pair.recipient) → FindsIn screens pair.id found

  -- The bytes of an item, where there is one, composed of the entry that was read for it.
  pub record ShownBy (item : Option Posted) (text : Bytes) : Type 0 where
    pub posted : Posted
    pub there : item ≡ Some posted
    pub number : ℕ
    pub needs : needed_item (half trade me journal) posted ≡ Some number
    pub entry : Entry
    pub given : IsGiven Stood journal number entry
    pub of : ShownOf trade me (half trade me journal) posted entry text

  -- The frame of a letter, unless it is too long, composed of the entry that was read for it.
  pub record FramedBy (letter : Letter) (found : Option Bytes) : Type 0 where
    pub number : ℕ
    pub needs : needed me (half trade me journal) letter ≡ Some number
    pub entry : Entry
    pub given : IsGiven Stood journal number entry
    pub of : FramedOf trade me (half trade me journal) letter entry found

  -- The frame of a letter, if there is one: none where the half doesn't have what the letter needs.
  abbrev pub IsFramed : Letter → Option Bytes → Type 0
  IsFramed letter found =
      ((needed me (half trade me journal) letter ≡ None) × (found ≡ None)) ⊎ FramedBy letter found

  -- So are these the frames of letters, in their order.
  abbrev pub AreFramed : List Letter → List Bytes → Type 0
  AreFramed [] frames = frames ≡ []
  AreFramed (letter ∷ letters) frames =
      (found : Option Bytes) × (rest : List Bytes) × IsFramed letter found × AreFramed letters rest
      × (frames ≡ option_to_list found ++ rest)
