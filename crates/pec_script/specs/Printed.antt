-- Of what lines of output are read back: what is printed is within the bounds that its types have, and names providers of the
-- directory. Each of these says so of one thing that is printed.
use Rattle.std.specs.Prelude.{◌≡◌, ◌≢◌, ℕ, ◌<◌, ◌^◌, List, [], ◌∷◌, length, Option, None, Some}
use Rattle.pec_directory.specs.Directory.{Provider}
use Rattle.pec_types.specs.Address.{IsLowerAddress}
use Rattle.pec_types.specs.Bytes.{Bytes}
use Rattle.pec_types.specs.Message.{Id}
use Rattle.pec_types.specs.declared.letters.Letter.{Letter}
use Rattle.pec_types.specs.declared.letters.Letter.TheVariants as letters
use Rattle.pec_types.specs.declared.limits.Due.TheVariants.{Nothing}
use Rattle.pec_types.specs.declared.mailboxes.ItemLine.{ItemLine}
use Rattle.pec_types.specs.declared.mailboxes.Mark.{Mark}
use Rattle.pec_types.specs.declared.messages.BookLine.{BookLine}
use Rattle.pec_types.specs.declared.messages.Decision.{Decision}
use Rattle.pec_types.specs.declared.messages.TheConstants.{MESSAGES}
use Rattle.pec_types.specs.declared.moments.TheConstants.{END_OF_TIME}
use Rattle.pec_types.specs.declared.turns.Event.{Event}
use Rattle.pec_types.specs.declared.turns.Event.TheVariants as events
use Rattle.pec_types.specs.declared.turns.ProviderFault.{ProviderFault}
use Rattle.pec_types.specs.declared.turns.ProviderFault.TheVariants as refusals
use Rattle.pec_types.specs.declared.turns.Submitted.{Submitted}
use Rattle.pec_types.specs.declared.turns.Submitted.TheVariants as submitted
use Rattle.pec_script.specs.Texts.{kind_word, name_of}
use Rattle.pec_script.specs.declared.faults.LineFault.{LineFault}
use Rattle.pec_script.specs.declared.faults.LineFault.TheVariants as faults

-- a message of a provider of the directory
pub record IsNamed (providers : List Provider) (id : Id) : Type 0 where
  pub provider : id.provider < length providers
  pub number : id.number < MESSAGES

abbrev pub IsMomentOrNone : Option ℕ → Type 0
IsMomentOrNone None = Unit {0}
IsMomentOrNone (Some moment) = moment < END_OF_TIME

abbrev pub IsOutcome : Option (Decision × ℕ) → Type 0
IsOutcome None = Unit {0}
IsOutcome (Some outcome) = outcome.1 < END_OF_TIME

pub record IsBookLine (providers : List Provider) (line : BookLine) : Type 0 where
  pub id : IsNamed providers line.id
  pub recipient : IsLowerAddress line.recipient
  pub accepted : line.accepted < END_OF_TIME
  pub charged : IsMomentOrNone line.charged
  pub warned : IsMomentOrNone line.warned
  pub noticed : IsMomentOrNone line.noticed
  pub outcome : IsOutcome line.outcome

abbrev pub IsNamedOrNone : List Provider → Option Id → Type 0
IsNamedOrNone providers None = Unit {0}
IsNamedOrNone providers (Some id) = IsNamed providers id

abbrev pub IsAddressOrNone : Option Bytes → Type 0
IsAddressOrNone None = Unit {0}
IsAddressOrNone (Some address) = IsLowerAddress address

pub record IsItemLine (providers : List Provider) (line : ItemLine) : Type 0 where
  pub id : IsNamedOrNone providers line.id
  pub recipient : IsAddressOrNone line.recipient

pub record IsMark (providers : List Provider) (mark : Mark) : Type 0 where
  pub id : IsNamed providers mark.id
  pub recipient : IsLowerAddress mark.recipient
  pub some : mark.due ≢ Nothing

-- Two mailboxes that are printed alike: item by item the same word, message and recipient. The cause of a non-acceptance and of a
-- delivery error isn't printed.
abbrev pub AreAlike : List ItemLine → List ItemLine → Type 0
AreAlike [] [] = Unit {0}
AreAlike [] (other ∷ others) = ⊥
AreAlike (line ∷ lines) [] = ⊥
AreAlike (line ∷ lines) (other ∷ others) =
    (kind_word line.kind ≡ kind_word other.kind) × (line.id ≡ other.id) × (line.recipient ≡ other.recipient) × AreAlike lines others

abbrev pub IsSubmitted : List Provider → Submitted → Type 0
IsSubmitted providers (submitted.Accepted id) = IsNamed providers id
IsSubmitted providers (submitted.NotAccepted id cause) = IsNamed providers id

-- a refusal, which has a line of its own; the number of an entry is that of a `u64`
abbrev pub IsRefusal : ProviderFault → Type 0
IsRefusal refusals.DiskFault = Unit {0}
IsRefusal refusals.Down = Unit {0}
IsRefusal (refusals.ClockBack last) = last < END_OF_TIME
IsRefusal refusals.NoAccount = Unit {0}
IsRefusal refusals.Full = Unit {0}
IsRefusal refusals.NoItem = Unit {0}
IsRefusal refusals.JournalFull = Unit {0}
IsRefusal refusals.OldJournal = Unit {0}
IsRefusal refusals.NoNeed = Unit {0}
IsRefusal refusals.NoMemory = Unit {0}
IsRefusal (refusals.Changed entry) = entry < 2 ^ 64

-- the fault of a line, which has a line of its own; the argument's number is that of a `u8`
abbrev pub IsLineRefusal : LineFault → Type 0
IsLineRefusal faults.UnknownWord = Unit {0}
IsLineRefusal faults.Arity = Unit {0}
IsLineRefusal (faults.BadNumber number) = number < 256
IsLineRefusal (faults.BadAddress number) = number < 256
IsLineRefusal (faults.BadBase64 number) = number < 256
IsLineRefusal (faults.UnknownProvider number) = number < 256
IsLineRefusal faults.NoMemory = ⊥

abbrev pub IsLetter : List Provider → Letter → Type 0
IsLetter providers (letters.Envelope id to) = IsNamed providers id
IsLetter providers (letters.Charge id by) = IsNamed providers id
IsLetter providers (letters.Outcome id recipient) = IsNamed providers id
IsLetter providers (letters.Ack id recipient) = IsNamed providers id

abbrev pub IsEvent : List Provider → Event → Type 0
IsEvent providers (events.Took id) = IsNamed providers id
IsEvent providers (events.Charged id by) = IsNamed providers id
IsEvent providers (events.Learned id recipient decision) = IsNamed providers id
IsEvent providers (events.Acked id recipient) = IsNamed providers id
IsEvent providers (events.Repeat letter) = IsLetter providers letter
IsEvent providers (events.Anomaly accounts) = accounts < 2 ^ 64
IsEvent providers events.Dropped = Unit {0}
IsEvent providers (events.Decided id recipient decision) = IsNamed providers id

-- Two letters that are printed alike: the provider that an envelope is to, or a charge by, isn't printed.
abbrev pub AreSameLetters : Letter → Letter → Type 0
AreSameLetters (letters.Envelope id to) (letters.Envelope other also) = id ≡ other
AreSameLetters (letters.Charge id by) (letters.Charge other also) = id ≡ other
AreSameLetters (letters.Outcome id recipient) (letters.Outcome other also) = (id ≡ other) × (recipient ≡ also)
AreSameLetters (letters.Ack id recipient) (letters.Ack other also) = (id ≡ other) × (recipient ≡ also)
AreSameLetters letter other = ⊥

-- Two events that are printed alike: they are of one kind, and of the same message, recipient, decision and number; a charge is by
-- providers of one name.
abbrev pub AreSameEvents : List Provider → Event → Event → Type 0
AreSameEvents providers (events.Took id) (events.Took other) = id ≡ other
AreSameEvents providers (events.Charged id by) (events.Charged other also) = (id ≡ other) × (name_of providers by ≡ name_of providers also)
AreSameEvents providers (events.Learned id recipient decision) (events.Learned other also what) = (id ≡ other) × (recipient ≡ also) × (decision ≡ what)
AreSameEvents providers (events.Acked id recipient) (events.Acked other also) = (id ≡ other) × (recipient ≡ also)
AreSameEvents providers (events.Repeat letter) (events.Repeat other) = AreSameLetters letter other
AreSameEvents providers (events.Anomaly accounts) (events.Anomaly other) = accounts ≡ other
AreSameEvents providers events.Dropped events.Dropped = Unit {0}
AreSameEvents providers (events.Decided id recipient decision) (events.Decided other also what) = (id ≡ other) × (recipient ≡ also) × (decision ≡ what)
AreSameEvents providers event other = ⊥
