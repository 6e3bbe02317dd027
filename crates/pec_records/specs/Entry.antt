-- Journal entries as bytes, in this project's own format: `IsEntry`, which bytes an entry is, and `IsEntryFault`, where
-- bytes stop being one. Numbers stand with the greatest byte first.
use Rattle.std.specs.Prelude.{◌≡◌, ℕ, ◌^◌, ◌<◌, ◌≤◌, List, [], ◌∷◌, ◌++◌, length}
use Rattle.std.specs.Int.{bytes_high_first}
use Rattle.std.specs.List.{flat_map, AllByRecursion}
use Rattle.pec_types.specs.Address.{IsLowerAddress}
use Rattle.pec_types.specs.Bytes.{Bytes, Path}
use Rattle.pec_types.specs.Message.{Id}
use Rattle.pec_types.specs.Words.{cause_number}
use Rattle.pec_types.specs.declared.messages.TheConstants.{MESSAGES}
use Rattle.pec_types.specs.declared.messages.Cause.{Cause}
use Rattle.pec_types.specs.declared.messages.Decision.{Decision}
use Rattle.pec_types.specs.declared.messages.Decision.TheVariants as decisions
use Rattle.pec_types.specs.declared.messages.Refusal.TheVariants as refusals
use Rattle.pec_types.specs.declared.moments.TheConstants.{END_OF_TIME}
use Rattle.pec_grammar.specs.FirstFault.{FirstFault}
use Rattle.pec_records.specs.declared.entries.Entry.{Entry}
use Rattle.pec_records.specs.declared.entries.Entry.TheVariants as entries
use Rattle.pec_records.specs.declared.faults.EntryFault.{EntryFault}
use Rattle.pec_records.specs.declared.faults.EntryFault.TheVariants as faults

-- Fields.

-- numbers of two, four and eight bytes
unfoldable pub number_16 : ℕ → Bytes
number_16 n = bytes_high_first 2 n

unfoldable pub number_32 : ℕ → Bytes
number_32 n = bytes_high_first 4 n

unfoldable pub number_64 : ℕ → Bytes
number_64 n = bytes_high_first 8 n

-- a length, and so many bytes
abbrev pub address_field : Bytes → Bytes
address_field address = number_16 (length address) ++ address

abbrev pub bytes_field : Bytes → Bytes
bytes_field bytes = number_32 (length bytes) ++ bytes

-- a count, and so many addresses
abbrev pub addresses_field : Path → Bytes
addresses_field addresses = number_32 (length addresses) ++ flat_map address_field addresses

abbrev pub id_field : Id → Bytes
id_field id = number_32 id.provider ++ number_64 id.number

abbrev pub decision_field : Decision → Bytes
decision_field decisions.Placed = 0 ∷ []
decision_field (decisions.Refused refusals.NoMailbox) = 1 ∷ []
decision_field (decisions.Refused refusals.MailboxFull) = 2 ∷ []
decision_field (decisions.Refused refusals.Virus) = 3 ∷ []

-- the number of a cause
abbrev pub cause_field : Cause → Bytes
cause_field cause = cause_number cause ∷ []

-- The text of an entry: its tag, its fields, and nothing after them.

abbrev pub entry_text : Entry → Bytes
entry_text (entries.Start provider digest) = 0 ∷ number_32 provider ++ digest
entry_text (entries.Accepted moment sender message) =
    1 ∷ number_64 moment ++ (address_field sender ++ bytes_field message)
entry_text (entries.NotAccepted moment sender cause path message) =
    2 ∷ number_64 moment
    ++ (address_field sender ++ (cause_field cause ++ (addresses_field path ++ bytes_field message)))
entry_text (entries.Took moment id message) = 3 ∷ number_64 moment ++ (id_field id ++ bytes_field message)
entry_text (entries.Decided moment id recipient decision) =
    4 ∷ number_64 moment ++ (id_field id ++ (address_field recipient ++ decision_field decision))
entry_text (entries.Charged moment id by) = 5 ∷ number_64 moment ++ (id_field id ++ number_32 by)
entry_text (entries.Learned moment id recipient decision decided message) =
    6 ∷ number_64 moment
    ++ (id_field id ++ (address_field recipient ++ (decision_field decision ++ (number_64 decided ++ bytes_field message))))
entry_text (entries.Acked moment id recipient) = 7 ∷ number_64 moment ++ (id_field id ++ address_field recipient)
entry_text (entries.Ticked moment) = 8 ∷ number_64 moment
entry_text (entries.Anomaly moment accounts message) =
    9 ∷ number_64 moment ++ (addresses_field accounts ++ bytes_field message)
entry_text (entries.StartTwo provider digest) = 10 ∷ number_32 provider ++ digest
entry_text (entries.Upgraded moment) = 11 ∷ number_64 moment
entry_text (entries.Archived moment account place) =
    12 ∷ number_64 moment ++ (address_field account ++ number_32 place)

-- What can be written: numbers that fit, moments below the end of time, addresses in lower case, and lists and bytes
-- that can be counted.

abbrev pub IsMoment : ℕ → Type 0
IsMoment moment = moment < END_OF_TIME

abbrev pub IsId : Id → Type 0
IsId id = (id.provider < 2 ^ 32) × (id.number < MESSAGES)

abbrev pub CanBeCounted : {A : Type 0} → List A → Type 0
CanBeCounted xs = length xs < 2 ^ 32

abbrev pub AreAddresses : Path → Type 0
AreAddresses addresses = CanBeCounted addresses × AllByRecursion IsLowerAddress addresses

abbrev pub CanBeWritten : Entry → Type 0
CanBeWritten (entries.Start provider digest) = (provider < 2 ^ 32) × (length digest ≡ 32)
CanBeWritten (entries.Accepted moment sender message) = IsMoment moment × (IsLowerAddress sender × CanBeCounted message)
CanBeWritten (entries.NotAccepted moment sender cause path message) =
    IsMoment moment × (IsLowerAddress sender × (AreAddresses path × CanBeCounted message))
CanBeWritten (entries.Took moment id message) = IsMoment moment × (IsId id × CanBeCounted message)
CanBeWritten (entries.Decided moment id recipient decision) = IsMoment moment × (IsId id × IsLowerAddress recipient)
CanBeWritten (entries.Charged moment id by) = IsMoment moment × (IsId id × (by < 2 ^ 32))
CanBeWritten (entries.Learned moment id recipient decision decided message) =
    IsMoment moment × (IsId id × (IsLowerAddress recipient × (IsMoment decided × CanBeCounted message)))
CanBeWritten (entries.Acked moment id recipient) = IsMoment moment × (IsId id × IsLowerAddress recipient)
CanBeWritten (entries.Ticked moment) = IsMoment moment
CanBeWritten (entries.Anomaly moment accounts message) =
    IsMoment moment × (AreAddresses accounts × CanBeCounted message)
CanBeWritten (entries.StartTwo provider digest) = (provider < 2 ^ 32) × (length digest ≡ 32)
CanBeWritten (entries.Upgraded moment) = IsMoment moment
CanBeWritten (entries.Archived moment account place) = IsMoment moment × (IsLowerAddress account × (place < 2 ^ 32))

-- these bytes are the text of the entry
abbrev pub IsEntry : Entry → Bytes → Type 0
IsEntry entry text = CanBeWritten entry × (text ≡ entry_text entry)

-- The fault of bytes that are no entry: the place of the first byte with which no entry goes on, or their end where an
-- entry begins so.
abbrev pub IsEntryFault : Bytes → EntryFault → Type 0
IsEntryFault bytes (faults.Syntax place) = FirstFault IsEntry bytes place
IsEntryFault bytes faults.NoMemory = ⊥

-- What is asked of an entry's own lists: each, of bytes too, has fewer items than a count of four bytes can tell.
abbrev pub HasCounts : Entry → Type 0
HasCounts (entries.Start provider digest) = Unit {0}
HasCounts (entries.Accepted moment sender message) = CanBeCounted message
HasCounts (entries.NotAccepted moment sender cause path message) = CanBeCounted path × CanBeCounted message
HasCounts (entries.Took moment id message) = CanBeCounted message
HasCounts (entries.Decided moment id recipient decision) = Unit {0}
HasCounts (entries.Charged moment id by) = Unit {0}
HasCounts (entries.Learned moment id recipient decision decided message) = CanBeCounted message
HasCounts (entries.Acked moment id recipient) = Unit {0}
HasCounts (entries.Ticked moment) = Unit {0}
HasCounts (entries.Anomaly moment accounts message) = CanBeCounted accounts × CanBeCounted message
HasCounts (entries.StartTwo provider digest) = Unit {0}
HasCounts (entries.Upgraded moment) = Unit {0}
HasCounts (entries.Archived moment account place) = Unit {0}

-- The limits of the program.

abbrev pub longest_message : ℕ
longest_message = 50331648

-- addresses in a path
abbrev pub most_addresses : ℕ
most_addresses = 1000

-- accounts of a provider
abbrev pub most_accounts : ℕ
most_accounts = 10000

abbrev pub longest_entry : ℕ
longest_entry = 67108864

abbrev pub IsShort : Bytes → Type 0
IsShort message = length message ≤ longest_message

abbrev pub IsWithinLimits : Entry → Type 0
IsWithinLimits (entries.Start provider digest) = Unit {0}
IsWithinLimits (entries.Accepted moment sender message) = IsShort message
IsWithinLimits (entries.NotAccepted moment sender cause path message) = (length path ≤ most_addresses) × IsShort message
IsWithinLimits (entries.Took moment id message) = IsShort message
IsWithinLimits (entries.Decided moment id recipient decision) = Unit {0}
IsWithinLimits (entries.Charged moment id by) = Unit {0}
IsWithinLimits (entries.Learned moment id recipient decision decided message) = IsShort message
IsWithinLimits (entries.Acked moment id recipient) = Unit {0}
IsWithinLimits (entries.Ticked moment) = Unit {0}
IsWithinLimits (entries.Anomaly moment accounts message) = (length accounts ≤ most_accounts) × IsShort message
IsWithinLimits (entries.StartTwo provider digest) = Unit {0}
IsWithinLimits (entries.Upgraded moment) = Unit {0}
IsWithinLimits (entries.Archived moment account place) = Unit {0}
