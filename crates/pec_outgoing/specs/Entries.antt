-- The message that an entry holds, where the entry is of the tag, and of the id, that is asked for. This project's
-- profile.
use Rattle.std.specs.Prelude.{ℕ, ◌==◌, nat_lt, Bool, false, ◌&&◌, length, if◌then◌else◌, Option, Some, None}
use Rattle.std.specs.Str.{bytes_eq}
use Rattle.pec_types.specs.Bytes.{Bytes}
use Rattle.pec_types.specs.Message.{Id}
use Rattle.pec_records.specs.declared.entries.Entry.{Entry}
use Rattle.pec_records.specs.declared.entries.Entry.TheVariants as entries
use Rattle.pec_ledger.specs.Half.{Message}
use Rattle.pec_ledger.specs.Pairs.{same_id}

-- a message that was accepted at this moment from this account
abbrev pub accepted_in : ℕ → Bytes → Entry → Option Bytes
accepted_in moment sender (entries.Accepted at from message) =
    if (moment == at) && bytes_eq sender from then Some message else None
accepted_in moment sender _ = None

-- the envelope with which this message was taken
abbrev pub took_in : Id → Entry → Option Bytes
took_in id (entries.Took moment other message) = if same_id id other then Some message else None
took_in id _ = None

-- an item names this recipient
abbrev pub names : Option Bytes → Bytes → Bool
names None recipient = false
names (Some named) recipient = bytes_eq named recipient

-- the receipt from which the outcome of this message for this recipient was learned
abbrev pub learned_in : Id → Option Bytes → Entry → Option Bytes
learned_in id named (entries.Learned moment other recipient decision decided message) =
    if same_id id other && names named recipient then Some message else None
learned_in id named _ = None

-- what came and is no certified mail
abbrev pub anomaly_in : Entry → Option Bytes
anomaly_in (entries.Anomaly moment accounts message) = Some message
anomaly_in _ = None

-- a message that wasn't accepted, which came at this moment from this account, along a path of at least one address
abbrev pub is_refused_in : ℕ → Bytes → Entry → Bool
is_refused_in moment sender (entries.NotAccepted at from cause path message) =
    ((moment == at) && bytes_eq sender from) && nat_lt 0 (length path)
is_refused_in moment sender _ = false

-- so it is of a row, where there is one
abbrev pub is_of_row : Option Message → Entry → Bool
is_of_row None entry = false
is_of_row (Some row) entry = is_refused_in row.moment row.sender entry
