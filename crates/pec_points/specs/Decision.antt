-- The decision on a message that was taken, for one of its recipients here, row by row (RFC 6109, section 3.3, within
-- this project's profile). `IsDecision`, at the end.
use Rattle.std.specs.Prelude.{◌≡◌, ℕ, ◌≤◌, Bool, true, false, List, [], ◌∷◌}
use Rattle.pec_types.specs.Tables.{IsFirst}
use Rattle.pec_types.specs.declared.messages.Decision.{Decision}
use Rattle.pec_types.specs.declared.messages.Decision.TheVariants.{Placed, Refused}
use Rattle.pec_types.specs.declared.messages.Refusal.TheVariants.{NoMailbox, MailboxFull, Virus}

-- What a provider sees of a recipient: whether it has this account, whether some screen finds a rule in the message, how
-- many items in the mailbox count, envelopes and anomalies, and how many may.
pub record Mailbox : Type 0 where
  pub account : Bool
  pub virus : Bool
  pub count : ℕ
  pub quota : ℕ

-- The rows, each named by its case.
pub data MailboxRow : Type 0 where
  NoAccount : MailboxRow
  Infected : MailboxRow
  IsFull : MailboxRow
  HasRoom : MailboxRow

-- The rows in their order.
abbrev pub mailbox_rows : List MailboxRow
mailbox_rows = NoAccount ∷ Infected ∷ IsFull ∷ HasRoom ∷ []

-- When a row applies. A mailbox has room where the items that count are fewer than its quota.
abbrev pub AppliesToMailbox : Mailbox → MailboxRow → Type 0
AppliesToMailbox mailbox NoAccount = mailbox.account ≡ false
AppliesToMailbox mailbox Infected = mailbox.virus ≡ true
AppliesToMailbox mailbox IsFull = mailbox.quota ≤ mailbox.count
AppliesToMailbox mailbox HasRoom = Unit {0}

-- What a row decides.
abbrev pub decided_by : MailboxRow → Decision
decided_by NoAccount = Refused NoMailbox
decided_by Infected = Refused Virus
decided_by IsFull = Refused MailboxFull
decided_by HasRoom = Placed

-- This is decided for the recipient, by the first row that applies.
pub record IsDecision (mailbox : Mailbox) (decision : Decision) : Type 0 where
  pub row : MailboxRow
  pub first : IsFirst (AppliesToMailbox mailbox) mailbox_rows row
  pub answer : decision ≡ decided_by row
