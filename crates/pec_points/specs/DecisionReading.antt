-- The decision as a function of what is seen of the recipient: the rows by tests, and the first that applies.
-- `Decision` says what the rows mean.
use Rattle.std.specs.Prelude.{nat_le, Bool, true, not, unwrap_or}
use Rattle.std.specs.List.{find}
use Rattle.pec_types.specs.declared.messages.Decision.{Decision}
use Rattle.pec_points.specs.Decision.{Mailbox, MailboxRow, NoAccount, Infected, IsFull, HasRoom, mailbox_rows, decided_by}

-- Whether a row applies.
abbrev pub applies_to_mailbox : Mailbox → MailboxRow → Bool
applies_to_mailbox mailbox NoAccount = not mailbox.account
applies_to_mailbox mailbox Infected = mailbox.virus
applies_to_mailbox mailbox IsFull = nat_le mailbox.quota mailbox.count
applies_to_mailbox mailbox HasRoom = true

-- The first row that applies.
abbrev pub mailbox_row_of : Mailbox → MailboxRow
mailbox_row_of mailbox = unwrap_or (find (applies_to_mailbox mailbox) mailbox_rows) HasRoom

-- What is decided.
unfoldable pub decision_of : Mailbox → Decision
decision_of mailbox = decided_by (mailbox_row_of mailbox)
