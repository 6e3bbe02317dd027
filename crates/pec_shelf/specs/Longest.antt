-- The length of the longest of some lists of rows.
use Rattle.std.specs.Prelude.{ℕ, ◌≤◌, length}
use Rattle.pec_shelf.specs.declared.inbox.ReceivedRows.{ReceivedRows}
use Rattle.pec_shelf.specs.declared.outbox.SentRows.{SentRows}

-- none of the lists is longer
pub record IsLongest (sent : SentRows) (received : ReceivedRows) (count room : ℕ) : Type 0 where
  pub messages : length sent.messages.items ≤ room
  pub charged : length sent.charged.items ≤ room
  pub marks : length sent.marks.items ≤ room
  pub known : length sent.known.items ≤ room
  pub taken : length received.taken.items ≤ room
  pub decided : length received.decided.items ≤ room
  pub acked : length received.acked.items ≤ room
  pub items : count ≤ room
