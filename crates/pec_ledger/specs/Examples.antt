-- Worked examples in the small world, as entries of journals: what books, mailboxes and clock calls they come to. The
-- provider 0 is alfa, with alice (0) and anna (1); the provider 1 is beta, with bob (1), carl (2), whose mailbox has
-- room for one item, and no account of the name 9.
use Rattle.std.specs.Prelude.{ℕ, List, [], ◌∷◌, ◌++◌, Option, Some, None}
use Rattle.pec_types.specs.Bytes.{Bytes}
use Rattle.pec_types.specs.Message.{Id}
use Rattle.pec_types.specs.declared.limits.Due.{Due}
use Rattle.pec_types.specs.declared.messages.Class.{Class}
use Rattle.pec_types.specs.declared.messages.Decision.TheVariants.{Placed, Refused}
use Rattle.pec_types.specs.declared.messages.Refusal.TheVariants.{NoMailbox, Virus}
use Rattle.pec_types.specs.declared.messages.BookLine.{BookLine}
use Rattle.pec_types.specs.declared.mailboxes.ItemLine.{ItemLine}
use Rattle.pec_types.specs.declared.mailboxes.ItemKind.TheVariants as item_kinds
use Rattle.pec_types.specs.declared.receipts.Kind.{Kind}
use Rattle.pec_records.specs.declared.entries.Entry.{Entry}
use Rattle.pec_records.specs.declared.entries.Entry.TheVariants as entries
use Rattle.pec_ledger.specs.Half.{Mark}
use Rattle.pec_ledger.specs.Pairs.{id_of, pair_of}
use Rattle.pec_ledger.specs.SmallWorld.{address}
use Rattle.pec_ledger.specs.Trade.{Receipt}

-- the accounts of the examples: alice and anna are at alfa, bob and carl at beta
abbrev pub alice : Bytes
alice = address 0 0

abbrev pub anna : Bytes
anna = address 0 1

abbrev pub bob : Bytes
bob = address 1 1

abbrev pub carl : Bytes
carl = address 1 2

-- no account
abbrev pub nobody : Bytes
nobody = address 1 9

-- the first message of alfa
abbrev pub first : Id
first = id_of 0 0

-- the moment at which all messages of the examples are accepted, in seconds
abbrev pub morning : ℕ
morning = 1704186000

-- alice writes to this address, as primary recipient
abbrev pub to_one : Bytes → Bytes
to_one recipient = alice ++ 0 ∷ recipient

-- the journal of a provider that accepted this message from alice
abbrev pub accepting : Bytes → List Entry
accepting message = entries.Start 0 [] ∷ entries.Accepted morning alice message ∷ []

-- a mark on the pair of the first message and anna
abbrev pub mark_on_anna : Due → ℕ → Mark
mark_on_anna due moment = record { pair = pair_of first anna; due = due; moment = moment }

-- a line of which nothing is known but the acceptance
abbrev pub open_line : Bytes → Class → BookLine
open_line recipient class = record {
  id = first;
  recipient = recipient;
  class = class;
  accepted = morning;
  charged = None;
  warned = None;
  noticed = None;
  outcome = None;
}

-- a receipt as a line of a mailbox
abbrev pub receipt_line : Kind → ItemLine
receipt_line kind = record { kind = item_kinds.Receipt kind; id = Some first; recipient = None }

-- the same, of a receipt that names this recipient
abbrev pub receipt_line_on : Kind → Bytes → ItemLine
receipt_line_on kind recipient = record { kind = item_kinds.Receipt kind; id = Some first; recipient = Some recipient }

-- a receipt on the first message, composed at alfa
abbrev pub receipt_on : Kind → Option Bytes → Receipt
receipt_on kind recipient = record { kind = kind; id = first; by = 0; moment = morning; recipient = recipient }

-- ---- two recipients, one of whom stands in `To` and the other in `Cc`

-- what alice writes to bob, with a copy to carl
abbrev pub to_two : Bytes
to_two = alice ++ 0 ∷ bob ++ 1 ∷ carl

-- ---- a recipient who is no account: the journal of alfa

-- alice's message was accepted; 3 seconds later the charge and the notice of error came from beta
abbrev pub to_nobody : List Entry
to_nobody =
    accepting (to_one nobody)
    ++ entries.Charged 1704186003 first 1
    ∷ entries.Learned 1704186003 first nobody (Refused NoMailbox) 1704186002 []
    ∷ []

-- ---- a notice, and later the delivery, all at one provider

-- 22 hours after the acceptance a clock call gives notice; 2 seconds later the message is placed, and then it is told
abbrev pub noticed_and_delivered : List Entry
noticed_and_delivered =
    accepting (to_one anna)
    ++ entries.Ticked 1704265200
    ∷ entries.Took 1704265202 first (1 ∷ 0 ∷ 0 ∷ morning ∷ to_one anna)
    ∷ entries.Decided 1704265202 first anna Placed
    ∷ entries.Charged 1704265203 first 0
    ∷ entries.Learned 1704265203 first anna Placed 1704265202 []
    ∷ []

-- ---- two messages for a mailbox with room for one item: the journal of beta, before the second decision

-- beta took two messages of alice for carl, 2 seconds after their acceptance, and placed the first
abbrev pub one_placed : List Entry
one_placed =
    entries.Start 1 []
    ∷ entries.Took 1704186002 first (1 ∷ 0 ∷ 0 ∷ morning ∷ to_one carl)
    ∷ entries.Took 1704186002 (id_of 0 1) (1 ∷ 0 ∷ 1 ∷ morning ∷ to_one carl)
    ∷ entries.Decided 1704186002 first carl Placed
    ∷ []

-- ---- a mailbox that holds a receipt alone: the journal of beta, where carl wrote to bob

-- beta accepted a message of carl: the receipt of acceptance is all that is in his mailbox
abbrev pub carl_wrote : List Entry
carl_wrote = entries.Start 1 [] ∷ entries.Accepted morning carl (carl ++ 0 ∷ bob) ∷ []

-- the same, and then that one item is archived: beta's journal is of version 2
abbrev pub one_archived : List Entry
one_archived =
    entries.StartTwo 1 []
    ∷ entries.Took 1704186002 first (1 ∷ 0 ∷ 0 ∷ morning ∷ to_one carl)
    ∷ entries.Took 1704186002 (id_of 0 1) (1 ∷ 0 ∷ 1 ∷ morning ∷ to_one carl)
    ∷ entries.Decided 1704186002 first carl Placed
    ∷ entries.Archived 1704186002 carl 0
    ∷ []

-- and then the second message is placed
abbrev pub two_placed : List Entry
two_placed = one_archived ++ entries.Decided 1704186004 (id_of 0 1) carl Placed ∷ []

-- ---- a virus that the recipient's provider finds

-- the journal of beta, which took alice's message to bob
abbrev pub virus_decided : List Entry
virus_decided =
    entries.Start 1 []
    ∷ entries.Took 1704186002 first (1 ∷ 0 ∷ 0 ∷ morning ∷ to_one bob)
    ∷ entries.Decided 1704186002 first bob (Refused Virus)
    ∷ []

-- the journal of alfa, to which beta told it
abbrev pub virus_learned : List Entry
virus_learned =
    accepting (to_one bob)
    ++ entries.Charged 1704186003 first 1
    ∷ entries.Learned 1704186003 first bob (Refused Virus) 1704186002 []
    ∷ []
