-- A provider's half of the ledger: `Half`, a record of lists that only grow at their ends, and `Adds`, what one entry
-- adds to each of them. A half holds no bytes of messages: rows hold facts, and the number of the entry with the bytes.
-- Moments are in seconds; messages and entries are numbered from 0. This project's profile.
use Rattle.std.specs.Prelude.{ℕ, ◌+◌, max, List, [], ◌++◌, Option}
use Rattle.pec_types.specs.Bytes.{Bytes, Path}
use Rattle.pec_types.specs.Message.{Id}
use Rattle.pec_types.specs.declared.limits.Due.{Due}
use Rattle.pec_types.specs.declared.messages.Cause.{Cause}
use Rattle.pec_types.specs.declared.messages.Decision.{Decision}
use Rattle.pec_types.specs.declared.messages.Facts.{Facts}
use Rattle.pec_types.specs.declared.receipts.Kind.{Kind}
use Rattle.pec_ledger.specs.Pairs.{Pair}

-- ---- rows of the sender's side

-- A message that was submitted here, its number being its place: accepted where it has facts, and otherwise refused for
-- a cause, along a path. `entry` is the number of the entry by which it came.
pub record Message : Type 0 where
  pub moment : ℕ
  pub sender : Bytes
  pub facts : Option Facts
  pub cause : Option Cause
  pub path : Path
  pub entry : ℕ

-- A provider took charge of a message of this provider.
pub record Charge : Type 0 where
  pub id : Id
  pub by : ℕ
  pub moment : ℕ

-- A clock call marked a pair of this provider: with a warning, a notice or a late notice.
pub record Mark : Type 0 where
  pub pair : Pair
  pub due : Due
  pub moment : ℕ

-- The outcome of a pair of this provider is known: what was decided and when, and when it was learned.
pub record Known : Type 0 where
  pub pair : Pair
  pub decision : Decision
  pub decided : ℕ
  pub moment : ℕ

-- ---- rows of the recipient's side

-- An envelope was taken for these recipients, which are at home here.
pub record Taken : Type 0 where
  pub id : Id
  pub moment : ℕ
  pub recipients : Path
  pub entry : ℕ

-- What was decided on a pair whose recipient is at home here.
pub record Fate : Type 0 where
  pub pair : Pair
  pub decision : Decision
  pub moment : ℕ

-- ---- items of mailboxes

-- The envelope of a message, a receipt or notice, or a message that no provider could have sent. The moment is that of
-- the entry by which the item came.
pub data Item : Type 0 where
  EnvelopeItem : (id : Id) → Item
  ReceiptItem : (kind : Kind) (id : Id) (recipient : Option Bytes) (moment : ℕ) → Item
  AnomalyItem : (moment : ℕ) → Item

-- An item as it was placed in a mailbox, and the number of the entry by which it came.
pub record Posted : Type 0 where
  pub account : Bytes
  pub item : Item
  pub entry : ℕ

-- The item at a place of an account's mailbox, from 0, was moved into the account's archive.
pub record Move : Type 0 where
  pub account : Bytes
  pub place : ℕ

-- ---- halves

-- The figures of a provider (number of entries, greatest moment, version of its journal, and the end of this in bytes),
-- the rows of both sides, all items that were ever placed in its mailboxes, in the order in which they were, and the
-- moves into archives, in theirs.
pub record Half : Type 0 where
  pub entries : ℕ
  pub last : ℕ
  pub version : ℕ
  pub end : ℕ
  pub messages : List Message
  pub charged : List Charge
  pub marks : List Mark
  pub known : List Known
  pub taken : List Taken
  pub decided : List Fate
  pub acked : List Pair
  pub items : List Posted
  pub moves : List Move

-- What one entry adds: its moment, the version that it makes of the journal, its bytes there, and rows.
pub record Adds : Type 0 where
  pub moment : ℕ
  pub version : ℕ
  pub size : ℕ
  pub messages : List Message
  pub charged : List Charge
  pub marks : List Mark
  pub known : List Known
  pub taken : List Taken
  pub decided : List Fate
  pub acked : List Pair
  pub items : List Posted
  pub moves : List Move

-- where a journal without entries ends, in bytes
abbrev pub start_of_entries : ℕ
start_of_entries = 8

-- The half without entries.
abbrev pub empty : Half
empty = record {
  entries = 0;
  last = 0;
  version = 0;
  end = start_of_entries;
  messages = [];
  charged = [];
  marks = [];
  known = [];
  taken = [];
  decided = [];
  acked = [];
  items = [];
  moves = [];
}

-- A half with what an entry adds.
abbrev pub joined : Half → Adds → Half
joined half adds = record {
  entries = half.entries + 1;
  last = max half.last adds.moment;
  version = max half.version adds.version;
  end = half.end + adds.size;
  messages = half.messages ++ adds.messages;
  charged = half.charged ++ adds.charged;
  marks = half.marks ++ adds.marks;
  known = half.known ++ adds.known;
  taken = half.taken ++ adds.taken;
  decided = half.decided ++ adds.decided;
  acked = half.acked ++ adds.acked;
  items = half.items ++ adds.items;
  moves = half.moves ++ adds.moves;
}
