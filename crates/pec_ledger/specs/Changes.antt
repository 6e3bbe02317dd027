-- What an entry changes, as a table has it: `Changes`, the rows that it adds to each list of a half. This project's
-- profile.
use Rattle.std.specs.Prelude.{◌≡◌, ℕ, List, [], ◌∷◌, Option}
use Rattle.pec_types.specs.Bytes.{Bytes, Path}
use Rattle.pec_types.specs.declared.messages.Cause.{Cause}
use Rattle.pec_types.specs.declared.messages.Facts.{Facts}
use Rattle.pec_records.specs.declared.entries.Entry.{Entry}
use Rattle.pec_ledger.specs.Half.{Charge, Fate, Half, Item, Known, Mark, Message, Move, Posted, Taken}
use Rattle.pec_ledger.specs.Pairs.{Pair}
use Rattle.pec_ledger.specs.Steps.{adds, moment_of, size_of, version_by}
use Rattle.pec_ledger.specs.Trade.{Trade}

-- The rows that an entry adds.
pub record Rows : Type 0 where
  pub messages : List Message
  pub charged : List Charge
  pub marks : List Mark
  pub known : List Known
  pub taken : List Taken
  pub decided : List Fate
  pub acked : List Pair
  pub items : List Posted
  pub moves : List Move

-- no rows
abbrev pub nothing : Rows
nothing =
    record { messages = []; charged = []; marks = []; known = []; taken = []; decided = []; acked = []; items = []; moves = [] }

-- one item for an account, and no other rows
abbrev pub adds_item : Half → Bytes → Item → Rows
adds_item half account item = record nothing { items = record { account = account; item = item; entry = half.entries } ∷ [] }

-- a message: accepted where there are facts
abbrev pub adds_message : Half → ℕ → Bytes → Option Facts → Option Cause → Path → List Message
adds_message half moment sender facts cause path =
    record { moment = moment; sender = sender; facts = facts; cause = cause; path = path; entry = half.entries } ∷ []

-- The entry adds these rows to a half of the provider, and no others.
abbrev pub Changes : Trade → ℕ → Half → Entry → Rows → Type 0
Changes trade provider half entry rows = adds trade provider half entry ≡ record {
  moment = moment_of entry;
  version = version_by entry;
  size = size_of entry;
  messages = rows.messages;
  charged = rows.charged;
  marks = rows.marks;
  known = rows.known;
  taken = rows.taken;
  decided = rows.decided;
  acked = rows.acked;
  items = rows.items;
  moves = rows.moves;
}
