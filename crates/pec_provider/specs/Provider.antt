-- A provider as contracts see it: `ProviderState`. `Runs` says that it is the provider of a number of a directory, and
-- `Desk` is what a turn sees of it. This project's profile.
use Rattle.std.specs.Prelude.{◌≡◌, ℕ, ◌<◌, Bool, true, false, not, List, [], length, Option, None}
use Rattle.pec_types.specs.Bytes.{Bytes}
use Rattle.pec_types.specs.declared.letters.Letter.{Letter}
use Rattle.pec_directory.specs.Directory.{Kept}
use Rattle.pec_records.specs.declared.entries.Entry.{Entry}
use Rattle.pec_screen.specs.Verdicts.{Patterns}
use Rattle.pec_ledger.specs.Network.{Site}
use Rattle.pec_seal.specs.Seals.{Seals}
use Rattle.pec_shelf.specs.Seen.{Seen}
use Rattle.pec_chronicle.specs.Chronicle.{ChronicleState}
use Rattle.pec_seal.specs.declared.sealers.Sealer.{Ghosts}
use Rattle.pec_stock.specs.Stock.{Agree}
use Rattle.pec_reception.specs.OfTrades.{House}

-- Its entries over its disk, its half of the ledger, and the answers that it owes in this turn, in the order in which
-- they arose.
pub record ProviderState (D : Type 0) : Type 0 where
  pub chronicle : ChronicleState D
  pub shelf : Seen
  pub owed : List Letter
  pub places : ℕ  -- there is memory for so many answers more

-- It is the provider of this number of the directory: its half is what its entries come to, and these are its own, with
-- an interrupted one or without it. Every call keeps this, on every answer.
pub record Runs {D : Type 0} (kept : List Kept) (seals : Seals) (me : ℕ) (provider : ProviderState D) : Type 0 where
  pub number : me < length kept
  pub is : provider.shelf.me ≡ me
  pub agree : Agree kept provider.chronicle provider.shelf

-- It is the provider of this house.
abbrev pub RunsIn : {D S : Type 0} {who : Ghosts S} → House S who → ProviderState D → Type 0
RunsIn {D} {S} {who} house provider = Runs house.directory.now (who.seals house.sealer.now) house.me provider

-- What a turn sees of a provider.
pub record Desk : Type 0 where
  pub journal : List Entry
  pub owed : List Letter
  pub up : Bool
  pub interrupted : Option Entry

abbrev pub desk_of : {D : Type 0} → ProviderState D → Desk
desk_of provider = record {
  journal = provider.chronicle.entries;
  owed = provider.owed;
  up = not provider.chronicle.down;
  interrupted = provider.chronicle.interrupted;
}

-- the provider among others, with the patterns of its screens and the frames that wait for it
abbrev pub site_of : Desk → List Patterns → List (List Bytes) → Site
site_of desk screens waiting = record {
  journal = desk.journal;
  up = desk.up;
  interrupted = desk.interrupted;
  screens = screens;
  waiting = waiting;
}

-- up, over these entries, and nothing is owed
abbrev pub fresh : List Entry → Desk
fresh journal = record { journal = journal; owed = []; up = true; interrupted = None }

-- down, over the same entries
abbrev pub stopped : Desk → Desk
stopped desk = record { journal = desk.journal; owed = desk.owed; up = false; interrupted = desk.interrupted }
