-- What the caller of a connection is answered, over a whole run that serves: the answer of HTTP as a function of the
-- question, the moment, the directory and the caller's share of the network (`Share`), or what a device did in its place.
-- This project's profile.
use Rattle.std.specs.Prelude.{◌≡◌, ◌⊎◌, ℕ, ◌≤◌, List, Option, None, Some, Result, Ok, Err}
use Rattle.std.specs.List.{AllByRecursion}
use Rattle.std.specs.Option.{option_and_then}
use Rattle.pec_types.specs.Bytes.{Bytes}
use Rattle.pec_types.specs.declared.turns.ProviderFault.TheVariants as faults
use Rattle.pec_outside.specs.Flow.{HasRisen}
use Rattle.pec_directory.specs.Directory.{Kept, account_home, providers_of}
use Rattle.pec_screen.specs.Verdicts.{Patterns}
use Rattle.pec_seal.specs.Seals.{Seals}
use Rattle.pec_ledger.specs.Network.{Site}
use Rattle.pec_runs.specs.OfTrades.{trade_of}
use Rattle.pec_runs.specs.Plays.{ShowsItsOwn}
use Rattle.pec_http.specs.Asking.{Question, Submit, See}
use Rattle.pec_http.specs.Replies.{Reply, fault_reply, memory_reply}
use Rattle.pec_http.specs.declared.demands.Look.TheVariants as looks
use Rattle.pec_http.specs.declared.stops.Stop.{Stop}
use Rattle.pec_service.specs.Calls.{lucks_of}
use Rattle.pec_service.specs.Connections.{Answering, Broken, Connection, Heard, Hearing, Place, Unheard, answered_by}
use Rattle.pec_service.specs.Own.{IsChangedReply, Share, asker, reply_to, share_in}
use Rattle.pec_service.specs.Runs.{Happened, Outside, first_place, world}
use Rattle.pec_service.specs.Services.{place_behind}

-- how a connection was answered, where its request was read
abbrev pub answering_of : Hearing → Option Answering
answering_of Unheard = None
answering_of (Heard answering) = Some answering
answering_of (Broken answering) = Some answering

module _ (kept : List Kept) (seals : Seals) where
  -- The share of whoever asks; only accounts have one.
  abbrev pub asking_share : List Site → Result Question Stop → Option Share
  asking_share sites asked =
      option_and_then (share_in (trade_of kept seals) (providers_of kept) sites) (asker asked)

  -- what was answered: by `IsReplied`, its text is what was written, or begins with it
  abbrev pub answered : Place → Connection → Answering → Reply
  answered here connection answering =
      answered_by (trade_of kept seals) kept here.network.sites connection.handed answering

  -- what is the caller's own, as the connection was accepted
  abbrev pub own_answer : Place → Connection → Result Question Stop → Reply
  own_answer here connection asked =
      reply_to (providers_of kept) connection.moment (asking_share here.network.sites asked) asked

-- The fault of a disk is answered to an account, and the count of faults of the disk of its provider rose while the
-- connection was served.
abbrev pub DiskFailedAt : List Kept → Place → Connection → Bytes → Reply → Type 0
DiskFailedAt kept here connection address reply =
    (number : ℕ) × (account_home (providers_of kept) address ≡ Some number)
    × (reply ≡ fault_reply faults.DiskFault)
    × HasRisen (here.network.counts number) (connection.behind.network.counts number)

-- Only a submission and a look at an item are answered so.
abbrev pub DiskFailed : List Kept → Place → Connection → Result Question Stop → Reply → Type 0
DiskFailed kept here connection (Ok (Submit address path message)) reply =
    DiskFailedAt kept here connection address reply
DiskFailed kept here connection (Ok (See address looks.Book)) reply = ⊥
DiskFailed kept here connection (Ok (See address looks.Items)) reply = ⊥
DiskFailed kept here connection (Ok (See address (looks.Item place))) reply =
    DiskFailedAt kept here connection address reply
DiskFailed kept here connection (Err stop) reply = ⊥

-- An entry is told as changed, to a look at an item alone.
abbrev pub IsChanged : Result Question Stop → Reply → Type 0
IsChanged (Ok (Submit address path message)) reply = ⊥
IsChanged (Ok (See address looks.Book)) reply = ⊥
IsChanged (Ok (See address looks.Items)) reply = ⊥
IsChanged (Ok (See address (looks.Item place))) reply = IsChangedReply reply
IsChanged (Err stop) reply = ⊥

-- Memory ran out, the disk of the caller's provider failed, or an entry is told as changed.
abbrev pub IsDeviceReply : List Kept → Place → Connection → Result Question Stop → Reply → Type 0
IsDeviceReply kept here connection asked reply =
    (reply ≡ memory_reply) ⊎ DiskFailed kept here connection asked reply ⊎ IsChanged asked reply

-- What disks gave back to a look at an item is what they took: the item's own bytes were shown, if any were. Of other
-- requests nothing is asked. Where disks tell what they hold it is so.
abbrev pub GaveItsOwn : Result Question Stop → Connection → Type 0
GaveItsOwn (Ok (Submit address path message)) connection = Unit {0}
GaveItsOwn (Ok (See address looks.Book)) connection = Unit {0}
GaveItsOwn (Ok (See address looks.Items)) connection = Unit {0}
GaveItsOwn (Ok (See address (looks.Item place))) connection = AllByRecursion ShowsItsOwn (lucks_of connection.handed)
GaveItsOwn (Err stop) connection = Unit {0}

-- What was asked is answered its own, or by what a device did.
abbrev pub IsOwn : List Kept → Seals → Place → Connection → Result Question Stop → Reply → Type 0
IsOwn kept seals here connection asked reply =
    (reply ≡ own_answer kept seals here connection asked) ⊎ IsDeviceReply kept here connection asked reply

-- Of a run that serves, with these screens: the caller of a connection behind these is answered its own, by what was there
-- as the connection was accepted.
pub record IsOwnInRun (happened : Happened) (from : ℕ → ℕ) (outside : Outside) (screens : List (List Patterns))
    (front : List Connection) (connection : Connection) (answering : Answering) (asked : Result Question Stop) : Type 0 where
  pub counts : ℕ → ℕ  -- of faults of disks, as the service began
  pub sooner : (provider : ℕ) → from provider ≤ counts provider
  pub here : Place
  pub behind : here ≡ place_behind (first_place (world happened) screens happened.course.opening.journals counts outside) front
  pub own : IsOwn happened.setting.kept happened.setting.seals here connection asked
      (answered happened.setting.kept happened.setting.seals here connection answering)
