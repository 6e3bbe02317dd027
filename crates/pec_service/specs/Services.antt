-- Connections one after another, from a place: `AreConnections`; and a service, with how it ends: `IsService`. This
-- project's profile.
use Rattle.std.specs.Prelude.{◌≡◌, ℕ, ◌<◌, ◌≤◌, List, [], ◌∷◌, ◌++◌, length, slice_get, All, IsSome, Option, None, Some}
use Rattle.std.specs.List.{flat_map}
use Rattle.std.specs.Option.{option_and_then, option_to_list}
use Rattle.pec_types.specs.Bytes.{Bytes}
use Rattle.pec_outside.specs.Doors.{replied}
use Rattle.pec_directory.specs.Directory.{Kept}
use Rattle.pec_ledger.specs.Trade.{Trade}
use Rattle.pec_plays.specs.Commands.{Command}
use Rattle.pec_runs.specs.Ran.{LeavesOff}
use Rattle.pec_service.specs.Calls.{Call, clock_from}
use Rattle.pec_service.specs.Connections.{Connection, IsConnection, IsWhole, Place, calls_of, connection_text}

-- the place behind connections
abbrev pub place_behind : Place → List Connection → Place
place_behind here [] = here
place_behind here (connection ∷ more) = place_behind connection.behind more

-- all that was played of them
abbrev pub calls_in : List Connection → List Call
calls_in connections = flat_map calls_of connections

module _ (trade : Trade) (tells : Type 0) (kept : List Kept) where
  -- Each was served from the place behind those before it.
  abbrev pub AreConnections : Place → List Connection → Type 0
  AreConnections here [] = Unit {0}
  AreConnections here (connection ∷ more) =
      IsConnection trade tells kept here connection × AreConnections connection.behind more

module _ (trade : Trade) (kept : List Kept) where
  -- the lines of them
  abbrev pub connections_text : Place → List Connection → Bytes
  connections_text here [] = []
  connections_text here (connection ∷ more) =
      connection_text trade kept here.network connection ++ connections_text connection.behind more

-- ---- a service

-- How a service ends.
pub data Ending : Type 0 where
  AllServed : Ending  -- as many connections were served as were asked for
  NoConnection : Ending  -- the door failed
  NoMoment : Ending  -- the clock did, and the connection that had come in was closed
  Halted : Ending  -- the output failed or memory ran out, within a connection

-- What happened in a service: the connections of which all was played, and the one within which it halted.
pub record Service : Type 0 where
  pub whole : List Connection
  pub part : Option Connection
  pub ending : Ending

abbrev pub connections_of : Service → List Connection
connections_of service = service.whole ++ option_to_list service.part

-- Of a service of so many connections, whether it may end so when so many were served.
abbrev pub EndsSo : ℕ → ℕ → Ending → Option Connection → Type 0
EndsSo wanted served AllServed part = (served ≡ wanted) × (part ≡ None)
EndsSo wanted served NoConnection part = (served < wanted) × (part ≡ None)
EndsSo wanted served NoMoment part = (served < wanted) × (part ≡ None)
EndsSo wanted served Halted part = (served < wanted) × IsSome part

-- the command behind those that were played of the connection within which it halted
abbrev pub next_in : List Kept → Connection → Option Command
next_in kept connection = slice_get (clock_from (length kept) 0 connection.moment) (length connection.clock)

-- What a service leaves behind its last connection: the network as it is, but that where it halted the command in hand may
-- have been played, in whole or in part. A connection that was accepted without a moment is closed with nothing written.
abbrev pub Leaves : Trade → List Kept → Ending → Option Connection → Place → Place → Type 0
Leaves trade kept NoMoment part last left =
    (left.network.sites ≡ last.network.sites) × (left.replies ≡ replied last.replies (Some []) 0)
Leaves trade kept Halted part last left =
    LeavesOff trade last.network.sites (option_and_then (next_in kept) part) left.network.sites
    × (left.replies ≡ last.replies)
Leaves trade kept _ part last left =
    (left.network.sites ≡ last.network.sites) × (left.replies ≡ last.replies)

-- A service of so many connections went so, from one place to another. No count of a disk's faults fell.
pub record IsService (trade : Trade) (tells : Type 0) (kept : List Kept) (wanted : ℕ) (here left : Place)
    (service : Service) : Type 0 where
  pub each : AreConnections trade tells kept here (connections_of service)
  pub whole : All (IsWhole kept) service.whole
  pub ends : EndsSo wanted (length service.whole) service.ending service.part
  pub leaves : Leaves trade kept service.ending service.part (place_behind here (connections_of service)) left
  pub later : (provider : ℕ)
      → (place_behind here (connections_of service)).network.counts provider ≤ left.network.counts provider

-- What is written of it.
abbrev pub service_text : Trade → List Kept → Place → Service → Bytes
service_text trade kept here service = connections_text trade kept here (connections_of service)
