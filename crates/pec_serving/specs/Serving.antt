-- A service over a network, a clock, a door and an output: how a call of it comes out (`ServesSo`). This project's profile.
use Rattle.std.specs.Prelude.{◌≡◌, ℕ, List, [], ◌∷◌, Option, Some, codes}
use Rattle.std.specs.Fmt.{decimal}
use Rattle.pec_types.specs.Bytes.{Bytes}
use Rattle.pec_outside.specs.Doors.{Reply as ToldReply, replied}
use Rattle.pec_outside.specs.DiskModel.{Sight}
use Rattle.pec_outside.specs.Flow.{WrotePart, followed_by}
use Rattle.pec_directory.specs.Directory.{Kept}
use Rattle.pec_ledger.specs.Trade.{Trade}
use Rattle.pec_playing.specs.OfNetworks.{NetworkState}
use Rattle.pec_http.specs.declared.serving.Served.{Served}
use Rattle.pec_http.specs.declared.serving.Served.TheVariants as served
use Rattle.pec_script.specs.Texts.{text_of}
use Rattle.pec_service.specs.Connections.{Connection, IsConnection, Place, outcome_line}
use Rattle.pec_service.specs.Services.{AllServed, Halted, IsService, NoConnection, NoMoment, Service, service_text}
use Rattle.pec_service.specs.Services as services
use Rattle.pec_service.specs.OfRuns.{State as RunState}
use Rattle.pec_service.specs.Through.{ServiceMoved}
use Rattle.pec_serving.specs.Playing.{state_of}
use Rattle.pec_serving.specs.declared.next.Came.{Came}
use Rattle.pec_serving.specs.declared.next.Came.TheVariants as came
use Rattle.pec_serving.specs.declared.serving.Ending.{Ending}
use Rattle.pec_serving.specs.declared.serving.Ending.TheVariants as endings

-- the line of what became of a connection
abbrev pub served_line : Served → Bytes
served_line (served.Answered code) = text_of ((codes "http" ∷ decimal code ∷ []) ∷ [])
served_line served.ReadFault = text_of ((codes "http" ∷ codes "read-fault" ∷ []) ∷ [])
served_line served.WriteFault = text_of ((codes "http" ∷ codes "write-fault" ∷ []) ∷ [])

-- where a service is, by its network, its clock and its door
abbrev pub place_of : {D S : Type 0} → (D → ℕ) → (ℕ → ℕ) → NetworkState D S → Option (List ℕ) → Option (List Bytes)
    → Option (List ToldReply) → Place
place_of count elsewhere network moments requests replies =
    record { network = state_of count elsewhere network; moments = moments; requests = requests; replies = replies }

-- ---- the next connection

-- Nothing but the door's replies changed: a connection was closed with nothing written.
pub record IsUnserved (here there : Place) : Type 0 where
  pub network : there.network ≡ here.network
  pub replies : there.replies ≡ replied here.replies (Some []) 0

pub record IsUnmet (here there : Place) : Type 0 where
  pub network : there.network ≡ here.network
  pub replies : there.replies ≡ here.replies

module _ (trade : Trade) (tells : Type 0) (kept : List Kept) where
  -- A connection was served, of which no clock call was played yet.
  pub record IsServedNext (here there : Place) (moment : ℕ) (told : Served) : Type 0 where
    pub connection : Connection
    pub is : IsConnection trade tells kept here connection
    pub moment_is : connection.moment ≡ moment
    pub unplayed : connection.clock ≡ []
    pub behind_is : connection.behind ≡ there
    pub line : served_line told ≡ outcome_line trade kept here.network.sites connection.handed connection.hearing

  abbrev pub ComesNext : Place → Place → Came → Type 0
  ComesNext here there (came.Served moment told) = IsServedNext here there moment told
  ComesNext here there came.NoMoment = IsUnserved here there
  ComesNext here there came.NoConnection = IsUnmet here there

-- ---- a service

-- how the service of an ending ended
abbrev pub ending_of : Ending → services.Ending
ending_of endings.AllServed = AllServed
ending_of endings.NoConnection = NoConnection
ending_of endings.NoMoment = NoMoment
ending_of endings.NoMemory = Halted
ending_of endings.WriteFault = Halted

-- All lines were written, or a front of them where the output failed.
abbrev pub AreWritten : Ending → (before after : Option Bytes) → Bytes → Type 0
AreWritten endings.WriteFault before after text = WrotePart before after text
AreWritten _ before after text = after ≡ followed_by before text

-- A service of so many connections went from here to there, and its lines were written; and the network moved on from the
-- first state to the last connection by connection.
pub record ServesSo (trade : Trade) (tells : Type 0) {D : Type 0} (sight : D → Sight) (faults : D → ℕ) (kept : List Kept)
    (wanted : ℕ) (first last : RunState D) (here there : Place) (before after : Option Bytes) (ending : Ending) : Type 0
  where
    pub service : Service
    pub is : IsService trade tells kept wanted here there service
    pub ending_is : service.ending ≡ ending_of ending
    pub written : AreWritten ending before after (service_text trade kept here service)
    pub moved : ServiceMoved trade tells sight faults first last service
