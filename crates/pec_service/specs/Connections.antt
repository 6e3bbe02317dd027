-- One connection that is served, as it went: it is accepted, the moment is asked, its request is answered at the desk of
-- the network at that moment, and then each provider looks at the clock, in order, and one round is played, all at that
-- moment. The headline is `IsConnection`. This project's profile.
use Rattle.std.specs.Prelude.{◌≡◌, ℕ, ◌+◌, ◌<◌, ◌≤◌, true, List, [], ◌∷◌, ◌++◌, length, codes, Option, Some, Result, Ok, Err, IfSome}
use Rattle.std.specs.Fmt.{decimal}
use Rattle.pec_types.specs.Bytes.{Bytes, Path}
use Rattle.pec_types.specs.declared.moments.TheConstants.{END_OF_TIME}
use Rattle.pec_types.specs.declared.turns.ProviderFault.{ProviderFault}
use Rattle.pec_types.specs.declared.turns.ProviderFault.TheVariants as faults
use Rattle.pec_types.specs.declared.turns.Submitted.{Submitted}
use Rattle.pec_outside.specs.Clocks.{Gives}
use Rattle.pec_outside.specs.Doors.{Reply as ToldReply, in_front}
use Rattle.pec_directory.specs.Directory.{Kept, account_home, first_domain, providers_of}
use Rattle.pec_records.specs.Entry.{most_addresses}
use Rattle.pec_ledger.specs.Network.{Site}
use Rattle.pec_ledger.specs.Trade.{Trade}
use Rattle.pec_plays.specs.Commands.{Answer, Command, Refuses, Show, Shown, Submit, Submits}
use Rattle.pec_http.specs.Asking.{Asks, See, Submit as Submission}
use Rattle.pec_http.specs.Input.{IsInput}
use Rattle.pec_http.specs.Replies.{Reply, memory_reply, reply_text, shown_reply, stop_reply, submitted_reply}
use Rattle.pec_http.specs.Serving.{kind_of}
use Rattle.pec_http.specs.Statuses.{number_of}
use Rattle.pec_http.specs.declared.demands.Look.{Look}
use Rattle.pec_http.specs.declared.demands.Look.TheVariants as looks
use Rattle.pec_http.specs.declared.stops.Stop.{Stop}
use Rattle.pec_script.specs.Texts.{text_of}
use Rattle.pec_service.specs.Passes.{pass_of}
use Rattle.pec_service.specs.Own.{shown_in}
use Rattle.pec_service.specs.Calls.{AreCalls, Call, State, answer_of, calls_text, clock_from, commands_of, state_behind}

-- ---- what a request comes to

-- How a request is answered.
pub data Answering : Type 0 where
  Lacks : Answering  -- by the fixed answer, for memory ran out, and nothing was handed in
  Stops : (stop : Stop) → Answering  -- by the row that stopped it
  Sees : (address : Bytes) (look : Look) → Answering  -- an account looks at what is its own
  HandsIn : (number : ℕ) (address : Bytes) (path : Path) (message : Bytes) → Answering  -- one hands in, at this provider

-- What became of a connection.
pub data Hearing : Type 0 where
  Unheard : Hearing  -- it failed before its request was read: nothing was asked, and nothing is answered
  Heard : (answering : Answering) → Hearing  -- it was answered
  Broken : (answering : Answering) → Hearing  -- it failed before its answer was written; what was handed in stands

-- What is asked by the bytes of a request, where memory doesn't run out.
abbrev pub AsksSo : List Kept → Bytes → Answering → Type 0
AsksSo kept input Lacks = Unit {0}
AsksSo kept input (Stops stop) = Asks (pass_of kept) input (Err stop)
AsksSo kept input (Sees address looked) = Asks (pass_of kept) input (Ok (See address looked))
AsksSo kept input (HandsIn number address path message) =
    Asks (pass_of kept) input (Ok (Submission address path message))
    × (account_home (providers_of kept) address ≡ Some number)
    × (0 < length path) × (length path ≤ most_addresses)

abbrev pub IsHeardSo : List Kept → Bytes → Hearing → Type 0
IsHeardSo kept input Unheard = Unit {0}
IsHeardSo kept input (Heard answering) = AsksSo kept input answering
IsHeardSo kept input (Broken answering) = AsksSo kept input answering

-- a look at an item is a command, for it reads the disk; a look at a book or a list of items isn't
abbrev pub looked_by : Bytes → Look → List Command
looked_by address looks.Book = []
looked_by address looks.Items = []
looked_by address (looks.Item place) = Show address place ∷ []

-- the command by which a message is handed in, where one is, or an item is looked at
abbrev pub handed_by : ℕ → Answering → List Command
handed_by moment Lacks = []
handed_by moment (Stops stop) = []
handed_by moment (Sees address looked) = looked_by address looked
handed_by moment (HandsIn number address path message) = Submit number moment address path message ∷ []

abbrev pub handed_in : ℕ → Hearing → List Command
handed_in moment Unheard = []
handed_in moment (Heard answering) = handed_by moment answering
handed_in moment (Broken answering) = handed_by moment answering

-- ---- a connection

-- A service between two connections: the network, the moments that the clock will answer, what the connections still to
-- come have to be read, and the replies so far. What clock or door don't tell is None.
pub record Place : Type 0 where
  pub network : State
  pub moments : Option (List ℕ)
  pub requests : Option (List Bytes)
  pub replies : Option (List ToldReply)

pub record Connection : Type 0 where
  pub moment : ℕ
  pub input : Bytes  -- what it had to be read
  pub hearing : Hearing
  pub reply : ToldReply  -- what was written to it, and whether it had faults
  pub handed : List Call  -- what was handed in, or looked at
  pub clock : List Call  -- the clock calls and the round that were played
  pub behind : Place

-- all that was played of it
abbrev pub calls_of : Connection → List Call
calls_of connection = connection.handed ++ connection.clock

-- All of it was: a clock call of each provider, and a round.
abbrev pub IsWhole : List Kept → Connection → Type 0
IsWhole kept connection = length connection.clock ≡ length kept + 1

-- what a provider said to a submission, by the answer that was played
abbrev pub said_in : Answer → Result Submitted ProviderFault
said_in (Submits submitted) = Ok submitted
said_in (Refuses fault) = Err fault
said_in _ = Err faults.NoMemory

-- what it said to a look at an item
abbrev pub seen_in : Answer → Result Bytes ProviderFault
seen_in (Shown bytes) = Ok bytes
seen_in (Refuses fault) = Err fault
seen_in _ = Err faults.NoMemory

module _ (trade : Trade) (kept : List Kept) where
  abbrev pub heard_from : List Site → List Call → Result Submitted ProviderFault
  heard_from sites [] = Err faults.NoMemory
  heard_from sites (call ∷ calls) = said_in (answer_of trade sites call)

  abbrev pub item_from : List Site → List Call → Result Bytes ProviderFault
  item_from sites [] = Err faults.NoMemory
  item_from sites (call ∷ calls) = seen_in (answer_of trade sites call)

  -- what an account is shown, by the state as the connection was accepted and what was played of a look at an item
  abbrev pub looked_from : List Site → List Call → Bytes → Look → Result Bytes ProviderFault
  looked_from sites handed address looks.Book = shown_in trade (providers_of kept) sites address looks.Book
  looked_from sites handed address looks.Items = shown_in trade (providers_of kept) sites address looks.Items
  looked_from sites handed address (looks.Item place) = item_from sites handed

  -- What is answered, by the state as the connection was accepted and what was handed in. An account is shown its own
  -- (`shown_in` of pec_desk).
  abbrev pub answered_by : List Site → List Call → Answering → Reply
  answered_by sites handed Lacks = memory_reply
  answered_by sites handed (Stops stop) = stop_reply stop
  answered_by sites handed (Sees address looked) =
      shown_reply (kind_of looked) (looked_from sites handed address looked)
  answered_by sites handed (HandsIn number address path message) =
      submitted_reply (first_domain (providers_of kept) number) (heard_from sites handed)

  -- What was written to a connection: the answer, a front of it after a fault of writing, or nothing. A fault is told only
  -- of a connection whose count of faults rose.
  abbrev pub IsReplied : List Site → List Call → Hearing → ToldReply → Type 0
  IsReplied sites handed Unheard reply = (reply.text ≡ []) × (reply.raised ≡ true)
  IsReplied sites handed (Heard answering) reply = reply.text ≡ reply_text (answered_by sites handed answering)
  IsReplied sites handed (Broken answering) reply =
      ((rest : Bytes) × (reply_text (answered_by sites handed answering) ≡ reply.text ++ rest)) × (reply.raised ≡ true)

  -- the word behind `http` in the line of a connection
  abbrev pub outcome_word : List Site → List Call → Hearing → Bytes
  outcome_word sites handed Unheard = codes "read-fault"
  outcome_word sites handed (Heard answering) = decimal (number_of (answered_by sites handed answering).status)
  outcome_word sites handed (Broken answering) = codes "write-fault"

  abbrev pub outcome_line : List Site → List Call → Hearing → Bytes
  outcome_line sites handed hearing = text_of ((codes "http" ∷ outcome_word sites handed hearing ∷ []) ∷ [])

  -- The lines of a connection: one of what became of it, and those of its clock calls and of its round.
  abbrev pub connection_text : State → Connection → Bytes
  connection_text here connection =
      outcome_line here.sites connection.handed connection.hearing
      ++ calls_text trade (providers_of kept) (state_behind here connection.handed) connection.clock

module _ (trade : Trade) (tells : Type 0) (kept : List Kept) where
  -- It was served from this place on. Where all wasn't played, these commands were left.
  pub record IsConnection (here : Place) (connection : Connection) : Type 0 where
    pub moment : Gives here.moments connection.moment connection.behind.moments
    pub in_time : connection.moment < END_OF_TIME
    pub left : Option Bytes  -- what it had to be read, where that is told
    pub request : here.requests ≡ in_front left connection.behind.requests
    pub is_input : IsInput left connection.input
    pub heard : IsHeardSo kept connection.input connection.hearing
    pub replied : IsReplied trade kept here.network.sites connection.handed connection.hearing connection.reply
    pub replies : IfSome here.replies (λ replies. connection.behind.replies ≡ Some (replies ++ connection.reply ∷ []))
    pub hands : commands_of connection.handed ≡ handed_in connection.moment connection.hearing
    pub unplayed : List Command
    pub plays : commands_of connection.clock ++ unplayed ≡ clock_from (length kept) 0 connection.moment
    pub calls : AreCalls trade tells here.network (calls_of connection)
    pub state : connection.behind.network.sites ≡ (state_behind here.network (calls_of connection)).sites
    pub later : (provider : ℕ) → (state_behind here.network (calls_of connection)).counts provider
        ≤ connection.behind.network.counts provider
