-- What a request comes to at a desk: `IsAnswer`, the answer of HTTP over a desk's answers; and `Serves`, what a call of
-- `serve_one` did. This project's profile.
use Rattle.std.specs.Prelude.{◌≡◌, ◌≢◌, ◌⊎◌, ℕ, Option, Result, Ok, Err}
use Rattle.pec_outside.specs.Flow.{HasRisen, WrotePart, followed_by}
use Rattle.pec_types.specs.Bytes.{Bytes, Path}
use Rattle.pec_types.specs.declared.turns.ProviderFault.{ProviderFault}
use Rattle.pec_types.specs.declared.turns.ProviderFault.TheVariants as faults
use Rattle.pec_types.specs.declared.turns.Submitted.{Submitted}
use Rattle.pec_http.specs.Asking.{Asks, Question, Submit, See}
use Rattle.pec_http.specs.Desks.{Answers}
use Rattle.pec_http.specs.Input.{IsInput}
use Rattle.pec_http.specs.Replies.{Reply, memory_reply, reply_text, shown_reply, stop_reply, submitted_reply}
use Rattle.pec_http.specs.Statuses.{number_of}
use Rattle.pec_http.specs.declared.demands.Look.{Look}
use Rattle.pec_http.specs.declared.demands.Look.TheVariants as looks
use Rattle.pec_http.specs.declared.passes.Pass.{Pass}
use Rattle.pec_http.specs.declared.serving.Served.{Served}
use Rattle.pec_http.specs.declared.serving.Served.TheVariants.{Answered, ReadFault, WriteFault}
use Rattle.pec_http.specs.declared.statuses.Kind.{Kind}
use Rattle.pec_http.specs.declared.statuses.Kind.TheVariants.{Plain, Message}
use Rattle.pec_http.specs.declared.statuses.Status.{Status}
use Rattle.pec_http.specs.declared.stops.Stop.{Stop}
use Rattle.pec_http.specs.declared.stops.Stop.TheVariants as stops

-- ---- the desk's part

-- The desk was asked once to take a submission, and this is answered. The status of a failed disk is answered only where
-- the address's count of faults has risen.
pub record Submits {Desk : Type 0} (answers : Answers Desk) (before : Desk) (address : Bytes) (path : Path) (message : Bytes) (after : Desk) (reply : Reply) : Type 0 where
  pub said : Result Submitted ProviderFault
  pub may_say : answers.submit before address path message said after
  pub cause : said ≡ Err faults.DiskFault → HasRisen (answers.faults before address) (answers.faults after address)
  pub answer : reply ≡ submitted_reply (answers.domain before address) said

-- The desk may show this to an account that looks, and be in this state then. A look at a book or at a mailbox leaves it
-- as it is.
abbrev pub MayShow : {Desk : Type 0} → Answers Desk → Desk → Bytes → Look → Result Bytes ProviderFault → Desk → Type 0
MayShow answers before address looks.Book said after = answers.book before address said × (after ≡ before)
MayShow answers before address looks.Items said after = answers.items before address said × (after ≡ before)
MayShow answers before address (looks.Item place) said after = answers.item before address place said after

abbrev pub kind_of : Look → Kind
kind_of looks.Book = Plain
kind_of looks.Items = Plain
kind_of (looks.Item place) = Message

-- The desk was asked to show something, and this is answered. The status of a failed disk is answered only where the
-- address's count of faults has risen.
pub record Shows {Desk : Type 0} (answers : Answers Desk) (before : Desk) (address : Bytes) (look : Look) (after : Desk) (reply : Reply) : Type 0 where
  pub said : Result Bytes ProviderFault
  pub may_say : MayShow answers before address look said after
  pub cause : said ≡ Err faults.DiskFault → HasRisen (answers.faults before address) (answers.faults after address)
  pub answer : reply ≡ shown_reply (kind_of look) said

-- The desk wasn't asked to do anything, and this is answered.
pub record Stays {Desk : Type 0} (before after : Desk) (reply answer : Reply) : Type 0 where
  pub same : after ≡ before
  pub is : reply ≡ answer

-- ---- the answer

-- What is asked is answered so.
abbrev pub IsAnswered : {Desk : Type 0} → Answers Desk → Desk → Result Question Stop → Desk → Reply → Type 0
IsAnswered answers before (Ok (Submit address path message)) after reply = Submits answers before address path message after reply
IsAnswered answers before (Ok (See address look)) after reply = Shows answers before address look after reply
IsAnswered answers before (Err stop) after reply = Stays before after reply (stop_reply stop)

-- The answer to these bytes at a desk in a state, and the state that it leaves the desk in.
pub record IsAnswer {Desk : Type 0} (answers : Answers Desk) (before : Desk) (input : Bytes) (after : Desk) (reply : Reply) : Type 0 where
  pub asked : Result Question Stop
  pub asks : Asks (answers.pass before) input asked
  pub answered : IsAnswered answers before asked after reply

-- An account looked at an item by these bytes, which the desk showed, and it did no more.
pub record HasRead {Desk : Type 0} (answers : Answers Desk) (before : Desk) (input : Bytes) (after : Desk) : Type 0 where
  pub address : Bytes
  pub place : ℕ
  pub asks : Asks (answers.pass before) input (Ok (See address (looks.Item place)))
  pub bytes : Bytes
  pub shown : answers.item before address place (Ok bytes) after

-- Where memory ran out: the desk wasn't asked to do anything, or it showed the item that was asked for, for which there was
-- no room in an answer.
abbrev pub HasRested : {Desk : Type 0} → Answers Desk → Desk → Bytes → Desk → Type 0
HasRested answers before input after = (after ≡ before) ⊎ HasRead answers before input after

-- So it is, by how the account looked.
abbrev pub RestsBehind : {Desk : Type 0} → Answers Desk → Desk → Bytes → Look → Desk → Type 0
RestsBehind answers before address looks.Book after = after ≡ before
RestsBehind answers before address looks.Items after = after ≡ before
RestsBehind answers before address (looks.Item place) after =
    (after ≡ before) ⊎ ((bytes : Bytes) × answers.item before address place (Ok bytes) after)

-- So it is over a connection that had this to come.
abbrev pub HasRestedOver : {Desk : Type 0} → Answers Desk → Option Bytes → Desk → Desk → Type 0
HasRestedOver answers left before after = (input : Bytes) × IsInput left input × HasRested answers before input after

-- The same as `IsAnswer`, where memory may have run out before anything was handed in, refused or answered.
abbrev pub IsAnswerOrLack : {Desk : Type 0} → Answers Desk → Desk → Bytes → Desk → Reply → Type 0
IsAnswerOrLack answers before input after reply =
    IsAnswer answers before input after reply ⊎ ((reply ≡ memory_reply) × HasRested answers before input after)

-- Over a connection with this to come a request isn't put to the desk, for this reason. Want of memory and a fault of the
-- connection say nothing of it.
abbrev pub StopsFor : (Bytes → Bytes → Pass) → Option Bytes → Stop → Type 0
StopsFor pass left stop = stop ≢ stops.NoMemory → stop ≢ stops.ReadFault → (input : Bytes) × IsInput left input × Asks pass input (Err stop)

-- ---- a call

-- An answer of this status and these bytes was written to the end, or a front of it.
abbrev pub Sends : Option Bytes → Option Bytes → Served → Status → Bytes → Type 0
Sends held held_then (Answered code) status text = (code ≡ number_of status) × (held_then ≡ followed_by held text)
Sends held held_then WriteFault status text = WrotePart held held_then text
Sends held held_then ReadFault status text = ⊥

-- A connection that had this to come and held that was answered: behind what it held stands the answer to its bytes, or a
-- front of it.
pub record Replies {Desk : Type 0} (answers : Answers Desk) (left held : Option Bytes) (before after : Desk) (held_then : Option Bytes) (served : Served) : Type 0 where
  pub input : Bytes
  pub is_input : IsInput left input
  pub reply : Reply
  pub is_answer : IsAnswerOrLack answers before input after reply
  pub sends : Sends held held_then served reply.status (reply_text reply)

-- Nothing was asked of the desk, and nothing was written.
pub record RestsUnread {Desk : Type 0} (before after : Desk) (held held_then : Option Bytes) : Type 0 where
  pub same : after ≡ before
  pub unwritten : held_then ≡ held

-- What a call did to a desk and to a connection that had this to come and held that.
abbrev pub Serves : {Desk : Type 0} → Answers Desk → Option Bytes → Option Bytes → Desk → Desk → Option Bytes → Served → Type 0
Serves answers left held before after held_then ReadFault = RestsUnread before after held held_then
Serves answers left held before after held_then (Answered code) = Replies answers left held before after held_then (Answered code)
Serves answers left held before after held_then WriteFault = Replies answers left held before after held_then WriteFault
