-- The replies, row by row: `stop_reply` where the desk isn't asked, and what it answers otherwise; and `reply_text`, their
-- bytes (RFC 9112, section 4). The words are this project's.
use Rattle.std.specs.Prelude.{ℕ, [], ◌∷◌, ◌++◌, length, codes, decimal, Result, Ok, Err}
use Rattle.pec_types.specs.Bytes.{Bytes, line_feed}
use Rattle.pec_types.specs.Words.{cause_word, id_text}
use Rattle.pec_types.specs.declared.turns.ProviderFault.{ProviderFault}
use Rattle.pec_types.specs.declared.turns.ProviderFault.TheVariants as faults
use Rattle.pec_types.specs.declared.turns.Submitted.{Submitted}
use Rattle.pec_types.specs.declared.turns.Submitted.TheVariants as submissions
use Rattle.pec_http.specs.Statuses.{kind_text, number_of, phrase_of}
use Rattle.pec_http.specs.declared.statuses.Kind.{Kind}
use Rattle.pec_http.specs.declared.statuses.Kind.TheVariants.{Plain}
use Rattle.pec_http.specs.declared.statuses.Status.{Status}
use Rattle.pec_http.specs.declared.statuses.Status.TheVariants as statuses
use Rattle.pec_http.specs.declared.stops.Stop.{Stop}
use Rattle.pec_http.specs.declared.stops.Stop.TheVariants as stops

-- What is answered.
pub record Reply : Type 0 where
  pub status : Status
  pub kind : Kind
  pub body : Bytes

-- A word, as a line.
abbrev pub plain : Status → Bytes → Reply
plain status word = record { status = status; kind = Plain; body = word ++ line_feed ∷ [] }

abbrev pub memory_reply : Reply
memory_reply = plain statuses.InternalServerError (codes "no-memory")

-- Rows 1 to 11: why the desk isn't asked. After a fault of the connection nothing is answered.
abbrev pub stop_reply : Stop → Reply
stop_reply stops.LargeHead = plain statuses.RequestHeaderFieldsTooLarge (codes "head-too-large")
stop_reply stops.BadHead = plain statuses.BadRequest (codes "bad-request")
stop_reply stops.NoRoute = plain statuses.NotFound (codes "not-found")
stop_reply stops.OtherMethod = plain statuses.MethodNotAllowed (codes "method")
stop_reply stops.NoAccount = plain statuses.NotFound (codes "not-found")
stop_reply stops.NoKey = plain statuses.Unauthorized (codes "no-key")
stop_reply stops.WrongKey = plain statuses.Forbidden (codes "wrong-key")
stop_reply stops.NoLength = plain statuses.LengthRequired (codes "length")
stop_reply stops.NoPath = plain statuses.BadRequest (codes "bad-request")
stop_reply stops.TooLarge = plain statuses.PayloadTooLarge (codes "too-large")
stop_reply stops.CutBody = plain statuses.BadRequest (codes "bad-request")
stop_reply _ = memory_reply

-- Rows 12 to 16: what the desk refuses. No desk speaks of a journal's version.
abbrev pub fault_reply : ProviderFault → Reply
fault_reply faults.Down = plain statuses.ServiceUnavailable (codes "down")
fault_reply faults.NoItem = plain statuses.NotFound (codes "not-found")
fault_reply faults.NoAccount = plain statuses.NotFound (codes "not-found")
fault_reply (faults.ClockBack last) = plain statuses.Conflict (codes "clock-back " ++ decimal last)
fault_reply faults.Full = plain statuses.InsufficientStorage (codes "full")
fault_reply faults.JournalFull = plain statuses.InsufficientStorage (codes "journal-full")
fault_reply faults.OldJournal = plain statuses.Conflict (codes "old-journal")
fault_reply faults.NoNeed = plain statuses.Conflict (codes "no-need")
fault_reply faults.DiskFault = plain statuses.ServiceUnavailable (codes "fault disk")
fault_reply faults.NoMemory = memory_reply
fault_reply (faults.Changed entry) = plain statuses.ServiceUnavailable (codes "changed " ++ decimal entry)

-- What became of a submission at a provider of this first domain; row 17 where it isn't accepted.
abbrev pub submitted_reply : Bytes → Result Submitted ProviderFault → Reply
submitted_reply domain (Ok (submissions.Accepted id)) = plain statuses.Created (codes "accepted " ++ id_text domain id.number)
submitted_reply domain (Ok (submissions.NotAccepted id cause)) =
    plain statuses.UnprocessableEntity (codes "not-accepted " ++ id_text domain id.number ++ codes " " ++ cause_word cause)
submitted_reply domain (Err fault) = fault_reply fault

-- What was asked to be shown.
abbrev pub shown_reply : Kind → Result Bytes ProviderFault → Reply
shown_reply kind (Ok body) = record { status = statuses.Ok; kind = kind; body = body }
shown_reply kind (Err fault) = fault_reply fault

-- ---- the bytes

-- `HTTP/1.1 CODE PHRASE`, without its end
unfoldable pub status_line : Status → Bytes
status_line status = codes "HTTP/1.1 " ++ decimal (number_of status) ++ codes " " ++ phrase_of status

-- These bytes, the fields of an answer whose body has so many bytes, and the empty line.
unfoldable pub fields_behind : Bytes → Kind → ℕ → Bytes
fields_behind front kind bytes =
    front ++ codes "\r\ncontent-type: " ++ kind_text kind ++ codes "\r\ncontent-length: " ++ decimal bytes
    ++ codes "\r\nconnection: close\r\n\r\n"

unfoldable pub reply_text : Reply → Bytes
reply_text reply = fields_behind (status_line reply.status) reply.kind (length reply.body) ++ reply.body
