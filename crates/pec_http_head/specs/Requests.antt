-- What an HTTP request's bytes are: `Sees`, at the end. The head is cut from them by `Cuts`, and read by the grammar of
-- `httparse` (RFC 9112, sections 2 to 5), with room for 64 fields.
use Rattle.std.specs.Prelude.{◌≡◌, ◌≤◌, List, [], length, take, drop, map, Option, Some, None}
use Rattle.httparse.specs.Grammar.{ReadsRequest, RequestHead}
use Rattle.httparse.specs.Spans.{name_and_value}
use Rattle.pec_types.specs.Bytes.{Bytes}
use Rattle.pec_http_head.specs.Cuts.{WholeCut, Ends, TooLarge, Short, cut_of}

-- A request's head: method, target, and its fields in their order, each a name and a value without the blanks around it.
pub record Request : Type 0 where
  pub method : Bytes
  pub target : Bytes
  pub fields : List (Bytes × Bytes)

-- The parts of a head of the grammar.
abbrev pub request_of : RequestHead → Request
request_of head = record { method = head.method; target = head.target; fields = map name_and_value head.fields }

-- The text as a whole is the head of this request, which has at most 64 fields.
pub record IsRequest (text : Bytes) (request : Request) : Type 0 where
  pub head : RequestHead
  pub reads : ReadsRequest text head []
  pub room : length head.fields ≤ 64
  pub parts : request ≡ request_of head

-- The text is this request's head, or, where none was found, that of no request.
abbrev pub ReadsHead : Bytes → Option Request → Type 0
ReadsHead text None = (request : Request) → IsRequest text request → ⊥
ReadsHead text (Some request) = IsRequest text request

-- What is seen of a request: that its head is too large; that there is none, since the input ends before the head does
-- or the head isn't one; or its head, and what stands behind the head.
pub data Seen : Type 0 where
  LargeHead : Seen
  NoHead : Seen
  Head : Request → Bytes → Seen

abbrev pub seen_behind : Bytes → Option Request → Seen
seen_behind rest None = NoHead
seen_behind rest (Some request) = Head request rest

-- What is seen where the head ends so.
abbrev pub SeesCut : Bytes → WholeCut → Seen → Type 0
SeesCut input TooLarge seen = seen ≡ LargeHead
SeesCut input Short seen = seen ≡ NoHead
SeesCut input (Ends end) seen = (found : Option Request) × (ReadsHead (take end input) found) × (seen ≡ seen_behind (drop end input) found)

-- This is seen of the bytes that came.
abbrev pub Sees : Bytes → Seen → Type 0
Sees input seen = SeesCut input (cut_of input) seen
