-- Lines of output. Each is words that stand apart by one space, ended by a line feed: `text_of` is the text of lines, from the words
-- of each. Below it stand the words of every line, by what is answered. This project's profile.
use Rattle.std.specs.Prelude.{ℕ, ◌+◌, ◌==◌, List, [], ◌∷◌, ◌++◌, length, map, codes, slice_get, Option, Some, None, if◌then◌else◌}
use Rattle.std.specs.Fmt.{decimal}
use Rattle.std.specs.List.{flat_map, join_with_byte}
use Rattle.base64.specs.Engines.{standard}
use Rattle.base64.specs.GeneralPurpose.{encode_of}
use Rattle.hex.specs.Hex.{encode_lower}
use Rattle.pec_directory.specs.Directory.{Provider, first_domain}
use Rattle.pec_types.specs.Bytes.{Bytes, line_feed, space}
use Rattle.pec_types.specs.Message.{Id}
use Rattle.pec_types.specs.Words.{cause_word, class_word, decision_word, id_text}
use Rattle.pec_types.specs.declared.letters.Letter.{Letter}
use Rattle.pec_types.specs.declared.letters.Letter.TheVariants as letters
use Rattle.pec_types.specs.declared.limits.Due.{Due}
use Rattle.pec_types.specs.declared.limits.Due.TheVariants as dues
use Rattle.pec_types.specs.declared.mailboxes.ItemKind.{ItemKind}
use Rattle.pec_types.specs.declared.mailboxes.ItemKind.TheVariants as items
use Rattle.pec_types.specs.declared.mailboxes.ItemLine.{ItemLine}
use Rattle.pec_types.specs.declared.mailboxes.Mark.{Mark}
use Rattle.pec_types.specs.declared.messages.BookLine.{BookLine}
use Rattle.pec_types.specs.declared.messages.Decision.{Decision}
use Rattle.pec_types.specs.declared.receipts.Kind.{Kind}
use Rattle.pec_types.specs.declared.receipts.Kind.TheVariants as kinds
use Rattle.pec_types.specs.declared.turns.Event.{Event}
use Rattle.pec_types.specs.declared.turns.Event.TheVariants as events
use Rattle.pec_types.specs.declared.turns.ProviderFault.{ProviderFault}
use Rattle.pec_types.specs.declared.turns.ProviderFault.TheVariants as refusals
use Rattle.pec_types.specs.declared.turns.Submitted.{Submitted}
use Rattle.pec_types.specs.declared.turns.Submitted.TheVariants as submitted
use Rattle.pec_types.specs.declared.turns.Turn.{Turn}
use Rattle.pec_script.specs.declared.answers.Answer.{Answer}
use Rattle.pec_script.specs.declared.answers.Answer.TheVariants as answers
use Rattle.pec_script.specs.declared.answers.Unfit.{Unfit}
use Rattle.pec_script.specs.declared.answers.Unfit.TheVariants as unfits
use Rattle.pec_script.specs.declared.faults.LineFault.{LineFault}
use Rattle.pec_script.specs.declared.faults.LineFault.TheVariants as faults

-- the words of a line
abbrev pub Row : Type 0
Row = List Bytes

-- a line of these words
unfoldable pub line_of : Row → Bytes
line_of words = join_with_byte space words ++ line_feed ∷ []

-- The text of lines.
abbrev pub text_of : List Row → Bytes
text_of rows = flat_map line_of rows

-- ---- words that several lines have

-- the name of a provider that may not be there
abbrev pub name_in : Option Provider → Bytes
name_in None = []
name_in (Some provider) = provider.name

-- the name of the provider of a number
unfoldable pub name_of : List Provider → ℕ → Bytes
name_of providers number = name_in (slice_get providers number)

-- a message by its name, with the first domain of its own provider
unfoldable pub id_of : List Provider → Id → Bytes
id_of providers id = id_text (first_domain providers id.provider) id.number

-- what isn't there is a hyphen
abbrev pub moment_word : Option ℕ → Bytes
moment_word None = codes "-"
moment_word (Some moment) = decimal moment

abbrev pub id_word : List Provider → Option Id → Bytes
id_word providers None = codes "-"
id_word providers (Some id) = id_of providers id

abbrev pub recipient_word : Option Bytes → Bytes
recipient_word None = codes "-"
recipient_word (Some address) = address

-- ---- books: `ID RECIPIENT CLASS ACCEPTED CHARGED WARNED NOTICED OUTCOME`, and `book COUNT`

abbrev pub outcome_words : Option (Decision × ℕ) → Row
outcome_words None = codes "open" ∷ []
outcome_words (Some outcome) = decision_word outcome.0 ∷ decimal outcome.1 ∷ []

unfoldable pub book_row : List Provider → BookLine → Row
book_row providers line =
    id_of providers line.id ∷ line.recipient ∷ class_word line.class ∷ decimal line.accepted ∷ moment_word line.charged ∷ moment_word line.warned ∷ moment_word line.noticed
    ∷ outcome_words line.outcome

unfoldable pub book_text : List Provider → List BookLine → Bytes
book_text providers lines = text_of (map (book_row providers) lines ++ (codes "book" ∷ decimal (length lines) ∷ []) ∷ [])

-- ---- mailboxes: `PLACE KIND ID RECIPIENT`, and `mailbox COUNT`

abbrev pub receipt_word : Kind → Bytes
receipt_word kinds.Acceptance = codes "acceptance"
receipt_word (kinds.NonAcceptance cause) = codes "non-acceptance"
receipt_word kinds.Charge = codes "charge"
receipt_word kinds.Delivery = codes "delivery"
receipt_word (kinds.DeliveryError refusal) = codes "delivery-error"
receipt_word kinds.VirusFound = codes "virus-found"
receipt_word kinds.Warning = codes "warning"
receipt_word kinds.Notice = codes "notice"
receipt_word kinds.LateNotice = codes "late-notice"
receipt_word kinds.Ack = codes "ack"

abbrev pub kind_word : ItemKind → Bytes
kind_word items.Envelope = codes "envelope"
kind_word items.Anomaly = codes "anomaly"
kind_word (items.Receipt kind) = receipt_word kind

unfoldable pub item_row : List Provider → ℕ → ItemLine → Row
item_row providers place line = decimal place ∷ kind_word line.kind ∷ id_word providers line.id ∷ recipient_word line.recipient ∷ []

-- the lines of items, the first of which has this place
abbrev pub item_rows : List Provider → ℕ → List ItemLine → List Row
item_rows providers place [] = []
item_rows providers place (line ∷ lines) = item_row providers place line ∷ item_rows providers (place + 1) lines

unfoldable pub items_text : List Provider → List ItemLine → Bytes
items_text providers lines = text_of (item_rows providers 0 lines ++ (codes "mailbox" ∷ decimal (length lines) ∷ []) ∷ [])

-- an archive: the lines of its items, and `vault COUNT`
unfoldable pub vault_text : List Provider → List ItemLine → Bytes
vault_text providers lines = text_of (item_rows providers 0 lines ++ (codes "vault" ∷ decimal (length lines) ∷ []) ∷ [])

-- ---- clock calls: `warned ID RECIPIENT`, `noticed ID RECIPIENT` or `noticed-late ID RECIPIENT`, and `ticked`

-- what is nothing has no line
abbrev pub mark_word : Due → Option Bytes
mark_word dues.Nothing = None
mark_word dues.Warning = Some (codes "warned")
mark_word dues.Notice = Some (codes "noticed")
mark_word dues.LateNotice = Some (codes "noticed-late")

abbrev pub marked : Option Bytes → Row → List Row
marked None words = []
marked (Some word) words = (word ∷ words) ∷ []

abbrev pub mark_rows : List Provider → Mark → List Row
mark_rows providers mark = marked (mark_word mark.due) (id_of providers mark.id ∷ mark.recipient ∷ [])

unfoldable pub marks_text : List Provider → List Mark → Bytes
marks_text providers marks = text_of (flat_map (mark_rows providers) marks ++ (codes "ticked" ∷ []) ∷ [])

-- ---- what is refused

-- the first word of a refusal; want of memory has none
abbrev pub refusal_word : ProviderFault → Option Bytes
refusal_word refusals.DiskFault = Some (codes "fault")
refusal_word refusals.Down = Some (codes "down")
refusal_word (refusals.ClockBack last) = Some (codes "clock-back")
refusal_word refusals.NoAccount = Some (codes "no-account")
refusal_word refusals.Full = Some (codes "full")
refusal_word refusals.NoItem = Some (codes "no-item")
refusal_word refusals.JournalFull = Some (codes "journal-full")
refusal_word refusals.OldJournal = Some (codes "old-journal")
refusal_word refusals.NoNeed = Some (codes "no-need")
refusal_word refusals.NoMemory = None
refusal_word (refusals.Changed entry) = Some (codes "changed")

-- what stands behind it
abbrev pub refusal_rest : ProviderFault → Row
refusal_rest refusals.DiskFault = codes "disk" ∷ []
refusal_rest refusals.Down = []
refusal_rest (refusals.ClockBack last) = decimal last ∷ []
refusal_rest refusals.NoAccount = []
refusal_rest refusals.Full = []
refusal_rest refusals.NoItem = []
refusal_rest refusals.JournalFull = []
refusal_rest refusals.OldJournal = []
refusal_rest refusals.NoNeed = []
refusal_rest refusals.NoMemory = []
refusal_rest (refusals.Changed entry) = decimal entry ∷ []

-- a line of these words behind others, where there is a first one
abbrev pub line_behind : Row → Option Bytes → Row → List Row
line_behind front None rest = []
line_behind front (Some word) rest = (front ++ word ∷ rest) ∷ []

abbrev pub refusal_rows : Row → ProviderFault → List Row
refusal_rows front fault = line_behind front (refusal_word fault) (refusal_rest fault)

unfoldable pub fault_text : ProviderFault → Bytes
fault_text fault = text_of (refusal_rows [] fault)

-- ---- submissions: `accepted ID`, or `not-accepted ID CAUSE`

abbrev pub submitted_words : List Provider → Submitted → Row
submitted_words providers (submitted.Accepted id) = codes "accepted" ∷ id_of providers id ∷ []
submitted_words providers (submitted.NotAccepted id cause) = codes "not-accepted" ∷ id_of providers id ∷ cause_word cause ∷ []

unfoldable pub submitted_text : List Provider → Submitted → Bytes
submitted_text providers told = text_of (submitted_words providers told ∷ [])

-- ---- turns

-- the letter that had arrived before
abbrev pub letter_words : List Provider → Letter → Row
letter_words providers (letters.Envelope id to) = codes "envelope" ∷ id_of providers id ∷ []
letter_words providers (letters.Charge id by) = codes "charge" ∷ id_of providers id ∷ []
letter_words providers (letters.Outcome id recipient) = codes "outcome" ∷ id_of providers id ∷ recipient ∷ []
letter_words providers (letters.Ack id recipient) = codes "ack" ∷ id_of providers id ∷ recipient ∷ []

-- `took ID`, `charged ID BY`, `learned ID RECIPIENT DECISION`, `acked ID RECIPIENT`, `repeat` and the letter, `anomaly ACCOUNTS`,
-- `dropped`, or `decided ID RECIPIENT DECISION`
abbrev pub event_words : List Provider → Event → Row
event_words providers (events.Took id) = codes "took" ∷ id_of providers id ∷ []
event_words providers (events.Charged id by) = codes "charged" ∷ id_of providers id ∷ name_of providers by ∷ []
event_words providers (events.Learned id recipient decision) = codes "learned" ∷ id_of providers id ∷ recipient ∷ decision_word decision ∷ []
event_words providers (events.Acked id recipient) = codes "acked" ∷ id_of providers id ∷ recipient ∷ []
event_words providers (events.Repeat letter) = codes "repeat" ∷ letter_words providers letter
event_words providers (events.Anomaly accounts) = codes "anomaly" ∷ decimal accounts ∷ []
event_words providers events.Dropped = codes "dropped" ∷ []
event_words providers (events.Decided id recipient decision) = codes "decided" ∷ id_of providers id ∷ recipient ∷ decision_word decision ∷ []

-- an event's line, behind the provider's name
abbrev pub event_row : List Provider → Bytes → Event → Row
event_row providers name event = name ∷ event_words providers event

-- a peer to which no letter was put has no line
abbrev pub sent_rows : List Provider → Bytes → ℕ × ℕ → List Row
sent_rows providers name sent = if sent.1 == 0 then [] else (name ∷ codes "sent" ∷ name_of providers sent.0 ∷ decimal sent.1 ∷ []) ∷ []

abbrev pub ended_rows : Bytes → Option ProviderFault → List Row
ended_rows name None = []
ended_rows name (Some fault) = refusal_rows (name ∷ []) fault

-- the lines of a turn, each behind the provider's name: its events, the peers to which letters were put, and why it ended early
unfoldable pub turn_rows : List Provider → Turn → List Row
turn_rows providers turn =
    map (event_row providers (name_of providers turn.provider)) turn.events
    ++ flat_map (sent_rows providers (name_of providers turn.provider)) turn.sent
    ++ ended_rows (name_of providers turn.provider) turn.ended

unfoldable pub turns_text : List Provider → List Turn → Bytes
turns_text providers turns = text_of (flat_map (turn_rows providers) turns ++ (codes "round" ∷ []) ∷ [])

-- ---- other answers, one line each

-- `journal AT`, `directory KEPT GIVEN` or `entry N`
abbrev pub unfit_words : Unfit → Row
unfit_words (unfits.Journal at) = codes "journal" ∷ decimal at ∷ []
unfit_words (unfits.Directory kept given) = codes "directory" ∷ encode_lower kept ∷ encode_lower given ∷ []
unfit_words (unfits.Entry number) = codes "entry" ∷ decimal number ∷ []

-- the first word
abbrev pub answer_word : Answer → Bytes
answer_word answers.Lost = codes "lost"
answer_word answers.Repeated = codes "repeated"
answer_word answers.Swapped = codes "swapped"
answer_word answers.Injected = codes "injected"
answer_word answers.Crashed = codes "crashed"
answer_word answers.Archived = codes "archived"
answer_word answers.Upgraded = codes "upgraded"
answer_word answers.Screened = codes "screened"
answer_word answers.NoSpare = codes "no-spare"
answer_word answers.NoScreen = codes "no-screen"
answer_word (answers.Restarted entries) = codes "restarted"
answer_word answers.NoFrame = codes "no-frame"
answer_word answers.LinkFull = codes "link-full"
answer_word answers.Up = codes "up"
answer_word (answers.BadJournal unfit) = codes "bad-journal"

-- what stands behind it
abbrev pub answer_rest : Answer → Row
answer_rest answers.Lost = []
answer_rest answers.Repeated = []
answer_rest answers.Swapped = []
answer_rest answers.Injected = []
answer_rest answers.Crashed = []
answer_rest answers.Archived = []
answer_rest answers.Upgraded = []
answer_rest answers.Screened = []
answer_rest answers.NoSpare = []
answer_rest answers.NoScreen = []
answer_rest (answers.Restarted entries) = decimal entries ∷ []
answer_rest answers.NoFrame = []
answer_rest answers.LinkFull = []
answer_rest answers.Up = []
answer_rest (answers.BadJournal unfit) = unfit_words unfit

abbrev pub answer_words : Answer → Row
answer_words answer = answer_word answer ∷ answer_rest answer

unfoldable pub answer_text : Answer → Bytes
answer_text answer = text_of (answer_words answer ∷ [])

-- an item's bytes, in base64 on one line
unfoldable pub item_text : Bytes → Bytes
item_text bytes = text_of ((encode_of standard bytes ∷ []) ∷ [])

-- ---- refused lines: `refused line L FAULT`

-- the word of a line's fault; want of memory has none
abbrev pub line_fault_word : LineFault → Option Bytes
line_fault_word faults.UnknownWord = Some (codes "unknown-word")
line_fault_word faults.Arity = Some (codes "arity")
line_fault_word (faults.BadNumber number) = Some (codes "bad-number")
line_fault_word (faults.BadAddress number) = Some (codes "bad-address")
line_fault_word (faults.BadBase64 number) = Some (codes "bad-base64")
line_fault_word (faults.UnknownProvider number) = Some (codes "unknown-provider")
line_fault_word faults.NoMemory = None

-- the number of the argument that is wrong
abbrev pub line_fault_rest : LineFault → Row
line_fault_rest faults.UnknownWord = []
line_fault_rest faults.Arity = []
line_fault_rest (faults.BadNumber number) = decimal number ∷ []
line_fault_rest (faults.BadAddress number) = decimal number ∷ []
line_fault_rest (faults.BadBase64 number) = decimal number ∷ []
line_fault_rest (faults.UnknownProvider number) = decimal number ∷ []
line_fault_rest faults.NoMemory = []

abbrev pub refused_rows : ℕ → LineFault → List Row
refused_rows line fault = line_behind (codes "refused" ∷ codes "line" ∷ decimal line ∷ []) (line_fault_word fault) (line_fault_rest fault)

unfoldable pub refused_text : ℕ → LineFault → Bytes
refused_text line fault = text_of (refused_rows line fault)
