-- What an account is answered is its own: `reply_to` is the answer of HTTP as a function of the question, the moment, the
-- directory, and the account's share of the desk (`Share`): its own book and items, what its provider comes to, and what
-- that provider's screens look for. This project's profile.
use Rattle.std.specs.Prelude.{◌≡◌, ◌⊎◌, ℕ, ◌+◌, nat_lt, Bool, true, List, length, map, Option, None, Some, Result, Ok, Err, slice_get, if◌then◌else◌}
use Rattle.std.specs.Option.{option_and_then, option_map}
use Rattle.pec_types.specs.Bytes.{Bytes, Path}
use Rattle.pec_types.specs.declared.mailboxes.ItemLine.{ItemLine}
use Rattle.pec_types.specs.declared.messages.BookLine.{BookLine}
use Rattle.pec_types.specs.declared.messages.Cause.{Cause}
use Rattle.pec_types.specs.declared.messages.TheConstants.{MESSAGES}
use Rattle.pec_types.specs.declared.turns.ProviderFault.{ProviderFault}
use Rattle.pec_types.specs.declared.turns.ProviderFault.TheVariants as faults
use Rattle.pec_types.specs.declared.turns.Submitted.{Submitted}
use Rattle.pec_directory.specs.Directory.{Provider, account_home, first_domain}
use Rattle.pec_records.specs.declared.entries.Entry.{Entry}
use Rattle.pec_screen.specs.VerdictReading.{finds}
use Rattle.pec_screen.specs.Verdicts.{Patterns}
use Rattle.pec_ledger.specs.Books.{book, mailbox_lines}
use Rattle.pec_ledger.specs.Items.{item_text}
use Rattle.pec_ledger.specs.Lookups.{mailbox}
use Rattle.pec_ledger.specs.Half.{Half, Posted}
use Rattle.pec_ledger.specs.Network.{Site, journal_at, site_at}
use Rattle.pec_ledger.specs.Pairs.{id_of}
use Rattle.pec_ledger.specs.Steps.{half, size_of}
use Rattle.pec_ledger.specs.Trade.{Trade}
use Rattle.pec_plays.specs.Commands.{entry_by, screened_cause, told_by}
use Rattle.pec_plays.specs.Steps.{longest_journal}
use Rattle.pec_runs.specs.OfTrades.{cause_at}
use Rattle.pec_runs.specs.Plays.{is_change}
use Rattle.pec_http.specs.Asking.{Question, Submit, See}
use Rattle.pec_http.specs.Replies.{Reply, fault_reply, memory_reply, shown_reply, stop_reply, submitted_reply}
use Rattle.pec_http.specs.Serving.{kind_of}
use Rattle.pec_http.specs.declared.demands.Look.{Look}
use Rattle.pec_http.specs.declared.demands.Look.TheVariants as looks
use Rattle.pec_http.specs.declared.stops.Stop.{Stop}
use Rattle.pec_script.specs.Texts.{book_text, items_text}

-- ---- an account's share of the desk

-- Its own: its book, the lines of its mailbox, and the bytes of each item.
pub record Own : Type 0 where
  pub rows : List BookLine
  pub lines : List ItemLine
  pub texts : List (Option Bytes)

-- What its provider comes to: whether it is up, the greatest moment in its journal, how many messages it numbered, and
-- where its journal ends.
pub record Figures : Type 0 where
  pub up : Bool
  pub last : ℕ
  pub messages : ℕ
  pub end : ℕ

abbrev pub own_of : Trade → ℕ → List Entry → Half → Bytes → Own
own_of trade number journal half address = record {
  rows = book trade number half address;
  lines = mailbox_lines half address;
  texts = map (λ (posted : Posted). item_text trade number journal posted) (mailbox half address);
}

abbrev pub figures_of : Bool → Half → Figures
figures_of up half = record { up = up; last = half.last; messages = length half.messages; end = half.end }

pub record Share : Type 0 where
  pub number : ℕ  -- of its provider
  pub own : Own
  pub figures : Figures
  pub patterns : List Patterns  -- of its provider's boxes

abbrev pub share_at : Trade → List Site → Bytes → ℕ → Share
share_at trade state address number = record {
  number = number;
  own = own_of trade number (journal_at state number) (half trade number (journal_at state number)) address;
  figures = figures_of (site_at state number).up (half trade number (journal_at state number));
  patterns = (site_at state number).screens;
}

-- The share of an address, which has one where it is an account.
abbrev pub share_in : Trade → List Provider → List Site → Bytes → Option Share
share_in trade providers state address =
    option_map (share_at trade state address) (account_home providers address)

-- ---- what is answered to it

-- what speaks against a message, where screens look for these
abbrev pub cause_seen : List Provider → ℕ → List Patterns → Bytes → Path → Bytes → Option Cause
cause_seen providers number patterns address path message =
    screened_cause (finds patterns message) (cause_at providers number address path message)

abbrev pub entry_for : List Provider → ℕ → List Patterns → ℕ → Bytes → Path → Bytes → Entry
entry_for providers number patterns moment address path message =
    entry_by (cause_seen providers number patterns address path message) moment address path message

-- what the provider says to a submission for which its journal has room
abbrev pub numbered : List Provider → ℕ → List Patterns → ℕ → Bytes → Path → Bytes → Submitted
numbered providers number patterns messages address path message =
    told_by (cause_seen providers number patterns address path message) (id_of number messages)

-- What a provider says to a submission, by its figures and what its screens look for: the first refusal that applies, or
-- that it is accepted or isn't.
abbrev pub said_by : List Provider → ℕ → ℕ → Figures → List Patterns → Bytes → Path → Bytes → Result Submitted ProviderFault
said_by providers moment number figures patterns address path message =
    if figures.up
    then (if nat_lt moment figures.last then Err (faults.ClockBack figures.last)
    else (if nat_lt figures.messages MESSAGES
    then (if nat_lt longest_journal (figures.end + size_of (entry_for providers number patterns moment address path message))
    then Err faults.JournalFull
    else Ok (numbered providers number patterns figures.messages address path message))
    else Err faults.Full))
    else Err faults.Down

abbrev pub text_or_none : Option Bytes → Result Bytes ProviderFault
text_or_none None = Err faults.NoItem
text_or_none (Some bytes) = Ok bytes

abbrev pub look_at : List Provider → Own → Look → Result Bytes ProviderFault
look_at providers own looks.Book = Ok (book_text providers own.rows)
look_at providers own looks.Items = Ok (items_text providers own.lines)
look_at providers own (looks.Item place) = text_or_none (option_and_then (λ (text : Option Bytes). text) (slice_get own.texts place))

-- What an account is shown of its own, while its provider is up.
abbrev pub shown_to : List Provider → Share → Look → Result Bytes ProviderFault
shown_to providers share looked =
    if share.figures.up then look_at providers share.own looked else Err faults.Down

-- Whoever has no share is no account.
abbrev pub shown_with : List Provider → Option Share → Look → Result Bytes ProviderFault
shown_with providers None looked = Err faults.NoAccount
shown_with providers (Some share) looked = shown_to providers share looked

-- What an address is shown in a state.
abbrev pub shown_in : Trade → List Provider → List Site → Bytes → Look → Result Bytes ProviderFault
shown_in trade providers state address looked = shown_with providers (share_in trade providers state address) looked

abbrev pub submission_reply : List Provider → ℕ → Option Share → Bytes → Path → Bytes → Reply
submission_reply providers moment None address path message = fault_reply faults.NoAccount
submission_reply providers moment (Some share) address path message =
    submitted_reply (first_domain providers share.number)
    (said_by providers moment share.number share.figures share.patterns address path message)

-- who asks, where a question is put to the desk
abbrev pub asker : Result Question Stop → Option Bytes
asker (Ok (Submit address path message)) = Some address
asker (Ok (See address looked)) = Some address
asker (Err stop) = None

abbrev pub reply_with : List Provider → ℕ → Option Share → Question → Reply
reply_with providers moment share (Submit address path message) = submission_reply providers moment share address path message
reply_with providers moment share (See address looked) = shown_reply (kind_of looked) (shown_with providers share looked)

-- The answer to what is asked, by the share of who asks.
abbrev pub reply_to : List Provider → ℕ → Option Share → Result Question Stop → Reply
reply_to providers moment share (Err stop) = stop_reply stop
reply_to providers moment share (Ok question) = reply_with providers moment share question

-- ---- what may stand in its place

-- Memory ran out, or the disk of the account's provider failed.
abbrev pub IsFaultReply : Reply → Type 0
IsFaultReply reply = (reply ≡ memory_reply) ⊎ (reply ≡ fault_reply faults.DiskFault)

-- An entry is told as changed.
abbrev pub IsChangedReply : Reply → Type 0
IsChangedReply reply = (fault : ProviderFault) × (is_change (Some fault) ≡ true) × (reply ≡ fault_reply fault)

-- what may stand in place of what is shown: a look at an item reads the disk
abbrev pub IsFaultOfLook : Look → Reply → Type 0
IsFaultOfLook looks.Book reply = reply ≡ memory_reply
IsFaultOfLook looks.Items reply = reply ≡ memory_reply
IsFaultOfLook (looks.Item place) reply = IsFaultReply reply ⊎ IsChangedReply reply

-- Only a submission and a look at an item ask the disk, only what is read may have changed, and only what is put to the
-- desk takes memory there.
abbrev pub IsFaultOf : Result Question Stop → Reply → Type 0
IsFaultOf (Ok (Submit address path message)) reply = IsFaultReply reply
IsFaultOf (Ok (See address looked)) reply = IsFaultOfLook looked reply
IsFaultOf (Err stop) reply = ⊥
