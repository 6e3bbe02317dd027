-- What accounts are shown over HTTP belongs to the ledger: `ShowsBook` of a look at the book, `ShowsItems` of a look at the
-- list of items; and so it is of each connection of a run that serves: `ShowsTheBook`, `ShowsTheItems`. This project's
-- profile.
use Rattle.std.specs.Prelude.{◌≡◌, ℕ, List, IsTrue, Some}
use Rattle.pec_types.specs.Bytes.{Bytes}
use Rattle.pec_types.specs.declared.mailboxes.ItemLine.{ItemLine}
use Rattle.pec_types.specs.declared.messages.BookLine.{BookLine}
use Rattle.pec_directory.specs.Directory.{Kept, Provider, providers_of}
use Rattle.pec_ledger.specs.Books.{mailbox_lines}
use Rattle.pec_ledger.specs.Ledger.{ledger}
use Rattle.pec_ledger.specs.Network.{Site, journals_of}
use Rattle.pec_ledger.specs.Trade.{Trade}
use Rattle.pec_plays.specs.Scripts.{script}
use Rattle.pec_http.specs.Replies.{Reply, reply_text}
use Rattle.pec_http.specs.declared.demands.Look.{Look}
use Rattle.pec_http.specs.declared.demands.Look.TheVariants as looks
use Rattle.pec_runs.specs.Headline.{IsBook}
use Rattle.pec_script.specs.Texts.{book_text, items_text}
use Rattle.pec_service.specs.Calls.{commands_of, lucks_of}
use Rattle.pec_service.specs.Connections.{Connection, Sees, answered_by}
use Rattle.pec_service.specs.Services.{calls_in}

-- These are the lines of the account's mailbox in the ledger, at its provider.
pub record IsMailbox (trade : Trade) (sites : List Site) (address : Bytes) (lines : List ItemLine) : Type 0 where
  pub provider : ℕ
  pub home : trade.home address ≡ Some provider
  pub account : IsTrue (trade.is_account provider address)
  pub are : lines ≡ mailbox_lines (ledger trade (journals_of sites) provider) address

-- The reply has the text of the account's book of the ledger.
pub record ShowsBook (trade : Trade) (providers : List Provider) (sites : List Site) (address : Bytes) (reply : Reply)
    : Type 0 where
  pub lines : List BookLine
  pub is_book : IsBook trade sites address lines
  pub text : reply.body ≡ book_text providers lines

-- It has the text of the lines of its mailbox.
pub record ShowsItems (trade : Trade) (providers : List Provider) (sites : List Site) (address : Bytes) (reply : Reply)
    : Type 0 where
  pub lines : List ItemLine
  pub is_mailbox : IsMailbox trade sites address lines
  pub text : reply.body ≡ items_text providers lines

-- ---- a run that serves

-- The state at the connection behind these, in which a service's accounts are shown what is theirs: that of all that was
-- played of these.
abbrev pub state_behind_all : Trade → List Site → List Connection → List Site
state_behind_all trade start front = (script trade (lucks_of (calls_in front)) start (commands_of (calls_in front))).after

module _ (trade : Trade) (kept : List Kept) (start : List Site) (front : List Connection) (connection : Connection)
    (address : Bytes) where
  -- what it is answered that looks at what is its own
  abbrev pub shown_at : Look → Reply
  shown_at looked = answered_by trade kept (state_behind_all trade start front) connection.handed (Sees address looked)

  -- A look at the book was answered 200 with the text of the account's book at that connection, and that was written.
  pub record ShowsTheBook : Type 0 where
    pub shows : ShowsBook trade (providers_of kept) (state_behind_all trade start front) address (shown_at looks.Book)
    pub written : connection.reply.text ≡ reply_text (shown_at looks.Book)

  -- So was a look at the list of items.
  pub record ShowsTheItems : Type 0 where
    pub shows : ShowsItems trade (providers_of kept) (state_behind_all trade start front) address (shown_at looks.Items)
    pub written : connection.reply.text ≡ reply_text (shown_at looks.Items)
