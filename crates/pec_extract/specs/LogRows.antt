-- The legal log extract of a provider (this project's profile): its rows, one for each of its entries whose moment is in
-- a range, both ends of which belong to it (`log_rows`), and what became of the pairs accepted in it (`totals_of`). All is
-- told of the provider's own journal.
use Rattle.std.specs.Prelude.{ℕ, ◌+◌, nat_lt, Bool, List, [], ◌∷◌, ◌++◌, slice_get, codes, decimal, if◌then◌else◌, Option, Some, None}
use Rattle.std.specs.Option.{option_and_then, option_map, option_to_list}
use Rattle.std.specs.List.{flat_map}
use Rattle.pec_types.specs.Bytes.{Bytes, Path}
use Rattle.pec_types.specs.Message.{Id}
use Rattle.pec_types.specs.Moments.{is_within}
use Rattle.pec_types.specs.Words.{cause_word, decision_word, id_text, wish_word}
use Rattle.pec_types.specs.declared.messages.Facts.{Facts}
use Rattle.pec_types.specs.declared.messages.TheConstants.{MESSAGES}
use Rattle.pec_directory.specs.Directory.{Provider, first_domain}
use Rattle.pec_letters.specs.Anomalies.{anomaly_name}
use Rattle.pec_records.specs.declared.entries.Entry.{Entry}
use Rattle.pec_records.specs.declared.entries.Entry.TheVariants as entries
use Rattle.pec_ledger.specs.Half.{Half}
use Rattle.pec_ledger.specs.Lookups.{addresses_of, at_home, taken_of}
use Rattle.pec_ledger.specs.Pairs.{id_of}
use Rattle.pec_ledger.specs.Steps.{half, moment_of}
use Rattle.pec_ledger.specs.Trade.{Trade}
use Rattle.pec_provider.specs.OfTrades.{refused_facts}
use Rattle.pec_provider.specs.Summing.{Summary, summary_within}
use Rattle.pec_provider.specs.Telling.{facts_taken, own_facts, recipients_taken}
use Rattle.pec_extract.specs.Records.{Record}
use Rattle.pec_extract.specs.declared.writing.Totals.{Totals}

-- ---- words

-- several recipients stand apart by one space
abbrev pub spaced : Path → Bytes
spaced [] = []
spaced (address ∷ others) = address ++ flat_map (λ (other : Bytes). codes " " ++ other) others

-- what a message's head says of its sender, its subject and its wish; nothing where no facts are had
abbrev pub sender_word : Option Facts → Bytes
sender_word None = []
sender_word (Some facts) = facts.sender

abbrev pub text_word : Option Bytes → Bytes
text_word None = []
text_word (Some text) = text

abbrev pub subject_word : Option Facts → Bytes
subject_word None = []
subject_word (Some facts) = text_word facts.subject

abbrev pub wish_in : Option Facts → Bytes
wish_in None = []
wish_in (Some facts) = wish_word facts.wish

-- the addresses of a message's recipients
abbrev pub recipients_in : Option Facts → Path
recipients_in None = []
recipients_in (Some facts) = addresses_of facts

abbrev pub name_in : Option Provider → Bytes
name_in None = []
name_in (Some provider) = provider.name

-- the name of a provider
abbrev pub name_word : List Provider → ℕ → Bytes
name_word providers number = name_in (slice_get providers number)

-- the name of a message
abbrev pub id_word : List Provider → Id → Bytes
id_word providers id = id_text (first_domain providers id.provider) id.number

-- ---- rows

-- an entry by which a message was submitted, accepted or not
abbrev pub submits : Entry → ℕ
submits (entries.Accepted moment sender message) = 1
submits (entries.NotAccepted moment sender cause path message) = 1
submits _ = 0

-- what a row says beside the provider, the number of the entry and its moment
pub record Told : Type 0 where
  pub event : Bytes
  pub id : Bytes
  pub sender : Bytes
  pub recipients : Bytes
  pub subject : Bytes
  pub detail : Bytes

-- an event that is of no message
abbrev pub bare : (event recipients detail : Bytes) → Told
bare event recipients detail =
    record { event = event; id = []; sender = []; recipients = recipients; subject = []; detail = detail }

-- an event of a message with these facts
abbrev pub about : (event id : Bytes) → Option Facts → (recipients detail : Bytes) → Told
about event id facts recipients detail = record {
  event = event;
  id = id;
  sender = sender_word facts;
  recipients = recipients;
  subject = subject_word facts;
  detail = detail;
}

-- a row: the provider's name, the number of the entry, its moment, and what is told of it
abbrev pub row_with : List Provider → ℕ → (number moment : ℕ) → Told → Record
row_with providers me number moment told =
    name_word providers me ∷ decimal number ∷ decimal moment ∷ told.event ∷ told.id ∷ told.sender ∷ told.recipients
    ∷ told.subject ∷ told.detail ∷ []

-- the next message that is submitted, of as many as a provider numbers
abbrev pub next_message : (me submitted : ℕ) → Option Id
next_message me submitted = if nat_lt submitted MESSAGES then Some (id_of me submitted) else None

-- The message of whose original, in the envelope that was taken here, the row of an entry tells the facts.
abbrev pub original_in : Entry → Option Id
original_in (entries.Took moment id message) = Some id
original_in (entries.Decided moment id recipient decision) = Some id
original_in (entries.Acked moment id recipient) = Some id
original_in _ = None

-- The facts that the row of an entry tells of its message, by the kind of the entry: where it was accepted, where
-- charge of it was taken, and where its outcome was learned, those of the accepted message; where it was taken, decided
-- and acknowledged, those of the original in the taken envelope. No other row tells any.
abbrev pub facts_by : (accepted taken : Id → Option Facts) → (me submitted : ℕ) → Entry → Option Facts
facts_by accepted taken me submitted (entries.Accepted moment sender message) =
    option_and_then accepted (next_message me submitted)
facts_by accepted taken me submitted (entries.Charged moment id by) = accepted id
facts_by accepted taken me submitted (entries.Learned moment id recipient decision decided message) = accepted id
facts_by accepted taken me submitted (entries.Took moment id message) = taken id
facts_by accepted taken me submitted (entries.Decided moment id recipient decision) = taken id
facts_by accepted taken me submitted (entries.Acked moment id recipient) = taken id
facts_by accepted taken me submitted _ = None

module _ (trade : Trade) (providers : List Provider) (me : ℕ) (half : Half) where
  -- What the row of an entry says, of its number among the entries, of how many messages were submitted before it, and
  -- of the facts of the message that it is about. The beginning of a journal has no row.
  abbrev pub told_with : (number submitted : ℕ) → Option Facts → Entry → Option Told
  told_with number submitted facts (entries.Start provider digest) = None
  told_with number submitted facts (entries.StartTwo provider digest) = None
  told_with number submitted facts (entries.Accepted moment sender message) =
      Some (about (codes "accepted") (id_word providers (id_of me submitted)) facts (spaced (recipients_in facts)) (wish_in facts))
  told_with number submitted facts (entries.NotAccepted moment sender cause path message) =
      Some (about (codes "not-accepted") (id_word providers (id_of me submitted)) (Some (refused_facts sender path message))
      (spaced (addresses_of (refused_facts sender path message))) (cause_word cause))
  told_with number submitted facts (entries.Took moment id message) =
      Some (about (codes "took") (id_word providers id) facts (spaced (recipients_taken (taken_of half id))) [])
  told_with number submitted facts (entries.Decided moment id recipient decision) =
      Some (about (codes "decided") (id_word providers id) facts recipient (decision_word decision))
  told_with number submitted facts (entries.Charged moment id by) =
      Some (about (codes "charged") (id_word providers id) facts (spaced (at_home trade by (recipients_in facts))) (name_word providers by))
  told_with number submitted facts (entries.Learned moment id recipient decision decided message) =
      Some (about (codes "learned") (id_word providers id) facts recipient (decision_word decision))
  told_with number submitted facts (entries.Acked moment id recipient) =
      Some (about (codes "acked") (id_word providers id) facts recipient [])
  told_with number submitted facts (entries.Ticked moment) = Some (bare (codes "ticked") [] [])
  told_with number submitted facts (entries.Upgraded moment) = Some (bare (codes "upgraded") [] [])
  told_with number submitted facts (entries.Anomaly moment accounts message) =
      Some (bare (codes "anomaly") (spaced accounts) (anomaly_name (first_domain providers me) number))
  told_with number submitted facts (entries.Archived moment account place) =
      Some (bare (codes "archived") account (decimal place))

module _ (trade : Trade) (providers : List Provider) (me : ℕ) (journal : List Entry) where
  -- The facts that the row of an entry tells of its message, as this journal has them: those of an accepted message by
  -- the head that was accepted, those of an original by its own head, also where the message was accepted here.
  abbrev pub facts_for : (submitted : ℕ) → Entry → Option Facts
  facts_for submitted entry =
      facts_by (own_facts me (half trade me journal)) (facts_taken trade me journal) me submitted entry

  -- what the row of an entry says, by these
  abbrev pub told_by : (number submitted : ℕ) → Entry → Option Told
  told_by number submitted entry =
      told_with trade providers me (half trade me journal) number submitted (facts_for submitted entry) entry

  -- the row of an entry, where it has one and its moment is in the range
  abbrev pub row_within : (from upto : ℕ) → (number submitted : ℕ) → Entry → Option Record
  row_within from upto number submitted entry =
      if is_within from upto (moment_of entry)
      then option_map (row_with providers me number (moment_of entry)) (told_by number submitted entry) else None

  -- the rows of entries, numbered from here on
  abbrev pub rows_from : (from upto : ℕ) → (number submitted : ℕ) → List Entry → List Record
  rows_from from upto number submitted [] = []
  rows_from from upto number submitted (entry ∷ others) =
      option_to_list (row_within from upto number submitted entry)
      ++ rows_from from upto (number + 1) (submitted + submits entry) others

  -- The rows of a provider's journal, in the order of its entries.
  abbrev pub log_rows : (from upto : ℕ) → List Record
  log_rows from upto = rows_from from upto 0 0 journal

-- ---- totals

-- What is known of the pairs that a summary counts.
abbrev pub totals_in : Summary → Totals
totals_in summary = record {
  accepted = summary.delivered + summary.refused + summary.unknown;
  delivered = summary.delivered;
  refused = summary.refused;
  pending = summary.unknown;
}

-- Of the pairs of the messages that a provider accepted in a range: all, those that are known as delivered, those that
-- are known as refused, and the rest.
abbrev pub totals_of : Trade → ℕ → (from upto : ℕ) → Half → Totals
totals_of trade me from upto half = totals_in (summary_within trade me from upto half)

-- two totals in one
abbrev pub both : Totals → Totals → Totals
both a b = record {
  accepted = a.accepted + b.accepted;
  delivered = a.delivered + b.delivered;
  refused = a.refused + b.refused;
  pending = a.pending + b.pending;
}

abbrev pub no_totals : Totals
no_totals = record { accepted = 0; delivered = 0; refused = 0; pending = 0 }
