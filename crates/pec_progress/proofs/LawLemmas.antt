-- What the laws of the ledger and of plays say of one world, as the lemmas take it.
use Rattle.std.proofs.Common.{◌≡◌, ◌↔◌, ℕ, ◌<◌, ◌≤◌, ◌++◌, List, [], ◌∷◌, true, length, take, ap, Some, None}
use Rattle.std.specs.Prelude.{Contains, IsSome, is_some, slice_index_or}
use Rattle.std.proofs.lemmas.List.Sums.{fold-append}
use Rattle.pec_types.specs.Bytes.{Bytes}
use Rattle.pec_types.specs.Message.{Id}
use Rattle.pec_types.specs.declared.letters.Letter.{Letter}
use Rattle.pec_types.specs.declared.moments.TheConstants.{END_OF_TIME}
use Rattle.pec_types.specs.declared.receipts.Kind.{Kind}
use Rattle.pec_types.specs.declared.receipts.Kind.TheVariants as kinds
use Rattle.pec_records.specs.declared.entries.Entry.{Entry}
use Rattle.pec_ledger.specs.Along.{GoesOnAs}
use Rattle.pec_ledger.specs.Due.{due_letters, owed_letters}
use Rattle.pec_ledger.specs.Guarantees.{OneOutcome}
use Rattle.pec_ledger.specs.Half.{Charge, Fate, Half, Known, Taken, empty}
use Rattle.pec_ledger.specs.Ledger.{Fit, HasOriginal, IsAckText, IsChargeText, IsEnvelopeText, IsOutcomeText, Journals, accepted_in, body_at, ledger}
use Rattle.pec_ledger.specs.Lookups.{Accepted, accepted_at, addresses_of, at_home, charged_of, decided_of, is_acked, known_of, outcome_kind, taken_of}
use Rattle.pec_ledger.specs.Network.{Site, Sound, frames_between, journal_at, site_at}
use Rattle.pec_ledger.specs.Own.{IsTakenPair}
use Rattle.pec_ledger.specs.Pairs.{Pair}
use Rattle.pec_ledger.specs.Steps.{half, step}
use Rattle.pec_ledger.specs.Tables.{IsOwed, IsOwedEnvelope, IsOwedOutcome}
use Rattle.pec_ledger.specs.Trade.{Framed, Receipt, SeenEnvelope, SeenReceipt, Trade}
use Rattle.pec_ledger.specs.TradeLaws.{CanBeComposed, IsSent}
use Rattle.pec_plays.specs.Commands.{Luck, Round, played}
use Rattle.pec_plays.specs.Composed.{IsComposed, IsFrameOf}
use Rattle.pec_plays.specs.Decisions.{Looks, decide, undecided}
use Rattle.pec_plays.specs.Frames.{IsDueFrame, composed, due_frames, frame_of}
use Rattle.pec_plays.specs.Reception.{arrive}
use Rattle.pec_plays.specs.ReceptionRows.{IsReceived}
use Rattle.pec_plays.specs.Rounds.{rooms_of, rounded}
use Rattle.pec_plays.specs.Scripts.{IsUnforged}
use Rattle.pec_plays.specs.Steps.{Step, journal_after}
use Rattle.pec_plays.specs.Turns.{Cut, Whole, cut_turn, entries_of, owed_of, plan, turned}
use Rattle.pec_progress.proofs.ListLemmas.{what_is}

-- what is found in rows is found as long as the journal goes on
pub record RowLaws (trade : Trade) : Type 0 where
  pub accepted : (provider : ℕ) (old new : List Entry) → GoesOnAs old new → (number : ℕ) (message : Accepted)
      → accepted_at (half trade provider old) number ≡ Some message → accepted_at (half trade provider new) number ≡ Some message
  pub taken : (provider : ℕ) (old new : List Entry) → GoesOnAs old new → (id : Id) (row : Taken)
      → taken_of (half trade provider old) id ≡ Some row → taken_of (half trade provider new) id ≡ Some row
  pub decided : (provider : ℕ) (old new : List Entry) → GoesOnAs old new → (pair : Pair) (fate : Fate)
      → decided_of (half trade provider old) pair ≡ Some fate → decided_of (half trade provider new) pair ≡ Some fate
  pub known : (provider : ℕ) (old new : List Entry) → GoesOnAs old new → (pair : Pair) (row : Known)
      → known_of (half trade provider old) pair ≡ Some row → known_of (half trade provider new) pair ≡ Some row
  pub acked : (provider : ℕ) (old new : List Entry) → GoesOnAs old new → (pair : Pair)
      → is_acked (half trade provider old) pair ≡ true → is_acked (half trade provider new) pair ≡ true
  pub bodies : (old new : List Entry) → GoesOnAs old new → (number : ℕ) (bytes : Bytes) → body_at old number ≡ Some bytes → body_at new number ≡ Some bytes

-- what a provider does
pub record PlayLaws (trade : Trade) : Type 0 where
  pub row_says : (provider now : ℕ) (journal : List Entry) (frame : Bytes) (framed : Framed) → trade.unframed frame ≡ Some framed
      → (step : Step) → (arrive trade provider now journal frame ≡ step) ↔ IsReceived trade provider journal framed now step
  pub undecided_says : (provider : ℕ) (journal : List Entry) (pair : Pair)
      → Contains (undecided trade provider journal) pair ↔ (IsTakenPair trade provider (half trade provider journal) pair × (decided_of (half trade provider journal) pair ≡ None))
  pub left_says : (provider now : ℕ) (looks : Looks) (journal : List Entry) (pair : Pair) (pairs : List Pair) → undecided trade provider journal ≡ pair ∷ pairs
      → undecided trade provider (journal_after journal (decide trade provider now looks journal pair)) ≡ pairs
  pub owed_says : (provider : ℕ) (half : Half) (to : ℕ) (owed : List Letter) (letter : Letter)
      → Contains (owed_letters trade provider half to owed) letter ↔ IsOwed trade provider half to owed letter
  pub due_says : (provider : ℕ) (half : Half) (to room : ℕ) (owed : List Letter) → due_letters trade provider half to room owed ≡ take room (owed_letters trade provider half to owed)
  pub frames_says : (provider : ℕ) (journal : List Entry) (to room : ℕ) (owed : List Letter) (frame : Bytes)
      → Contains (due_frames trade provider journal to room owed) frame ↔ IsDueFrame trade provider journal to room owed frame
  pub puts_says : (provider : ℕ) (rooms : ℕ → ℕ) (site : Site) (steps : List Step) (to : ℕ) → to < trade.providers
      → slice_index_or (cut_turn trade provider rooms site steps Whole).out to []
      ≡ due_frames trade provider (site.journal ++ entries_of steps) to (rooms to) (owed_of steps)

-- what a round comes to
pub record RoundLaws (trade : Trade) : Type 0 where
  pub count : (now : ℕ) (cuts : ℕ → Cut) (sites : List Site) → length (rounded trade now cuts sites).sites ≡ length sites
  pub journals : (now : ℕ) (cuts : ℕ → Cut) (sites : List Site) (provider : ℕ) → provider < length sites
      → journal_at (rounded trade now cuts sites).sites provider
      ≡ (turned trade provider now (rooms_of sites provider) (cuts provider) (site_at sites provider)).site.journal
  pub frames : (now : ℕ) (cuts : ℕ → Cut) (sites : List Site) (from to : ℕ) → from < length sites → to < length sites
      → frames_between (rounded trade now cuts sites).sites from to
      ≡ slice_index_or (turned trade to now (rooms_of sites to) (cuts to) (site_at sites to)).site.waiting from []
      ++ slice_index_or (turned trade from now (rooms_of sites from) (cuts from) (site_at sites from)).out to []
  pub nobody : (now : ℕ) (cuts : ℕ → Cut) (sites : List Site) (from to : ℕ) → length sites ≤ from → to < length sites
      → frames_between (rounded trade now cuts sites).sites from to
      ≡ slice_index_or (turned trade to now (rooms_of sites to) (cuts to) (site_at sites to)).site.waiting from []
  pub sound : (luck : Luck) (sites : List Site) (now : ℕ) → Sound trade sites → IsUnforged trade luck sites (Round now)
      → Sound trade (played trade luck sites (Round now)).after

-- receipts, by what they state
abbrev pub charge_on : Id → ℕ → ℕ → Receipt
charge_on id by moment = record { kind = kinds.Charge; id = id; by = by; moment = moment; recipient = None }

abbrev pub receipt_on : Kind → Pair → ℕ → ℕ → Receipt
receipt_on kind pair by moment = record { kind = kind; id = pair.id; by = by; moment = moment; recipient = Some pair.recipient }

-- what journals that are Fit say
pub record FitLaws (trade : Trade) (J : Journals) : Type 0 where
  pub fit : Fit trade J
  pub originals : (id : Id) (message : Accepted) → accepted_in trade J id ≡ Some message → (original : Bytes) × HasOriginal trade J id message original
  pub messages : (by : ℕ) (id : Id) (row : Taken) → taken_of (ledger trade J by) id ≡ Some row → (message : Accepted) × (accepted_in trade J id ≡ Some message)
  pub decisions : (provider : ℕ) (pair : Pair) (fate : Fate) → decided_of (ledger trade J provider) pair ≡ Some fate
      → IsTakenPair trade provider (ledger trade J provider) pair
  pub charges : (provider : ℕ) (id : Id) (by : ℕ) (charge : Charge) → charged_of (ledger trade J provider) id by ≡ Some charge
      → IsSome (taken_of (ledger trade J by) id)
  pub acks : (provider : ℕ) (pair : Pair) → is_acked (ledger trade J provider) pair ≡ true → IsSome (known_of (ledger trade J pair.id.provider) pair)
  pub recipients : (provider : ℕ) (id : Id) (row : Taken) (message : Accepted) → taken_of (ledger trade J provider) id ≡ Some row
      → accepted_in trade J id ≡ Some message → row.recipients ≡ at_home trade provider (addresses_of message.facts)
  pub senders : (id : Id) (message : Accepted) → accepted_in trade J id ≡ Some message → message.facts.sender ≡ message.sender
  pub composed : (provider : ℕ) (letter : Letter) (framed : Framed) → composed trade provider (J provider) letter ≡ Some framed → IsComposed trade J provider letter framed
  pub framed : (provider : ℕ) (letter : Letter) (frame : Bytes) → frame_of trade provider (J provider) letter ≡ Some frame → IsFrameOf trade J provider letter frame
  pub sent : (id : Id) (to : ℕ) (bytes : Bytes) (is : IsEnvelopeText trade J id to bytes) → IsSent trade id is.original × (is.message.moment < END_OF_TIME)
  pub charge_can : (id : Id) (by : ℕ) (bytes : Bytes) (is : IsChargeText trade J id by bytes) → CanBeComposed trade (charge_on id by is.row.moment) is.original
  pub outcome_can : (pair : Pair) (bytes : Bytes) (is : IsOutcomeText trade J pair bytes)
      → CanBeComposed trade (receipt_on (outcome_kind is.fate.decision) pair is.home is.fate.moment) is.original
  pub ack_can : (pair : Pair) (bytes : Bytes) (is : IsAckText trade J pair bytes) → CanBeComposed trade (receipt_on kinds.Ack pair pair.id.provider is.row.moment) is.original
  pub one_outcome : OneOutcome trade J
  pub envelopes_seen : (id : Id) (to : ℕ) (bytes : Bytes) (is : IsEnvelopeText trade J id to bytes)
      → trade.view bytes ≡ Some (SeenEnvelope id is.message.moment is.original)
  pub addressees : (id : Id) (to : ℕ) (bytes : Bytes) (is : IsEnvelopeText trade J id to bytes) → trade.envelope_recipients bytes ≡ addresses_of is.message.facts
  pub charges_seen : (id : Id) (by : ℕ) (bytes : Bytes) (is : IsChargeText trade J id by bytes) → trade.view bytes ≡ Some (SeenReceipt (charge_on id by is.row.moment))
  pub outcomes_seen : (pair : Pair) (bytes : Bytes) (is : IsOutcomeText trade J pair bytes)
      → trade.view bytes ≡ Some (SeenReceipt (receipt_on (outcome_kind is.fate.decision) pair is.home is.fate.moment))
  pub acks_seen : (pair : Pair) (bytes : Bytes) (is : IsAckText trade J pair bytes) → trade.view bytes ≡ Some (SeenReceipt (receipt_on kinds.Ack pair pair.id.provider is.row.moment))

-- what is owed is composed
pub record ComposedLaws (trade : Trade) (J : Journals) : Type 0 where
  pub envelopes : (provider to : ℕ) (letter : Letter) → IsOwedEnvelope trade provider (ledger trade J provider) to letter → IsSome (composed trade provider (J provider) letter)
  pub outcomes : (provider to : ℕ) (letter : Letter) → IsOwedOutcome trade provider (ledger trade J provider) to letter → IsSome (composed trade provider (J provider) letter)
  pub answers : (provider now : ℕ) (looks : Looks) (journal : List Entry) (frames : List Bytes)
      → GoesOnAs (journal ++ entries_of (plan trade provider now looks journal frames)) (J provider)
      → (letter : Letter) → Contains (owed_of (plan trade provider now looks journal frames)) letter → IsSome (composed trade provider (J provider) letter)

-- ---- rows that stand

module _ (trade : Trade) (rows : RowLaws trade) (p : ℕ) (old new : List Entry) (g : GoesOnAs old new) where
  pub taken_stays : (id : Id) → IsSome (taken_of (half trade p old) id) → IsSome (taken_of (half trade p new) id)
  taken_stays id some = let row = what_is (taken_of (half trade p old) id) some in ap is_some (rows.taken p old new g id row.0 row.1)

  pub decided_stays : (pair : Pair) → IsSome (decided_of (half trade p old) pair) → IsSome (decided_of (half trade p new) pair)
  decided_stays pair some = let row = what_is (decided_of (half trade p old) pair) some in ap is_some (rows.decided p old new g pair row.0 row.1)

  pub known_stays : (pair : Pair) → IsSome (known_of (half trade p old) pair) → IsSome (known_of (half trade p new) pair)
  known_stays pair some = let row = what_is (known_of (half trade p old) pair) some in ap is_some (rows.known p old new g pair row.0 row.1)

-- the half behind one entry more
pub half_one : (trade : Trade) (p : ℕ) (es : List Entry) (e : Entry) → half trade p (es ++ e ∷ []) ≡ step trade p (half trade p es) e
unfolding half
half_one trade p es e = fold-append (step trade p) empty es (e ∷ [])
