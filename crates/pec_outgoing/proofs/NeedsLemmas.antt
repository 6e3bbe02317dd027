-- What is composed of the entry that stands at the needed number of a journal is what is composed of the journal, and
-- where no number is needed nothing is composed.
use Rattle.std.proofs.Common.{◌≡◌, ℕ, ◌==◌, ◌&&◌, Bool, true, false, List, Option, None, Some, if◌then◌else◌, option_map, slice_get, refl, ap, sym, subst, ◌∙◌}
use Rattle.std.specs.Option.{option_and_then}
use Rattle.std.specs.Str.{bytes_eq}
use Rattle.std.proofs.lemmas.Option.{none-some, same_Some}
use Rattle.pec_types.specs.Bytes.{Bytes}
use Rattle.pec_types.specs.Message.{Id}
use Rattle.pec_types.specs.declared.letters.Letter.{Letter}
use Rattle.pec_types.specs.declared.letters.Letter.TheVariants as letters
use Rattle.pec_types.specs.declared.messages.Decision.{Decision}
use Rattle.pec_types.specs.declared.messages.Facts.{Facts}
use Rattle.pec_records.specs.declared.entries.Entry.{Entry}
use Rattle.pec_records.specs.declared.entries.Entry.TheVariants as entries
use Rattle.pec_ledger.specs.Half.{Fate, Half, Known, Taken}
use Rattle.pec_ledger.specs.Ledger.{body_at, body_of}
use Rattle.pec_ledger.specs.Lookups.{Accepted, accepted_at, decided_of, known_of, taken_of}
use Rattle.pec_ledger.specs.Pairs.{pair_of, same_id}
use Rattle.pec_ledger.specs.Trade.{Framed, Trade}
use Rattle.pec_plays.specs.Frames.{ack_of, charge_of, composed_by, envelope_of, frame_of, original_in, original_taken, outcome_of, to_addressee, to_home}
use Rattle.pec_shelf.specs.Seen.{Seen}
use Rattle.pec_outgoing.specs.Desk.{IsHalfOf}
use Rattle.pec_outgoing.specs.Entries.{accepted_in, took_in}
use Rattle.pec_outgoing.specs.Needs.{AckAsked, Asked, ChargeAsked, ComposedOf, EnvelopeAsked, FramedOf, Holds, HoldsMessage, OutcomeAsked, along_outcome, asked_by, composed_from, enveloped_in, needed, number_of, to_one}

-- ---- what an entry holds

pub if_some : (b : Bool) (message original : Bytes) → (if b then Some message else None) ≡ Some original → Some message
    ≡ Some original
if_some true message original e = e
if_some false message original e = absurd (none-some original e)

pub body_accepted : (moment : ℕ) (sender : Bytes) (entry : Entry) (original : Bytes) → accepted_in moment sender entry
    ≡ Some original
    → body_of entry ≡ Some original
body_accepted moment sender (entries.Accepted at from message) original e =
    if_some ((moment == at) && bytes_eq sender from) message original e
body_accepted moment sender (entries.Start number digest) original e = absurd (none-some original e)
body_accepted moment sender (entries.NotAccepted at from cause path message) original e = absurd (none-some original e)
body_accepted moment sender (entries.Took at id message) original e = absurd (none-some original e)
body_accepted moment sender (entries.Decided at id recipient decision) original e = absurd (none-some original e)
body_accepted moment sender (entries.Charged at id by) original e = absurd (none-some original e)
body_accepted moment sender (entries.Learned at id recipient decision decided message) original e =
    absurd (none-some original e)
body_accepted moment sender (entries.Acked at id recipient) original e = absurd (none-some original e)
body_accepted moment sender (entries.Ticked at) original e = absurd (none-some original e)
body_accepted moment sender (entries.Anomaly at accounts message) original e = absurd (none-some original e)
body_accepted moment sender (entries.StartTwo number digest) original e = absurd (none-some original e)
body_accepted moment sender (entries.Upgraded at) original e = absurd (none-some original e)
body_accepted moment sender (entries.Archived at account place) original e = absurd (none-some original e)

pub body_took : (id : Id) (entry : Entry) (message : Bytes) → took_in id entry ≡ Some message → body_of entry
    ≡ Some message
body_took id (entries.Took at other message) original e = if_some (same_id id other) message original e
body_took id (entries.Start number digest) original e = absurd (none-some original e)
body_took id (entries.Accepted at from message) original e = absurd (none-some original e)
body_took id (entries.NotAccepted at from cause path message) original e = absurd (none-some original e)
body_took id (entries.Decided at other recipient decision) original e = absurd (none-some original e)
body_took id (entries.Charged at other by) original e = absurd (none-some original e)
body_took id (entries.Learned at other recipient decision decided message) original e = absurd (none-some original e)
body_took id (entries.Acked at other recipient) original e = absurd (none-some original e)
body_took id (entries.Ticked at) original e = absurd (none-some original e)
body_took id (entries.Anomaly at accounts message) original e = absurd (none-some original e)
body_took id (entries.StartTwo number digest) original e = absurd (none-some original e)
body_took id (entries.Upgraded at) original e = absurd (none-some original e)
body_took id (entries.Archived at account place) original e = absurd (none-some original e)

module _ (trade : Trade) (me : ℕ) (journal : List Entry) (entry : Entry) where
  -- an entry's message, where the entry stands in the journal
  pub body_there : (number : ℕ) (message : Bytes) → slice_get journal number ≡ Some entry → body_of entry ≡ Some message
      → body_at journal number ≡ Some message
  body_there number message at is = ap (option_and_then body_of) at ∙ is

  -- ---- the original in an envelope

  original_so : (id : Id) (body : Option Bytes) (original : Bytes)
      → (took : (message : Bytes) → body ≡ Some message → body_of entry ≡ Some message)
      → option_and_then (λ (envelope : Bytes). original_in id (trade.view envelope)) body ≡ Some original
      → option_and_then (λ (envelope : Bytes). original_in id (trade.view envelope)) (body_of entry) ≡ Some original
  original_so id None original took e = absurd (none-some original e)
  original_so id (Some message) original took e =
      ap (option_and_then (λ (envelope : Bytes). original_in id (trade.view envelope))) (took message refl) ∙ e

  pub taken_so : (id : Id) (row : Taken) (original : Bytes) → slice_get journal row.entry ≡ Some entry
      → enveloped_in trade id entry ≡ Some original → original_taken trade me journal id row ≡ Some original
  taken_so id row original at e =
      ap (λ (found : Option Entry). option_and_then (λ (envelope : Bytes). original_in id (trade.view envelope))
      (option_and_then body_of found)) at
      ∙ original_so id (took_in id entry) original (body_took id entry) e

  -- ---- letters

  addressee_so : (id : Id) (decision : Decision) (text : Bytes) (facts : Option Facts)
      → along_outcome trade id decision facts text ≡ to_addressee trade me journal id decision text facts
  addressee_so id decision text None = refl
  addressee_so id decision text (Some facts) = refl

  home_so : (text : Bytes) (home : Option ℕ) → to_one (option_map trade.receipts home) text
      ≡ to_home trade me journal text home
  home_so text None = refl
  home_so text (Some home) = refl

  pub accepted_so : (row : Accepted) (original : Bytes) → slice_get journal row.entry ≡ Some entry
      → HoldsMessage trade row entry original → body_at journal row.entry ≡ Some original
  accepted_so row original at holds =
      body_there row.entry original at (body_accepted row.moment row.sender entry original holds.0)

  envelope_so : (id : Id) (to : ℕ) (row : Accepted) (original : Bytes) → slice_get journal row.entry ≡ Some entry
      → HoldsMessage trade row entry original
      → composed_from trade me (EnvelopeAsked id to row) original ≡ envelope_of trade me journal id to row
  envelope_so id to row original at holds = rw (accepted_so row original at holds) refl

  charge_so : (id : Id) (row : Taken) (original : Bytes) → slice_get journal row.entry ≡ Some entry
      → enveloped_in trade id entry ≡ Some original
      → composed_from trade me (ChargeAsked id row) original ≡ charge_of trade me journal id row
  charge_so id row original at e = rw (taken_so id row original at e) refl

  outcome_so : (id : Id) (recipient : Bytes) (fate : Fate) (row : Taken) (original : Bytes)
      → slice_get journal row.entry ≡ Some entry → Holds trade (OutcomeAsked id recipient fate row) entry original
      → composed_from trade me (OutcomeAsked id recipient fate row) original
      ≡ outcome_of trade me journal id recipient fate row
  outcome_so id recipient fate row original at holds = rw (taken_so id row original at holds.0) (addressee_so id fate.decision _ (trade.facts original))

  ack_so : (id : Id) (recipient : Bytes) (known : Known) (row : Accepted) (original : Bytes)
      → slice_get journal row.entry ≡ Some entry → HoldsMessage trade row entry original
      → composed_from trade me (AckAsked id recipient known row) original
      ≡ ack_of trade me journal id recipient known row
  ack_so id recipient known row original at holds =
      rw (accepted_so row original at holds) (home_so _ (trade.home recipient))

  -- what is composed of the entry for a letter is what is composed of the journal, by the option that the half gives
  abbrev pub Composes : Asked → Option Framed → Type 0
  Composes asked found = (original : Bytes) → slice_get journal (number_of asked) ≡ Some entry
      → Holds trade asked entry original → composed_from trade me asked original ≡ found

  own_so : (asked : Asked) (ask : Accepted → Asked) (compose : Accepted → Option Framed)
      → ((row : Accepted) → Composes (ask row) (compose row))
      → (b : Bool) (found : Option Accepted) → (if b then option_map ask found else None) ≡ Some asked
      → Composes asked (if b then option_and_then compose found else None)
  own_so asked ask compose so false found e = absurd (none-some asked e)
  own_so asked ask compose so true None e = absurd (none-some asked e)
  own_so asked ask compose so true (Some row) e =
      subst (λ (a : Asked). Composes a (compose row)) (same_Some (ask row) asked e) (so row)

  charged_so : (asked : Asked) (id : Id) (b : Bool) (found : Option Taken)
      → (if b then option_map (ChargeAsked id) found else None) ≡ Some asked
      → Composes asked (if b then option_and_then (charge_of trade me journal id) found else None)
  charged_so asked id false found e = absurd (none-some asked e)
  charged_so asked id true None e = absurd (none-some asked e)
  charged_so asked id true (Some row) e =
      subst (λ (a : Asked). Composes a (charge_of trade me journal id row)) (same_Some (ChargeAsked id row) asked e)
      (charge_so id row)

  decided_so : (asked : Asked) (id : Id) (recipient : Bytes) (fate : Option Fate) (found : Option Taken)
      → option_and_then (λ (f : Fate). option_map (OutcomeAsked id recipient f) found) fate ≡ Some asked
      → Composes asked (option_and_then
      (λ (f : Fate). option_and_then (outcome_of trade me journal id recipient f) found) fate)
  decided_so asked id recipient None found e = absurd (none-some asked e)
  decided_so asked id recipient (Some fate) None e = absurd (none-some asked e)
  decided_so asked id recipient (Some fate) (Some row) e =
      subst (λ (a : Asked). Composes a (outcome_of trade me journal id recipient fate row))
      (same_Some (OutcomeAsked id recipient fate row) asked e) (outcome_so id recipient fate row)

  acked_so : (asked : Asked) (id : Id) (recipient : Bytes) (b : Bool) (known : Option Known) (found : Option Accepted)
      → (if b then option_and_then (λ (k : Known). option_map (AckAsked id recipient k) found) known else None)
      ≡ Some asked
      → Composes asked (if b then option_and_then
      (λ (k : Known). option_and_then (ack_of trade me journal id recipient k) found) known else None)
  acked_so asked id recipient false known found e = absurd (none-some asked e)
  acked_so asked id recipient true None found e = absurd (none-some asked e)
  acked_so asked id recipient true (Some known) None e = absurd (none-some asked e)
  acked_so asked id recipient true (Some known) (Some row) e =
      subst (λ (a : Asked). Composes a (ack_of trade me journal id recipient known row))
      (same_Some (AckAsked id recipient known row) asked e) (ack_so id recipient known row)

  pub letter_so : (h : Half) (letter : Letter) (asked : Asked) → asked_by me h letter ≡ Some asked
      → Composes asked (composed_by trade me journal h letter)
  letter_so h (letters.Envelope id to) asked e =
      own_so asked (EnvelopeAsked id to) (envelope_of trade me journal id to) (envelope_so id to)
      (id.provider == me) (accepted_at h id.number) e
  letter_so h (letters.Charge id by) asked e = charged_so asked id (by == me) (taken_of h id) e
  letter_so h (letters.Outcome id recipient) asked e =
      decided_so asked id recipient (decided_of h (pair_of id recipient)) (taken_of h id) e
  letter_so h (letters.Ack id recipient) asked e =
      acked_so asked id recipient (id.provider == me) (known_of h (pair_of id recipient)) (accepted_at h id.number) e

-- ---- nothing is needed

module _ (trade : Trade) (me : ℕ) (journal : List Entry) where
  none_own : {A : Type 0} (ask : A → Asked) (compose : A → Option Framed) (b : Bool) (found : Option A)
      → option_map number_of (if b then option_map ask found else None) ≡ None
      → (if b then option_and_then compose found else None) ≡ None
  none_own ask compose false found e = refl
  none_own ask compose true None e = refl
  none_own ask compose true (Some row) e = absurd (none-some _ (sym e))

  none_both : {A B : Type 0} (ask : A → B → Asked) (compose : A → B → Option Framed) (b : Bool) (one : Option A)
      (other : Option B)
      → option_map number_of (if b then option_and_then (λ (x : A). option_map (ask x) other) one else None) ≡ None
      → (if b then option_and_then (λ (x : A). option_and_then (compose x) other) one else None) ≡ None
  none_both ask compose false one other e = refl
  none_both ask compose true None other e = refl
  none_both ask compose true (Some x) None e = refl
  none_both ask compose true (Some x) (Some y) e = absurd (none-some _ (sym e))

  none_so : (h : Half) (letter : Letter) → option_map number_of (asked_by me h letter) ≡ None
      → composed_by trade me journal h letter ≡ None
  none_so h (letters.Envelope id to) e =
      none_own (EnvelopeAsked id to) (envelope_of trade me journal id to) (id.provider == me) (accepted_at h id.number) e
  none_so h (letters.Charge id by) e =
      none_own (ChargeAsked id) (charge_of trade me journal id) (by == me) (taken_of h id) e
  none_so h (letters.Outcome id recipient) e =
      none_both (OutcomeAsked id recipient) (outcome_of trade me journal id recipient) true
      (decided_of h (pair_of id recipient)) (taken_of h id) e
  none_so h (letters.Ack id recipient) e =
      none_both (AckAsked id recipient) (ack_of trade me journal id recipient) (id.provider == me)
      (known_of h (pair_of id recipient)) (accepted_at h id.number) e

  abbrev pub framing : Option Framed → Option Bytes
  framing found = option_and_then (λ (framed : Framed). trade.framed framed.path framed.message) found

-- no frame is put for a letter for which nothing is needed
pub nothing_needed : (trade : Trade) (shelf : Seen) (letter : Letter) (journal : List Entry)
    → IsHalfOf trade journal shelf → needed shelf.me shelf.half letter ≡ None
    → frame_of trade shelf.me journal letter ≡ None
unfolding needed frame_of
nothing_needed trade shelf letter journal is e =
    ap (framing trade shelf.me journal)
    (subst (λ (h : Half). composed_by trade shelf.me journal h letter ≡ None) is.half_is
    (none_so trade shelf.me journal shelf.half letter e))

-- ---- frames

-- what is composed of the entry at the needed number is what the letter's frame is made of
pub frame_so : (trade : Trade) (shelf : Seen) (letter : Letter) (journal : List Entry) (entry : Entry) (number : ℕ)
    (asked : Asked) (original : Bytes) (found : Option Bytes)
    → IsHalfOf trade journal shelf → needed shelf.me shelf.half letter ≡ Some number
    → slice_get journal number ≡ Some entry → asked_by shelf.me shelf.half letter ≡ Some asked
    → Holds trade asked entry original
    → found ≡ framing trade shelf.me journal (composed_from trade shelf.me asked original)
    → found ≡ frame_of trade shelf.me journal letter
unfolding needed frame_of
frame_so trade shelf letter journal entry number asked original found is need at ask holds e =
    e
    ∙ ap (framing trade shelf.me journal)
    (subst (λ (h : Half). composed_from trade shelf.me asked original ≡ composed_by trade shelf.me journal h letter)
    is.half_is
    (letter_so trade shelf.me journal entry shelf.half letter asked ask original there holds))
  where
    same : number_of asked ≡ number
    same = same_Some (number_of asked) number (sym (ap (option_map number_of) ask) ∙ need)

    there : slice_get journal (number_of asked) ≡ Some entry
    there = ap (slice_get journal) same ∙ at

-- what is framed of what may be composed
abbrev pub framing_of : Trade → Option Framed → Option Bytes
framing_of trade found = option_and_then (λ (framed : Framed). trade.framed framed.path framed.message) found

-- what is composed of an entry that serves is framed
pub framed_of : (trade : Trade) (me : ℕ) (h : Half) (letter : Letter) (entry : Entry) (asked : Asked)
    (made : Option Framed) (found : Option Bytes)
    → asked_by me h letter ≡ Some asked → ComposedOf trade me asked entry made → found ≡ framing_of trade made
    → FramedOf trade me h letter entry found
framed_of trade me h letter entry asked made found has composed e = record {
  asked = asked;
  has = has;
  original = composed.original;
  holds = composed.holds;
  is = e ∙ ap (framing_of trade) composed.is;
}
