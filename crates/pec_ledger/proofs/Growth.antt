-- What a step doesn't take away: lists of a half only grow, so what is found stays found; licences stand, their texts
-- don't change, and joint conditions that are true stay true.
use Rattle.std.proofs.Common.{◌≡◌, ℕ, List, [], ◌∷◌, ◌++◌, refl, ap, sym, subst, ◌∙◌, Option, Some, None}
use Rattle.std.specs.Prelude.{fold, slice_get, IsSome, is_some}
use Rattle.std.proofs.lemmas.List.Sums.{fold-append}
use Rattle.pec_types.specs.Bytes.{Bytes}
use Rattle.pec_types.specs.Message.{Id}
use Rattle.pec_types.specs.declared.letters.Letter.{Letter}
use Rattle.pec_types.specs.declared.letters.Letter.TheVariants as letters
use Rattle.pec_records.specs.declared.entries.Entry.{Entry}
use Rattle.pec_records.specs.declared.entries.Entry.TheVariants as entries
use Rattle.pec_ledger.specs.Along.{GoesOnAs}
use Rattle.pec_ledger.specs.Half.{Fate, Half, Known, Taken, empty}
use Rattle.pec_ledger.specs.Ledger.{HasOriginal, IsLicensedText, IsEnvelopeText, IsChargeText, IsOutcomeText, IsAckText, Joint, Journals, Meets, body_at, body_of, decided_at, ledger}
use Rattle.pec_ledger.specs.Lookups.{Accepted, accepted_at, accepted_of, decided_of, known_of, taken_of}
use Rattle.pec_ledger.specs.Pairs.{Pair, pair_of, same_id, same_pair}
use Rattle.pec_ledger.specs.Steps.{acked_by, charged_by, decided_by, half, items_by, known_by, marks_by, messages_by, step, taken_by}
use Rattle.pec_ledger.specs.Trade.{Trade}
use Rattle.pec_ledger.proofs.AlongLemmas.{goes_on_by, goes_on_itself, goes_on_through}
use Rattle.pec_ledger.proofs.ListLemmas.{both_found, bound, found_stays, stays_at}

-- a half whose lists go on as those of another one
pub record Longer (h k : Half) : Type 0 where
  pub messages : GoesOnAs h.messages k.messages
  pub charged : GoesOnAs h.charged k.charged
  pub marks : GoesOnAs h.marks k.marks
  pub known : GoesOnAs h.known k.known
  pub taken : GoesOnAs h.taken k.taken
  pub decided : GoesOnAs h.decided k.decided
  pub acked : GoesOnAs h.acked k.acked
  pub items : GoesOnAs h.items k.items

pub longer_itself : (h : Half) → Longer h h
longer_itself h = record {
  messages = goes_on_itself h.messages;
  charged = goes_on_itself h.charged;
  marks = goes_on_itself h.marks;
  known = goes_on_itself h.known;
  taken = goes_on_itself h.taken;
  decided = goes_on_itself h.decided;
  acked = goes_on_itself h.acked;
  items = goes_on_itself h.items;
}

pub longer_through : (h k l : Half) → Longer h k → Longer k l → Longer h l
longer_through h k l a b = record {
  messages = goes_on_through h.messages k.messages l.messages a.messages b.messages;
  charged = goes_on_through h.charged k.charged l.charged a.charged b.charged;
  marks = goes_on_through h.marks k.marks l.marks a.marks b.marks;
  known = goes_on_through h.known k.known l.known a.known b.known;
  taken = goes_on_through h.taken k.taken l.taken a.taken b.taken;
  decided = goes_on_through h.decided k.decided l.decided a.decided b.decided;
  acked = goes_on_through h.acked k.acked l.acked a.acked b.acked;
  items = goes_on_through h.items k.items l.items a.items b.items;
}

-- ---- look-ups that stay

pub accepted_stays : (h k : Half) (n : ℕ) (m : Accepted) → Longer h k → accepted_at h n ≡ Some m → accepted_at k n ≡ Some m
accepted_stays h k n m g e =
    let found = both_found accepted_of (slice_get h.messages n) m e
    in bound accepted_of (slice_get k.messages n) found.0 m (stays_at h.messages k.messages n found.0 g.messages found.1) found.2

pub known_stays : (h k : Half) (pair : Pair) (row : Known) → Longer h k → known_of h pair ≡ Some row → known_of k pair ≡ Some row
known_stays h k pair row g e = found_stays (λ (known : Known). same_pair pair known.pair) h.known k.known row g.known e

pub taken_stays : (h k : Half) (id : Id) (row : Taken) → Longer h k → taken_of h id ≡ Some row → taken_of k id ≡ Some row
taken_stays h k id row g e = found_stays (λ (taken : Taken). same_id id taken.id) h.taken k.taken row g.taken e

pub decided_stays : (h k : Half) (pair : Pair) (row : Fate) → Longer h k → decided_of h pair ≡ Some row → decided_of k pair ≡ Some row
decided_stays h k pair row g e = found_stays (λ (fate : Fate). same_pair pair fate.pair) h.decided k.decided row g.decided e

pub body_stays : (es fs : List Entry) (n : ℕ) (bytes : Bytes) → GoesOnAs es fs → body_at es n ≡ Some bytes → body_at fs n ≡ Some bytes
body_stays es fs n bytes g e =
    let found = both_found body_of (slice_get es n) bytes e
    in bound body_of (slice_get fs n) found.0 bytes (stays_at es fs n found.0 g found.1) found.2

pub is_some_by : {X : Type 0} (o : Option X) (x : X) → o ≡ Some x → IsSome o
is_some_by o x e = ap is_some e

pub what_is : {X : Type 0} (o : Option X) → IsSome o → (x : X) × (o ≡ Some x)
what_is None h = absurd (cc)
what_is (Some x) h = (x, refl)

-- ---- halves of journals

module _ (trade : Trade) where
  pub longer_step : (p : ℕ) (h : Half) (e : Entry) → Longer h (step trade p h e)
  unfolding step
  longer_step p h e = record {
    messages = goes_on_by h.messages (messages_by trade p h e);
    charged = goes_on_by h.charged (charged_by e);
    marks = goes_on_by h.marks (marks_by trade p h e);
    known = goes_on_by h.known (known_by e);
    taken = goes_on_by h.taken (taken_by trade p h e);
    decided = goes_on_by h.decided (decided_by e);
    acked = goes_on_by h.acked (acked_by e);
    items = goes_on_by h.items (items_by trade p h e);
  }

  pub longer_fold : (p : ℕ) (h : Half) (es : List Entry) → Longer h (fold (step trade p) h es)
  longer_fold p h [] = longer_itself h
  longer_fold p h (e ∷ es) =
      longer_through h (step trade p h e) (fold (step trade p) h (e ∷ es)) (longer_step p h e) (longer_fold p (step trade p h e) es)

  pub half_append : (p : ℕ) (es fs : List Entry) → half trade p (es ++ fs) ≡ fold (step trade p) (half trade p es) fs
  unfolding half
  half_append p es fs = fold-append (step trade p) empty es fs

  -- journals of which each goes on as the one of the same provider
  abbrev pub GoOnAs : Journals → Journals → Type 0
  GoOnAs J K = (p : ℕ) → GoesOnAs (J p) (K p)

  pub longer_half : (J K : Journals) → GoOnAs J K → (p : ℕ) → Longer (ledger trade J p) (ledger trade K p)
  unfolding ledger
  longer_half J K g p =
      let more = (g p).0
      in let e : ledger trade K p ≡ fold (step trade p) (ledger trade J p) more = ap (half trade p) (g p).1 ∙ half_append p (J p) more
      in subst (λ (k : Half). Longer (ledger trade J p) k) (sym e) (longer_fold p (ledger trade J p) more)

  pub original_stays : (J K : Journals) → GoOnAs J K → (id : Id) (m : Accepted) (original : Bytes)
      → HasOriginal trade J id m original → HasOriginal trade K id m original
  original_stays J K g id m original has = record {
    accepted = accepted_stays (ledger trade J id.provider) (ledger trade K id.provider) id.number m (longer_half J K g id.provider) has.accepted;
    bytes = body_stays (J id.provider) (K id.provider) m.entry original (g id.provider) has.bytes;
    facts = has.facts;
  }

  pub envelope_stays : (J K : Journals) → GoOnAs J K → (id : Id) (to : ℕ) (bytes : Bytes) → IsEnvelopeText trade J id to bytes → IsEnvelopeText trade K id to bytes
  envelope_stays J K g id to bytes is = record {
    message = is.message;
    original = is.original;
    is = original_stays J K g id is.message is.original is.is;
    pairs = is.pairs;
    text = is.text;
  }

  pub charge_stays : (J K : Journals) → GoOnAs J K → (id : Id) (by : ℕ) (bytes : Bytes) → IsChargeText trade J id by bytes → IsChargeText trade K id by bytes
  charge_stays J K g id by bytes is = record {
    message = is.message;
    original = is.original;
    is = original_stays J K g id is.message is.original is.is;
    row = is.row;
    taken = taken_stays (ledger trade J by) (ledger trade K by) id is.row (longer_half J K g by) is.taken;
    text = is.text;
  }

  pub outcome_stays : (J K : Journals) → GoOnAs J K → (pair : Pair) (bytes : Bytes) → IsOutcomeText trade J pair bytes → IsOutcomeText trade K pair bytes
  outcome_stays J K g pair bytes is = record {
    message = is.message;
    original = is.original;
    is = original_stays J K g pair.id is.message is.original is.is;
    home = is.home;
    at_home = is.at_home;
    fate = is.fate;
    decided = decided_stays (ledger trade J is.home) (ledger trade K is.home) pair is.fate (longer_half J K g is.home) is.decided;
    text = is.text;
  }

  pub ack_stays : (J K : Journals) → GoOnAs J K → (pair : Pair) (bytes : Bytes) → IsAckText trade J pair bytes → IsAckText trade K pair bytes
  ack_stays J K g pair bytes is = record {
    message = is.message;
    original = is.original;
    is = original_stays J K g pair.id is.message is.original is.is;
    row = is.row;
    known = known_stays (ledger trade J pair.id.provider) (ledger trade K pair.id.provider) pair is.row (longer_half J K g pair.id.provider) is.known;
    text = is.text;
  }

  -- a licence stands, and its text doesn't change
  pub licence_stays : (J K : Journals) → GoOnAs J K → (letter : Letter) (bytes : Bytes) → IsLicensedText trade J letter bytes → IsLicensedText trade K letter bytes
  licence_stays J K g (letters.Envelope id to) bytes is = envelope_stays J K g id to bytes is
  licence_stays J K g (letters.Charge id by) bytes is = charge_stays J K g id by bytes is
  licence_stays J K g (letters.Outcome id recipient) bytes is = outcome_stays J K g (pair_of id recipient) bytes is
  licence_stays J K g (letters.Ack id recipient) bytes is = ack_stays J K g (pair_of id recipient) bytes is

  fate_stays : (J K : Journals) → GoOnAs J K → (pair : Pair) (home : Option ℕ) (fate : Fate) → decided_at trade J pair home ≡ Some fate → decided_at trade K pair home ≡ Some fate
  fate_stays J K g pair None fate e = e
  fate_stays J K g pair (Some q) fate e = decided_stays (ledger trade J q) (ledger trade K q) pair fate (longer_half J K g q) e

  pub joint_stays : (J K : Journals) → GoOnAs J K → (p : ℕ) (e : Entry) → Joint trade J p e → Joint trade K p e
  joint_stays J K g p (entries.Start number digest) j = tt
  joint_stays J K g p (entries.Accepted moment sender message) j = j
  joint_stays J K g p (entries.NotAccepted moment sender cause path message) j = j
  joint_stays J K g p (entries.Took moment id message) j = envelope_stays J K g id p message j
  joint_stays J K g p (entries.Decided moment id recipient decision) j = tt
  joint_stays J K g p (entries.Charged moment id by) j =
      let row = what_is (taken_of (ledger trade J by) id) j
      in is_some_by (taken_of (ledger trade K by) id) row.0
      (taken_stays (ledger trade J by) (ledger trade K by) id row.0 (longer_half J K g by) row.1)
  joint_stays J K g p (entries.Learned moment id recipient decision decided message) j = (
    outcome_stays J K g (pair_of id recipient) message j.0,
    record {
      fate = j.1.fate;
      decided = fate_stays J K g (pair_of id recipient) (trade.home recipient) j.1.fate j.1.decided;
      so = j.1.so;
      at = j.1.at;
    },
  )
  joint_stays J K g p (entries.Acked moment id recipient) j =
      let row = what_is (known_of (ledger trade J id.provider) (pair_of id recipient)) j
      in is_some_by (known_of (ledger trade K id.provider) (pair_of id recipient)) row.0
      (known_stays (ledger trade J id.provider) (ledger trade K id.provider) (pair_of id recipient) row.0 (longer_half J K g id.provider) row.1)
  joint_stays J K g p (entries.Ticked moment) j = tt
  joint_stays J K g p (entries.Anomaly moment accounts message) j = tt
  joint_stays J K g p (entries.StartTwo number digest) j = tt
  joint_stays J K g p (entries.Upgraded moment) j = tt
  joint_stays J K g p (entries.Archived moment account place) j = tt

  pub meets_stays : (J K : Journals) → GoOnAs J K → (p : ℕ) (h : Half) (e : Entry) → Meets trade J p h e → Meets trade K p h e
  meets_stays J K g p h e m = record { own = m.own; in_time = m.in_time; in_range = m.in_range; joint = joint_stays J K g p e m.joint }
