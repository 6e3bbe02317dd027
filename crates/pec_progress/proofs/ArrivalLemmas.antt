-- What a provider does on the frame of an envelope, of an outcome and of an acknowledgement: behind it the message is
-- taken, the outcome known, the pair acknowledged, whether it was so before or not.
use Rattle.std.proofs.Common.{◌≡◌, ℕ, ◌<◌, List, [], ◌∷◌, ◌++◌, Bool, true, inl, inr, length, refl, ap, sym, subst, ◌∙◌, Option, Some, None}
use Rattle.std.specs.Prelude.{Contains, IsSome, is_some}
use Rattle.std.specs.List.{find}
use Rattle.std.specs.Option.{option_to_list}
use Rattle.std.proofs.lemmas.Bool.{cases_Bool}
use Rattle.std.proofs.lemmas.List.{append-nil}
use Rattle.std.proofs.lemmas.List.Elements.{Contains-append_right}
use Rattle.std.proofs.lemmas.Option.{same_Some}
use Rattle.pec_types.specs.Bytes.{Bytes, Path}
use Rattle.pec_types.specs.Message.{Id}
use Rattle.pec_types.specs.declared.letters.Letter.{Letter}
use Rattle.pec_types.specs.declared.letters.Letter.TheVariants as letters
use Rattle.pec_types.specs.declared.messages.Decision.{Decision}
use Rattle.pec_types.specs.declared.receipts.Kind.TheVariants as kinds
use Rattle.pec_types.specs.declared.turns.Event.TheVariants as events
use Rattle.pec_records.specs.declared.entries.Entry.{Entry}
use Rattle.pec_records.specs.declared.entries.Entry.TheVariants as entries
use Rattle.pec_ledger.specs.Half.{Half, Known, Taken}
use Rattle.pec_ledger.specs.Ledger.{Journals, accepted_in}
use Rattle.pec_ledger.specs.Lookups.{Accepted, HasPair, accepted_at, addresses_of, at_home, decided_of, is_acked, is_home, known_of, outcome_kind, taken_of}
use Rattle.pec_ledger.specs.Pairs.{Pair, same_id, same_pair}
use Rattle.pec_ledger.specs.Steps.{half, step}
use Rattle.pec_ledger.specs.Trade.{Receipt, Trade}
use Rattle.pec_plays.specs.Composed.{IsFrameOf}
use Rattle.pec_plays.specs.Paths.{outcome_path}
use Rattle.pec_plays.specs.Reception.{arrive}
use Rattle.pec_plays.specs.ReceptionRows.{IsAck, IsEnvelope, IsOutcome, NewEnvelope, KnownEnvelope, NewOutcome, KnownOutcome, NewAck, KnownAck}
use Rattle.pec_plays.specs.Steps.{Step, enters, journal_after, passes}
use Rattle.pec_progress.proofs.LawLemmas.{FitLaws, PlayLaws, half_one}
use Rattle.pec_progress.proofs.ListLemmas.{contains_here, home_again, id_again, into_filter, none_or_some, pair_again, some_found, some_is, some_length}

last_found : {X : Type 0} (test : X → Bool) (xs : List X) (x : X) → test x ≡ true → IsSome (find test (xs ++ x ∷ []))
last_found test xs x e =
    let found = some_found test (xs ++ x ∷ []) x (Contains-append_right xs (x ∷ []) x (contains_here x [])) e in ap is_some found.1

one_owed : (s : Step) (letter : Letter) → s.owed ≡ letter ∷ [] → Contains s.owed letter
one_owed s letter e = subst (λ (l : List Letter). Contains l letter) (sym e) (contains_here letter [])

module _ (trade : Trade) (p now : ℕ) where
  -- what holds of the half behind a step that appends an entry, or nothing
  behind_entry : (P : Half → Type 0) (es : List Entry) (s : Step) (entry : Entry) → s.entry ≡ Some entry → P (step trade p (half trade p es) entry)
      → P (half trade p (journal_after es s))
  behind_entry P es s entry e is =
      subst (λ (o : Option Entry). P (half trade p (es ++ option_to_list o))) (sym e) (subst P (sym (half_one trade p es entry)) is)

  behind_none : (P : Half → Type 0) (es : List Entry) (s : Step) → s.entry ≡ None → P (half trade p es) → P (half trade p (journal_after es s))
  behind_none P es s e is =
      subst (λ (o : Option Entry). P (half trade p (es ++ option_to_list o))) (sym e) (subst (λ (l : List Entry). P (half trade p l)) (sym (append-nil es)) is)

  new_taken : (h : Half) (id : Id) (message : Bytes) → IsSome (taken_of (step trade p h (entries.Took now id message)) id)
  unfolding step
  new_taken h id message =
      let row : Taken = record { id = id; moment = now; recipients = at_home trade p (trade.envelope_recipients message); entry = h.entries }
      in last_found (λ (t : Taken). same_id id t.id) h.taken row (id_again id)

  module _ (J : Journals) (laws : FitLaws trade J) (plays : PlayLaws trade) where
    pub envelope_arrives : (id : Id) (frame : Bytes) → IsFrameOf trade J id.provider (letters.Envelope id p) frame → (es : List Entry)
        → IsSome (taken_of (half trade p (journal_after es (arrive trade p now es frame))) id)
    envelope_arrives id frame put es =
        let m = put.is.1.text.message
        in let names = laws.addressees id p put.framed.message put.is.1.text
        in let here = at_home trade p (addresses_of m.facts)
        in let pair = put.is.1.text.pairs
        in let is : IsEnvelope trade p es put.framed id = record {
          moment = m.moment;
          original = put.is.1.text.original;
          seen = laws.envelopes_seen id p put.framed.message put.is.1.text;
          path = put.is.1.path ∙ ap (at_home trade p) (sym names);
          some = subst (λ (addresses : Path). 0 < length (at_home trade p addresses)) (sym names)
              (some_length here pair.0
              (into_filter (λ (address : Bytes). is_home p (trade.home address)) (addresses_of m.facts) pair.0 pair.1 (home_again p (trade.home pair.0) pair.2)));
        }
        in let s = arrive trade p now es frame
        in elim (none_or_some (taken_of (half trade p es) id)) [
          | inl none ↦
              let e = (plays.row_says p now es frame put.framed put.unframed
              (enters trade p es (entries.Took now id put.framed.message) (events.Took id) (letters.Charge id p ∷ []))).1 (NewEnvelope id is none refl)
              in behind_entry (λ (h : Half). IsSome (taken_of h id)) es s (entries.Took now id put.framed.message) (ap (λ (x : Step). x.entry) e) (new_taken (half trade p es) id put.framed.message)
          | inr some ↦
              let there = some_is (taken_of (half trade p es) id) some.0 some.1
              in let e = (plays.row_says p now es frame put.framed put.unframed
              (passes (events.Repeat (letters.Envelope id p)) (letters.Charge id p ∷ []))).1 (KnownEnvelope id is there refl)
              in behind_none (λ (h : Half). IsSome (taken_of h id)) es s (ap (λ (x : Step). x.entry) e) there
        ]

-- ---- outcomes

module _ (trade : Trade) (now : ℕ) (J : Journals) (laws : FitLaws trade J) (plays : PlayLaws trade) where
  new_known : (p : ℕ) (h : Half) (pair : Pair) (decision : Decision) (decided : ℕ) (message : Bytes)
      → IsSome (known_of (step trade p h (entries.Learned now pair.id pair.recipient decision decided message)) pair)
  unfolding step
  new_known p h pair decision decided message =
      let row : Known = record { pair = pair; decision = decision; decided = decided; moment = now }
      in last_found (λ (k : Known). same_pair pair k.pair) h.known row (pair_again pair)

  -- at the provider of the message, in a journal in which it is accepted
  outcome_step : (from : ℕ) (pair : Pair) (m : Accepted) → accepted_in trade J pair.id ≡ Some m → HasPair trade m pair.recipient
      → (frame : Bytes) → IsFrameOf trade J from (letters.Outcome pair.id pair.recipient) frame → (es : List Entry) → accepted_at (half trade pair.id.provider es) pair.id.number ≡ Some m
      → IsSome (known_of (half trade pair.id.provider (journal_after es (arrive trade pair.id.provider now es frame))) pair)
      × Contains (arrive trade pair.id.provider now es frame).owed (letters.Ack pair.id pair.recipient)
  outcome_step from pair m accepted has frame put es there =
      let p = pair.id.provider
      in let decision = put.is.1.text.fate.decision
      in let same : put.is.1.text.message ≡ m = same_Some put.is.1.text.message m (sym put.is.1.text.is.accepted ∙ accepted)
      in let receipt : Receipt = record {
        kind = outcome_kind decision;
        id = pair.id;
        by = put.is.1.text.home;
        moment = put.is.1.text.fate.moment;
        recipient = Some pair.recipient;
      }
      in let is : IsOutcome trade p es put.framed receipt pair.recipient decision = record {
        seen = laws.outcomes_seen pair put.framed.message put.is.1.text;
        kind = refl;
        names = refl;
        ours = refl;
        sealed = put.is.1.text.at_home;
        message = m;
        accepted = there;
        pair = has;
        path = put.is.1.path ∙ ap (outcome_path trade pair.id decision) (ap (λ (x : Accepted). x.facts.sender) same ∙ laws.senders pair.id m accepted);
      }
      in let s = arrive trade p now es frame
      in elim (none_or_some (known_of (half trade p es) pair)) [
        | inl none ↦
            let e = (plays.row_says p now es frame put.framed put.unframed
            (enters trade p es (entries.Learned now pair.id pair.recipient decision receipt.moment put.framed.message)
            (events.Learned pair.id pair.recipient decision) (letters.Ack pair.id pair.recipient ∷ []))).1 (NewOutcome receipt pair.recipient decision is none refl)
            in (
              behind_entry trade p now (λ (h : Half). IsSome (known_of h pair)) es s (entries.Learned now pair.id pair.recipient decision receipt.moment put.framed.message)
                  (ap (λ (x : Step). x.entry) e) (new_known p (half trade p es) pair decision receipt.moment put.framed.message),
              one_owed s (letters.Ack pair.id pair.recipient) (ap (λ (x : Step). x.owed) e),
            )
        | inr some ↦
            let known = some_is (known_of (half trade p es) pair) some.0 some.1
            in let e = (plays.row_says p now es frame put.framed put.unframed
            (passes (events.Repeat (letters.Outcome pair.id pair.recipient)) (letters.Ack pair.id pair.recipient ∷ []))).1 (KnownOutcome receipt pair.recipient decision is known refl)
            in (
              behind_none trade p now (λ (h : Half). IsSome (known_of h pair)) es s (ap (λ (x : Step). x.entry) e) known,
              one_owed s (letters.Ack pair.id pair.recipient) (ap (λ (x : Step). x.owed) e),
            )
      ]

  pub outcome_arrives : (from : ℕ) (pair : Pair) (m : Accepted) → accepted_in trade J pair.id ≡ Some m → HasPair trade m pair.recipient
      → (frame : Bytes) → IsFrameOf trade J from (letters.Outcome pair.id pair.recipient) frame → (es : List Entry) → accepted_at (half trade pair.id.provider es) pair.id.number ≡ Some m
      → IsSome (known_of (half trade pair.id.provider (journal_after es (arrive trade pair.id.provider now es frame))) pair)
  outcome_arrives from pair m accepted has frame put es there = (outcome_step from pair m accepted has frame put es there).0

  -- and its acknowledgement is owed, whether the outcome was known before or not
  pub outcome_answered : (from : ℕ) (pair : Pair) (m : Accepted) → accepted_in trade J pair.id ≡ Some m → HasPair trade m pair.recipient
      → (frame : Bytes) → IsFrameOf trade J from (letters.Outcome pair.id pair.recipient) frame → (es : List Entry) → accepted_at (half trade pair.id.provider es) pair.id.number ≡ Some m
      → Contains (arrive trade pair.id.provider now es frame).owed (letters.Ack pair.id pair.recipient)
  outcome_answered from pair m accepted has frame put es there = (outcome_step from pair m accepted has frame put es there).1

-- ---- acknowledgements

module _ (trade : Trade) (q now : ℕ) (J : Journals) (laws : FitLaws trade J) (plays : PlayLaws trade) where
  new_acked : (h : Half) (pair : Pair) → is_acked (step trade q h (entries.Acked now pair.id pair.recipient)) pair ≡ true
  unfolding step
  new_acked h pair = last_found (same_pair pair) h.acked pair (pair_again pair)

  -- at the provider of the recipient, in a journal in which the pair is decided
  pub ack_arrives : (pair : Pair) → trade.home pair.recipient ≡ Some q → (frame : Bytes) → IsFrameOf trade J pair.id.provider (letters.Ack pair.id pair.recipient) frame
      → (es : List Entry) → IsSome (decided_of (half trade q es) pair) → is_acked (half trade q (journal_after es (arrive trade q now es frame))) pair ≡ true
  ack_arrives pair home frame put es decided =
      let receipt : Receipt = record {
        kind = kinds.Ack;
        id = pair.id;
        by = pair.id.provider;
        moment = put.is.1.text.row.moment;
        recipient = Some pair.recipient;
      }
      in let is : IsAck trade q es put.framed receipt pair.recipient = record {
        seen = laws.acks_seen pair put.framed.message put.is.1.text;
        kind = refl;
        names = refl;
        sealed = refl;
        home = home;
        decided = decided;
        path = put.is.1.path ∙ ap (λ (x : ℕ). trade.receipts x ∷ []) (same_Some put.is.1.home q (sym put.is.1.at_home ∙ home));
      }
      in let s = arrive trade q now es frame
      in elim (cases_Bool (is_acked (half trade q es) pair)) [
        | inr none ↦
            let e = (plays.row_says q now es frame put.framed put.unframed
            (enters trade q es (entries.Acked now pair.id pair.recipient) (events.Acked pair.id pair.recipient) [])).1 (NewAck receipt pair.recipient is none refl)
            in behind_entry trade q now (λ (h : Half). is_acked h pair ≡ true) es s (entries.Acked now pair.id pair.recipient) (ap (λ (x : Step). x.entry) e) (new_acked (half trade q es) pair)
        | inl some ↦
            let e = (plays.row_says q now es frame put.framed put.unframed
            (passes (events.Repeat (letters.Ack pair.id pair.recipient)) [])).1 (KnownAck receipt pair.recipient is some refl)
            in behind_none trade q now (λ (h : Half). is_acked h pair ≡ true) es s (ap (λ (x : Step). x.entry) e) some
      ]
