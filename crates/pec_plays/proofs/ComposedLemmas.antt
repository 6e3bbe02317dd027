-- In journals that are Fit every due envelope, outcome, charge and acknowledgement is composed.
use Rattle.std.proofs.Common.{◌≡◌, ℕ, [], ◌∷◌, Bool, length, refl, ap, sym, subst, ◌∙◌, arith, Option, Some, None}
use Rattle.std.specs.Prelude.{Contains, IsSome, ◌==◌, if◌then◌else◌}
use Rattle.std.specs.Option.{option_and_then}
use Rattle.std.proofs.lemmas.Bool.{eq-eqb, false≢true}
use Rattle.std.proofs.lemmas.Option.{none-some}
use Rattle.std.proofs.Math.Dec.{eqb-suc-zero}
use Rattle.pec_types.specs.Bytes.{Bytes, Path}
use Rattle.pec_types.specs.Message.{Id}
use Rattle.pec_types.specs.declared.letters.Letter.{Letter}
use Rattle.pec_types.specs.declared.letters.Letter.TheVariants as letters
use Rattle.pec_types.specs.declared.messages.Facts.{Facts}
use Rattle.pec_types.specs.declared.receipts.Kind.TheVariants as kinds
use Rattle.pec_ledger.specs.Half.{Fate, Known, Taken}
use Rattle.pec_ledger.specs.Ledger.{HasOriginal, IsAckText, IsChargeText, IsEnvelopeText, IsOutcomeText, Journals, body_at, ledger}
use Rattle.pec_ledger.specs.Lookups.{Accepted, accepted_at, addresses_of, at_home, decided_of, is_home, known_of, outcome_kind, taken_of}
use Rattle.pec_ledger.specs.Own.{IsOwnPair, IsTakenPair}
use Rattle.pec_ledger.specs.Pairs.{Pair, id_of, pair_of, same_pair}
use Rattle.pec_ledger.specs.Steps.{half}
use Rattle.pec_ledger.specs.Tables.{IsOwedEnvelope, IsOwedOutcome}
use Rattle.pec_ledger.specs.Trade.{Framed, Seen, Trade}
use Rattle.pec_ledger.specs.TradeLaws.{IsTrade}
use Rattle.pec_plays.specs.Frames.{ack_of, charge_of, composed, envelope_of, original_in, original_taken, outcome_of, to_addressee, to_home, unless_empty, unless_nobody}
use Rattle.pec_plays.specs.Paths.{outcome_path}
use Rattle.pec_plays.proofs.FrameLemmas.{TextLaws}
use Rattle.pec_plays.proofs.ListLemmas.{home_again, id_again, into_filter, pair_again, some_found, what_is}
use Rattle.pec_plays.proofs.OwedLemmas.{IsBacked}

found_behind : {A B : Type 0} (f : A → Option B) (o : Option A) (x : A) → o ≡ Some x → IsSome (f x) → IsSome (option_and_then f o)
found_behind f o x e some = subst (λ q. IsSome (option_and_then f q)) (sym e) some

where_equal : {X : Type 0} (a b : ℕ) (o : Option X) → a ≡ b → IsSome o → IsSome (if a == b then o else None)
where_equal a b o e some = subst (λ (t : Bool). IsSome (if t then o else None)) (sym (eq-eqb a b e)) some

somebody : (path : Path) (text a : Bytes) → Contains path a → ((path : Path) → IsSome (unless_empty path text)) → IsSome (unless_nobody path text)
somebody [] text a (k, l, e) some = absurd (omega arith)
somebody (b ∷ path) text a c some = some (b ∷ path)

-- a text in which something is seen
abbrev pub IsSomething : Trade → Bytes → Type 0
IsSomething trade text = (seen : Seen) × (trade.view text ≡ Some seen)

-- something is seen in each licensed letter
pub record SeenLaws (trade : Trade) (J : Journals) : Type 0 where
  pub envelopes : (id : Id) (to : ℕ) (bytes : Bytes) → IsEnvelopeText trade J id to bytes → IsSomething trade bytes
  pub charges : (id : Id) (by : ℕ) (bytes : Bytes) → IsChargeText trade J id by bytes → IsSomething trade bytes
  pub outcomes : (pair : Pair) (bytes : Bytes) → IsOutcomeText trade J pair bytes → IsSomething trade bytes
  pub acks : (pair : Pair) (bytes : Bytes) → IsAckText trade J pair bytes → IsSomething trade bytes

module _ (trade : Trade) (world : IsTrade trade) (J : Journals) (laws : TextLaws trade J) (seen : SeenLaws trade J)
    (decisions : (provider : ℕ) (pair : Pair) (fate : Fate) → decided_of (ledger trade J provider) pair ≡ Some fate → IsTakenPair trade provider (ledger trade J provider) pair)
    (p : ℕ) where
  -- where something is seen there is a text
  text_some : (text : Bytes) → IsSomething trade text → (path : Path) → IsSome (unless_empty path text)
  text_some [] (it, e) path = absurd (none-some it (sym world.nothing_seen ∙ e))
  text_some (b ∷ text) is path =
      let put : Framed = record { path = path; message = b ∷ text }
      in subst (λ (t : Bool). IsSome (if t then None else Some put)) (sym (eqb-suc-zero (length text))) refl

  pub envelope_composed : (to : ℕ) (letter : Letter) → IsOwedEnvelope trade p (ledger trade J p) to letter → IsSome (composed trade p (J p) letter)
  unfolding ledger
  envelope_composed to letter is =
      let id = id_of p is.number
      in let has = laws.originals id is.message is.accepted
      in let text = trade.envelope_text id is.message.moment has.0
      in let path = at_home trade to (addresses_of is.message.facts)
      in let some = text_some text (seen.envelopes id to text (record {
        message = is.message;
        original = has.0;
        is = has.1;
        pairs = is.pairs;
        text = refl;
      }))
      in subst (λ (l : Letter). IsSome (composed trade p (J p) l)) (sym is.is)
      (where_equal p p (option_and_then (envelope_of trade p (J p) id to) (accepted_at (half trade p (J p)) is.number)) refl
      (found_behind (envelope_of trade p (J p) id to) (accepted_at (half trade p (J p)) is.number) is.message is.accepted
      (found_behind (λ (original : Bytes). unless_nobody path (trade.envelope_text id is.message.moment original)) (body_at (J p) is.message.entry) has.0 has.1.bytes
      (somebody path text is.pairs.0
      (into_filter (λ (a : Bytes). is_home to (trade.home a)) (addresses_of is.message.facts) is.pairs.0 is.pairs.1 (home_again to (trade.home is.pairs.0) is.pairs.2))
      some))))

  -- the original of a message that was taken, in its envelope
  record TakenOriginal (id : Id) (row : Taken) : Type 0 where
    message : Accepted
    original : Bytes
    is : HasOriginal trade J id message original
    taken : original_taken trade p (J p) id row ≡ Some original

  taken_original : (id : Id) (row : Taken) → taken_of (ledger trade J p) id ≡ Some row → TakenOriginal id row
  taken_original id row e =
      let envelope = laws.takings p id row e
      in let is = envelope.2
      in record {
        message = is.message;
        original = is.original;
        is = is.is;
        taken = ap (option_and_then (λ (bytes : Bytes). original_in id (trade.view bytes))) envelope.1 ∙ ap (original_in id) (laws.envelopes id p envelope.0 is)
            ∙ ap (λ (t : Bool). if t then Some is.original else None) (id_again id);
      }

  pub taken_is_seen : (id : Id) (row : Taken) → taken_of (ledger trade J p) id ≡ Some row → IsSome (original_taken trade p (J p) id row)
  taken_is_seen id row e = subst (λ (o : Option Bytes). IsSome o) (sym (taken_original id row e).taken) refl

  pub charge_composed : (id : Id) (row : Taken) → taken_of (ledger trade J p) id ≡ Some row → IsSome (composed trade p (J p) (letters.Charge id p))
  unfolding ledger
  charge_composed id row e =
      let original = taken_original id row e
      in let some = text_some _ (seen.charges id p _ (record {
        message = original.message;
        original = original.original;
        is = original.is;
        row = row;
        taken = e;
        text = refl;
      }))
      in where_equal p p (option_and_then (charge_of trade p (J p) id) (taken_of (half trade p (J p)) id)) refl
      (found_behind (charge_of trade p (J p) id) (taken_of (half trade p (J p)) id) row e
      (found_behind _ (original_taken trade p (J p) id row) original.original original.taken (some (trade.receipts id.provider ∷ []))))

  pub outcome_composed : (to : ℕ) (letter : Letter) → IsOwedOutcome trade p (ledger trade J p) to letter → IsSome (composed trade p (J p) letter)
  unfolding ledger
  outcome_composed to letter is =
      let pair = is.fate.pair
      in let found = some_found (λ (f : Fate). same_pair pair f.pair) (half trade p (J p)).decided is.fate is.decided (pair_again pair)
      in let taken = decisions p pair found.0 found.1
      in let original = taken_original pair.id taken.row taken.taken
      in let some = text_some _ (seen.outcomes pair _ (record {
        message = original.message;
        original = original.original;
        is = original.is;
        home = p;
        at_home = laws.homes p pair found.0 found.1;
        fate = found.0;
        decided = found.1;
        text = refl;
      }))
      in subst (λ (l : Letter). IsSome (composed trade p (J p) l)) (sym is.is)
      (found_behind (λ (fate : Fate). option_and_then (outcome_of trade p (J p) pair.id pair.recipient fate) (taken_of (half trade p (J p)) pair.id))
      (decided_of (half trade p (J p)) pair) found.0 found.1
      (found_behind (outcome_of trade p (J p) pair.id pair.recipient found.0) (taken_of (half trade p (J p)) pair.id) taken.row taken.taken
      (found_behind _ (original_taken trade p (J p) pair.id taken.row) original.original original.taken
      (subst
      (λ (o : Option Facts).
      IsSome
      (to_addressee trade p (J p) pair.id found.0.decision
      (trade.receipt_text
      (record {
        kind = outcome_kind found.0.decision;
        id = pair.id;
        by = p;
        moment = found.0.moment;
        recipient = Some pair.recipient;
      }) original.original) o))
      (sym original.is.facts) (some (outcome_path trade pair.id found.0.decision original.message.facts.sender))))))

  some_home : (text : Bytes) (home : Option ℕ) → IsSome home → ((path : Path) → IsSome (unless_empty path text)) → IsSome (to_home trade p (J p) text home)
  some_home text None e some = absurd (false≢true e)
  some_home text (Some q) e some = some (trade.receipts q ∷ [])

  ack_text : Id → Bytes → Known → Bytes → ℕ → Bytes
  ack_text id recipient row original by =
      trade.receipt_text (record { kind = kinds.Ack; id = id; by = by; moment = row.moment; recipient = Some recipient }) original

  pub ack_composed : (knowns : (provider : ℕ) (pair : Pair) (row : Known) → known_of (ledger trade J provider) pair ≡ Some row → IsOwnPair trade provider (ledger trade J provider) pair)
      → (id : Id) (recipient : Bytes) (row : Known) → known_of (ledger trade J p) (pair_of id recipient) ≡ Some row
      → IsSome (composed trade p (J p) (letters.Ack id recipient))
  unfolding ledger ack_text
  ack_composed knowns id recipient row e =
      let own = knowns p (pair_of id recipient) row e
      in let mine : accepted_at (ledger trade J id.provider) id.number ≡ Some own.message =
      subst (λ (q : ℕ). accepted_at (ledger trade J q) id.number ≡ Some own.message) (sym own.ours) own.accepted
      in let has = laws.originals id own.message mine
      in let there : body_at (J p) own.message.entry ≡ Some has.0 = subst (λ (q : ℕ). body_at (J q) own.message.entry ≡ Some has.0) own.ours has.1.bytes
      in let some = text_some (ack_text id recipient row has.0 p) (seen.acks (pair_of id recipient) (ack_text id recipient row has.0 p) (record {
        message = own.message;
        original = has.0;
        is = has.1;
        row = row;
        known = subst (λ (q : ℕ). known_of (ledger trade J q) (pair_of id recipient) ≡ Some row) (sym own.ours) e;
        text = ap (ack_text id recipient row has.0) (sym own.ours);
      }))
      in where_equal id.provider p _ own.ours
      (found_behind (λ (known : Known). option_and_then (ack_of trade p (J p) id recipient known) (accepted_at (half trade p (J p)) id.number))
      (known_of (half trade p (J p)) (pair_of id recipient)) row e
      (found_behind (ack_of trade p (J p) id recipient row) (accepted_at (half trade p (J p)) id.number) own.message own.accepted
      (found_behind _ (body_at (J p) own.message.entry) has.0 there (some_home _ (trade.home recipient) own.recipient.1 some))))

  -- what is owed in a turn is composed
  pub answer_composed : (knowns : (provider : ℕ) (pair : Pair) (row : Known) → known_of (ledger trade J provider) pair ≡ Some row → IsOwnPair trade provider (ledger trade J provider) pair)
      → (letter : Letter) → IsBacked p (ledger trade J p) letter → IsSome (composed trade p (J p) letter)
  answer_composed knowns (letters.Charge id by) b =
      let row = what_is (taken_of (ledger trade J p) id) b.1
      in subst (λ (q : ℕ). IsSome (composed trade p (J p) (letters.Charge id q))) (sym b.0) (charge_composed id row.0 row.1)
  answer_composed knowns (letters.Ack id recipient) b =
      let row = what_is (known_of (ledger trade J p) (pair_of id recipient)) b.1 in ack_composed knowns id recipient row.0 row.1
  answer_composed knowns (letters.Envelope id to) b = absurd b
  answer_composed knowns (letters.Outcome id recipient) b = absurd b
