-- What a provider composes of a letter is the letter's one text along its path, and so the frames that it puts are
-- genuine.
use Rattle.std.proofs.Common.{◌≡◌, ℕ, ◌<◌, List, [], ◌∷◌, Bool, true, false, inl, length, refl, ap, sym, subst, ◌∙◌, arith, Option, Some, None}
use Rattle.std.specs.Prelude.{Contains, ◌==◌, if◌then◌else◌}
use Rattle.std.specs.List.{cons_option, filter_map}
use Rattle.std.specs.Option.{option_and_then}
use Rattle.std.proofs.lemmas.Bool.{eqb-true}
use Rattle.std.proofs.lemmas.List.Elements.{All-cons, All-nil}
use Rattle.std.proofs.lemmas.Option.{none-some, same_Some}
use Rattle.pec_types.specs.Bytes.{Bytes, Path}
use Rattle.pec_types.specs.Message.{Id}
use Rattle.pec_types.specs.declared.letters.Letter.{Letter}
use Rattle.pec_types.specs.declared.letters.Letter.TheVariants as letters
use Rattle.pec_types.specs.declared.messages.Decision.{Decision}
use Rattle.pec_types.specs.declared.messages.Facts.{Facts}
use Rattle.pec_types.specs.declared.receipts.Kind.TheVariants as kinds
use Rattle.pec_ledger.specs.Due.{due_letters}
use Rattle.pec_ledger.specs.Half.{Fate, Known, Taken}
use Rattle.pec_ledger.specs.Ledger.{HasOriginal, IsEnvelopeText, IsLicensed, IsLicensedText, Journals, accepted_in, body_at, ledger}
use Rattle.pec_ledger.specs.Lookups.{Accepted, HasPairsAt, accepted_at, addresses_of, at_home, decided_of, is_home, known_of, taken_of}
use Rattle.pec_ledger.specs.Network.{AreGenuine, IsGenuine}
use Rattle.pec_ledger.specs.Pairs.{Pair, pair_of, same_id}
use Rattle.pec_ledger.specs.Steps.{half}
use Rattle.pec_ledger.specs.Trade.{Framed, Seen, SeenEnvelope, Trade}
use Rattle.pec_ledger.specs.TradeLaws.{IsTrade}
use Rattle.pec_plays.specs.Composed.{IsComposed, IsFrameOf, IsFramedAck, IsFramedCharge, IsFramedEnvelope, IsFramedOutcome}
use Rattle.pec_plays.specs.Frames.{ack_of, charge_of, composed, due_frames, envelope_of, frame_of, original_in, original_taken, outcome_of, to_addressee, to_home, unless_empty, unless_nobody}
use Rattle.pec_plays.specs.Paths.{outcome_path}
use Rattle.pec_plays.proofs.ListLemmas.{from_filter, home_is}

-- what the ledger's laws say of rows and their texts, in journals that are Fit
pub record TextLaws (trade : Trade) (J : Journals) : Type 0 where
  pub originals : (id : Id) (message : Accepted) → accepted_in trade J id ≡ Some message → (original : Bytes) × HasOriginal trade J id message original
  pub takings : (by : ℕ) (id : Id) (row : Taken) → taken_of (ledger trade J by) id ≡ Some row
      → (bytes : Bytes) × (body_at (J by) row.entry ≡ Some bytes) × IsEnvelopeText trade J id by bytes
  pub outcomes : (provider : ℕ) (pair : Pair) (fate : Fate) → decided_of (ledger trade J provider) pair ≡ Some fate
      → IsLicensed trade J (letters.Outcome pair.id pair.recipient)
  pub homes : (provider : ℕ) (pair : Pair) (fate : Fate) → decided_of (ledger trade J provider) pair ≡ Some fate
      → trade.home pair.recipient ≡ Some provider
  pub envelopes : (id : Id) (to : ℕ) (bytes : Bytes) (is : IsEnvelopeText trade J id to bytes)
      → trade.view bytes ≡ Some (SeenEnvelope id is.message.moment is.original)

both : {A B : Type 0} (f : A → Option B) (o : Option A) (y : B) → option_and_then f o ≡ Some y → (x : A) × (o ≡ Some x) × (f x ≡ Some y)
both f None y e = absurd (none-some y e)
both f (Some x) y e = (x, refl, e)

where_true : {X : Type 0} (b : Bool) (o : Option X) (y : X) → (if b then o else None) ≡ Some y → (b ≡ true) × (o ≡ Some y)
where_true true o y e = (refl, e)
where_true false o y e = absurd (none-some y e)

where_false : {X : Type 0} (b : Bool) (o : Option X) (y : X) → (if b then None else o) ≡ Some y → o ≡ Some y
where_false true o y e = absurd (none-some y e)
where_false false o y e = e

made_so : (path : Path) (text : Bytes) (f : Framed) → unless_empty path text ≡ Some f → (f.path ≡ path) × (f.message ≡ text)
made_so path text f e =
    let made : Framed = record { path = path; message = text }
    in let same = sym (same_Some made f (where_false (length text == 0) (Some made) f e))
    in (ap (λ (x : Framed). x.path) same, ap (λ (x : Framed). x.message) same)

module _ (trade : Trade) (world : IsTrade trade) (J : Journals) (laws : TextLaws trade J) (p : ℕ) where
  somebody : (path : Path) (text : Bytes) (f : Framed) → unless_nobody path text ≡ Some f → (0 < length path) × (f.path ≡ path) × (f.message ≡ text)
  somebody [] text f e = absurd (none-some f e)
  somebody (a ∷ path) text f e = let made = made_so (a ∷ path) text f e in (omega arith, made.0, made.1)

  some_pair : (to : ℕ) (m : Accepted) (xs : Path) → at_home trade to (addresses_of m.facts) ≡ xs → 0 < length xs → HasPairsAt trade m to
  some_pair to m [] e l = absurd (omega arith)
  some_pair to m (a ∷ xs) e l =
      let kept = from_filter (λ (address : Bytes). is_home to (trade.home address)) (addresses_of m.facts) a (subst (λ (l : Path). Contains l a) (sym e) (0, omega arith, refl))
      in (a, kept.0, home_is to (trade.home a) kept.1)

  same_bytes : (o : Option Bytes) (a b : Bytes) → o ≡ Some a → o ≡ Some b → a ≡ b
  same_bytes o a b e f = same_Some a b (sym e ∙ f)

  envelope_made : (id : Id) (to : ℕ) (m : Accepted) (f : Framed) → id.provider ≡ p → accepted_at (ledger trade J p) id.number ≡ Some m
      → envelope_of trade p (J p) id to m ≡ Some f → IsFramedEnvelope trade J id to f
  envelope_made id to m f ours accepted e =
      let mine : accepted_in trade J id ≡ Some m = subst (λ (q : ℕ). accepted_at (ledger trade J q) id.number ≡ Some m) (sym ours) accepted
      in let has = laws.originals id m mine
      in let made = both (λ (original : Bytes). unless_nobody (at_home trade to (addresses_of m.facts)) (trade.envelope_text id m.moment original)) (body_at (J p) m.entry) f e
      in let same : has.0 ≡ made.0 = same_bytes (body_at (J p) m.entry) has.0 made.0 (subst (λ (q : ℕ). body_at (J q) m.entry ≡ Some has.0) ours has.1.bytes) made.1
      in let parts = somebody (at_home trade to (addresses_of m.facts)) (trade.envelope_text id m.moment made.0) f made.2
      in record {
        text = record {
          message = m;
          original = made.0;
          is = subst (λ (o : Bytes). HasOriginal trade J id m o) same has.1;
          pairs = some_pair to m (at_home trade to (addresses_of m.facts)) refl parts.0;
          text = parts.2;
        };
        path = parts.1;
      }

  -- the original in the envelope that was taken is that of the message
  seen_original : (seen : Option Seen) (id : Id) (moment : ℕ) (original other : Bytes) → seen ≡ Some (SeenEnvelope id moment original) → original_in id seen ≡ Some other → original ≡ other
  seen_original seen id moment original other e f = same_Some original other (where_true (same_id id id) (Some original) other (sym (ap (original_in id) e) ∙ f)).1

  taken_original : (id : Id) (row : Taken) (original : Bytes) → taken_of (ledger trade J p) id ≡ Some row → original_taken trade p (J p) id row ≡ Some original
      → (m : Accepted) × HasOriginal trade J id m original
  taken_original id row original taken e =
      let envelope = laws.takings p id row taken
      in let made = both (λ (bytes : Bytes). original_in id (trade.view bytes)) (body_at (J p) row.entry) original e
      in let same : made.0 ≡ envelope.0 = same_bytes (body_at (J p) row.entry) made.0 envelope.0 made.1 envelope.1
      in let seen : original_in id (trade.view envelope.0) ≡ Some original = subst (λ (b : Bytes). original_in id (trade.view b) ≡ Some original) same made.2
      in let is = envelope.2
      in let equal = seen_original (trade.view envelope.0) id is.message.moment is.original original (laws.envelopes id p envelope.0 is) seen
      in (is.message, subst (λ (o : Bytes). HasOriginal trade J id is.message o) equal is.is)

  charge_made : (id : Id) (row : Taken) (f : Framed) → taken_of (ledger trade J p) id ≡ Some row → charge_of trade p (J p) id row ≡ Some f → IsFramedCharge trade J id p f
  charge_made id row f taken e =
      let made = both _ (original_taken trade p (J p) id row) f e
      in let has = taken_original id row made.0 taken made.1
      in let parts = made_so _ _ f made.2
      in record {
        text = record { message = has.0; original = made.0; is = has.1; row = row; taken = taken; text = parts.1 };
        path = parts.0;
      }

  addressed : (id : Id) (decision : Decision) (text : Bytes) (found : Option Facts) (facts : Facts) (f : Framed) → found ≡ Some facts
      → to_addressee trade p (J p) id decision text found ≡ Some f → (f.path ≡ outcome_path trade id decision facts.sender) × (f.message ≡ text)
  addressed id decision text None facts f e made = absurd (none-some f made)
  addressed id decision text (Some other) facts f e made =
      subst (λ (x : Facts). (f.path ≡ outcome_path trade id decision x.sender) × (f.message ≡ text)) (same_Some other facts e)
      (made_so (outcome_path trade id decision other.sender) text f made)

  outcome_made : (id : Id) (recipient : Bytes) (fate : Fate) (row : Taken) (f : Framed) → decided_of (ledger trade J p) (pair_of id recipient) ≡ Some fate
      → taken_of (ledger trade J p) id ≡ Some row → outcome_of trade p (J p) id recipient fate row ≡ Some f → IsFramedOutcome trade J (pair_of id recipient) f
  outcome_made id recipient fate row f decided taken e =
      let made = both _ (original_taken trade p (J p) id row) f e
      in let has = taken_original id row made.0 taken made.1
      in let parts = addressed id fate.decision _ (trade.facts made.0) has.0.facts f has.1.facts made.2
      in record {
        text = record {
          message = has.0;
          original = made.0;
          is = has.1;
          home = p;
          at_home = laws.homes p (pair_of id recipient) fate decided;
          fate = fate;
          decided = decided;
          text = parts.1;
        };
        path = parts.0;
      }

  homeward : (text : Bytes) (found : Option ℕ) (f : Framed) → to_home trade p (J p) text found ≡ Some f
      → (home : ℕ) × (found ≡ Some home) × (f.path ≡ trade.receipts home ∷ []) × (f.message ≡ text)
  homeward text None f e = absurd (none-some f e)
  homeward text (Some home) f e = let made = made_so (trade.receipts home ∷ []) text f e in (home, refl, made.0, made.1)

  ack_made : (id : Id) (recipient : Bytes) (row : Known) (m : Accepted) (f : Framed) → id.provider ≡ p → known_of (ledger trade J p) (pair_of id recipient) ≡ Some row
      → accepted_at (ledger trade J p) id.number ≡ Some m → ack_of trade p (J p) id recipient row m ≡ Some f → IsFramedAck trade J (pair_of id recipient) f
  ack_made id recipient row m f ours known accepted e =
      let mine : accepted_in trade J id ≡ Some m = subst (λ (q : ℕ). accepted_at (ledger trade J q) id.number ≡ Some m) (sym ours) accepted
      in let has = laws.originals id m mine
      in let made = both _ (body_at (J p) m.entry) f e
      in let same : has.0 ≡ made.0 = same_bytes (body_at (J p) m.entry) has.0 made.0 (subst (λ (q : ℕ). body_at (J q) m.entry ≡ Some has.0) ours has.1.bytes) made.1
      in let parts = homeward _ (trade.home recipient) f made.2
      in record {
        text = record {
          message = m;
          original = made.0;
          is = subst (λ (o : Bytes). HasOriginal trade J id m o) same has.1;
          row = row;
          known = subst (λ (q : ℕ). known_of (ledger trade J q) (pair_of id recipient) ≡ Some row) (sym ours) known;
          text = subst (λ (q : ℕ). f.message ≡ ack_text id recipient row made.0 q) (sym ours) parts.3;
        };
        home = parts.0;
        at_home = parts.1;
        path = parts.2;
      }
    where
      ack_text : Id → Bytes → Known → Bytes → ℕ → Bytes
      ack_text id recipient row original by =
          trade.receipt_text (record { kind = kinds.Ack; id = id; by = by; moment = row.moment; recipient = Some recipient }) original

  pub composed_is : (letter : Letter) (f : Framed) → composed trade p (J p) letter ≡ Some f → IsComposed trade J p letter f
  unfolding ledger
  composed_is (letters.Envelope id to) f e =
      let test = where_true (id.provider == p) _ f e
      in let ours = eqb-true id.provider p test.0
      in let made = both (envelope_of trade p (J p) id to) (accepted_at (half trade p (J p)) id.number) f test.1
      in (ours, envelope_made id to made.0 f ours made.1 made.2)
  composed_is (letters.Charge id by) f e =
      let test = where_true (by == p) _ f e
      in let ours = eqb-true by p test.0
      in let made = both (charge_of trade p (J p) id) (taken_of (half trade p (J p)) id) f test.1
      in (ours, subst (λ (q : ℕ). IsFramedCharge trade J id q f) (sym ours) (charge_made id made.0 f made.1 made.2))
  composed_is (letters.Outcome id recipient) f e =
      let found = both _ (decided_of (half trade p (J p)) (pair_of id recipient)) f e
      in let made = both (outcome_of trade p (J p) id recipient found.0) (taken_of (half trade p (J p)) id) f found.2
      in (laws.homes p (pair_of id recipient) found.0 found.1, outcome_made id recipient found.0 made.0 f found.1 made.1 made.2)
  composed_is (letters.Ack id recipient) f e =
      let test = where_true (id.provider == p) _ f e
      in let ours = eqb-true id.provider p test.0
      in let found = both _ (known_of (half trade p (J p)) (pair_of id recipient)) f test.1
      in let made = both (ack_of trade p (J p) id recipient found.0) (accepted_at (half trade p (J p)) id.number) f found.2
      in (ours, ack_made id recipient found.0 made.0 f ours found.1 made.1 made.2)

  pub frame_is : (letter : Letter) (frame : Bytes) → frame_of trade p (J p) letter ≡ Some frame → IsFrameOf trade J p letter frame
  unfolding frame_of
  frame_is letter frame e =
      let made = both (λ (f : Framed). trade.framed f.path f.message) (composed trade p (J p) letter) frame e
      in record { framed = made.0; unframed = world.frames made.0.path made.0.message frame made.2; is = composed_is letter made.0 made.1 }

  -- ---- genuine frames

  licensed_by : (letter : Letter) (f : Framed) → IsComposed trade J p letter f → IsLicensedText trade J letter f.message
  licensed_by (letters.Envelope id to) f is = is.1.text
  licensed_by (letters.Charge id by) f is = is.1.text
  licensed_by (letters.Outcome id recipient) f is = is.1.text
  licensed_by (letters.Ack id recipient) f is = is.1.text

  frame_genuine : (letter : Letter) (frame : Bytes) → frame_of trade p (J p) letter ≡ Some frame → IsGenuine trade J frame
  frame_genuine letter frame e = λ (framed : Framed) (u : trade.unframed frame ≡ Some framed) (o : trade.opens framed.message ≡ true).
      let put = frame_is letter frame e
      in let same = same_Some put.framed framed (sym put.unframed ∙ u)
      in inl (letter, subst (λ (f : Framed). IsLicensedText trade J letter f.message) same (licensed_by letter put.framed put.is))

  all_frames : (ls : List Letter) → AreGenuine trade J (filter_map (frame_of trade p (J p)) ls)
  all_frames [] = All-nil (IsGenuine trade J)
  all_frames (l ∷ ls) = with_one (frame_of trade p (J p) l) refl (all_frames ls)
    where
      with_one : (o : Option Bytes) → frame_of trade p (J p) l ≡ o → AreGenuine trade J (filter_map (frame_of trade p (J p)) ls)
          → AreGenuine trade J (cons_option o (filter_map (frame_of trade p (J p)) ls))
      with_one None e rest = rest
      with_one (Some frame) e rest = All-cons (IsGenuine trade J) frame (filter_map (frame_of trade p (J p)) ls) (frame_genuine l frame e) rest

  pub due_genuine : (to room : ℕ) (owed : List Letter) → AreGenuine trade J (due_frames trade p (J p) to room owed)
  unfolding due_frames
  due_genuine to room owed = all_frames (due_letters trade p (half trade p (J p)) to room owed)
