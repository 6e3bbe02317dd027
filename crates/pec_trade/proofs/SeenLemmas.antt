-- What is seen in a message: an envelope first, or else a receipt, and never both.
use Rattle.std.proofs.Common.{◌≡◌, ℕ, Bool, true, false, cond, List, [], Option, None, Some, Result, Ok, Err, codes, refl, ap, sym, ◌∙◌, subst}
use Rattle.std.specs.Prelude.{is_some}
use Rattle.std.specs.Option.{option_and_then, option_map}
use Rattle.std.specs.Result.{result_ok}
use Rattle.std.specs.Str.{bytes_eq}
use Rattle.std.proofs.lemmas.Bool.{and_parts, false≢true}
use Rattle.std.proofs.lemmas.Option.{none-some}
use Rattle.pec_types.specs.Answers.{TellsExactly}
use Rattle.pec_types.specs.Bytes.{Bytes}
use Rattle.pec_types.specs.Message.{Id}
use Rattle.pec_types.specs.Results.{◌>>=◌}
use Rattle.pec_types.specs.declared.disputes.Disputed.TheVariants as disputed
use Rattle.pec_types.specs.declared.disputes.LetterFault.{LetterFault}
use Rattle.pec_types.specs.declared.disputes.LetterFault.TheVariants.{Seal, NotThis, Disagree}
use Rattle.pec_types.specs.declared.messages.Facts.{Facts}
use Rattle.pec_heads.specs.FactsReading.{facts_of}
use Rattle.pec_heads.specs.HeadReading.{read_of}
use Rattle.pec_heads.specs.Heads.{NamedValue}
use Rattle.pec_heads.specs.declared.faults.HeadFault.{HeadFault}
use Rattle.pec_directory.specs.Directory.{Provider}
use Rattle.pec_directory.specs.Ids.{id_of}
use Rattle.pec_seal.specs.Opening.{first_line, line_at, opened_of}
use Rattle.pec_seal.specs.Seals.{Seals}
use Rattle.pec_seal.specs.declared.seals.SealFault.{SealFault}
use Rattle.pec_seal.specs.declared.seals.SealFault.TheVariants.{NoSeal}
use Rattle.pec_letter_parts.specs.Asking.{claim, known}
use Rattle.pec_letter_parts.specs.Contents.{message_name}
use Rattle.pec_letter_parts.specs.Headings.{angled}
use Rattle.pec_letter_parts.specs.Letters.{IsLetter, Letter, body_of}
use Rattle.pec_letter_parts.specs.LettersReading.{headed_of, letter_of}
use Rattle.pec_letter_parts.specs.declared.headings.Marking.{Marking}
use Rattle.pec_letter_parts.specs.declared.headings.Marking.TheVariants as markings
use Rattle.pec_letter_facts.specs.Questions.{id_named, is_dated, is_first, is_from_home, marking_of}
use Rattle.pec_letters.specs.Seen.{IsSeen, IsUnseen, Seen as EnvelopeSeen, are_recipients, certifies_envelope, facts_in as facts_of_sender, facts_read, is_envelope, is_marked, is_sealed_at_home, is_wished, seen_of, with_sender}
use Rattle.pec_letters.specs.SeenReading.{view as envelope_view}
use Rattle.pec_receipts.specs.SeenReading.{view as receipt_view}
use Rattle.pec_receipts.specs.declared.reading.ReceiptView.{ReceiptView}
use Rattle.pec_ledger.specs.OfDirectory.{facts_in}
use Rattle.pec_ledger.specs.Trade.{Seen, SeenEnvelope, SeenReceipt}
use Rattle.pec_trade.specs.Texts.{envelope_seen, or_receipt, receipt_seen, seen_in}

-- ---- steps of a table

claimed : {Y E : Type 0} (t : Bool) (fault : E) (next : Unit → Result Y E) (y : Y) → (claim t fault >>= next) ≡ Ok y → (t ≡ true) × (next tt ≡ Ok y)
claimed true fault next y e = (refl, e)
claimed false fault next y e = absurd cc

known_as : {X Y E : Type 0} (o : Option X) (fault : E) (next : X → Result Y E) (y : Y) → (known o fault >>= next) ≡ Ok y → (x : X) × ((o ≡ Some x) × (next x ≡ Ok y))
known_as None fault next y e = absurd cc
known_as (Some x) fault next y e = (x, (refl, e))

ok_is : {X E : Type 0} (r : Result X E) (x y : X) → r ≡ Ok x → r ≡ Ok y → x ≡ y
ok_is r x y a b = cc

-- what a letter that is seen as an envelope has passed
pub record Passed (providers : List Provider) (letter : Letter) (seen : EnvelopeSeen) : Type 0 where
  pub envelope : is_envelope letter ≡ true
  pub id : id_named providers (codes "Message-ID") letter ≡ Some seen.id
  pub facts : facts_of_sender seen.original letter ≡ Some seen.facts

module _ (providers : List Provider) (letter : Letter) where
  -- the rows from each one on, from the last to the first

  abbrev shown : Bytes → Id → Facts → EnvelopeSeen
  shown original id facts = record { id = id; moment = letter.cert.stamp.moment; facts = facts; original = original }

  abbrev on_date : Bytes → Id → Facts → Result EnvelopeSeen LetterFault
  on_date original id facts = claim (is_dated letter) (Disagree disputed.Moment) >>= λ date. Ok (shown original id facts)

  abbrev on_wish : Bytes → Id → Facts → Result EnvelopeSeen LetterFault
  on_wish original id facts = claim (is_wished facts letter) (Disagree disputed.Wish) >>= λ wish. on_date original id facts

  abbrev on_recipients : Bytes → Id → Facts → Result EnvelopeSeen LetterFault
  on_recipients original id facts = claim (are_recipients providers facts letter) (Disagree disputed.Recipient) >>= λ recipients. on_wish original id facts

  abbrev on_facts : Bytes → Id → Result EnvelopeSeen LetterFault
  on_facts original id = known (facts_of_sender original letter) (Disagree disputed.Sender) >>= λ facts. on_recipients original id facts

  abbrev on_home : Bytes → Id → Result EnvelopeSeen LetterFault
  on_home original id = claim (is_from_home providers id letter) (Disagree disputed.Sender) >>= λ home. on_facts original id

  abbrev on_sealer : Bytes → Id → Result EnvelopeSeen LetterFault
  on_sealer original id = claim (is_sealed_at_home providers id letter) (Disagree disputed.Sealer) >>= λ sealer. on_home original id

  abbrev on_id : Bytes → Result EnvelopeSeen LetterFault
  on_id original = known (id_named providers (codes "Message-ID") letter) (Disagree disputed.Identifier) >>= λ id. on_sealer original id

  abbrev on_original : Result EnvelopeSeen LetterFault
  on_original = known (body_of message_name letter.parts) NotThis >>= λ original. on_id original

  passed_by : (original : Bytes) (id : Id) (facts : Facts) (seen : EnvelopeSeen) → shown original id facts ≡ seen → is_envelope letter ≡ true
      → id_named providers (codes "Message-ID") letter ≡ Some id → facts_of_sender original letter ≡ Some facts → Passed providers letter seen
  passed_by original id facts seen same envelope named found = subst (λ (s : EnvelopeSeen). Passed providers letter s) same (record { envelope = envelope; id = named; facts = found })

  pub passed : (seen : EnvelopeSeen) → seen_of providers letter ≡ Ok seen → Passed providers letter seen
  unfolding seen_of
  passed seen e =
      let a = claimed (is_envelope letter) NotThis (λ kind. on_original) seen e
      in let original = known_as (body_of message_name letter.parts) NotThis (λ original. on_id original) seen a.1
      in let id = known_as (id_named providers (codes "Message-ID") letter) (Disagree disputed.Identifier) (λ id. on_sealer original.0 id) seen original.1.1
      in let d = claimed (is_sealed_at_home providers id.0 letter) (Disagree disputed.Sealer) (λ sealer. on_home original.0 id.0) seen id.1.1
      in let h = claimed (is_from_home providers id.0 letter) (Disagree disputed.Sender) (λ home. on_facts original.0 id.0) seen d.1
      in let facts = known_as (facts_of_sender original.0 letter) (Disagree disputed.Sender) (λ facts. on_recipients original.0 id.0 facts) seen h.1
      in let r = claimed (are_recipients providers facts.0 letter) (Disagree disputed.Recipient) (λ recipients. on_wish original.0 id.0 facts.0) seen facts.1.1
      in let w = claimed (is_wished facts.0 letter) (Disagree disputed.Wish) (λ wish. on_date original.0 id.0 facts.0) seen r.1
      in let t = claimed (is_dated letter) (Disagree disputed.Moment) (λ date. Ok (shown original.0 id.0 facts.0)) seen w.1
      in passed_by original.0 id.0 facts.0 seen (ok_is (Ok (shown original.0 id.0 facts.0)) (shown original.0 id.0 facts.0) seen refl t.1) a.0 id.1.0 facts.1.0

-- ---- what has passed

marked_by : (marked : Option (Marking × Bytes)) → is_marked marked ≡ true → (word : Bytes) × (marked ≡ Some (markings.Transport, word))
marked_by None e = absurd (false≢true e)
marked_by (Some (markings.Transport, word)) e = (word, refl)
marked_by (Some (markings.Receipt, word)) e = absurd (false≢true e)
marked_by (Some (markings.Reply, word)) e = absurd (false≢true e)

-- its head says that it is an envelope's
pub envelope_marked : (letter : Letter) → is_envelope letter ≡ true → (word : Bytes) × (marking_of letter.head ≡ Some (markings.Transport, word))
unfolding is_envelope
envelope_marked letter e =
    marked_by (marking_of letter.head) (and_parts (is_marked (marking_of letter.head)) (certifies_envelope letter.cert) e).0

abbrev if_named : {X : Type 0} → Bool → Option X → Option X
if_named t found = cond t found None

abbrev of_read : Result (List NamedValue × ℕ) HeadFault → Option Facts
of_read r = option_and_then facts_of (option_map (λ (read : List NamedValue × ℕ). read.0) (result_ok r))

named_at : (t : Bool) (found : Option Id) (id : Id) → (if_named t found) ≡ Some id → found ≡ Some id
named_at true found id e = e
named_at false found id e = absurd (none-some id e)

-- it is of a message of the directory's providers
pub id_is : (providers : List Provider) (field : Bytes) (letter : Letter) (id : Id) → id_named providers field letter ≡ Some id → id_of providers letter.cert.id ≡ Some id
unfolding id_named
id_is providers field letter id e = named_at (is_first field (angled letter.cert.id) letter.head) (id_of providers letter.cert.id) id e

sent_by : (sender : Bytes) (found : Option Facts) (facts : Facts) → with_sender sender found ≡ Some facts → found ≡ Some facts
sent_by sender None facts e = absurd (none-some facts e)
sent_by sender (Some other) facts e = by (bytes_eq other.sender sender) e
  where
    by : (t : Bool) → if_named t (Some other) ≡ Some facts → Some other ≡ Some facts
    by true e = e
    by false e = absurd (none-some facts e)

read_by : (r : Result (List NamedValue × ℕ) HeadFault) (facts : Facts) → facts_read (result_ok r) ≡ Some facts → of_read r ≡ Some facts
read_by (Ok read) facts e = e
read_by (Err fault) facts e = absurd (none-some facts e)

-- the facts are the original's
pub facts_are : (original : Bytes) (letter : Letter) (facts : Facts) → facts_of_sender original letter ≡ Some facts → facts_in original ≡ Some facts
unfolding facts_of_sender facts_in
facts_are original letter facts e = read_by (read_of original) facts (sent_by letter.cert.sender (facts_read (result_ok (read_of original))) facts e)

-- ---- views

-- what the laws of letters and receipts say
pub record Views (seals : Seals) : Type 0 where
  pub told : (providers : List Provider) (text : Bytes) → TellsExactly (IsSeen seals providers text) (IsUnseen seals providers text) (envelope_view seals providers text)
  pub other : (providers : List Provider) (text : Bytes) (letter : Letter) (word : Bytes) → IsLetter seals text letter
      → marking_of letter.head ≡ Some (markings.Transport, word) → receipt_view seals providers text ≡ Err NotThis

module _ (seals : Seals) (providers : List Provider) (text : Bytes) where
  pub as_envelope : (seen : EnvelopeSeen) → envelope_view seals providers text ≡ Ok seen → seen_in seals providers text ≡ Some (envelope_seen seen)
  unfolding seen_in
  as_envelope seen e = ap (λ (r : Result EnvelopeSeen LetterFault). or_receipt r (receipt_view seals providers text)) e

  pub in_neither : (fault other : LetterFault) → envelope_view seals providers text ≡ Err fault → receipt_view seals providers text ≡ Err other → seen_in seals providers text ≡ None
  unfolding seen_in
  in_neither fault other e f =
      ap (λ (r : Result EnvelopeSeen LetterFault). or_receipt r (receipt_view seals providers text)) e ∙ ap (or_receipt (Err fault)) f

  clash : (r : Result ReceiptView LetterFault) (seen : ReceiptView) (fault : LetterFault) → r ≡ Ok seen → r ≡ Err fault → ⊥
  clash r seen fault a b = absurd cc

  receipt_by : Views seals → (seen : ReceiptView) → receipt_view seals providers text ≡ Ok seen → (r : Result EnvelopeSeen LetterFault) → envelope_view seals providers text ≡ r
      → or_receipt r (receipt_view seals providers text) ≡ Some (receipt_seen seen)
  receipt_by views seen e (Err fault) f = ap (or_receipt (Err fault)) e
  receipt_by views seen e (Ok envelope) f =
      let is = ((views.told providers text).value envelope).0 f
      in let marked = envelope_marked is.0 (passed providers is.0 envelope is.1.1).envelope
      in absurd (clash (receipt_view seals providers text) seen NotThis e (views.other providers text is.0 marked.0 is.1.0 marked.1))

  pub as_receipt : Views seals → (seen : ReceiptView) → receipt_view seals providers text ≡ Ok seen → seen_in seals providers text ≡ Some (receipt_seen seen)
  unfolding seen_in
  as_receipt views seen e = receipt_by views seen e (envelope_view seals providers text) refl

  -- ---- texts that don't open

  headed_none : (fault : SealFault) → opened_of seals text ≡ Err fault → headed_of seals text ≡ Err Seal
  unfolding headed_of
  headed_none fault e = rw e refl

  letter_none : headed_of seals text ≡ Err Seal → letter_of seals text ≡ Err Seal
  unfolding letter_of
  letter_none e = rw e refl

  envelope_none : letter_of seals text ≡ Err Seal → envelope_view seals providers text ≡ Err Seal
  unfolding envelope_view
  envelope_none e = rw e refl

  receipt_none : headed_of seals text ≡ Err Seal → receipt_view seals providers text ≡ Err Seal
  unfolding receipt_view
  receipt_none e = rw e refl

  pub unopened : (fault : SealFault) → opened_of seals text ≡ Err fault → seen_in seals providers text ≡ None
  unopened fault e =
      let headed = headed_none fault e in in_neither Seal Seal (envelope_none (letter_none headed)) (receipt_none headed)

  opens_by : (seen : Seen) → seen_in seals providers text ≡ Some seen → (r : Result (ℕ × Bytes) SealFault) → opened_of seals text ≡ r → is_some (result_ok r) ≡ true
  opens_by seen e (Ok found) f = refl
  opens_by seen e (Err fault) f = absurd (none-some seen (sym (unopened fault f) ∙ e))

  -- what is seen opens
  pub opens : (seen : Seen) → seen_in seals providers text ≡ Some seen → is_some (result_ok (opened_of seals text)) ≡ true
  opens seen e = opens_by seen e (opened_of seals text) refl

  -- ---- what is seen as an envelope

  abbrev id_shown : Option Seen → Id → Id
  id_shown None id = id
  id_shown (Some (SeenEnvelope other moment original)) id = other
  id_shown (Some (SeenReceipt receipt)) id = id

  abbrev original_shown : Option Seen → Bytes
  original_shown None = []
  original_shown (Some (SeenEnvelope id moment original)) = original
  original_shown (Some (SeenReceipt receipt)) = []

  abbrev is_receipt : Option Seen → Bool
  is_receipt None = true
  is_receipt (Some (SeenEnvelope id moment original)) = false
  is_receipt (Some (SeenReceipt receipt)) = true

  -- an envelope, with the letter in which it is seen
  pub record Envelope (id : Id) (original : Bytes) : Type 0 where
    pub seen : EnvelopeSeen
    pub letter : Letter
    pub is : envelope_view seals providers text ≡ Ok seen
    pub letter_is : IsLetter seals text letter
    pub has_passed : Passed providers letter seen
    pub id_is : seen.id ≡ id
    pub original_is : seen.original ≡ original

  not_receipt : (r : Result ReceiptView LetterFault) (fault : LetterFault) → is_receipt (or_receipt (Err fault) r) ≡ true
  not_receipt (Ok seen) fault = refl
  not_receipt (Err other) fault = refl

  envelope_by : Views seals → (id : Id) (moment : ℕ) (original : Bytes) (r : Result EnvelopeSeen LetterFault) → envelope_view seals providers text ≡ r
      → or_receipt r (receipt_view seals providers text) ≡ Some (SeenEnvelope id moment original) → Envelope id original
  envelope_by views id moment original (Ok seen) f e =
      let is = ((views.told providers text).value seen).0 f
      in record {
        seen = seen;
        letter = is.0;
        is = f;
        letter_is = is.1.0;
        has_passed = passed providers is.0 seen is.1.1;
        id_is = ap (λ (s : Option Seen). id_shown s id) e;
        original_is = ap original_shown e;
      }
  envelope_by views id moment original (Err fault) f e =
      absurd (false≢true (sym (ap is_receipt e) ∙ not_receipt (receipt_view seals providers text) fault))

  pub the_envelope : Views seals → (id : Id) (moment : ℕ) (original : Bytes) → seen_in seals providers text ≡ Some (SeenEnvelope id moment original) → Envelope id original
  unfolding seen_in
  the_envelope views id moment original e = envelope_by views id moment original (envelope_view seals providers text) refl e

-- nothing is seen in nothing
nothing_opens : (seals : Seals) → opened_of seals [] ≡ Err NoSeal
unfolding opened_of line_at first_line
nothing_opens seals = refl

pub nothing_seen : (seals : Seals) (providers : List Provider) → seen_in seals providers [] ≡ None
nothing_seen seals providers = unopened seals providers [] NoSeal (nothing_opens seals)
