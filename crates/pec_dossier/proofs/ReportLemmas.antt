-- What a genuine letter attests is seen in its text: a receipt is no envelope, since a head that says that it is an
-- envelope's is judged as one.
use Rattle.std.proofs.Common.{◌≡◌, ℕ, Bool, true, false, List, Option, None, Some, Result, Ok, Err, refl, ap, sym, subst, ◌∙◌}
use Rattle.std.specs.Prelude.{◌==◌, if◌then◌else◌}
use Rattle.std.proofs.lemmas.Bool.{and_parts, false≢true}
use Rattle.std.proofs.lemmas.Option.{none-some}
use Rattle.pec_types.specs.Bytes.{Bytes}
use Rattle.pec_types.specs.Results.{◌>>=◌}
use Rattle.pec_types.specs.declared.disputes.LetterFault.{LetterFault}
use Rattle.pec_types.specs.declared.disputes.LetterFault.TheVariants.{Body}
use Rattle.pec_heads.specs.FactsOfHeads.{first_value}
use Rattle.pec_heads.specs.Heads.{NamedValue}
use Rattle.pec_bodies.specs.Multiparts.{ReadPart}
use Rattle.pec_bodies.specs.PartsReading.{parts_of}
use Rattle.pec_cert.specs.declared.certificates.CertData.{CertData}
use Rattle.pec_directory.specs.Directory.{Provider}
use Rattle.pec_seal.specs.Seals.{Seals}
use Rattle.pec_letter_parts.specs.Asking.{readable}
use Rattle.pec_letter_parts.specs.Headings.{marking_name}
use Rattle.pec_letter_parts.specs.Letters.{Headed, Letter, is_value}
use Rattle.pec_letter_parts.specs.LettersReading.{certified_by, headed_of, letter_in, letter_of}
use Rattle.pec_letter_parts.specs.declared.headings.Marking.TheVariants.{Transport, Receipt, Reply}
use Rattle.pec_letter_facts.specs.Questions.{marked_or, marking_of}
use Rattle.pec_letters.specs.Envelopes.{envelope_word}
use Rattle.pec_letters.specs.Seen.{Seen as EnvelopeSeen, certifies_envelope, is_envelope, is_marked, seen_of}
use Rattle.pec_letters.specs.SeenReading.{view as envelope_view}
use Rattle.pec_receipts.specs.SeenReading.{view as receipt_view}
use Rattle.pec_receipts.specs.declared.reading.ReceiptView.{ReceiptView}
use Rattle.pec_trade.specs.Texts.{or_receipt, receipt_seen, seen_in}
use Rattle.pec_check.specs.Findings.{Attested, attested_by}
use Rattle.pec_check.specs.Genuine.{envelope_report, is_for_envelope, receipt_report}
use Rattle.pec_check.specs.GenuineReading.{envelope_told, of_letter, receipt_told, report_of, said, sealed_rightly, sealer_of}
use Rattle.pec_check.specs.declared.checking.CheckFault.{CheckFault}
use Rattle.pec_check.specs.declared.checking.CheckFault.TheVariants.{WrongProvider}
use Rattle.pec_check.specs.declared.reports.Report.{Report}

-- ---- chains

chained : {A B E : Type 0} (given : Result A E) (next : A → Result B E) (b : B) → (given >>= next) ≡ Ok b
    → (a : A) × (given ≡ Ok a) × (next a ≡ Ok b)
chained (Ok a) next b e = (a, refl, e)
chained (Err fault) next b e = absurd cc

same_ok : {A E : Type 0} (r : Result A E) (a b : A) → r ≡ Ok a → r ≡ Ok b → a ≡ b
same_ok r a b e f = cc

-- ---- heads

-- the letter behind a head has that head
letter_head : (read : Headed) (letter : Letter) → letter_in read ≡ Ok letter → letter.head ≡ read.head
unfolding letter_in
letter_head read letter e =
    let made = λ (parts : List ReadPart) (cert : CertData).
    (let l : Letter = record { sealer = read.sealer; head = read.head; parts = parts; cert = cert } in l)
    in let with_cert = λ (parts : List ReadPart) (cert : CertData).
    (let r : Result Letter LetterFault = Ok (made parts cert) in r)
    in let parts = chained (readable (parts_of read.head read.body) Body)
    (λ (parts : List ReadPart). certified_by parts >>= with_cert parts) letter e
    in let cert = chained (certified_by parts.0) (with_cert parts.0) letter parts.2
    in sym (ap (λ (l : Letter). l.head)
    (same_ok (with_cert parts.0 cert.0) (made parts.0 cert.0) letter refl cert.2))

-- a head that is marked as an envelope's says that it is one
transport_first : (head : List NamedValue) → is_marked (marking_of head) ≡ true
    → is_value envelope_word (first_value (marking_name Transport) head) ≡ true
unfolding marking_of
transport_first head e =
    by (first_value (marking_name Reply) head) (first_value (marking_name Receipt) head)
    (first_value (marking_name Transport) head) e
  where
    by : (reply receipt transport : Option Bytes)
        → is_marked (marked_or Reply reply (marked_or Receipt receipt (marked_or Transport transport None))) ≡ true
        → is_value envelope_word transport ≡ true
    by (Some value) receipt transport e = absurd (false≢true e)
    by None (Some value) transport e = absurd (false≢true e)
    by None None None e = absurd (false≢true e)
    by None None (Some value) e = e

-- what is seen as an envelope is one by its head and its certificate
seen_so : (providers : List Provider) (letter : Letter) (seen : EnvelopeSeen) → seen_of providers letter ≡ Ok seen
    → is_envelope letter ≡ true
unfolding seen_of
seen_so providers letter seen e = by (is_envelope letter) refl
  where
    by : (b : Bool) → is_envelope letter ≡ b → is_envelope letter ≡ true
    by true f = f
    by false f = let none = rw f at e in absurd cc

marked_so : (letter : Letter) → is_envelope letter ≡ true → is_marked (marking_of letter.head) ≡ true
unfolding is_envelope
marked_so letter e = (and_parts (is_marked (marking_of letter.head)) (certifies_envelope letter.cert) e).0

module _ (seals : Seals) (providers : List Provider) (text : Bytes) where
  envelope_for : (read : Headed) → headed_of seals text ≡ Ok read → (seen : EnvelopeSeen)
      → envelope_view seals providers text ≡ Ok seen → is_for_envelope read ≡ true
  unfolding envelope_view letter_of
  envelope_for read headed seen e =
      let letter = chained (headed_of seals text >>= letter_in) (seen_of providers) seen e
      in let behind = chained (headed_of seals text) letter_in letter.0 letter.1
      in let same : behind.0 ≡ read = same_ok (headed_of seals text) behind.0 read behind.1 headed
      in let heads : letter.0.head ≡ read.head =
      letter_head behind.0 letter.0 behind.2 ∙ ap (λ (r : Headed). r.head) same
      in let marked = marked_so letter.0 (seen_so providers letter.0 seen letter.2)
      in transport_first read.head (subst (λ (h : List NamedValue). is_marked (marking_of h) ≡ true) heads marked)

  receipt_there : (read : Headed) → headed_of seals text ≡ Ok read → is_for_envelope read ≡ false
      → (seen : ReceiptView) → receipt_view seals providers text ≡ Ok seen
      → seen_in seals providers text ≡ Some (receipt_seen seen)
  unfolding seen_in
  receipt_there read headed other seen e = by (envelope_view seals providers text) refl
    where
      by : (r : Result EnvelopeSeen LetterFault) → envelope_view seals providers text ≡ r
          → or_receipt (envelope_view seals providers text) (receipt_view seals providers text)
          ≡ Some (receipt_seen seen)
      by (Err fault) f = rw f (ap (or_receipt (Err fault)) e)
      by (Ok envelope) f = absurd (false≢true (sym other ∙ envelope_for read headed envelope f))

  -- ---- reports

  -- a report of a receipt, and what is seen in its text
  pub record OfReceipt (report : Report) : Type 0 where
    pub read : Headed
    pub seen : ReceiptView
    pub there : seen_in seals providers text ≡ Some (receipt_seen seen)
    pub is : report ≡ receipt_report read seen

  rightly : (sealer : Option ℕ) (by : ℕ) (told report : Report) → sealed_rightly sealer by told ≡ Ok report
      → report ≡ told
  rightly None by told report e = sym (same_ok (sealed_rightly None by told) told report refl e)
  rightly (Some provider) by told report e = so (provider == by) e
    where
      given : Result Report CheckFault
      given = Ok told

      so : (b : Bool) → (if b then given else Err (WrongProvider provider)) ≡ Ok report → report ≡ told
      so true e = sym (same_ok given told report refl e)
      so false e = absurd cc

  -- the fault of a letter, taken back
  of_ok : {X : Type 0} (r : Result X LetterFault) (x : X) → of_letter r ≡ Ok x → r ≡ Ok x
  of_ok (Ok y) x e = let same : y ≡ x = cc in ap Ok same
  of_ok (Err fault) x e = absurd cc

  -- an envelope attests nothing
  silent : (read : Headed) (seen : EnvelopeSeen) → attested_by (envelope_report read seen) ≡ None
  unfolding attested_by
  silent read seen = refl

  pub report_is : (report : Report) (one : Attested) → report_of seals providers text ≡ Ok report
      → attested_by report ≡ Some one → OfReceipt report
  unfolding report_of
  report_is report one e attests_so =
      let read = chained (of_letter (headed_of seals text))
      (λ (read : Headed). said seals providers text read (is_for_envelope read)) report e
      in by read.0 (of_ok (headed_of seals text) read.0 read.1) (is_for_envelope read.0) refl read.2
    where
      by : (read : Headed) → headed_of seals text ≡ Ok read → (b : Bool) → is_for_envelope read ≡ b
          → said seals providers text read (is_for_envelope read) ≡ Ok report → OfReceipt report
      by read headed true is e =
          let here = subst (λ (b : Bool). said seals providers text read b ≡ Ok report) is e
          in let seen = chained (of_letter (envelope_view seals providers text)) (envelope_told read) report here
          in let same = same_ok (envelope_told read seen.0) (envelope_report read seen.0) report refl seen.2
          in absurd (none-some one (sym (silent read seen.0) ∙ (ap attested_by same ∙ attests_so)))
      by read headed false is e =
          let here = subst (λ (b : Bool). said seals providers text read b ≡ Ok report) is e
          in let seen = chained (of_letter (receipt_view seals providers text)) (receipt_told providers read) report here
          in record {
            read = read;
            seen = seen.0;
            there = receipt_there read headed is seen.0 (of_ok (receipt_view seals providers text) seen.0 seen.1);
            is = rightly (sealer_of providers seen.0) seen.0.by (receipt_report read seen.0) report seen.2;
          }
