-- What is read is the one certificate of the text.
use Rattle.std.proofs.Common.{◌≡◌, ℕ, ◌-◌, ◌≤◌, List, [], ◌∷◌, ◌++◌, length, map, Option, Some, None, Ok, Err, refl, sym, ap, subst, ◌∙◌, inl, inr, arith, ℤ, pos}
use Rattle.std.specs.Prelude.{IfSome, codes}
use Rattle.std.specs.List.{AllByRecursion}
use Rattle.std.proofs.lemmas.Bool.Decides.{nat_tests}
use Rattle.jiff_core.specs.Calendar.{days_in_month}
use Rattle.jiff_core.proofs.SignedLemmas.{signed_arith}
use Rattle.pec_types.specs.Address.{IsLowerAddress}
use Rattle.pec_types.specs.Text.{AllPrintable}
use Rattle.pec_grammar.specs.FirstFault.{FirstFault}
use Rattle.pec_grammar.specs.Grammar.{AllOfSome, ending}
use Rattle.pec_grammar.proofs.Whole.{one_value, whole_told, Tells}
use Rattle.pec_cert.specs.Certificate.{Value, address, clock, addressee, lines_of, CanBeWritten, IsCert, values, values_from, delivered_from, before_recipients, before_delivered, before_received, IsGood, IsFaultOf, IsFirstFault, IsCertFault}
use Rattle.pec_cert.specs.CertificateReading.{recipient_from, cert_from}
use Rattle.pec_cert.specs.Checking.{AllGood, Says}
use Rattle.pec_cert.specs.Lines.{addressee_opening, addressee_text, text_of, IsShape}
use Rattle.pec_cert.specs.Markup.{opening, element}
use Rattle.pec_cert.specs.LinesReading.{lines_at}
use Rattle.pec_cert.specs.Shown.{HasDigits, IsMomentOf, seconds_shown, IsShown, AnswersShown}
use Rattle.pec_cert.specs.Stamp.{Instant}
use Rattle.pec_cert.specs.declared.certificates.CertData.{CertData}
use Rattle.pec_cert.specs.declared.certificates.CertRecipient.{CertRecipient}
use Rattle.pec_cert.specs.declared.lines.Addressee.{Addressee}
use Rattle.pec_cert.specs.declared.lines.Lines.{Lines}
use Rattle.pec_cert.specs.declared.stamps.Shown.{Shown}
use Rattle.pec_cert.specs.declared.dates.Part.{Part}
use Rattle.pec_cert.specs.declared.dates.Part.TheVariants.{Zone, Day, Time}
use Rattle.pec_cert.specs.declared.faults.CertFault.{CertFault}
use Rattle.pec_cert.specs.declared.faults.CertFault.TheVariants.{Syntax, BadDate, BadAddress, NoMemory}
use Rattle.pec_cert.proofs.CalendarLemmas.{one_stamp, one_shown}
use Rattle.pec_cert.proofs.CheckLemmas.{all_checked}
use Rattle.pec_cert.proofs.Printable.{printable_address}
use Rattle.pec_cert.proofs.WholeLemmas.{lines, lines_lawful}

-- A text of a certificate has the shape of one.

month_short : (y : ℤ) (m : ℕ) → days_in_month y m ≤ 31
month_short y m = grind (arith, nat_tests)

pub shown_digits : (shown : Shown) (stamp : Instant) → IsShown shown stamp → HasDigits shown
shown_digits shown stamp is =
    let day = is.day in
    record {
      hours = omega (arith, is.zone.hours);
      minutes = omega (arith, is.zone.minutes);
      day = omega (arith, day.2.1, month_short (pos shown.day.year) shown.day.month);
      month = omega (arith, day.1.1);
      year = omega (arith, signed_arith, day.0.1);
      hour = omega (arith, is.time.hour);
      minute = omega (arith, is.time.minute);
      second = omega (arith, is.time.second);
    }

printable_recipients : (rs : List CertRecipient) → AllOfSome (λ (r : CertRecipient). IsLowerAddress r.address) rs → AllOfSome (λ (r : Addressee). AllPrintable r.address) (map addressee rs)
printable_recipients [] all = all
printable_recipients (r ∷ rs) all = (printable_address r.address all.0, others rs all.1)
  where
    others : (rs : List CertRecipient) → AllByRecursion (λ (r : CertRecipient). IsLowerAddress r.address) rs → AllByRecursion (λ (r : Addressee). AllPrintable r.address) (map addressee rs)
    others [] all = tt
    others (r ∷ rs) all = (printable_address r.address all.0, others rs all.1)

printable_option : (o : Option (List ℕ)) → IfSome o IsLowerAddress → IfSome o AllPrintable
printable_option None is = tt
printable_option (Some a) is = printable_address a is

printable_list : (as_ : List (List ℕ)) → AllByRecursion IsLowerAddress as_ → AllByRecursion AllPrintable as_
printable_list [] all = tt
printable_list (a ∷ as_) all = (printable_address a all.0, printable_list as_ all.1)

pub shape_of : (c : CertData) (text : List ℕ) (is : IsCert c text) → IsShape (lines_of c is.shown) text
shape_of c text is =
    let w = is.written in (
      record {
        sender = printable_address c.sender w.sender;
        recipients = printable_recipients c.recipients w.recipients;
        reply = w.reply;
        subject = w.subject;
        provider = w.provider;
        shown = shown_digits is.shown c.stamp is.stamp;
        id = w.id;
        reference = w.reference;
        delivered = printable_option c.delivered w.delivered;
        received = printable_list c.received w.received;
        detail = w.detail;
      },
      is.spelled,
    )

-- No text belongs to two certificates, and no certificate has two texts.

recipients_back : (rs : List CertRecipient) → map recipient_from (map addressee rs) ≡ rs
recipients_back [] = refl
recipients_back (r ∷ rs) = ap (λ z. r ∷ z) (recipients_back rs)

with_recipients : CertData → List CertRecipient → CertData
with_recipients c rs = record c { recipients = rs }

from_lines : (c : CertData) (shown : Shown) → cert_from (lines_of c shown) c.stamp ≡ c
unfolding with_recipients
from_lines c shown = ap (λ rs. with_recipients c rs) (recipients_back c.recipients)

pub one_cert : (c d : CertData) (text : List ℕ) → IsCert c text → IsCert d text → c ≡ d
one_cert c d text is also =
    let same = one_value lines lines_lawful (lines_of c is.shown) (lines_of d also.shown) text (shape_of c text is) (shape_of d text also) in
    let shown : is.shown ≡ also.shown = ap (λ (l : Lines). l.shown) same in
    let stamp : c.stamp ≡ d.stamp = one_stamp also.shown c.stamp d.stamp (subst (λ s. IsShown s c.stamp) shown is.stamp) also.stamp in
    sym (from_lines c is.shown) ∙ (ap (λ l. cert_from l c.stamp) same ∙ (ap (λ s. cert_from (lines_of d also.shown) s) stamp ∙ from_lines d also.shown))

pub one_spelling : (c : CertData) (s t : List ℕ) → IsCert c s → IsCert c t → s ≡ t
one_spelling c s t is also = is.spelled ∙ (ap (λ x. text_of (lines_of c x)) (one_shown is.shown also.shown c.stamp is.stamp also.stamp) ∙ sym also.spelled)

-- What is answered.

no_syntax : (vs : List (List ℕ × Value)) (place : ℕ) → IsFirstFault vs (Syntax place) → ⊥
no_syntax [] place first = first
no_syntax ((front, address bytes) ∷ vs) place first = elim first [ inl here ↦ here | inr later ↦ no_syntax vs place later.1 ]
no_syntax ((front, clock shown) ∷ vs) place first = elim first [ inl here ↦ here | inr later ↦ no_syntax vs place later.1 ]

not_memory : (vs : List (List ℕ × Value)) → IsFirstFault vs NoMemory → ⊥
not_memory [] first = first
not_memory ((front, address bytes) ∷ vs) first = elim first [ inl here ↦ here | inr later ↦ not_memory vs later.1 ]
not_memory ((front, clock shown) ∷ vs) first = elim first [ inl here ↦ here | inr later ↦ not_memory vs later.1 ]

module _ (text : List ℕ) (l : Lines) (shape : IsShape l text) where
  -- what the lines of a text say is what it certifies
  pub said_cert : (c : CertData) → Says l c → IsCert c text
  said_cert c said = record { shown = l.shown; stamp = said.stamp; written = said.written; spelled = shape.1 ∙ ap text_of said.lines }

  -- the fault of the first value that is wrong is the text's
  pub said_fault : (fault : CertFault) → IsFirstFault (values l) fault → IsCertFault text fault
  said_fault (Syntax place) first = absurd (no_syntax (values l) place first)
  said_fault (BadDate place) first = inl (l, shape, first)
  said_fault (BadAddress place) first = inl (l, shape, first)
  said_fault NoMemory first = absurd (not_memory (values l) first)

-- What is a certification text is never refused.

pub clock_right : (shown : Shown) (stamp : Instant) (part : Part) → IsShown shown stamp → AnswersShown shown (Err part) → ⊥
clock_right shown stamp Zone is wrong = wrong is.zone
clock_right shown stamp Day is wrong = elim wrong.1 [
  | inl day ↦ day is.day
  | inr moment ↦ moment.2 stamp.moment (subst (λ m. IsMomentOf (seconds_shown shown) m stamp.moment) is.minutes is.moment)
]
clock_right shown stamp Time is wrong = wrong.2 is.time

pub not_wrong : (front : List ℕ) (v : Value) (fault : CertFault) → IsGood v → IsFaultOf front v fault → ⊥
not_wrong front (address bytes) (BadAddress place) good wrong = wrong.0 good
not_wrong front (address bytes) (BadDate place) good wrong = wrong
not_wrong front (address bytes) (Syntax place) good wrong = wrong
not_wrong front (address bytes) NoMemory good wrong = wrong
not_wrong front (clock shown) (BadDate place) good wrong = clock_right shown good.0 wrong.0 good.1 wrong.1
not_wrong front (clock shown) (BadAddress place) good wrong = wrong
not_wrong front (clock shown) (Syntax place) good wrong = wrong
not_wrong front (clock shown) NoMemory good wrong = wrong

none_wrong : (vs : List (List ℕ × Value)) (fault : CertFault) → AllGood vs → IsFirstFault vs fault → ⊥
none_wrong [] fault good first = first
none_wrong (v ∷ vs) fault good first = elim first [ inl here ↦ not_wrong v.0 v.1 fault good.0 here | inr later ↦ none_wrong vs fault good.1 later.1 ]

good_values : {X : Type 0} (tag bytes line : X → List ℕ) (front : List ℕ) (xs : List X) → AllByRecursion (λ x. IsLowerAddress (bytes x)) xs → AllGood (values_from tag bytes line front xs)
good_values tag bytes line front [] all = tt
good_values tag bytes line front (x ∷ xs) all = (all.0, good_values tag bytes line (front ++ line x) xs all.1)

good_recipients : (rs : List CertRecipient) → AllOfSome (λ (r : CertRecipient). IsLowerAddress r.address) rs → AllByRecursion (λ (r : Addressee). IsLowerAddress r.address) (map addressee rs)
good_recipients [] all = absurd all
good_recipients (r ∷ rs) all = (all.0, others rs all.1)
  where
    others : (rs : List CertRecipient) → AllByRecursion (λ (r : CertRecipient). IsLowerAddress r.address) rs → AllByRecursion (λ (r : Addressee). IsLowerAddress r.address) (map addressee rs)
    others [] all = tt
    others (r ∷ rs) all = (all.0, others rs all.1)

good_delivered : (front : List ℕ) (o : Option (List ℕ)) → IfSome o IsLowerAddress → AllGood (delivered_from front o)
good_delivered front None is = tt
good_delivered front (Some a) is = (is, tt)

all_values_good : (c : CertData) (shown : Shown) → IsShown shown c.stamp → CanBeWritten c → AllGood (values (lines_of c shown))
all_values_good c shown is w =
    let l = lines_of c shown in
    all_checked l (w.sender, tt)
    (good_values (λ (r : Addressee). addressee_opening r.certified) (λ (r : Addressee). r.address) addressee_text (before_recipients l) l.recipients (good_recipients c.recipients w.recipients))
    ((c.stamp, is), tt)
    (good_delivered (before_delivered l) c.delivered w.delivered)
    (good_values (λ (x : List ℕ). opening (codes "ricezione")) (λ (x : List ℕ). x) (element (codes "ricezione")) (before_received l) c.received w.received)

refused : (c : CertData) (text : List ℕ) (l : Lines) (fault : CertFault) → IsCert c text → IsShape l text → IsFirstFault (values l) fault → ⊥
refused c text l fault is shape first =
    let same = one_value lines lines_lawful l (lines_of c is.shown) text shape (shape_of c text is) in
    none_wrong (values (lines_of c is.shown)) fault (all_values_good c is.shown is.stamp is.written) (subst (λ x. IsFirstFault (values x) fault) same first)

pub never_both : (c : CertData) (text : List ℕ) (fault : CertFault) → IsCert c text → IsCertFault text fault → ⊥
never_both c text (Syntax place) is wrong = wrong.0.other (lines_of c is.shown) (shape_of c text is)
never_both c text (BadDate place) is wrong = elim wrong [
  | inl here ↦ refused c text here.0 (BadDate place) is here.1 here.2
  | inr none ↦ none.0 (lines_of c is.shown) (shape_of c text is)
]
never_both c text (BadAddress place) is wrong = elim wrong [
  | inl here ↦ refused c text here.0 (BadAddress place) is here.1 here.2
  | inr none ↦ none.0 (lines_of c is.shown) (shape_of c text is)
]
never_both c text NoMemory is wrong = wrong

-- What the lines of a text are, from reading them.

pub read_shape : (text : List ℕ) (l : Lines) → ending (lines_at (record { rest = text; farthest = text })) ≡ Ok l → IsShape l text
read_shape text l read = subst (λ r. Tells lines text r) read (whole_told lines lines_lawful text)

pub read_fault : (text stop : List ℕ) → ending (lines_at (record { rest = text; farthest = text })) ≡ Err stop → (length stop ≤ length text) × FirstFault IsShape text (length text - length stop)
read_fault text stop read = subst (λ r. Tells lines text r) read (whole_told lines lines_lawful text)
