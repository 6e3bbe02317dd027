-- The functions beside the relations of certificates agree with them.
use Rattle.std.proofs.Common.{◌≡◌, ℕ, ◌+◌, ◌-◌, ◌*◌, ◌<◌, ◌⊎◌, Bool, true, false, not, cond, nat_lt, eqb, List, [], ◌∷◌, length, map, Option, Some, None, Result, Ok, Err, refl, sym, ap, subst, ◌∙◌, inl, inr, arith, ℤ, pos, negsuc, ◌-ℤ◌, ◌*ℤ◌}
use Rattle.std.proofs.lemmas.Bool.{false≢true, ltb-true, ltb-false}
use Rattle.std.proofs.lemmas.Bool.Decides.{nat_tests}
use Rattle.jiff_core.proofs.SignedLemmas.{signed_arith}
use Rattle.pec_types.specs.Address.{IsAddressFault, IsReadAs}
use Rattle.pec_types.specs.AddressReading.{address_of}
use Rattle.pec_types.specs.Answers.{OrNoMemory, TellsExactly}
use Rattle.pec_types.specs.declared.moments.TheConstants.{END_OF_TIME}
use Rattle.pec_grammar.specs.FirstFault.{FirstFault}
use Rattle.pec_grammar.specs.Grammar.{ending}
use Rattle.pec_grammar.proofs.Whole.{one_value}
use Rattle.pec_cert.specs.Certificate.{Value, address, clock, addressee, lines_of, CanBeWritten, IsCert, values, IsGood, IsFaultOf, IsFirstFault, IsCertFault, addressees_from, before_recipients}
use Rattle.pec_cert.specs.CertificateReading.{cert_text, date_fault, fault_in, or_later, first_fault, recipient_from, cert_from, dated, unless_fault, said_by, cert_of}
use Rattle.pec_cert.specs.Checking.{AllGood, Checked, Says}
use Rattle.pec_cert.specs.Clock.{shown_of}
use Rattle.pec_cert.specs.Front.{IsWrongIn, wrong_in}
use Rattle.pec_cert.specs.Lines.{text_of, IsShape}
use Rattle.pec_cert.specs.LinesReading.{lines_at}
use Rattle.pec_cert.specs.Shown.{IsZone, IsDay, IsTime, minutes_ahead, seconds_shown, IsShown, AnswersShown, before_part}
use Rattle.pec_cert.specs.Stamp.{Instant, IsStamp}
use Rattle.pec_cert.specs.ValueTests.{is_lower, is_zone, is_day, is_time, moment_at, stamp_in}
use Rattle.pec_cert.specs.declared.certificates.CertData.{CertData}
use Rattle.pec_cert.specs.declared.dates.Part.{Part}
use Rattle.pec_cert.specs.declared.dates.Part.TheVariants.{Zone, Day, Time}
use Rattle.pec_cert.specs.declared.faults.CertFault.{CertFault}
use Rattle.pec_cert.specs.declared.faults.CertFault.TheVariants.{Syntax, BadDate, BadAddress, NoMemory}
use Rattle.pec_cert.specs.declared.lines.Addressee.{Addressee}
use Rattle.pec_cert.specs.declared.lines.Lines.{Lines}
use Rattle.pec_cert.specs.declared.stamps.ShownDay.{ShownDay}
use Rattle.pec_cert.specs.declared.stamps.ShownTime.{ShownTime}
use Rattle.pec_cert.specs.declared.stamps.Shown.{Shown}
use Rattle.pec_cert.proofs.CalendarLemmas.{moment_from, moment_to, one_stamp}
use Rattle.pec_cert.proofs.CertificateLemmas.{one_cert, clock_right, not_wrong, said_cert, said_fault, never_both, read_shape, read_fault}
use Rattle.pec_cert.proofs.CheckLemmas.{says, split, lines_are}
use Rattle.pec_cert.proofs.ClockLemmas.{shown_right, shown_only}
use Rattle.pec_cert.proofs.FrontLaws.{wrong_found, wrong_is_found, wrong_kind}
use Rattle.pec_cert.proofs.LowerAddressLemmas.{lower_yes, lower_no}
use Rattle.pec_cert.proofs.WholeLemmas.{lines, lines_lawful}

-- The text of a certificate.

pub text_right : (c : CertData) → CanBeWritten c → IsStamp c.stamp → IsCert c (cert_text c)
text_right c written is = record { shown = shown_of c.stamp; stamp = shown_right c.stamp is; written = written; spelled = refl }

pub text_only : (c : CertData) (text : List ℕ) → IsCert c text → text ≡ cert_text c
text_only c text is = is.spelled ∙ ap (λ shown. text_of (lines_of c shown)) (shown_only is.shown c.stamp is.stamp)

-- What is shown.

zone_yes : (ahead : Bool) (h m : ℕ) → is_zone (record { ahead = ahead; hours = h; minutes = m }) ≡ true → IsZone (record { ahead = ahead; hours = h; minutes = m })
zone_yes true h m e = record { hours = grind (arith, nat_tests); minutes = grind (arith, nat_tests); none_behind = λ behind x y. absurd (false≢true (sym behind)) }
zone_yes false h m e = record { hours = grind (arith, nat_tests); minutes = grind (arith, nat_tests); none_behind = λ behind x y. absurd (grind (arith, nat_tests)) }

zone_right : (ahead : Bool) (h m : ℕ) → IsZone (record { ahead = ahead; hours = h; minutes = m }) → is_zone (record { ahead = ahead; hours = h; minutes = m }) ≡ true
zone_right true h m is = let a = is.hours in let b = is.minutes in grind (arith, nat_tests)
zone_right false h m is = by_total (eqb (h * 60 + m) 0) refl
  where
    by_total : (none : Bool) → eqb (h * 60 + m) 0 ≡ none → is_zone (record { ahead = false; hours = h; minutes = m }) ≡ true
    by_total true e = absurd (is.none_behind refl (grind (arith, nat_tests)) (grind (arith, nat_tests)))
    by_total false e = let a = is.hours in let b = is.minutes in grind (arith, nat_tests)

day_yes : (d : ShownDay) → is_day d ≡ true → IsDay d
day_yes d e =
    let year : d.year < 10000 = grind (arith, nat_tests) in
    ((omega (arith, signed_arith), omega (arith, signed_arith, year)), (grind (arith, nat_tests), grind (arith, nat_tests)), (grind (arith, nat_tests), grind (arith, nat_tests)))

day_right : (d : ShownDay) → IsDay d → is_day d ≡ true
day_right d is =
    let year : d.year < 10000 = omega (arith, signed_arith, is.0.1) in
    let a = is.1.0 in let b = is.1.1 in let c = is.2.0 in let f = is.2.1 in
    grind (arith, nat_tests)

time_yes : (t : ShownTime) → is_time t ≡ true → IsTime t
time_yes t e = record { hour = grind (arith, nat_tests); minute = grind (arith, nat_tests); second = grind (arith, nat_tests) }

time_right : (t : ShownTime) → IsTime t → is_time t ≡ true
time_right t is = let a = is.hour in let b = is.minute in let c = is.second in grind (arith, nat_tests)

module _ (shown : Shown) (zone : IsZone shown.zone) (day : IsDay shown.day) (time : IsTime shown.time) where
  no_moment : (z : ℤ) → seconds_shown shown -ℤ minutes_ahead shown.zone *ℤ pos 60 ≡ z → ((moment : ℕ) → moment < END_OF_TIME → z ≡ pos moment → ⊥) → AnswersShown shown (Err Day)
  no_moment z e none =
      (zone, inr (day, time, λ moment is. none moment is.0 (sym e ∙ moment_to (seconds_shown shown) (minutes_ahead shown.zone) moment is.1)))

  moment_told : (z : ℤ) → seconds_shown shown -ℤ minutes_ahead shown.zone *ℤ pos 60 ≡ z → AnswersShown shown (moment_at z (minutes_ahead shown.zone))
  moment_told (pos n) e = by_bound (nat_lt n END_OF_TIME) refl
    where
      by_bound : (early : Bool) → nat_lt n END_OF_TIME ≡ early
          → AnswersShown shown (cond early (Ok (record { moment = n; minutes = minutes_ahead shown.zone })) (Err Day))
      by_bound true is = record {
        zone = zone;
        day = day;
        time = time;
        minutes = refl;
        moment = (ltb-true n END_OF_TIME is, moment_from (seconds_shown shown) (minutes_ahead shown.zone) n e);
      }
      by_bound false is = no_moment (pos n) e (λ moment below same. later moment below same)
        where
          later : (moment : ℕ) → moment < END_OF_TIME → pos n ≡ pos moment → ⊥
          later moment below same = let high = ltb-false n END_OF_TIME is in omega (arith, signed_arith)
  moment_told (negsuc n) e = no_moment (negsuc n) e (λ moment below same. omega (arith, signed_arith))

pub stamp_told : (shown : Shown) → AnswersShown shown (stamp_in shown)
unfolding stamp_in
stamp_told shown = by_zone (is_zone shown.zone) refl
  where
    at : Result Instant Part
    at = moment_at (seconds_shown shown -ℤ minutes_ahead shown.zone *ℤ pos 60) (minutes_ahead shown.zone)

    by_time : (t : Bool) → is_time shown.time ≡ t → IsZone shown.zone → IsDay shown.day
        → AnswersShown shown (cond (not t) (Err Time) (moment_at (seconds_shown shown -ℤ minutes_ahead shown.zone *ℤ pos 60) (minutes_ahead shown.zone)))
    by_time true e zone day = moment_told shown zone day (time_yes shown.time e) (seconds_shown shown -ℤ minutes_ahead shown.zone *ℤ pos 60) refl
    by_time false e zone day = (zone, day, λ is. false≢true (sym e ∙ time_right shown.time is))

    by_day : (d : Bool) → is_day shown.day ≡ d → IsZone shown.zone
        → AnswersShown shown (cond (not d) (Err Day) (cond (not (is_time shown.time)) (Err Time) (moment_at (seconds_shown shown -ℤ minutes_ahead shown.zone *ℤ pos 60) (minutes_ahead shown.zone))))
    by_day true e zone = by_time (is_time shown.time) refl zone (day_yes shown.day e)
    by_day false e zone = (zone, inl (λ is. false≢true (sym e ∙ day_right shown.day is)))

    by_zone : (z : Bool) → is_zone shown.zone ≡ z
        → AnswersShown shown (cond (not z) (Err Zone) (cond (not (is_day shown.day)) (Err Day) (cond (not (is_time shown.time)) (Err Time)
        (moment_at (seconds_shown shown -ℤ minutes_ahead shown.zone *ℤ pos 60) (minutes_ahead shown.zone)))))
    by_zone true e = by_day (is_day shown.day) refl (zone_yes shown.zone.ahead shown.zone.hours shown.zone.minutes e)
    by_zone false e = λ is. false≢true (sym e ∙ zone_right shown.zone.ahead shown.zone.hours shown.zone.minutes is)

pub one_part : (shown : Shown) (a b : Part) → AnswersShown shown (Err a) → AnswersShown shown (Err b) → a ≡ b
one_part shown Zone Zone is also = refl
one_part shown Zone Day is also = absurd (is also.0)
one_part shown Zone Time is also = absurd (is also.0)
one_part shown Day Zone is also = absurd (also is.0)
one_part shown Day Day is also = refl
one_part shown Day Time is also = elim is.1 [ inl none ↦ absurd (none also.1) | inr moment ↦ absurd (also.2 moment.1) ]
one_part shown Time Zone is also = absurd (also is.0)
one_part shown Time Day is also = elim also.1 [ inl none ↦ absurd (none is.1) | inr moment ↦ absurd (is.2 moment.1) ]
one_part shown Time Time is also = refl

stamp_only : (shown : Shown) (r : Result Instant Part) (stamp : Instant) → AnswersShown shown r → IsShown shown stamp → r ≡ Ok stamp
stamp_only shown (Ok other) stamp answer is = ap (λ s. Ok s) (one_stamp shown other stamp answer is)
stamp_only shown (Err part) stamp answer is = absurd (clock_right shown stamp part is answer)

part_only : (shown : Shown) (r : Result Instant Part) (part : Part) → AnswersShown shown r → AnswersShown shown (Err part) → r ≡ Err part
part_only shown (Ok stamp) part answer wrong = absurd (clock_right shown stamp part answer wrong)
part_only shown (Err other) part answer wrong = ap (λ p. Err p) (one_part shown other part answer wrong)

pub stamp_is : (shown : Shown) (r : Result Instant Part) → AnswersShown shown r → stamp_in shown ≡ r
stamp_is shown (Ok stamp) is = stamp_only shown (stamp_in shown) stamp (stamp_told shown) is
stamp_is shown (Err part) wrong = part_only shown (stamp_in shown) part (stamp_told shown) wrong

-- The fault of a value, and of the first that has one.

-- the law of addresses
abbrev pub AddressesTold : Type 0
AddressesTold = (text : List ℕ) → TellsExactly (IsReadAs text) (IsAddressFault text) (address_of text)

abbrev ValueTold : List ℕ → Value → Option CertFault → Type 0
ValueTold front v None = IsGood v
ValueTold front v (Some fault) = IsFaultOf front v fault

date_told : (front : List ℕ) (shown : Shown) (r : Result Instant Part) → AnswersShown shown r → ValueTold front (clock shown) (date_fault front shown r)
date_told front shown (Ok stamp) is = (stamp, is)
date_told front shown (Err part) is = (part, is, refl)

value_told : AddressesTold → (front : List ℕ) (v : Value) → ValueTold front v (fault_in front v)
value_told told front (address bytes) = by_case (is_lower bytes) refl
  where
    by_case : (lower : Bool) → is_lower bytes ≡ lower → ValueTold front (address bytes) (cond lower None (Some (BadAddress (length front))))
    by_case true e = lower_yes told bytes e
    by_case false e = (lower_no told bytes e, refl)
value_told told front (clock shown) = date_told front shown (stamp_in shown) (stamp_told shown)

abbrev FirstTold : List (List ℕ × Value) → Option CertFault → Type 0
FirstTold vs None = AllGood vs
FirstTold vs (Some fault) = IsFirstFault vs fault

told_more : (v : List ℕ × Value) (vs : List (List ℕ × Value)) (here later : Option CertFault) → ValueTold v.0 v.1 here → FirstTold vs later → FirstTold (v ∷ vs) (or_later here later)
told_more v vs (Some fault) later here others = inl here
told_more v vs None (Some fault) here others = inr (here, others)
told_more v vs None None here others = (here, others)

first_told : AddressesTold → (vs : List (List ℕ × Value)) → FirstTold vs (first_fault vs)
unfolding first_fault
first_told told [] = tt
first_told told (v ∷ vs) = told_more v vs (fault_in v.0 v.1) (first_fault vs) (value_told told v.0 v.1) (first_told told vs)

address_fault : (front bytes : List ℕ) (f : CertFault) → IsFaultOf front (address bytes) f → f ≡ BadAddress (length front)
address_fault front bytes (BadAddress place) is = ap (λ n. BadAddress n) is.1
address_fault front bytes (BadDate place) is = absurd is
address_fault front bytes (Syntax place) is = absurd is
address_fault front bytes NoMemory is = absurd is

clock_fault : (front : List ℕ) (shown : Shown) (f : CertFault) → IsFaultOf front (clock shown) f
    → (part : Part) × AnswersShown shown (Err part) × (f ≡ BadDate (length (before_part front shown part)))
clock_fault front shown (BadDate place) is = (is.0, is.1, ap (λ n. BadDate n) is.2)
clock_fault front shown (BadAddress place) is = absurd is
clock_fault front shown (Syntax place) is = absurd is
clock_fault front shown NoMemory is = absurd is

one_fault_of : (front : List ℕ) (v : Value) (f g : CertFault) → IsFaultOf front v f → IsFaultOf front v g → f ≡ g
one_fault_of front (address bytes) f g is also = address_fault front bytes f is ∙ sym (address_fault front bytes g also)
one_fault_of front (clock shown) f g is also =
    let a = clock_fault front shown f is in
    let b = clock_fault front shown g also in
    a.2 ∙ (ap (λ part. BadDate (length (before_part front shown part))) (one_part shown a.0 b.0 a.1 b.1) ∙ sym b.2)

one_first_fault : (vs : List (List ℕ × Value)) (f g : CertFault) → IsFirstFault vs f → IsFirstFault vs g → f ≡ g
one_first_fault [] f g is also = absurd is
one_first_fault (v ∷ vs) f g is also = elim is [
  | inl here ↦ elim also [ inl there ↦ one_fault_of v.0 v.1 f g here there | inr later ↦ absurd (not_wrong v.0 v.1 f later.0 here) ]
  | inr more ↦ elim also [ inl there ↦ absurd (not_wrong v.0 v.1 g more.0 there) | inr later ↦ one_first_fault vs f g more.1 later.1 ]
]

-- The answer on a text.

addressees_back : (rs : List Addressee) → map addressee (map recipient_from rs) ≡ rs
addressees_back [] = refl
addressees_back (r ∷ rs) = ap (λ z. r ∷ z) (addressees_back rs)

lines_back : (l : Lines) (stamp : Instant) → l ≡ lines_of (cert_from l stamp) l.shown
lines_back l stamp = lines_are l l.sender (map addressee (map recipient_from l.recipients)) l.delivered l.received refl (addressees_back l.recipients) refl refl

abbrev Told : List ℕ → Result CertData CertFault → Type 0
Told text (Ok c) = IsCert c text
Told text (Err fault) = IsCertFault text fault

module _ (text : List ℕ) (l : Lines) (shape : IsShape l text) where
  lines_told : (fault : Option CertFault) (r : Result Instant Part) → FirstTold (values l) fault → AnswersShown l.shown r → Told text (unless_fault fault (dated l r))
  lines_told (Some fault) r first is = said_fault text l shape fault first
  lines_told None (Ok stamp) good is = said_cert text l shape (cert_from l stamp) (says l (cert_from l stamp) shape.0 good is (lines_back l stamp))
  lines_told None (Err part) good is =
      let here = (split (addressees_from (before_recipients l) l.recipients) _ good.1).1.0 in
      absurd (clock_right l.shown here.0 part here.1 is)

-- what is told where the shape ends, by what is found in front of it
stopped_told : AddressesTold → (text : List ℕ) (place : ℕ) → FirstFault IsShape text place → (found : Option CertFault) → wrong_in text ≡ found
    → Told text (unless_fault found (Err (Syntax place)))
stopped_told told text place first None none =
    (first, λ f is. let both : None ≡ Some f = sym none ∙ wrong_is_found told stamp_told stamp_is text f is in let h : ⊥ = cc in h)
stopped_told told text place first (Some f) some = by_kind f (wrong_found told stamp_told stamp_is text f some)
  where
    by_kind : (f : CertFault) → IsWrongIn text f → IsCertFault text f
    by_kind (BadDate p) is = inr (first.other, is)
    by_kind (BadAddress p) is = inr (first.other, is)
    by_kind (Syntax p) is = absurd (wrong_kind told stamp_told stamp_is text (Syntax p) is)
    by_kind NoMemory is = absurd (wrong_kind told stamp_told stamp_is text NoMemory is)

text_told : AddressesTold → (text : List ℕ) → Told text (cert_of text)
unfolding cert_of
text_told told text = by_lines (ending (lines_at (record { rest = text; farthest = text }))) refl
  where
    by_lines : (r : Result Lines (List ℕ)) → ending (lines_at (record { rest = text; farthest = text })) ≡ r → Told text (said_by text r)
    by_lines (Ok l) e = lines_told text l (read_shape text l e) (first_fault (values l)) (stamp_in l.shown) (first_told told (values l)) (stamp_told l.shown)
    by_lines (Err stop) e = stopped_told told text (length text - length stop) (read_fault text stop e).1 (wrong_in text) refl

-- A text has one answer.

one_place : {A : Type 0} (IsText : A → List ℕ → Type 0) (bytes : List ℕ) (p q : ℕ) → FirstFault IsText bytes p → FirstFault IsText bytes q → p ≡ q
one_place IsText bytes p q is also = by_order (nat_lt p q) (nat_lt q p) refl refl
  where
    by_order : (before behind : Bool) → nat_lt p q ≡ before → nat_lt q p ≡ behind → p ≡ q
    by_order true behind e f = absurd (is.dead q (ltb-true p q e) also.within also.alive)
    by_order false true e f = absurd (also.dead p (ltb-true q p f) is.within is.alive)
    by_order false false e f = let a = ltb-false p q e in let b = ltb-false q p f in omega arith

one_value_fault : (text : List ℕ) (l m : Lines) (f g : CertFault) → IsShape l text → IsShape m text → IsFirstFault (values l) f → IsFirstFault (values m) g → f ≡ g
one_value_fault text l m f g shape also first other =
    one_first_fault (values m) f g (subst (λ n. IsFirstFault (values n) f) (one_value lines lines_lawful l m text shape also) first) other

-- the value that is wrong in a text is one, whether or not the text has the shape
one_wrong : AddressesTold → (text : List ℕ) (f g : CertFault)
    → ((l : Lines) × IsShape l text × IsFirstFault (values l) f) ⊎ (((l : Lines) → IsShape l text → ⊥) × IsWrongIn text f)
    → ((l : Lines) × IsShape l text × IsFirstFault (values l) g) ⊎ (((l : Lines) → IsShape l text → ⊥) × IsWrongIn text g) → f ≡ g
one_wrong told text f g is also = elim is [
  | inl here ↦ elim also [ inl there ↦ one_value_fault text here.0 there.0 f g here.1 there.1 here.2 there.2 | inr none ↦ absurd (none.0 here.0 here.1) ]
  | inr none ↦ elim also [
    | inl there ↦ absurd (none.0 there.0 there.1)
    | inr other ↦ let both : Some f ≡ Some g = sym (wrong_is_found told stamp_told stamp_is text f none.1) ∙ wrong_is_found told stamp_told stamp_is text g other.1 in cc
  ]
]

-- a text without the shape whose values are right up to there has no wrong value
not_wrong_too : (text : List ℕ) (place : ℕ) (f : CertFault) → FirstFault IsShape text place × ((g : CertFault) → IsWrongIn text g → ⊥)
    → ((l : Lines) × IsShape l text × IsFirstFault (values l) f) ⊎ (((l : Lines) → IsShape l text → ⊥) × IsWrongIn text f) → ⊥
not_wrong_too text place f is also = elim also [ inl there ↦ is.0.other there.0 there.1 | inr none ↦ is.1 f none.1 ]

pub one_fault : AddressesTold → (text : List ℕ) (f g : CertFault) → IsCertFault text f → IsCertFault text g → f ≡ g
one_fault told text NoMemory g is also = absurd is
one_fault told text f NoMemory is also = absurd also
one_fault told text (Syntax p) (Syntax q) is also = ap Syntax (one_place IsShape text p q is.0 also.0)
one_fault told text (Syntax p) (BadDate q) is also = absurd (not_wrong_too text p (BadDate q) is also)
one_fault told text (Syntax p) (BadAddress q) is also = absurd (not_wrong_too text p (BadAddress q) is also)
one_fault told text (BadDate p) (Syntax q) is also = absurd (not_wrong_too text q (BadDate p) also is)
one_fault told text (BadAddress p) (Syntax q) is also = absurd (not_wrong_too text q (BadAddress p) also is)
one_fault told text (BadDate p) (BadDate q) is also = one_wrong told text (BadDate p) (BadDate q) is also
one_fault told text (BadDate p) (BadAddress q) is also = one_wrong told text (BadDate p) (BadAddress q) is also
one_fault told text (BadAddress p) (BadDate q) is also = one_wrong told text (BadAddress p) (BadDate q) is also
one_fault told text (BadAddress p) (BadAddress q) is also = one_wrong told text (BadAddress p) (BadAddress q) is also

module _ (text : List ℕ) where
  cert_only : (c : CertData) (r : Result CertData CertFault) → Told text r → IsCert c text → r ≡ Ok c
  cert_only c (Ok d) told is = ap Ok (one_cert d c text told is)
  cert_only c (Err fault) told is = absurd (never_both c text fault is told)

  fault_only : AddressesTold → (fault : CertFault) (r : Result CertData CertFault) → Told text r → IsCertFault text fault → r ≡ Err fault
  fault_only addresses fault (Ok c) told is = absurd (never_both c text fault told is)
  fault_only addresses fault (Err other) told is = ap Err (one_fault addresses text other fault told is)

  pub cert_told_exactly : AddressesTold → TellsExactly (λ c. IsCert c text) (IsCertFault text) (cert_of text)
  cert_told_exactly addresses =
      let told = text_told addresses text in
      record {
        value = λ c. ((λ e. subst (λ r. Told text r) e told), (λ is. cert_only c (cert_of text) told is));
        fault = λ fault. ((λ e. subst (λ r. Told text r) e told), (λ is. fault_only addresses fault (cert_of text) told is));
      }

-- What the code answers on the lines of a text is what the text tells.

module _ (text : List ℕ) (tells : TellsExactly (λ c. IsCert c text) (IsCertFault text) (cert_of text)) where
  fault_exact : (l : Lines) (fault : CertFault) → IsShape l text → IsFirstFault (values l) fault → cert_of text ≡ Err fault
  fault_exact l fault shape first = (tells.fault fault).1 (said_fault text l shape fault first)

  pub lines_exact : (l : Lines) (r : Result CertData CertFault) → IsShape l text → Checked (values l) (λ (c : CertData). Says l c) r → OrNoMemory NoMemory r (cert_of text)
  lines_exact l (Ok c) shape checked = (tells.value c).1 (said_cert text l shape c checked.1)
  lines_exact l (Err NoMemory) shape checked = λ stays. absurd (stays refl)
  lines_exact l (Err (Syntax place)) shape checked = λ stays. fault_exact l (Syntax place) shape checked
  lines_exact l (Err (BadDate place)) shape checked = λ stays. fault_exact l (BadDate place) shape checked
  lines_exact l (Err (BadAddress place)) shape checked = λ stays. fault_exact l (BadAddress place) shape checked

pub stop_exact : (text stop : List ℕ) → ending (lines_at (record { rest = text; farthest = text })) ≡ Err stop → cert_of text ≡ unless_fault (wrong_in text) (Err (Syntax (length text - length stop)))
unfolding cert_of
stop_exact text stop e = ap (said_by text) e
