-- The dates of heads are read exactly, and a printed stamp is one line.
use Rattle.std.proofs.Common.{◌≡◌, ◌≢◌, ℕ, suc, zero, ◌+◌, ◌/◌, ◌%◌, ◌<◌, ◌≤◌, Bool, true, false, cond, eqb, List, [], ◌∷◌, ◌++◌, length, Option, Some, None, Result, Ok, Err, refl, sym, ap, subst, ◌∙◌, inl, inr, arith, eqb-true, length-append, pos}
use Rattle.std.specs.Prelude.{◌↔◌, codes, MatchOption}
use Rattle.std.specs.List.{AllByRecursion}
use Rattle.std.specs.Result.{result_ok}
use Rattle.std.proofs.lemmas.Bool.Decides.{nat_tests}
use Rattle.jiff_core.specs.Calendar.{days_from_civil}
use Rattle.jiff_core.proofs.CalendarLemmas.{weekday_number_bound}
use Rattle.pec_types.specs.Text.{AllPrintable, is_unprintable}
use Rattle.pec_grammar.specs.Grammar.{Grammar, both, choice, led, HasValue, ending}
use Rattle.pec_grammar.specs.FirstFault.{IsSpelled}
use Rattle.pec_grammar.proofs.Parts.{Lawful}
use Rattle.pec_grammar.proofs.Sequences.{seen_lawful, same_lawful, both_lawful, led_lawful}
use Rattle.pec_grammar.proofs.Openings.{choice_lawful}
use Rattle.pec_grammar.proofs.Whole.{Tells, whole_told, whole_only}
use Rattle.pec_cert.specs.ValueTests.{stamp_in}
use Rattle.pec_cert.specs.Clock.{shown_of}
use Rattle.pec_cert.specs.HeaderDate.{weekday_name, month_name, weekday_of, named_day_text, date_text, header_date_text, IsHeaderDate, header_date_of, line_text, day_line_of}
use Rattle.pec_cert.specs.HeaderDateReading.{weekdays, months, named_day_at, date_from, date_at, header_date_at, on_weekday, header_stamp_of}
use Rattle.pec_cert.specs.LinesReading.{day_from}
use Rattle.pec_cert.specs.Markup.{two_digits, four_digits}
use Rattle.pec_cert.specs.Shown.{sign_word, zone_text, day_text, time_text, HasDigits, IsShown, AnswersShown}
use Rattle.pec_cert.specs.Stamp.{Instant, IsStamp}
use Rattle.pec_cert.specs.declared.dates.Part.{Part}
use Rattle.pec_cert.specs.declared.stamps.ShownDay.{ShownDay}
use Rattle.pec_cert.specs.declared.stamps.Shown.{Shown}
use Rattle.pec_cert.proofs.CertificateLaws.{stamp_is, stamp_told}
use Rattle.pec_cert.proofs.CertificateLemmas.{shown_digits}
use Rattle.pec_cert.proofs.ClockLemmas.{shown_right, shown_only}
use Rattle.pec_cert.proofs.NumberLemmas.{two, two_lawful, four, four_lawful, zone, zone_lawful, time, time_lawful}
use Rattle.pec_cert.proofs.Printable.{Printable, joined}
use Rattle.pec_cert.proofs.Texts.{printable_all}

-- The grammar.

abbrev weekday : Grammar ℕ
weekday = choice weekday_name weekdays

weekday_lawful : Lawful weekday
weekday_lawful =
    choice_lawful weekday_name (codes "Mon", 0)
    ((codes "Tue", 1) ∷ (codes "Wed", 2) ∷ (codes "Thu", 3) ∷ (codes "Fri", 4) ∷ (codes "Sat", 5) ∷ (codes "Sun", 6) ∷ [])
    (refl, (refl, (refl, (refl, (refl, (refl, (refl, tt))))))) refl

has_weekday : (n : ℕ) → n < 7 → HasValue weekdays n
has_weekday zero low = inl refl
has_weekday (suc zero) low = inr (inl refl)
has_weekday (suc (suc zero)) low = inr (inr (inl refl))
has_weekday (suc (suc (suc zero))) low = inr (inr (inr (inl refl)))
has_weekday (suc (suc (suc (suc zero)))) low = inr (inr (inr (inr (inl refl))))
has_weekday (suc (suc (suc (suc (suc zero))))) low = inr (inr (inr (inr (inr (inl refl)))))
has_weekday (suc (suc (suc (suc (suc (suc zero)))))) low = inr (inr (inr (inr (inr (inr (inl refl))))))
has_weekday (suc (suc (suc (suc (suc (suc (suc n))))))) low = absurd (omega arith)

abbrev month : Grammar ℕ
month = choice month_name months

month_lawful : Lawful month
month_lawful =
    choice_lawful month_name (codes "Jan", 1)
    ((codes "Feb", 2) ∷ (codes "Mar", 3) ∷ (codes "Apr", 4) ∷ (codes "May", 5) ∷ (codes "Jun", 6) ∷ (codes "Jul", 7) ∷ (codes "Aug", 8)
    ∷ (codes "Sep", 9) ∷ (codes "Oct", 10) ∷ (codes "Nov", 11) ∷ (codes "Dec", 12) ∷ [])
    (refl, (refl, (refl, (refl, (refl, (refl, (refl, (refl, (refl, (refl, (refl, (refl, tt)))))))))))) refl

has_month : (n : ℕ) → 1 ≤ n → n ≤ 12 → HasValue months n
has_month zero low high = absurd (omega arith)
has_month (suc zero) low high = inl refl
has_month (suc (suc zero)) low high = inr (inl refl)
has_month (suc (suc (suc zero))) low high = inr (inr (inl refl))
has_month (suc (suc (suc (suc zero)))) low high = inr (inr (inr (inl refl)))
has_month (suc (suc (suc (suc (suc zero))))) low high = inr (inr (inr (inr (inl refl))))
has_month (suc (suc (suc (suc (suc (suc zero)))))) low high = inr (inr (inr (inr (inr (inl refl)))))
has_month (suc (suc (suc (suc (suc (suc (suc zero))))))) low high = inr (inr (inr (inr (inr (inr (inl refl))))))
has_month (suc (suc (suc (suc (suc (suc (suc (suc zero)))))))) low high = inr (inr (inr (inr (inr (inr (inr (inl refl)))))))
has_month (suc (suc (suc (suc (suc (suc (suc (suc (suc zero))))))))) low high = inr (inr (inr (inr (inr (inr (inr (inr (inl refl))))))))
has_month (suc (suc (suc (suc (suc (suc (suc (suc (suc (suc zero)))))))))) low high = inr (inr (inr (inr (inr (inr (inr (inr (inr (inl refl)))))))))
has_month (suc (suc (suc (suc (suc (suc (suc (suc (suc (suc (suc zero))))))))))) low high = inr (inr (inr (inr (inr (inr (inr (inr (inr (inr (inl refl))))))))))
has_month (suc (suc (suc (suc (suc (suc (suc (suc (suc (suc (suc (suc zero)))))))))))) low high = inr (inr (inr (inr (inr (inr (inr (inr (inr (inr (inr (inl refl)))))))))))
has_month (suc (suc (suc (suc (suc (suc (suc (suc (suc (suc (suc (suc (suc n))))))))))))) low high = absurd (omega arith)

-- what holds of each value of a table holds of any value that it has
value_in : {A : Type 0} (P : A → Type 0) (table : List (List ℕ × A)) (x : A) → AllByRecursion (λ e. P e.1) table → HasValue table x → P x
value_in P [] x all has = absurd has
value_in P (e ∷ es) x all has = elim has [ inl is ↦ subst P (sym is) all.0 | inr later ↦ value_in P es x all.1 later ]

month_small : (n : ℕ) → HasValue months n → n < 100
month_small n has =
    value_in (λ m. m < 100) months n
    (omega arith, (omega arith, (omega arith, (omega arith, (omega arith, (omega arith, (omega arith, (omega arith, (omega arith, (omega arith, (omega arith, (omega arith, tt)))))))))))) has

abbrev named_day : Grammar ShownDay
named_day = record { Fits = λ d. (d.day < 100) × (HasValue months d.month × (d.year < 10000)); spell = named_day_text; read = named_day_at }

named_day_lawful : Lawful named_day
unfolding named_day_at
named_day_lawful =
    seen_lawful (both two (led (codes " ") (both month (led (codes " ") four)))) named_day day_from (λ d. (d.day, (d.month, d.year)))
    (record { there = λ p fits. fits; spelled = λ p fits. refl; again = λ d fits. fits; respelled = λ d fits. refl; undone = λ d fits. refl })
    (λ at. refl)
    (both_lawful two (led (codes " ") (both month (led (codes " ") four))) two_lawful
    (led_lawful (codes " ") (both month (led (codes " ") four)) (both_lawful month (led (codes " ") four) month_lawful (led_lawful (codes " ") four four_lawful))))

abbrev date : Grammar Shown
date = record { Fits = λ s. named_day.Fits s.day × (time.Fits s.time × zone.Fits s.zone); spell = date_text; read = date_at }

date_lawful : Lawful date
unfolding date_at
date_lawful =
    seen_lawful (both named_day (led (codes " ") (both time (led (codes " ") zone)))) date date_from (λ s. (s.day, (s.time, s.zone)))
    (record { there = λ p fits. fits; spelled = λ p fits. refl; again = λ s fits. fits; respelled = λ s fits. refl; undone = λ s fits. refl })
    (λ at. refl)
    (both_lawful named_day (led (codes " ") (both time (led (codes " ") zone))) named_day_lawful
    (led_lawful (codes " ") (both time (led (codes " ") zone)) (both_lawful time (led (codes " ") zone) time_lawful (led_lawful (codes " ") zone zone_lawful))))

abbrev header_date : Grammar (ℕ × Shown)
header_date = record { Fits = λ p. HasValue weekdays p.0 × date.Fits p.1; spell = λ p. header_date_text p.0 p.1; read = header_date_at }

header_date_lawful : Lawful header_date
unfolding header_date_at
header_date_lawful =
    same_lawful (both weekday (led (codes ", ") date)) header_date (λ p fits. fits) (λ p fits. fits) (λ p fits. refl) (λ at. refl)
    (both_lawful weekday (led (codes ", ") date) weekday_lawful (led_lawful (codes ", ") date date_lawful))

digits_from : (shown : Shown) → date.Fits shown → HasDigits shown
digits_from shown fits = record {
  hours = fits.1.1.0;
  minutes = fits.1.1.1;
  day = fits.0.0;
  month = month_small shown.day.month fits.0.1.0;
  year = fits.0.1.1;
  hour = fits.1.0.0;
  minute = fits.1.0.1;
  second = fits.1.0.2;
}

date_fits : (shown : Shown) (stamp : Instant) → IsShown shown stamp → date.Fits shown
date_fits shown stamp is =
    let digits = shown_digits shown stamp is in
    ((digits.day, (has_month shown.day.month is.day.1.0 is.day.1.1, digits.year)), ((digits.hour, digits.minute, digits.second), (digits.hours, digits.minutes)))

-- What is read.

weekday_below : (day : ShownDay) → weekday_of day < 7
weekday_below day = weekday_number_bound (days_from_civil (pos day.year) day.month day.day)

same_number : (n : ℕ) → eqb n n ≡ true
same_number n = grind (arith, nat_tests)

module _ (text : List ℕ) where
  abbrev whole_read : Result (ℕ × Shown) (List ℕ)
  whole_read = ending (header_date_at (record { rest = text; farthest = text }))

  pub digits_read : (p : ℕ × Shown) → whole_read ≡ Ok p → HasDigits p.1
  digits_read p e = digits_from p.1 (subst (λ r. Tells header_date text r) e (whole_told header_date header_date_lawful text)).0.1

  pub nothing_read : (stop : List ℕ) → whole_read ≡ Err stop → None ≡ header_stamp_of text
  unfolding header_stamp_of
  nothing_read stop e = sym (ap on_weekday e)

  pub no_stamp : (p : ℕ × Shown) (part : Part) → whole_read ≡ Ok p → AnswersShown p.1 (Err part) → None ≡ header_stamp_of text
  unfolding header_stamp_of
  no_stamp p part e wrong = sym (ap on_weekday e ∙ by_weekday (eqb p.0 (weekday_of p.1.day)))
    where
      by_weekday : (b : Bool) → cond b (result_ok (stamp_in p.1)) None ≡ None
      by_weekday true = ap result_ok (stamp_is p.1 (Err part) wrong)
      by_weekday false = refl

  pub other_weekday : (p : ℕ × Shown) → whole_read ≡ Ok p → eqb p.0 (weekday_of p.1.day) ≡ false → None ≡ header_stamp_of text
  unfolding header_stamp_of
  other_weekday p e other = sym (ap on_weekday e ∙ ap (λ b. cond b (result_ok (stamp_in p.1)) None) other)

  pub right_weekday : (p : ℕ × Shown) (stamp : Instant) → whole_read ≡ Ok p → IsShown p.1 stamp → eqb p.0 (weekday_of p.1.day) ≡ true → Some stamp ≡ header_stamp_of text
  unfolding header_stamp_of
  right_weekday p stamp e is same =
      sym (ap on_weekday e ∙ (ap (λ b. cond b (result_ok (stamp_in p.1)) None) same ∙ ap result_ok (stamp_is p.1 (Ok stamp) is)))

  stamp_from : (stamp : Instant) → IsHeaderDate stamp text → header_stamp_of text ≡ Some stamp
  stamp_from stamp is =
      let p : ℕ × Shown = (weekday_of is.shown.day, is.shown) in
      let spelled : IsSpelled header_date p text = ((has_weekday (weekday_of is.shown.day) (weekday_below is.shown.day), date_fits is.shown stamp is.shows), is.spelled) in
      sym (right_weekday p stamp (whole_only header_date header_date_lawful p text spelled) is.shows (same_number (weekday_of is.shown.day)))

  stamp_to : (stamp : Instant) → header_stamp_of text ≡ Some stamp → IsHeaderDate stamp text
  unfolding header_stamp_of
  stamp_to stamp found = by_read whole_read refl found
    where
      some_stamp : (shown : Shown) (r : Result Instant Part) → AnswersShown shown r → result_ok r ≡ Some stamp → IsShown shown stamp
      some_stamp shown (Ok other) answer e = let same : other ≡ stamp = cc in subst (λ s. IsShown shown s) same answer
      some_stamp shown (Err part) answer e = let h : ⊥ = cc in absurd h

      by_weekday : (p : ℕ × Shown) → IsSpelled header_date p text → (b : Bool) → eqb p.0 (weekday_of p.1.day) ≡ b → cond b (result_ok (stamp_in p.1)) None ≡ Some stamp → IsHeaderDate stamp text
      by_weekday p spelled true same e = record {
        shown = p.1;
        shows = some_stamp p.1 (stamp_in p.1) (stamp_told p.1) e;
        spelled = spelled.1 ∙ ap (λ n. header_date_text n p.1) (eqb-true p.0 (weekday_of p.1.day) same);
      }
      by_weekday p spelled false other e = let h : ⊥ = cc in absurd h

      by_read : (r : Result (ℕ × Shown) (List ℕ)) → whole_read ≡ r → on_weekday r ≡ Some stamp → IsHeaderDate stamp text
      by_read (Ok p) e is =
          by_weekday p (subst (λ r. Tells header_date text r) e (whole_told header_date header_date_lawful text)) (eqb p.0 (weekday_of p.1.day)) refl is
      by_read (Err stop) e is = let h : ⊥ = cc in absurd h

  pub date_told : (r : Option Instant) → r ≡ header_stamp_of text → MatchOption r ((stamp : Instant) → IsHeaderDate stamp text → ⊥) (λ stamp. IsHeaderDate stamp text)
  date_told None e = λ stamp is. let both : None ≡ Some stamp = e ∙ stamp_from stamp is in let h : ⊥ = cc in h
  date_told (Some stamp) e = stamp_to stamp (sym e)

pub stamp_value : (stamp : Instant) (text : List ℕ) → (header_stamp_of text ≡ Some stamp) ↔ IsHeaderDate stamp text
stamp_value stamp text = (stamp_to text stamp, stamp_from text stamp)

pub date_right : (stamp : Instant) → IsStamp stamp → IsHeaderDate stamp (header_date_of stamp)
date_right stamp is = record { shown = shown_of stamp; shows = shown_right stamp is; spelled = refl }

pub date_only : (stamp : Instant) (text : List ℕ) → IsHeaderDate stamp text → text ≡ header_date_of stamp
date_only stamp text is = is.spelled ∙ ap (λ shown. header_date_text (weekday_of shown.day) shown) (shown_only is.shown stamp is.shows)

-- One line.

name_cond : (b : Bool) (x y : List ℕ) → Printable x × (length x ≡ 3) → Printable y × (length y ≡ 3) → Printable (cond b x y) × (length (cond b x y) ≡ 3)
name_cond true x y first second = first
name_cond false x y first second = second

three : (a b c : ℕ) → is_unprintable a ≡ false → is_unprintable b ≡ false → is_unprintable c ≡ false → Printable (a ∷ b ∷ c ∷ []) × (length (a ∷ b ∷ c ∷ []) ≡ 3)
three a b c first second third = ((first, (second, (third, tt))), refl)

weekday_line : (n : ℕ) → Printable (weekday_name n) × (length (weekday_name n) ≡ 3)
weekday_line n =
    name_cond (eqb n 0) (codes "Mon") _ (three 77 111 110 refl refl refl)
    (name_cond (eqb n 1) (codes "Tue") _ (three 84 117 101 refl refl refl)
    (name_cond (eqb n 2) (codes "Wed") _ (three 87 101 100 refl refl refl)
    (name_cond (eqb n 3) (codes "Thu") _ (three 84 104 117 refl refl refl)
    (name_cond (eqb n 4) (codes "Fri") _ (three 70 114 105 refl refl refl)
    (name_cond (eqb n 5) (codes "Sat") (codes "Sun") (three 83 97 116 refl refl refl) (three 83 117 110 refl refl refl))))))

month_line : (n : ℕ) → Printable (month_name n) × (length (month_name n) ≡ 3)
month_line n =
    name_cond (eqb n 1) (codes "Jan") _ (three 74 97 110 refl refl refl)
    (name_cond (eqb n 2) (codes "Feb") _ (three 70 101 98 refl refl refl)
    (name_cond (eqb n 3) (codes "Mar") _ (three 77 97 114 refl refl refl)
    (name_cond (eqb n 4) (codes "Apr") _ (three 65 112 114 refl refl refl)
    (name_cond (eqb n 5) (codes "May") _ (three 77 97 121 refl refl refl)
    (name_cond (eqb n 6) (codes "Jun") _ (three 74 117 110 refl refl refl)
    (name_cond (eqb n 7) (codes "Jul") _ (three 74 117 108 refl refl refl)
    (name_cond (eqb n 8) (codes "Aug") _ (three 65 117 103 refl refl refl)
    (name_cond (eqb n 9) (codes "Sep") _ (three 83 101 112 refl refl refl)
    (name_cond (eqb n 10) (codes "Oct") _ (three 79 99 116 refl refl refl)
    (name_cond (eqb n 11) (codes "Nov") (codes "Dec") (three 78 111 118 refl refl refl) (three 68 101 99 refl refl refl)))))))))))

digit_line : (n : ℕ) → n < 10 → is_unprintable (n + 48) ≡ false
digit_line n low = grind (arith, nat_tests)

two_line : (n : ℕ) → n < 100 → Printable (two_digits n)
two_line n low = (digit_line (n / 10) (omega arith), (digit_line (n % 10) (omega arith), tt))

four_line : (n : ℕ) → n < 10000 → Printable (four_digits n)
four_line n low = joined (two_digits (n / 100)) (two_digits (n % 100)) (two_line (n / 100) (omega arith)) (two_line (n % 100) (omega arith))

sign_line : (b : Bool) → Printable (sign_word b) × (length (sign_word b) ≡ 1)
sign_line true = ((refl, tt), refl)
sign_line false = ((refl, tt), refl)

module _ (shown : Shown) (digits : HasDigits shown) where
  zone_line : Printable (zone_text shown.zone)
  zone_line = joined (sign_word shown.zone.ahead) _ (sign_line shown.zone.ahead).0
      (joined (two_digits shown.zone.hours) (two_digits shown.zone.minutes) (two_line shown.zone.hours digits.hours) (two_line shown.zone.minutes digits.minutes))

  -- behind two digits, a mark and the rest
  marked : (n mark : ℕ) (rest : List ℕ) → n < 100 → is_unprintable mark ≡ false → Printable rest → Printable (two_digits n ++ mark ∷ rest)
  marked n mark rest low printable others = joined (two_digits n) (mark ∷ rest) (two_line n low) (printable, others)

  time_line : Printable (time_text shown.time)
  time_line =
      marked shown.time.hour 58 (two_digits shown.time.minute ++ 58 ∷ two_digits shown.time.second) digits.hour refl
      (marked shown.time.minute 58 (two_digits shown.time.second) digits.minute refl (two_line shown.time.second digits.second))

  day_line : Printable (day_text shown.day)
  day_line =
      marked shown.day.day 47 (two_digits shown.day.month ++ 47 ∷ four_digits shown.day.year) digits.day refl
      (marked shown.day.month 47 (four_digits shown.day.year) digits.month refl (four_line shown.day.year digits.year))

  named_day_line : Printable (named_day_text shown.day)
  named_day_line =
      marked shown.day.day 32 (month_name shown.day.month ++ 32 ∷ four_digits shown.day.year) digits.day refl
      (joined (month_name shown.day.month) (32 ∷ four_digits shown.day.year) (month_line shown.day.month).0 (refl, four_line shown.day.year digits.year))

  time_and_zone : Printable (time_text shown.time ++ 32 ∷ zone_text shown.zone)
  time_and_zone = joined (time_text shown.time) (32 ∷ zone_text shown.zone) time_line (refl, zone_line)

  date_line : (n : ℕ) → Printable (header_date_text n shown)
  date_line n =
      joined (weekday_name n) (44 ∷ 32 ∷ date_text shown) (weekday_line n).0
      (refl, (refl, joined (named_day_text shown.day) (32 ∷ (time_text shown.time ++ 32 ∷ zone_text shown.zone)) named_day_line (refl, time_and_zone)))

  text_end : Printable (codes " (" ++ (zone_text shown.zone ++ codes ")"))
  text_end = (refl, (refl, joined (zone_text shown.zone) (codes ")") zone_line (refl, tt)))

  text_time : Printable (codes " ore " ++ (time_text shown.time ++ (codes " (" ++ (zone_text shown.zone ++ codes ")"))))
  text_time = (refl, (refl, (refl, (refl, (refl, joined (time_text shown.time) (codes " (" ++ (zone_text shown.zone ++ codes ")")) time_line text_end)))))

  text_line : Printable (line_text shown)
  text_line =
      (refl, (refl, (refl, (refl, (refl, (refl, (refl, joined (day_text shown.day) (codes " ore " ++ (time_text shown.time ++ (codes " (" ++ (zone_text shown.zone ++ codes ")")))) day_line text_time)))))))

zone_size : (shown : Shown) → length (zone_text shown.zone) ≡ 5
zone_size shown = omega (arith, length-append (sign_word shown.zone.ahead) (two_digits shown.zone.hours ++ two_digits shown.zone.minutes), (sign_line shown.zone.ahead).1)

named_day_size : (shown : Shown) → length (named_day_text shown.day) ≡ 11
named_day_size shown = omega (arith, length-append (month_name shown.day.month) (codes " " ++ four_digits shown.day.year), (month_line shown.day.month).1)

date_size : (n : ℕ) (shown : Shown) → length (header_date_text n shown) ≡ 31
date_size n shown =
    omega (
      arith,
      length-append (weekday_name n) (codes ", " ++ date_text shown),
      (weekday_line n).1,
      length-append (named_day_text shown.day) (codes " " ++ (time_text shown.time ++ (codes " " ++ zone_text shown.zone))),
      named_day_size shown,
      zone_size shown,
    )

line_size : (shown : Shown) → length (line_text shown) ≡ 38
line_size shown = omega (arith, zone_size shown, length-append (zone_text shown.zone) (codes ")"))

pub one_date : (stamp : Instant) (text : List ℕ) → IsHeaderDate stamp text → AllPrintable text × (length text ≡ 31)
one_date stamp text is =
    let n = weekday_of is.shown.day in
    (rw is.spelled (printable_all (header_date_text n is.shown) (date_line is.shown (shown_digits is.shown stamp is.shows) n)), ap length is.spelled ∙ date_size n is.shown)

pub one_line : (stamp : Instant) → IsStamp stamp → AllPrintable (day_line_of stamp) × (length (day_line_of stamp) ≡ 38)
one_line stamp is =
    (printable_all (day_line_of stamp) (text_line (shown_of stamp) (shown_digits (shown_of stamp) stamp (shown_right stamp is))), line_size (shown_of stamp))

-- The comparison of the code.

pub same_weekday : (read day index : ℕ) → index ≡ day → index ≡ read → eqb read day ≡ true
same_weekday read day index is same = ap (λ n. eqb read n) (sym is ∙ same) ∙ same_number read

pub not_weekday : (read day index : ℕ) → index ≡ day → index ≢ read → eqb read day ≡ false
not_weekday read day index is other = by_case (eqb read day) refl
  where
    by_case : (b : Bool) → eqb read day ≡ b → b ≡ false
    by_case true e = absurd (other (is ∙ sym (eqb-true read day e)))
    by_case false e = refl
