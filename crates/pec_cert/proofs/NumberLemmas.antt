-- Numbers of two and four digits, and what is shown of a moment, are read exactly.
use Rattle.std.proofs.Common.{◌≡◌, ℕ, ◌+◌, ◌-◌, ◌*◌, ◌/◌, ◌%◌, ◌<◌, ◌≤◌, Bool, true, false, List, [], ◌∷◌, ◌++◌, refl, ap, ◌∙◌, inl, inr, arith}
use Rattle.std.specs.Prelude.{codes}
use Rattle.std.specs.Char.{is_ascii_digit}
use Rattle.std.proofs.lemmas.Bool.Decides.{nat_tests}
use Rattle.pec_grammar.specs.Grammar.{Grammar, byte, both, choice, HasValue, led, ended}
use Rattle.pec_grammar.proofs.Parts.{Lawful, byte_lawful}
use Rattle.pec_grammar.proofs.Sequences.{Views, seen_lawful, both_lawful, led_lawful, ended_lawful}
use Rattle.pec_grammar.proofs.Openings.{choice_lawful}
use Rattle.pec_cert.specs.Markup.{two_digits, four_digits}
use Rattle.pec_cert.specs.Shown.{sign_word, zone_text, day_text, time_text, HasDigits}
use Rattle.pec_cert.specs.Lines.{shown_text}
use Rattle.pec_cert.specs.LinesReading.{digit_at, two_at, four_at, signs, zone_from, zone_at, day_from, day_at, time_from, time_at, shown_from, shown_at}
use Rattle.pec_cert.specs.declared.stamps.ShownZone.{ShownZone}
use Rattle.pec_cert.specs.declared.stamps.ShownDay.{ShownDay}
use Rattle.pec_cert.specs.declared.stamps.ShownTime.{ShownTime}
use Rattle.pec_cert.specs.declared.stamps.Shown.{Shown}

digit_range : (b : ℕ) → is_ascii_digit b ≡ true → (48 ≤ b) × (b ≤ 57)
digit_range b e = (grind (arith, nat_tests), grind (arith, nat_tests))

range_digit : (b : ℕ) → 48 ≤ b → b ≤ 57 → is_ascii_digit b ≡ true
range_digit b low high = grind (arith, nat_tests)

abbrev pub digit : Grammar ℕ
digit = record { Fits = λ n. n < 10; spell = λ n. (n + 48) ∷ []; read = digit_at }

digit_views : Views (byte is_ascii_digit) digit (λ b. b - 48) (λ n. n + 48)
digit_views = record {
  there = λ b fits. let r = digit_range b fits in omega arith;
  spelled = λ b fits. let r = digit_range b fits in let e : b - 48 + 48 ≡ b = omega arith in ap (λ n. n ∷ []) e;
  again = λ n fits. range_digit (n + 48) (omega arith) (omega arith);
  respelled = λ n fits. refl;
  undone = λ n fits. omega arith;
}

pub digit_lawful : Lawful digit
unfolding digit_at
digit_lawful = seen_lawful (byte is_ascii_digit) digit (λ b. b - 48) (λ n. n + 48) digit_views (λ at. refl) (byte_lawful is_ascii_digit 48 refl)

abbrev pub two : Grammar ℕ
two = record { Fits = λ n. n < 100; spell = two_digits; read = two_at }

cells : (a b c d : ℕ) → a ≡ c → b ≡ d → ◌≡◌ {A = List ℕ} (a ∷ b ∷ []) (c ∷ d ∷ [])
cells a b c d e f = cc

two_views : Views (both digit digit) two (λ p. p.0 * 10 + p.1) (λ n. (n / 10, n % 10))
two_views = record {
  there = λ p fits. let a = fits.0 in let b = fits.1 in omega arith;
  spelled = λ p fits. let a = fits.0 in let b = fits.1 in cells ((p.0 * 10 + p.1) / 10 + 48) ((p.0 * 10 + p.1) % 10 + 48) (p.0 + 48) (p.1 + 48) (omega arith) (omega arith);
  again = λ n fits. (omega arith, omega arith);
  respelled = λ n fits. refl;
  undone = λ n fits. omega arith;
}

pub two_lawful : Lawful two
unfolding two_at
two_lawful = seen_lawful (both digit digit) two (λ p. p.0 * 10 + p.1) (λ n. (n / 10, n % 10)) two_views (λ at. refl) (both_lawful digit digit digit_lawful digit_lawful)

abbrev pub four : Grammar ℕ
four = record { Fits = λ n. n < 10000; spell = four_digits; read = four_at }

four_cells : (a b c d : ℕ) → a ≡ c → b ≡ d → two_digits a ++ two_digits b ≡ two_digits c ++ two_digits d
four_cells a b c d e f = ap (λ n. two_digits n ++ two_digits b) e ∙ ap (λ n. two_digits c ++ two_digits n) f

four_views : Views (both two two) four (λ p. p.0 * 100 + p.1) (λ n. (n / 100, n % 100))
four_views = record {
  there = λ p fits. let a = fits.0 in let b = fits.1 in omega arith;
  spelled = λ p fits. let a = fits.0 in let b = fits.1 in four_cells ((p.0 * 100 + p.1) / 100) ((p.0 * 100 + p.1) % 100) p.0 p.1 (omega arith) (omega arith);
  again = λ n fits. (omega arith, omega arith);
  respelled = λ n fits. refl;
  undone = λ n fits. omega arith;
}

pub four_lawful : Lawful four
unfolding four_at
four_lawful = seen_lawful (both two two) four (λ p. p.0 * 100 + p.1) (λ n. (n / 100, n % 100)) four_views (λ at. refl) (both_lawful two two two_lawful two_lawful)

-- A zone.

abbrev sign : Grammar Bool
sign = choice sign_word signs

sign_lawful : Lawful sign
sign_lawful = choice_lawful sign_word (codes "+", true) ((codes "-", false) ∷ []) (refl, (refl, tt)) refl

has_sign : (b : Bool) → HasValue signs b
has_sign true = inl refl
has_sign false = inr (inl refl)

abbrev pub zone : Grammar ShownZone
zone = record { Fits = λ z. (z.hours < 100) × (z.minutes < 100); spell = zone_text; read = zone_at }

pub zone_lawful : Lawful zone
unfolding zone_at
zone_lawful =
    seen_lawful (both sign (both two two)) zone zone_from (λ z. (z.ahead, (z.hours, z.minutes)))
    (record { there = λ p fits. fits.1; spelled = λ p fits. refl; again = λ z fits. (has_sign z.ahead, fits); respelled = λ z fits. refl; undone = λ z fits. refl })
    (λ at. refl) (both_lawful sign (both two two) sign_lawful (both_lawful two two two_lawful two_lawful))

-- A day.

abbrev pub day : Grammar ShownDay
day = record { Fits = λ d. (d.day < 100) × (d.month < 100) × (d.year < 10000); spell = day_text; read = day_at }

pub day_lawful : Lawful day
unfolding day_at
day_lawful =
    seen_lawful (both two (led (codes "/") (both two (led (codes "/") four)))) day day_from (λ d. (d.day, (d.month, d.year)))
    (record { there = λ p fits. (fits.0, fits.1.0, fits.1.1); spelled = λ p fits. refl; again = λ d fits. (fits.0, (fits.1, fits.2)); respelled = λ d fits. refl; undone = λ d fits. refl })
    (λ at. refl)
    (both_lawful two (led (codes "/") (both two (led (codes "/") four))) two_lawful
    (led_lawful (codes "/") (both two (led (codes "/") four)) (both_lawful two (led (codes "/") four) two_lawful (led_lawful (codes "/") four four_lawful))))

-- A time.

abbrev pub time : Grammar ShownTime
time = record { Fits = λ t. (t.hour < 100) × (t.minute < 100) × (t.second < 100); spell = time_text; read = time_at }

pub time_lawful : Lawful time
unfolding time_at
time_lawful =
    seen_lawful (both two (led (codes ":") (both two (led (codes ":") two)))) time time_from (λ t. (t.hour, (t.minute, t.second)))
    (record { there = λ p fits. (fits.0, fits.1.0, fits.1.1); spelled = λ p fits. refl; again = λ t fits. (fits.0, (fits.1, fits.2)); respelled = λ t fits. refl; undone = λ t fits. refl })
    (λ at. refl)
    (both_lawful two (led (codes ":") (both two (led (codes ":") two))) two_lawful
    (led_lawful (codes ":") (both two (led (codes ":") two)) (both_lawful two (led (codes ":") two) two_lawful (led_lawful (codes ":") two two_lawful))))

-- All three.

abbrev last_part : Grammar ShownTime
last_part = led (codes "</giorno>\r\n<ora>") (ended time (codes "</ora>\r\n</data>\r\n"))

abbrev later_part : Grammar (ShownDay × ShownTime)
later_part = led (codes "\">\r\n<giorno>") (both day last_part)

abbrev parts : Grammar (ShownZone × (ShownDay × ShownTime))
parts = led (codes "<data zona=\"") (both zone later_part)

parts_lawful : Lawful parts
parts_lawful =
    led_lawful (codes "<data zona=\"") (both zone later_part) (both_lawful zone later_part zone_lawful
    (led_lawful (codes "\">\r\n<giorno>") (both day last_part) (both_lawful day last_part day_lawful
    (led_lawful (codes "</giorno>\r\n<ora>") (ended time (codes "</ora>\r\n</data>\r\n")) (ended_lawful time (codes "</ora>\r\n</data>\r\n") time_lawful)))))

abbrev pub shown : Grammar Shown
shown = record { Fits = HasDigits; spell = shown_text; read = shown_at }

abbrev unshown : Shown → ShownZone × (ShownDay × ShownTime)
unshown s = (s.zone, (s.day, s.time))

pub shown_lawful : Lawful shown
unfolding shown_at
shown_lawful =
    seen_lawful parts shown shown_from unshown
    (record {
      there = λ p fits. record {
        hours = fits.0.0;
        minutes = fits.0.1;
        day = fits.1.0.0;
        month = fits.1.0.1;
        year = fits.1.0.2;
        hour = fits.1.1.0;
        minute = fits.1.1.1;
        second = fits.1.1.2;
      };
      spelled = λ p fits. refl;
      again = λ s fits. ((fits.hours, fits.minutes), ((fits.day, fits.month, fits.year), (fits.hour, fits.minute, fits.second)));
      respelled = λ s fits. refl;
      undone = λ s fits. refl;
    })
    (λ at. refl) parts_lawful
