-- What a clock shows, by days since 1 March 1968.
use Rattle.std.proofs.Common.{◌≡◌, ℕ, suc, ◌+◌, ◌-◌, ◌*◌, ◌/◌, ◌%◌, ◌<◌, ◌≤◌, Bool, true, false, cond, nat_lt, refl, sym, ap, arith, ℤ, pos, negsuc, neg_ℤ, ◌+ℤ◌, ◌-ℤ◌, ◌*ℤ◌, ◌≤ℤ◌, unsigned_abs}
use Rattle.std.proofs.lemmas.Bool.{false≢true}
use Rattle.std.proofs.lemmas.Bool.Decides.{nat_tests}
use Rattle.jiff_core.specs.Calendar.{days_from_civil, day_count}
use Rattle.jiff_core.specs.March.{march_days}
use Rattle.jiff_core.proofs.CalendarLemmas.{day_count-epoch}
use Rattle.jiff_core.proofs.MarchLemmas.{leap_day, day_count-late, day_count-early, month_and_day, day_in_month, day_in_early_month}
use Rattle.jiff_core.proofs.SignedLemmas.{signed_arith}
use Rattle.pec_cert.specs.Clock.{zone_of, time_of, in_year, years_before, day_in_year, fifths_of_months, month_of, day_of, clock_start, seconds_on_clock, shown_of}
use Rattle.pec_cert.specs.Shown.{IsZone, IsDay, IsTime, minutes_ahead, IsShown}
use Rattle.pec_cert.specs.Stamp.{Instant, IsMinutes, IsStamp}
use Rattle.pec_cert.specs.declared.stamps.ShownDay.{ShownDay}
use Rattle.pec_cert.specs.declared.stamps.Shown.{Shown}
use Rattle.pec_cert.proofs.CalendarLemmas.{one_shown}

-- The zone.

zone_right : (minutes : ℤ) → IsMinutes minutes → IsZone (zone_of minutes)
zone_right (pos n) small = record { hours = omega (arith, signed_arith); minutes = omega arith; none_behind = λ behind h m. absurd (false≢true (sym behind)) }
zone_right (negsuc n) small = record { hours = omega (arith, signed_arith); minutes = omega arith; none_behind = λ behind h m. absurd (omega arith) }

again : (n : ℕ) → n / 60 * 60 + n % 60 ≡ n
again n = omega arith

minutes_right : (minutes : ℤ) → minutes ≡ minutes_ahead (zone_of minutes)
minutes_right (pos n) = ap (λ m. pos m) (sym (again n))
minutes_right (negsuc n) = ap (λ m. neg_ℤ (pos m)) (sym (again (suc n)))

-- The day.

leap_fourth : (y : ℕ) → 1969 ≤ y → y < 2100 → y % 4 ≡ 0 → leap_day (pos y) ≡ 1
leap_fourth y low high fourth = grind (arith, nat_tests)

-- the days before 1 March 2100 lie in 132 years, the last of them with no leap day
years_right : (days : ℕ) → days < 48212 → (years_before days < 132) × (day_in_year days < 366)
years_right days below = (omega arith, omega arith)

-- a last day of 366 is a leap day
leap_right : (days : ℕ) → days < 48212 → day_in_year days < 365 + leap_day (pos (1968 + years_before days + 1))
leap_right days below = by_fourth (nat_lt (day_in_year days) 365) refl
  where
    by_fourth : (b : Bool) → nat_lt (day_in_year days) 365 ≡ b → day_in_year days < 365 + leap_day (pos (1968 + years_before days + 1))
    by_fourth true is = let low : day_in_year days < 365 = grind (arith, nat_tests, is) in omega arith
    by_fourth false is =
        let high : 365 ≤ day_in_year days = grind (arith, nat_tests, is) in
        let leap = leap_fourth (1968 + years_before days + 1) (omega arith) (omega arith) (omega arith) in
        omega (arith, leap)

-- the days that have passed are those of whole years and the rest
days_again : (days : ℕ) → days < 48212 → march_days (11968 + years_before days) + day_in_year days ≡ days + 4_371_222
days_again days below = omega arith

-- a date with its day number
pub record IsDayNumber (day : ShownDay) (days : ℕ) : Type 0 where
  pub is : IsDay day
  pub number : days_from_civil (pos day.year) day.month day.day ≡ pos days -ℤ pos 671

number_from : (year month day days : ℕ) → day_count (pos year) month day ≡ days + 4_371_282 → days_from_civil (pos year) month day ≡ pos days -ℤ pos 671
unfolding days_from_civil
number_from year month day days count = omega (arith, signed_arith, count, day_count-epoch)

day_right : (days : ℕ) → days < 48212 → IsDayNumber (day_of days) days
day_right days below = by_month (nat_lt 12 (month_of days)) refl
  where
    by_month : (late : Bool) → nat_lt 12 (month_of days) ≡ late
        → IsDayNumber (in_year late (1968 + years_before days) (month_of days) (fifths_of_months days % 153 / 5 + 1)) days
    by_month true is =
        let late : 12 < month_of days = grind (arith, nat_tests, is) in
        let years = years_right days below in
        let month : month_of days ≤ 14 = omega (arith, years.1) in
        let back : month_of days - 12 + 12 ≡ month_of days = omega arith in
        let count = day_count-early (pos (1968 + years_before days + 1)) (11968 + years_before days) (month_of days - 12) (fifths_of_months days % 153 / 5 + 1)
        (omega (arith, signed_arith)) (omega arith) (omega arith) (omega arith) in
        record {
          is = (
            (omega (arith, signed_arith), omega (arith, signed_arith, years.0)),
            (omega arith, omega arith),
            (
              omega arith,
              day_in_early_month (pos (1968 + years_before days + 1)) (day_in_year days) late (leap_right days below),
            ),
          );
          number = number_from (1968 + years_before days + 1) (month_of days - 12) (fifths_of_months days % 153 / 5 + 1) days
              (omega (arith, rw back at count, month_and_day (day_in_year days) years.1, days_again days below));
        }
    by_month false is =
        let early : month_of days ≤ 12 = grind (arith, nat_tests, is) in
        let years = years_right days below in
        let month : 3 ≤ month_of days = omega arith in
        let count = day_count-late (pos (1968 + years_before days)) (11968 + years_before days) (month_of days) (fifths_of_months days % 153 / 5 + 1)
        (omega (arith, signed_arith)) month early (omega arith) in
        record {
          is = ((omega (arith, signed_arith), omega (arith, signed_arith, years.0)), (omega arith, early), (omega arith, day_in_month (pos (1968 + years_before days)) (day_in_year days) early));
          number = number_from (1968 + years_before days) (month_of days) (fifths_of_months days % 153 / 5 + 1) days
              (omega (arith, count, month_and_day (day_in_year days) years.1, days_again days below));
        }

-- The time.

time_right : (seconds : ℕ) → seconds < 86400 → IsTime (time_of seconds)
time_right seconds below = record { hour = omega arith; minute = omega arith; second = omega arith }

time_again : (seconds : ℕ) → (time_of seconds).hour * 3600 + (time_of seconds).minute * 60 + (time_of seconds).second ≡ seconds
time_again seconds = omega arith

-- All of it.

not_negative : (z : ℤ) → pos 0 ≤ℤ z → pos (unsigned_abs z) ≡ z
not_negative (pos n) is = refl
not_negative (negsuc n) is = absurd (omega (arith, signed_arith, is))

clock_is : (stamp : Instant) → IsMinutes stamp.minutes → pos (seconds_on_clock stamp) ≡ pos (stamp.moment + clock_start) +ℤ stamp.minutes *ℤ pos 60
clock_is stamp small = not_negative (pos (stamp.moment + clock_start) +ℤ stamp.minutes *ℤ pos 60) (omega (arith, signed_arith, small))

seconds_from : (days rest moment : ℕ) (number minutes : ℤ) (all time : ℕ) → number ≡ pos days -ℤ pos 671 → days ≡ all / 86400 → time ≡ all % 86400
    → pos all ≡ pos (moment + 57_974_400) +ℤ minutes *ℤ pos 60 → number *ℤ pos 86400 +ℤ pos time ≡ pos moment +ℤ minutes *ℤ pos 60
seconds_from days rest moment number minutes all time is whole left clock = omega (arith, signed_arith)

pub shown_right : (stamp : Instant) → IsStamp stamp → IsShown (shown_of stamp) stamp
unfolding shown_of
shown_right stamp is =
    let early : stamp.moment < 4_102_444_800 = is.0 in
    let small = is.1 in
    let all = seconds_on_clock stamp in
    let clock = clock_is stamp small in
    let below : all / 86400 < 48212 = omega (arith, signed_arith, clock, small) in
    let day = day_right (all / 86400) below in
    record {
      zone = zone_right stamp.minutes small;
      day = day.is;
      time = time_right (all % 86400) (omega arith);
      minutes = minutes_right stamp.minutes;
      moment = (
        early,
        seconds_from (all / 86400) 0 stamp.moment _ stamp.minutes all _ day.number refl (time_again (all % 86400)) clock,
      );
    }

pub minutes_within : (shown : Shown) (stamp : Instant) → IsShown shown stamp → IsMinutes stamp.minutes
minutes_within shown stamp is = rw is.minutes (within shown.zone.ahead (shown.zone.hours * 60 + shown.zone.minutes) (omega (arith, is.zone.hours, is.zone.minutes)))
  where
    within : (ahead : Bool) (n : ℕ) → n ≤ 1559 → IsMinutes (cond ahead (pos n) (neg_ℤ (pos n)))
    within true n low = (omega (arith, signed_arith), omega (arith, signed_arith))
    within false n low = (omega (arith, signed_arith), omega (arith, signed_arith))

pub shown_only : (shown : Shown) (stamp : Instant) → IsShown shown stamp → shown ≡ shown_of stamp
shown_only shown stamp is = one_shown shown (shown_of stamp) stamp is (shown_right stamp (is.moment.0, minutes_within shown stamp is))
