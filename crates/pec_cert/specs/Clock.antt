-- What a clock shows at a moment, as a function: `shown_of`, at the end. `Shown` says the same in the words of the
-- calendar, and `a_moment_is_shown_in_one_way` that the two agree. Days are counted from 1 March 1968, so that a leap
-- day is the last day of its year: from there to February 2100 every fourth year has one.
use Rattle.std.specs.Prelude.{ℕ, suc, ◌+◌, ◌-◌, ◌*◌, ◌/◌, ◌%◌, nat_lt, Bool, true, false, ℤ, pos, negsuc, ◌+ℤ◌, ◌*ℤ◌, unsigned_abs}
use Rattle.pec_cert.specs.Shown.{seconds_an_hour, seconds_a_day}
use Rattle.pec_cert.specs.Stamp.{Instant}
use Rattle.pec_cert.specs.declared.stamps.ShownZone.{ShownZone}
use Rattle.pec_cert.specs.declared.stamps.ShownDay.{ShownDay}
use Rattle.pec_cert.specs.declared.stamps.ShownTime.{ShownTime}
use Rattle.pec_cert.specs.declared.stamps.Shown.{Shown}

-- the zone of a clock so many minutes ahead of UTC
abbrev pub zone_of : ℤ → ShownZone
zone_of (pos n) = record { ahead = true; hours = n / 60; minutes = n % 60 }
zone_of (negsuc n) = record { ahead = false; hours = suc n / 60; minutes = suc n % 60 }

-- the time so many seconds after midnight
abbrev pub time_of : ℕ → ShownTime
time_of seconds = record { hour = seconds / seconds_an_hour; minute = seconds / 60 % 60; second = seconds % 60 }

-- a day of a year that begins in March: the months 13 and 14 are January and February of the year after
abbrev pub in_year : Bool → ℕ → ℕ → ℕ → ShownDay
in_year true year month day = record { day = day; month = month - 12; year = year + 1 }
in_year false year month day = record { day = day; month = month; year = year }

abbrev pub days_of_four_years : ℕ
days_of_four_years = 1461

-- the whole years, of which every fourth has 366 days, before so many days have passed
abbrev pub years_before : ℕ → ℕ
years_before days = (4 * days + 3) / days_of_four_years

-- how many days of its year have passed
abbrev pub day_in_year : ℕ → ℕ
day_in_year days = (4 * days + 3) % days_of_four_years / 4

abbrev pub days_of_five_months : ℕ
days_of_five_months = 153

-- five for each day, so that each five months from March on, which have 153 days, are divided by 153; and 461 for the
-- months before
abbrev pub fifths_of_months : ℕ → ℕ
fifths_of_months days = 5 * day_in_year days + 461

-- the month, from 3 to 14
abbrev pub month_of : ℕ → ℕ
month_of days = fifths_of_months days / days_of_five_months

abbrev pub first_year : ℕ
first_year = 1968

-- the day so many days after 1 March 1968
abbrev pub day_of : ℕ → ShownDay
day_of days =
    in_year (nat_lt 12 (month_of days)) (first_year + years_before days) (month_of days)
    (fifths_of_months days % days_of_five_months / 5 + 1)

-- the seconds from 1 March 1968 to 1 January 1970
abbrev pub clock_start : ℕ
clock_start = 57_974_400

-- the seconds that have passed on the clock since 1 March 1968
abbrev pub seconds_on_clock : Instant → ℕ
seconds_on_clock stamp = unsigned_abs (pos (stamp.moment + clock_start) +ℤ stamp.minutes *ℤ pos 60)

-- what the clock shows at the moment
unfoldable pub shown_of : Instant → Shown
shown_of stamp = record {
  zone = zone_of stamp.minutes;
  day = day_of (seconds_on_clock stamp / seconds_a_day);
  time = time_of (seconds_on_clock stamp % seconds_a_day);
}
