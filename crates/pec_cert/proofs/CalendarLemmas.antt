-- What a text shows of a moment, by the calendar of `jiff`.
use Rattle.std.proofs.Common.{◌≡◌, ℕ, ◌+◌, ◌*◌, ◌<◌, Bool, true, false, cond, refl, sym, ap, ◌∙◌, arith, inl, ℤ, pos, negsuc, neg_ℤ, ◌+ℤ◌, ◌-ℤ◌, ◌*ℤ◌, ◌≤ℤ◌, ◌<ℤ◌, to_z, of_z, w32}
use Rattle.jiff_core.specs.Calendar.{days_from_civil, day_count}
use Rattle.jiff_core.specs.Date.{epoch_day}
use Rattle.jiff_core.specs.DateTime.{civil_nanos, civil_seconds}
use Rattle.jiff_core.specs.Timestamp.{nanos_of_seconds}
use Rattle.jiff_core.specs.declared.civil.date.Date.{Date}
use Rattle.jiff_core.specs.declared.civil.datetime.DateTime.{DateTime}
use Rattle.jiff_core.proofs.DateLemmas.{civil, epoch_day_injective, epoch_day-lt, days_from_civil-day, days_from_civil-next_year}
use Rattle.jiff_core.proofs.DateTimeLemmas.{civil_nanos-parts, time_nanos_bound}
use Rattle.jiff_core.proofs.SignedLemmas.{signed_arith}
use Rattle.pec_types.specs.declared.moments.TheConstants.{END_OF_TIME}
use Rattle.pec_cert.specs.Stamp.{Instant, IsMinutes}
use Rattle.pec_cert.specs.Shown.{IsZone, IsDay, IsTime, minutes_ahead, seconds_shown, IsShown}
use Rattle.pec_cert.specs.declared.stamps.ShownZone.{ShownZone}
use Rattle.pec_cert.specs.declared.stamps.ShownDay.{ShownDay}
use Rattle.pec_cert.specs.declared.stamps.ShownTime.{ShownTime}
use Rattle.pec_cert.specs.declared.stamps.Shown.{Shown}

-- a date and a time that have these parts
pub record HasParts (shown : Shown) (dt : DateTime) : Type 0 where
  pub year : dt.date.year ≡ pos shown.day.year
  pub month : dt.date.month ≡ shown.day.month
  pub day : dt.date.day ≡ shown.day.day
  pub hour : dt.time.hour ≡ shown.time.hour
  pub minute : dt.time.minute ≡ shown.time.minute
  pub second : dt.time.second ≡ shown.time.second

pub same_seconds : (shown : Shown) (dt : DateTime) → HasParts shown dt → civil_seconds dt ≡ seconds_shown shown
unfolding civil_seconds
same_seconds shown dt p = rw (p.year, p.month, p.day, p.hour, p.minute, p.second) refl

pub moment_from : (seconds minutes : ℤ) (moment : ℕ) → seconds -ℤ minutes *ℤ pos 60 ≡ pos moment → seconds ≡ pos moment +ℤ minutes *ℤ pos 60
moment_from seconds minutes moment e = omega (arith, signed_arith)

pub moment_to : (seconds minutes : ℤ) (moment : ℕ) → seconds ≡ pos moment +ℤ minutes *ℤ pos 60 → seconds -ℤ minutes *ℤ pos 60 ≡ pos moment
moment_to seconds minutes moment e = omega (arith, signed_arith)

-- from nanoseconds to seconds
pub seconds_of_clock : (dt : DateTime) (moment : ℕ) (minutes : ℤ) → civil_nanos dt ≡ pos moment *ℤ pos 1_000_000_000 +ℤ nanos_of_seconds (minutes *ℤ pos 60)
    → civil_seconds dt ≡ pos moment +ℤ minutes *ℤ pos 60
unfolding civil_seconds
seconds_of_clock dt moment minutes e = omega (arith, signed_arith, civil_nanos-parts dt)

-- The year isn't negative: the moment isn't before 1970, and an offset is less than two days.

nothing_less : (n : ℕ) → pos n -ℤ pos n ≡ pos 0
nothing_less n = omega (arith, signed_arith)

first_day : days_from_civil (pos 1970) 1 1 ≡ pos 0
unfolding days_from_civil
first_day = nothing_less (day_count (pos 1970) 1 1)

last_days : days_from_civil (pos 1969) 12 29 ≡ neg_ℤ (pos 3)
last_days =
    let year_end = days_from_civil-next_year (pos 1969) (pos 1970) (omega (arith, signed_arith)) refl in
    let days = days_from_civil-day (pos 1969) 12 29 31 (omega arith) (omega arith) in
    omega (arith, signed_arith, first_day, year_end, days)

abbrev early : Date
early = record { year = pos 1969; month = 12; day = 29; year_in = (omega (arith, signed_arith), omega (arith, signed_arith)); month_in = (omega arith, omega arith); day_in = (omega arith, omega arith) }

early_day : epoch_day early ≡ neg_ℤ (pos 3)
early_day = last_days

pub year_from : (dt : DateTime) (moment : ℕ) (minutes : ℤ) → IsMinutes minutes → civil_nanos dt ≡ pos moment *ℤ pos 1_000_000_000 +ℤ nanos_of_seconds (minutes *ℤ pos 60) → pos 0 ≤ℤ dt.date.year
year_from dt moment minutes small e = by_year dt.date.year refl
  where
    not_before : (year : ℤ) → dt.date.year ≡ year → year <ℤ pos 0 → ⊥
    not_before year is below =
        let earlier = epoch_day-lt dt.date early (inl (omega (arith, signed_arith, is, below))) in
        omega (arith, signed_arith, earlier, early_day, e, civil_nanos-parts dt, time_nanos_bound dt.time)

    by_year : (year : ℤ) → dt.date.year ≡ year → pos 0 ≤ℤ dt.date.year
    by_year (pos n) is = omega (arith, signed_arith, is)
    by_year (negsuc n) is = absurd (not_before (negsuc n) is (omega (arith, signed_arith)))

pub kept : (minutes : ℤ) → IsMinutes minutes → to_z w32 (of_z w32 minutes) ≡ minutes
kept minutes small = omega (arith, signed_arith)

-- a clock's date and time, as they are shown
pub shown_is : (shown : Shown) (dt : DateTime) (moment : ℕ) (minutes : ℤ) → HasParts shown dt → IsZone shown.zone → minutes ≡ minutes_ahead shown.zone → moment < END_OF_TIME
    → civil_nanos dt ≡ pos moment *ℤ pos 1_000_000_000 +ℤ nanos_of_seconds (minutes *ℤ pos 60) → IsShown shown (record { moment = moment; minutes = minutes })
shown_is shown dt moment minutes p zone ahead early_enough clock = record {
  zone = zone;
  day = rw (p.year, p.month, p.day) at (civil dt.date);
  time = record { hour = omega (arith, p.hour); minute = omega (arith, p.minute); second = omega (arith, p.second) };
  minutes = ahead;
  moment = (early_enough, sym (same_seconds shown dt p) ∙ seconds_of_clock dt moment minutes clock);
}

-- What is shown is one moment, and a moment is shown in one way.

instant_is : (s t : Instant) → s.moment ≡ t.moment → s.minutes ≡ t.minutes → s ≡ t
instant_is s t moment minutes =
    let first : ℕ → Instant = λ m. record { moment = m; minutes = s.minutes } in
    let second : ℤ → Instant = λ m. record { moment = t.moment; minutes = m } in
    ap first moment ∙ ap second minutes

same_moment : (m n : ℕ) (x y z : ℤ) → z ≡ pos m +ℤ x *ℤ pos 60 → z ≡ pos n +ℤ y *ℤ pos 60 → x ≡ y → m ≡ n
same_moment m n x y z is also same = omega (arith, signed_arith)

pub one_stamp : (shown : Shown) (s t : Instant) → IsShown shown s → IsShown shown t → s ≡ t
one_stamp shown s t is also =
    let minutes : s.minutes ≡ t.minutes = is.minutes ∙ sym also.minutes in
    instant_is s t (same_moment s.moment t.moment s.minutes t.minutes (seconds_shown shown) is.moment.1 also.moment.1 minutes) minutes

zone_is : (a b : ShownZone) → a.ahead ≡ b.ahead → a.hours ≡ b.hours → a.minutes ≡ b.minutes → a ≡ b
zone_is a b ahead hours minutes =
    let first : Bool → ShownZone = λ x. record { ahead = x; hours = a.hours; minutes = a.minutes } in
    let second : ℕ → ShownZone = λ x. record { ahead = b.ahead; hours = x; minutes = a.minutes } in
    let third : ℕ → ShownZone = λ x. record { ahead = b.ahead; hours = b.hours; minutes = x } in
    ap first ahead ∙ (ap second hours ∙ ap third minutes)

signed_ahead : (x y : Bool) (m n : ℕ) → (x ≡ false → m ≡ 0 → ⊥) → (y ≡ false → n ≡ 0 → ⊥) → cond x (pos m) (neg_ℤ (pos m)) ≡ cond y (pos n) (neg_ℤ (pos n)) → (x ≡ y) × (m ≡ n)
signed_ahead true true m n some also same = (refl, omega (arith, signed_arith))
signed_ahead true false m n some also same = let none : n ≡ 0 = omega (arith, signed_arith) in absurd (also refl none)
signed_ahead false true m n some also same = let none : m ≡ 0 = omega (arith, signed_arith) in absurd (some refl none)
signed_ahead false false m n some also same = (refl, omega (arith, signed_arith))

one_zone : (a b : ShownZone) → IsZone a → IsZone b → minutes_ahead a ≡ minutes_ahead b → a ≡ b
one_zone a b is also same =
    let parts = signed_ahead a.ahead b.ahead (a.hours * 60 + a.minutes) (b.hours * 60 + b.minutes)
    (λ behind none. is.none_behind behind (omega arith) (omega arith)) (λ behind none. also.none_behind behind (omega arith) (omega arith)) same in
    let total = parts.1 in
    let a_minutes = is.minutes in
    let b_minutes = also.minutes in
    zone_is a b parts.0 (omega arith) (omega arith)

date_from : (d : ShownDay) → IsDay d → Date
date_from d is = record { year = pos d.year; month = d.month; day = d.day; year_in = is.0; month_in = is.1; day_in = is.2 }

day_is : (a b : ShownDay) → a.day ≡ b.day → a.month ≡ b.month → a.year ≡ b.year → a ≡ b
day_is a b day month year =
    let first : ℕ → ShownDay = λ x. record { day = x; month = a.month; year = a.year } in
    let second : ℕ → ShownDay = λ x. record { day = b.day; month = x; year = a.year } in
    let third : ℕ → ShownDay = λ x. record { day = b.day; month = b.month; year = x } in
    ap first day ∙ (ap second month ∙ ap third year)

one_day : (a b : ShownDay) → IsDay a → IsDay b → days_from_civil (pos a.year) a.month a.day ≡ days_from_civil (pos b.year) b.month b.day → a ≡ b
unfolding date_from
one_day a b is also same =
    let e = epoch_day_injective (date_from a is) (date_from b also) same in
    let year : a.year ≡ b.year = omega (arith, signed_arith, e.0) in
    day_is a b e.2 e.1 year

time_is : (a b : ShownTime) → a.hour ≡ b.hour → a.minute ≡ b.minute → a.second ≡ b.second → a ≡ b
time_is a b hour minute second =
    let before : ℕ → ShownTime = λ x. record { hour = x; minute = a.minute; second = a.second } in
    let middle : ℕ → ShownTime = λ x. record { hour = b.hour; minute = x; second = a.second } in
    let last : ℕ → ShownTime = λ x. record { hour = b.hour; minute = b.minute; second = x } in
    ap before hour ∙ (ap middle minute ∙ ap last second)

one_time : (a b : ShownTime) → IsTime a → IsTime b → a.hour * 3600 + a.minute * 60 + a.second ≡ b.hour * 3600 + b.minute * 60 + b.second → a ≡ b
one_time a b is also same =
    let ah = is.hour in
    let am = is.minute in
    let as_ = is.second in
    let bh = also.hour in
    let bm = also.minute in
    let bs = also.second in
    time_is a b (omega arith) (omega arith) (omega arith)

day_and_time : (x y : ℤ) (s t : ℕ) → s < 86400 → t < 86400 → x *ℤ pos 86400 +ℤ pos s ≡ y *ℤ pos 86400 +ℤ pos t → (x ≡ y) × (s ≡ t)
day_and_time x y s t s_low t_low same = (omega (arith, signed_arith), omega (arith, signed_arith))

day_seconds : (t : ShownTime) → IsTime t → t.hour * 3600 + t.minute * 60 + t.second < 86400
day_seconds t is = let h = is.hour in let m = is.minute in let s = is.second in omega arith

shown_same : (a b : Shown) → a.zone ≡ b.zone → a.day ≡ b.day → a.time ≡ b.time → a ≡ b
shown_same a b zone day time =
    let first : ShownZone → Shown = λ x. record { zone = x; day = a.day; time = a.time } in
    let second : ShownDay → Shown = λ x. record { zone = b.zone; day = x; time = a.time } in
    let third : ShownTime → Shown = λ x. record { zone = b.zone; day = b.day; time = x } in
    ap first zone ∙ (ap second day ∙ ap third time)

pub one_shown : (a b : Shown) (s : Instant) → IsShown a s → IsShown b s → a ≡ b
one_shown a b s is also =
    let seconds : seconds_shown a ≡ seconds_shown b = is.moment.1 ∙ sym also.moment.1 in
    let parts = day_and_time (days_from_civil (pos a.day.year) a.day.month a.day.day) (days_from_civil (pos b.day.year) b.day.month b.day.day)
    (a.time.hour * 3600 + a.time.minute * 60 + a.time.second) (b.time.hour * 3600 + b.time.minute * 60 + b.time.second)
    (day_seconds a.time is.time) (day_seconds b.time also.time) seconds in
    shown_same a b (one_zone a.zone b.zone is.zone also.zone (sym is.minutes ∙ also.minutes)) (one_day a.day b.day is.day also.day parts.0) (one_time a.time b.time is.time also.time parts.1)
