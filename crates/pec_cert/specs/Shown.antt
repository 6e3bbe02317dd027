-- How a moment is shown (`IsShown`): a zone, and the day and time on a clock of that zone (this project's profile).
-- Days are those of the calendar of `jiff`; the civil time is the moment and the zone's whole minutes. `AnswersShown`,
-- at the end, says which part is out of range.
use Rattle.std.specs.Prelude.{◌≡◌, ℕ, ◌+◌, ◌*◌, ◌<◌, ◌≤◌, ◌⊎◌, ℤ, pos, neg_ℤ, ◌+ℤ◌, ◌*ℤ◌, Bool, true, false, ◌++◌, codes, if◌then◌else◌, Result, Ok, Err}
use Rattle.jiff_core.specs.Calendar.{days_from_civil, IsCivilDate}
use Rattle.pec_types.specs.Bytes.{Bytes}
use Rattle.pec_types.specs.declared.moments.TheConstants.{END_OF_TIME}
use Rattle.pec_cert.specs.Markup.{two_digits, four_digits}
use Rattle.pec_cert.specs.Stamp.{Instant}
use Rattle.pec_cert.specs.declared.dates.Part.{Part}
use Rattle.pec_cert.specs.declared.dates.Part.TheVariants.{Zone, Day, Time}
use Rattle.pec_cert.specs.declared.stamps.ShownZone.{ShownZone}
use Rattle.pec_cert.specs.declared.stamps.ShownDay.{ShownDay}
use Rattle.pec_cert.specs.declared.stamps.ShownTime.{ShownTime}
use Rattle.pec_cert.specs.declared.stamps.Shown.{Shown}

-- the sign of an offset: ahead of UTC or behind it
abbrev pub sign_word : Bool → Bytes
sign_word true = codes "+"
sign_word false = codes "-"

-- `+0100`
abbrev pub zone_text : ShownZone → Bytes
zone_text zone = sign_word zone.ahead ++ (two_digits zone.hours ++ two_digits zone.minutes)

-- `02/01/2024`
abbrev pub day_text : ShownDay → Bytes
day_text day = two_digits day.day ++ (codes "/" ++ (two_digits day.month ++ (codes "/" ++ four_digits day.year)))

-- `10:00:00`
abbrev pub time_text : ShownTime → Bytes
time_text time =
    two_digits time.hour ++ (codes ":" ++ (two_digits time.minute ++ (codes ":" ++ two_digits time.second)))

-- the text before a part of what is shown
abbrev pub before_part : Bytes → Shown → Part → Bytes
before_part front shown Zone = front
before_part front shown Day = front ++ (zone_text shown.zone ++ codes "\">\r\n<giorno>")
before_part front shown Time =
    front ++ (zone_text shown.zone ++ codes "\">\r\n<giorno>") ++ (day_text shown.day ++ codes "</giorno>\r\n<ora>")

-- the digits of a text
pub record HasDigits (shown : Shown) : Type 0 where
  pub hours : shown.zone.hours < 100
  pub minutes : shown.zone.minutes < 100
  pub day : shown.day.day < 100
  pub month : shown.day.month < 100
  pub year : shown.day.year < 10000
  pub hour : shown.time.hour < 100
  pub minute : shown.time.minute < 100
  pub second : shown.time.second < 100

-- at most 25 hours and 59 minutes; no offset is ahead of UTC
pub record IsZone (zone : ShownZone) : Type 0 where
  pub hours : zone.hours ≤ 25
  pub minutes : zone.minutes ≤ 59
  pub none_behind : zone.ahead ≡ false → zone.hours ≡ 0 → zone.minutes ≡ 0 → ⊥

-- a day of the calendar, from the year 0 on
abbrev pub IsDay : ShownDay → Type 0
IsDay day = IsCivilDate (pos day.year) day.month day.day

-- a time of the day, with no leap second
pub record IsTime (time : ShownTime) : Type 0 where
  pub hour : time.hour < 24
  pub minute : time.minute < 60
  pub second : time.second < 60

-- how many minutes the clock is ahead of UTC
abbrev pub minutes_ahead : ShownZone → ℤ
minutes_ahead zone =
    if zone.ahead then pos (zone.hours * 60 + zone.minutes) else neg_ℤ (pos (zone.hours * 60 + zone.minutes))

abbrev pub seconds_an_hour : ℕ
seconds_an_hour = 3600

abbrev pub seconds_a_day : ℕ
seconds_a_day = 86_400

-- the seconds since midnight
abbrev pub seconds_of_day : ShownTime → ℕ
seconds_of_day time = time.hour * seconds_an_hour + time.minute * 60 + time.second

-- the seconds since 1970-01-01T00:00:00 on the clock
abbrev pub seconds_shown : Shown → ℤ
seconds_shown shown =
    days_from_civil (pos shown.day.year) shown.day.month shown.day.day *ℤ pos seconds_a_day
    +ℤ pos (seconds_of_day shown.time)

-- a clock so many minutes ahead shows these seconds at the moment, which is before the year 2100
abbrev pub IsMomentOf : ℤ → ℤ → ℕ → Type 0
IsMomentOf seconds minutes moment = (moment < END_OF_TIME) × (seconds ≡ pos moment +ℤ minutes *ℤ pos 60)

-- what is shown is this moment
pub record IsShown (shown : Shown) (stamp : Instant) : Type 0 where
  pub zone : IsZone shown.zone
  pub day : IsDay shown.day
  pub time : IsTime shown.time
  pub minutes : stamp.minutes ≡ minutes_ahead shown.zone
  pub moment : IsMomentOf (seconds_shown shown) stamp.minutes stamp.moment

-- The moment that is shown, or the part that is out of range: the first of zone, day and time, or the day where only
-- the moment is.
abbrev pub AnswersShown : Shown → Result Instant Part → Type 0
AnswersShown shown (Ok stamp) = IsShown shown stamp
AnswersShown shown (Err Zone) = IsZone shown.zone → ⊥
AnswersShown shown (Err Day) =
    IsZone shown.zone
    × ((IsDay shown.day → ⊥) ⊎ (IsDay shown.day × IsTime shown.time × ((moment : ℕ)
    → IsMomentOf (seconds_shown shown) (minutes_ahead shown.zone) moment → ⊥)))
AnswersShown shown (Err Time) = IsZone shown.zone × IsDay shown.day × (IsTime shown.time → ⊥)
