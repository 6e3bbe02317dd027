-- How a letter prints a stamp: the date of its head (`IsHeaderDate` and `header_date_of`; RFC 5322 section 3.3) and the
-- first line of its text (`day_line_of`; this project's profile). Of the many spellings of RFC 5322 a head has one: the
-- weekday stands, and is the right one; day, hours, minutes and seconds have two digits each; one space stands between
-- the parts; `-0000` is no zone.
use Rattle.std.specs.Prelude.{◌≡◌, ℕ, ◌==◌, ◌++◌, pos, codes, if◌then◌else◌}
use Rattle.jiff_core.specs.Calendar.{days_from_civil, weekday_number}
use Rattle.pec_types.specs.Bytes.{Bytes}
use Rattle.pec_cert.specs.Clock.{shown_of}
use Rattle.pec_cert.specs.Markup.{two_digits, four_digits}
use Rattle.pec_cert.specs.Shown.{zone_text, day_text, time_text, IsShown}
use Rattle.pec_cert.specs.Stamp.{Instant}
use Rattle.pec_cert.specs.declared.stamps.ShownDay.{ShownDay}
use Rattle.pec_cert.specs.declared.stamps.Shown.{Shown}

-- the name of a weekday, where Monday is 0 and Sunday 6
abbrev pub weekday_name : ℕ → Bytes
weekday_name n =
    if n == 0 then codes "Mon"
    else (if n == 1 then codes "Tue"
    else (if n == 2 then codes "Wed"
    else (if n == 3 then codes "Thu"
    else (if n == 4 then codes "Fri"
    else (if n == 5 then codes "Sat" else codes "Sun")))))

-- the name of a month from 1 to 12
abbrev pub month_name : ℕ → Bytes
month_name n =
    if n == 1 then codes "Jan"
    else (if n == 2 then codes "Feb"
    else (if n == 3 then codes "Mar"
    else (if n == 4 then codes "Apr"
    else (if n == 5 then codes "May"
    else (if n == 6 then codes "Jun"
    else (if n == 7 then codes "Jul"
    else (if n == 8 then codes "Aug"
    else (if n == 9 then codes "Sep"
    else (if n == 10 then codes "Oct"
    else (if n == 11 then codes "Nov" else codes "Dec"))))))))))

-- the number of a day's weekday, by the calendar of `jiff`
abbrev pub weekday_of : ShownDay → ℕ
weekday_of day = weekday_number (days_from_civil (pos day.year) day.month day.day)

-- `02 Jan 2024`
abbrev pub named_day_text : ShownDay → Bytes
named_day_text day = two_digits day.day ++ (codes " " ++ (month_name day.month ++ (codes " " ++ four_digits day.year)))

-- `02 Jan 2024 10:00:00 +0100`
abbrev pub date_text : Shown → Bytes
date_text shown =
    named_day_text shown.day ++ (codes " " ++ (time_text shown.time ++ (codes " " ++ zone_text shown.zone)))

-- `Tue, 02 Jan 2024 10:00:00 +0100`, whatever the weekday
abbrev pub header_date_text : ℕ → Shown → Bytes
header_date_text weekday shown = weekday_name weekday ++ (codes ", " ++ date_text shown)

-- the text is the date of a head that shows this stamp
pub record IsHeaderDate (stamp : Instant) (text : Bytes) : Type 0 where
  pub shown : Shown
  pub shows : IsShown shown stamp
  pub spelled : text ≡ header_date_text (weekday_of shown.day) shown

-- the one text that is, as a function of the stamp
abbrev pub header_date_of : Instant → Bytes
header_date_of stamp = header_date_text (weekday_of (shown_of stamp).day) (shown_of stamp)

-- the line of a text that shows a stamp: `Giorno 02/01/2024 ore 10:00:00 (+0100)`, without its end
abbrev pub line_text : Shown → Bytes
line_text shown =
    codes "Giorno " ++ (day_text shown.day ++ (codes " ore " ++ (time_text shown.time ++ (codes " ("
    ++ (zone_text shown.zone ++ codes ")")))))

-- the one line that is, as a function of the stamp
abbrev pub day_line_of : Instant → Bytes
day_line_of stamp = line_text (shown_of stamp)
