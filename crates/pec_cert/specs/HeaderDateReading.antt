-- How a head's date is read, as grammars where the weekday is any (`header_date_at`), and the stamp that a text is the
-- date of (`header_stamp_of`), at the end. `a_header_date_has_one_stamp` says that `IsHeaderDate` and this function
-- agree.
use Rattle.std.specs.Prelude.{ℕ, ◌==◌, List, [], ◌∷◌, Option, None, Result, Ok, Err, codes, if◌then◌else◌}
use Rattle.std.specs.Result.{result_ok}
use Rattle.pec_types.specs.Bytes.{Bytes}
use Rattle.pec_grammar.specs.Grammar.{Cursor, Read, both_at, seen_at, led_at, choice_at, ending}
use Rattle.pec_cert.specs.ValueTests.{stamp_in}
use Rattle.pec_cert.specs.HeaderDate.{weekday_of}
use Rattle.pec_cert.specs.LinesReading.{two_at, four_at, day_from, time_at, zone_at}
use Rattle.pec_cert.specs.Stamp.{Instant}
use Rattle.pec_cert.specs.declared.stamps.ShownZone.{ShownZone}
use Rattle.pec_cert.specs.declared.stamps.ShownDay.{ShownDay}
use Rattle.pec_cert.specs.declared.stamps.ShownTime.{ShownTime}
use Rattle.pec_cert.specs.declared.stamps.Shown.{Shown}

-- the names of the weekdays, with their numbers
abbrev pub weekdays : List (Bytes × ℕ)
weekdays =
    (codes "Mon", 0) ∷ (codes "Tue", 1) ∷ (codes "Wed", 2) ∷ (codes "Thu", 3) ∷ (codes "Fri", 4) ∷ (codes "Sat", 5)
    ∷ (codes "Sun", 6) ∷ []

-- the names of the months, with their numbers
abbrev pub months : List (Bytes × ℕ)
months =
    (codes "Jan", 1) ∷ (codes "Feb", 2) ∷ (codes "Mar", 3) ∷ (codes "Apr", 4) ∷ (codes "May", 5) ∷ (codes "Jun", 6)
    ∷ (codes "Jul", 7) ∷ (codes "Aug", 8) ∷ (codes "Sep", 9) ∷ (codes "Oct", 10) ∷ (codes "Nov", 11)
    ∷ (codes "Dec", 12) ∷ []

-- `02 Jan 2024`
unfoldable pub named_day_at : Cursor → Read ShownDay
named_day_at =
    seen_at day_from (both_at two_at (led_at (codes " ") (both_at (choice_at months) (led_at (codes " ") four_at))))

abbrev pub date_from : ShownDay × (ShownTime × ShownZone) → Shown
date_from p = record { zone = p.1.1; day = p.0; time = p.1.0 }

-- `02 Jan 2024 10:00:00 +0100`
unfoldable pub date_at : Cursor → Read Shown
date_at = seen_at date_from (both_at named_day_at (led_at (codes " ") (both_at time_at (led_at (codes " ") zone_at))))

-- the weekday that stands in front, and what the date shows
unfoldable pub header_date_at : Cursor → Read (ℕ × Shown)
header_date_at = both_at (choice_at weekdays) (led_at (codes ", ") date_at)

-- the stamp that a date shows, if this is its weekday
abbrev pub on_weekday : Result (ℕ × Shown) Bytes → Option Instant
on_weekday (Ok p) = if p.0 == weekday_of p.1.day then result_ok (stamp_in p.1) else None
on_weekday (Err stop) = None

-- the stamp whose date in a head this text is
unfoldable pub header_stamp_of : Bytes → Option Instant
header_stamp_of text = on_weekday (ending (header_date_at (record { rest = text; farthest = text })))
