-- Values of certification texts by tests: whether bytes are an address in lower case, and the stamp that is shown, or
-- the part of it that is out of range.
use Rattle.std.specs.Prelude.{◌+◌, ◌*◌, ◌==◌, nat_lt, nat_le, ℤ, pos, negsuc, ◌-ℤ◌, ◌*ℤ◌, Bool, false, not, ◌&&◌, ◌||◌, Result, Ok, Err, if◌then◌else◌}
use Rattle.std.specs.Str.{bytes_eq}
use Rattle.jiff_core.specs.Calendar.{days_in_month}
use Rattle.pec_types.specs.AddressReading.{address_of}
use Rattle.pec_types.specs.Bytes.{Bytes}
use Rattle.pec_types.specs.declared.moments.TheConstants.{END_OF_TIME}
use Rattle.pec_types.specs.declared.addresses.AddressFault.{AddressFault}
use Rattle.pec_cert.specs.Shown.{minutes_ahead, seconds_shown}
use Rattle.pec_cert.specs.Stamp.{Instant}
use Rattle.pec_cert.specs.declared.dates.Part.{Part}
use Rattle.pec_cert.specs.declared.dates.Part.TheVariants.{Zone, Day, Time}
use Rattle.pec_cert.specs.declared.stamps.ShownZone.{ShownZone}
use Rattle.pec_cert.specs.declared.stamps.ShownDay.{ShownDay}
use Rattle.pec_cert.specs.declared.stamps.ShownTime.{ShownTime}
use Rattle.pec_cert.specs.declared.stamps.Shown.{Shown}

-- whether what is read of these bytes, if it is an address, is they themselves
abbrev pub is_kept : Bytes → Result Bytes AddressFault → Bool
is_kept bytes (Ok lower) = bytes_eq lower bytes
is_kept bytes (Err fault) = false

-- whether these bytes are an address in lower case
unfoldable pub is_lower : Bytes → Bool
is_lower bytes = is_kept bytes (address_of bytes)

-- whether a zone, a day and a time are in range

abbrev pub is_zone : ShownZone → Bool
is_zone zone =
    (nat_lt zone.hours 26 && nat_lt zone.minutes 60) && (zone.ahead || not (zone.hours * 60 + zone.minutes == 0))

abbrev pub is_day : ShownDay → Bool
is_day day =
    ((nat_lt day.year 10000 && nat_lt 0 day.month) && (nat_lt day.month 13 && nat_lt 0 day.day))
    && nat_le day.day (days_in_month (pos day.year) day.month)

abbrev pub is_time : ShownTime → Bool
is_time time = (nat_lt time.hour 24 && nat_lt time.minute 60) && nat_lt time.second 60

-- the moment so many seconds after 1970-01-01T00:00:00Z, if it is before 2100
abbrev pub moment_at : ℤ → ℤ → Result Instant Part
moment_at (pos moment) minutes =
    if nat_lt moment END_OF_TIME then Ok (record { moment = moment; minutes = minutes }) else Err Day
moment_at (negsuc n) minutes = Err Day

-- the stamp that is shown, or the part that is out of range
unfoldable pub stamp_in : Shown → Result Instant Part
stamp_in shown =
    if not (is_zone shown.zone) then Err Zone
    else (if not (is_day shown.day) then Err Day
    else (if not (is_time shown.time) then Err Time
    else moment_at (seconds_shown shown -ℤ minutes_ahead shown.zone *ℤ pos 60) (minutes_ahead shown.zone)))
