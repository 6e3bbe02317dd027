-- Zones by POSIX rules (`IsRule` and `stamp_of`) (IEEE Std 1003.1, TZ, with RFC 9636's extension), as the library
-- `jiff` defines them: what a text says as a rule, and how far ahead of UTC a clock by that rule is at an instant.
use Rattle.std.specs.Prelude.{◌≡◌, ℕ, ℤ, pos, ◌*ℤ◌, int_div, Some}
use Rattle.jiff_tz.specs.PosixReader.{read_whole}
use Rattle.jiff_tz.specs.PosixRule.{offset_at}
use Rattle.jiff_tz.specs.PosixText.{tz_view}
use Rattle.jiff_tz.specs.declared.posix.TimeZone.{TimeZone}
use Rattle.pec_types.specs.Bytes.{Bytes}
use Rattle.pec_cert.specs.Stamp.{Instant}

-- the text is a rule, and says this
abbrev pub IsRule : Bytes → TimeZone → Type 0
IsRule text rule = read_whole text ≡ Some (tz_view rule)

abbrev pub nanoseconds_a_second : ℕ
nanoseconds_a_second = 1_000_000_000

-- the seconds that a clock by the rule is ahead of UTC at a moment
abbrev pub seconds_ahead : TimeZone → ℕ → ℤ
seconds_ahead rule moment = (offset_at rule (pos moment *ℤ pos nanoseconds_a_second)).seconds

-- the moment on that clock, in whole minutes towards zero
unfoldable pub stamp_of : TimeZone → ℕ → Instant
stamp_of rule moment = record { moment = moment; minutes = int_div (seconds_ahead rule moment) (pos 60) }
