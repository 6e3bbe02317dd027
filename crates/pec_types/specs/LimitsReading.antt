-- The time limits as a function of what a clock call sees, row by row by a test. `Limits` says what the rows mean.
use Rattle.std.specs.Prelude.{◌+◌, nat_lt, nat_le, Bool, true, not, ◌&&◌, unwrap_or}
use Rattle.std.specs.List.{find}
use Rattle.pec_types.specs.Limits.{Clocked, TimeRow, OutcomeKnown, NoticeIsLate, NoticeInTime, WarningInTime, NothingPassed, time_rows, due_by}
use Rattle.pec_types.specs.declared.limits.TheConstants.{WARNING_AFTER, NOTICE_AFTER, LATE_AFTER}
use Rattle.pec_types.specs.declared.limits.Due.{Due}

-- Whether a row applies to a pair.
abbrev pub applies_to_pair : Clocked → TimeRow → Bool
applies_to_pair pair OutcomeKnown = pair.known
applies_to_pair pair NoticeIsLate = not pair.noticed && nat_lt (pair.accepted + LATE_AFTER) pair.at
applies_to_pair pair NoticeInTime = not pair.noticed && nat_le (pair.accepted + NOTICE_AFTER) pair.at
applies_to_pair pair WarningInTime =
    not pair.charged && (not pair.warned && (not pair.noticed && nat_le (pair.accepted + WARNING_AFTER) pair.at))
applies_to_pair pair NothingPassed = true

-- The first row that applies.
abbrev pub time_row_of : Clocked → TimeRow
time_row_of pair = unwrap_or (find (applies_to_pair pair) time_rows) NothingPassed

-- What is due to the sender of a pair.
unfoldable pub due_of : Clocked → Due
due_of pair = due_by (time_row_of pair)
