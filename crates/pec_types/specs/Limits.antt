-- The time limits of a pair, an accepted message and one of its certified recipients: what a clock call owes the
-- sender, row by row. `IsDue`, at the end. The 24 hours are those of DPR 68/2005, article 8; the other two limits are
-- this project's profile.
use Rattle.std.specs.Prelude.{◌≡◌, ℕ, ◌+◌, ◌<◌, ◌≤◌, Bool, true, false, List, [], ◌∷◌}
use Rattle.pec_types.specs.Tables.{IsFirst}
use Rattle.pec_types.specs.declared.limits.TheConstants.{WARNING_AFTER, NOTICE_AFTER, LATE_AFTER}
use Rattle.pec_types.specs.declared.limits.Due.{Due}
use Rattle.pec_types.specs.declared.limits.Due.TheVariants.{Nothing, Warning, Notice, LateNotice}

-- What a clock call sees of a pair: its own moment and that of the acceptance, in seconds, whether the recipient's
-- provider took charge, whether the sender was warned or had notice, and whether the outcome is known.
pub record Clocked : Type 0 where
  pub at : ℕ
  pub accepted : ℕ
  pub charged : Bool
  pub warned : Bool
  pub noticed : Bool
  pub known : Bool

-- The rows, each named by its case.
pub data TimeRow : Type 0 where
  OutcomeKnown : TimeRow
  NoticeIsLate : TimeRow
  NoticeInTime : TimeRow
  WarningInTime : TimeRow
  NothingPassed : TimeRow

-- The table, its rows in their order.
abbrev pub time_rows : List TimeRow
time_rows = OutcomeKnown ∷ NoticeIsLate ∷ NoticeInTime ∷ WarningInTime ∷ NothingPassed ∷ []

-- When a row applies to a pair.
abbrev pub AppliesToPair : Clocked → TimeRow → Type 0
AppliesToPair pair OutcomeKnown = pair.known ≡ true
AppliesToPair pair NoticeIsLate = (pair.noticed ≡ false) × (pair.accepted + LATE_AFTER < pair.at)
AppliesToPair pair NoticeInTime = (pair.noticed ≡ false) × (pair.accepted + NOTICE_AFTER ≤ pair.at)
AppliesToPair pair WarningInTime =
    (pair.charged ≡ false) × (pair.warned ≡ false) × (pair.noticed ≡ false) × (pair.accepted + WARNING_AFTER ≤ pair.at)
AppliesToPair pair NothingPassed = Unit {0}

-- What a row owes the sender.
abbrev pub due_by : TimeRow → Due
due_by OutcomeKnown = Nothing
due_by NoticeIsLate = LateNotice
due_by NoticeInTime = Notice
due_by WarningInTime = Warning
due_by NothingPassed = Nothing

-- This is due to the sender of the pair, by the first row that applies.
pub record IsDue (pair : Clocked) (due : Due) : Type 0 where
  pub row : TimeRow
  pub first : IsFirst (AppliesToPair pair) time_rows row
  pub due_is : due ≡ due_by row
