-- The tests of the time table decide its rows, so `due_of` is what is due.
use Rattle.std.proofs.Common.{◌≡◌, ℕ, ◌+◌, ◌≤◌, nat_lt, nat_le, Bool, not, ◌&&◌, ◌↔◌, [], ◌∷◌, Decides, refl, sym, ap, ◌∙◌}
use Rattle.std.proofs.lemmas.Bool.{and_from, and_parts, leb-true, le-leb}
use Rattle.std.proofs.lemmas.Bool.Decides.{Decides-and, Decides-ltb}
use Rattle.pec_types.specs.Limits.{Clocked, TimeRow, OutcomeKnown, NoticeIsLate, NoticeInTime, WarningInTime, NothingPassed, time_rows, AppliesToPair, due_by, IsDue}
use Rattle.pec_types.specs.LimitsReading.{applies_to_pair, time_row_of, due_of}
use Rattle.pec_types.specs.declared.limits.TheConstants.{WARNING_AFTER, NOTICE_AFTER, LATE_AFTER}
use Rattle.pec_types.specs.declared.limits.Due.{Due}
use Rattle.pec_types.specs.Tables.{IsFirst, first_of, not_so, one_first}

reached : (a b : ℕ) → Decides (nat_le a b) (a ≤ b)
reached a b = (λ e. leb-true a b e, λ h. le-leb a b h)

four : {P Q R S : Type 0} (p q r s : Bool) → Decides p P → Decides q Q → Decides r R → Decides s S
    → Decides (p && (q && (r && s))) (P × Q × R × S)
four p q r s d e f g = (
  λ t.
      let first = and_parts p (q && (r && s)) t
      in let second = and_parts q (r && s) first.1
      in let third = and_parts r s second.1
      in (d.0 first.0, e.0 second.0, f.0 third.0, g.0 third.1),
  λ h. and_from p (q && (r && s)) (d.1 h.0) (and_from q (r && s) (e.1 h.1) (and_from r s (f.1 h.2) (g.1 h.3))),
)

pair_row : (pair : Clocked) (row : TimeRow) → Decides (applies_to_pair pair row) (AppliesToPair pair row)
pair_row pair OutcomeKnown = (λ e. e, λ e. e)
pair_row pair NoticeIsLate =
    Decides-and (not pair.noticed) (nat_lt (pair.accepted + LATE_AFTER) pair.at) (not_so pair.noticed) (Decides-ltb (pair.accepted + LATE_AFTER) pair.at)
pair_row pair NoticeInTime =
    Decides-and (not pair.noticed) (nat_le (pair.accepted + NOTICE_AFTER) pair.at) (not_so pair.noticed) (reached (pair.accepted + NOTICE_AFTER) pair.at)
pair_row pair WarningInTime =
    four (not pair.charged) (not pair.warned) (not pair.noticed) (nat_le (pair.accepted + WARNING_AFTER) pair.at)
    (not_so pair.charged) (not_so pair.warned) (not_so pair.noticed) (reached (pair.accepted + WARNING_AFTER) pair.at)
pair_row pair NothingPassed = (λ e. tt, λ h. refl)

first_row : (pair : Clocked) → IsFirst (AppliesToPair pair) time_rows (time_row_of pair)
first_row pair =
    first_of (applies_to_pair pair) (AppliesToPair pair) (pair_row pair) (OutcomeKnown ∷ NoticeIsLate ∷ NoticeInTime ∷ WarningInTime ∷ [])
    NothingPassed NothingPassed refl

pub some_row : (pair : Clocked) → (row : TimeRow) × IsFirst (AppliesToPair pair) time_rows row
some_row pair = (time_row_of pair, first_row pair)

pub one_row : (pair : Clocked) (row other : TimeRow) → IsFirst (AppliesToPair pair) time_rows row → IsFirst (AppliesToPair pair) time_rows other → row ≡ other
one_row pair = one_first (applies_to_pair pair) (AppliesToPair pair) (pair_row pair) time_rows

pub due_is : (pair : Clocked) (due : Due) → due ≡ due_of pair → IsDue pair due
unfolding due_of
due_is pair due e = record { row = time_row_of pair; first = first_row pair; due_is = e }

due_again : (pair : Clocked) (due : Due) → IsDue pair due → due_of pair ≡ due
unfolding due_of
due_again pair due h = ap due_by (one_row pair (time_row_of pair) h.row (first_row pair) h.first) ∙ sym h.due_is

pub due_says : (pair : Clocked) (due : Due) → (due_of pair ≡ due) ↔ IsDue pair due
due_says pair due = (λ e. due_is pair due (sym e), λ h. due_again pair due h)
