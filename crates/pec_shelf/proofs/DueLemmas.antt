-- What is due by how long ago a pair was accepted, and by what is known of it.
use Rattle.std.proofs.Common.{◌≡◌, ℕ, ◌+◌, ◌<◌, ◌≤◌, ◌⊎◌, Bool, true, false, cond, not, ◌&&◌, ◌||◌, refl, ◌∙◌, arith, nat_lt, nat_le, Some, None, unwrap_or, inl, inr}
use Rattle.std.proofs.lemmas.Bool.{false≢true}
use Rattle.std.proofs.lemmas.Bool.Decides.{nat_tests}
use Rattle.pec_types.specs.Limits.{Clocked, OutcomeKnown, NoticeIsLate, NoticeInTime, WarningInTime, NothingPassed, due_by}
use Rattle.pec_types.specs.LimitsReading.{due_of}
use Rattle.pec_types.specs.declared.limits.Due.{Due}
use Rattle.pec_types.specs.declared.limits.Due.TheVariants as dues
use Rattle.pec_types.specs.declared.limits.TheConstants.{WARNING_AFTER, NOTICE_AFTER, LATE_AFTER}

-- what is due, by what is known of a pair and by which of the three limits have passed
abbrev due_so : (charged warned noticed known late second first : Bool) → Due
due_so charged warned noticed known late second first =
    due_by (unwrap_or
    (cond known (Some OutcomeKnown)
    (cond (not noticed && late) (Some NoticeIsLate)
    (cond (not noticed && second) (Some NoticeInTime)
    (cond (not charged && (not warned && (not noticed && first))) (Some WarningInTime) (cond true (Some NothingPassed) None))))) NothingPassed)

due_is : (pair : Clocked) (late second first : Bool) → nat_lt (pair.accepted + LATE_AFTER) pair.at ≡ late → nat_le (pair.accepted + NOTICE_AFTER) pair.at ≡ second
    → nat_le (pair.accepted + WARNING_AFTER) pair.at ≡ first
    → due_of pair ≡ due_so pair.charged pair.warned pair.noticed pair.known late second first
unfolding due_of
due_is pair late second first l s f = rw (l, s, f) refl

not_yet : (a b c : ℕ) → c < a + b → (nat_lt (a + b) c ≡ false) × (nat_le (a + b) c ≡ false)
not_yet a b c l = (grind (arith, nat_tests), grind (arith, nat_tests))

reached : (a b c : ℕ) → a + b ≤ c → nat_le (a + b) c ≡ true
reached a b c l = grind (arith, nat_tests)

-- ---- nothing

none_due : (c w n k : Bool) → due_so c w n k false false false ≡ dues.Nothing
none_due c w n true = refl
none_due true w true false = refl
none_due true w false false = refl
none_due false true true false = refl
none_due false true false false = refl
none_due false false true false = refl
none_due false false false false = refl

-- before the first limit nothing is due
pub due_early : (pair : Clocked) → pair.at < pair.accepted + WARNING_AFTER → due_of pair ≡ dues.Nothing
due_early pair l =
    let second : pair.at < pair.accepted + NOTICE_AFTER = omega arith in
    let third : pair.at < pair.accepted + LATE_AFTER = omega arith in
    due_is pair false false false (not_yet pair.accepted LATE_AFTER pair.at third).0 (not_yet pair.accepted NOTICE_AFTER pair.at second).1
    (not_yet pair.accepted WARNING_AFTER pair.at l).1
    ∙ none_due pair.charged pair.warned pair.noticed pair.known

pub due_before : (pair : Clocked) → pair.at < pair.accepted → due_of pair ≡ dues.Nothing
due_before pair l = due_early pair (omega arith)

quiet_due : (c w n k first : Bool) → (k || n) || (c || w) ≡ true → due_so c w n k false false first ≡ dues.Nothing
quiet_due c w n true first e = refl
quiet_due true w true false first e = refl
quiet_due true w false false first e = refl
quiet_due false true true false first e = refl
quiet_due false true false false first e = refl
quiet_due false false true false first e = refl
quiet_due false false false false first e = absurd (false≢true e)

-- before the second limit nothing is due to whom no warning is
pub due_quiet : (pair : Clocked) → pair.at < pair.accepted + NOTICE_AFTER → (pair.known || pair.noticed) || (pair.charged || pair.warned) ≡ true
    → due_of pair ≡ dues.Nothing
due_quiet pair l quiet =
    let third : pair.at < pair.accepted + LATE_AFTER = omega arith in
    due_is pair false false (nat_le (pair.accepted + WARNING_AFTER) pair.at) (not_yet pair.accepted LATE_AFTER pair.at third).0
    (not_yet pair.accepted NOTICE_AFTER pair.at l).1 refl
    ∙ quiet_due pair.charged pair.warned pair.noticed pair.known (nat_le (pair.accepted + WARNING_AFTER) pair.at) quiet

settled_due : (c w n k late second first : Bool) → k || n ≡ true → due_so c w n k late second first ≡ dues.Nothing
settled_due c w n true late second first e = refl
settled_due true w true false late second first e = refl
settled_due false true true false late second first e = refl
settled_due false false true false late second first e = refl
settled_due c w false false late second first e = absurd (false≢true e)

-- nothing is due where the outcome is known, or the sender had notice
pub due_settled : (pair : Clocked) → pair.known || pair.noticed ≡ true → due_of pair ≡ dues.Nothing
due_settled pair e =
    due_is pair _ _ _ refl refl refl
    ∙ settled_due pair.charged pair.warned pair.noticed pair.known (nat_lt (pair.accepted + LATE_AFTER) pair.at) (nat_le (pair.accepted + NOTICE_AFTER) pair.at)
    (nat_le (pair.accepted + WARNING_AFTER) pair.at) e

-- ---- something

noted_so : (c w late first : Bool) → (due_so c w false false late true first ≡ dues.Notice) ⊎ (due_so c w false false late true first ≡ dues.LateNotice)
noted_so c w true first = inr refl
noted_so c w false first = inl refl

-- from the second limit on a notice is due of whom nothing is known and who had none
pub due_noted : (pair : Clocked) → pair.accepted + NOTICE_AFTER ≤ pair.at → pair.known ≡ false → pair.noticed ≡ false
    → (due_of pair ≡ dues.Notice) ⊎ (due_of pair ≡ dues.LateNotice)
due_noted pair l k n =
    let late = nat_lt (pair.accepted + LATE_AFTER) pair.at in
    let first = nat_le (pair.accepted + WARNING_AFTER) pair.at in
    rw (due_is pair late true first refl (reached pair.accepted NOTICE_AFTER pair.at l) refl, k, n) (noted_so pair.charged pair.warned late first)

warned_so : (late second : Bool) → (due_so false false false false late second true ≡ dues.Warning)
    ⊎ ((due_so false false false false late second true ≡ dues.Notice) ⊎ (due_so false false false false late second true ≡ dues.LateNotice))
warned_so true second = inr (inr refl)
warned_so false true = inr (inl refl)
warned_so false false = inl refl

-- from the first limit on something is due of whom nothing is said
pub due_warned : (pair : Clocked) → pair.accepted + WARNING_AFTER ≤ pair.at → pair.known ≡ false → pair.noticed ≡ false → pair.charged ≡ false → pair.warned ≡ false
    → (due_of pair ≡ dues.Warning) ⊎ ((due_of pair ≡ dues.Notice) ⊎ (due_of pair ≡ dues.LateNotice))
due_warned pair l k n c w =
    let late = nat_lt (pair.accepted + LATE_AFTER) pair.at in
    let second = nat_le (pair.accepted + NOTICE_AFTER) pair.at in
    rw (due_is pair late second true refl refl (reached pair.accepted WARNING_AFTER pair.at l), k, n, c, w) (warned_so late second)
