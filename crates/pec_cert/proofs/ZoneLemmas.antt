-- What a rule's text says is all that its clock depends on.
use Rattle.std.proofs.Common.{◌≡◌, ℕ, List, Bool, true, false, cond, Option, Some, None, refl, sym, ap, ◌∙◌, ◌<◌, arith, ℤ, pos, negsuc, ◌*ℤ◌}
use Rattle.std.specs.Prelude.{option_map, int_div}
use Rattle.jiff_core.specs.Timestamp.{IsOffsetSeconds}
use Rattle.jiff_core.specs.declared.Offset.{Offset}
use Rattle.jiff_core.proofs.SignedLemmas.{signed_arith}
use Rattle.jiff_tz.specs.PosixRule.{match_some, rule_nanos, in_window, utc_window, dst_at_by, offset_at}
use Rattle.jiff_tz.specs.PosixText.{DstText, TzText, day_time_view, dst_view, tz_view}
use Rattle.jiff_tz.specs.Year.{year_of_nanos}
use Rattle.jiff_tz.specs.declared.posix.Day.{Day}
use Rattle.jiff_tz.specs.declared.posix.DayTime.{DayTime}
use Rattle.jiff_tz.specs.declared.posix.Dst.{Dst}
use Rattle.jiff_tz.specs.declared.posix.TimeZone.{TimeZone}
use Rattle.pec_types.specs.declared.moments.TheConstants.{END_OF_TIME}
use Rattle.pec_cert.specs.Stamp.{Instant, IsMinutes, IsStamp}
use Rattle.pec_cert.specs.Zone.{IsRule, nanoseconds_a_second, seconds_ahead, stamp_of}

same_nanos : (y : ℤ) (d e : DayTime) (ahead other : ℤ) → day_time_view d ≡ day_time_view e → ahead ≡ other → rule_nanos y d ahead ≡ rule_nanos y e other
unfolding rule_nanos
same_nanos y d e ahead other same seconds =
    let date : d.date ≡ e.date = ap (λ (v : Day × ℤ). v.0) same in
    let time : d.time ≡ e.time = ap (λ (v : Day × ℤ). v.1) same in
    rw (date, time, seconds) refl

same_window : (d e : Dst) (std other : Offset) (y : ℤ) → dst_view d ≡ dst_view e → std.seconds ≡ other.seconds → utc_window d y std ≡ utc_window e y other
unfolding utc_window
same_window d e std other y same seconds =
    let start = same_nanos y d.rule.start e.rule.start std.seconds other.seconds (ap (λ (v : DstText). v.start) same) seconds in
    let end = same_nanos y d.rule.end e.rule.end d.offset.seconds e.offset.seconds (ap (λ (v : DstText). v.finish) same) (ap (λ (v : DstText). v.seconds) same) in
    rw (start, end, seconds) refl

same_choice : (inside : Bool) (d e : Dst) (std other : Offset) → d.offset.seconds ≡ e.offset.seconds → std.seconds ≡ other.seconds
    → (match_some (cond inside (Some d) None) std (λ x. x.offset)).seconds ≡ (match_some (cond inside (Some e) None) other (λ x. x.offset)).seconds
same_choice true d e std other offset seconds = offset
same_choice false d e std other offset seconds = seconds

same_offset : (dst also : Option Dst) (std other : Offset) (n : ℤ) → option_map dst_view dst ≡ option_map dst_view also → std.seconds ≡ other.seconds
    → (match_some (dst_at_by std dst n) std (λ x. x.offset)).seconds ≡ (match_some (dst_at_by other also n) other (λ x. x.offset)).seconds
same_offset None None std other n same seconds = seconds
same_offset None (Some e) std other n same seconds = let h : ⊥ = cc in absurd h
same_offset (Some d) None std other n same seconds = let h : ⊥ = cc in absurd h
same_offset (Some d) (Some e) std other n same seconds =
    let view : dst_view d ≡ dst_view e = cc in
    let offset : d.offset.seconds ≡ e.offset.seconds = ap (λ (v : DstText). v.seconds) view in
    let window = same_window d e std other (year_of_nanos n) view seconds in
    ap (λ w. (match_some (cond (in_window w n) (Some d) None) std (λ x. x.offset)).seconds) window
    ∙ same_choice (in_window (utc_window e (year_of_nanos n) other) n) d e std other offset seconds

pub one_clock : (text : List ℕ) (rule other : TimeZone) → IsRule text rule → IsRule text other → (moment : ℕ) → stamp_of rule moment ≡ stamp_of other moment
unfolding stamp_of
one_clock text rule other is also moment =
    let both : Some (tz_view rule) ≡ Some (tz_view other) = sym is ∙ also in
    let same : tz_view rule ≡ tz_view other = cc in
    let std : rule.std_offset.seconds ≡ other.std_offset.seconds = ap (λ (v : TzText). v.std_seconds) same in
    let dst : option_map dst_view rule.dst ≡ option_map dst_view other.dst = ap (λ (v : TzText). v.dst) same in
    let ahead : seconds_ahead rule moment ≡ seconds_ahead other moment = same_offset rule.dst other.dst rule.std_offset other.std_offset (pos moment *ℤ pos nanoseconds_a_second) dst std in
    let shown : ℤ → Instant = λ seconds. record { moment = moment; minutes = int_div seconds (pos 60) } in
    ap shown ahead

-- An offset is less than 26 hours, so the minutes of a stamp are in range.

minutes_small : (seconds : ℤ) → IsOffsetSeconds seconds → IsMinutes (int_div seconds (pos 60))
minutes_small (pos n) is = (omega (arith, signed_arith), omega (arith, signed_arith))
minutes_small (negsuc n) is = (omega (arith, signed_arith), omega (arith, signed_arith))

pub stamp_there : (rule : TimeZone) (moment : ℕ) → moment < END_OF_TIME → IsStamp (stamp_of rule moment)
unfolding stamp_of
stamp_there rule moment early =
    let offset : Offset = offset_at rule (pos moment *ℤ pos nanoseconds_a_second) in
    (early, minutes_small offset.seconds offset.in_range)
