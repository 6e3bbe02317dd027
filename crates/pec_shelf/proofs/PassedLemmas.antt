-- Moments in order, and which of their limits have passed: those in front.
use Rattle.std.proofs.Common.{◌≡◌, ℕ, zero, suc, ◌+◌, ◌*◌, ◌<◌, ◌≤◌, nat_lt, nat_le, Bool, true, false, cond, ◌&&◌, ◌||◌, List, [], ◌∷◌, ◌++◌, length, filter, replicate, take, drop, Some, None, slice_get, IfSome, refl, sym, ap, ◌∙◌, arith, ⊎_elim}
use Rattle.std.specs.List.{list_all}
use Rattle.std.proofs.lemmas.Bool.{cases_Bool, false≢true}
use Rattle.std.proofs.lemmas.Bool.Decides.{nat_tests}
use Rattle.pec_types.specs.Passed.{is_past, passed, passes, passing}
use Rattle.pec_types.specs.Timetable.{AreFrom, Rising, last_of}
use Rattle.pec_types.specs.declared.limits.TheConstants.{WARNING_AFTER, NOTICE_AFTER}

none_some : {X Y : Type 0} (x : X) → None ≡ Some x → Y
none_some x e = cc

same_some : {X : Type 0} (x y : X) → Some x ≡ Some y → x ≡ y
same_some x y e = cc

-- ---- in order

rises_at_from : (low first moment : ℕ) (moments more : List ℕ) → AreFrom low ((first ∷ moments) ++ moment ∷ more)
    → IfSome (last_of (first ∷ moments)) (λ last. last ≤ moment)
rises_at_from low first moment [] more from = from.1.0
rises_at_from low first moment (next ∷ moments) more from = rises_at_from first next moment moments more from.1

-- what stands behind moments in order isn't below the last of them
pub rises_at : (moment : ℕ) (moments more : List ℕ) → Rising (moments ++ moment ∷ more) → IfSome (last_of moments) (λ last. last ≤ moment)
rises_at moment [] more from = tt
rises_at moment (first ∷ moments) more from = rises_at_from 0 first moment moments more from

rises_front_from : (low : ℕ) (moments more : List ℕ) → AreFrom low (moments ++ more) → AreFrom low moments
rises_front_from low [] more from = tt
rises_front_from low (moment ∷ moments) more from = (from.0, rises_front_from moment moments more from.1)

-- what stands in front of moments in order is in order
pub rises_front : (moments more : List ℕ) → Rising (moments ++ more) → Rising moments
rises_front moments more from = rises_front_from 0 moments more from

-- ---- moments up to one

-- none of these is above this one
abbrev pub AreUpTo : ℕ → List ℕ → Type 0
AreUpTo high [] = Unit {0}
AreUpTo high (moment ∷ moments) = (moment ≤ high) × AreUpTo high moments

pub up_to_last : (low high : ℕ) (moments : List ℕ) → AreFrom low moments → IfSome (last_of moments) (λ last. last ≤ high) → AreUpTo high moments
up_to_last low high [] from last = tt
up_to_last low high (moment ∷ []) from last = (last, tt)
up_to_last low high (moment ∷ (next ∷ moments)) from last =
    let behind = up_to_last moment high (next ∷ moments) from.1 last in
    (omega (arith, from.1.0, behind.0), behind)

pub last_up_to : (high : ℕ) (moments : List ℕ) → AreUpTo high moments → IfSome (last_of moments) (λ last. last ≤ high)
last_up_to high [] up = tt
last_up_to high (moment ∷ []) up = up.0
last_up_to high (moment ∷ (next ∷ moments)) up = last_up_to high (next ∷ moments) up.1

pub up_to_higher : (low high : ℕ) (moments : List ℕ) → low ≤ high → AreUpTo low moments → AreUpTo high moments
up_to_higher low high [] l up = tt
up_to_higher low high (moment ∷ moments) l up = (omega (arith, up.0, l), up_to_higher low high moments l up.1)

pub up_to_both : (high : ℕ) (moments more : List ℕ) → AreUpTo high moments → AreUpTo high more → AreUpTo high (moments ++ more)
up_to_both high [] more up later = later
up_to_both high (moment ∷ moments) more up later = (up.0, up_to_both high moments more up.1 later)

pub up_to_alike : (high moment n : ℕ) → moment ≤ high → AreUpTo high (replicate n moment)
up_to_alike high moment zero l = tt
up_to_alike high moment (suc n) l = (l, up_to_alike high moment n l)

pub from_alike : (low moment n : ℕ) → low ≤ moment → AreFrom low (replicate n moment)
from_alike low moment zero l = tt
from_alike low moment (suc n) l = (l, from_alike moment moment n (omega arith))

from_both : (low high : ℕ) (moments more : List ℕ) → AreFrom low moments → AreUpTo high moments → AreFrom high more → low ≤ high → AreFrom low (moments ++ more)
from_both low high [] more from up later l = from_lower low high more l later
  where
    from_lower : (a b : ℕ) (ms : List ℕ) → a ≤ b → AreFrom b ms → AreFrom a ms
    from_lower a b [] l are = tt
    from_lower a b (m ∷ ms) l are = (omega (arith, are.0, l), are.1)
from_both low high (moment ∷ moments) more from up later l = (from.0, from_both moment high moments more from.1 up.1 later up.0)

-- moments in order, and behind them one moment some times that isn't below the last
pub rises_alike : (moments : List ℕ) (high moment n : ℕ) → Rising moments → IfSome (last_of moments) (λ last. last ≤ high) → high ≤ moment
    → Rising (moments ++ replicate n moment)
rises_alike moments high moment n from last l =
    from_both 0 high moments (replicate n moment) from (up_to_last 0 high moments from last) (from_alike high moment n l) (omega arith)

-- no moment is below the first
pub not_below : (low : ℕ) (moments : List ℕ) (place moment : ℕ) → AreFrom low moments → slice_get moments place ≡ Some moment → low ≤ moment
not_below low [] place moment from got = none_some moment got
not_below low (first ∷ moments) zero moment from got = let same : first ≡ moment = same_some first moment got in omega (arith, from.0, same)
not_below low (first ∷ moments) (suc place) moment from got =
    let later = not_below first moments place moment from.1 got in omega (arith, from.0, later)

-- ---- what has passed

is_past_by : (limit now moment : ℕ) → moment + limit ≤ now → is_past limit now moment ≡ true
is_past_by limit now moment l = grind (arith, nat_tests)

is_ahead_of : (limit now moment : ℕ) → now < moment + limit → is_past limit now moment ≡ false
is_ahead_of limit now moment l = grind (arith, nat_tests)

counted : (test : Bool) (moment : ℕ) (moments : List ℕ) → test ≡ true → length (cond test (moment ∷ moments) moments) ≡ length moments + 1
counted true moment moments e = omega arith
counted false moment moments e = absurd (false≢true e)

uncounted : (test : Bool) (moment : ℕ) (moments : List ℕ) → test ≡ false → length (cond test (moment ∷ moments) moments) ≡ length moments
uncounted true moment moments e = absurd (false≢true (sym e))
uncounted false moment moments e = refl

at_most_one : (test : Bool) (moment : ℕ) (moments : List ℕ) → length (cond test (moment ∷ moments) moments) ≤ length moments + 1
at_most_one true moment moments = omega arith
at_most_one false moment moments = omega arith

-- no limit has passed where the first one hasn't
none_passed : (limit now low : ℕ) (moments : List ℕ) → AreFrom low moments → now < low + limit → passed limit now moments ≡ 0
none_passed limit now low [] from ahead = refl
none_passed limit now low (moment ∷ moments) from ahead =
    let further : now < moment + limit = omega (arith, from.0, ahead) in
    uncounted (is_past limit now moment) moment (filter (is_past limit now) moments) (is_ahead_of limit now moment further)
    ∙ none_passed limit now moment moments from.1 further

-- a limit that has passed is in front
pub is_in_front : (limit now low : ℕ) (moments : List ℕ) (place moment : ℕ) → AreFrom low moments → slice_get moments place ≡ Some moment
    → moment + limit ≤ now → place < passed limit now moments
is_in_front limit now low [] place moment from got past = none_some moment got
is_in_front limit now low (first ∷ moments) zero moment from got past =
    let same : first ≡ moment = same_some first moment got in
    let here : first + limit ≤ now = omega (arith, same, past) in
    let one = counted (is_past limit now first) first (filter (is_past limit now) moments) (is_past_by limit now first here) in
    omega (arith, one)
is_in_front limit now low (first ∷ moments) (suc place) moment from got past =
    let behind = is_in_front limit now first moments place moment from.1 got past in
    let order = not_below first moments place moment from.1 got in
    let here : first + limit ≤ now = omega (arith, order, past) in
    let one = counted (is_past limit now first) first (filter (is_past limit now) moments) (is_past_by limit now first here) in
    omega (arith, one, behind)

-- what stands from a limit on that hasn't passed hasn't passed
pub is_behind : (limit now low : ℕ) (moments : List ℕ) (place moment : ℕ) → AreFrom low moments → slice_get moments place ≡ Some moment
    → now < moment + limit → passed limit now moments ≤ place
is_behind limit now low [] place moment from got ahead = none_some moment got
is_behind limit now low (first ∷ moments) zero moment from got ahead =
    let same : first ≡ moment = same_some first moment got in
    let here : now < first + limit = omega (arith, same, ahead) in
    let none = none_passed limit now first (first ∷ moments) (omega arith, from.1) here in
    omega (arith, none)
is_behind limit now low (first ∷ moments) (suc place) moment from got ahead =
    let later = is_behind limit now first moments place moment from.1 got ahead in
    let one = at_most_one (is_past limit now first) first (filter (is_past limit now) moments) in
    omega (arith, one, later)

-- no more have passed than there are
pub passed_within : (limit now : ℕ) (moments : List ℕ) → passed limit now moments ≤ length moments
passed_within limit now [] = omega arith
passed_within limit now (moment ∷ moments) =
    let later = passed_within limit now moments in
    let one = at_most_one (is_past limit now moment) moment (filter (is_past limit now) moments) in
    omega (arith, one, later)

-- those in front have passed
pub front_is_past : (limit now low : ℕ) (moments : List ℕ) → AreFrom low moments
    → list_all (is_past limit now) (take (passed limit now moments) moments) ≡ true
front_is_past limit now low [] from = refl
front_is_past limit now low (first ∷ moments) from =
    ⊎_elim
    (λ past. ap (λ b. list_all (is_past limit now) (take (length (cond b (first ∷ filter (is_past limit now) moments) (filter (is_past limit now) moments))) (first ∷ moments))) past
    ∙ ap (λ b. b && list_all (is_past limit now) (take (passed limit now moments) moments)) past
    ∙ front_is_past limit now first moments from.1)
    (λ not_past. let none = none_passed limit now first (first ∷ moments) (omega arith, from.1) (ahead_of not_past) in
    ap (λ n. list_all (is_past limit now) (take n (first ∷ moments))) none)
    (cases_Bool (is_past limit now first))
  where
    ahead_of : is_past limit now first ≡ false → now < first + limit
    ahead_of e = grind (arith, nat_tests)

-- behind those that have passed none has
pub rest_is_ahead : (limit now low : ℕ) (moments : List ℕ) → AreFrom low moments
    → list_all (λ moment. nat_lt now (moment + limit)) (drop (passed limit now moments) moments) ≡ true
rest_is_ahead limit now low [] from = refl
rest_is_ahead limit now low (first ∷ moments) from =
    ⊎_elim
    (λ past. ap (λ b. list_all ahead (drop (length (cond b (first ∷ filter (is_past limit now) moments) (filter (is_past limit now) moments))) (first ∷ moments))) past
    ∙ rest_is_ahead limit now first moments from.1)
    (λ not_past. let here : now < first + limit = ahead_of not_past in
    let none = none_passed limit now first (first ∷ moments) (omega arith, from.1) here in
    ap (λ n. list_all ahead (drop n (first ∷ moments))) none ∙ all_ahead first (first ∷ moments) (omega arith, from.1) here)
    (cases_Bool (is_past limit now first))
  where
    ahead : ℕ → Bool
    ahead = λ moment. nat_lt now (moment + limit)

    ahead_of : is_past limit now first ≡ false → now < first + limit
    ahead_of e = grind (arith, nat_tests)

    is_ahead : (moment : ℕ) → now < moment + limit → ahead moment ≡ true
    is_ahead moment l = grind (arith, nat_tests)

    all_ahead : (from : ℕ) (ms : List ℕ) → AreFrom from ms → now < from + limit → list_all ahead ms ≡ true
    all_ahead from [] are l = refl
    all_ahead from (m ∷ ms) are l =
        let later : now < m + limit = omega (arith, are.0, l) in
        ap (λ b. b && list_all ahead ms) (is_ahead m later) ∙ all_ahead m ms are.1 later

-- ---- between two moments

part : (a b c : Bool) (moment : ℕ) (xs ys zs : List ℕ) → a && b ≡ false → c ≡ a || b → length xs + length ys ≡ length zs
    → length (cond a (moment ∷ xs) xs) + length (cond b (moment ∷ ys) ys) ≡ length (cond c (moment ∷ zs) zs)
part true true c moment xs ys zs apart both e = absurd (false≢true (sym apart))
part true false c moment xs ys zs apart both e = rw both (omega (arith, e))
part false true c moment xs ys zs apart both e = rw both (omega (arith, e))
part false false c moment xs ys zs apart both e = rw both e

are_apart : (limit last at : ℕ) (now : Bool) → nat_le at last && (nat_lt last at && now) ≡ false
are_apart limit last at now = by (nat_le at last) (nat_lt last at) refl refl
  where
    never : nat_le at last ≡ true → nat_lt last at ≡ true → ⊥
    never e f = grind (arith, nat_tests)

    by : (p q : Bool) → nat_le at last ≡ p → nat_lt last at ≡ q → p && (q && now) ≡ false
    by true true e f = absurd (never e f)
    by true false e f = refl
    by false q e f = refl

are_both : (last now at : ℕ) → last ≤ now → nat_le at now ≡ nat_le at last || (nat_lt last at && nat_le at now)
are_both last now at l = by (nat_le at last) (nat_lt last at) refl refl
  where
    past : nat_le at last ≡ true → nat_le at now ≡ true
    past e = grind (arith, nat_tests)

    never : nat_le at last ≡ false → nat_lt last at ≡ false → ⊥
    never e f = grind (arith, nat_tests)

    by : (p q : Bool) → nat_le at last ≡ p → nat_lt last at ≡ q → nat_le at now ≡ p || (q && nat_le at now)
    by true q e f = past e
    by false true e f = refl
    by false false e f = absurd (never e f)

-- what had passed by one moment, and what passes up to another, has passed by that
pub passed_on : (limit last now : ℕ) (moments : List ℕ) → last ≤ now
    → passed limit last moments + length (filter (passes limit last now) moments) ≡ passed limit now moments
passed_on limit last now [] l = omega arith
passed_on limit last now (moment ∷ moments) l =
    part (is_past limit last moment) (passes limit last now moment) (is_past limit now moment) moment (filter (is_past limit last) moments)
    (filter (passes limit last now) moments) (filter (is_past limit now) moments) (are_apart limit last (moment + limit) (nat_le (moment + limit) now))
    (are_both last now (moment + limit) l) (passed_on limit last now moments l)

-- no fewer have passed later
pub passed_grows : (limit last now : ℕ) (moments : List ℕ) → last ≤ now → passed limit last moments ≤ passed limit now moments
passed_grows limit last now moments l = omega (arith, passed_on limit last now moments l)

fewer : (f g : ℕ → Bool) (moments : List ℕ) → ((moment : ℕ) → f moment ≡ true → g moment ≡ true) → length (filter f moments) ≤ length (filter g moments)
fewer f g [] each = omega arith
fewer f g (moment ∷ moments) each = by (f moment) (g moment) refl refl (fewer f g moments each)
  where
    by : (p q : Bool) → f moment ≡ p → g moment ≡ q → length (filter f moments) ≤ length (filter g moments)
        → length (cond p (moment ∷ filter f moments) (filter f moments)) ≤ length (cond q (moment ∷ filter g moments) (filter g moments))
    by true true e h l = omega (arith, l)
    by true false e h l = absurd (false≢true (sym h ∙ each moment e))
    by false true e h l = omega (arith, l)
    by false false e h l = l

-- of the longer limit no more have passed
pub longer_less : (limit longer now : ℕ) (moments : List ℕ) → limit ≤ longer → passed longer now moments ≤ passed limit now moments
longer_less limit longer now moments l = fewer (is_past longer now) (is_past limit now) moments each
  where
    each : (moment : ℕ) → is_past longer now moment ≡ true → is_past limit now moment ≡ true
    each moment e = grind (arith, nat_tests)

-- ---- moments more

passed_both : (limit now : ℕ) (moments more : List ℕ) → passed limit now (moments ++ more) ≡ passed limit now moments + passed limit now more
passed_both limit now [] more = omega arith
passed_both limit now (moment ∷ moments) more = by (is_past limit now moment) (passed_both limit now moments more)
  where
    by : (b : Bool) → passed limit now (moments ++ more) ≡ passed limit now moments + passed limit now more
        → length (cond b (moment ∷ filter (is_past limit now) (moments ++ more)) (filter (is_past limit now) (moments ++ more)))
        ≡ length (cond b (moment ∷ filter (is_past limit now) moments) (filter (is_past limit now) moments)) + passed limit now more
    by true e = omega (arith, e)
    by false e = e

-- what comes later hasn't passed
pub passed_still : (limit now low : ℕ) (moments more : List ℕ) → AreFrom low more → now < low + limit
    → passed limit now (moments ++ more) ≡ passed limit now moments
passed_still limit now low moments more from ahead = omega (arith, passed_both limit now moments more, none_passed limit now low more from ahead)

-- ---- both limits

pub passing_is : (last now : ℕ) (moments : List ℕ) → last ≤ now
    → passing last now moments + (passed WARNING_AFTER last moments + passed NOTICE_AFTER last moments)
    ≡ passed WARNING_AFTER now moments + passed NOTICE_AFTER now moments
passing_is last now moments l = omega (arith, passed_on WARNING_AFTER last now moments l, passed_on NOTICE_AFTER last now moments l)

pub passing_within : (last now : ℕ) (moments : List ℕ) → last ≤ now → passing last now moments ≤ 2 * length moments
passing_within last now moments l = omega (
  arith,
  passing_is last now moments l,
  passed_within WARNING_AFTER now moments,
  passed_within NOTICE_AFTER now moments,
)
