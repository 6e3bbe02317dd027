-- A cursor that goes on over moments in order, and the deadlines that it is one of.
use Rattle.std.proofs.Common.{◌≡◌, ℕ, zero, suc, ◌+◌, ◌-◌, ◌*◌, ◌^◌, ◌≤◌, List, [], ◌∷◌, length, Some, None, slice_get, refl, ap, ◌∙◌, arith}
use Rattle.pec_types.specs.Passed.{passed, passing}
use Rattle.pec_types.specs.declared.limits.TheConstants.{WARNING_AFTER, NOTICE_AFTER}
use Rattle.pec_types.specs.Looks.{Rose}
use Rattle.pec_shelf.proofs.LookLemmas.{rose_alike, rose_least, rose_most}
use Rattle.pec_shelf.proofs.PassedLemmas.{passed_grows, passed_within, passing_is, passing_within}
use Rattle.pec_records.specs.declared.entries.Entry.TheVariants as entries
use Rattle.pec_shelf.specs.Deadlines.{Watch}
use Rattle.pec_shelf.specs.Looked.{LookedSo, acceptances_seen}
use Rattle.pec_shelf.specs.Seen.{Seen}
use Rattle.pec_shelf.specs.declared.deadlines.Spot.{Spot}

some_none : {X Y : Type 0} (x : X) → Some x ≡ None → Y
some_none x e = cc

none_behind : (moments : List ℕ) (place : ℕ) → slice_get moments place ≡ None → length moments ≤ place
none_behind [] place none = omega arith
none_behind (moment ∷ moments) zero none = some_none moment none
none_behind (moment ∷ moments) (suc place) none = let later = none_behind moments place none in omega (arith, later)

-- behind the last moment all that have passed are in front
pub all_in_front : (limit now : ℕ) (moments : List ℕ) (place : ℕ) → slice_get moments place ≡ None → passed limit now moments ≤ place
all_in_front limit now moments place none = omega (arith, none_behind moments place none, passed_within limit now moments)

-- both cursors look two more times than limits pass
pub looks_of_both : (last now : ℕ) (moments : List ℕ) (warned noticed first second : ℕ) → last ≤ now → warned ≡ passed WARNING_AFTER last moments
    → noticed ≡ passed NOTICE_AFTER last moments → first ≡ passed WARNING_AFTER now moments → second ≡ passed NOTICE_AFTER now moments
    → passing last now moments + 2 ≡ (second - noticed + 1) + (first - warned + 1)
looks_of_both last now moments warned noticed first second l w n f s = omega (
  arith,
  passing_is last now moments l,
  passed_grows WARNING_AFTER last now moments l,
  passed_grows NOTICE_AFTER last now moments l,
)

-- deadlines by their parts
pub same_watch : (moments moments_later : List ℕ) (looks : ℕ) (spots spots_later : List Spot) (room room_later warned warned_later noticed noticed_later ticked ticked_later : ℕ)
    → moments ≡ moments_later → spots ≡ spots_later → room ≡ room_later → warned ≡ warned_later → noticed ≡ noticed_later → ticked ≡ ticked_later
    → ◌≡◌ {A = Watch} (record { moments = moments; looks = looks; spots = spots; room = room; warned = warned; noticed = noticed; ticked = ticked })
    (record { moments = moments_later; looks = looks; spots = spots_later; room = room_later; warned = warned_later; noticed = noticed_later; ticked = ticked_later })
same_watch m m2 l s s2 r r2 w w2 n n2 t t2 a b c d e f = rw (a, b, c, d, e, f) refl

-- what both cursors looked up is so for the shelf that they are of
pub sought : (shelf : Seen) (watch : Watch) (moment looks steps later : ℕ) → acceptances_seen shelf ≡ watch.moments → shelf.ticked ≡ watch.ticked
    → shelf.looks ≡ watch.looks → watch.ticked ≤ moment → length watch.moments ≤ 2 ^ 61
    → Rose (passing watch.ticked moment watch.moments + 2) watch.looks looks steps later → LookedSo shelf (entries.Ticked moment) looks steps later
sought shelf watch moment looks steps later seen ticked same in_time few rose =
    let limits = passing watch.ticked moment watch.moments in
    let within = passing_within watch.ticked moment watch.moments in_time in
    let most : limits ≤ 2 * 2 ^ 61 = omega (arith, within, few) in
    let is : passing shelf.ticked moment (acceptances_seen shelf) ≡ limits =
    ap (λ (n : ℕ). passing n moment (acceptances_seen shelf)) ticked ∙ ap (passing watch.ticked moment) seen in
    rw (is, same) (record {
      alike = rose_alike (limits + 2) watch.looks looks steps later rose;
      most = rose_most limits (limits + 2) watch.looks looks steps later rose refl most;
      least = λ in_time. rose_least limits (limits + 2) watch.looks looks steps later rose refl most;
    })
