-- The runs are computed. On each link a test says which of the two it is.
use Rattle.std.proofs.Common.{◌≡◌, ℕ, ◌≤◌, Bool, true, false, List, length, refl, ap, sym, ◌∙◌, arith}
use Rattle.std.specs.Prelude.{if◌then◌else◌}
use Rattle.pec_schedules.proofs.ScheduleLemmas.{same_is}
use Rattle.pec_schedules.proofs.examples.worked_schedules.Goals as goal
use Rattle.pec_schedules.specs.Examples.{back, both_ways, idle, in_turn, mixed, past_its_room, there}
use Rattle.pec_schedules.specs.Schedules.{IsPlan, IsPlanned, Link, Planned, Step, puts_on, same_link, takes_on}

none_is_one : (a b : ℕ) → a ≡ b → a ≡ 0 → b ≡ 1 → ⊥
none_is_one a b e f g = omega arith

not_both : (link : Link) → same_link there link ≡ true → same_link back link ≡ true → ⊥
not_both link e f =
    none_is_one there.0 back.0 (ap (λ (l : Link). l.0) (same_is there link e ∙ sym (same_is back link f))) refl refl

planned_by : (b : Bool) (x y : Planned) → IsPlanned x → IsPlanned y → IsPlanned (if b then x else y)
planned_by true x y p q = p
planned_by false x y p q = q

idle_is : IsPlanned idle
idle_is = record { takes = omega arith; room = omega arith }

is_plan : IsPlan both_ways
is_plan link =
    planned_by (same_link there link) _ _ (record { takes = omega arith; room = omega arith })
    (planned_by (same_link back link) _ _ (record { takes = omega arith; room = omega arith }) idle_is)

-- as many puts and takes on a link as are planned
abbrev IsCounted : List Step → Link → Type 0
IsCounted steps link = (puts_on link steps ≡ length (both_ways link).puts) × (takes_on link steps ≡ (both_ways link).takes)

turn_by : (link : Link) (b c : Bool) → same_link there link ≡ b → same_link back link ≡ c → IsCounted in_turn link
turn_by link true true e f = absurd (not_both link e f)
turn_by link true false e f = rw (e, f) (refl, refl)
turn_by link false true e f = rw (e, f) (refl, refl)
turn_by link false false e f = rw (e, f) (refl, refl)

mixed_by : (link : Link) (b c : Bool) → same_link there link ≡ b → same_link back link ≡ c → IsCounted mixed link
mixed_by link true true e f = absurd (not_both link e f)
mixed_by link true false e f = rw (e, f) (refl, refl)
mixed_by link false true e f = rw (e, f) (refl, refl)
mixed_by link false false e f = rw (e, f) (refl, refl)

no_room : IsPlan past_its_room → ⊥
no_room plan =
    let room : 65 ≤ 64 = (plan there).room in
    omega arith

pub returns : goal.returns
returns c = record {
  plan = is_plan;
  schedules = (
    record {
      puts = λ link. (turn_by link (same_link there link) (same_link back link) refl refl).0;
      takes = λ link. (turn_by link (same_link there link) (same_link back link) refl refl).1;
    },
    record {
      puts = λ link. (mixed_by link (same_link there link) (same_link back link) refl refl).0;
      takes = λ link. (mixed_by link (same_link there link) (same_link back link) refl refl).1;
    },
  );
  in_turn = refl;
  mixed = refl;
  empty = refl;
  no_plan = no_room;
  put_first = refl;
  taken_first = refl;
}
