-- Counts that stay at their greatest value: look-ups one after another.
use Rattle.std.proofs.Common.{◌≡◌, ℕ, ◌+◌, ◌*◌, ◌^◌, ◌<◌, ◌≤◌, arith}
use Rattle.pec_types.specs.Looks.{AtLeast, AtMost, Rose, RoseAlike, RoseBy}
use Rattle.pec_types.specs.Timetable.{greatest, raised}

raised_by : (number count now later more : ℕ) → RoseBy number count now → later ≡ raised now → more ≡ number + 1 → RoseBy more count later
raised_by number count now later more rose is one = record {
  fits = λ l.
      let low : count + number ≤ greatest = omega arith in
      let before = rose.fits low in
      omega (arith, before);
  tells = λ l.
      let below : now < greatest = omega arith in
      let before = rose.tells below in
      omega (arith, before);
}

-- a look-up more
pub rose_more : (number more looks looks_now looks_later steps steps_now steps_later : ℕ) → Rose number looks looks_now steps steps_now
    → looks_later ≡ raised looks_now → steps_later ≡ raised steps_now → more ≡ number + 1
    → Rose more looks looks_later steps steps_later
rose_more number more looks looks_now looks_later steps steps_now steps_later rose l s one = record {
  table = raised_by number looks looks_now looks_later more rose.table l one;
  call = raised_by number steps steps_now steps_later more rose.call s one;
}

joined_by : (some more all count now later : ℕ) → RoseBy some count now → RoseBy more now later → all ≡ some + more → RoseBy all count later
joined_by some more all count now later first second is = record {
  fits = λ l.
      let low : count + some ≤ greatest = omega arith in
      let before = first.fits low in
      let high : now + more ≤ greatest = omega (arith, before) in
      let after = second.fits high in
      omega (arith, before, after);
  tells = λ l.
      let after = second.tells l in
      let below : now < greatest = omega (arith, after) in
      let before = first.tells below in
      omega (arith, before, after);
}

-- some look-ups, and then some more
pub rose_joined : (some more all looks looks_now looks_later steps steps_now steps_later : ℕ) → Rose some looks looks_now steps steps_now
    → Rose more looks_now looks_later steps_now steps_later → all ≡ some + more → Rose all looks looks_later steps steps_later
rose_joined some more all looks looks_now looks_later steps steps_now steps_later first second is = record {
  table = joined_by some more all looks looks_now looks_later first.table second.table is;
  call = joined_by some more all steps steps_now steps_later first.call second.call is;
}

pub rose_alike : (number looks looks_later steps steps_later : ℕ) → Rose number looks looks_later steps steps_later → RoseAlike looks looks_later steps steps_later
rose_alike number looks looks_later steps steps_later rose =
    λ l s. let table = rose.table.tells l in let call = rose.call.tells s in omega (arith, table, call)

-- two look-ups more than the limits, which are few
pub rose_most : (limits number looks looks_later steps steps_later : ℕ) → Rose number looks looks_later steps steps_later → number ≡ limits + 2
    → limits ≤ 2 * 2 ^ 61 → AtMost limits steps steps_later
rose_most limits number looks looks_later steps steps_later rose is few =
    λ l. let fits : steps + number ≤ greatest = omega arith in let call = rose.call.fits fits in omega (arith, call)

pub rose_least : (limits number looks looks_later steps steps_later : ℕ) → Rose number looks looks_later steps steps_later → number ≡ limits + 2
    → limits ≤ 2 * 2 ^ 61 → AtLeast limits steps steps_later
rose_least limits number looks looks_later steps steps_later rose is few =
    λ l. let fits : steps + number ≤ greatest = omega arith in let call = rose.call.fits fits in omega (arith, call)
