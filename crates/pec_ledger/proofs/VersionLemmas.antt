-- A journal is of version 2 where an entry makes it so, and otherwise, once it has begun, of version 1.
use Rattle.std.proofs.Common.{◌≡◌, ℕ, ◌<◌, ◌≤◌, ◌⊎◌, ◌↔◌, max, List, [], ◌∷◌, inl, inr, ap, ◌∙◌, arith}
use Rattle.std.specs.Prelude.{fold}
use Rattle.std.proofs.Math.Nat.{le-max_left, le-max_right, max-le}
use Rattle.std.proofs.lemmas.Bool.{cases_lt}
use Rattle.pec_records.specs.declared.entries.Entry.{Entry}
use Rattle.pec_records.specs.declared.entries.Entry.TheVariants as entries
use Rattle.pec_ledger.specs.Half.{Half, empty}
use Rattle.pec_ledger.specs.Ledger.{Begins, Fit, IsOfVersionTwo, Journals, ledger}
use Rattle.pec_ledger.specs.Steps.{half, step, version_by}
use Rattle.pec_ledger.specs.Trade.{Trade}
use Rattle.pec_ledger.proofs.ListLemmas.{contains_cases, contains_here, contains_none, contains_there}

at_most_two : (e : Entry) → version_by e ≤ 2
at_most_two (entries.Start number digest) = omega arith
at_most_two (entries.Accepted moment sender message) = omega arith
at_most_two (entries.NotAccepted moment sender cause path message) = omega arith
at_most_two (entries.Took moment id message) = omega arith
at_most_two (entries.Decided moment id recipient decision) = omega arith
at_most_two (entries.Charged moment id by) = omega arith
at_most_two (entries.Learned moment id recipient decision decided message) = omega arith
at_most_two (entries.Acked moment id recipient) = omega arith
at_most_two (entries.Ticked moment) = omega arith
at_most_two (entries.Anomaly moment accounts message) = omega arith
at_most_two (entries.StartTwo number digest) = omega arith
at_most_two (entries.Upgraded moment) = omega arith
at_most_two (entries.Archived moment account place) = omega arith

two_of : (a b : ℕ) → max a b ≡ 2 → (a < 2) ⊎ (2 ≤ a) → (b < 2) ⊎ (2 ≤ b) → a ≤ 2 → b ≤ 2 → (a ≡ 2) ⊎ (b ≡ 2)
two_of a b e (inr l) below m n = inl (omega arith)
two_of a b e (inl l) (inr k) m n = inr (omega arith)
two_of a b e (inl l) (inl k) m n = let most : max a b ≤ 1 = max-le (omega arith) (omega arith) in absurd (omega (arith, most, e))

either_two : (a b : ℕ) → a ≤ 2 → b ≤ 2 → (a ≡ 2) ⊎ (b ≡ 2) → max a b ≡ 2
either_two a b m n (inl e) = let least = le-max_left a b in let most : max a b ≤ 2 = max-le m n in omega (arith, least, most, e)
either_two a b m n (inr e) = let least = le-max_right a b in let most : max a b ≤ 2 = max-le m n in omega (arith, least, most, e)

module _ (trade : Trade) (p : ℕ) where
  still_two : (h : Half) (e : Entry) → h.version ≤ 2 → (step trade p h e).version ≤ 2
  unfolding step
  still_two h e m = max-le m (at_most_two e)

  -- where the version is 2, the half before had it, or an entry made it so
  made_so : (h : Half) (es : List Entry) → h.version ≤ 2 → (fold (step trade p) h es).version ≡ 2 → (h.version ≡ 2) ⊎ IsOfVersionTwo es
  unfolding step
  made_so h [] m e = inl e
  made_so h (x ∷ es) m e =
      elim (made_so (step trade p h x) es (still_two h x m) e) [
        | inl now ↦ elim (two_of h.version (version_by x) now (cases_lt h.version 2) (cases_lt (version_by x) 2) m (at_most_two x)) [
          | inl before ↦ inl before
          | inr here ↦ inr (x, contains_here x es, here)
        ]
        | inr later ↦ inr (later.0, contains_there x es later.0 later.1, later.2)
      ]

  -- and then it is 2
  so_made : (h : Half) (es : List Entry) → h.version ≤ 2 → (h.version ≡ 2) ⊎ IsOfVersionTwo es → (fold (step trade p) h es).version ≡ 2
  unfolding step
  so_made h [] m (inl e) = e
  so_made h [] m (inr two) = absurd (contains_none two.0 two.1)
  so_made h (x ∷ es) m (inl e) =
      so_made (step trade p h x) es (still_two h x m) (inl (either_two h.version (version_by x) m (at_most_two x) (inl e)))
  so_made h (x ∷ es) m (inr two) =
      elim (contains_cases x es two.0 two.1) [
        | inl same ↦ so_made (step trade p h x) es (still_two h x m)
            (inl (either_two h.version (version_by x) m (at_most_two x) (inr (ap version_by same ∙ two.2))))
        | inr there ↦ so_made (step trade p h x) es (still_two h x m) (inr (two.0, there, two.2))
      ]

  not_at_first : {X : Type 0} → (empty.version ≡ 2) ⊎ X → X
  not_at_first (inl e) = absurd (omega (arith, e))
  not_at_first (inr x) = x

  pub version_two : (es : List Entry) → ((half trade p es).version ≡ 2) ↔ IsOfVersionTwo es
  unfolding half
  version_two es = ((λ e. not_at_first (made_so empty es (omega arith) e)), (λ two. so_made empty es (omega arith) (inr two)))

  -- ---- a journal that has begun

  not_less : (h : Half) (es : List Entry) → h.version ≤ (fold (step trade p) h es).version
  unfolding step
  not_less h [] = omega arith
  not_less h (x ∷ es) = let here = le-max_left h.version (version_by x) in let later = not_less (step trade p h x) es in omega (arith, here, later)

  still_at_most : (h : Half) (es : List Entry) → h.version ≤ 2 → (fold (step trade p) h es).version ≤ 2
  still_at_most h [] m = m
  still_at_most h (x ∷ es) m = still_at_most (step trade p h x) es (still_two h x m)

  begun : (es : List Entry) → Begins es → 1 ≤ (fold (step trade p) empty es).version
  unfolding step
  begun [] b = absurd b
  begun (entries.Start number digest ∷ es) b = not_less (step trade p empty (entries.Start number digest)) es
  begun (entries.StartTwo number digest ∷ es) b =
      let later : 2 ≤ (fold (step trade p) (step trade p empty (entries.StartTwo number digest)) es).version = not_less (step trade p empty (entries.StartTwo number digest)) es
      in omega (arith, later)
  begun (entries.Accepted moment sender message ∷ es) b = absurd b
  begun (entries.NotAccepted moment sender cause path message ∷ es) b = absurd b
  begun (entries.Took moment id message ∷ es) b = absurd b
  begun (entries.Decided moment id recipient decision ∷ es) b = absurd b
  begun (entries.Charged moment id by ∷ es) b = absurd b
  begun (entries.Learned moment id recipient decision decided message ∷ es) b = absurd b
  begun (entries.Acked moment id recipient ∷ es) b = absurd b
  begun (entries.Ticked moment ∷ es) b = absurd b
  begun (entries.Anomaly moment accounts message ∷ es) b = absurd b
  begun (entries.Upgraded moment ∷ es) b = absurd b
  begun (entries.Archived moment account place ∷ es) b = absurd b

one_or_two : (n : ℕ) → 1 ≤ n → n ≤ 2 → (n < 2) ⊎ (2 ≤ n) → (n ≡ 1) ⊎ (n ≡ 2)
one_or_two n a b (inl l) = inl (omega arith)
one_or_two n a b (inr l) = inr (omega arith)

pub version_one : (trade : Trade) (J : Journals) → Fit trade J → (p : ℕ) → p < trade.providers
    → ((ledger trade J p).version ≡ 1) ⊎ ((ledger trade J p).version ≡ 2)
unfolding ledger half
version_one trade J fit p l =
    one_or_two (fold (step trade p) empty (J p)).version (begun trade p (J p) (fit.begins p l)) (still_at_most trade p empty (J p) (omega arith))
    (cases_lt (fold (step trade p) empty (J p)).version 2)
