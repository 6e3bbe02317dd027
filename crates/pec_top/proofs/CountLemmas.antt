-- Counts of faults of the disks of a network, and of the same disks as they stand at home.
use Rattle.std.proofs.Common.{◌≡◌, ℕ, ◌<◌, ◌≤◌, List, ◌⊎◌, inl, inr, ap, sym, ◌∙◌, arith, length, get_or, Some, None}
use Rattle.std.specs.Prelude.{slice_get}
use Rattle.std.proofs.lemmas.Option.{slice_get-get_or, slice_get_cases, slice_get_past}
use Rattle.pec_outside.specs.Depots.{Alike}
use Rattle.pec_serving.specs.OfNetworks.{AllAt, NoneFalls, NoneFell, ProviderState, count_or, counts_in}

module _ {D : Type 0} (faults : D → ℕ) where
  count_here : (providers : List (ProviderState D)) (elsewhere : ℕ → ℕ) (k : ℕ) (x : ProviderState D)
      → slice_get providers k ≡ Some x → counts_in faults providers elsewhere k ≡ faults x.chronicle.disk
  count_here providers elsewhere k x e = ap (count_or faults (elsewhere k)) e

  count_past : (providers : List (ProviderState D)) (elsewhere : ℕ → ℕ) (k : ℕ) → length providers ≤ k
      → counts_in faults providers elsewhere k ≡ elsewhere k
  count_past providers elsewhere k l = ap (count_or faults (elsewhere k)) (slice_get_past providers k l)

  pub counts_later : (old new : List (ProviderState D)) → length old ≡ length new → NoneFalls faults old new
      → (elsewhere : ℕ → ℕ) (k : ℕ) → counts_in faults old elsewhere k ≤ counts_in faults new elsewhere k
  counts_later old new same falls elsewhere k = so (slice_get_cases old k).1
    where
      so : ((x : ProviderState D) × (k < length old) × (slice_get old k ≡ Some x) × (get_or old k x ≡ x))
          ⊎ ((length old ≤ k) × (slice_get old k ≡ None))
          → counts_in faults old elsewhere k ≤ counts_in faults new elsewhere k
      so (inl here) =
          let x = here.0
          in let was = count_here old elsewhere k x here.2
          in let y = get_or new k x
          in let now = count_here new elsewhere k y (slice_get-get_or new k x (omega (arith, same, here.1)))
          in let old_is = ap (λ (p : ProviderState D). faults p.chronicle.disk) here.3
          in let l = falls k x here.1
          in omega (arith, was, now, old_is, l)
      so (inr past) =
          let was = count_past old elsewhere k past.0
          in let now = count_past new elsewhere k (omega (arith, same, past.0))
          in omega (arith, was, now)

  pub fell_so : (last : ℕ → ℕ) (providers : List (ProviderState D)) → NoneFell faults last providers → (k : ℕ)
      → last k ≤ counts_in faults providers last k
  fell_so last providers fell k = so (slice_get_cases providers k).1
    where
      so : ((x : ProviderState D) × (k < length providers) × (slice_get providers k ≡ Some x)
          × (get_or providers k x ≡ x))
          ⊎ ((length providers ≤ k) × (slice_get providers k ≡ None)) → last k ≤ counts_in faults providers last k
      so (inl here) =
          let now = count_here providers last k here.0 here.2
          in let is = ap (λ (p : ProviderState D). faults p.chronicle.disk) here.3
          in let l = fell k here.0 here.1
          in omega (arith, now, is, l)
      so (inr past) = let now = count_past providers last k past.0 in omega (arith, now)

  -- the counts of disks that are at home again
  pub closed_so : (last mid new : ℕ → ℕ) (providers : List (ProviderState D)) → Alike last mid
      → AllAt (λ (p : ProviderState D). faults p.chronicle.disk) mid new providers → (k : ℕ)
      → new k ≡ counts_in faults providers last k
  closed_so last mid new providers alike at k = so (slice_get_cases providers k).1
    where
      so : ((x : ProviderState D) × (k < length providers) × (slice_get providers k ≡ Some x)
          × (get_or providers k x ≡ x))
          ⊎ ((length providers ≤ k) × (slice_get providers k ≡ None)) → new k ≡ counts_in faults providers last k
      so (inl here) =
          at.here k here.0 here.1
          ∙ (ap (λ (p : ProviderState D). faults p.chronicle.disk) here.3
          ∙ sym (count_here providers last k here.0 here.2))
      so (inr past) = at.elsewhere k past.0 ∙ (alike k ∙ sym (count_past providers last k past.0))
