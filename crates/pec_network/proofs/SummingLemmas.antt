-- The summary of a network, provider by provider.
use Rattle.std.proofs.Common.{◌≡◌, ℕ, ◌+◌, ◌*◌, ◌<◌, ◌≤◌, List, [], ◌∷◌, length, drop, get_or, refl, sym, ap, ◌∙◌, subst, arith}
use Rattle.std.proofs.Math.ListN.{drop_of_length-le}
use Rattle.std.proofs.lemmas.List.{drop_more}
use Rattle.pec_directory.specs.Directory.{Kept}
use Rattle.pec_ledger.specs.Steps.{half}
use Rattle.pec_ledger.specs.Trade.{Trade}
use Rattle.pec_posts.specs.Arrivals.{Waiting}
use Rattle.pec_screen.specs.Verdicts.{Patterns}
use Rattle.pec_seal.specs.Seals.{Seals}
use Rattle.pec_provider.specs.Provider.{ProviderState, Runs}
use Rattle.pec_provider.specs.Summing.{IsUpTo, most_pairs, plus, summary_of, total_from}
use Rattle.pec_provider.specs.Summing.{Summary}
use Rattle.pec_network.specs.Network.{behind_first, sites_of}
use Rattle.pec_network.specs.Summing.{AllRun, total_over}

module _ {D : Type 0} (trade : Trade) where
  -- one provider more
  pub total_more : (providers : List (ProviderState D)) (n : ℕ) (provider : ProviderState D) (old new one whole : Summary)
      → n < length providers → provider ≡ get_or providers n provider
      → one ≡ summary_of trade n (half trade n provider.chronicle.entries) → new ≡ plus old one
      → total_over trade old n (drop n providers) ≡ whole → total_over trade new (n + 1) (drop (n + 1) providers) ≡ whole
  total_more providers n provider old new one whole within is told added before =
      let rest = drop (n + 1) providers in
      let left : drop n providers ≡ provider ∷ rest =
      drop_more providers n provider within ∙ ap (λ (p : ProviderState D). p ∷ rest) (sym is) in
      ap (λ (s : Summary). total_over trade s (n + 1) rest) (added ∙ ap (plus old) told)
      ∙ (sym (ap (total_over trade old n) left) ∙ before)

  -- behind the last one
  pub total_done : (providers : List (ProviderState D)) (n : ℕ) (summary whole : Summary) → length providers ≤ n
      → total_over trade summary n (drop n providers) ≡ whole → summary ≡ whole
  total_done providers n summary whole past before =
      sym (ap (total_over trade summary n) (drop_of_length-le providers past)) ∙ before

  pub total_is : (providers : List (ProviderState D)) (screens : List (List Patterns)) (waiting : List Waiting)
      (summary : Summary) (n : ℕ)
      → total_over trade summary n providers ≡ total_from trade summary n (sites_of providers screens waiting)
  total_is [] screens waiting summary n = refl
  total_is (provider ∷ providers) screens waiting summary n =
      total_is providers (behind_first screens) (behind_first waiting)
      (plus summary (summary_of trade n (half trade n provider.chronicle.entries))) (n + 1)

-- the provider at a place is that of its number
pub runs_there : {D : Type 0} (kept : List Kept) (seals : Seals) (providers : List (ProviderState D)) (n : ℕ) (provider : ProviderState D)
    → AllRun kept seals providers → n < length providers → provider ≡ get_or providers n provider → Runs kept seals n provider
runs_there kept seals providers n provider all within is = subst (Runs kept seals n) (sym is) (all n provider within)

-- the numbers of one provider more
pub up_to_more : (old one new : Summary) (n : ℕ) → new ≡ plus old one → IsUpTo old (n * most_pairs) → IsUpTo one most_pairs
    → IsUpTo new ((n + 1) * most_pairs)
up_to_more old one new n is few more =
    subst (λ (s : Summary). IsUpTo s ((n + 1) * most_pairs)) (sym is)
    (record {
      accepted = let a = few.accepted in let b = more.accepted in omega (arith, a, b);
      delivered = let a = few.delivered in let b = more.delivered in omega (arith, a, b);
      refused = let a = few.refused in let b = more.refused in omega (arith, a, b);
      unknown = let a = few.unknown in let b = more.unknown in omega (arith, a, b);
      noticed = let a = few.noticed in let b = more.noticed in omega (arith, a, b);
    })
