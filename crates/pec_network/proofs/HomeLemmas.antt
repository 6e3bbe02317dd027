-- The disks of providers, kept one after another from the last one on.
use Rattle.std.proofs.Common.{◌≡◌, ℕ, ◌+◌, ◌<◌, ◌≤◌, List, [], ◌∷◌, ◌++◌, length, get_or, refl, ap, sym, subst, ◌∙◌, append_assoc, arith, inl, inr}
use Rattle.std.proofs.Math.Seq.{get_or-append_seam}
use Rattle.std.proofs.lemmas.Bool.{cases_eq}
use Rattle.std.proofs.lemmas.List.{length-append}
use Rattle.pec_outside.specs.Depots.{OnlyAt}
use Rattle.pec_provider.specs.Provider.{ProviderState}
use Rattle.pec_network.specs.Homes.{AllAt, AllFrom}

module _ {D X : Type 0} (given : ProviderState D → X) where
  pub none_yet : (homes : ℕ → X) (all : List (ProviderState D)) → AllFrom given homes homes all (length all)
  none_yet homes all = record {
    here = λ number other from within. absurd (omega arith);
    below = λ number l. refl;
    behind = λ number l. refl;
  }

  -- one more, before those
  pub one_more : (start mid new : ℕ → X) (front : List (ProviderState D)) (provider : ProviderState D) (rest : List (ProviderState D))
      → AllFrom given start mid (front ++ provider ∷ rest) (length front + 1) → OnlyAt mid new (length front) (given provider)
      → AllFrom given start new (front ++ provider ∷ rest) (length front)
  one_more start mid new front provider rest so_far only =
      let size = length-append front (provider ∷ rest) in record {
        here = λ number other from within.
            elim (cases_eq number (length front)) [
              | inl same ↦ ap new same ∙ only.here
                  ∙ ap given (sym (ap (λ (n : ℕ). get_or (front ++ provider ∷ rest) n other) same ∙ get_or-append_seam front provider rest other))
              | inr differs ↦ only.elsewhere number differs
                  ∙ so_far.here number other (let e = differs in omega arith) within
            ];
        below = λ number l. only.elsewhere number (λ e. absurd (omega arith)) ∙ so_far.below number (omega arith);
        behind = λ number l. only.elsewhere number (λ e. absurd (omega arith)) ∙ so_far.behind number l;
      }

  module _ (all now front : List (ProviderState D)) (provider : ProviderState D) (more : List (ProviderState D))
      (rest : all ≡ now ++ more) (popped : now ≡ front ++ provider ∷ []) where
    pub rest_again : all ≡ front ++ provider ∷ more
    rest_again = rest ∙ ap (λ (l : List (ProviderState D)). l ++ more) popped ∙ append_assoc front (provider ∷ []) more

    pub place_for : (most : ℕ) → length all ≤ most → length front < most
    place_for most few =
        let size = ap (λ (l : List (ProviderState D)). length l) rest_again ∙ length-append front (provider ∷ more) in omega arith

    pub kept_next : (start mid new : ℕ → X) (place : ℕ) → place ≡ length front → AllFrom given start mid all (length now)
        → OnlyAt mid new place (given provider) → AllFrom given start new all (length front)
    kept_next start mid new place here so_far only =
        let size : length now ≡ length front + 1 =
        ap (λ (l : List (ProviderState D)). length l) popped ∙ length-append front (provider ∷ []) in
        subst (λ (l : List (ProviderState D)). AllFrom given start new l (length front)) (sym rest_again)
        (one_more start mid new front provider more
        (subst (λ (l : List (ProviderState D)). AllFrom given start mid l (length front + 1)) rest_again
        (subst (λ (n : ℕ). AllFrom given start mid all n) size so_far))
        (subst (λ (n : ℕ). OnlyAt mid new n (given provider)) here only))

  pub all_kept : (start new : ℕ → X) (all : List (ProviderState D)) → AllFrom given start new all 0 → AllAt given start new all
  all_kept start new all from = record {
    here = λ number other within. from.here number other (omega arith) within;
    elsewhere = from.behind;
  }
