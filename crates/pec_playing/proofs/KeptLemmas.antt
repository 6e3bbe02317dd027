-- What calls of a network keep, from what they say of one provider or of what waits.
use Rattle.std.proofs.Common.{◌≡◌, ℕ, ◌<◌, inl, inr, List, [], length, get_or, refl, ap, sym, subst, ◌∙◌, arith}
use Rattle.std.proofs.lemmas.List.{length-set}
use Rattle.std.proofs.lemmas.Option.{slice_get_cases}
use Rattle.pec_outside.specs.DiskModel.{Sight}
use Rattle.pec_ledger.specs.Ledger.{Journals}
use Rattle.pec_ledger.specs.Trade.{Trade}
use Rattle.pec_network.specs.OfProviders.{ProviderState}
use Rattle.pec_network.specs.Carrying.{AllCarryOn, AllStand, NoneFalls}
use Rattle.pec_network.specs.Changing.{ChangesOnly, SameCounts}
use Rattle.pec_network.specs.Network.{NetworkState}
use Rattle.pec_playing.specs.Doing.{Keeps}

none_falls : {D : Type 0} (count : D → ℕ) (providers : List (ProviderState D)) → NoneFalls count providers providers
none_falls count providers = λ number other within. omega arith

-- nothing but what waits is another
pub keeps_providers : {D S : Type 0} (sight : D → Sight) (count : D → ℕ) (tells : Type 0) (old new : NetworkState D S)
    → new ≡ record old { waiting = new.waiting } → Keeps sight count tells old new
keeps_providers {D} {S} sight count tells old new same =
    let providers : new.providers ≡ old.providers = ap (λ (n : NetworkState D S). n.providers) same in
    record {
      directory = ap (λ (n : NetworkState D S). n.kept) same;
      many = ap (λ (l : List (ProviderState D)). length l) providers;
      seals = ap (λ (n : NetworkState D S). n.sealer) same;
      stands = λ told all. subst (λ (l : List (ProviderState D)). AllStand sight l) (sym providers) all;
      later =
          subst (λ (l : List (ProviderState D)). NoneFalls count old.providers l) (sym providers)
          (none_falls count old.providers);
    }

-- nothing but screens, and how often they have looked, is another
pub keeps_screens : {D S : Type 0} (sight : D → Sight) (count : D → ℕ) (tells : Type 0) (old new : NetworkState D S)
    → new ≡ record old { screens = new.screens; looks = new.looks } → Keeps sight count tells old new
keeps_screens {D} {S} sight count tells old new same =
    let providers : new.providers ≡ old.providers = ap (λ (n : NetworkState D S). n.providers) same in
    record {
      directory = ap (λ (n : NetworkState D S). n.kept) same;
      many = ap (λ (l : List (ProviderState D)). length l) providers;
      seals = ap (λ (n : NetworkState D S). n.sealer) same;
      stands = λ told all. subst (λ (l : List (ProviderState D)). AllStand sight l) (sym providers) all;
      later =
          subst (λ (l : List (ProviderState D)). NoneFalls count old.providers l) (sym providers)
          (none_falls count old.providers);
    }

pub keeps_all : {D S : Type 0} (sight : D → Sight) (count : D → ℕ) (tells : Type 0) (network : NetworkState D S)
    → Keeps sight count tells network network
keeps_all sight count tells network = record {
  directory = refl;
  many = refl;
  seals = refl;
  stands = λ told all. all;
  later = none_falls count network.providers;
}

-- what is kept twice is kept
pub keeps_on : {D S : Type 0} (sight : D → Sight) (count : D → ℕ) (tells : Type 0) (old mid new : NetworkState D S)
    → Keeps sight count tells old mid → Keeps sight count tells mid new → Keeps sight count tells old new
keeps_on sight count tells old mid new first second = record {
  directory = second.directory ∙ first.directory;
  many = second.many ∙ first.many;
  seals = second.seals ∙ first.seals;
  stands = λ told all. second.stands told (first.stands told all);
  later = λ number other within.
      omega (arith, first.later number other within, second.later number other (omega (arith, within, first.many)));
}

-- directory, number and seals stay, and providers carry on
pub keeps_same : {D S : Type 0} (sight : D → Sight) (count : D → ℕ) (tells : Type 0) (trade : Trade)
    (old new : NetworkState D S) → new.kept ≡ old.kept → new.sealer ≡ old.sealer
    → length new.providers ≡ length old.providers
    → (tells → (journals : Journals) → AllCarryOn sight trade journals old.providers new.providers)
    → NoneFalls count old.providers new.providers → Keeps sight count tells old new
keeps_same sight count tells trade old new kept seals many carries later = record {
  directory = kept;
  many = many;
  seals = seals;
  stands = λ told all k other l.
      (let l2 : k < length old.providers = omega (arith, l, many) in
      (carries told (λ p. []) k other l2).stands (all k other l2));
  later = later;
}

-- counts that didn't change don't fall
pub same_falls : {D : Type 0} (count : D → ℕ) (old new : List (ProviderState D)) → SameCounts count old new
    → NoneFalls count old new
same_falls count old new same = λ number other within. omega (arith, same number other)

-- nothing but one provider is another
module _ {D S : Type 0} (old new : NetworkState D S) (number : ℕ) (only : ChangesOnly number old new)
    (within : number < length old.providers) where
  some : ProviderState D
  some = elim (slice_get_cases old.providers number).1 [
    | inl there ↦ there.0
    | inr past ↦ absurd (omega (arith, within, past.0))
  ]

  pub as_many : length new.providers ≡ length old.providers
  as_many =
      ap (λ (n : NetworkState D S). length n.providers) (only some)
      ∙ length-set old.providers number (get_or new.providers number some)

  pub keeps_others : (sight : D → Sight) (count : D → ℕ) (tells : Type 0) (trade : Trade)
      → (tells → (journals : Journals) → AllCarryOn sight trade journals old.providers new.providers)
      → NoneFalls count old.providers new.providers → Keeps sight count tells old new
  keeps_others sight count tells trade carries later =
      keeps_same sight count tells trade old new (ap (λ (n : NetworkState D S). n.kept) (only some))
      (ap (λ (n : NetworkState D S). n.sealer) (only some)) as_many carries later
