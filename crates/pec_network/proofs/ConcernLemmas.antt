-- What the command of one provider leaves of a network, from what it leaves of that provider.
use Rattle.std.proofs.Common.{◌≡◌, ℕ, ◌<◌, ◌≤◌, List, length, get_or, set, ap, sym, arith, Err}
use Rattle.std.proofs.lemmas.List.{set-get_or}
use Rattle.std.specs.Prelude.{Result, IsErrOf}
use Rattle.pec_types.specs.declared.turns.ProviderFault.{ProviderFault}
use Rattle.pec_types.specs.declared.turns.ProviderFault.TheVariants as refusals
use Rattle.pec_outside.specs.DiskModel.{Sight}
use Rattle.pec_outside.specs.Flow.{HasRisen}
use Rattle.pec_ledger.specs.Ledger.{Journals}
use Rattle.pec_chronicle.specs.Carrying.{CarriesOn, NothingMay}
use Rattle.pec_chronicle.specs.CarryingLaws.{carries_nothing}
use Rattle.pec_chronicle.specs.Chronicle.{ChronicleState}
use Rattle.pec_provider.specs.Following.{MayFollow}
use Rattle.pec_provider.specs.Provider.{ProviderState}
use Rattle.pec_seal.specs.Seals.{Seals}
use Rattle.pec_network.specs.Changing.{ConcernsOne}
use Rattle.pec_network.specs.Network.{NetworkState, world_of}
use Rattle.pec_network.proofs.ChangeLemmas.{carries_from, falls_from, risen_from}
use Rattle.pec_network.proofs.CrashLemmas.{changes_only}

pub concerns_one : {D S X : Type 0} (was : NetworkState D S) (number : ℕ) (old new : ProviderState D)
    (within : number < length was.providers) → old ≡ get_or was.providers number old
    → (sight : D → Sight) (count : D → ℕ) (tells : Type 0) (seals : S → Seals) (result : Result X ProviderFault)
    → (tells → (state : ChronicleState D) → CarriesOn sight NothingMay state state)
    → (tells → (journals : Journals)
    → CarriesOn sight (MayFollow (world_of seals was) journals number) old.chronicle new.chronicle)
    → (IsErrOf result refusals.DiskFault → HasRisen (count old.chronicle.disk) (count new.chronicle.disk))
    → count old.chronicle.disk ≤ count new.chronicle.disk
    → (looks : List (List ℕ))
    → ConcernsOne sight count tells seals number was
    (record was { providers = set was.providers number new; looks = looks }) result
concerns_one was number old new within here sight count tells seals result rests carries risen later looks = record {
  others = changes_only was number new looks within;
  carries = λ told journals. carries_from was.providers number old new within here sight (world_of seals was) journals
      (rests told) (carries told journals);
  disk_fault = λ failed. risen_from was.providers number old new within here count (risen failed);
  later = falls_from was.providers number old new within here count later;
}

-- a call that changes nothing concerns whomever
pub concerns_nobody : {D S X : Type 0} (was : NetworkState D S) (number : ℕ)
    → (sight : D → Sight) (count : D → ℕ) (tells : Type 0) (seals : S → Seals)
    → (tells → (state : ChronicleState D) → CarriesOn sight NothingMay state state)
    → ConcernsOne {X = X} sight count tells seals number was was (Err refusals.NoAccount)
concerns_nobody {D} {S} was number sight count tells seals rests = record {
  others = λ other. ap (λ (p : List (ProviderState D)). (let n : NetworkState D S = record was { providers = p; looks = was.looks } in n))
      (sym (set-get_or was.providers number other));
  carries = λ told journals k other l. carries_nothing sight (MayFollow (world_of seals was) journals k)
      (get_or was.providers k other).chronicle (get_or was.providers k other).chronicle
      (rests told (get_or was.providers k other).chronicle);
  disk_fault = λ failed. absurd (cc);
  later = λ k other l. omega arith;
}
