-- What a crash may leave of a provider's disk at any moment of a call.
use Rattle.std.proofs.Common.{◌≡◌, ℕ, zero, suc, List, [], ◌∷◌, get_or, ap, sym, subst, Option, Some}
use Rattle.std.specs.Prelude.{slice_get, slice_index_or}
use Rattle.std.proofs.lemmas.Option.{get_or_from_slice_get, none-some, same_Some, slice_get_within}
use Rattle.pec_types.specs.Bytes.{Bytes}
use Rattle.pec_outside.specs.DiskModel.{LeavesOnly, Sight}
use Rattle.pec_outside.specs.Moments.{weaker}
use Rattle.pec_records.specs.declared.entries.Entry.{Entry}
use Rattle.pec_ledger.specs.Ledger.{Journals}
use Rattle.pec_ledger.specs.Network.{GoesOn as GoesOnInLedger, interrupted_at, journal_at, journals_of}
use Rattle.pec_ledger.specs.Trade.{Trade}
use Rattle.pec_chronicle.specs.Carrying.{CarriesOn, FollowsSo, GoesOn, IsImage, NothingMay}
use Rattle.pec_chronicle.specs.CarryingLaws.{carries_nothing}
use Rattle.pec_chronicle.specs.Chronicle.{ChronicleState, Stands}
use Rattle.pec_posts.specs.Arrivals.{Waiting}
use Rattle.pec_screen.specs.Verdicts.{Patterns}
use Rattle.pec_provider.specs.Following.{MayFollow}
use Rattle.pec_provider.specs.Provider.{ProviderState}
use Rattle.pec_network.specs.Carrying.{AllCarryOn}
use Rattle.pec_network.specs.Network.{behind_first, sites_of}

-- what the ledger sees of a provider's entries
pub journal_there : {D : Type 0} (providers : List (ProviderState D)) (screens : List (List Patterns)) (waiting : List Waiting)
    (number : ℕ) (one : ProviderState D) → slice_get providers number ≡ Some one
    → journal_at (sites_of providers screens waiting) number ≡ one.chronicle.entries
journal_there [] screens waiting number one is = absurd (none-some one is)
journal_there {D} (provider ∷ providers) screens waiting zero one is =
    ap (λ (p : ProviderState D). p.chronicle.entries) (same_Some provider one is)
journal_there (provider ∷ providers) screens waiting (suc number) one is =
    journal_there providers (behind_first screens) (behind_first waiting) number one is

pub interrupted_there : {D : Type 0} (providers : List (ProviderState D)) (screens : List (List Patterns))
    (waiting : List Waiting) (number : ℕ) (one : ProviderState D) → slice_get providers number ≡ Some one
    → interrupted_at (sites_of providers screens waiting) number ≡ one.chronicle.interrupted
interrupted_there [] screens waiting number one is = absurd (none-some one is)
interrupted_there {D} (provider ∷ providers) screens waiting zero one is =
    ap (λ (p : ProviderState D). p.chronicle.interrupted) (same_Some provider one is)
interrupted_there (provider ∷ providers) screens waiting (suc number) one is =
    interrupted_there providers (behind_first screens) (behind_first waiting) number one is

module _ {D : Type 0} (sight : D → Sight) (trade : Trade) (old new : List (ProviderState D))
    (screens : List (List Patterns)) (waiting : List Waiting)
    (goes : (journals : Journals) (me : ℕ) (list : List Entry) (interrupted : Option Entry) (image : List Entry)
    → GoesOn (MayFollow trade journals me) list interrupted image → GoesOnInLedger trade journals me list interrupted image)
    (carry : AllCarryOn sight trade (journals_of (sites_of old screens waiting)) old new) where
  module _ (number : ℕ) (was now : ProviderState D) (is : slice_get old number ≡ Some was)
      (then : slice_get new number ≡ Some now) where
    carries : CarriesOn sight (MayFollow trade (journals_of (sites_of old screens waiting)) number) was.chronicle now.chronicle
    carries =
        subst (λ (p : ProviderState D). CarriesOn sight (MayFollow trade (journals_of (sites_of old screens waiting)) number)
        p.chronicle now.chronicle) (get_or_from_slice_get old number was was is)
        (subst (λ (p : ProviderState D). CarriesOn sight (MayFollow trade (journals_of (sites_of old screens waiting)) number)
        (slice_index_or old number was).chronicle p.chronicle) (get_or_from_slice_get new number now was then)
        (carry number was (slice_get_within old number was is)))

    follow : (bytes : Bytes) → IsImage (MayFollow trade (journals_of (sites_of old screens waiting)) number) was.chronicle.entries
        was.chronicle.interrupted bytes → FollowsSo trade (sites_of old screens waiting) number bytes
    follow bytes image = (
      image.0,
      subst (λ (l : List Entry). GoesOnInLedger trade (journals_of (sites_of old screens waiting)) number l
          (interrupted_at (sites_of old screens waiting) number) image.0) (sym (journal_there old screens waiting number was is))
          (subst (λ (i : Option Entry). GoesOnInLedger trade (journals_of (sites_of old screens waiting)) number
          was.chronicle.entries i image.0) (sym (interrupted_there old screens waiting number was is))
          (goes (journals_of (sites_of old screens waiting)) number was.chronicle.entries was.chronicle.interrupted image.0 image.1)),
      image.2,
    )

    pub follows : Stands sight was.chronicle
        → Stands sight now.chronicle × LeavesOnly (sight was.chronicle.disk) (sight now.chronicle.disk)
        (FollowsSo trade (sites_of old screens waiting) number)
    follows stands = (
      carries.stands stands,
      weaker (sight was.chronicle.disk) (sight now.chronicle.disk)
          (IsImage (MayFollow trade (journals_of (sites_of old screens waiting)) number) was.chronicle.entries was.chronicle.interrupted)
          (FollowsSo trade (sites_of old screens waiting) number) (carries.images stands) follow,
    )

pub all_rest : {D : Type 0} (sight : D → Sight) (trade : Trade) (journals : Journals) (providers : List (ProviderState D))
    → ((state : ChronicleState D) → CarriesOn sight NothingMay state state)
    → AllCarryOn sight trade journals providers providers
all_rest sight trade journals providers rests number other within =
    let state = (get_or providers number other).chronicle in
    carries_nothing sight (MayFollow trade journals number) state state (rests state)
