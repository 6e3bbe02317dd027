-- What follows a provider's entries follows in the sense of the ledger.
use Rattle.std.proofs.Common.{◌≡◌, ℕ, ◌<◌, ◌≤◌, List, [], ◌∷◌, ◌++◌, length, sym, subst, Option, Some}
use Rattle.std.specs.Prelude.{IsTrue}
use Rattle.std.proofs.lemmas.List.Sums.{fold-append}
use Rattle.std.proofs.lemmas.Option.{same_Some}
use Rattle.pec_types.specs.Bytes.{Bytes}
use Rattle.pec_types.specs.declared.moments.TheConstants.{END_OF_TIME}
use Rattle.pec_outside.specs.DiskModel.{Sight}
use Rattle.pec_records.specs.declared.entries.Entry.{Entry}
use Rattle.pec_records.specs.declared.entries.Entry.TheVariants as entries
use Rattle.pec_ledger.specs.Half.{Half, empty}
use Rattle.pec_ledger.specs.Ledger.{Follows, Journals, Meets}
use Rattle.pec_ledger.specs.Lookups.{mailbox}
use Rattle.pec_ledger.specs.Network.{chosen, GoesOn as GoesOnInLedger}
use Rattle.pec_ledger.specs.Steps.{half, step}
use Rattle.pec_ledger.specs.Trade.{Trade}
use Rattle.pec_chronicle.specs.Carrying.{AllFollow, CarriesOn, GoesOn, NothingMay, with_entry}
use Rattle.pec_chronicle.specs.CarryingLaws.{carries_nothing, carries_wider}
use Rattle.pec_chronicle.specs.Chronicle.{ChronicleState}
use Rattle.pec_stock.specs.Entering.{OnlyMay}
use Rattle.pec_provider.specs.Following.{MayFollow}
use Rattle.pec_provider.specs.Provider.{ProviderState}

half_push : (trade : Trade) (me : ℕ) (list : List Entry) (entry : Entry)
    → half trade me (with_entry list entry) ≡ step trade me (half trade me list) entry
unfolding half
half_push trade me list entry = fold-append (step trade me) empty list (entry ∷ [])

all_follow : (trade : Trade) (journals : Journals) (me : ℕ) (list further : List Entry)
    → AllFollow (MayFollow trade journals me) list further
    → Follows trade journals me (half trade me list) further
all_follow trade journals me list [] follow = tt
all_follow trade journals me list (e ∷ es) follow = (
  follow.0,
  subst (λ (h : Half). Follows trade journals me h es) (half_push trade me list e)
      (all_follow trade journals me (with_entry list e) es follow.1),
)

pub goes_on : (trade : Trade) (journals : Journals) (me : ℕ) (old : List Entry) (interrupted : Option Entry)
    (list : List Entry)
    → GoesOn (MayFollow trade journals me) old interrupted list → GoesOnInLedger trade journals me old interrupted list
goes_on trade journals me old interrupted list goes = record {
  choice = goes.choice;
  further = goes.further;
  is = goes.is;
  follows = all_follow trade journals me (old ++ chosen goes.choice interrupted) goes.further goes.follow;
}

module _ {D : Type 0} (sight : D → Sight) (trade : Trade) (journals : Journals) (me : ℕ) (old new : ChronicleState D)
  where
    -- an entry that may follow was appended, or its append failed
    pub carries_entry : (entry : Entry) → Meets trade journals me (half trade me old.entries) entry
        → CarriesOn sight (OnlyMay old.entries (Some entry)) old new
        → CarriesOn sight (MayFollow trade journals me) old new
    carries_entry entry meets = carries_wider sight (OnlyMay old.entries (Some entry)) (MayFollow trade journals me)
        (λ list e is. subst (λ (l : List Entry). Meets trade journals me (half trade me l) e) (sym is.0)
        (subst (λ (x : Entry). Meets trade journals me (half trade me old.entries) x) (same_Some entry e is.1) meets))
        old new

    -- so where there was an entry at all
    pub carries_any : (entry : Option Entry)
        → ((e : Entry) → entry ≡ Some e → Meets trade journals me (half trade me old.entries) e)
        → CarriesOn sight (OnlyMay old.entries entry) old new → CarriesOn sight (MayFollow trade journals me) old new
    carries_any entry meets = carries_wider sight (OnlyMay old.entries entry) (MayFollow trade journals me)
        (λ list e is. subst (λ (l : List Entry). Meets trade journals me (half trade me l) e) (sym is.0) (meets e is.1))
        old new

    -- no entry came
    pub carries_none : CarriesOn sight NothingMay old new → CarriesOn sight (MayFollow trade journals me) old new
    carries_none = carries_nothing sight (MayFollow trade journals me) old new

-- a provider that isn't touched
pub carries_still : {D : Type 0} (sight : D → Sight) (trade : Trade) (journals : Journals) (me : ℕ)
    (inside old : ProviderState D) → inside ≡ old
    → CarriesOn sight NothingMay inside.chronicle inside.chronicle
    → CarriesOn sight (MayFollow trade journals me) old.chronicle old.chronicle
carries_still {D} sight trade journals me inside old view still =
    subst (λ (p : ProviderState D). CarriesOn sight (MayFollow trade journals me) p.chronicle p.chronicle) view
    (carries_none sight trade journals me inside.chronicle inside.chronicle still)

-- so where an entry might have come
pub only_still : {D : Type 0} (sight : D → Sight) (entry : Option Entry) (inside old : ProviderState D) → inside ≡ old
    → CarriesOn sight NothingMay inside.chronicle inside.chronicle
    → CarriesOn sight (OnlyMay old.chronicle.entries entry) old.chronicle old.chronicle
only_still {D} sight entry inside old view still =
    subst (λ (p : ProviderState D). CarriesOn sight (OnlyMay p.chronicle.entries entry) p.chronicle p.chronicle) view
    (carries_nothing sight (OnlyMay inside.chronicle.entries entry) inside.chronicle inside.chronicle still)

pub only_inside : {D : Type 0} (sight : D → Sight) (entry : Option Entry) (inside old : ProviderState D) → inside ≡ old
    → CarriesOn sight NothingMay inside.chronicle inside.chronicle
    → CarriesOn sight (OnlyMay old.chronicle.entries entry) old.chronicle inside.chronicle
only_inside {D} sight entry inside old view still =
    subst (λ (p : ProviderState D). CarriesOn sight (OnlyMay p.chronicle.entries entry) p.chronicle inside.chronicle)
    view
    (carries_nothing sight (OnlyMay inside.chronicle.entries entry) inside.chronicle inside.chronicle still)

-- ---- archives, and journals of version 2

-- an item that is archived may follow in the ledger of any journals
pub archived_follows : (trade : Trade) (journals : Journals) (me now : ℕ) (list : List Entry)
    → (half trade me list).last ≤ now → now < END_OF_TIME → (account : Bytes) (place : ℕ)
    → (half trade me list).version ≡ 2 → IsTrue (trade.is_account me account)
    → place < length (mailbox (half trade me list) account)
    → Meets trade journals me (half trade me list) (entries.Archived now account place)
archived_follows trade journals me now list late below account place version own item =
    record { own = (version, own, item); in_time = late; in_range = below; joint = tt }

-- so may a journal that is raised
pub upgraded_follows : (trade : Trade) (journals : Journals) (me now : ℕ) (list : List Entry)
    → (half trade me list).last ≤ now → now < END_OF_TIME → (half trade me list).version ≡ 1
    → Meets trade journals me (half trade me list) (entries.Upgraded now)
upgraded_follows trade journals me now list late below version =
    record { own = version; in_time = late; in_range = below; joint = tt }
