-- What becomes of a network where one provider changes.
use Rattle.std.proofs.Common.{◌≡◌, ℕ, ◌<◌, ◌≤◌, List, [], length, get_or, set, ap, sym, subst, ◌∙◌, arith, inl, inr, Ok, Err}
use Rattle.std.specs.Prelude.{Result}
use Rattle.std.proofs.lemmas.Bool.{cases_eq}
use Rattle.std.proofs.lemmas.List.{get_or-set_other, get_or-set_same, length-set}
use Rattle.pec_types.specs.declared.turns.ProviderFault.{ProviderFault}
use Rattle.pec_types.specs.declared.turns.ProviderFault.TheVariants as faults
use Rattle.pec_outside.specs.DiskModel.{Sight}
use Rattle.pec_directory.specs.Directory.{Kept}
use Rattle.pec_ledger.specs.Ledger.{Journals}
use Rattle.pec_ledger.specs.Network.{Site, site_at}
use Rattle.pec_ledger.specs.Trade.{Trade}
use Rattle.pec_plays.specs.Commands.{Answer, Luck, Played, with_site}
use Rattle.pec_posts.specs.Arrivals.{Waiting, waiting_for}
use Rattle.pec_chronicle.specs.Carrying.{CarriesOn, NothingMay}
use Rattle.pec_chronicle.specs.CarryingLaws.{carries_nothing}
use Rattle.pec_chronicle.specs.Chronicle.{ChronicleState}
use Rattle.pec_provider.specs.Following.{MayFollow}
use Rattle.pec_provider.specs.Playing.{PlaysOn}
use Rattle.pec_provider.specs.Provider.{ProviderState, Runs}
use Rattle.pec_seal.specs.Seals.{Seals}
use Rattle.pec_network.specs.Carrying.{AllCarryOn, NoneFalls}
use Rattle.pec_network.specs.Network.{IsOfDirectory}
use Rattle.pec_network.specs.Playing.{IsPlayed}
use Rattle.pec_network.proofs.SiteLemmas.{site_again}

-- ---- commands

stays : (all new : List Site) (me : ℕ) (site : Site) → new ≡ with_site all me site → site ≡ site_at all me → new ≡ all
stays all new me site next same = next ∙ ap (λ (s : Site). with_site all me s) same ∙ site_again all me

pub played_so : {X : Type 0} (tells : X → Answer) (play : Luck → Played) (all new : List Site) (me : ℕ) (site : Site) (r : Result X ProviderFault)
    → new ≡ with_site all me site → PlaysOn tells play all me site r → IsPlayed tells play all new r
played_so tells play all new me site (Ok x) next plays = rw next plays
played_so tells play all new me site (Err faults.DiskFault) next plays = rw next plays
played_so tells play all new me site (Err faults.NoMemory) next same = stays all new me site next same
played_so tells play all new me site (Err faults.Down) next plays = (plays.0, stays all new me site next plays.1)
played_so tells play all new me site (Err (faults.ClockBack moment)) next plays = (plays.0, stays all new me site next plays.1)
played_so tells play all new me site (Err faults.NoAccount) next plays = (plays.0, stays all new me site next plays.1)
played_so tells play all new me site (Err faults.Full) next plays = (plays.0, stays all new me site next plays.1)
played_so tells play all new me site (Err faults.NoItem) next plays = (plays.0, stays all new me site next plays.1)
played_so tells play all new me site (Err (faults.Changed which)) next plays = (plays.0, stays all new me site next plays.1)
played_so tells play all new me site (Err faults.JournalFull) next plays = (plays.0, stays all new me site next plays.1)
played_so tells play all new me site (Err faults.OldJournal) next plays = (plays.0, stays all new me site next plays.1)
played_so tells play all new me site (Err faults.NoNeed) next plays = (plays.0, stays all new me site next plays.1)

-- ---- disks

module _ {D : Type 0} (old : List (ProviderState D)) (number : ℕ) (new : ProviderState D) (within : number < length old) where
  pub carries_at : (sight : D → Sight) (trade : Trade) (journals : Journals) → ((state : ChronicleState D) → CarriesOn sight NothingMay state state)
      → ((other : ProviderState D) → CarriesOn sight (MayFollow trade journals number) (get_or old number other).chronicle new.chronicle)
      → AllCarryOn sight trade journals old (set old number new)
  carries_at sight trade journals rests carries = λ k other l.
      elim (cases_eq k number) [
        | inl same ↦
            subst (λ (n : ℕ). CarriesOn sight (MayFollow trade journals n) (get_or old n other).chronicle (get_or (set old number new) n other).chronicle) (sym same)
            (subst (λ (p : ProviderState D). CarriesOn sight (MayFollow trade journals number) (get_or old number other).chronicle p.chronicle)
            (sym (get_or-set_same old number new other within)) (carries other))
        | inr differs ↦
            subst (λ (p : ProviderState D). CarriesOn sight (MayFollow trade journals k) (get_or old k other).chronicle p.chronicle)
            (sym (get_or-set_other old number k new other differs))
            (carries_nothing sight (MayFollow trade journals k) (get_or old k other).chronicle (get_or old k other).chronicle (rests (get_or old k other).chronicle))
      ]

  pub falls_at : (count : D → ℕ) → ((other : ProviderState D) → count (get_or old number other).chronicle.disk ≤ count new.chronicle.disk)
      → NoneFalls count old (set old number new)
  falls_at count later = λ k other l.
      elim (cases_eq k number) [
        | inl same ↦
            subst (λ (n : ℕ). count (get_or old n other).chronicle.disk ≤ count (get_or (set old number new) n other).chronicle.disk) (sym same)
            (subst (λ (p : ProviderState D). count (get_or old number other).chronicle.disk ≤ count p.chronicle.disk)
            (sym (get_or-set_same old number new other within)) (later other))
        | inr differs ↦
            subst (λ (p : ProviderState D). count (get_or old k other).chronicle.disk ≤ count p.chronicle.disk)
            (sym (get_or-set_other old number k new other differs)) (omega arith)
      ]

  -- they are the directory's as before
  pub whole_at : {seals : Seals} (kept : List Kept) (waiting : List Waiting) → IsOfDirectory kept seals old waiting → Runs kept seals number new → new.owed ≡ []
      → IsOfDirectory kept seals (set old number new) waiting
  whole_at {seals} kept waiting whole runs owed = record {
    fits = whole.fits;
    count = length-set old number new ∙ whole.count;
    links = whole.links;
    senders = whole.senders;
    runs = λ k other l.
        elim (cases_eq k number) [
          | inl same ↦ subst (λ (n : ℕ). Runs kept seals n (get_or (set old number new) n other)) (sym same)
              (subst (λ (p : ProviderState D). Runs kept seals number p) (sym (get_or-set_same old number new other within)) runs)
          | inr differs ↦ subst (λ (p : ProviderState D). Runs kept seals k p) (sym (get_or-set_other old number k new other differs))
              (whole.runs k other (let e = length-set old number new in omega arith))
        ];
    nothing_owed = λ k other l.
        elim (cases_eq k number) [
          | inl same ↦ ap (λ (n : ℕ). (get_or (set old number new) n other).owed) same
              ∙ ap (λ (p : ProviderState D). p.owed) (get_or-set_same old number new other within) ∙ owed
          | inr differs ↦ ap (λ (p : ProviderState D). p.owed) (get_or-set_other old number k new other differs)
              ∙ whole.nothing_owed k other (let e = length-set old number new in omega arith)
        ];
  }

-- other frames wait, on as many links
pub whole_with : {D : Type 0} {seals : Seals} (kept : List Kept) (providers : List (ProviderState D)) (waiting : List Waiting) (to : ℕ) (links : Waiting)
    → IsOfDirectory kept seals providers waiting → to < length waiting → length links ≡ length (waiting_for waiting to)
    → IsOfDirectory kept seals providers (set waiting to links)
whole_with kept providers waiting to links whole within same = record {
  fits = whole.fits;
  count = whole.count;
  links = length-set waiting to links ∙ whole.links;
  senders = λ k l.
      elim (cases_eq k to) [
        | inl here ↦ ap (λ (n : ℕ). length (waiting_for (set waiting to links) n)) here
            ∙ ap (λ (w : Waiting). length w) (get_or-set_same waiting to links [] within) ∙ same ∙ whole.senders to within
        | inr other ↦ ap (λ (w : Waiting). length w) (get_or-set_other waiting to k links [] other)
            ∙ whole.senders k (let e = length-set waiting to links in omega arith)
      ];
  runs = whole.runs;
  nothing_owed = whole.nothing_owed;
}
