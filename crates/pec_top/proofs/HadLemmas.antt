-- How a network began, in the words of a run: which journals were made or opened, and what came of the next disk.
use Rattle.std.proofs.Common.{◌≡◌, ℕ, zero, suc, ◌<◌, List, [], ◌∷◌, ◌++◌, ◌⊎◌, inl, inr, refl, ap, sym, subst, ◌∙◌}
use Rattle.std.proofs.Common.{arith, length, map, Option, Some}
use Rattle.std.specs.Prelude.{slice_get}
use Rattle.std.proofs.lemmas.List.{length-map}
use Rattle.std.proofs.lemmas.Option.{get_or_from_slice_get, none-some, same_Some, slice_get_within}
use Rattle.pec_types.specs.Bytes.{Bytes}
use Rattle.pec_outside.specs.DiskModel.{Sight, Stays}
use Rattle.pec_directory.specs.Directory.{Kept}
use Rattle.pec_records.specs.declared.entries.Entry.{Entry}
use Rattle.pec_ledger.specs.Network.{Site, chosen, interrupted_at, journal_at, site_at}
use Rattle.pec_ledger.specs.OfDirectory.{IsOf}
use Rattle.pec_ledger.specs.Trade.{Trade}
use Rattle.pec_serving.specs.OfNetworks.{ChronicleState, IsJournalOf, Stands}
use Rattle.pec_screen.specs.Verdicts.{Patterns}
use Rattle.pec_seal.specs.Seals.{Seals}
use Rattle.pec_serving.specs.OfNetworks.{AllBegun, Desk, IsAbout, IsBegun, IsLeft as LeftAt, IsRefused, IsUnchanged, IsUnfit, NotFit, ProviderState, Says, all_rested, all_rested_of, behind_first, first_of, journals_had, reopened_as, rested, trade_of}
use Rattle.pec_serving.specs.OfNetworks.reasons as reasons
use Rattle.pec_serving.specs.OfNetworks.{StartFault}
use Rattle.pec_serving.specs.OfNetworks.faults as faults
use Rattle.pec_runs.specs.Openings.{AreLeft, Disks, IsHad, IsLeft, IsNext, IsOpening, IsSpared, IsUntouched, Next, NoMore}
use Rattle.pec_runs.specs.Openings.{Stops, disks_at, fault_of, opened, opened_all}
use Rattle.pec_runs.specs.Openings as runs
use Rattle.pec_top.specs.Shown.{form_shown, unfit_of, way_of}
use Rattle.pec_top.specs.Opened.{next_by}
use Rattle.pec_top.specs.declared.forms.Form.{Form}
use Rattle.pec_top.specs.declared.forms.Form.TheVariants as forms
use Rattle.pec_top.proofs.RunningLemmas.{untouched_by, untouched_same}

-- ---- lists

-- what is at a place of a list that was mapped
pub at_place : {X Y : Type 0} (f : X → Y) (xs : List X) (k : ℕ) (y : Y) → slice_get (map f xs) k ≡ Some y
    → (x : X) × ((slice_get xs k ≡ Some x) × (f x ≡ y))
at_place f [] k y e = absurd (none-some y e)
at_place f (x ∷ xs) zero y e = (x, (refl, same_Some (f x) y e))
at_place f (x ∷ xs) (suc k) y e = at_place f xs k y e

-- the screens that the provider of a number has
abbrev pub screens_of : List (List Patterns) → ℕ → List Patterns
screens_of screens zero = first_of screens
screens_of screens (suc number) = screens_of (behind_first screens) number

pub opened_at : (trade : Trade) (screens : List (List Patterns)) (journals : List (List Entry)) (k : ℕ)
    (journal : List Entry) → slice_get journals k ≡ Some journal
    → site_at (opened_all trade screens journals) k ≡ opened trade (screens_of screens k) journal
opened_at trade screens [] k journal e = absurd (none-some journal e)
opened_at trade [] (j ∷ journals) zero journal e = ap (opened trade []) (same_Some j journal e)
opened_at trade [] (j ∷ journals) (suc k) journal e = opened_at trade [] journals k journal e
opened_at trade (boxes ∷ screens) (j ∷ journals) zero journal e = ap (opened trade boxes) (same_Some j journal e)
opened_at trade (boxes ∷ screens) (j ∷ journals) (suc k) journal e = opened_at trade screens journals k journal e

-- sites at rest are those of journals that were opened
rested_so : (trade : Trade) (count : ℕ) (screens : List (List Patterns)) (journals : List (List Entry))
    → count ≡ trade.providers → all_rested_of count screens journals ≡ opened_all trade screens journals
rested_so trade count screens [] e = refl
rested_so trade count [] (journal ∷ journals) e =
    ap (λ (n : ℕ). rested n [] journal ∷ all_rested_of count [] journals) e
    ∙ ap (λ (sites : List Site). opened trade [] journal ∷ sites) (rested_so trade count [] journals e)
rested_so trade count (boxes ∷ screens) (journal ∷ journals) e =
    ap (λ (n : ℕ). rested n boxes journal ∷ all_rested_of count screens journals) e
    ∙ ap (λ (sites : List Site). opened trade boxes journal ∷ sites) (rested_so trade count screens journals e)

-- the state as the network begins
pub begins_so : (trade : Trade) (screens : List (List Patterns)) (journals : List (List Entry)) (sites : List Site)
    → length journals ≡ trade.providers → sites ≡ all_rested screens journals → sites ≡ opened_all trade screens journals
begins_so trade screens journals sites count is = is ∙ rested_so trade (length journals) screens journals count

-- ---- reasons

same_reason : (why : NotFit) → reopened_as why ≡ fault_of (unfit_of why)
same_reason (reasons.Journal place) = refl
same_reason (reasons.OtherDirectory kept given) = refl
same_reason (reasons.BadEntry number) = refl

-- ---- disks

module _ {D : Type 0} (sight : D → Sight) where
  -- what a crash leaves of the disk on which a chronicle stands
  pub left_so : (sites : List Site) (k : ℕ) (state : ChronicleState D) → journal_at sites k ≡ state.entries
      → interrupted_at sites k ≡ state.interrupted → Stands sight state → (bytes : Bytes)
      → (sight state.disk).may_leave bytes → IsLeft sites k bytes
  left_so sites k state journal interrupted stands bytes leaves =
      let image = stands.images bytes leaves
      in (
        image.0,
        subst (λ (entries : List Entry). IsJournalOf (entries ++ chosen image.0 (interrupted_at sites k)) bytes)
            (sym journal)
            (subst (λ (entry : Option Entry). IsJournalOf (state.entries ++ chosen image.0 entry) bytes)
            (sym interrupted) image.1),
      )

module _ {D : Type 0} (tells reads : Type 0) (sight : D → Sight) (kept : List Kept) (seals : Seals)
    (of : IsOf kept (trade_of kept seals)) (home : ℕ → Option D) (form : Form) where
  abbrev World : Trade
  World = trade_of kept seals

  abbrev Old : Disks
  Old = disks_at (tells × reads) sight home

  abbrev Begun : List (ProviderState D) → Type 0
  Begun providers = AllBegun tells reads sight kept (way_of form) home providers

  -- ---- journals that were had

  had : (way : Form) (k : ℕ) (provider : ProviderState D)
      → IsBegun tells reads sight kept (way_of way) k (home k) provider
      → IsHad World Old (form_shown way) k provider.chronicle.entries
  had forms.Run k provider b = (
    b.journal,
    λ bytes read. sym read.1.2 ∙ b.held read.0.0 read.0.1 read.1.0 read.1.1,
  )
  had forms.Resume k provider b = (
    b.journal World of,
    λ bytes read. subst (IsJournalOf provider.chronicle.entries) read.1.2
        (b.held read.0.0 read.0.1 read.1.0 read.1.1),
  )

  -- the provider of a journal that was had
  begun_at : (providers : List (ProviderState D)) → Begun providers → (k : ℕ) (x : ProviderState D)
      → slice_get providers k ≡ Some x → IsBegun tells reads sight kept (way_of form) k (home k) x
  begun_at providers all k x e =
      subst (IsBegun tells reads sight kept (way_of form) k (home k)) (get_or_from_slice_get providers k x x e)
      (all k x (slice_get_within providers k x e))

  pub each_had : (providers : List (ProviderState D)) → Begun providers → (k : ℕ) (journal : List Entry)
      → slice_get (journals_had providers) k ≡ Some journal → IsHad World Old (form_shown form) k journal
  each_had providers all k journal e =
      let x = at_place (λ (p : ProviderState D). p.chronicle.entries) providers k journal e
      in subst (IsHad World Old (form_shown form) k) x.1.1 (had form k x.0 (begun_at providers all k x.0 x.1.0))

  -- ---- all journals were had

  pub opening_whole : (providers : List (ProviderState D)) → length providers ≡ length kept → Begun providers
      → IsOpening World Old (form_shown form) (record { journals = journals_had providers; next = NoMore })
  opening_whole providers count all =
      let size = length-map providers (λ (p : ProviderState D). p.chronicle.entries)
      in let many = length-map kept (λ (one : Kept). one.provider)
      in record {
        count = omega (arith, size, many, count);
        each = each_had providers all;
        next = size ∙ (count ∙ sym many);
      }

  -- ---- not all were had

  module _ (new : ℕ → Option D) (fault : StartFault)
      (refused : IsRefused tells reads sight kept (way_of form) home new fault) where
    abbrev Next_ : ℕ
    Next_ = length refused.providers

    says_so : (bytes : Bytes) → Old.reads Next_ bytes → Says kept Next_ bytes fault
    says_so bytes read =
        subst (λ (b : Bytes). Says kept Next_ b fault) read.1.2
        ((refused.next read.0.0 read.1.0 read.1.1).says read.0.1)

    -- it is a provider's disk that came to nothing
    below : Next_ < World.providers
    below =
        let many = length-map kept (λ (one : Kept). one.provider) in let few = refused.count in omega (arith, many, few)

    next_so : (way : Form) (why : StartFault) → IsAbout (way_of way) Next_ why
        → ((bytes : Bytes) → Old.reads Next_ bytes → Says kept Next_ bytes why)
        → IsNext World Old (form_shown way) Next_ (next_by why)
    next_so forms.Run (faults.NotEmpty number) about says = (refl, says, below)
    next_so forms.Run (faults.DiskFault number) about says = tt
    next_so forms.Run (faults.NotFit number why) about says = absurd about
    next_so forms.Run faults.NoMemory about says = tt
    next_so forms.Resume (faults.NotEmpty number) about says = absurd about
    next_so forms.Resume (faults.DiskFault number) about says = tt
    next_so forms.Resume (faults.NotFit number why) about says = (
      refl,
      λ bytes read. subst (IsUnfit World Next_ bytes) (same_reason why) ((says bytes read).unfit World of),
      below,
      λ bytes read list own is. (says bytes read).none World list of own is,
    )
    next_so forms.Resume faults.NoMemory about says = tt

    any_next : (next : Next) → (next ≡ next_by fault) ⊎ (next ≡ Stops)
        → IsNext World Old (form_shown form) Next_ next
    any_next next (inl e) =
        subst (IsNext World Old (form_shown form) Next_) (sym e) (next_so form fault refused.about says_so)
    any_next next (inr e) = subst (IsNext World Old (form_shown form) Next_) (sym e) tt

    abbrev Had : List (List Entry)
    Had = journals_had refused.providers

    size : length Had ≡ Next_
    size = length-map refused.providers (λ (p : ProviderState D). p.chronicle.entries)

    pub opening_part : (next : Next) → (next ≡ next_by fault) ⊎ (next ≡ Stops)
        → IsOpening World Old (form_shown form) (record { journals = Had; next = next })
    opening_part next which =
        let many = length-map kept (λ (one : Kept). one.provider)
        in let few = refused.count
        in record {
          count = let s = size in omega (arith, s, many, few);
          each = each_had refused.providers refused.begun;
          next = subst (λ (k : ℕ). IsNext World Old (form_shown form) k next) (sym size) (any_next next which);
        }

    -- the journals are on the disks again
    abbrev New : Disks
    New = disks_at (tells × reads) sight new

    module _ (screens : List (List Patterns)) (reads_so : reads → (disk : D) → (sight disk).may_leave (sight disk).seen)
      where
        had_left : (k : ℕ) → k < length Had → tells × reads → (disk : D) → new k ≡ Some disk → (bytes : Bytes)
            → (sight disk).may_leave bytes → IsLeft (opened_all World screens Had) k bytes
        had_left k within told disk is bytes leaves =
            let here : k < length refused.providers = omega (arith, size, within)
            in let there = slice_get_there refused.providers k here
            in let x = there.0
            in let begun = begun_at refused.providers refused.begun k x there.1
            in let at_home : new k ≡ Some x.chronicle.disk
            = refused.home told.0 k x here
            ∙ ap (λ (p : ProviderState D). Some p.chronicle.disk) (get_or_from_slice_get refused.providers k x x
            there.1)
            in let same : x.chronicle.disk ≡ disk = same_Some x.chronicle.disk disk (sym at_home ∙ is)
            in let site = opened_at World screens Had k x.chronicle.entries
            (slice_get_mapped (λ (p : ProviderState D). p.chronicle.entries) refused.providers k x there.1)
            in left_so sight (opened_all World screens Had) k x.chronicle (ap (λ (s : Site). s.journal) site)
            (ap (λ (s : Site). s.interrupted) site ∙ sym (ap (λ (d : Desk). d.interrupted) begun.desk)) (begun.stands
            told.1)
            bytes
            (subst (λ (d : D). (sight d).may_leave bytes) (sym same) leaves)
          where
            slice_get_there : {X : Type 0} (xs : List X) (k : ℕ) → k < length xs → (x : X) × (slice_get xs k ≡ Some x)
            slice_get_there [] k l = absurd (omega (arith, l))
            slice_get_there (x ∷ xs) zero l = (x, refl)
            slice_get_there (x ∷ xs) (suc k) l = slice_get_there xs k (omega (arith, l))

            slice_get_mapped : {X Y : Type 0} (f : X → Y) (xs : List X) (k : ℕ) (x : X) → slice_get xs k ≡ Some x
                → slice_get (map f xs) k ≡ Some (f x)
            slice_get_mapped f [] k x e = absurd (none-some x e)
            slice_get_mapped f (y ∷ xs) zero x e = ap (λ z. Some (f z)) (same_Some y x e)
            slice_get_mapped f (y ∷ xs) (suc k) x e = slice_get_mapped f xs k x e

        -- a disk that came to nothing is unchanged; but for an empty one on which a journal was being made
        next_left : (way : Form) (why : StartFault) (next : Next) → (next ≡ next_by why) ⊎ (next ≡ Stops)
            → (was now : Sight) → IsSpared (form_shown way) next was.seen → LeftAt (way_of way) why was now
            → Stays was now
        next_left forms.Run (faults.NotEmpty number) next which was now spared left = left
        next_left forms.Run (faults.DiskFault number) next (inl e) was now spared left =
            left (subst (λ (n : Next). IsSpared runs.Run n was.seen) e spared)
        next_left forms.Run (faults.DiskFault number) next (inr e) was now spared left =
            left (subst (λ (n : Next). IsSpared runs.Run n was.seen) e spared)
        next_left forms.Run (faults.NotFit number why) next which was now spared left = left
        next_left forms.Run faults.NoMemory next (inl e) was now spared left =
            left (subst (λ (n : Next). IsSpared runs.Run n was.seen) e spared)
        next_left forms.Run faults.NoMemory next (inr e) was now spared left =
            left (subst (λ (n : Next). IsSpared runs.Run n was.seen) e spared)
        next_left forms.Resume (faults.NotEmpty number) next which was now spared left = left
        next_left forms.Resume (faults.DiskFault number) next which was now spared left = left
        next_left forms.Resume (faults.NotFit number why) next which was now spared left = left
        next_left forms.Resume faults.NoMemory next which was now spared left = left

        next_untouched : (next : Next) → (next ≡ next_by fault) ⊎ (next ≡ Stops) → (was : Bytes)
            → Old.reads Next_ was → IsSpared (form_shown form) next was → IsUntouched Old New Next_ was
        next_untouched next which was old spared =
            let back = refused.next old.0.0 old.1.0 old.1.1
            in let same = next_left form fault next which (sight old.1.0) (sight back.now)
            (subst (IsSpared (form_shown form) next) (sym old.1.2) spared) (back.left old.0.1)
            in untouched_by (tells × reads) sight home new Next_ was old (λ now is.
            subst (λ (d : D). IsUnchanged (sight old.1.0) (sight d)) (same_Some back.now now (sym back.is ∙ is))
            (record { seen = same.seen; crash = same.crash }))

        pub left_part : (next : Next) → (next ≡ next_by fault) ⊎ (next ≡ Stops)
            → AreLeft Old New (form_shown form) (record { journals = Had; next = next }) (opened_all World screens Had)
        left_part next which = record {
          reads = λ k within bytes read.
              subst (IsLeft (opened_all World screens Had) k) read.1.2
              (had_left k within read.0 read.1.0 read.1.1 (sight read.1.0).seen (reads_so read.0.1 read.1.0));
          crash = λ k within bytes leaves.
              had_left k within leaves.0 leaves.1.0 leaves.1.1 bytes leaves.1.2;
          next = λ was old spared.
              subst (λ (k : ℕ). IsUntouched Old New k was) (sym size)
              (next_untouched next which was (subst (λ (k : ℕ). Old.reads k was) size old) spared);
          others = λ k far was old.
              untouched_same (tells × reads) sight home new k was old
              (λ told. refused.behind told.0.0 k (omega (arith, size, far)));
        }
