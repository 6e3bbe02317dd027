-- What each disk went through while a network had its journals, or had not all of them: looked at, then opened or made, then
-- looked at again.
use Rattle.std.proofs.Common.{◌≡◌, ℕ, ◌<◌, ◌≤◌, ◌⊎◌, inl, inr, List, [], ◌∷◌, refl, ap, sym, subst, ◌∙◌, arith, length}
use Rattle.std.proofs.Common.{get_or, Option, Some, None}
use Rattle.std.specs.Prelude.{option_map, slice_get}
use Rattle.std.proofs.lemmas.Bool.{cases_eq, cases_lt}
use Rattle.std.proofs.lemmas.Option.{get_or_from_slice_get, none-some, same_Some, slice_get_within}
use Rattle.pec_types.specs.Bytes.{Bytes}
use Rattle.pec_outside.specs.DiskModel.{GrowsTo, IsAtMost, Sight, Stays}
use Rattle.pec_outside.specs.Moments.{and_then, stays_and, weaker}
use Rattle.pec_directory.specs.Directory.{Kept}
use Rattle.pec_ledger.specs.Trade.{Trade}
use Rattle.pec_seal.specs.Seals.{Seals}
use Rattle.pec_serving.specs.OfNetworks.{AllBegun, ChronicleState, IsBegun, IsLeft as LeftAt, IsRefused, ProviderState}
use Rattle.pec_serving.specs.OfNetworks.{StartFault, trade_of}
use Rattle.pec_serving.specs.OfNetworks.faults as faults
use Rattle.pec_serving.specs.OfNetworks.ways as ways
use Rattle.pec_runs.specs.Openings as runs
use Rattle.pec_runs.specs.Through.{AreHadFrom, IsHadFrom, Made, Same, Still, size_begun}
use Rattle.pec_top.specs.Opened.{disks_of}
use Rattle.pec_top.specs.Shown.{form_shown, way_of}
use Rattle.pec_top.specs.Surveys.{AreAsTheyWere, IsAsBefore, IsStill}
use Rattle.pec_top.specs.declared.forms.Form.{Form}
use Rattle.pec_top.specs.declared.forms.Form.TheVariants as forms
use Rattle.pec_top.proofs.RestLemmas.{still_before}

-- ---- looked at before and behind

module _ {D : Type 0} (reads : Type 0) (sight : D → Sight)
    (counts_now : (disk : D) (t : ℕ) (bytes : Bytes) → t ≤ (sight disk).moment → (sight disk).may_leave bytes
    → (sight disk).left_since t bytes) (form : runs.Form) (size : ℕ) where
  grown_since : (a b c : D) → Stays (sight a) (sight b) → GrowsTo size (sight b) (sight c)
      → GrowsTo size (sight a) (sight c)
  grown_since a b c stays grows = λ most room within.
      and_then (sight a) (sight b) (sight c) (IsAtMost most)
      (weaker (sight a) (sight b) (sight a).may_leave (IsAtMost most) stays.moments within)
      (grows most room (λ image leaves. within image (stays.crash image leaves)))

  grown_until : (a b c : D) → GrowsTo size (sight a) (sight b) → Stays (sight b) (sight c)
      → GrowsTo size (sight a) (sight c)
  grown_until a b c grows stays = λ most room within.
      let first = grows most room within in
      and_then (sight a) (sight b) (sight c) (IsAtMost most) first
      (weaker (sight b) (sight c) (sight b).may_leave (IsAtMost most) stays.moments
      (λ image leaves. first.each image (counts_now b (sight a).moment image first.later leaves)))

  had_since : (a b c : D) → IsStill reads sight a b → IsHadFrom sight form size b c → IsHadFrom sight form size a c
  had_since a b c (inl same) had = subst (λ (d : D). IsHadFrom sight form size d c) same had
  had_since a b c (inr stays) (Same same) = Still (subst (λ (d : D). Stays (sight a) (sight d)) (sym same) stays)
  had_since a b c (inr stays) (Still more) = Still (stays_and (sight a) (sight b) (sight c) stays more)
  had_since a b c (inr stays) (Made run none grows) =
      Made run (sym stays.seen ∙ none) (grown_since a b c stays grows)

  had_until : (a b c : D) → IsHadFrom sight form size a b → IsStill reads sight b c → IsHadFrom sight form size a c
  had_until a b c had (inl same) = subst (λ (d : D). IsHadFrom sight form size a d) (sym same) had
  had_until a b c (Same same) (inr stays) = Still (subst (λ (d : D). Stays (sight d) (sight c)) same stays)
  had_until a b c (Still more) (inr stays) = Still (stays_and (sight a) (sight b) (sight c) more stays)
  had_until a b c (Made run none grows) (inr stays) = Made run none (grown_until a b c grows stays)

module _ {D : Type 0} (home_tells reads : Type 0) (sight : D → Sight)
    (counts_now : reads → (disk : D) (t : ℕ) (bytes : Bytes) → t ≤ (sight disk).moment → (sight disk).may_leave bytes
    → (sight disk).left_since t bytes) (form : runs.Form) (trade : Trade) where
  abbrev Had : (old new : ℕ → Option D) → Type 0
  Had old new = AreHadFrom sight (home_tells × reads) form trade old new

  -- looked at before
  pub all_since : (home looked new : ℕ → Option D) → (home_tells → AreAsTheyWere reads sight home looked)
      → Had looked new → Had home new
  all_since home looked new rest had = λ told k was now before behind.
      let at = subst (λ (o : Option D). IsAsBefore reads sight o (looked k)) before (rest told.0 k) in
      had_since reads sight (counts_now told.1) form (size_begun trade k) was at.0 now (at.2 told.1)
      (had told k at.0 now at.1 behind)

  -- looked at behind
  pub all_until : (home mid new : ℕ → Option D) → (home_tells → AreAsTheyWere reads sight mid new)
      → Had home mid → Had home new
  all_until home mid new rest had = λ told k was now before behind.
      let b = still_before home_tells reads sight mid new rest k now told.0 behind in
      had_until reads sight (counts_now told.1) form (size_begun trade k) was b.0 now (had told k was b.0 before b.1)
      (b.2 told.1)

-- no disk was asked for
pub had_none : {D : Type 0} (tells : Type 0) (sight : D → Sight) (form : runs.Form) (trade : Trade) (home : ℕ → Option D)
    → AreHadFrom sight tells form trade home home
had_none tells sight form trade home = λ told k was now before behind. Same (same_Some now was (sym behind ∙ before))

-- disks were looked at, and no more
pub had_rest : {D : Type 0} (home_tells reads : Type 0) (sight : D → Sight) (form : runs.Form) (trade : Trade)
    (home new : ℕ → Option D) → (home_tells → AreAsTheyWere reads sight home new)
    → AreHadFrom sight (home_tells × reads) form trade home new
had_rest {D} home_tells reads sight form trade home new rest = λ told k was now before behind.
    let b = still_before home_tells reads sight home new rest k now told.0 behind in
    by_still (size_begun trade k) was now
    (subst (λ (d : D). IsStill reads sight d now) (same_Some b.0 was (sym b.1 ∙ before)) (b.2 told.1))
  where
    by_still : (size : ℕ) (was now : D) → IsStill reads sight was now → IsHadFrom sight form size was now
    by_still size was now (inl same) = Same same
    by_still size was now (inr stays) = Still stays

-- ---- all are had

-- the provider of a number whose disk this is
pub disk_at : {D : Type 0} (found : Option (ProviderState D)) (disk : D)
    → option_map (λ (one : ChronicleState D). one.disk) (option_map (λ (p : ProviderState D). p.chronicle) found)
    ≡ Some disk
    → (x : ProviderState D) × (found ≡ Some x) × (x.chronicle.disk ≡ disk)
disk_at None disk e = absurd (none-some disk e)
disk_at (Some x) disk e = (x, refl, same_Some x.chronicle.disk disk e)

module _ {D : Type 0} (home_tells reads : Type 0) (sight : D → Sight) (kept : List Kept) (seals : Seals)
    (home : ℕ → Option D) where
  -- one that has begun
  begun_had : (way : Form) (k : ℕ) (x : ProviderState D)
      → IsBegun home_tells reads sight kept (way_of way) k (home k) x → home_tells × reads → (was : D)
      → home k ≡ Some was
      → IsHadFrom sight (form_shown way) (size_begun (trade_of kept seals) k) was x.chronicle.disk
  begun_had forms.Run k x begun told was before =
      Made refl (begun.held told.0 told.1 was before) (begun.moments told.0 told.1 was before)
  begun_had forms.Resume k x begun told was before = Still (begun.moments told.0 told.1 was before)

  begun_at : (way : Form) (providers : List (ProviderState D))
      → AllBegun home_tells reads sight kept (way_of way) home providers → (k : ℕ) (x : ProviderState D)
      → slice_get providers k ≡ Some x → IsBegun home_tells reads sight kept (way_of way) k (home k) x
  begun_at way providers all k x e =
      subst (IsBegun home_tells reads sight kept (way_of way) k (home k)) (get_or_from_slice_get providers k x x e)
      (all k x (slice_get_within providers k x e))

  pub all_begun : (way : Form) (providers : List (ProviderState D))
      → AllBegun home_tells reads sight kept (way_of way) home providers
      → AreHadFrom sight (home_tells × reads) (form_shown way) (trade_of kept seals) home (disks_of providers)
  all_begun way providers all = λ told k was now before behind.
      let x = disk_at (slice_get providers k) now behind in
      subst (λ (d : D). IsHadFrom sight (form_shown way) (size_begun (trade_of kept seals) k) was d) x.2
      (begun_had way k x.0 (begun_at way providers all k x.0 x.1) told was before)

  -- ---- not all are had

  abbrev size : ℕ → ℕ
  size k = size_begun (trade_of kept seals) k

  -- a disk on which a journal was to be made, and that comes back
  back_empty : (fault : StartFault) (k : ℕ) (was now : D) → (bytes : Bytes) → (sight was).seen ≡ bytes
      → LeftAt ways.Make fault (sight was) (sight now) → GrowsTo (size k) (sight was) (sight now)
      → IsHadFrom sight runs.Run (size k) was now
  back_empty fault k was now [] is left grows = Made refl is grows
  back_empty fault k was now (b ∷ bytes) is left grows = Still (unwritten fault left)
    where
      some : 0 < length (sight was).seen
      some = let e = ap (λ (s : Bytes). length s) is in omega (arith, e)

      unwritten : (why : StartFault) → LeftAt ways.Make why (sight was) (sight now) → Stays (sight was) (sight now)
      unwritten (faults.NotEmpty number) left = left
      unwritten (faults.DiskFault number) left = left some
      unwritten (faults.NotFit number why) left = left
      unwritten faults.NoMemory left = left some

  next_had : (way : Form) (new : ℕ → Option D) (fault : StartFault)
      (refused : IsRefused home_tells reads sight kept (way_of way) home new fault) → home_tells × reads
      → (was now : D) → home (length refused.providers) ≡ Some was → new (length refused.providers) ≡ Some now
      → IsHadFrom sight (form_shown way) (size (length refused.providers)) was now
  next_had forms.Run new fault refused told was now before behind =
      let back = refused.next told.0 was before in
      subst (λ (d : D). IsHadFrom sight runs.Run (size (length refused.providers)) was d)
      (same_Some back.now now (sym back.is ∙ behind))
      (back_empty fault (length refused.providers) was back.now (sight was).seen refl (back.left told.1)
      (back.moments told.1))
  next_had forms.Resume new fault refused told was now before behind =
      let back = refused.next told.0 was before in
      subst (λ (d : D). IsHadFrom sight runs.Resume (size (length refused.providers)) was d)
      (same_Some back.now now (sym back.is ∙ behind)) (Still (back.moments told.1))

  module _ (way : Form) (new : ℕ → Option D) (fault : StartFault)
      (refused : IsRefused home_tells reads sight kept (way_of way) home new fault) (told : home_tells × reads) (k : ℕ)
      (was now : D) (before : home k ≡ Some was) (behind : new k ≡ Some now) where
    abbrev me : ℕ
    me = length refused.providers

    abbrev HadAt : D → Type 0
    HadAt disk = IsHadFrom sight (form_shown way) (size k) was disk

    some_of : (xs : List (ProviderState D)) → k < length xs → ProviderState D
    some_of [] l = absurd (omega (arith, l))
    some_of (x ∷ xs) l = x

    had_within : k < me → HadAt now
    had_within l =
        let other = some_of refused.providers l in
        let x = get_or refused.providers k other in
        subst HadAt (same_Some x.chronicle.disk now (sym (refused.home told.0 k other l) ∙ behind))
        (begun_had way k x (refused.begun k other l) told was before)

    had_next : k ≡ me → HadAt now
    had_next same =
        subst (λ (n : ℕ). IsHadFrom sight (form_shown way) (size n) was now) (sym same)
        (next_had way new fault refused told was now (ap home (sym same) ∙ before) (ap new (sym same) ∙ behind))

    had_past : me < k → HadAt now
    had_past l = Same (same_Some now was (sym behind ∙ (refused.behind told.0 k l ∙ before)))

    had_by : (k ≡ me) ⊎ (k ≡ me → ⊥) → me ≤ k → HadAt now
    had_by (inl same) l = had_next same
    had_by (inr differs) l = had_past (let d = differs in omega (arith, l, d))

    had_at : (k < me) ⊎ (me ≤ k) → HadAt now
    had_at (inl l) = had_within l
    had_at (inr l) = had_by (cases_eq k me) l

  pub all_refused : (way : Form) (new : ℕ → Option D) (fault : StartFault)
      → IsRefused home_tells reads sight kept (way_of way) home new fault
      → AreHadFrom sight (home_tells × reads) (form_shown way) (trade_of kept seals) home new
  all_refused way new fault refused = λ told k was now before behind.
      had_at way new fault refused told k was now before behind (cases_lt k (length refused.providers))
