-- Disks that were looked at: each reads as it did, and a crash leaves nothing else.
use Rattle.std.proofs.Common.{◌≡◌, ◌≢◌, ℕ, ◌+◌, ◌<◌, ◌≤◌, ◌⊎◌, inl, inr, Bool, false, List, [], ap, arith, refl, sym, subst, ◌∙◌, Option, Some, None}
use Rattle.std.proofs.lemmas.Bool.{cases_lt}
use Rattle.std.proofs.lemmas.Option.{none-some, same_Some}
use Rattle.pec_types.specs.Bytes.{Bytes}
use Rattle.pec_outside.specs.DiskModel.{Sight, Stays}
use Rattle.pec_outside.specs.Moments.{stays_and}
use Rattle.pec_records.specs.declared.entries.Entry.{Entry}
use Rattle.pec_ledger.specs.Network.{Site}
use Rattle.pec_ledger.specs.Trade.{Trade}
use Rattle.pec_serving.specs.OfNetworks.{IsUnchanged}
use Rattle.pec_runs.specs.Openings.{AreLeft, AreUntouched, Disks, Form, Run, Resume, IsHad, IsNext, IsOpening, IsUntouched, Next, NoMore, Holds, Unfits, Fails, Stops, Opening, disks_at, next_of}
use Rattle.pec_top.specs.Surveys.{AreAsTheyWere, HoldsSo, IsAsBefore, IsStill}
use Rattle.pec_top.proofs.RunningLemmas.{untouched_by}

module _ {D : Type 0} (reads : Type 0) (sight : D → Sight) where
  pub still_on : (a b c : D) → IsStill reads sight a b → IsStill reads sight b c → IsStill reads sight a c
  still_on a b c (inl same) other = subst (λ (d : D). IsStill reads sight d c) same other
  still_on a b c (inr stays) (inl same) = inr (subst (λ (d : D). Stays (sight a) (sight d)) (sym same) stays)
  still_on a b c (inr stays) (inr other) = inr (stays_and (sight a) (sight b) (sight c) stays other)

  pub unchanged : (a b : D) → IsStill reads sight a b → IsUnchanged (sight a) (sight b)
  unchanged a b (inl same) = record {
    seen = ap (λ (d : D). (sight d).seen) same;
    crash = λ image leaves. subst (λ (d : D). (sight d).may_leave image) same leaves;
  }
  unchanged a b (inr stays) = record { seen = stays.seen; crash = stays.crash }

  pub rest_none : (home : ℕ → Option D) → AreAsTheyWere reads sight home home
  rest_none home k = so (home k)
    where
      so : (here : Option D) → IsAsBefore reads sight here here
      so None = refl
      so (Some disk) = (disk, refl, λ told. inl refl)

  pub rest_on : (old mid new : ℕ → Option D) → AreAsTheyWere reads sight old mid → AreAsTheyWere reads sight mid new
      → AreAsTheyWere reads sight old new
  rest_on old mid new first second k = so (old k) (mid k) (new k) (first k) (second k)
    where
      so : (a b c : Option D) → IsAsBefore reads sight a b → IsAsBefore reads sight b c → IsAsBefore reads sight a c
      so None b c f s = subst (λ (o : Option D). IsAsBefore reads sight o c) f s
      so (Some was) b c f s =
          let x = subst (λ (o : Option D). IsAsBefore reads sight o c) f.1 s in (
            x.0,
            x.1,
            λ told. still_on was f.0 x.0 (f.2 told) (x.2 told),
          )

module _ {D : Type 0} (home_tells reads : Type 0) (sight : D → Sight) (old new : ℕ → Option D)
    (rest : home_tells → AreAsTheyWere reads sight old new) where
  abbrev Old : Disks
  Old = disks_at (home_tells × reads) sight old

  abbrev New : Disks
  New = disks_at (home_tells × reads) sight new

  pub reads_on : (k : ℕ) (bytes : Bytes) → Old.reads k bytes → New.reads k bytes
  reads_on k bytes read =
      let at = subst (λ (o : Option D). IsAsBefore reads sight o (new k)) read.1.1 (rest read.0.0 k)
      in (read.0, (at.0, at.1, (unchanged reads sight read.1.0 at.0 (at.2 read.0.1)).seen ∙ read.1.2))

  pub still_before : (k : ℕ) (now : D) → home_tells → new k ≡ Some now
      → (was : D) × (old k ≡ Some was) × (reads → IsStill reads sight was now)
  still_before k now told is = so (old k) refl (rest told k)
    where
      so : (o : Option D) → old k ≡ o → IsAsBefore reads sight o (new k)
          → (was : D) × (old k ≡ Some was) × (reads → IsStill reads sight was now)
      so None e at = absurd (none-some now (sym at ∙ is))
      so (Some was) e at = (
        was,
        e,
        subst (λ (d : D). reads → IsStill reads sight was d) (same_Some at.0 now (sym at.1 ∙ is)) at.2,
      )

  before_it : (k : ℕ) (now : D) → home_tells → new k ≡ Some now
      → (was : D) × (old k ≡ Some was) × (reads → IsUnchanged (sight was) (sight now))
  before_it k now told is =
      let b = still_before k now told is in (b.0, b.1, λ read. unchanged reads sight b.0 now (b.2 read))

  pub reads_back : (k : ℕ) (bytes : Bytes) → New.reads k bytes → Old.reads k bytes
  reads_back k bytes read =
      let b = before_it k read.1.0 read.0.0 read.1.1 in (read.0, (b.0, b.1, sym (b.2 read.0.1).seen ∙ read.1.2))

  pub leaves_back : (k : ℕ) (bytes : Bytes) → New.may_leave k bytes → Old.may_leave k bytes
  leaves_back k bytes leaves =
      let b = before_it k leaves.1.0 leaves.0.0 leaves.1.1
      in (leaves.0, (b.0, b.1, (b.2 leaves.0.1).crash bytes leaves.1.2))

  pub untouched_rest : AreUntouched Old New
  untouched_rest k was before = untouched_by (home_tells × reads) sight old new k was before (λ now is.
      let b = before_it k now before.0.0 is
      in subst (λ (d : D). IsUnchanged (sight d) (sight now)) (same_Some b.0 before.1.0 (sym b.1 ∙ before.1.1))
      (b.2 before.0.1))

  pub home_rest : home_tells → (k : ℕ) → old k ≢ None → new k ≢ None
  home_rest told k some gone = so (old k) refl (rest told k)
    where
      so : (o : Option D) → old k ≡ o → IsAsBefore reads sight o (new k) → ⊥
      so None e at = some e
      so (Some was) e at = none-some at.0 (sym gone ∙ at.1)

-- One more disk was looked at, and holds nothing.
pub empty_next : {D : Type 0} (home_tells reads : Type 0) (sight : D → Sight) (old mid : ℕ → Option D)
    (rest : home_tells → AreAsTheyWere reads sight old mid) (count : ℕ) (holds : Bool) → holds ≡ false
    → (home_tells → HoldsSo reads sight (mid count) holds)
    → ((k : ℕ) → k < count → (bytes : Bytes) → (disks_at (home_tells × reads) sight old).reads k bytes → bytes ≡ [])
    → (k : ℕ) → k < count + 1 → (bytes : Bytes) → (disks_at (home_tells × reads) sight old).reads k bytes → bytes ≡ []
empty_next {D} home_tells reads sight old mid rest count holds is held earlier k below bytes read = so (cases_lt k count)
  where
    so : (k < count) ⊎ (count ≤ k) → bytes ≡ []
    so (inl within) = earlier k within bytes read
    so (inr past) =
        let same : k ≡ count = omega (arith, below, past)
        in let now = reads_on home_tells reads sight old mid rest k bytes read
        in let none = subst (λ (h : Bool). home_tells → HoldsSo reads sight (mid count) h) is held
        in sym now.1.2 ∙ none now.0.0 now.0.1 now.1.0 (ap mid (sym same) ∙ now.1.1)

-- ---- what is said of disks as they were a while ago

module _ (trade : Trade) (old mid : Disks) (on : (k : ℕ) (bytes : Bytes) → old.reads k bytes → mid.reads k bytes) where
  had_since : (form : Form) (k : ℕ) (journal : List Entry) → IsHad trade mid form k journal → IsHad trade old form k journal
  had_since Run k journal had = (had.0, λ bytes read. had.1 bytes (on k bytes read))
  had_since Resume k journal had = (had.0, λ bytes read. had.1 bytes (on k bytes read))

  next_since : (form : Form) (k : ℕ) (next : Next) → IsNext trade mid form k next → IsNext trade old form k next
  next_since form k NoMore is = is
  next_since form k Holds is = (is.0, λ bytes read. is.1 bytes (on k bytes read), is.2)
  next_since form k (Unfits unfit) is = (
    is.0,
    λ bytes read. is.1 bytes (on k bytes read),
    is.2,
    λ bytes read list own journal. is.3 bytes (on k bytes read) list own journal,
  )
  next_since form k Fails is = tt
  next_since form k Stops is = tt

  pub opening_since : (form : Form) (opening : Opening) → IsOpening trade mid form opening → IsOpening trade old form opening
  opening_since form opening is = record {
    count = is.count;
    each = λ k journal there. had_since form k journal (is.each k journal there);
    next = next_since form (next_of opening) opening.next is.next;
  }

pub left_since : (old mid new : Disks) → ((k : ℕ) (bytes : Bytes) → old.reads k bytes → mid.reads k bytes)
    → ((k : ℕ) (bytes : Bytes) → mid.may_leave k bytes → old.may_leave k bytes)
    → (form : Form) (opening : Opening) (sites : List Site) → AreLeft mid new form opening sites
    → AreLeft old new form opening sites
left_since old mid new on back form opening sites left = record {
  reads = left.reads;
  crash = left.crash;
  next = λ was before spared. since (next_of opening) was (left.next was (on (next_of opening) was before) spared);
  others = λ k far was before. since k was (left.others k far was (on k was before));
}
  where
    since : (k : ℕ) (was : Bytes) → IsUntouched mid new k was → IsUntouched old new k was
    since k was same = record {
      reads = same.reads;
      crash = λ image leaves. back k image (same.crash image leaves);
    }

pub left_until : (old mid new : Disks) → ((k : ℕ) (bytes : Bytes) → new.reads k bytes → mid.reads k bytes)
    → ((k : ℕ) (bytes : Bytes) → new.may_leave k bytes → mid.may_leave k bytes)
    → (form : Form) (opening : Opening) (sites : List Site) → AreLeft old mid form opening sites
    → AreLeft old new form opening sites
left_until old mid new read_back leave_back form opening sites left = record {
  reads = λ k within bytes read. left.reads k within bytes (read_back k bytes read);
  crash = λ k within bytes leaves. left.crash k within bytes (leave_back k bytes leaves);
  next = λ was before spared. until (next_of opening) was (left.next was before spared);
  others = λ k far was before. until k was (left.others k far was before);
}
  where
    until : (k : ℕ) (was : Bytes) → IsUntouched old mid k was → IsUntouched old new k was
    until k was same = record {
      reads = λ bytes now. same.reads bytes (read_back k bytes now);
      crash = λ image leaves. same.crash image (leave_back k image leaves);
    }

-- a disk that couldn't be looked at again is unchanged
pub left_failing : (old new : Disks) (journals : List (List Entry)) (sites : List Site)
    → AreLeft old new Resume (record { journals = journals; next = Stops }) sites
    → AreLeft old new Resume (record { journals = journals; next = Fails }) sites
left_failing old new journals sites left = record {
  reads = left.reads;
  crash = left.crash;
  next = λ was before spared. left.next was before tt;
  others = left.others;
}

pub opening_failing : (trade : Trade) (old : Disks) (form : Form) (journals : List (List Entry))
    → IsOpening trade old form (record { journals = journals; next = Stops })
    → IsOpening trade old form (record { journals = journals; next = Fails })
opening_failing trade old form journals is = record { count = is.count; each = is.each; next = tt }
