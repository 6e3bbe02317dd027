-- How what a crash may have left goes on from call to call: the crates above compose their clauses by these lemmas.
use Rattle.std.proofs.Common.{inl, inr, ⊎_elim, ℕ, ◌≤◌, List, ◌∙◌, refl, arith}
use Rattle.pec_outside.specs.DiskModel.{Sight, Elapses, Rests, Stays, LeavesOnly, GrowsTo, IsAtMost}

-- before the first call
pub started : (old : Sight) (Kind : List ℕ → Type 0) → ((image : List ℕ) → old.left_since old.moment image → Kind image)
    → LeavesOnly old old Kind
started old Kind here = record { later = omega arith; each = here; before = λ t image within left. inl left }

-- one call more, after which a crash leaves bytes of this kind
pub goes_on : (old mid new : Sight) (Kind : List ℕ → Type 0) → LeavesOnly old mid Kind → Elapses mid new
    → ((image : List ℕ) → new.may_leave image → Kind image) → LeavesOnly old new Kind
goes_on old mid new Kind so_far time here = record {
  later = omega (arith, so_far.later, time.later);
  each = λ image left. ⊎_elim (so_far.each image) (here image) (time.nothing_else old.moment image so_far.later left);
  before = λ t image within left. ⊎_elim (so_far.before t image within) (λ now. inr (here image now)) (time.nothing_else t image (omega (arith, within, so_far.later)) left);
}

-- one stretch of calls behind another
pub and_then : (old mid new : Sight) (Kind : List ℕ → Type 0) → LeavesOnly old mid Kind → LeavesOnly mid new Kind
    → LeavesOnly old new Kind
and_then old mid new Kind first second = record {
  later = omega (arith, first.later, second.later);
  each = λ image left. ⊎_elim (first.each image) (λ kind. kind) (second.before old.moment image first.later left);
  before = λ t image within left. ⊎_elim (first.before t image within) (λ kind. inr kind) (second.before t image (omega (arith, within, first.later)) left);
}

-- bytes of one kind are of another, too
pub weaker : (old new : Sight) (Kind Wider : List ℕ → Type 0) → LeavesOnly old new Kind → ((image : List ℕ) → Kind image → Wider image)
    → LeavesOnly old new Wider
weaker old new Kind Wider leaves wider = record {
  later = leaves.later;
  each = λ image left. wider image (leaves.each image left);
  before = λ t image within left. ⊎_elim (λ was. inl was) (λ kind. inr (wider image kind)) (leaves.before t image within left);
}

-- before the first call that writes nothing, and behind one more
pub stays : (old : Sight) → ((image : List ℕ) → old.left_since old.moment image → old.may_leave image) → Stays old old
stays old only_now = record { seen = refl; crash = λ image now. now; moments = started old old.may_leave only_now }

pub stays_on : (old mid new : Sight) → Stays old mid → Rests mid new → Stays old new
stays_on old mid new so_far rests = record {
  seen = rests.seen ∙ so_far.seen;
  crash = λ image now. so_far.crash image (rests.crash image now);
  moments = goes_on old mid new old.may_leave so_far.moments rests.time (λ image now. so_far.crash image (rests.crash image now));
}

pub stays_and : (old mid new : Sight) → Stays old mid → Stays mid new → Stays old new
stays_and old mid new first second = record {
  seen = second.seen ∙ first.seen;
  crash = λ image now. first.crash image (second.crash image now);
  moments = and_then old mid new old.may_leave first.moments (weaker mid new mid.may_leave old.may_leave second.moments first.crash);
}

-- ---- how long images grow

module _ (size : ℕ) (old : Sight) (only_now : (image : List ℕ) → old.left_since old.moment image → old.may_leave image) where
  -- before the first call
  pub grows : GrowsTo size old old
  grows most room within = started old (IsAtMost most) (λ image left. within image (only_now image left))

  -- a call that writes nothing
  pub grows_at_rest : (new : Sight) → Rests old new → GrowsTo size old new
  grows_at_rest new rests most room within =
      goes_on old old new (IsAtMost most) (grows most room within) rests.time (λ image left. within image (rests.crash image left))

-- what grows to a size grows to no more than a greater one
pub grows_less : (size more : ℕ) → size ≤ more → (old new : Sight) → GrowsTo size old new → GrowsTo more old new
grows_less size more less old new so_far most room = so_far most (omega (arith, less, room))

-- one stretch of calls behind another, which grows no further
pub grows_and_then : (first second size : ℕ) → first ≤ size → second ≤ size → (old mid new : Sight)
    → ((t : ℕ) (image : List ℕ) → t ≤ mid.moment → mid.may_leave image → mid.left_since t image)
    → GrowsTo first old mid → GrowsTo second mid new → GrowsTo size old new
grows_and_then first second size one other old mid new counts_now before behind most room within =
    let mine = before most (omega (arith, one, room)) within in
    and_then old mid new (IsAtMost most) mine
    (behind most (omega (arith, other, room)) (λ image left. mine.each image (counts_now old.moment image mine.later left)))
