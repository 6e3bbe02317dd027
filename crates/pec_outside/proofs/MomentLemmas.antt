-- Lemmas on moments: what a crash leaves since an earlier moment, after a write and after calls that write nothing.
use Rattle.std.proofs.Common.{inl, inr, ⊎_elim, ℕ, ◌+◌, ◌≤◌, List, refl, sym, subst, arith}
use Rattle.pec_outside.specs.DiskModel.{Sight, Only, Torn, Tears, Rests, LeavesOnly, GrowsTo, IsAtMost}
use Rattle.pec_outside.specs.Moments.{goes_on, started}

-- a write over bytes that no crash changes
module _ (old new : Sight) (at n : ℕ) (now : (image : List ℕ) → old.left_since old.moment image → old.may_leave image)
    (only : Only old.seen old.may_leave) (tears : Tears at n old new) where
  pub torn_by : (image : List ℕ) → new.may_leave image → Torn at n old.seen image
  torn_by image left = let was = tears.crash image left in subst (λ (bytes : List ℕ). Torn at n bytes image) (only was.0 was.1) was.2

  unhurt : (image : List ℕ) → old.may_leave image → Torn at n old.seen image
  unhurt image left = subst (λ (bytes : List ℕ). Torn at n old.seen bytes) (sym (only image left))
      (record { before = refl; behind = refl; no_shorter = omega arith; no_longer = omega arith })

  pub write_leaves : LeavesOnly old new (Torn at n old.seen)
  write_leaves = record {
    later = tears.time.later;
    each = λ image left. ⊎_elim (λ (was : old.left_since old.moment image). unhurt image (now image was)) (torn_by image)
        (tears.time.nothing_else old.moment image (omega arith) left);
    before = λ t image within left. ⊎_elim (λ (was : old.left_since t image). inl was) (λ (is : new.may_leave image). inr (torn_by image is))
        (tears.time.nothing_else t image within left);
  }

-- a write, of which no image is longer than what it was or the piece's end
module _ (old new : Sight) (at n : ℕ) (now : (image : List ℕ) → old.left_since old.moment image → old.may_leave image)
    (tears : Tears at n old new) where
  pub no_longer : (most : ℕ) → at + n ≤ most → ((image : List ℕ) → old.may_leave image → IsAtMost most image)
      → (image : List ℕ) → new.may_leave image → IsAtMost most image
  no_longer most room within image left =
      let was = tears.crash image left in omega (arith, within was.0 was.1, was.2.no_longer, room)

  pub write_grows : GrowsTo (at + n) old new
  write_grows most room within =
      goes_on old old new (IsAtMost most) (started old (IsAtMost most) (λ image left. within image (now image left)))
      tears.time (no_longer most room within)

  pub write_and_sync_grow : (newer : Sight) → Rests new newer → GrowsTo (at + n) old newer
  write_and_sync_grow newer rests most room within =
      goes_on old new newer (IsAtMost most) (write_grows most room within) rests.time
      (λ image left. no_longer most room within image (rests.crash image left))

-- and then a call that writes nothing
module _ (old new newer : Sight) (Kind : List ℕ → Type 0) (leaves : LeavesOnly old new Kind)
    (kind : (image : List ℕ) → new.may_leave image → Kind image) (rests : Rests new newer) where
  crash_kind : (image : List ℕ) → newer.may_leave image → Kind image
  crash_kind image left = kind image (rests.crash image left)

  pub rests_leaves : LeavesOnly old newer Kind
  rests_leaves = record {
    later = omega (arith, leaves.later, rests.time.later);
    each = λ image left. ⊎_elim (leaves.each image) (crash_kind image)
        (rests.time.nothing_else old.moment image leaves.later left);
    before = λ t image within left. ⊎_elim (leaves.before t image within) (λ (is : newer.may_leave image). inr (crash_kind image is))
        (rests.time.nothing_else t image (omega (arith, within, leaves.later)) left);
  }
