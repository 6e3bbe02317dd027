-- Lemmas on an append: what a crash leaves during its two writes, and what stands after them.
use Rattle.std.proofs.Common.{◌≡◌, inl, ℕ, ◌+◌, ◌<◌, ◌≤◌, List, [], ◌∷◌, ◌++◌, length, sym, ap, subst, arith, length-append}
use Rattle.std.specs.List.{All}
use Rattle.pec_outside.specs.DiskModel.{Sight, Only, Rests, Torn, LeavesOnly, GrowsTo, written}
use Rattle.pec_outside.specs.Moments.{grows_and_then, grows_at_rest, grows_less, weaker}
use Rattle.pec_journal.specs.JournalFile.{IsFile, IsBeforeOrAfter, IsShort, front, framed, framing, open_gate, closed_gate}
use Rattle.pec_journal.specs.JournalState.{Keeps}
use Rattle.pec_journal.proofs.FileLemmas.{IsStaged, staged, torn_behind, torn_gate, opened, length-framed, length-front-push, still_there}

module _ (entries : List (List ℕ)) (entry : List ℕ) (at : ℕ) where
  pub first_leaves : (old mid : Sight) (n : ℕ) → Keeps old entries at → LeavesOnly old mid (Torn (at + 1) n old.seen)
      → LeavesOnly old mid (IsBeforeOrAfter entries entry)
  first_leaves old mid n keeps leaves =
      weaker old mid (Torn (at + 1) n old.seen) (IsBeforeOrAfter entries entry) leaves (λ image torn. inl (torn_behind entries old.seen at keeps.ends n image keeps.file torn))

  pub first_stages : (old mid : Sight) (piece : List ℕ) → Keeps old entries at → IsShort entry → piece ≡ framed entry ++ closed_gate ∷ []
      → mid.seen ≡ written old.seen (at + 1) piece → IsStaged entries entry mid.seen
  first_stages old mid piece keeps short is seen =
      subst (λ (s : List ℕ). IsStaged entries entry s) (sym (subst (λ (p : List ℕ). mid.seen ≡ written old.seen (at + 1) p) is seen)) (staged entries old.seen at keeps.ends entry keeps.file short)

  pub second_leaves : (mid new : Sight) → at ≡ length (front entries) → All IsShort entries → IsStaged entries entry mid.seen
      → LeavesOnly mid new (Torn at 1 mid.seen) → LeavesOnly mid new (IsBeforeOrAfter entries entry)
  second_leaves mid new ends few stage leaves =
      weaker mid new (Torn at 1 mid.seen) (IsBeforeOrAfter entries entry) leaves (λ image torn. torn_gate entries mid.seen at ends entry image few stage torn)

  pub second_keeps : (mid new : Sight) → at ≡ length (front entries) → IsStaged entries entry mid.seen
      → new.seen ≡ written mid.seen at (open_gate ∷ []) → Only new.seen new.may_leave → Keeps new (entries ++ entry ∷ []) (at + framing + length entry)
  second_keeps mid new ends stage seen durable = record {
    file = subst (λ (s : List ℕ). IsFile (entries ++ entry ∷ []) s) (sym seen) (opened entries mid.seen at ends entry stage);
    durable = durable;
    ends = omega (arith, ends, length-front-push entries entry);
  }

-- ---- how long images grow

module _ (at : ℕ) (piece : List ℕ) where
  -- the gate is opened where the framed entry was written behind it
  pub gate_there : (old mid : Sight) → at < length old.seen → mid.seen ≡ written old.seen (at + 1) piece → at ≤ length mid.seen
  gate_there old mid within seen =
      subst (λ (s : List ℕ). at ≤ length s) (sym seen) (still_there old.seen piece at within)

  pub both_grow : (old mid new : Sight)
      → ((t : ℕ) (image : List ℕ) → t ≤ mid.moment → mid.may_leave image → mid.left_since t image)
      → GrowsTo (at + 1 + length piece) old mid → GrowsTo (at + 1) mid new → GrowsTo (at + 1 + length piece) old new
  both_grow = grows_and_then (at + 1 + length piece) (at + 1) (at + 1 + length piece) (omega arith) (omega arith)

  pub framed_grows : (entry : List ℕ) → piece ≡ framed entry ++ closed_gate ∷ [] → (old new : Sight)
      → GrowsTo (at + 1 + length piece) old new → GrowsTo (at + framing + length entry + 1) old new
  framed_grows entry is =
      let size = length-append (framed entry) (closed_gate ∷ []) in
      grows_less (at + 1 + length piece) (at + framing + length entry + 1)
      (omega (arith, ap (λ (s : List ℕ). length s) is, size, length-framed entry))

-- a write behind a call that writes nothing
pub rested_grows : (size : ℕ) (old mid new : Sight)
    → ((image : List ℕ) → old.left_since old.moment image → old.may_leave image)
    → ((t : ℕ) (image : List ℕ) → t ≤ mid.moment → mid.may_leave image → mid.left_since t image)
    → Rests old mid → GrowsTo size mid new → GrowsTo size old new
rested_grows size old mid new only_now counts_now rests =
    grows_and_then size size size (omega arith) (omega arith) old mid new counts_now
    (grows_at_rest size old only_now mid rests)
