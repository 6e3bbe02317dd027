-- Lemmas on the replies at a door in memory.
use Rattle.std.proofs.Common.{◌≡◌, ℕ, ◌-◌, Bool, List, [], ◌∷◌, ◌++◌, length, map, refl, ap, ◌∙◌, arith}
use Rattle.pec_outside.specs.DoorReplies.{replies_of}
use Rattle.pec_outside.specs.Doors.{RepliesState, Reply}

pub texts_of : (texts : List (List ℕ)) (raised : List Bool) → length texts ≡ length raised
    → map (λ (reply : Reply). reply.text) (replies_of texts raised) ≡ texts
texts_of [] raised len = refl
texts_of (text ∷ texts) [] len = absurd (omega (arith, len))
texts_of (text ∷ texts) (flag ∷ raised) len = ap (λ all. text ∷ all) (texts_of texts raised (omega (arith, len)))

pub flags_of : (texts : List (List ℕ)) (raised : List Bool) → length texts ≡ length raised
    → map (λ (reply : Reply). reply.raised) (replies_of texts raised) ≡ raised
flags_of [] [] len = refl
flags_of [] (flag ∷ raised) len = absurd (omega (arith, len))
flags_of (text ∷ texts) [] len = absurd (omega (arith, len))
flags_of (text ∷ texts) (flag ∷ raised) len = ap (λ all. flag ∷ all) (flags_of texts raised (omega (arith, len)))

abbrev pub reply : List ℕ → Bool → Reply
reply text flag = record { text = text; raised = flag }

replies_of-push : (texts : List (List ℕ)) (raised : List Bool) (text : List ℕ) (flag : Bool) → length texts ≡ length raised
    → replies_of (texts ++ text ∷ []) (raised ++ flag ∷ []) ≡ replies_of texts raised ++ reply text flag ∷ []
replies_of-push [] [] text flag len = refl
replies_of-push [] (first ∷ raised) text flag len = absurd (omega (arith, len))
replies_of-push (first ∷ texts) [] text flag len = absurd (omega (arith, len))
replies_of-push (one ∷ texts) (first ∷ raised) text flag len =
    ap (λ all. reply one first ∷ all) (replies_of-push texts raised text flag (omega (arith, len)))

abbrev pub state : List Reply → ℕ → RepliesState
state all out = record { all = all; out = out }

-- one reply more, in the program's lists
pub put_so : (texts texts_then : List (List ℕ)) (raised raised_then : List Bool) (out : ℕ) (was : RepliesState) (text : List ℕ) (flag : Bool)
    → length texts ≡ length raised → state (replies_of texts raised) out ≡ was → texts_then ≡ texts ++ text ∷ []
    → raised_then ≡ raised ++ flag ∷ []
    → state (replies_of texts_then raised_then) (out - 1) ≡ state (was.all ++ reply text flag ∷ []) (was.out - 1)
put_so texts texts_then raised raised_then out was text flag len is pushed flagged =
    ap (λ all. state (replies_of all raised_then) (out - 1)) pushed
    ∙ ap (λ all. state (replies_of (texts ++ text ∷ []) all) (out - 1)) flagged
    ∙ ap (λ all. state all (out - 1)) (replies_of-push texts raised text flag len)
    ∙ ap (λ (s : RepliesState). state (s.all ++ reply text flag ∷ []) (s.out - 1)) is
