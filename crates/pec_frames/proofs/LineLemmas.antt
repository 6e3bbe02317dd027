-- The line of a frame: its first CRLF ends it, and the reader finds that one.
use Rattle.std.proofs.Common.{◌≡◌, ◌≢◌, ◌⊎◌, inl, inr, ℕ, zero, suc, ◌+◌, ◌-◌, ◌<◌, ◌≤◌, ◌==◌, ◌&&◌, [], ◌∷◌, ◌++◌, Bool, true, false, cond, Option, None, Some, Ok, Err, length, take, drop, refl, ap, sym, ◌∙◌, arith, eqb-true, option_map}
use Rattle.std.specs.Str.{bytes_eq}
use Rattle.std.proofs.Math.Seq.{take-append_seam, drop-append_seam}
use Rattle.std.proofs.lemmas.Bool.{and_parts, le-ltb, lt-ltb}
use Rattle.std.proofs.lemmas.List.{take-append-drop}
use Rattle.std.proofs.lemmas.Slice.Eq.{bytes_eq-Decides}
use Rattle.pec_types.specs.Bytes.{Bytes, after_front, carriage_return, line_feed}
use Rattle.pec_types.specs.Results.{◌>>=◌}
use Rattle.pec_frames.specs.Frames.{HasLine, HasNoEnd, path_end, path_front, with_path}
use Rattle.pec_frames.specs.FramesReading.{feed_from, framed_of, path_at, path_behind, path_of}
use Rattle.pec_frames.specs.declared.TheConstants.{FRAME_LIMIT}
use Rattle.pec_frames.specs.declared.faults.FrameFault.TheVariants.{TooLong, NoPath}

-- ---- the front

some_is : (x y : Bytes) → Some x ≡ Some y → x ≡ y
some_is x y e = cc

front_step : (front text rest : Bytes) (t : Bool) → bytes_eq (take (length front) text) front ≡ t
    → cond t (Some (drop (length front) text)) None ≡ Some rest → text ≡ front ++ rest
front_step front text rest true e h =
    let same : take (length front) text ≡ front = (bytes_eq-Decides (take (length front) text) front).0 e
    in let left : drop (length front) text ≡ rest = some_is _ _ h
    in sym (take-append-drop (length front) text) ∙ ap (λ xs. xs ++ drop (length front) text) same ∙ ap (λ xs. front ++ xs) left
front_step front text rest false e h = absurd cc

pub front_says : (front text rest : Bytes) → after_front front text ≡ Some rest → text ≡ front ++ rest
unfolding after_front
front_says front text rest h = front_step front text rest (bytes_eq (take (length front) text) front) refl h

pub front_again : (front rest : Bytes) → after_front front (front ++ rest) ≡ Some rest
unfolding after_front
front_again front rest = rw ((bytes_eq-Decides (take (length front) (front ++ rest)) front).1 (take-append_seam front rest)) (ap Some (drop-append_seam front rest))

-- ---- the first CRLF is found

feed_front : (returned : Bool) (message : Bytes) → feed_from returned (path_end ++ message) ≡ Some 1
feed_front true message = refl
feed_front false message = refl

-- a line feed at the front doesn't stand behind a carriage return
abbrev Fresh : Bool → Bytes → Type 0
Fresh returned line = returned ≡ true → take 1 line ≢ line_feed ∷ []

no_feed : (returned : Bool) (b : ℕ) (bs : Bytes) → Fresh returned (b ∷ bs) → (t : Bool) → (returned && b == line_feed) ≡ t → t ≡ false
no_feed returned b bs fresh true e =
    let both = and_parts returned (b == line_feed) e
    in absurd (fresh both.0 (ap (λ x. x ∷ []) (eqb-true b line_feed both.1)))
no_feed returned b bs fresh false e = refl

fresh_behind : (b : ℕ) (bs : Bytes) → HasNoEnd (b ∷ bs) → Fresh (b == carriage_return) bs
fresh_behind b bs none is starts =
    let same : b ≡ carriage_return = eqb-true b carriage_return is
    in none 0 (ap (λ x. x ∷ take 1 bs) same ∙ ap (λ xs. carriage_return ∷ xs) starts)

pub feed_again : (returned : Bool) (line message : Bytes) → Fresh returned line → HasNoEnd line
    → feed_from returned (line ++ (path_end ++ message)) ≡ Some (length line + 1)
feed_again returned [] message fresh none = feed_front returned message
feed_again returned (b ∷ bs) message fresh none =
    ap (λ t. cond t (Some 0) (option_map (λ at. at + 1) (feed_from (b == carriage_return) (bs ++ (path_end ++ message)))))
    (no_feed returned b bs fresh (returned && b == line_feed) refl)
    ∙ ap (option_map (λ at. at + 1)) (feed_again (b == carriage_return) bs message (fresh_behind b bs none) (λ at. none (suc at)))
    ∙ ap Some (omega arith)

-- ---- each text has a first CRLF, or none

-- a text is parted at its first CRLF
pub record IsParted (text : Bytes) : Type 0 where
  pub line : Bytes
  pub message : Bytes
  pub parts : text ≡ line ++ (path_end ++ message)
  pub first : HasNoEnd line

abbrev pub HasNoFeed : Bytes → Type 0
HasNoFeed text = (line message : Bytes) → text ≢ line ++ (path_end ++ message)

pub nothing : HasNoEnd []
nothing zero e = cc
nothing (suc at) e = cc

none_in_nothing : HasNoFeed []
none_in_nothing [] message e = cc
none_in_nothing (b ∷ line) message e = cc

end_within : (b : ℕ) (line more : Bytes) → take 2 (b ∷ line) ≡ path_end → take 2 (b ∷ (line ++ more)) ≡ path_end
end_within b [] more e = absurd cc
end_within b (c ∷ line) more e = e

later_end : (b : ℕ) (bs line message : Bytes) → bs ≡ line ++ (path_end ++ message) → (take 2 (b ∷ bs) ≡ path_end → ⊥) → HasNoEnd line → HasNoEnd (b ∷ line)
later_end b bs line message is not_here none zero e = not_here (ap (λ xs. take 2 (b ∷ xs)) is ∙ end_within b line (path_end ++ message) e)
later_end b bs line message is not_here none (suc at) e = none at e

no_later_end : (b : ℕ) (bs : Bytes) → (take 2 (b ∷ bs) ≡ path_end → ⊥) → HasNoFeed bs → HasNoFeed (b ∷ bs)
no_later_end b bs not_here none [] message e = not_here (ap (take 2) e)
no_later_end b bs not_here none (c ∷ line) message e = none line message (ap (drop 1) e)

parted_step : (b : ℕ) (bs : Bytes) (t : Bool) → bytes_eq (take 2 (b ∷ bs)) path_end ≡ t → IsParted bs ⊎ HasNoFeed bs → IsParted (b ∷ bs) ⊎ HasNoFeed (b ∷ bs)
parted_step b bs true e behind = inl (record {
  line = [];
  message = drop 2 (b ∷ bs);
  parts = sym (take-append-drop 2 (b ∷ bs)) ∙ ap (λ xs. xs ++ drop 2 (b ∷ bs)) ((bytes_eq-Decides (take 2 (b ∷ bs)) path_end).0 e);
  first = nothing;
})
parted_step b bs false e (inl parted) = inl (record {
  line = b ∷ parted.line;
  message = parted.message;
  parts = ap (λ xs. b ∷ xs) parted.parts;
  first = later_end b bs parted.line parted.message parted.parts (not_there b bs e) parted.first;
})
  where
    not_there : (b : ℕ) (bs : Bytes) → bytes_eq (take 2 (b ∷ bs)) path_end ≡ false → take 2 (b ∷ bs) ≡ path_end → ⊥
    not_there b bs e is = let yes = (bytes_eq-Decides (take 2 (b ∷ bs)) path_end).1 is in let h : ⊥ = cc in h
parted_step b bs false e (inr none) = inr (no_later_end b bs (λ is. let yes = (bytes_eq-Decides (take 2 (b ∷ bs)) path_end).1 is in let h : ⊥ = cc in h) none)

pub parted_or_not : (text : Bytes) → IsParted text ⊎ HasNoFeed text
parted_or_not [] = inr none_in_nothing
parted_or_not (b ∷ bs) = parted_step b bs (bytes_eq (take 2 (b ∷ bs)) path_end) refl (parted_or_not bs)

-- ---- the reader comes to the path

pub line_read : (text line message : Bytes) → HasLine text line message
    → framed_of text ≡ (path_of (length path_front) line >>= λ path. Ok (path, length path_front + (length line + 1) + 1))
unfolding framed_of
line_read text line message has =
    let rest = line ++ (path_end ++ message)
    in let short = le-ltb FRAME_LIMIT (length text) has.short
    in let front : after_front path_front text ≡ Some rest = ap (after_front path_front) has.parts ∙ front_again path_front rest
    in let feed = feed_again false line message (λ e. absurd cc) has.first
    in let path : take (length line + 1 - 1) rest ≡ line = ap (λ n. take n rest) (omega arith) ∙ take-append_seam line (path_end ++ message)
    in rw short (ap path_behind front ∙ ap (path_at rest) feed
    ∙ ap (λ found. path_of (length path_front) found >>= λ read. Ok (read, length path_front + (length line + 1) + 1)) path)

-- ---- no line is found where none is

fresh_no_feed : (b : ℕ) (bs : Bytes) → HasNoFeed (b ∷ bs) → Fresh (b == carriage_return) bs
fresh_no_feed b bs none is starts =
    let same : b ≡ carriage_return = eqb-true b carriage_return is
    in none [] (drop 1 bs)
    (ap (λ x. x ∷ bs) same ∙ ap (λ xs. carriage_return ∷ xs) (sym (take-append-drop 1 bs) ∙ ap (λ xs. xs ++ drop 1 bs) starts))

feed_none : (returned : Bool) (text : Bytes) → Fresh returned text → HasNoFeed text → feed_from returned text ≡ None
feed_none returned [] fresh none = refl
feed_none returned (b ∷ bs) fresh none =
    ap (λ t. cond t (Some 0) (option_map (λ at. at + 1) (feed_from (b == carriage_return) bs)))
    (no_feed returned b bs fresh (returned && b == line_feed) refl)
    ∙ ap (option_map (λ at. at + 1))
    (feed_none (b == carriage_return) bs (fresh_no_feed b bs none) (λ line message e. none (b ∷ line) message (ap (λ xs. b ∷ xs) e)))

no_path : (text : Bytes) → ((line message : Bytes) → text ≢ with_path line message) → (found : Option Bytes) → after_front path_front text ≡ found
    → path_behind found ≡ Err NoPath
no_path text none None e = refl
no_path text none (Some rest) e =
    let has_none : HasNoFeed rest = λ line message is. none line message (front_says path_front text rest e ∙ ap (λ xs. path_front ++ xs) is)
    in ap (path_at rest) (feed_none false rest (λ never. absurd cc) has_none)

pub no_line_read : (text : Bytes) → length text ≤ FRAME_LIMIT → ((line message : Bytes) → text ≢ with_path line message) → framed_of text ≡ Err NoPath
unfolding framed_of
no_line_read text short none = rw (le-ltb FRAME_LIMIT (length text) short) (no_path text none (after_front path_front text) refl)

pub too_long_read : (text : Bytes) → FRAME_LIMIT < length text → framed_of text ≡ Err TooLong
unfolding framed_of
too_long_read text long = rw (lt-ltb FRAME_LIMIT (length text) long) refl
