-- Bytes up to their first line feed: where they are cut, and what is moved to a line.
use Rattle.std.proofs.Common.{◌≡◌, ℕ, zero, suc, ◌+◌, ◌<◌, Bool, true, false, cond, eqb, ◌||◌, [], ◌∷◌, ◌++◌, length, take, drop, Option, Some, None, MatchBool, refl, sym, ◌∙◌, ap, subst, arith, append_assoc, eqb-true, length-append}
use Rattle.std.proofs.lemmas.Bool.{false≢true, eqb-false}
use Rattle.std.proofs.lemmas.List.{length-take-le}
use Rattle.memchr.specs.Find.{IsFirstByte}
use Rattle.pec_types.specs.Bytes.{Bytes, line_feed}
use Rattle.pec_outside.specs.Flow.{behind}
use Rattle.pec_input.specs.Finding.{IsEnded}
use Rattle.pec_input.specs.Lines.{HasNoEnd}
use Rattle.pec_input.specs.Pieces.{after_piece, first_piece, has_feed, is_feed}

pub record HasNoFeed (bytes : Bytes) : Type 0 where
  pub piece : first_piece bytes ≡ bytes
  pub rest : after_piece bytes ≡ []
  pub feed : has_feed bytes ≡ false

fails : (t : Bool) → (t ≡ true → ⊥) → t ≡ false
fails true n = absurd (n refl)
fails false n = refl

pub no_feed : (bytes : Bytes) → IsFirstByte is_feed bytes None → HasNoFeed bytes
no_feed [] nowhere = record { piece = refl; rest = refl; feed = refl }
no_feed (b ∷ bs) nowhere =
    let other : eqb b line_feed ≡ false = fails (eqb b line_feed) (nowhere 0 (omega arith) (omega arith)) in
    let behind = no_feed bs (λ k low below. nowhere (suc k) (omega arith) (omega (arith, below))) in
    record { piece = rw other (ap (λ x. b ∷ x) behind.piece); rest = rw other behind.rest; feed = rw other behind.feed }

pub record HasFeedAt (bytes : Bytes) (at : ℕ) : Type 0 where
  pub piece : take (suc at) bytes ≡ first_piece bytes
  pub rest : drop (suc at) bytes ≡ after_piece bytes
  pub feed : has_feed bytes ≡ true

feed_told : (bytes : Bytes) (at : ℕ) → IsFirstByte is_feed bytes (Some at) → HasFeedAt bytes at
feed_told [] at is = absurd (omega (arith, is.0.high))
feed_told (b ∷ bs) zero is =
    let here : eqb b line_feed ≡ true = is.1 in
    record { piece = rw here refl; rest = rw here refl; feed = rw here refl }
feed_told (b ∷ bs) (suc at) is =
    let other : eqb b line_feed ≡ false = fails (eqb b line_feed) (is.0.before 0 (omega arith) (omega arith)) in
    let high : suc at < suc (length bs) = is.0.high in
    let behind = feed_told bs at (
      record {
        low = omega arith;
        high = omega (arith, high);
        before = λ k low below. is.0.before (suc k) (omega arith) (omega (arith, below));
      },
      is.1,
    ) in
    record { piece = rw other (ap (λ x. b ∷ x) behind.piece); rest = rw other behind.rest; feed = rw other behind.feed }

pub record IsCutAt (bytes : Bytes) (at : ℕ) : Type 0 where
  pub piece : take (at + 1) bytes ≡ first_piece bytes
  pub rest : drop (length (take (at + 1) bytes)) bytes ≡ after_piece bytes
  pub feed : has_feed bytes ≡ true

pub feed_at : (bytes : Bytes) (at : ℕ) → IsFirstByte is_feed bytes (Some at) → IsCutAt bytes at
feed_at bytes at found =
    let told = feed_told bytes at found in
    let same : suc at ≡ at + 1 = omega arith in
    let size : length (take (at + 1) bytes) ≡ at + 1 = length-take-le (at + 1) bytes (omega (arith, found.0.high)) in
    record {
      piece = subst (λ n. take n bytes ≡ first_piece bytes) same told.piece;
      rest = ap (λ n. drop n bytes) size ∙ subst (λ n. drop n bytes ≡ after_piece bytes) same told.rest;
      feed = told.feed;
    }

-- nothing is lost by a cut
pieces_by : (b : ℕ) (bs : Bytes) (x : Bool) → first_piece bs ++ after_piece bs ≡ bs
    → cond x (b ∷ []) (b ∷ first_piece bs) ++ cond x bs (after_piece bs) ≡ b ∷ bs
pieces_by b bs true whole = refl
pieces_by b bs false whole = ap (λ x. b ∷ x) whole

pub pieces_are_all : (bytes : Bytes) → first_piece bytes ++ after_piece bytes ≡ bytes
pieces_are_all [] = refl
pieces_are_all (b ∷ bs) = pieces_by b bs (eqb b line_feed) (pieces_are_all bs)

-- a piece without line feed has none, and one with it has it at its end
no_end_by : (b : ℕ) (bs : Bytes) (x : Bool) → eqb b line_feed ≡ x → (x || has_feed bs) ≡ false
    → (has_feed bs ≡ false → HasNoEnd (first_piece bs)) → HasNoEnd (cond x (b ∷ []) (b ∷ first_piece bs))
no_end_by b bs true here none rest = absurd (false≢true (sym none))
no_end_by b bs false other none rest = (eqb-false b line_feed other, rest none)

pub no_end : (bytes : Bytes) → has_feed bytes ≡ false → HasNoEnd (first_piece bytes)
no_end [] none = tt
no_end (b ∷ bs) none = no_end_by b bs (eqb b line_feed) refl none (no_end bs)

ended_by : (b : ℕ) (bs : Bytes) (x : Bool) → eqb b line_feed ≡ x → (x || has_feed bs) ≡ true
    → (has_feed bs ≡ true → IsEnded (first_piece bs)) → IsEnded (cond x (b ∷ []) (b ∷ first_piece bs))
ended_by b bs true here some rest =
    record { said = []; none = tt; parts = ap (λ x. x ∷ []) (eqb-true b line_feed here) }
ended_by b bs false other some rest =
    let more = rest some in
    record { said = b ∷ more.said; none = (eqb-false b line_feed other, more.none); parts = ap (λ x. b ∷ x) more.parts }

pub ended : (bytes : Bytes) → has_feed bytes ≡ true → IsEnded (first_piece bytes)
ended [] some = absurd (false≢true some)
ended (b ∷ bs) some = ended_by b bs (eqb b line_feed) refl some (ended bs)

some_by : (b : ℕ) (bs : Bytes) (x : Bool) → 0 < length (cond x (b ∷ []) (b ∷ first_piece bs))
some_by b bs true = omega arith
some_by b bs false = omega arith

pub some_piece : (bytes : Bytes) → 0 < length bytes → 0 < length (first_piece bytes)
some_piece [] some = some
some_piece (b ∷ bs) some = some_by b bs (eqb b line_feed)

-- bytes without line feed before
pub no_end_append : (a b : Bytes) → HasNoEnd a → HasNoEnd b → HasNoEnd (a ++ b)
no_end_append [] b none none_b = none_b
no_end_append (x ∷ a) b none none_b = (none.0, no_end_append a b none.1 none_b)

pub ended_append : (a b : Bytes) → HasNoEnd a → IsEnded b → IsEnded (a ++ b)
ended_append a b none is =
    record {
      said = a ++ is.said;
      none = no_end_append a is.said none is.none;
      parts = ap (λ x. a ++ x) is.parts ∙ sym (append_assoc a is.said (line_feed ∷ []));
    }

-- A piece was moved from what was read to the line.

behind-append : (a b : Bytes) (o : Option Bytes) → behind a (behind b o) ≡ behind (a ++ b) o
behind-append a b None = refl
behind-append a b (Some rest) = ap Some (sym (append_assoc a b rest))

-- what was left to read is read on
pub read_on : (before between after : Option Bytes) (line : Bytes) → before ≡ behind line between → between ≡ after
    → before ≡ behind line after
read_on before between after line so_far more = so_far ∙ ap (λ rest. behind line rest) more

pub moved_read : (before left old_left : Option (Bytes)) (line more old was now : Bytes)
    → before ≡ behind line (behind old old_left) → behind old old_left ≡ behind was left
    → more ≡ line ++ first_piece was → now ≡ after_piece was → before ≡ behind more (behind now left)
moved_read before left old_left line more old was now invariant read is rest =
    invariant ∙ (ap (λ o. behind line o) (read
    ∙ (ap (λ bytes. behind bytes left) (sym (pieces_are_all was))
    ∙ sym (behind-append (first_piece was) (after_piece was) left)))
    ∙ (behind-append line (first_piece was) (behind (after_piece was) left)
    ∙ (ap (λ bytes. behind bytes (behind (after_piece was) left)) (sym is)
    ∙ ap (λ bytes. behind more (behind bytes left)) (sym rest))))

pub moved_none : (line more was : Bytes) → HasNoEnd line → more ≡ line ++ first_piece was → false ≡ has_feed was
    → HasNoEnd more
moved_none line more was none is other =
    subst HasNoEnd (sym is) (no_end_append line (first_piece was) none (no_end was (sym other)))

pub moved_ended : (line more was : Bytes) → HasNoEnd line → more ≡ line ++ first_piece was → true ≡ has_feed was
    → IsEnded more
moved_ended line more was none is some =
    subst IsEnded (sym is) (ended_append line (first_piece was) none (ended was (sym some)))

pub some_ended : (line : Bytes) → IsEnded line → 0 < length line
some_ended line is = omega (arith, ap (λ x. length x) is.parts, length-append is.said (line_feed ∷ []))

pub moved_more : (line more was : Bytes) → 0 < length was → more ≡ line ++ first_piece was → length line < length more
moved_more line more was some is =
    let size : length more ≡ length line + length (first_piece was) =
    ap (λ x. length x) is ∙ length-append line (first_piece was) in
    omega (arith, some_piece was some)

pub where_more : (more : Bool) (P Q : Type 0) → more ≡ true → MatchBool more P Q → P
where_more true P Q is told = told
where_more false P Q is told = absurd (false≢true is)

pub where_none : (more : Bool) (P Q : Type 0) → more ≡ false → MatchBool more P Q → Q
where_none true P Q is told = absurd (false≢true (sym is))
where_none false P Q is told = told
