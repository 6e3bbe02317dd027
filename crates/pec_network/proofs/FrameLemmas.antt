-- Frames that are taken, and frames that are put.
use Rattle.std.proofs.Common.{◌≡◌, ℕ, zero, suc, ◌+◌, ◌-◌, ◌<◌, ◌≤◌, true, false, List, [], ◌∷◌, ◌++◌, length, take}
use Rattle.std.proofs.Common.{drop, get_or, refl, ap, sym, subst, ◌∙◌, arith, Option, Some, None}
use Rattle.std.specs.Prelude.{nat_lt}
use Rattle.std.proofs.lemmas.Bool.{le-ltb, lt-ltb}
use Rattle.std.proofs.lemmas.List.{length-take}
use Rattle.std.specs.List.{cons_option, filter_map}
use Rattle.pec_types.specs.Bytes.{Bytes}
use Rattle.pec_types.specs.declared.letters.Letter.{Letter}
use Rattle.pec_records.specs.declared.entries.Entry.{Entry}
use Rattle.pec_ledger.specs.Due.{due_letters, owed_letters}
use Rattle.pec_ledger.specs.Steps.{half}
use Rattle.pec_ledger.specs.Trade.{Trade}
use Rattle.pec_plays.specs.Frames.{due_frames, frame_of}
use Rattle.pec_plays.specs.Rounds.{sent_from}
use Rattle.pec_plays.specs.Turns.{frames_in, puts_from, without_first}
use Rattle.pec_network.specs.Turning.{Waiting}

-- ---- frames that are taken

drop_none : (number : ℕ) → drop {A = Bytes} number [] ≡ []
drop_none zero = refl
drop_none (suc number) = refl

pub none_taken : (links : Waiting) → without_first 0 links ≡ links
none_taken [] = refl
none_taken (link ∷ links) =
    let none : 0 - length link ≡ 0 = omega arith in
    rw none (ap (λ (more : Waiting). link ∷ more) (none_taken links))

-- where no frame waits none is gone
pub none_left : (links : Waiting) (number : ℕ) → frames_in links ≡ [] → without_first number links ≡ links
none_left [] number e = refl
none_left ([] ∷ links) number e =
    let all : number - 0 ≡ number = omega arith in
    rw (drop_none number, all) (ap (λ (more : Waiting). [] ∷ more) (none_left links number e))
none_left ((frame ∷ link) ∷ links) number e = absurd (omega (arith, ap length e))

-- ---- frames that are put

module _ (trade : Trade) (provider : ℕ) (journal : List Entry) (rooms : ℕ → ℕ) (owed : List Letter) where
  puts_behind : (to count : ℕ)
      → puts_from trade provider journal rooms owed to (suc count)
      ≡ puts_from trade provider journal rooms owed to count ++ due_frames trade provider journal (to + count)
      (rooms (to + count)) owed ∷ []
  puts_behind to zero =
      let here : to + 0 ≡ to = omega arith in
      rw here refl
  puts_behind to (suc count) =
      let there : (to + 1) + count ≡ to + suc count = omega arith in
      let more = puts_behind (to + 1) count in
      ap (λ (l : Waiting). due_frames trade provider journal to (rooms to) owed ∷ l)
      (more ∙ ap (λ (k : ℕ). puts_from trade provider journal rooms owed
      (to + 1) count ++ due_frames trade provider journal k (rooms k) owed ∷ []) there)

  -- those for one provider more
  puts_more : (count : ℕ)
      → puts_from trade provider journal rooms owed 0 (count + 1)
      ≡ puts_from trade provider journal rooms owed 0 count ++ due_frames trade provider journal count
      (rooms count) owed ∷ []
  puts_more count =
      let one : count + 1 ≡ suc count = omega arith in
      let none : 0 + count ≡ count = omega arith in
      rw one (puts_behind 0 count
      ∙ ap (λ (k : ℕ). puts_from trade provider journal rooms owed 0 count ++ due_frames trade provider journal k
      (rooms k) owed ∷ []) none)

  pub puts_step : (out more : Waiting) (put frames : List Bytes) (count : ℕ) → more ≡ out ++ put ∷ []
      → out ≡ puts_from trade provider journal rooms owed 0 count → put ≡ frames
      → frames ≡ due_frames trade provider journal count (rooms count) owed
      → more ≡ puts_from trade provider journal rooms owed 0 (count + 1)
  puts_step out more put frames count pushed so_far is due =
      let so = is ∙ due in
      rw (pushed, so_far, so) (sym (puts_more count))

one_at_most : {Y : Type 0} (o : Option Y) (ys : List Y) (number : ℕ) → length ys ≤ number
    → length (cons_option o ys) ≤ suc number
one_at_most None ys number l = omega arith
one_at_most (Some y) ys number l = omega arith

fewer : {X Y : Type 0} (f : X → Option Y) (xs : List X) → length (filter_map f xs) ≤ length xs
fewer f [] = omega arith
fewer f (x ∷ xs) = one_at_most (f x) (filter_map f xs) (length xs) (fewer f xs)

-- no more frames are due than there is room for
pub due_short : (trade : Trade) (provider : ℕ) (journal : List Entry) (to room : ℕ) (owed : List Letter)
    → length (due_frames trade provider journal to room owed) ≤ room
unfolding due_frames due_letters
due_short trade provider journal to room owed =
    let letters = owed_letters trade provider (half trade provider journal) to owed in
    let few = fewer (frame_of trade provider journal) (take room letters) in
    let cut = length-take room letters in
    omega (arith, few, cut)

-- so it is for each provider
pub puts_fit : (trade : Trade) (provider : ℕ) (journal : List Entry) (rooms : ℕ → ℕ) (owed : List Letter)
    (first count to : ℕ)
    → length (get_or (puts_from trade provider journal rooms owed first count) to []) ≤ rooms (first + to)
puts_fit trade provider journal rooms owed first zero to = omega arith
puts_fit trade provider journal rooms owed first (suc count) zero =
    let here : first + 0 ≡ first = omega arith in
    rw here (due_short trade provider journal first (rooms first) owed)
puts_fit trade provider journal rooms owed first (suc count) (suc to) =
    let there : (first + 1) + to ≡ first + suc to = omega arith in
    subst (λ (k : ℕ). length (get_or (puts_from trade provider journal rooms owed (first + 1) count) to []) ≤ rooms k)
    there
    (puts_fit trade provider journal rooms owed (first + 1) count to)

-- ---- what is told of them

-- the next provider, for which there are no frames
pub sent_none : (out : Waiting) (to : ℕ) (frames : List Bytes) → drop to out ≡ frames ∷ drop (to + 1) out
    → length frames ≡ 0
    → sent_from to (drop to out) ≡ sent_from (to + 1) (drop (to + 1) out)
sent_none out to frames here none =
    let test : nat_lt 0 (length frames) ≡ false = le-ltb 0 (length frames) (omega arith) in
    ap (λ (l : Waiting). sent_from to l) here ∙ rw test refl

-- and for which there are some
pub sent_some : (out : Waiting) (to : ℕ) (frames : List Bytes) → drop to out ≡ frames ∷ drop (to + 1) out
    → 0 < length frames
    → sent_from to (drop to out) ≡ (to, length frames) ∷ sent_from (to + 1) (drop (to + 1) out)
sent_some out to frames here some =
    let test : nat_lt 0 (length frames) ≡ true = lt-ltb 0 (length frames) some in
    ap (λ (l : Waiting). sent_from to l) here ∙ rw test refl

pub puts_count : (trade : Trade) (provider : ℕ) (journal : List Entry) (rooms : ℕ → ℕ) (owed : List Letter)
    (first count : ℕ)
    → length (puts_from trade provider journal rooms owed first count) ≡ count
puts_count trade provider journal rooms owed first zero = refl
puts_count trade provider journal rooms owed first (suc count) = ap suc
    (puts_count trade provider journal rooms owed (first + 1) count)
