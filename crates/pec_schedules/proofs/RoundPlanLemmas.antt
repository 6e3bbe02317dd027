-- What the turns of a round take and put is a plan, and what it leaves is what the round leaves.
use Rattle.std.proofs.Common.{◌≡◌, ℕ, zero, suc, ◌+◌, ◌-◌, ◌<◌, ◌≤◌, Bool, true, false, List, [], ◌∷◌, ◌++◌, inl, inr, length, take, drop, refl, ap, sym, subst, ◌∙◌, arith, nat_lt, Option, Some, None}
use Rattle.std.specs.Prelude.{if◌then◌else◌, slice_index_or}
use Rattle.std.specs.List.{cons_option, filter_map}
use Rattle.std.proofs.lemmas.Bool.{cases_lt}
use Rattle.std.proofs.lemmas.List.{drop_all, length-drop, length-take}
use Rattle.pec_types.specs.Bytes.{Bytes}
use Rattle.pec_types.specs.declared.letters.Letter.{Letter}
use Rattle.pec_records.specs.declared.entries.Entry.{Entry}
use Rattle.pec_ledger.specs.Due.{due_letters, owed_letters}
use Rattle.pec_ledger.specs.Network.{Site, frames_between, site_at}
use Rattle.pec_ledger.specs.Steps.{half}
use Rattle.pec_ledger.specs.Trade.{Trade}
use Rattle.pec_plays.specs.Frames.{due_frames, frame_of}
use Rattle.pec_plays.specs.Rounds.{rooms_of, rounded}
use Rattle.pec_plays.specs.Scripts.{LinksAreShort}
use Rattle.pec_plays.specs.Steps.{Step as TurnStep}
use Rattle.pec_plays.specs.Turns.{Cut, Turned, Whole, Fails, Full, Stops, Unread, Other, Sees, cut_turn, entries_of, last_of, owed_of, puts_from, steps_of, that_fit, turned, without_first}
use Rattle.pec_schedules.proofs.ScheduleLemmas.{ends_so}
use Rattle.pec_schedules.specs.RoundPlans.{LeavesTheRound, plan_of, turn_at}
use Rattle.pec_schedules.specs.Schedules.{IsPlan, IsSchedule, Line, Step}

-- ---- what a turn takes

-- the later frames of a list are told by how many fewer they are
fewer_left : (frames left : List Bytes) (count : ℕ) → left ≡ drop count frames → drop (length frames - length left) frames ≡ left
fewer_left frames left count is =
    elim (cases_lt count (length frames)) [
      | inl within ↦
          let number : length frames - length left ≡ count = omega (arith, ap length is, length-drop count frames) in
          ap (λ (n : ℕ). drop n frames) number ∙ sym is
      | inr past ↦
          let none : left ≡ [] = is ∙ drop_all count frames past in
          drop_all (length frames - length left) frames (omega (arith, ap length none)) ∙ sym none
    ]

-- what is left is the later frames of each link
abbrev LeavesLater : Site → Turned → Type 0
LeavesLater site turn = (from : ℕ) → (count : ℕ) × (slice_index_or turn.site.waiting from [] ≡ drop count (slice_index_or site.waiting from []))

later_left : (number : ℕ) (links : List (List Bytes)) (from : ℕ)
    → (count : ℕ) × (slice_index_or (without_first number links) from [] ≡ drop count (slice_index_or links from []))
later_left number [] from = (0, refl)
later_left number (link ∷ links) zero = (number, refl)
later_left number (link ∷ links) (suc from) = later_left (number - length link) links from

-- ---- what a turn puts

one_at_most : {Y : Type 0} (o : Option Y) (ys : List Y) (n : ℕ) → length ys ≤ n → length (cons_option o ys) ≤ suc n
one_at_most None ys n l = omega arith
one_at_most (Some y) ys n l = omega arith

no_more : {X Y : Type 0} (f : X → Option Y) (xs : List X) → length (filter_map f xs) ≤ length xs
no_more f [] = omega arith
no_more f (x ∷ xs) = one_at_most (f x) (filter_map f xs) (length xs) (no_more f xs)

due_fit : (trade : Trade) (provider : ℕ) (journal : List Entry) (to room : ℕ) (owed : List Letter)
    → length (due_frames trade provider journal to room owed) ≤ room
unfolding due_frames due_letters
due_fit trade provider journal to room owed =
    let all : List Letter = owed_letters trade provider (half trade provider journal) to owed in
    omega (arith, no_more (frame_of trade provider journal) (take room all), length-take room all)

abbrev PutsFit : (ℕ → ℕ) → Turned → Type 0
PutsFit rooms turn = (to : ℕ) → length (slice_index_or turn.out to []) ≤ rooms to

module _ (trade : Trade) (provider : ℕ) (rooms : ℕ → ℕ) where
  puts_fit : (journal : List Entry) (owed : List Letter) (first count to : ℕ)
      → length (slice_index_or (puts_from trade provider journal rooms owed first count) to []) ≤ rooms (first + to)
  puts_fit journal owed first zero to = omega arith
  puts_fit journal owed first (suc count) zero =
      subst (λ (n : ℕ). length (due_frames trade provider journal first (rooms first) owed) ≤ rooms n)
      (let z : first ≡ first + 0 = omega arith in z) (due_fit trade provider journal first (rooms first) owed)
  puts_fit journal owed first (suc count) (suc to) =
      subst (λ (n : ℕ). length (slice_index_or (puts_from trade provider journal rooms owed (first + 1) count) to []) ≤ rooms n)
      (let z : (first + 1) + to ≡ first + suc to = omega arith in z) (puts_fit journal owed (first + 1) count to)

  fits : (out : List (List Bytes)) (first to : ℕ) → length (slice_index_or (that_fit rooms first out) to []) ≤ rooms (first + to)
  fits [] first to = omega arith
  fits (frames ∷ out) first zero =
      subst (λ (n : ℕ). length (take (rooms first) frames) ≤ rooms n) (let z : first ≡ first + 0 = omega arith in z)
      (let few = length-take (rooms first) frames in omega (arith, few))
  fits (frames ∷ out) first (suc to) =
      subst (λ (n : ℕ). length (slice_index_or (that_fit rooms (first + 1) out) to []) ≤ rooms n)
      (let z : (first + 1) + to ≡ first + suc to = omega arith in z) (fits out (first + 1) to)

  module _ (site : Site) where
    abbrev IsInOrder : Turned → Type 0
    IsInOrder turn = LeavesLater site turn × PutsFit rooms turn

    cut_in_order : (steps : List TurnStep) (cut : Cut) → IsInOrder (cut_turn trade provider rooms site steps cut)
    cut_in_order steps Whole = (
      later_left (length steps) site.waiting,
      λ to.
          subst (λ (n : ℕ). length (slice_index_or (puts_from trade provider (site.journal ++ entries_of steps) rooms (owed_of steps) 0 trade.providers) to []) ≤ rooms n)
          (let z : 0 + to ≡ to = omega arith in z) (puts_fit (site.journal ++ entries_of steps) (owed_of steps) 0 trade.providers to),
    )
    cut_in_order steps (Fails number fault) = (later_left (number + 1) site.waiting, λ to. omega arith)
    cut_in_order steps (Full number) = (later_left (number + 1) site.waiting, λ to. omega arith)
    cut_in_order steps (Stops number) = (later_left (number + 1) site.waiting, λ to. omega arith)
    cut_in_order steps (Unread number fault) = (later_left (number + 1) site.waiting, λ to. omega arith)
    cut_in_order steps (Sees looks cut) = cut_in_order steps cut
    cut_in_order steps (Other out) = (
      later_left (length steps) site.waiting,
      λ to.
          subst (λ (n : ℕ). length (slice_index_or (that_fit rooms 0 out) to []) ≤ rooms n) (let z : 0 + to ≡ to = omega arith in z) (fits out 0 to),
    )

    by_test : (b : Bool) (x y : Turned) → IsInOrder x → IsInOrder y → IsInOrder (if b then x else y)
    by_test true x y a b = a
    by_test false x y a b = b

    turn_in_order : (now : ℕ) (cut : Cut) → IsInOrder (turned trade provider now rooms cut site)
    unfolding turned
    turn_in_order now cut =
        by_test site.up _ _
        (by_test (nat_lt now (last_of trade provider site.journal)) _ _ ((λ from. (0, refl)), λ to. omega arith)
        (cut_in_order (steps_of trade provider now site cut) cut))
        ((λ from. (0, refl)), λ to. omega arith)

-- ---- rounds

-- What waits behind a round, link by link: what a turn left, and what the other one put.
abbrev pub WaitsBehind : Trade → ℕ → (ℕ → Cut) → List Site → Type 0
WaitsBehind trade now cuts sites = (from to : ℕ) → from < length sites → to < length sites
    → frames_between (rounded trade now cuts sites).sites from to
    ≡ slice_index_or (turn_at trade now cuts sites to).site.waiting from [] ++ slice_index_or (turn_at trade now cuts sites from).out to []

module _ (trade : Trade) (now : ℕ) (cuts : ℕ → Cut) (sites : List Site) (short : LinksAreShort sites) where
  in_order : (provider : ℕ) → IsInOrder trade provider (rooms_of sites provider) (site_at sites provider) (turn_at trade now cuts sites provider)
  in_order provider = turn_in_order trade provider (rooms_of sites provider) (site_at sites provider) now (cuts provider)

  pub is_plan : IsPlan (plan_of trade now cuts sites)
  is_plan link = record {
    takes = omega arith;
    room = let put = (in_order link.0).1 link.1 in let few = short link.0 link.1 in omega (arith, put, few);
  }

  pub leaves_the_round : WaitsBehind trade now cuts sites → (steps : List Step) → IsSchedule (plan_of trade now cuts sites) steps
      → LeavesTheRound trade now cuts sites steps
  leaves_the_round waits steps schedule =
      let ends = ends_so (plan_of trade now cuts sites) is_plan steps schedule in
      record {
        after = ends.after;
        runs = ends.runs;
        each = λ from to sends takes.
            let left : List Bytes = slice_index_or (turn_at trade now cuts sites to).site.waiting from [] in
            let put : List Bytes = slice_index_or (turn_at trade now cuts sites from).out to [] in
            let later = (in_order to).0 from in
            ap (λ (line : Line). line.frames) (ends.each (from, to))
            ∙ ap (λ (l : List Bytes). l ++ put) (fewer_left (frames_between sites from to) left later.0 later.1)
            ∙ sym (waits from to sends takes);
      }
