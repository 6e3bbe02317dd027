-- Any schedule of a plan. A link behind some takes and some puts is told by their numbers alone (`line_at`), so in which
-- order they came makes no difference.
use Rattle.std.proofs.Common.{◌≡◌, ℕ, suc, ◌+◌, ◌<◌, ◌≤◌, Bool, true, false, List, [], ◌∷◌, ◌++◌, length, take, drop, get_or, refl, ap, sym, subst, ◌∙◌, arith, nat_lt, Some, None}
use Rattle.std.specs.Prelude.{◌==◌, if◌then◌else◌}
use Rattle.std.specs.Option.{option_and_then, option_map}
use Rattle.std.proofs.lemmas.Bool.{and_from, and_parts, eq-eqb, eqb-true, lt-ltb}
use Rattle.std.proofs.lemmas.Grind.{take_at_read}
use Rattle.std.proofs.lemmas.List.{append_assoc, append-nil, drop_all, drop_more, length-append, length-drop, length-take-le, take_all}
use Rattle.pec_types.specs.Bytes.{Bytes}
use Rattle.pec_plays.specs.Rounds.{link_size}
use Rattle.pec_schedules.specs.Schedules.{EndsSo, IsPlan, IsPlanned, IsSchedule, Line, Lines, Link, Plan, Planned, Put, Step, Take, begun, ended, first_taken, next_put, put_on, puts_on, ran, same_link, stepped, take_on, takes_on, with_line}

-- ---- links

links : (a b c d : ℕ) → a ≡ b → c ≡ d → (let one : Link = (a, c) in let other : Link = (b, d) in one ≡ other)
links a b c d e f = rw (e, f) refl

pub same_is : (a b : Link) → same_link a b ≡ true → a ≡ b
same_is a b e =
    let parts = and_parts (a.0 == b.0) (a.1 == b.1) e in
    links a.0 b.0 a.1 b.1 (eqb-true a.0 b.0 parts.0) (eqb-true a.1 b.1 parts.1)

same_again : (a : Link) → same_link a a ≡ true
same_again a = and_from (a.0 == a.0) (a.1 == a.1) (eq-eqb a.0 a.0 refl) (eq-eqb a.1 a.1 refl)

-- ---- one link

-- a link behind so many takes and so many puts
abbrev line_at : Planned → ℕ → ℕ → Line
line_at planned takes puts = record {
  frames = drop takes planned.waiting ++ take puts planned.puts;
  left = drop puts planned.puts;
  taken = take takes planned.waiting;
}

lines_same : (a b c d e f : List Bytes) → a ≡ b → c ≡ d → e ≡ f
    → (let one : Line = record { frames = a; left = c; taken = e } in let other : Line = record { frames = b; left = d; taken = f } in one ≡ other)
lines_same a b c d e f p q r = rw (p, q, r) refl

module _ (planned : Planned) (good : IsPlanned planned) (takes puts : ℕ) where
  put_there : takes ≤ planned.takes → puts < length planned.puts
      → put_on (line_at planned takes puts) ≡ Some (line_at planned takes (puts + 1))
  put_there few within =
      let line : Line = line_at planned takes puts in
      let frame : Bytes = get_or planned.puts puts [] in
      let fits : nat_lt (length line.frames) link_size ≡ true =
      lt-ltb (length line.frames) link_size
      (omega (
        arith,
        good.takes,
        good.room,
        length-append (drop takes planned.waiting) (take puts planned.puts),
        length-drop takes planned.waiting,
        length-take-le puts planned.puts (omega arith),
      )) in
      let more : drop puts planned.puts ≡ frame ∷ drop (puts + 1) planned.puts = drop_more planned.puts puts [] within in
      let all : line.frames ++ frame ∷ [] ≡ drop takes planned.waiting ++ take (puts + 1) planned.puts =
      append_assoc (drop takes planned.waiting) (take puts planned.puts) (frame ∷ [])
      ∙ ap (λ (l : List Bytes). drop takes planned.waiting ++ l) (sym (take_at_read planned.puts puts [] within).1) in
      ap (λ (b : Bool). if b then next_put line line.left else None) fits
      ∙ ap (next_put line) more
      ∙ ap Some (lines_same (line.frames ++ frame ∷ []) (drop takes planned.waiting ++ take (puts + 1) planned.puts)
      (drop (puts + 1) planned.puts) (drop (puts + 1) planned.puts) line.taken line.taken all refl refl)

  taken_there : takes < planned.takes → take_on (line_at planned takes puts) ≡ Some (line_at planned (takes + 1) puts)
  taken_there few =
      let within : takes < length planned.waiting = omega (arith, good.takes) in
      let line : Line = line_at planned takes puts in
      let frame : Bytes = get_or planned.waiting takes [] in
      let rest : List Bytes = drop (takes + 1) planned.waiting ++ take puts planned.puts in
      let more : line.frames ≡ frame ∷ rest =
      ap (λ (l : List Bytes). l ++ take puts planned.puts) (drop_more planned.waiting takes [] within) in
      ap (first_taken line) more
      ∙ ap Some (lines_same rest rest line.left line.left (line.taken ++ frame ∷ []) (take (takes + 1) planned.waiting)
      refl refl (sym (take_at_read planned.waiting takes [] within).1))

  all_done : takes ≡ planned.takes → puts ≡ length planned.puts → line_at planned takes puts ≡ ended planned
  all_done t p =
      lines_same (drop takes planned.waiting ++ take puts planned.puts) (drop planned.takes planned.waiting ++ planned.puts)
      (drop puts planned.puts) [] (take takes planned.waiting) (take planned.takes planned.waiting)
      (ap (λ (n : ℕ). drop n planned.waiting ++ take puts planned.puts) t
      ∙ ap (λ (l : List Bytes). drop planned.takes planned.waiting ++ l) (take_all puts planned.puts (omega arith)))
      (drop_all puts planned.puts (omega arith))
      (ap (λ (n : ℕ). take n planned.waiting) t)

-- ---- all links

-- one more on one link
abbrev one_more : Link → (Link → ℕ) → Link → ℕ
one_more at count link = if same_link at link then count link + 1 else count link

counted : (b : Bool) (done left all : ℕ) → done + (if b then suc left else left) ≡ all → (if b then done + 1 else done) + left ≡ all
counted true done left all e = omega arith
counted false done left all e = e

counted_here : (at : Link) (done left all : ℕ) → done + (if same_link at at then suc left else left) ≡ all → done < all
counted_here at done left all e =
    let here : done + suc left ≡ all = ap (λ (b : Bool). done + (if b then suc left else left)) (sym (same_again at)) ∙ e in
    omega arith

module _ (plan : Plan) (good : IsPlan plan) where
  -- each link is told by the numbers of its takes and puts
  abbrev AreAt : Lines → (Link → ℕ) → (Link → ℕ) → Type 0
  AreAt lines takes puts = (link : Link) → lines link ≡ line_at (plan link) (takes link) (puts link)

  -- What is left of a schedule.
  record IsLeft (takes puts : Link → ℕ) (steps : List Step) : Type 0 where
    takes_left : (link : Link) → takes link + takes_on link steps ≡ (plan link).takes
    puts_left : (link : Link) → puts link + puts_on link steps ≡ length (plan link).puts

  at_put : (lines : Lines) (takes puts : Link → ℕ) (at : Link) → AreAt lines takes puts
      → AreAt (with_line lines at (line_at (plan at) (takes at) (puts at + 1))) takes (one_more at puts)
  at_put lines takes puts at are link = by_test (same_link at link) refl
    where
      by_test : (b : Bool) → same_link at link ≡ b
          → (if b then line_at (plan at) (takes at) (puts at + 1) else lines link)
          ≡ line_at (plan link) (takes link) (if b then puts link + 1 else puts link)
      by_test true e =
          subst (λ (l : Link). line_at (plan at) (takes at) (puts at + 1) ≡ line_at (plan l) (takes l) (puts l + 1)) (same_is at link e) refl
      by_test false e = are link

  at_take : (lines : Lines) (takes puts : Link → ℕ) (at : Link) → AreAt lines takes puts
      → AreAt (with_line lines at (line_at (plan at) (takes at + 1) (puts at))) (one_more at takes) puts
  at_take lines takes puts at are link = by_test (same_link at link) refl
    where
      by_test : (b : Bool) → same_link at link ≡ b
          → (if b then line_at (plan at) (takes at + 1) (puts at) else lines link)
          ≡ line_at (plan link) (if b then takes link + 1 else takes link) (puts link)
      by_test true e =
          subst (λ (l : Link). line_at (plan at) (takes at + 1) (puts at) ≡ line_at (plan l) (takes l + 1) (puts l)) (same_is at link e) refl
      by_test false e = are link

  abbrev Ends : List Step → Lines → Type 0
  Ends steps lines = (after : Lines) × (ran steps lines ≡ Some after) × ((link : Link) → after link ≡ ended (plan link))

  runs_on : (steps : List Step) (lines : Lines) (takes puts : Link → ℕ) → AreAt lines takes puts → IsLeft takes puts steps → Ends steps lines
  runs_on [] lines takes puts are left = (
    lines,
    refl,
    λ link.
        are link ∙ all_done (plan link) (good link) (takes link) (puts link)
        (let e = left.takes_left link in omega arith) (let e = left.puts_left link in omega arith),
  )
  runs_on (Put at ∷ steps) lines takes puts are left =
      let next : Line = line_at (plan at) (takes at) (puts at + 1) in
      let few : takes at ≤ (plan at).takes = let e = left.takes_left at in omega arith in
      let some : puts at < length (plan at).puts =
      counted_here at (puts at) (puts_on at steps) (length (plan at).puts) (left.puts_left at) in
      let done : stepped (Put at) lines ≡ Some (with_line lines at next) =
      ap (λ (line : Line). option_map (with_line lines at) (put_on line)) (are at)
      ∙ ap (option_map (with_line lines at)) (put_there (plan at) (good at) (takes at) (puts at) few some) in
      let rest = runs_on steps (with_line lines at next) takes (one_more at puts) (at_put lines takes puts at are)
      (record {
        takes_left = left.takes_left;
        puts_left = λ link. counted (same_link at link) (puts link) (puts_on link steps) (length (plan link).puts) (left.puts_left link);
      }) in
      (rest.0, ap (option_and_then (ran steps)) done ∙ rest.1, rest.2)
  runs_on (Take at ∷ steps) lines takes puts are left =
      let next : Line = line_at (plan at) (takes at + 1) (puts at) in
      let some : takes at < (plan at).takes =
      counted_here at (takes at) (takes_on at steps) (plan at).takes (left.takes_left at) in
      let done : stepped (Take at) lines ≡ Some (with_line lines at next) =
      ap (λ (line : Line). option_map (with_line lines at) (take_on line)) (are at)
      ∙ ap (option_map (with_line lines at)) (taken_there (plan at) (good at) (takes at) (puts at) some) in
      let rest = runs_on steps (with_line lines at next) (one_more at takes) puts (at_take lines takes puts at are)
      (record {
        takes_left = λ link. counted (same_link at link) (takes link) (takes_on link steps) (plan link).takes (left.takes_left link);
        puts_left = left.puts_left;
      }) in
      (rest.0, ap (option_and_then (ran steps)) done ∙ rest.1, rest.2)

  pub ends_so : (steps : List Step) → IsSchedule plan steps → EndsSo plan steps
  ends_so steps schedule =
      let found = runs_on steps (begun plan) (λ link. 0) (λ link. 0)
      (λ link. lines_same (plan link).waiting ((plan link).waiting ++ []) (plan link).puts (plan link).puts [] []
      (sym (append-nil (plan link).waiting)) refl refl)
      (record {
        takes_left = λ link. let none : 0 + takes_on link steps ≡ takes_on link steps = omega arith in none ∙ schedule.takes link;
        puts_left = λ link. let none : 0 + puts_on link steps ≡ puts_on link steps = omega arith in none ∙ schedule.puts link;
      }) in
      record { after = found.0; runs = found.1; each = found.2 }
