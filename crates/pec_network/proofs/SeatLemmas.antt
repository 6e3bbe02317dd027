-- Lists and rows of ends as a round moves them: from the front of one list to the end of another, and all at once.
use Rattle.std.proofs.Common.{◌≡◌, ℕ, zero, suc, ◌+◌, ◌<◌, ◌≤◌, List, [], ◌∷◌, ◌++◌, length, map, take, drop, get_or, set}
use Rattle.std.proofs.Common.{refl, ap, sym, subst, ◌∙◌, arith, Some, None, append_assoc}
use Rattle.std.specs.Prelude.{Option, Vec}
use Rattle.std.specs.List.{flat_map, remove}
use Rattle.std.specs.Option.{option_to_list}
use Rattle.std.specs.declared.alloc.Global.{Global}
use Rattle.std.proofs.Math.Seq.{drop-append_seam}
use Rattle.std.proofs.lemmas.List.{append-nil, drop_all, drop_more, get_or-map, get_or_at, length-map}
use Rattle.std.proofs.lemmas.List.{length-take-le, map-append, set_at, take_all, take_more}
use Rattle.pec_types.specs.Bytes.{Bytes}
use Rattle.pec_types.specs.declared.turns.Turn.{Turn}
use Rattle.pec_link.specs.Ends.{Putting, Taking}
use Rattle.pec_posts.specs.Arrivals.{Waiting}
use Rattle.pec_posts.specs.Parting.{AreJoined, AreRows, ends_in}
use Rattle.pec_rows.specs.Rows.{Known, known, knowns}
use Rattle.pec_network.specs.Working.{turns_told}

-- ---- from the front of one list to the end of another

-- what stands in elements that are put behind others
pub put_in : {S X : Type 0} (f : S → X) (slots later : List S) (slot : S) (old new all : List X)
    → later ≡ slots ++ slot ∷ [] → old ≡ f slot ∷ new → map f slots ++ old ≡ all → map f later ++ new ≡ all
put_in {S} {X} f slots later slot old new all more gone so_far =
    ap (λ (l : List S). map f l ++ new) more
    ∙ ap (λ (l : List X). l ++ new) (map-append f slots (slot ∷ []))
    ∙ append_assoc (map f slots) (f slot ∷ []) new
    ∙ ap (λ (l : List X). map f slots ++ l) (sym gone)
    ∙ so_far

-- what stands in elements that are taken from the front
pub taken_out : {S X : Type 0} (f : S → X) (slots left : List S) (slot : S) (now later all : List X)
    → slots ≡ slot ∷ left → later ≡ now ++ f slot ∷ [] → now ++ map f slots ≡ all → later ++ map f left ≡ all
taken_out {S} {X} f slots left slot now later all gone more so_far =
    ap (λ (l : List X). l ++ map f left) more
    ∙ append_assoc now (f slot ∷ []) (map f left)
    ∙ ap (λ (l : List S). now ++ map f l) (sym gone)
    ∙ so_far

abbrev told : {X : Type 0} → List (Option X) → List X
told {X} tolds = flat_map (λ (one : Option X). option_to_list one) tolds

-- what is told, of elements that are taken from the front
pub told_out : {S X : Type 0} (f : S → Option X) (slots left : List S) (slot : S) (now later all : List X)
    → slots ≡ slot ∷ left → later ≡ now ++ option_to_list (f slot) → now ++ told (map f slots) ≡ all → later ++ told (map f left) ≡ all
told_out {S} {X} f slots left slot now later all gone more so_far =
    ap (λ (l : List X). l ++ told (map f left)) more
    ∙ append_assoc now (option_to_list (f slot)) (told (map f left))
    ∙ ap (λ (l : List S). now ++ told (map f l)) (sym gone)
    ∙ so_far

pub told_one : {X : Type 0} (one : Option X) → length (option_to_list one) ≤ 1
told_one None = omega arith
told_one (Some x) = omega arith

told_few : {X : Type 0} (tolds : List (Option X)) → length (told tolds) ≤ length tolds
told_few [] = omega arith
told_few (None ∷ tolds) = let few = told_few tolds in omega arith
told_few (Some x ∷ tolds) = let few = told_few tolds in omega arith

-- as many are told as there are: all of them
pub all_told : {X : Type 0} (tolds : List (Option X)) → length (told tolds) ≡ length tolds → tolds ≡ map (λ (x : X). Some x) (told tolds)
all_told [] same = refl
all_told (None ∷ tolds) same = let few = told_few tolds in absurd (omega arith)
all_told (Some x ∷ tolds) same = ap (λ (more : List (Option _)). Some x ∷ more) (all_told tolds (omega arith))

-- the turns that are told are all
pub all_turns : (turns : List Turn) (tolds : List (Option Turn)) → turns ≡ turns_told tolds → length turns ≡ length tolds
    → tolds ≡ map (λ (turn : Turn). Some turn) turns
all_turns turns tolds is many =
    all_told tolds (ap (λ (l : List Turn). length l) (sym is) ∙ many)
    ∙ ap (λ (l : List Turn). map (λ (turn : Turn). Some turn) l) (sym is)

-- ---- the first so many of a list

-- the first so many of one list, and then those of another
abbrev pub mixed : {X : Type 0} → ℕ → List X → List X → List X
mixed count new old = take count new ++ drop count old

module _ {X : Type 0} where
  pub mixed_next : (new old : List X) (k : ℕ) (d : X) → k < length new → length new ≡ length old
      → set (mixed k new old) k (get_or new k d) ≡ mixed (k + 1) new old
  mixed_next new old k d l same =
      ap (λ (rest : List X). set (take k new ++ rest) k (get_or new k d)) (drop_more old k d (omega (arith, l, same)))
      ∙ set_at (take k new) (get_or old k d) (drop (k + 1) old) (get_or new k d) k (length-take-le k new (omega (arith, l)))
      ∙ sym (append_assoc (take k new) (get_or new k d ∷ []) (drop (k + 1) old))
      ∙ ap (λ (front : List X). front ++ drop (k + 1) old) (sym (take_more new k d l))

  pub mixed_at : (new old : List X) (k : ℕ) (d : X) → k < length old → length new ≡ length old
      → get_or (mixed k new old) k d ≡ get_or old k d
  mixed_at new old k d l same =
      ap (λ (rest : List X). get_or (take k new ++ rest) k d) (drop_more old k d l)
      ∙ get_or_at (take k new) (get_or old k d) (drop (k + 1) old) d k (length-take-le k new (omega (arith, l, same)))

  pub mixed_all : (new old : List X) (k : ℕ) → length new ≡ k → length old ≡ k → mixed k new old ≡ new
  mixed_all new old k one other =
      ap (λ (rest : List X). take k new ++ rest) (drop_all k old (omega (arith, other)))
      ∙ append-nil (take k new) ∙ take_all k new (omega (arith, one))

  -- an element of a list, by itself
  pub pick : (xs : List X) (k : ℕ) → k < length xs → (x : X) × (get_or xs k x ≡ x)
  pick [] k l = absurd (omega arith)
  pick (x ∷ xs) zero l = (x, refl)
  pick (x ∷ xs) (suc k) l = pick xs k (omega arith)

-- ---- one link

-- what its taker left, and behind it what its putter put
pub waits_behind : (taken waiting before put out : List Bytes) → taken ++ waiting ≡ before → put ≡ before ++ out
    → drop (length taken) put ≡ waiting ++ out
waits_behind taken waiting before put out fifo more =
    ap (λ (l : List Bytes). drop (length taken) l)
    (more ∙ ap (λ (l : List Bytes). l ++ out) (sym fifo) ∙ append_assoc taken waiting out)
    ∙ drop-append_seam taken (waiting ++ out)

-- what an end that takes knows, of a row that knows the same
pub known_same : (old new : List Taking) (from : ℕ) (other : Taking) → knowns new ≡ knowns old → from < length new
    → known (get_or new from other) ≡ known (get_or old from other)
known_same old new from other same l =
    let many = sym (length-map new known) ∙ ap (λ (k : List Known). length k) same ∙ length-map old known in
    sym (get_or-map known new from other (known other) l)
    ∙ ap (λ (k : List Known). get_or k from (known other)) same
    ∙ get_or-map known old from other (known other) (omega (arith, l, many))

-- ---- rows

-- rows of ends that are these
pub rows_again : (Holds : Putting → Taking → Type 0) (count : ℕ) (rows putters : List (List Putting)) (ends takers : List (List Taking))
    → rows ≡ putters → ends ≡ takers → AreRows Holds count putters takers → AreRows Holds (length rows) rows ends
rows_again Holds count rows putters ends takers are is holds =
    subst (λ (p : List (List Putting)). AreRows Holds (length p) p ends) (sym are)
    (subst (λ (t : List (List Taking)). AreRows Holds (length putters) putters t) (sym is)
    (subst (λ (n : ℕ). AreRows Holds n putters takers) (sym holds.senders) holds))

pub joined_again : (count : ℕ) (rows putters : List (List Putting)) (ends takers : List (List Taking)) (arrivals : List Waiting)
    → rows ≡ putters → ends ≡ takers → length putters ≡ count → AreJoined (length rows) rows ends arrivals
    → AreJoined count putters takers arrivals
joined_again count rows putters ends takers arrivals are is many joined =
    subst (λ (n : ℕ). AreJoined n putters takers arrivals) many
    (subst (λ (t : List (List Taking)). AreJoined (length putters) putters t arrivals) is
    (subst (λ (p : List (List Putting)). AreJoined (length p) p ends arrivals) are joined))

-- ---- lent lists

-- a list that was lent as a slice, with what was written there
pub lent_again : {X : Type 0} (list : Vec X Global) (lent new : List X) → lent ≡ list.items → length new ≡ length lent
    → take list.len (new ++ drop (length new) list.items) ≡ new
lent_again {X} list lent new is same =
    let many : length new ≡ length list.items = same ∙ ap (λ (l : List X). length l) is in
    let none = drop_all (length new) list.items (omega (arith, many)) in
    ap (λ (rest : List X). take list.len (new ++ rest)) none ∙ ap (λ (l : List X). take list.len l) (append-nil new)
    ∙ take_all list.len new (omega (arith, many, list.ok.0))

-- rows that were lent, and in which the ends of all links now stand
pub rows_lent : (rows : Vec (Vec Putting Global) Global) (lent new : List (Vec Putting Global)) (count : ℕ) → lent ≡ rows.items
    → length rows.items ≡ count → length (ends_in new) ≡ count → take rows.len (new ++ drop (length new) rows.items) ≡ new
rows_lent rows lent new count is many ends =
    lent_again rows lent new is
    (sym (length-map new (λ (row : Vec Putting Global). row.items)) ∙ ends ∙ sym many
    ∙ ap (λ (l : List (Vec Putting Global)). length l) (sym is))

-- what is removed from the front of a list stood there
pub first_gone : {X : Type 0} (old new : List X) (x : X) → 0 < length old → x ≡ get_or old 0 x → new ≡ remove old 0 → old ≡ x ∷ new
first_gone [] new x l is gone = absurd (omega arith)
first_gone (y ∷ ys) new x l is gone = ap (λ (z : _). z ∷ ys) (sym is) ∙ ap (λ (zs : _). x ∷ zs) (sym gone)
