-- What was taken and is decided: it stays so, and the next pair to decide is among what isn't.
use Rattle.std.proofs.Common.{◌≡◌, ℕ, ◌<◌, Bool, true, false, cond, List, [], ◌∷◌, ◌++◌, length, map, refl, sym, ap, subst, ◌∙◌, arith, Option, Some, None, is_none, slice_get}
use Rattle.std.specs.List.{find, flat_map, range_with_len, remove}
use Rattle.std.specs.Option.{option_or}
use Rattle.std.proofs.lemmas.Bool.{false≢true}
use Rattle.std.proofs.lemmas.List.Folds.{find-append}
use Rattle.std.proofs.lemmas.Option.{slice_get_within}
use Rattle.pec_ledger.specs.Half.{Fate, Taken}
use Rattle.pec_ledger.specs.Pairs.{Pair, pair_of, same_pair}
use Rattle.pec_shelf.specs.Undecided.{IsDecided, is_open, pairs_at, pairs_of_row, pairs_taken}
use Rattle.pec_shelf.specs.Waiting.{AllElseDone, IsDoneAt}
use Rattle.pec_shelf.proofs.WaitingLemmas.{first_that_comes, more_rows, place_less, still_done}

-- ---- decisions more

still_closed : (a b : Option Fate) → is_none a ≡ false → is_none (option_or a b) ≡ false
still_closed None b e = absurd (false≢true (sym e))
still_closed (Some x) b e = refl

none_some : {X Y : Type 0} (x : X) → Some x ≡ None → Y
none_some x e = cc

still_none : (decided more : List Fate) (pairs : List Pair) → find (is_open decided) pairs ≡ None → find (is_open (decided ++ more)) pairs ≡ None
still_none decided more [] e = refl
still_none decided more (pair ∷ pairs) e =
    by (is_open decided pair) refl e (λ rest. still_none decided more pairs rest)
  where
    by : (b : Bool) → is_open decided pair ≡ b → cond b (Some pair) (find (is_open decided) pairs) ≡ None
        → (find (is_open decided) pairs ≡ None → find (is_open (decided ++ more)) pairs ≡ None)
        → cond (is_open (decided ++ more) pair) (Some pair) (find (is_open (decided ++ more)) pairs) ≡ None
    by true d none later = none_some pair none
    by false d none later =
        let closed : is_open (decided ++ more) pair ≡ false =
        ap is_none (find-append (λ (fate : Fate). same_pair pair fate.pair) decided more)
        ∙ still_closed (find (λ (fate : Fate). same_pair pair fate.pair) decided) (find (λ (fate : Fate). same_pair pair fate.pair) more) d in
        ap (λ (b : Bool). cond b (Some pair) (find (is_open (decided ++ more)) pairs)) closed ∙ later none

pub taken_more : (taken more new : List Taken) (decided fates later : List Fate) (places all : List ℕ) (first : ℕ) → AllElseDone (IsDecided decided) 0 taken places
    → new ≡ taken ++ more → later ≡ decided ++ fates → all ≡ places ++ range_with_len first (length more) → first ≡ length taken
    → AllElseDone (IsDecided later) 0 new all
taken_more taken more new decided fates later places all first done n l a f =
    let stays : AllElseDone (IsDecided (decided ++ fates)) 0 (taken ++ more) (places ++ range_with_len first (length more)) =
    still_done (IsDecided decided) (IsDecided (decided ++ fates)) 0 (taken ++ more) (places ++ range_with_len first (length more))
    (λ k row e. still_none decided fates (map (pair_of row.id) row.recipients) e)
    (more_rows (IsDecided decided) 0 first taken more places done (omega arith)) in
    subst (λ (fs : List Fate). AllElseDone (IsDecided fs) 0 new all) (sym l)
    (subst (λ (rows : List Taken). AllElseDone (IsDecided (decided ++ fates)) 0 rows all) (sym n)
    (subst (λ (ks : List ℕ). AllElseDone (IsDecided (decided ++ fates)) 0 (taken ++ more) ks) (sym a) stays))

-- ---- a row less

pub closed_within : {X : Type 0} (Done : ℕ → X → Type 0) (rows : List X) (places : List ℕ) (index : ℕ) → IsDoneAt Done rows places index → index < length places
closed_within Done rows places index done = slice_get_within places index done.place done.stands

pub closed_less : {X : Type 0} (Done : ℕ → X → Type 0) (rows : List X) (places less : List ℕ) (index : ℕ) → AllElseDone Done 0 rows places → IsDoneAt Done rows places index
    → less ≡ remove places index → AllElseDone Done 0 rows less
closed_less Done rows places less index all done is =
    place_less Done 0 rows places less index done.place all done.stands is
    (λ k row e got. let same : done.place ≡ k = omega arith in done.done row (ap (slice_get rows) same ∙ got))

-- ---- the next pair

pub first_is : (taken : List Taken) (decided : List Fate) (places : List ℕ) → AllElseDone (IsDecided decided) 0 taken places
    → find (is_open decided) (flat_map (pairs_at taken) places) ≡ find (is_open decided) (pairs_taken taken)
first_is taken decided places all =
    sym
    (first_that_comes (IsDecided decided) (is_open decided) (λ (row : Taken). map (pair_of row.id) row.recipients) (λ k row done. done) (pairs_at taken) 0 taken places all
    (λ m k row e got. let same : m ≡ k = omega arith in ap pairs_of_row (ap (slice_get taken) same ∙ got)))
