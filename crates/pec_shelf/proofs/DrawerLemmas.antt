-- Rows of accounts and their ranks: one row more, and the row of a rank.
use Rattle.std.proofs.Common.{◌≡◌, ℕ, zero, suc, ◌+◌, ◌<◌, ◌≤◌, ◌==◌, Bool, true, false, cond, ◌&&◌, List, [], ◌∷◌, ◌++◌, length, map, take, find, refl, sym, ap, subst, ◌∙◌, arith, append_assoc, append-nil, length-append, Option, Some, None, slice_get}
use Rattle.std.specs.List.{filter, flat_map}
use Rattle.std.specs.Option.{option_map, option_or}
use Rattle.std.specs.Cmp.Lexicographic.{bytes_decides}
use Rattle.std.proofs.lemmas.Bool.{and_from, eq-eqb, false≢true}
use Rattle.std.proofs.lemmas.Bool.Decides.{nat_tests}
use Rattle.std.proofs.lemmas.Grind.{flat_map-append}
use Rattle.std.proofs.lemmas.List.{length-map, map-append, take_more}
use Rattle.std.proofs.lemmas.List.Elements.{filter-append}
use Rattle.std.proofs.lemmas.Option.{get_or_from_slice_get, slice_get-map, slice_get_within}
use Rattle.std.proofs.Math.Seq.{take-length}
use Rattle.pec_types.specs.Bytes.{Bytes}
use Rattle.pec_places.specs.Places.{last_place}
use Rattle.pec_shelf.specs.Keys.{number_of_owned, number_of_rank, owners_in}
use Rattle.pec_shelf.specs.KeyLaws.{of_owned}
use Rattle.pec_shelf.specs.Drawers.{AreRanked, IsRankOf, RankedRow, counted_of, is_own, own_numbered, own_rows, placed_row, rows_in}

none_some : {X Y : Type 0} (x : X) → None ≡ Some x → Y
none_some x e = cc

same_some : {X : Type 0} (x y : X) → Some x ≡ Some y → x ≡ y
same_some x y e = cc

-- ---- one row more

pub ranked_more : {R : Type 0} (owner : R → Option Bytes) (counts : R → Bool) (front : List R) (ranked : List (RankedRow R)) (row : RankedRow R)
    → AreRanked owner counts front ranked → IsRankOf owner counts (front ++ rows_in ranked) row → AreRanked owner counts front (ranked ++ row ∷ [])
ranked_more owner counts front [] row are is = (subst (λ rows. IsRankOf owner counts rows row) (append-nil front) is, tt)
ranked_more owner counts front (x ∷ xs) row are is = (
  are.0,
  ranked_more owner counts (front ++ x.row ∷ []) xs row are.1 (subst (λ rows. IsRankOf owner counts rows row) (sym (append_assoc front (x.row ∷ []) (rows_in xs))) is),
)

owner_is : (account : Bytes) (owner : Option Bytes) → is_own account owner ≡ true → owner ≡ Some account
owner_is account None own = absurd (false≢true own)
owner_is account (Some owner) own = ap Some (sym ((bytes_decides account owner).0 own))

own_owner : (account : Bytes) (owner : Option Bytes) → owner ≡ Some account → is_own account owner ≡ true
own_owner account None e = none_some account e
own_owner account (Some owner) e = (bytes_decides account owner).1 (sym (same_some owner account e))

-- ---- the rows of an account, with and without places

own_at : {R : Type 0} (owner : R → Option Bytes) (account : Bytes) (front : List R) (row : R) (b : Bool) → is_own account (owner row) ≡ b
    → own_rows owner account (front ++ row ∷ []) ≡ own_rows owner account front ++ cond b (row ∷ []) []
own_at owner account front row b e =
    filter-append (λ r. is_own account (owner r)) front (row ∷ []) ∙ ap (λ c. own_rows owner account front ++ cond c (row ∷ []) []) e

pub without_places : {R : Type 0} (owner : R → Option Bytes) (account : Bytes) (place : ℕ) (rows : List R)
    → map (λ (p : ℕ × R). p.1) (own_numbered owner account place rows) ≡ own_rows owner account rows
without_places owner account place [] = refl
without_places {R} owner account place (row ∷ rows) = by (is_own account (owner row)) (without_places owner account (place + 1) rows)
  where
    by : (b : Bool) → map (λ (p : ℕ × R). p.1) (own_numbered owner account (place + 1) rows) ≡ own_rows owner account rows
        → map (λ (p : ℕ × R). p.1) (cond b ((place, row) ∷ own_numbered owner account (place + 1) rows) (own_numbered owner account (place + 1) rows)) ≡ cond b (row ∷ own_rows owner account rows) (own_rows owner account rows)
    by true more = ap (λ rs. row ∷ rs) more
    by false more = more

-- ---- the row of a rank

-- of some rows of one account, behind as many that are counted, the one of a rank
pub record Finds {R : Type 0} (counts : R → Bool) (own : List (ℕ × R)) (before rank : ℕ) (found : Option (RankedRow R)) : Type 0 where
  pub row : option_map placed_row found ≡ slice_get own rank
  pub counted : (r : RankedRow R) → found ≡ Some r → r.counted ≡ before + length (filter (λ (p : ℕ × R). counts p.1) (take (suc rank) own))

counted_more : {R : Type 0} (owner : R → Option Bytes) (counts : R → Bool) (account : Bytes) (front : List R) (row : R) → is_own account (owner row) ≡ true
    → counted_of owner counts account (front ++ row ∷ []) ≡ counted_of owner counts account front + length (filter counts (row ∷ []))
counted_more owner counts account front row own =
    ap (λ rows. length (filter counts rows)) (own_at owner account front row true own)
    ∙ ap length (filter-append counts (own_rows owner account front) (row ∷ []))
    ∙ length-append (filter counts (own_rows owner account front)) (filter counts (row ∷ []))

first_counted : {R : Type 0} (counts : R → Bool) (place : ℕ) (row : R) (rows : List (ℕ × R))
    → length (filter (λ (p : ℕ × R). counts p.1) ((place, row) ∷ rows)) ≡ length (filter counts (row ∷ [])) + length (filter (λ (p : ℕ × R). counts p.1) rows)
first_counted {R} counts place row rows = by (counts row)
  where
    by : (b : Bool) → length (cond b ((place, row) ∷ filter (λ (p : ℕ × R). counts p.1) rows) (filter (λ (p : ℕ × R). counts p.1) rows)) ≡ length (cond b (row ∷ []) []) + length (filter (λ (p : ℕ × R). counts p.1) rows)
    by true = omega arith
    by false = omega arith

same_rank : (n rank before : ℕ) → rank ≡ before → n ≡ before + 0 → (n == rank) ≡ true
same_rank n rank before r e = grind (arith, nat_tests)

later_rank : (n rank before k : ℕ) → rank ≡ before → n ≡ before + suc k → (n == rank) ≡ false
later_rank n rank before k r e = grind (arith, nat_tests)

head_at : {R : Type 0} (owner : R → Option Bytes) (counts : R → Bool) (account : Bytes) (front : List R) (x : RankedRow R) (own : List (ℕ × R)) (later : Option (RankedRow R)) (n rank : ℕ)
    → is_own account (owner x.row) ≡ true → IsRankOf owner counts front x → n ≡ length (own_rows owner account front) + rank
    → ((k : ℕ) → n ≡ length (own_rows owner account (front ++ x.row ∷ [])) + k → Finds counts own (counted_of owner counts account (front ++ x.row ∷ [])) k later)
    → Finds counts ((length front, x.row) ∷ own) (counted_of owner counts account front) rank (cond (n == x.rank) (Some x) later)
head_at {R} owner counts account front x own later n zero mine is e more =
    let here = owner_is account (owner x.row) mine in
    let up_to = is.counted account here in
    let more_by = counted_more owner counts account front x.row mine in
    let one = first_counted counts (length front) x.row [] in
    let counted : x.counted ≡ counted_of owner counts account front + length (filter (λ (p : ℕ × R). counts p.1) ((length front, x.row) ∷ [])) =
    omega (arith, up_to, more_by, one) in
    subst (λ (b : Bool). Finds counts ((length front, x.row) ∷ own) (counted_of owner counts account front) 0 (cond b (Some x) later)) (sym (same_rank n x.rank (length (own_rows owner account front)) (is.rank account here) e))
    (record {
      row = ap (λ (k : ℕ). Some (k, x.row)) is.place;
      counted = λ r s. ap (λ (y : RankedRow R). y.counted) (sym (same_some x r s)) ∙ counted;
    })
head_at {R} owner counts account front x own later n (suc k) mine is e more =
    let here = owner_is account (owner x.row) mine in
    let longer : length (own_rows owner account (front ++ x.row ∷ [])) ≡ length (own_rows owner account front) + 1 =
    ap length (own_at owner account front x.row true mine) ∙ length-append (own_rows owner account front) (x.row ∷ []) in
    let so = more k (omega (arith, e, longer)) in
    subst (λ (b : Bool). Finds counts ((length front, x.row) ∷ own) (counted_of owner counts account front) (suc k) (cond b (Some x) later)) (sym (later_rank n x.rank (length (own_rows owner account front)) k (is.rank account here) e))
    (record {
      row = so.row;
      counted = λ r s.
          let one = so.counted r s in
          let first = first_counted counts (length front) x.row (take (suc k) own) in
          let seen = counted_more owner counts account front x.row mine in
          omega (arith, one, first, seen);
    })

abbrev sought : {R : Type 0} → (R → Option Bytes) → Bytes → ℕ → List (RankedRow R) → Option (RankedRow R)
sought {R} owner account n xs = find (λ (r : RankedRow R). is_own account (owner r.row) && (n == r.rank)) xs

find_at : {R : Type 0} (owner : R → Option Bytes) (counts : R → Bool) (account : Bytes) (front : List R) (xs : List (RankedRow R)) (n rank : ℕ)
    → AreRanked owner counts front xs → n ≡ length (own_rows owner account front) + rank
    → Finds counts (own_numbered owner account (length front) (rows_in xs)) (counted_of owner counts account front) rank (sought owner account n xs)
find_at owner counts account front [] n rank are e = record { row = refl; counted = λ r s. none_some r s }
find_at {R} owner counts account front (x ∷ xs) n rank are e =
    by (is_own account (owner x.row)) refl
    (λ k d. subst (λ (place : ℕ). Finds counts (own_numbered owner account place (rows_in xs)) (counted_of owner counts account (front ++ x.row ∷ [])) k (sought owner account n xs))
    (length-append front (x.row ∷ [])) (find_at owner counts account (front ++ x.row ∷ []) xs n k are.1 d))
  where
    by : (b : Bool) → is_own account (owner x.row) ≡ b
        → ((k : ℕ) → n ≡ length (own_rows owner account (front ++ x.row ∷ [])) + k
        → Finds counts (own_numbered owner account (length front + 1) (rows_in xs)) (counted_of owner counts account (front ++ x.row ∷ [])) k (sought owner account n xs))
        → Finds counts (cond b ((length front, x.row) ∷ own_numbered owner account (length front + 1) (rows_in xs)) (own_numbered owner account (length front + 1) (rows_in xs)))
        (counted_of owner counts account front) rank (cond (b && (n == x.rank)) (Some x) (sought owner account n xs))
    by true own more = head_at owner counts account front x (own_numbered owner account (length front + 1) (rows_in xs)) (sought owner account n xs) n rank own are.0 e more
    by false own more =
        let same : own_rows owner account (front ++ x.row ∷ []) ≡ own_rows owner account front = own_at owner account front x.row false own ∙ append-nil (own_rows owner account front) in
        subst (λ (before : ℕ). Finds counts (own_numbered owner account (length front + 1) (rows_in xs)) before rank (sought owner account n xs)) (ap (λ (rows : List R). length (filter counts rows)) same)
        (more rank (e ∙ ap (λ (rows : List R). length rows + rank) (sym same)))

-- the row of a rank, of all rows
pub find_of : {R : Type 0} (owner : R → Option Bytes) (counts : R → Bool) (account : Bytes) (xs : List (RankedRow R)) (rank : ℕ)
    → AreRanked owner counts [] xs
    → Finds counts (own_numbered owner account 0 (rows_in xs)) 0 rank (find (λ (r : RankedRow R). is_own account (owner r.row) && (rank == r.rank)) xs)
find_of owner counts account xs rank are = find_at owner counts account [] xs rank rank are (omega arith)

-- the row alone
pub row_alone : {R : Type 0} (owner : R → Option Bytes) (account : Bytes) (rows : List R) (found : Option (RankedRow R)) (rank : ℕ)
    → option_map placed_row found ≡ slice_get (own_numbered owner account 0 rows) rank
    → option_map (λ (r : RankedRow R). r.row) found ≡ slice_get (own_rows owner account rows) rank
row_alone {R} owner account rows found rank e =
    twice found ∙ ap (option_map (λ (p : ℕ × R). p.1)) e ∙ sym (slice_get-map (λ (p : ℕ × R). p.1) (own_numbered owner account 0 rows) rank)
    ∙ ap (λ (rs : List R). slice_get rs rank) (without_places owner account 0 rows)
  where
    twice : (o : Option (RankedRow R)) → option_map (λ (r : RankedRow R). r.row) o ≡ option_map (λ (p : ℕ × R). p.1) (option_map placed_row o)
    twice None = refl
    twice (Some r) = refl

-- ---- how many there are

pub past_none : {Y : Type 0} (ys : List Y) (k : ℕ) → slice_get ys k ≡ None → length ys ≤ k
past_none [] k e = omega arith
past_none (y ∷ ys) zero e = none_some y (sym e)
past_none (y ∷ ys) (suc k) e = let short = past_none ys k e in omega arith

pub filter_short : {X : Type 0} (p : X → Bool) (xs : List X) → length (filter p xs) ≤ length xs
filter_short p [] = omega arith
filter_short {X} p (x ∷ xs) = by (p x) (filter_short p xs)
  where
    by : (b : Bool) → length (filter p xs) ≤ length xs → length (cond b (x ∷ filter p xs) (filter p xs)) ≤ suc (length xs)
    by true l = omega arith
    by false l = omega arith

pub map_twice : {X Y Z : Type 0} (o : Option X) (f : X → Y) (g : Y → Z) → option_map (λ x. g (f x)) o ≡ option_map g (option_map f o)
map_twice None f g = refl
map_twice (Some x) f g = refl

counts_alone : {R : Type 0} (counts : R → Bool) (ps : List (ℕ × R)) → length (filter (λ (p : ℕ × R). counts p.1) ps) ≡ length (filter counts (map (λ (p : ℕ × R). p.1) ps))
counts_alone counts [] = refl
counts_alone {R} counts (p ∷ ps) = by (counts p.1) (counts_alone counts ps)
  where
    by : (b : Bool) → length (filter (λ (q : ℕ × R). counts q.1) ps) ≡ length (filter counts (map (λ (q : ℕ × R). q.1) ps))
        → length (cond b (p ∷ filter (λ (q : ℕ × R). counts q.1) ps) (filter (λ (q : ℕ × R). counts q.1) ps))
        ≡ length (cond b (p.1 ∷ filter counts (map (λ (q : ℕ × R). q.1) ps)) (filter counts (map (λ (q : ℕ × R). q.1) ps)))
    by true more = ap suc more
    by false more = more

-- the count of the last row is that of all
pub last_counts : {R : Type 0} (owner : R → Option Bytes) (counts : R → Bool) (account : Bytes) (rows : List R) (rank : ℕ) (found : Option (RankedRow R)) (r : RankedRow R)
    → Finds counts (own_numbered owner account 0 rows) 0 rank found → found ≡ Some r → suc rank ≡ length (own_rows owner account rows)
    → r.counted ≡ counted_of owner counts account rows
last_counts {R} owner counts account rows rank found r finds is last =
    let places = without_places owner account 0 rows in
    let long : suc rank ≡ length (own_numbered owner account 0 rows) =
    last ∙ ap (λ (rs : List R). length rs) (sym places) ∙ length-map (own_numbered owner account 0 rows) (λ (p : ℕ × R). p.1) in
    let all : take (suc rank) (own_numbered owner account 0 rows) ≡ own_numbered owner account 0 rows =
    ap (λ k. take k (own_numbered owner account 0 rows)) long ∙ take-length (own_numbered owner account 0 rows) in
    let here = finds.counted r is in
    let same : length (filter (λ (p : ℕ × R). counts p.1) (take (suc rank) (own_numbered owner account 0 rows))) ≡ counted_of owner counts account rows =
    ap (λ ps. length (filter (λ (p : ℕ × R). counts p.1) ps)) all ∙ counts_alone counts (own_numbered owner account 0 rows) ∙ ap (λ (rs : List R). length (filter counts rs)) places in
    omega (arith, here, same)

-- ---- over the rows of an account, in order of rank

pub place_within : {R : Type 0} (owner : R → Option Bytes) (account : Bytes) (place : ℕ) (rows : List R) (rank : ℕ) (p : ℕ × R)
    → Some p ≡ slice_get (own_numbered owner account place rows) rank → p.0 < place + length rows
place_within owner account place [] rank p e = none_some p (sym e)
place_within {R} owner account place (row ∷ rows) rank p e = by (is_own account (owner row)) rank e (λ k d. place_within owner account (place + 1) rows k p d)
  where
    by : (b : Bool) (k : ℕ) → Some p ≡ slice_get (cond b ((place, row) ∷ own_numbered owner account (place + 1) rows) (own_numbered owner account (place + 1) rows)) k
        → ((j : ℕ) → Some p ≡ slice_get (own_numbered owner account (place + 1) rows) j → p.0 < (place + 1) + length rows)
        → p.0 < place + suc (length rows)
    by true zero d more = let same : p.0 ≡ place = ap (λ (q : ℕ × R). q.0) (same_some p (place, row) d) in omega arith
    by true (suc k) d more = let less = more k d in omega arith
    by false k d more = let less = more k d in omega arith

pub without_places_long : {R : Type 0} (owner : R → Option Bytes) (account : Bytes) (place : ℕ) (rows : List R)
    → length (own_numbered owner account place rows) ≡ length (own_rows owner account rows)
without_places_long {R} owner account place rows =
    sym (length-map (own_numbered owner account place rows) (λ (p : ℕ × R). p.1)) ∙ ap (λ (rs : List R). length rs) (without_places owner account place rows)

pub took_all : {X : Type 0} (xs : List X) (n : ℕ) → length xs ≤ n → take n xs ≡ xs
took_all [] zero l = refl
took_all [] (suc n) l = refl
took_all (x ∷ xs) zero l = absurd (omega arith)
took_all (x ∷ xs) (suc n) l = ap (λ ys. x ∷ ys) (took_all xs n (omega arith))

pub took_more : {X : Type 0} (xs : List X) (n : ℕ) (x : X) → Some x ≡ slice_get xs n → take (n + 1) xs ≡ take n xs ++ x ∷ []
took_more xs n x e =
    take_more xs n x (slice_get_within xs n x (sym e)) ∙ ap (λ y. take n xs ++ y ∷ []) (get_or_from_slice_get xs n x x (sym e))

pub map_more : {X Y : Type 0} (f : X → Y) (xs : List X) (n : ℕ) (x : X) (old new : List Y) → old ≡ map f (take n xs) → Some x ≡ slice_get xs n
    → new ≡ old ++ f x ∷ [] → new ≡ map f (take (n + 1) xs)
map_more f xs n x old new h e more =
    more ∙ ap (λ ys. ys ++ f x ∷ []) h ∙ sym (ap (map f) (took_more xs n x e) ∙ map-append f (take n xs) (x ∷ []))

pub flat_more : {X Y : Type 0} (f : X → List Y) (xs : List X) (n : ℕ) (x : X) (old new : List Y) → old ≡ flat_map f (take n xs) → Some x ≡ slice_get xs n
    → new ≡ old ++ f x → new ≡ flat_map f (take (n + 1) xs)
flat_more f xs n x old new h e more =
    more ∙ ap (λ ys. ys ++ f x) h
    ∙ sym (ap (flat_map f) (took_more xs n x e) ∙ flat_map-append f (take n xs) (x ∷ []) ∙ ap (λ ys. flat_map f (take n xs) ++ ys) (append-nil (f x)))

-- ---- the rank of a row behind all others

one_counts : {R : Type 0} (counts : R → Bool) (row : R) → length (filter counts (row ∷ [])) ≡ cond (counts row) 1 0
one_counts {R} counts row = by (counts row)
  where
    by : (b : Bool) → length (cond b (row ∷ []) []) ≡ cond b 1 0
    by true = refl
    by false = refl

pub rank_is : {R : Type 0} (owner : R → Option Bytes) (counts : R → Bool) (front : List R) (row : R) (found : Bytes) (place rank before one counted : ℕ)
    → Some found ≡ owner row → place ≡ length front → rank ≡ length (own_rows owner found front) → before ≡ counted_of owner counts found front
    → one ≡ cond (counts row) 1 0 → counted ≡ before + one
    → IsRankOf owner counts front (record { row = row; place = place; rank = rank; counted = counted })
rank_is owner counts front row found place rank before one counted own p r b o c = record {
  place = p;
  rank = λ account e. r ∙ ap (λ (a : Bytes). length (own_rows owner a front)) (same_some found account (own ∙ e));
  counted = λ account e.
      let same = same_some found account (own ∙ e) in
      let up_to : before ≡ counted_of owner counts account front = b ∙ ap (λ (a : Bytes). counted_of owner counts a front) same in
      let more = counted_more owner counts account front row (own_owner account (owner row) e) in
      let last : one ≡ length (filter counts (row ∷ [])) = o ∙ sym (one_counts counts row) in
      omega (arith, c, up_to, more, last);
}

-- nothing was found at a rank: there are no more
pub no_place : {R : Type 0} (own : List (ℕ × R)) (rank : ℕ) (found : Option (RankedRow R)) → found ≡ None → option_map placed_row found ≡ slice_get own rank → length own ≤ rank
no_place own rank found none e = past_none own rank (sym e ∙ ap (option_map placed_row) none)

-- ---- the last row of an account

module _ {R : Type 0} (owner : R → Option Bytes) (counts : R → Bool) (account : Bytes) where
  abbrev here : ℕ
  here = number_of_rank account 0

  -- an own row has the account's number
  own_number : (x : RankedRow R) → is_own account (owner x.row) ≡ true → (here == number_of_owned (owner x.row) 0) ≡ true
  own_number x own = eq-eqb here (number_of_owned (owner x.row) 0)
      (sym (of_owned account (owner x.row) 0 0 (and_from (is_own account (owner x.row)) (0 == 0) own refl)))

  -- where the number stands nowhere there is no own row
  none_own : (xs : List (RankedRow R)) → last_place here (owners_in owner xs) ≡ None → own_rows owner account (rows_in xs) ≡ []
  none_own [] e = refl
  none_own (x ∷ xs) e =
      by (last_place here (owners_in owner xs)) (λ r. none_own xs r) refl e (is_own account (owner x.row)) refl
    where
      by : (o : Option ℕ) → (last_place here (owners_in owner xs) ≡ None → own_rows owner account (rows_in xs) ≡ [])
          → last_place here (owners_in owner xs) ≡ o
          → option_or (option_map suc o) (cond (here == number_of_owned (owner x.row) 0) (Some 0) None) ≡ None
          → (b : Bool) → is_own account (owner x.row) ≡ b
          → cond b (x.row ∷ own_rows owner account (rows_in xs)) (own_rows owner account (rows_in xs)) ≡ []
      by (Some k) more r e b own = absurd cc
      by None more r e true own =
          absurd (none_some 0 (sym e ∙ ap (λ (b : Bool). cond b (Some 0) None) (own_number x own)))
      by None more r e false own = more r

  -- rows behind that are another's change nothing
  own_before : (front : List R) (row : R) (rest : List R) → own_rows owner account rest ≡ []
      → own_rows owner account (front ++ row ∷ rest) ≡ own_rows owner account (front ++ row ∷ [])
  own_before front row rest none =
      ap (own_rows owner account) (sym (append_assoc front (row ∷ []) rest))
      ∙ filter-append (λ r. is_own account (owner r)) (front ++ row ∷ []) rest
      ∙ ap (λ (rows : List R). own_rows owner account (front ++ row ∷ []) ++ rows) none
      ∙ append-nil (own_rows owner account (front ++ row ∷ []))

  -- the last row of an account tells how many rows it has, and how many are counted
  pub record IsLast (rows : List R) (ranked : RankedRow R) : Type 0 where
    pub rank : ranked.rank + 1 ≡ length (own_rows owner account rows)
    pub counted : ranked.counted ≡ counted_of owner counts account rows

  last_here : (front : List R) (x : RankedRow R) (rest : List R) → IsRankOf owner counts front x
      → is_own account (owner x.row) ≡ true → own_rows owner account rest ≡ []
      → IsLast (front ++ x.row ∷ rest) x
  last_here front x rest is own none =
      let mine = owner_is account (owner x.row) own in
      let same = own_before front x.row rest none in
      let longer : length (own_rows owner account (front ++ x.row ∷ [])) ≡ length (own_rows owner account front) + 1 =
      ap length (own_at owner account front x.row true own) ∙ length-append (own_rows owner account front) (x.row ∷ []) in
      let rank = is.rank account mine in
      let all = ap (λ (rows : List R). length rows) same in record {
        rank = omega (arith, rank, longer, all);
        counted = is.counted account mine ∙ ap (λ (rows : List R). length (filter counts rows)) (sym same);
      }

  pub last_is : (front : List R) (xs : List (RankedRow R)) (place : ℕ) (x : RankedRow R) → AreRanked owner counts front xs
      → last_place here (owners_in owner xs) ≡ Some place → slice_get xs place ≡ Some x → is_own account (owner x.row) ≡ true
      → IsLast (front ++ rows_in xs) x
  last_is front [] place x are e at own = absurd cc
  last_is front (y ∷ ys) place x are e at own =
      by (last_place here (owners_in owner ys)) (λ k r there. last_is (front ++ y.row ∷ []) ys k x are.1 r there own) refl e
    where
      first : (k : ℕ) → Some k ≡ Some place → slice_get (y ∷ ys) k ≡ Some x
      first k same = ap (slice_get (y ∷ ys)) (same_some k place same) ∙ at

      by_test : last_place here (owners_in owner ys) ≡ None → (b : Bool) → cond b (Some 0) None ≡ Some place
          → IsLast (front ++ rows_in (y ∷ ys)) x
      by_test none true e =
          let same : y ≡ x = same_some y x (first 0 e) in
          subst (λ (z : RankedRow R). IsLast (front ++ rows_in (y ∷ ys)) z) same
          (last_here front y (rows_in ys) are.0 (ap (λ (z : RankedRow R). is_own account (owner z.row)) same ∙ own) (none_own ys none))
      by_test none false e = none_some place e

      by : (o : Option ℕ)
          → ((k : ℕ) → last_place here (owners_in owner ys) ≡ Some k → slice_get ys k ≡ Some x → IsLast ((front ++ y.row ∷ []) ++ rows_in ys) x)
          → last_place here (owners_in owner ys) ≡ o
          → option_or (option_map suc o) (cond (here == number_of_owned (owner y.row) 0) (Some 0) None) ≡ Some place
          → IsLast (front ++ rows_in (y ∷ ys)) x
      by (Some k) more r e =
          subst (λ (rows : List R). IsLast rows x) (append_assoc front (y.row ∷ []) (rows_in ys)) (more k r (first (suc k) e))
      by None more r e = by_test r (here == number_of_owned (owner y.row) 0) e
