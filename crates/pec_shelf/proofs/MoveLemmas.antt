-- Mailboxes from which items were moved, and the archives into which they were, by the ranks of the items.
use Rattle.std.proofs.Common.{◌≡◌, ℕ, zero, suc, ◌+◌, ◌<◌, ◌≤◌, nat_le, Bool, true, false, cond, List, [], ◌∷◌, ◌++◌, length, map, take, refl, sym, ap, subst, ◌∙◌, arith, append_assoc, append-nil, length-append, Option, Some, None, slice_get}
use Rattle.std.specs.Prelude.{fold, filter}
use Rattle.std.specs.List.{All, filter_map, flat_map, cons_option, range_with_len, remove}
use Rattle.std.specs.Option.{option_and_then, option_map, option_to_list}
use Rattle.std.specs.Str.{bytes_eq}
use Rattle.std.proofs.lemmas.Bool.Decides.{nat_tests}
use Rattle.std.proofs.lemmas.List.{length-map, map-append}
use Rattle.std.proofs.lemmas.List.Elements.{All-append, All-cons, All-head, All-nil, All-tail, filter-append}
use Rattle.std.proofs.lemmas.List.Sums.{fold-append}
use Rattle.std.proofs.lemmas.Option.{slice_get-map}
use Rattle.std.proofs.lemmas.Slice.Eq.{bytes_eq-Decides}
use Rattle.pec_types.specs.Bytes.{Bytes}
use Rattle.pec_types.specs.declared.mailboxes.ItemLine.{ItemLine}
use Rattle.pec_ledger.specs.Along.{times}
use Rattle.pec_ledger.specs.Books.{item_line}
use Rattle.pec_ledger.specs.Boxes.{Boxes, boxes_of, moved, unmoved, without_at}
use Rattle.pec_ledger.specs.Half.{Move, Posted}
use Rattle.pec_ledger.specs.Lookups.{takes_room}
use Rattle.pec_shelf.specs.Moves.{AreMoved, IsThere, Moved, items_of, moves_of, own_moved, places_of, raised_by, rank_at, ranks_left, ranks_of}

none_some : {X Y : Type 0} (x : X) → None ≡ Some x → Y
none_some x e = cc

same_some : {X : Type 0} (x y : X) → Some x ≡ Some y → x ≡ y
same_some x y e = cc

got : {X : Type 0} (xs : List X) (n : ℕ) → n < length xs → (x : X) × (slice_get xs n ≡ Some x)
got [] n l = absurd (omega (arith, l))
got (x ∷ xs) zero l = (x, refl)
got (x ∷ xs) (suc n) l = got xs n (omega (arith, l))

took_suc : {X : Type 0} (xs : List X) (n : ℕ) (x : X) → Some x ≡ slice_get xs n → take (suc n) xs ≡ take n xs ++ x ∷ []
took_suc [] n x e = none_some x (sym e)
took_suc (y ∷ xs) zero x e = ap (λ (z : _). z ∷ []) (same_some y x (sym e))
took_suc (y ∷ xs) (suc n) x e = ap (λ zs. y ∷ zs) (took_suc xs n x e)

-- ---- one move

raised_so : (m n : ℕ) (b : Bool) → nat_le m n ≡ b → raised_by m n ≡ cond b (n + 1) n
raised_so m n b e = ap (λ (c : Bool). cond c (n + 1) n) e

raised_past : (m n : ℕ) → m ≤ n → raised_by m n ≡ suc n
raised_past m n l = raised_so m n true (grind (arith, nat_tests)) ∙ (let e : n + 1 ≡ suc n = omega arith in e)

raised_before : (m n : ℕ) → n < m → raised_by m n ≡ n
raised_before m n l = raised_so m n false (grind (arith, nat_tests))

raised_both : (m n : ℕ) (b : Bool) → nat_le m n ≡ b → raised_by (suc m) (suc n) ≡ suc (raised_by m n)
raised_both m n true e =
    let below : m ≤ n = grind (arith, nat_tests)
    in raised_past (suc m) (suc n) (omega (arith, below)) ∙ ap suc (sym (raised_past m n below))
raised_both m n false e =
    let above : n < m = grind (arith, nat_tests)
    in raised_before (suc m) (suc n) (omega (arith, above)) ∙ ap suc (sym (raised_before m n above))

-- behind a move something stands where it stood before it
removed_at : {X : Type 0} (xs : List X) (m n : ℕ) → slice_get (remove xs m) n ≡ slice_get xs (raised_by m n)
removed_at [] zero n = refl
removed_at [] (suc m) n = refl
removed_at (x ∷ xs) zero n = ap (slice_get (x ∷ xs)) (sym (raised_past 0 n (omega arith)))
removed_at (x ∷ xs) (suc m) zero = ap (slice_get (x ∷ xs)) (sym (raised_before (suc m) 0 (omega arith)))
removed_at (x ∷ xs) (suc m) (suc n) = removed_at xs m n ∙ ap (slice_get (x ∷ xs)) (sym (raised_both m n (nat_le m n) refl))

without_is : (items : List Posted) (m : ℕ) → without_at items m ≡ remove items m
without_is [] zero = refl
without_is [] (suc m) = refl
without_is (x ∷ xs) zero = refl
without_is (x ∷ xs) (suc m) = ap (λ (ys : List Posted). x ∷ ys) (without_is xs m)

without_get : (items : List Posted) (m n : ℕ) → slice_get (without_at items m) n ≡ slice_get items (raised_by m n)
without_get items m n = ap (λ (xs : List Posted). slice_get xs n) (without_is items m) ∙ removed_at items m n

-- ---- all moves

-- the item at a place of a mailbox
at_place : (now : Boxes) (places : List ℕ) (place : ℕ)
    → slice_get (fold moved now places).mailbox place ≡ slice_get now.mailbox (rank_at places place)
at_place now [] place = refl
at_place now (m ∷ places) place =
    at_place (moved now m) places place ∙ without_get now.mailbox m (rank_at places place)

pub mailbox_at : (items : List Posted) (places : List ℕ) (place : ℕ)
    → slice_get (boxes_of items places).mailbox place ≡ slice_get items (rank_at places place)
unfolding boxes_of
mailbox_at items places place = at_place (unmoved items) places place

-- ---- archives

same_gets : (f g : ℕ → Option Posted) (ranks : List ℕ) → ((n : ℕ) → f n ≡ g n) → filter_map f ranks ≡ filter_map g ranks
same_gets f g [] same = refl
same_gets f g (n ∷ ranks) same =
    ap (λ (o : Option Posted). cons_option o (filter_map f ranks)) (same n) ∙ ap (cons_option (g n)) (same_gets f g ranks same)

gets_mapped : (f : ℕ → Option Posted) (g : ℕ → ℕ) (ranks : List ℕ) → filter_map (λ n. f (g n)) ranks ≡ filter_map f (map g ranks)
gets_mapped f g [] = refl
gets_mapped f g (n ∷ ranks) = ap (cons_option (f (g n))) (gets_mapped f g ranks)

one_more : (o : Option Posted) (xs : List Posted) → option_to_list o ++ xs ≡ cons_option o xs
one_more None xs = refl
one_more (Some x) xs = refl

archived : (now : Boxes) (places : List ℕ)
    → (fold moved now places).archive ≡ now.archive ++ filter_map (slice_get now.mailbox) (ranks_of places)
archived now [] = sym (append-nil now.archive)
archived now (m ∷ places) =
    archived (moved now m) places
    ∙ append_assoc now.archive (option_to_list (slice_get now.mailbox m)) (filter_map (slice_get (without_at now.mailbox m)) (ranks_of places))
    ∙ ap (λ (xs : List Posted). now.archive ++ (option_to_list (slice_get now.mailbox m) ++ xs))
    (same_gets (slice_get (without_at now.mailbox m)) (λ n. slice_get now.mailbox (raised_by m n)) (ranks_of places) (without_get now.mailbox m)
    ∙ gets_mapped (slice_get now.mailbox) (raised_by m) (ranks_of places))
    ∙ ap (λ (xs : List Posted). now.archive ++ xs)
    (one_more (slice_get now.mailbox m) (filter_map (slice_get now.mailbox) (map (raised_by m) (ranks_of places))))

archive_of : (items : List Posted) (places : List ℕ)
    → (boxes_of items places).archive ≡ filter_map (slice_get items) (ranks_of places)
unfolding boxes_of
archive_of items places = archived (unmoved items) places

-- of the account whose moves are kept with these ranks
pub archive_is : (items : List Posted) (kept : List Moved) → AreMoved items kept → (account : Bytes)
    → (boxes_of (items_of account items) (places_of account kept)).archive
    ≡ filter_map (slice_get (items_of account items)) (map (λ (m : Moved). m.rank) (own_moved account kept))
archive_is items kept are account =
    archive_of (items_of account items) (places_of account kept)
    ∙ ap (filter_map (slice_get (items_of account items))) (sym (are.ranks account))

-- ---- one move more

pub rank_more : (places : List ℕ) (m n : ℕ) → rank_at (places ++ m ∷ []) n ≡ rank_at places (raised_by m n)
rank_more [] m n = refl
rank_more (p ∷ places) m n = ap (raised_by p) (rank_more places m n)

ranks_more : (places : List ℕ) (m : ℕ) → ranks_of (places ++ m ∷ []) ≡ ranks_of places ++ rank_at places m ∷ []
ranks_more [] m = refl
ranks_more (p ∷ places) m =
    ap (λ (rs : List ℕ). p ∷ map (raised_by p) rs) (ranks_more places m)
    ∙ ap (λ (rs : List ℕ). p ∷ rs) (map-append (raised_by p) (ranks_of places) (rank_at places m ∷ []))

left_more : (ranks places : List ℕ) (m : ℕ) → ranks_left ranks (places ++ m ∷ []) ≡ remove (ranks_left ranks places) m
left_more ranks places m = fold-append remove ranks places (m ∷ [])

-- an account's moves with one more
own_more : (account : Bytes) (kept : List Moved) (m : Moved) (b : Bool) → bytes_eq account m.what.account ≡ b
    → own_moved account (kept ++ m ∷ []) ≡ own_moved account kept ++ cond b (m ∷ []) []
own_more account kept m b e =
    filter-append (λ (x : Moved). bytes_eq account x.what.account) kept (m ∷ [])
    ∙ ap (λ (c : Bool). own_moved account kept ++ cond c (m ∷ []) []) e

one_of : {X : Type 0} (P : X → Type 0) (x : X) → P x → All P (x ∷ [])
one_of P x p = All-cons P x [] p (All-nil P)

RanksOf : Bytes → List Moved → Type 0
RanksOf account own = map (λ (m : Moved). m.rank) own ≡ ranks_of (map (λ (m : Moved). m.what.place) own)

ranks_by : (account : Bytes) (own : List Moved) (m : Moved) → RanksOf account own
    → m.rank ≡ rank_at (map (λ (x : Moved). x.what.place) own) m.what.place → RanksOf account (own ++ m ∷ [])
unfolding RanksOf
ranks_by account own m ranks is =
    map-append (λ (x : Moved). x.rank) own (m ∷ [])
    ∙ ap (λ (rs : List ℕ). rs ++ m.rank ∷ []) ranks
    ∙ ap (λ (r : ℕ). ranks_of (map (λ (x : Moved). x.what.place) own) ++ r ∷ []) is
    ∙ sym (ap ranks_of (map-append (λ (x : Moved). x.what.place) own (m ∷ [])) ∙ ranks_more (map (λ (x : Moved). x.what.place) own) m.what.place)

module _ (items : List Posted) (kept : List Moved) (m : Moved) (are : AreMoved items kept)
    (is : m.rank ≡ rank_at (places_of m.what.account kept) m.what.place)
    (there : IsThere (items_of m.what.account items) m) where
  ranks_with : (account : Bytes) (b : Bool) → bytes_eq account m.what.account ≡ b → RanksOf account (own_moved account kept ++ cond b (m ∷ []) [])
  unfolding RanksOf
  ranks_with account false e = subst (RanksOf account) (sym (append-nil (own_moved account kept))) (are.ranks account)
  ranks_with account true e =
      ranks_by account (own_moved account kept) m (are.ranks account)
      (is ∙ ap (λ (a : Bytes). rank_at (places_of a kept) m.what.place) (sym ((bytes_eq-Decides account m.what.account).0 e)))

  there_with : (account : Bytes) (b : Bool) → bytes_eq account m.what.account ≡ b
      → All (IsThere (items_of account items)) (own_moved account kept ++ cond b (m ∷ []) [])
  there_with account false e =
      subst (λ (own : List Moved). All (IsThere (items_of account items)) own) (sym (append-nil (own_moved account kept))) (are.there account)
  there_with account true e =
      All-append (IsThere (items_of account items)) (own_moved account kept) (m ∷ []) (are.there account)
      (one_of (IsThere (items_of account items)) m
      (subst (λ (a : Bytes). IsThere (items_of a items) m) (sym ((bytes_eq-Decides account m.what.account).0 e)) there))

  pub moved_more : AreMoved items (kept ++ m ∷ [])
  unfolding RanksOf
  moved_more = record {
    ranks = λ account. subst (RanksOf account) (sym (own_more account kept m (bytes_eq account m.what.account) refl))
        (ranks_with account (bytes_eq account m.what.account) refl);
    there = λ account. subst (λ (own : List Moved). All (IsThere (items_of account items)) own)
        (sym (own_more account kept m (bytes_eq account m.what.account) refl))
        (there_with account (bytes_eq account m.what.account) refl);
  }

-- ---- items are placed behind

get_in_front : (items more : List Posted) (n : ℕ) (o : Option Bool)
    → option_map (λ (posted : Posted). takes_room posted.item) (slice_get items n) ≡ o → (b : Bool) → o ≡ Some b
    → option_map (λ (posted : Posted). takes_room posted.item) (slice_get (items ++ more) n) ≡ Some b
get_in_front [] more n o e b s = cc
get_in_front (x ∷ items) more zero o e b s = e ∙ s
get_in_front (x ∷ items) more (suc n) o e b s = get_in_front items more n o e b s

there_more : (items more : List Posted) (own : List Moved) → All (IsThere items) own → All (IsThere (items ++ more)) own
there_more items more [] all = All-nil (IsThere (items ++ more))
there_more items more (m ∷ own) all =
    All-cons (IsThere (items ++ more)) m own
    (get_in_front items more m.rank (Some m.took) (All-head (IsThere items) m own all) m.took refl)
    (there_more items more own (All-tail (IsThere items) m own all))

pub still_moved : (items more : List Posted) (kept : List Moved) → AreMoved items kept → AreMoved (items ++ more) kept
still_moved items more kept are = record {
  ranks = are.ranks;
  there = λ account. subst (λ (xs : List Posted). All (IsThere xs) (own_moved account kept))
      (sym (filter-append (λ (posted : Posted). bytes_eq account posted.account) items more))
      (there_more (items_of account items) (items_of account more) (own_moved account kept) (are.there account));
}

-- ---- an archive at a place

some_item : (o : Option Posted) (b : Bool) → option_map (λ (posted : Posted). takes_room posted.item) o ≡ Some b
    → (posted : Posted) × (o ≡ Some posted) × (takes_room posted.item ≡ b)
some_item None b e = cc
some_item (Some posted) b e = (posted, refl, cc)

pub archive_at : (items : List Posted) (own : List Moved) (n : ℕ) → All (IsThere items) own
    → slice_get (filter_map (slice_get items) (map (λ (m : Moved). m.rank) own)) n
    ≡ option_and_then (λ (m : Moved). slice_get items m.rank) (slice_get own n)
archive_at items [] n all = refl
archive_at items (m ∷ own) n all =
    let found = some_item (slice_get items m.rank) m.took (All-head (IsThere items) m own all)
    in ap (λ (o : Option Posted). slice_get (cons_option o (filter_map (slice_get items) (map (λ (x : Moved). x.rank) own))) n) found.1
    ∙ by n found.0 found.1 (λ k. archive_at items own k (All-tail (IsThere items) m own all))
  where
    by : (k : ℕ) (posted : Posted) → slice_get items m.rank ≡ Some posted
        → ((j : ℕ) → slice_get (filter_map (slice_get items) (map (λ (x : Moved). x.rank) own)) j
        ≡ option_and_then (λ (x : Moved). slice_get items x.rank) (slice_get own j))
        → slice_get (posted ∷ filter_map (slice_get items) (map (λ (x : Moved). x.rank) own)) k
        ≡ option_and_then (λ (x : Moved). slice_get items x.rank) (slice_get (m ∷ own) k)
    by zero posted is more = sym is
    by (suc k) posted is more = more k

-- ---- how many take room

counts_archive : (items : List Posted) (own : List Moved) → All (IsThere items) own
    → times (λ (posted : Posted). takes_room posted.item) (filter_map (slice_get items) (map (λ (m : Moved). m.rank) own))
    ≡ times (λ (m : Moved). m.took) own
counts_archive items [] all = refl
counts_archive items (m ∷ own) all =
    let found = some_item (slice_get items m.rank) m.took (All-head (IsThere items) m own all)
    in let rest = filter_map (slice_get items) (map (λ (x : Moved). x.rank) own)
    in ap (λ (o : Option Posted). times (λ (posted : Posted). takes_room posted.item) (cons_option o rest)) found.1
    ∙ ap (λ (b : Bool). length (cond b (found.0 ∷ filter (λ (posted : Posted). takes_room posted.item) rest) (filter (λ (posted : Posted). takes_room posted.item) rest))) found.2
    ∙ by m.took found.0 (counts_archive items own (All-tail (IsThere items) m own all))
  where
    by : (b : Bool) (posted : Posted)
        → times (λ (p : Posted). takes_room p.item) (filter_map (slice_get items) (map (λ (x : Moved). x.rank) own)) ≡ times (λ (x : Moved). x.took) own
        → length (cond b (posted ∷ filter (λ (p : Posted). takes_room p.item) (filter_map (slice_get items) (map (λ (x : Moved). x.rank) own)))
        (filter (λ (p : Posted). takes_room p.item) (filter_map (slice_get items) (map (λ (x : Moved). x.rank) own))))
        ≡ length (cond b (m ∷ filter (λ (x : Moved). x.took) own) (filter (λ (x : Moved). x.took) own))
    by true posted e = ap suc e
    by false posted e = e

taken_out : (b : Bool) (x : Posted) (xs : List Posted) → length xs + length (cond b (x ∷ []) []) ≡ length (cond b (x ∷ xs) xs)
taken_out true x xs = omega arith
taken_out false x xs = omega arith

kept_too : (b : Bool) (x : Posted) (xs ys : List Posted) (n : ℕ) → length xs + n ≡ length ys
    → length (cond b (x ∷ xs) xs) + n ≡ length (cond b (x ∷ ys) ys)
kept_too true x xs ys n e = omega (arith, e)
kept_too false x xs ys n e = e

parted : (test : Posted → Bool) (items : List Posted) (place : ℕ)
    → times test (without_at items place) + times test (option_to_list (slice_get items place)) ≡ times test items
parted test [] place = refl
parted test (x ∷ xs) zero = taken_out (test x) x (filter test xs)
parted test (x ∷ xs) (suc place) =
    kept_too (test x) x (filter test (without_at xs place)) (filter test xs) (times test (option_to_list (slice_get xs place)))
    (parted test xs place)

times_joined : (test : Posted → Bool) (xs ys : List Posted) → times test (xs ++ ys) ≡ times test xs + times test ys
times_joined test xs ys = ap length (filter-append test xs ys) ∙ length-append (filter test xs) (filter test ys)

both : (test : Posted → Bool) (now : Boxes) (places : List ℕ)
    → times test (fold moved now places).mailbox + times test (fold moved now places).archive
    ≡ times test now.mailbox + times test now.archive
both test now [] = refl
both test now (place ∷ places) =
    let more = times_joined test now.archive (option_to_list (slice_get now.mailbox place))
    in let parts = parted test now.mailbox place
    in let together : times test (without_at now.mailbox place) + times test (now.archive ++ option_to_list (slice_get now.mailbox place))
    ≡ times test now.mailbox + times test now.archive = omega (arith, more, parts)
    in both test (moved now place) places ∙ together

together_of : (test : Posted → Bool) (items : List Posted) (places : List ℕ)
    → times test (boxes_of items places).mailbox + times test (boxes_of items places).archive ≡ times test items
unfolding boxes_of
together_of test items places = both test (unmoved items) places ∙ (let e : times test items + 0 ≡ times test items = omega arith in e)

pub counted_so : (items : List Posted) (kept : List Moved) → AreMoved items kept → (account : Bytes)
    → times (λ (posted : Posted). takes_room posted.item) (boxes_of (items_of account items) (places_of account kept)).mailbox
    + times (λ (m : Moved). m.took) (own_moved account kept)
    ≡ times (λ (posted : Posted). takes_room posted.item) (items_of account items)
counted_so items kept are account =
    ap (λ (n : ℕ). times (λ (posted : Posted). takes_room posted.item) (boxes_of (items_of account items) (places_of account kept)).mailbox + n)
    (sym (ap (times (λ (posted : Posted). takes_room posted.item)) (archive_is items kept are account)
    ∙ counts_archive (items_of account items) (own_moved account kept) (are.there account)))
    ∙ together_of (λ (posted : Posted). takes_room posted.item) (items_of account items) (places_of account kept)

-- ---- as the ledger has them

moves_filtered : (account : Bytes) (kept : List Moved)
    → map (λ (move : Move). move.place) (filter (λ (move : Move). bytes_eq account move.account) (moves_of kept)) ≡ places_of account kept
moves_filtered account [] = refl
moves_filtered account (m ∷ kept) = by (bytes_eq account m.what.account) (moves_filtered account kept)
  where
    by : (b : Bool) → map (λ (move : Move). move.place) (filter (λ (move : Move). bytes_eq account move.account) (moves_of kept)) ≡ places_of account kept
        → map (λ (move : Move). move.place) (cond b (m.what ∷ filter (λ (move : Move). bytes_eq account move.account) (moves_of kept)) (filter (λ (move : Move). bytes_eq account move.account) (moves_of kept)))
        ≡ map (λ (x : Moved). x.what.place) (cond b (m ∷ own_moved account kept) (own_moved account kept))
    by true e = ap (λ (ps : List ℕ). m.what.place ∷ ps) e
    by false e = e

-- the places of an account's moves
pub places_are : (account : Bytes) (kept : List Moved) (moves : List Move) → moves_of kept ≡ moves
    → places_of account kept ≡ map (λ (move : Move). move.place) (filter (λ (move : Move). bytes_eq account move.account) moves)
places_are account kept moves e =
    sym (moves_filtered account kept)
    ∙ ap (λ (ms : List Move). map (λ (move : Move). move.place) (filter (λ (move : Move). bytes_eq account move.account) ms)) e

-- ---- numbers

one_longer : (a n : ℕ) → range_with_len a (suc n) ≡ range_with_len a n ++ (a + n) ∷ []
one_longer a zero = ap (λ (k : ℕ). k ∷ []) (let e : a ≡ a + 0 = omega arith in e)
one_longer a (suc n) =
    ap (λ (ks : List ℕ). a ∷ ks) (one_longer (a + 1) n ∙ ap (λ (k : ℕ). range_with_len (a + 1) n ++ k ∷ []) (let e : a + 1 + n ≡ a + suc n = omega arith in e))

pub range_more : (n : ℕ) (old new : List ℕ) → old ≡ range_with_len 0 n → new ≡ old ++ n ∷ [] → new ≡ range_with_len 0 (n + 1)
range_more n old new is more =
    more ∙ ap (λ (ks : List ℕ). ks ++ n ∷ []) is
    ∙ sym (ap (range_with_len 0) (let e : n + 1 ≡ suc n = omega arith in e) ∙ one_longer 0 n
    ∙ ap (λ (k : ℕ). range_with_len 0 n ++ k ∷ []) (let e : 0 + n ≡ n = omega arith in e))

-- ---- those that stay

-- something is got at this number
Got : (ℕ → Option Posted) → ℕ → Type 0
Got f n = (posted : Posted) × (f n ≡ Some posted)

all_removed : {X : Type 0} (P : X → Type 0) (xs : List X) (n : ℕ) → All P xs → All P (remove xs n)
all_removed P [] zero all = All-nil P
all_removed P [] (suc n) all = All-nil P
all_removed P (x ∷ xs) zero all = All-tail P x xs all
all_removed P (x ∷ xs) (suc n) all = All-cons P x (remove xs n) (All-head P x xs all) (all_removed P xs n (All-tail P x xs all))

removed_gets : (f : ℕ → Option Posted) (ranks : List ℕ) (n : ℕ) → All (Got f) ranks
    → without_at (filter_map f ranks) n ≡ filter_map f (remove ranks n)
unfolding Got
removed_gets f [] zero all = refl
removed_gets f [] (suc n) all = refl
removed_gets f (r ∷ ranks) n all =
    let found = All-head (Got f) r ranks all
    in by n (f r) found.0 found.1 (λ k. removed_gets f ranks k (All-tail (Got f) r ranks all)) refl
  where
    by : (k : ℕ) (o : Option Posted) (posted : Posted) → o ≡ Some posted
        → ((j : ℕ) → without_at (filter_map f ranks) j ≡ filter_map f (remove ranks j))
        → f r ≡ o
        → without_at (cons_option (f r) (filter_map f ranks)) k ≡ filter_map f (remove (r ∷ ranks) k)
    by k None posted is more e = none_some posted is
    by zero (Some found) posted is more e = ap (λ (q : Option Posted). without_at (cons_option q (filter_map f ranks)) 0) e
    by (suc k) (Some found) posted is more e =
        ap (λ (q : Option Posted). without_at (cons_option q (filter_map f ranks)) (suc k)) e
        ∙ ap (λ (xs : List Posted). found ∷ xs) (more k)
        ∙ sym (ap (λ (q : Option Posted). cons_option q (filter_map f (remove ranks k))) e)

left_in : (f : ℕ → Option Posted) (now : Boxes) (ranks places : List ℕ) → All (Got f) ranks → now.mailbox ≡ filter_map f ranks
    → (fold moved now places).mailbox ≡ filter_map f (ranks_left ranks places)
left_in f now ranks [] all is = is
left_in f now ranks (m ∷ places) all is =
    left_in f (moved now m) (remove ranks m) places (all_removed (Got f) ranks m all)
    (ap (λ (xs : List Posted). without_at xs m) is ∙ removed_gets f ranks m all)

at_seam : (front items : List Posted) (x : Posted) → slice_get (front ++ x ∷ items) (length front) ≡ Some x
at_seam [] items x = refl
at_seam (y ∷ front) items x = at_seam front items x

seam_more : (front items : List Posted) (x : Posted) → (front ++ x ∷ []) ++ items ≡ front ++ x ∷ items
seam_more front items x = append_assoc front (x ∷ []) items

longer : (front : List Posted) (x : Posted) → length (front ++ x ∷ []) ≡ length front + 1
longer front x = length-append front (x ∷ [])

gets_all : (front items : List Posted)
    → filter_map (slice_get (front ++ items)) (range_with_len (length front) (length items)) ≡ items
gets_all front [] = refl
gets_all front (x ∷ items) =
    ap (λ (o : Option Posted). cons_option o (filter_map (slice_get (front ++ x ∷ items)) (range_with_len (length front + 1) (length items)))) (at_seam front items x)
    ∙ ap (λ (xs : List Posted). x ∷ xs)
    (ap (λ (n : ℕ). filter_map (slice_get (front ++ x ∷ items)) (range_with_len n (length items))) (sym (longer front x))
    ∙ ap (λ (xs : List Posted). filter_map (slice_get xs) (range_with_len (length (front ++ x ∷ [])) (length items))) (sym (seam_more front items x))
    ∙ gets_all (front ++ x ∷ []) items)

all_got : (front items : List Posted) → All (Got (slice_get (front ++ items))) (range_with_len (length front) (length items))
unfolding Got
all_got front [] = All-nil (Got (slice_get (front ++ [])))
all_got front (x ∷ items) =
    All-cons (Got (slice_get (front ++ x ∷ items))) (length front) (range_with_len (length front + 1) (length items))
    (x, at_seam front items x)
    (subst (λ (n : ℕ). All (Got (slice_get (front ++ x ∷ items))) (range_with_len n (length items))) (longer front x)
    (subst (λ (xs : List Posted). All (Got (slice_get xs)) (range_with_len (length (front ++ x ∷ [])) (length items))) (seam_more front items x)
    (all_got (front ++ x ∷ []) items)))

-- a mailbox holds the items whose ranks stay
pub mailbox_left : (items : List Posted) (places : List ℕ)
    → (boxes_of items places).mailbox ≡ filter_map (slice_get items) (ranks_left (range_with_len 0 (length items)) places)
unfolding boxes_of
mailbox_left items places =
    left_in (slice_get items) (unmoved items) (range_with_len 0 (length items)) places (all_got [] items) (sym (gets_all [] items))

-- ---- loops

-- one more place is left
pub left_out : (ranks places : List ℕ) (n m : ℕ) (old new : List ℕ) → old ≡ ranks_left ranks (take n places) → Some m ≡ slice_get places n
    → new ≡ remove old m → new ≡ ranks_left ranks (take (n + 1) places)
left_out ranks places n m old new is here removed_so =
    removed_so ∙ ap (λ (rs : List ℕ). remove rs m) is
    ∙ sym (ap (λ (k : ℕ). ranks_left ranks (take k places)) (let e : n + 1 ≡ suc n = omega arith in e)
    ∙ ap (ranks_left ranks) (took_suc places n m here) ∙ left_more ranks (take n places) m)

-- ---- what is asked of a move

-- at a place of a mailbox stands an item
pub stands_at : (items : List Posted) (places : List ℕ) (place : ℕ) → place < length (boxes_of items places).mailbox
    → (posted : Posted) × (slice_get items (rank_at places place) ≡ Some posted)
stands_at items places place l =
    let found = got (boxes_of items places).mailbox place l
    in (found.0, sym (mailbox_at items places place) ∙ found.1)

-- one step back through the moves
pub step_back : (places : List ℕ) (n m rank old new : ℕ) → Some m ≡ slice_get places n → old ≡ rank_at (take (suc n) places) rank
    → new ≡ raised_by m rank → old ≡ rank_at (take n places) new
step_back places n m rank old new here is raised_to =
    is ∙ ap (λ (ps : List ℕ). rank_at ps rank) (took_suc places n m here) ∙ rank_more (take n places) m rank
    ∙ ap (rank_at (take n places)) (sym raised_to)

pub raised_most : (m n : ℕ) → raised_by m n ≤ n + 1
raised_most m n = by (nat_le m n)
  where
    by : (b : Bool) → cond b (n + 1) n ≤ n + 1
    by true = omega arith
    by false = omega arith

-- the place of an account's move
pub place_at : (account : Bytes) (kept : List Moved) (n : ℕ) (m : Moved) → Some m ≡ slice_get (own_moved account kept) n
    → Some m.what.place ≡ slice_get (places_of account kept) n
place_at account kept n m e =
    ap (option_map (λ (x : Moved). x.what.place)) e ∙ sym (slice_get-map (λ (x : Moved). x.what.place) (own_moved account kept) n)

pub places_long : (account : Bytes) (kept : List Moved) → length (places_of account kept) ≡ length (own_moved account kept)
places_long account kept = length-map (own_moved account kept) (λ (m : Moved). m.what.place)

-- no item was moved yet
pub none_moved : (items : List Posted) → AreMoved items []
none_moved items = record { ranks = λ account. refl; there = λ account. All-nil (IsThere (items_of account items)) }

-- ---- lines

-- the line of the item of a rank
abbrev pub line_in : List Posted → ℕ → List ItemLine
line_in items rank = map (λ (posted : Posted). item_line posted.item) (option_to_list (slice_get items rank))

pub lines_flat : (items : List Posted) (ranks : List ℕ)
    → flat_map (line_in items) ranks ≡ map (λ (posted : Posted). item_line posted.item) (filter_map (slice_get items) ranks)
lines_flat items [] = refl
lines_flat items (rank ∷ ranks) =
    ap (λ (ls : List ItemLine). line_in items rank ++ ls) (lines_flat items ranks) ∙ by (slice_get items rank)
  where
    by : (o : Option Posted)
        → map (λ (posted : Posted). item_line posted.item) (option_to_list o) ++ map (λ (posted : Posted). item_line posted.item) (filter_map (slice_get items) ranks)
        ≡ map (λ (posted : Posted). item_line posted.item) (cons_option o (filter_map (slice_get items) ranks))
    by None = refl
    by (Some posted) = refl
