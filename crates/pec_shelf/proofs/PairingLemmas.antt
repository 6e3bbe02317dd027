-- Pairs of messages in order: where each stands, when it was accepted, and what a clock call owes on it.
use Rattle.std.proofs.Common.{◌≡◌, ℕ, zero, suc, ◌+◌, ◌-◌, ◌<◌, ◌≤◌, ◌⊎◌, Bool, true, false, cond, ◌&&◌, List, [], ◌∷◌, ◌++◌, length, map, replicate, take, drop, get_or, find, Option, Some, None, is_some, option_map, slice_get, slice_range, IfSome, refl, sym, ap, subst, ◌∙◌, append_assoc, arith, append-nil, length-append, length-drop, length-take, take-append-drop, get_or-drop, inl, inr, ⊎_elim}
use Rattle.std.specs.List.{cons_option, filter_map, list_all, range_with_len}
use Rattle.std.proofs.lemmas.Bool.{false≢true}
use Rattle.std.proofs.lemmas.List.{map-append, replicate-append-replicate}
use Rattle.std.proofs.lemmas.List.Folds.{drop_split}
use Rattle.std.proofs.lemmas.Option.{get_or_from_slice_get, none-some, same_Some, slice_get-map, slice_get_within}
use Rattle.pec_ledger.specs.Half.{Half, Mark}
use Rattle.pec_ledger.specs.Pairs.{id_of}
use Rattle.pec_shelf.specs.Deadlines.{Pairing, accepted_in, mark_if, mark_on, mark_there, mark_within, moments_of, pairs_at, pairs_in, spot_at, spot_of, spots_of}
use Rattle.pec_shelf.specs.Lines.{mark_at, marks_at, marks_rows}
use Rattle.pec_shelf.specs.Sides.{Kept, certified_of_rows, messages_of}
use Rattle.pec_shelf.specs.declared.certified.Certified.{Certified}
use Rattle.pec_shelf.specs.declared.deadlines.Spot.{Spot}
use Rattle.pec_types.specs.Timetable.{Rising, last_of}
use Rattle.pec_shelf.proofs.PassedLemmas.{rises_at, rises_front}
use Rattle.pec_shelf.proofs.LoopLemmas.{filter_map_joined, take_one}
use Rattle.pec_shelf.proofs.WaitingLemmas.{range_more as range_with_len_more}

pub and_true : (p q : Bool) → p && q ≡ true → (p ≡ true) × (q ≡ true)
and_true true q e = (refl, e)
and_true false q e = absurd (false≢true e)

-- ---- messages more

pub pairs_joined : (number : ℕ) (rows more : List Kept) → pairs_in number (rows ++ more) ≡ pairs_in number rows ++ pairs_in (number + length rows) more
pairs_joined number [] more = let same : number ≡ number + 0 = omega arith in ap (λ (n : ℕ). pairs_in n more) same
pairs_joined number (row ∷ rows) more =
    let here = pairs_at number 0 row.message.moment row.certified in
    let same : (number + 1) + length rows ≡ number + suc (length rows) = omega arith in
    ap (λ (ps : List Pairing). here ++ ps) (pairs_joined (number + 1) rows more)
    ∙ sym (append_assoc here (pairs_in (number + 1) rows) (pairs_in ((number + 1) + length rows) more))
    ∙ ap (λ (n : ℕ). (here ++ pairs_in (number + 1) rows) ++ pairs_in n more) same

-- ---- the pairs of one message

pub moments_at : (number index accepted : ℕ) (certified : List Certified)
    → moments_of (pairs_at number index accepted certified) ≡ replicate (length certified) accepted
moments_at number index accepted [] = refl
moments_at number index accepted (one ∷ others) = ap (λ (ms : List ℕ). accepted ∷ ms) (moments_at number (index + 1) accepted others)

pub spots_at : (number index accepted : ℕ) (certified : List Certified)
    → spots_of (pairs_at number index accepted certified) ≡ map (spot_at number) (range_with_len index (length certified))
spots_at number index accepted [] = refl
spots_at number index accepted (one ∷ others) = ap (λ (ss : List Spot). spot_at number index ∷ ss) (spots_at number (index + 1) accepted others)

pub length_at : (number index accepted : ℕ) (certified : List Certified) → length (pairs_at number index accepted certified) ≡ length certified
length_at number index accepted [] = refl
length_at number index accepted (one ∷ others) = ap suc (length_at number (index + 1) accepted others)

same_moments : (number index accepted : ℕ) (certified : List Certified)
    → moments_of (pairs_at number index accepted certified) ≡ map (λ (one : Certified). accepted) certified
same_moments number index accepted [] = refl
same_moments number index accepted (one ∷ others) = ap (λ (ms : List ℕ). accepted ∷ ms) (same_moments number (index + 1) accepted others)

-- when the pairs were accepted, by messages and their recipients
pub moments_kept : (number : ℕ) (rows : List Kept) → moments_of (pairs_in number rows) ≡ accepted_in (messages_of rows) (certified_of_rows rows)
moments_kept number [] = refl
moments_kept number (row ∷ rows) =
    map-append (λ (pair : Pairing). pair.accepted) (pairs_at number 0 row.message.moment row.certified) (pairs_in (number + 1) rows)
    ∙ ap (λ (ms : List ℕ). ms ++ moments_of (pairs_in (number + 1) rows)) (same_moments number 0 row.message.moment row.certified)
    ∙ ap (λ (ms : List ℕ). map (λ (one : Certified). row.message.moment) row.certified ++ ms) (moments_kept (number + 1) rows)

-- a further place of a message
pub spots_more : (number n : ℕ) → map (spot_at number) (range_with_len 0 (n + 1)) ≡ map (spot_at number) (range_with_len 0 n) ++ spot_at number n ∷ []
spots_more number n =
    let last : 0 + n ≡ n = omega arith in
    ap (map (spot_at number)) (range_with_len_more 0 n) ∙ map-append (spot_at number) (range_with_len 0 n) ((0 + n) ∷ [])
    ∙ ap (λ (k : ℕ). map (spot_at number) (range_with_len 0 n) ++ spot_at number k ∷ []) last

-- one moment some times in order: a further one isn't below those in front
pub alike_split : (moments : List ℕ) (accepted n count : ℕ) → n < count → Rising (moments ++ replicate count accepted)
    → IfSome (last_of (moments ++ replicate n accepted)) (λ last. last ≤ accepted)
alike_split moments accepted n count l rising =
    let rest = count - (n + 1) in
    let sum : n + suc rest ≡ count = omega arith in
    let whole : moments ++ replicate count accepted ≡ (moments ++ replicate n accepted) ++ accepted ∷ replicate rest accepted =
    ap (λ (k : ℕ). moments ++ replicate k accepted) (sym sum) ∙ ap (λ (ms : List ℕ). moments ++ ms) (sym (replicate-append-replicate n (suc rest) accepted))
    ∙ sym (append_assoc moments (replicate n accepted) (replicate (suc rest) accepted)) in
    rises_at accepted (moments ++ replicate n accepted) (replicate rest accepted) (subst Rising whole rising)

-- a message with all before it: its pairs come next
pub pairs_next : (first : ℕ) (rows : List Kept) (k : ℕ) (row : Kept) → k < length rows → row ≡ get_or rows k row
    → pairs_in first (take (k + 1) rows) ≡ pairs_in first (take k rows) ++ pairs_at (first + k) 0 row.message.moment row.certified
pairs_next first rows k row l is =
    let size = length-take k rows in
    let long : length (take k rows) ≡ k = omega (arith, size, l) in
    ap (pairs_in first) (take_one rows k row l is) ∙ pairs_joined first (take k rows) (row ∷ [])
    ∙ ap (λ (n : ℕ). pairs_in first (take k rows) ++ pairs_in (first + n) (row ∷ [])) long
    ∙ ap (λ (ps : List Pairing). pairs_in first (take k rows) ++ ps) (append-nil (pairs_at (first + k) 0 row.message.moment row.certified))

-- all pairs are those of some messages, of the next one, and of the rest
pub pairs_split : (first : ℕ) (rows : List Kept) (k : ℕ) (row : Kept) → k < length rows → row ≡ get_or rows k row
    → (rest : List Pairing) × (pairs_in first rows
    ≡ (pairs_in first (take k rows) ++ pairs_at (first + k) 0 row.message.moment row.certified) ++ rest)
pairs_split first rows k row l is = (
  pairs_in (first + length (take (k + 1) rows)) (drop (k + 1) rows),
  ap (pairs_in first) (sym (take-append-drop (k + 1) rows)) ∙ pairs_joined first (take (k + 1) rows) (drop (k + 1) rows)
      ∙ ap (λ (ps : List Pairing). ps ++ pairs_in (first + length (take (k + 1) rows)) (drop (k + 1) rows)) (pairs_next first rows k row l is),
)

module _ (first : ℕ) (rows : List Kept) (k : ℕ) (row : Kept) (within : k < length rows) (is : row ≡ get_or rows k row) where
  abbrev here : List Pairing
  here = pairs_at (first + k) 0 row.message.moment row.certified

  pub room_next : (room now : ℕ) → now + length (pairs_in first (take k rows)) ≡ room → length (pairs_in first rows) ≤ room → length row.certified ≤ now
  room_next room now are fits =
      let split = pairs_split first rows k row within is in
      let size = ap length split.1 ∙ length-append (pairs_in first (take k rows) ++ here) split.0 in
      omega (arith, size, length-append (pairs_in first (take k rows)) here, length_at (first + k) 0 row.message.moment row.certified)

  pub rooms_next : (room now later : ℕ) → now + length (pairs_in first (take k rows)) ≡ room → later + length row.certified ≡ now
      → later + length (pairs_in first (take (k + 1) rows)) ≡ room
  rooms_next room now later are less =
      let size = ap length (pairs_next first rows k row within is) ∙ length-append (pairs_in first (take k rows)) here in
      omega (arith, size, length_at (first + k) 0 row.message.moment row.certified)

  pub rising_next : (old now : List ℕ) → now ≡ old ++ moments_of (pairs_in first (take k rows)) → Rising (old ++ moments_of (pairs_in first rows))
      → Rising (now ++ replicate (length row.certified) row.message.moment)
  rising_next old now are rising =
      let split = pairs_split first rows k row within is in
      let front = pairs_in first (take k rows) in
      let whole : moments_of (pairs_in first rows) ≡ (moments_of front ++ moments_of here) ++ moments_of split.0 =
      ap moments_of split.1 ∙ map-append (λ (pair : Pairing). pair.accepted) (front ++ here) split.0
      ∙ ap (λ (ms : List ℕ). ms ++ moments_of split.0) (map-append (λ (pair : Pairing). pair.accepted) front here) in
      let parted : old ++ moments_of (pairs_in first rows) ≡ (now ++ replicate (length row.certified) row.message.moment) ++ moments_of split.0 =
      ap (λ (ms : List ℕ). old ++ ms) whole ∙ sym (append_assoc old (moments_of front ++ moments_of here) (moments_of split.0))
      ∙ ap (λ (ms : List ℕ). ms ++ moments_of split.0) (sym (append_assoc old (moments_of front) (moments_of here)))
      ∙ ap (λ (ms : List ℕ). (ms ++ moments_of here) ++ moments_of split.0) (sym are)
      ∙ ap (λ (ms : List ℕ). (now ++ ms) ++ moments_of split.0) (moments_at (first + k) 0 row.message.moment row.certified) in
      rises_front (now ++ replicate (length row.certified) row.message.moment) (moments_of split.0) (subst Rising parted rising)

  pub moments_next : (old now later : List ℕ) → now ≡ old ++ moments_of (pairs_in first (take k rows))
      → later ≡ now ++ replicate (length row.certified) row.message.moment → later ≡ old ++ moments_of (pairs_in first (take (k + 1) rows))
  moments_next old now later are more =
      let front = pairs_in first (take k rows) in
      more ∙ ap (λ (ms : List ℕ). ms ++ replicate (length row.certified) row.message.moment) are
      ∙ append_assoc old (moments_of front) (replicate (length row.certified) row.message.moment)
      ∙ ap (λ (ms : List ℕ). old ++ (moments_of front ++ ms)) (sym (moments_at (first + k) 0 row.message.moment row.certified))
      ∙ ap (λ (ms : List ℕ). old ++ ms) (sym (map-append (λ (pair : Pairing). pair.accepted) front here))
      ∙ ap (λ (ps : List Pairing). old ++ moments_of ps) (sym (pairs_next first rows k row within is))

  pub spots_next : (old now later : List Spot) → now ≡ old ++ spots_of (pairs_in first (take k rows))
      → later ≡ now ++ map (spot_at (first + k)) (range_with_len 0 (length row.certified)) → later ≡ old ++ spots_of (pairs_in first (take (k + 1) rows))
  spots_next old now later are more =
      let front = pairs_in first (take k rows) in
      let these = map (spot_at (first + k)) (range_with_len 0 (length row.certified)) in
      more ∙ ap (λ (ss : List Spot). ss ++ these) are ∙ append_assoc old (spots_of front) these
      ∙ ap (λ (ss : List Spot). old ++ (spots_of front ++ ss)) (sym (spots_at (first + k) 0 row.message.moment row.certified))
      ∙ ap (λ (ss : List Spot). old ++ ss) (sym (map-append spot_of front here))
      ∙ ap (λ (ps : List Pairing). old ++ spots_of ps) (sym (pairs_next first rows k row within is))

-- ---- what is owed on them

on_message : (me : ℕ) (half : Half) (now number index accepted : ℕ) (certified : List Certified)
    → filter_map (mark_on me half now) (pairs_at number index accepted certified) ≡ filter_map (mark_at half now (id_of me number) accepted) certified
on_message me half now number index accepted [] = refl
on_message me half now number index accepted (one ∷ others) =
    ap (cons_option (mark_at half now (id_of me number) accepted one)) (on_message me half now number (index + 1) accepted others)

-- the marks of a clock call are those on all pairs, in order
pub marks_on : (me : ℕ) (half : Half) (now number : ℕ) (rows : List Kept)
    → marks_rows me half now number rows ≡ filter_map (mark_on me half now) (pairs_in number rows)
marks_on me half now number [] = refl
marks_on me half now number (row ∷ rows) =
    let here = pairs_at number 0 row.message.moment row.certified in
    ap (λ (ms : List Mark). marks_at half now (id_of me number) row ++ ms) (marks_on me half now (number + 1) rows)
    ∙ ap (λ (ms : List Mark). ms ++ filter_map (mark_on me half now) (pairs_in (number + 1) rows)) (sym (on_message me half now number 0 row.message.moment row.certified))
    ∙ sym (filter_map_joined (mark_on me half now) here (pairs_in (number + 1) rows))

-- ---- where a pair stands

-- a pair is that of a recipient of this message
record IsAt (number index accepted : ℕ) (certified : List Certified) (pair : Pairing) : Type 0 where
  place : ℕ
  numbered : pair.number ≡ number
  at : pair.accepted ≡ accepted
  indexed : pair.index ≡ index + place
  one : slice_get certified place ≡ Some pair.certified

-- a pair stands among these messages
record Stands (number : ℕ) (rows : List Kept) (pair : Pairing) : Type 0 where
  row : Kept
  place : ℕ
  numbered : pair.number ≡ number + place
  there : slice_get rows place ≡ Some row
  at : pair.accepted ≡ row.message.moment
  one : slice_get row.certified pair.index ≡ Some pair.certified

at_or_behind : (number index accepted : ℕ) (certified : List Certified) (more : List Pairing) (k : ℕ) (pair : Pairing)
    → slice_get (pairs_at number index accepted certified ++ more) k ≡ Some pair
    → IsAt number index accepted certified pair ⊎ ((j : ℕ) × (slice_get more j ≡ Some pair))
at_or_behind number index accepted [] more k pair got = inr (k, got)
at_or_behind number index accepted (one ∷ others) more zero pair got =
    let same = same_Some (record { number = number; index = index; accepted = accepted; certified = one }) pair got in
    inl (record {
      place = 0;
      numbered = ap (λ (p : Pairing). p.number) (sym same);
      at = ap (λ (p : Pairing). p.accepted) (sym same);
      indexed = let zero_more : index ≡ index + 0 = omega arith in ap (λ (p : Pairing). p.index) (sym same) ∙ zero_more;
      one = ap (λ (p : Pairing). Some p.certified) same;
    })
at_or_behind number index accepted (one ∷ others) more (suc k) pair got =
    ⊎_elim
    (λ here. inl (record { place = suc here.place; numbered = here.numbered; at = here.at; indexed = omega (arith, here.indexed); one = here.one }))
    (λ behind. inr behind)
    (at_or_behind number (index + 1) accepted others more k pair got)

stands : (number : ℕ) (rows : List Kept) (k : ℕ) (pair : Pairing) → slice_get (pairs_in number rows) k ≡ Some pair → Stands number rows pair
stands number [] k pair got = absurd (none-some pair got)
stands number (row ∷ rows) k pair got =
    ⊎_elim
    (λ here. let index : pair.index ≡ here.place = omega (arith, here.indexed) in
    record {
      row = row;
      place = 0;
      numbered = omega (arith, here.numbered);
      there = refl;
      at = here.at;
      one = ap (slice_get row.certified) index ∙ here.one;
    })
    (λ behind. let further = stands (number + 1) rows behind.0 pair behind.1 in
    record {
      row = further.row;
      place = suc further.place;
      numbered = omega (arith, further.numbered);
      there = further.there;
      at = further.at;
      one = further.one;
    })
    (at_or_behind number 0 row.message.moment row.certified (pairs_in (number + 1) rows) k pair got)

-- the mark that is found where a pair stands is the one on the pair
mark_found : (me : ℕ) (half : Half) (now : ℕ) (rows : List Kept) (k : ℕ) (pair : Pairing) → slice_get (pairs_in 0 rows) k ≡ Some pair
    → mark_there me half now rows (slice_get (spots_of (pairs_in 0 rows)) k) ≡ filter_map (mark_on me half now) (pair ∷ [])
mark_found me half now rows k pair got =
    let at = stands 0 rows k pair got in
    let number : pair.number ≡ at.place = omega (arith, at.numbered) in
    let row : slice_get rows pair.number ≡ Some at.row = ap (slice_get rows) number ∙ at.there in
    ap (mark_there me half now rows) (slice_get-map spot_of (pairs_in 0 rows) k ∙ ap (λ (o : Option Pairing). option_map spot_of o) got)
    ∙ ap (mark_within me half now (spot_of pair)) row
    ∙ ap (mark_if half now (id_of me pair.number) at.row.message.moment) at.one
    ∙ ap (λ (n : ℕ). filter_map (mark_at half now (id_of me pair.number) n) (pair.certified ∷ [])) (sym at.at)

-- ---- a loop over places

nothing_left : {X : Type 0} (xs : List X) (a : ℕ) → slice_range xs a a ≡ []
nothing_left xs a = let none : a - a ≡ 0 = omega arith in ap (λ (n : ℕ). take n (drop a xs)) none

pub slice_more : {X : Type 0} (xs : List X) (a k : ℕ) (x : X) → a ≤ k → slice_get xs k ≡ Some x → slice_range xs a (k + 1) ≡ slice_range xs a k ++ x ∷ []
slice_more xs a k x l got =
    let within = slice_get_within xs k x got in
    let size = length-drop a xs in
    let one : (k + 1) - a ≡ (k - a) + 1 = omega arith in
    let inside : k - a < length (drop a xs) = omega (arith, size, within) in
    let same : a + (k - a) ≡ k = omega arith in
    let is : x ≡ get_or (drop a xs) (k - a) x =
    sym (get_or_from_slice_get xs k x x got) ∙ ap (λ (n : ℕ). get_or xs n x) (sym same) ∙ sym (get_or-drop a xs (k - a) x) in
    ap (λ (n : ℕ). take n (drop a xs)) one ∙ take_one (drop a xs) (k - a) x inside is

pub marks_begin : (me : ℕ) (half : Half) (now : ℕ) (pairs : List Pairing) (a : ℕ) → filter_map (mark_on me half now) (slice_range pairs a a) ≡ []
marks_begin me half now pairs a = ap (filter_map (mark_on me half now)) (nothing_left pairs a)

-- with the mark on one pair more
pub marks_stepped : (me : ℕ) (half : Half) (now : ℕ) (rows : List Kept) (spots : List Spot) (a k : ℕ) → a ≤ k → k < length (pairs_in 0 rows)
    → spots ≡ spots_of (pairs_in 0 rows)
    → filter_map (mark_on me half now) (slice_range (pairs_in 0 rows) a (k + 1))
    ≡ filter_map (mark_on me half now) (slice_range (pairs_in 0 rows) a k) ++ mark_there me half now rows (slice_get spots k)
marks_stepped me half now rows spots a k l within are =
    let pairs = pairs_in 0 rows in
    let mark = mark_on me half now in
    let at = found pairs k within in
    ap (filter_map mark) (slice_more pairs a k at.0 l at.1)
    ∙ filter_map_joined mark (slice_range pairs a k) (at.0 ∷ [])
    ∙ ap (λ (ms : List Mark). filter_map mark (slice_range pairs a k) ++ ms)
    (sym (mark_found me half now rows k at.0 at.1) ∙ ap (λ (ss : List Spot). mark_there me half now rows (slice_get ss k)) (sym are))
  where
    found : (ps : List Pairing) (n : ℕ) → n < length ps → (p : Pairing) × (slice_get ps n ≡ Some p)
    found [] n l = let never : ⊥ = omega arith in absurd never
    found (p ∷ ps) zero l = (p, refl)
    found (p ∷ ps) (suc n) l = found ps n (omega arith)

-- ---- parts of a list

-- what comes of the parts comes of the whole
pub all_parts : {X Y : Type 0} (comes : X → Option Y) (xs : List X) (a b c d : ℕ) → a ≤ b → b ≤ c → c ≤ d
    → filter_map comes xs ≡ filter_map comes (take a xs) ++ (filter_map comes (slice_range xs a b)
    ++ (filter_map comes (slice_range xs b c) ++ (filter_map comes (slice_range xs c d) ++ filter_map comes (drop d xs))))
all_parts {X} {Y} comes xs a b c d ab bc cd =
    let f = filter_map comes in
    ap f (sym (take-append-drop a xs)) ∙ filter_map_joined comes (take a xs) (drop a xs)
    ∙ ap (λ (ys : List Y). f (take a xs) ++ ys) (cut a b ab)
    ∙ ap (λ (ys : List Y). f (take a xs) ++ (f (slice_range xs a b) ++ ys)) (cut b c bc)
    ∙ ap (λ (ys : List Y). f (take a xs) ++ (f (slice_range xs a b) ++ (f (slice_range xs b c) ++ ys))) (cut c d cd)
  where
    cut : (m n : ℕ) → m ≤ n → filter_map comes (drop m xs) ≡ filter_map comes (slice_range xs m n) ++ filter_map comes (drop n xs)
    cut m n l = ap (filter_map comes) (drop_split xs m n l) ∙ filter_map_joined comes (slice_range xs m n) (drop n xs)

pub none_comes : {X Y : Type 0} (comes : X → Option Y) (test : X → Bool) (xs : List X) → ((x : X) → test x ≡ true → comes x ≡ None)
    → list_all test xs ≡ true → filter_map comes xs ≡ []
none_comes comes test [] none all = refl
none_comes {X} {Y} comes test (x ∷ xs) none all =
    let parts = and_true (test x) (list_all test xs) all in
    ap (λ (o : Option Y). cons_option o (filter_map comes xs)) (none x parts.0) ∙ none_comes comes test xs none parts.1

-- ---- one by one

pub all_from : {X : Type 0} (test : X → Bool) (xs : List X) → ((k : ℕ) (x : X) → slice_get xs k ≡ Some x → test x ≡ true) → list_all test xs ≡ true
all_from test [] each = refl
all_from test (x ∷ xs) each =
    ap (λ (b : Bool). b && list_all test xs) (each 0 x refl) ∙ all_from test xs (λ k y got. each (suc k) y got)

pub one_of_all : {X : Type 0} (test : X → Bool) (xs : List X) (k : ℕ) (x : X) → list_all test xs ≡ true → slice_get xs k ≡ Some x → test x ≡ true
one_of_all test [] k x all got = absurd (none-some x got)
one_of_all test (y ∷ ys) zero x all got = ap test (sym (same_Some y x got)) ∙ (and_true (test y) (list_all test ys) all).0
one_of_all test (y ∷ ys) (suc k) x all got = one_of_all test ys k x (and_true (test y) (list_all test ys) all).1 got

pub got_of_take : {X : Type 0} (n : ℕ) (xs : List X) (k : ℕ) (x : X) → slice_get (take n xs) k ≡ Some x → slice_get xs k ≡ Some x
got_of_take zero xs k x got = absurd (none-some x got)
got_of_take (suc n) [] k x got = absurd (none-some x got)
got_of_take (suc n) (y ∷ ys) zero x got = got
got_of_take (suc n) (y ∷ ys) (suc k) x got = got_of_take n ys k x got

-- what comes of one is found in what comes of all
pub one_found : {X Y : Type 0} (comes : X → Option Y) (test : Y → Bool) (xs : List X) (k : ℕ) (x : X) (y : Y) → slice_get xs k ≡ Some x
    → comes x ≡ Some y → test y ≡ true → is_some (find test (filter_map comes xs)) ≡ true
one_found comes test [] k x y got is passes = absurd (none-some x got)
one_found {X} {Y} comes test (z ∷ zs) zero x y got is passes =
    let here : comes z ≡ Some y = ap comes (same_Some z x got) ∙ is in
    ap (λ (o : Option Y). is_some (find test (cons_option o (filter_map comes zs)))) here
    ∙ ap (λ (b : Bool). is_some (cond b (Some y) (find test (filter_map comes zs)))) passes
one_found {X} {Y} comes test (z ∷ zs) (suc k) x y got is passes = by (comes z) (one_found comes test zs k x y got is passes)
  where
    further : (b : Bool) (u : Y) → is_some (find test (filter_map comes zs)) ≡ true → is_some (cond b (Some u) (find test (filter_map comes zs))) ≡ true
    further true u e = refl
    further false u e = e

    by : (o : Option Y) → is_some (find test (filter_map comes zs)) ≡ true → is_some (find test (cons_option o (filter_map comes zs))) ≡ true
    by None e = e
    by (Some u) e = further (test u) u e
