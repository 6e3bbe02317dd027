-- Mailbox and archive of an account hold together what was ever placed with it; an item that is moved leaves the one
-- for the other, and what is placed later stands behind.
use Rattle.std.proofs.Common.{◌≡◌, ℕ, zero, suc, ◌+◌, ◌<◌, List, [], ◌∷◌, ◌++◌, Bool, true, false, cond, length, take, drop, refl, ap, sym, subst, ◌∙◌, arith, Option}
use Rattle.std.specs.Prelude.{All, Contains, filter, fold, slice_get}
use Rattle.std.specs.Option.{option_to_list}
use Rattle.std.specs.Str.{bytes_eq}
use Rattle.std.proofs.lemmas.List.{length-append}
use Rattle.std.proofs.lemmas.List.Elements.{All-append, All-cons, All-contains, All-contains_itself, All-head, All-nil, All-tail}
use Rattle.std.proofs.lemmas.List.Sums.{fold-append}
use Rattle.std.proofs.lemmas.Slice.Eq.{bytes_eq-Decides}
use Rattle.pec_types.specs.Bytes.{Bytes}
use Rattle.pec_ledger.specs.Along.{times}
use Rattle.pec_ledger.specs.Boxes.{AllWithin, Boxes, boxes_of, moved, unmoved, with_more, without_at}
use Rattle.pec_ledger.specs.Guarantees.{times_held}
use Rattle.pec_ledger.specs.Half.{Half, Posted}
use Rattle.pec_ledger.specs.Lookups.{archive, ever_placed, mailbox, places_moved}
use Rattle.pec_ledger.proofs.ListLemmas.{from_filter, times_append}

-- ---- together

kept_too : (b : Bool) (x : Posted) (xs ys : List Posted) (n : ℕ) → length xs + n ≡ length ys
    → length (cond b (x ∷ xs) xs) + n ≡ length (cond b (x ∷ ys) ys)
kept_too true x xs ys n e = omega (arith, e)
kept_too false x xs ys n e = e

taken_out : (b : Bool) (x : Posted) (xs : List Posted) → length xs + length (cond b (x ∷ []) []) ≡ length (cond b (x ∷ xs) xs)
taken_out true x xs = omega arith
taken_out false x xs = omega arith

-- an item that is taken out, and the others
parted : (test : Posted → Bool) (items : List Posted) (place : ℕ)
    → times test (without_at items place) + times test (option_to_list (slice_get items place)) ≡ times test items
parted test [] place = refl
parted test (x ∷ xs) zero = taken_out (test x) x (filter test xs)
parted test (x ∷ xs) (suc place) =
    kept_too (test x) x (filter test (without_at xs place)) (filter test xs) (times test (option_to_list (slice_get xs place)))
    (parted test xs place)

once : (test : Posted → Bool) (now : Boxes) (place : ℕ)
    → times test (moved now place).mailbox + times test (moved now place).archive ≡ times test now.mailbox + times test now.archive
once test now place =
    let more = times_append test now.archive (option_to_list (slice_get now.mailbox place))
    in let parts = parted test now.mailbox place
    in let together : times test (without_at now.mailbox place) + times test (now.archive ++ option_to_list (slice_get now.mailbox place))
    ≡ times test now.mailbox + times test now.archive = omega (arith, more, parts)
    in together

stays : (test : Posted → Bool) (now : Boxes) (places : List ℕ)
    → times test (fold moved now places).mailbox + times test (fold moved now places).archive
    ≡ times test now.mailbox + times test now.archive
stays test now [] = refl
stays test now (place ∷ places) = stays test (moved now place) places ∙ once test now place

-- what a mailbox and an archive hold was placed, once and no more
pub held : (test : Posted → Bool) (h : Half) (account : Bytes) → times_held test h account ≡ times test (ever_placed h account)
unfolding boxes_of
held test h account =
    stays test (unmoved (ever_placed h account)) (places_moved h account)
    ∙ (let e : times test (ever_placed h account) + 0 ≡ times test (ever_placed h account) = omega arith in e)

-- ---- items of either box

all_without : (P : Posted → Type 0) (items : List Posted) (place : ℕ) → All P items → All P (without_at items place)
all_without P [] place all = all
all_without P (x ∷ xs) zero all = All-tail P x xs all
all_without P (x ∷ xs) (suc place) all =
    All-cons P x (without_at xs place) (All-head P x xs all) (all_without P xs place (All-tail P x xs all))

all_taken_out : (P : Posted → Type 0) (items : List Posted) (place : ℕ) → All P items → All P (option_to_list (slice_get items place))
all_taken_out P [] place all = All-nil P
all_taken_out P (x ∷ xs) zero all = All-cons P x [] (All-head P x xs all) (All-nil P)
all_taken_out P (x ∷ xs) (suc place) all = all_taken_out P xs place (All-tail P x xs all)

all_moved : (P : Posted → Type 0) (now : Boxes) (places : List ℕ) → All P now.mailbox → All P now.archive
    → All P (fold moved now places).mailbox × All P (fold moved now places).archive
all_moved P now [] m a = (m, a)
all_moved P now (place ∷ places) m a =
    all_moved P (moved now place) places (all_without P now.mailbox place m)
    (All-append P now.archive (option_to_list (slice_get now.mailbox place)) a (all_taken_out P now.mailbox place m))

both_placed : (h : Half) (account : Bytes)
    → All (Contains (ever_placed h account)) (mailbox h account) × All (Contains (ever_placed h account)) (archive h account)
unfolding boxes_of
both_placed h account =
    let items = ever_placed h account
    in all_moved (Contains items) (unmoved items) (places_moved h account) (All-contains_itself items) (All-nil (Contains items))

was_placed : (h : Half) (account : Bytes) (posted : Posted) → Contains (ever_placed h account) posted
    → Contains h.items posted × (account ≡ posted.account)
was_placed h account posted c =
    let there = from_filter (λ (q : Posted). bytes_eq account q.account) h.items posted c
    in (there.0, (bytes_eq-Decides account posted.account).0 there.1)

-- an item of a mailbox was placed with its account
pub mailbox_placed : (h : Half) (account : Bytes) (posted : Posted) → Contains (mailbox h account) posted
    → Contains h.items posted × (account ≡ posted.account)
mailbox_placed h account posted c =
    was_placed h account posted (All-contains (Contains (ever_placed h account)) (mailbox h account) posted (both_placed h account).0 c)

-- and so was one of an archive
pub archive_placed : (h : Half) (account : Bytes) (posted : Posted) → Contains (archive h account) posted
    → Contains h.items posted × (account ≡ posted.account)
archive_placed h account posted c =
    was_placed h account posted (All-contains (Contains (ever_placed h account)) (archive h account) posted (both_placed h account).1 c)

-- ---- a move

pub same_boxes : (items others : List Posted) (places more : List ℕ) → items ≡ others → places ≡ more → boxes_of items places ≡ boxes_of others more
same_boxes items others places more e f = ap (λ (xs : List Posted). boxes_of xs places) e ∙ ap (boxes_of others) f

pub moved_once : (items : List Posted) (places : List ℕ) (place : ℕ) → boxes_of items (places ++ place ∷ []) ≡ moved (boxes_of items places) place
unfolding boxes_of
moved_once items places place = fold-append moved (unmoved items) places (place ∷ [])

-- ---- what is placed later

get_in_front : (items more : List Posted) (place : ℕ) → place < length items → slice_get (items ++ more) place ≡ slice_get items place
get_in_front [] more place l = absurd (omega arith)
get_in_front (x ∷ xs) more zero l = refl
get_in_front (x ∷ xs) more (suc place) l = get_in_front xs more place (omega arith)

without_in_front : (items more : List Posted) (place : ℕ) → place < length items → without_at (items ++ more) place ≡ without_at items place ++ more
without_in_front [] more place l = absurd (omega arith)
without_in_front (x ∷ xs) more zero l = refl
without_in_front (x ∷ xs) more (suc place) l = ap (λ ys. x ∷ ys) (without_in_front xs more place (omega arith))

boxes_same : (m n a b : List Posted) → m ≡ n → a ≡ b
    → (let one : Boxes = record { mailbox = m; archive = a } in let other : Boxes = record { mailbox = n; archive = b } in one ≡ other)
boxes_same m n a b e f = rw (e, f) refl

moved_in_front : (now : Boxes) (more : List Posted) (place : ℕ) → place < length now.mailbox
    → moved (with_more now more) place ≡ with_more (moved now place) more
moved_in_front now more place l =
    boxes_same (without_at (now.mailbox ++ more) place) (without_at now.mailbox place ++ more)
    (now.archive ++ option_to_list (slice_get (now.mailbox ++ more) place)) (now.archive ++ option_to_list (slice_get now.mailbox place))
    (without_in_front now.mailbox more place l)
    (ap (λ (o : Option Posted). now.archive ++ option_to_list o) (get_in_front now.mailbox more place l))

-- items that are placed later stand behind those of the mailbox, as if they had been placed after the moves
pub stand_behind : (now : Boxes) (more : List Posted) (places : List ℕ) → AllWithin now places
    → fold moved (with_more now more) places ≡ with_more (fold moved now places) more
stand_behind now more [] within = refl
stand_behind now more (place ∷ places) within =
    ap (λ (b : Boxes). fold moved b places) (moved_in_front now more place within.0)
    ∙ stand_behind (moved now place) more places within.1

-- and the places stay within
pub within_more : (now : Boxes) (more : List Posted) (places : List ℕ) → AllWithin now places → AllWithin (with_more now more) places
within_more now more [] within = tt
within_more now more (place ∷ places) within = (
  (let e = length-append now.mailbox more in omega (arith, e, within.0)),
  subst (λ (b : Boxes). AllWithin b places) (sym (moved_in_front now more place within.0))
      (within_more (moved now place) more places within.1),
)

-- ---- by places

-- an item is taken out by its place: those before it, and those behind it
pub without_is : (items : List Posted) (place : ℕ) → without_at items place ≡ take place items ++ drop (suc place) items
without_is [] zero = refl
without_is [] (suc place) = refl
without_is (x ∷ xs) zero = refl
without_is (x ∷ xs) (suc place) = ap (λ ys. x ∷ ys) (without_is xs place)
