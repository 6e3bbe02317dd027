-- Places in a list of numbers: one number more, and what stands beside each.
use Rattle.std.proofs.Common.{◌≡◌, ℕ, zero, suc, ◌<◌, ◌==◌, nat_eq, Bool, true, false, cond, List, [], ◌∷◌, ◌++◌, length, take, get_or, refl, sym, ap, ◌∙◌, arith, Option, Some, None, slice_index, Result, Ok, Err, IsOk, OnOk}
use Rattle.std.specs.HashMap.{HashMap, Updates, get}
use Rattle.std.specs.Option.{IfSome, option_map, option_or}
use Rattle.std.proofs.lemmas.Bool.{false≢true}
use Rattle.std.proofs.lemmas.Bool.Decides.{nat_tests}
use Rattle.std.proofs.lemmas.List.{append_assoc}
use Rattle.pec_places.specs.Places.{AreLast, last_place, links_behind, links_of}

further : (x n k : ℕ) (same : Bool) (o : Option ℕ)
    → option_or (option_map suc (cond same (Some k) o)) (cond (n == x) (Some 0) None)
    ≡ cond same (Some (suc k)) (option_or (option_map suc o) (cond (n == x) (Some 0) None))
further x n k true o = refl
further x n k false o = refl

last_more : (n : ℕ) (ms : List ℕ) (m : ℕ) → last_place n (ms ++ m ∷ []) ≡ cond (n == m) (Some (length ms)) (last_place n ms)
last_more n [] m = refl
last_more n (x ∷ ms) m = rw (last_more n ms m) (further x n (length ms) (n == m) (last_place n ms))

either_way : (a b : ℕ) → (a == b) ≡ (b == a)
either_way a b = grind (arith, nat_tests)

-- the last places, with one number more
pub lasts_more : {S : Type 0} (old new : HashMap ℕ ℕ S) (numbers : List ℕ) (number place : ℕ) → AreLast old numbers → place ≡ length numbers
    → Updates nat_eq old new number (Some place) → AreLast new (numbers ++ number ∷ [])
lasts_more old new numbers number place are long updates = λ n.
    updates.0 n ∙ ap (λ k. cond (number == n) (Some k) (get nat_eq old n)) long
    ∙ ap (λ b. cond b (Some (length numbers)) (get nat_eq old n)) (either_way number n)
    ∙ ap (cond (n == number) (Some (length numbers))) (are n) ∙ sym (last_more n numbers number)

links_grow : (front ns : List ℕ) (n : ℕ) → links_behind front (ns ++ n ∷ []) ≡ links_behind front ns ++ last_place n (front ++ ns) ∷ []
links_grow front [] n = ap (λ xs. last_place n xs ∷ []) (sym (behind_nothing front))
  where
    behind_nothing : (xs : List ℕ) → xs ++ [] ≡ xs
    behind_nothing [] = refl
    behind_nothing (x ∷ xs) = ap (λ ys. x ∷ ys) (behind_nothing xs)
links_grow front (m ∷ ns) n =
    ap (λ xs. last_place m front ∷ xs)
    (links_grow (front ++ m ∷ []) ns n ∙ ap (λ xs. links_behind (front ++ m ∷ []) ns ++ last_place n xs ∷ []) (append_assoc front (m ∷ []) ns))

-- the links, with one number more
pub links_more : (ns : List ℕ) (n : ℕ) → links_of (ns ++ n ∷ []) ≡ links_of ns ++ last_place n ns ∷ []
links_more ns n = links_grow [] ns n

links_long : (front ns : List ℕ) → length (links_behind front ns) ≡ length ns
links_long front [] = refl
links_long front (n ∷ ns) = ap suc (links_long (front ++ n ∷ []) ns)

-- a link for each number
pub as_many_links : (ns : List ℕ) → length (links_of ns) ≡ length ns
as_many_links ns = links_long [] ns

link_behind : (front ns : List ℕ) (place : ℕ) (d : Option ℕ) → place < length ns
    → get_or (links_behind front ns) place d ≡ last_place (slice_index ns place) (front ++ take place ns)
link_behind front [] place d l = absurd (omega arith)
link_behind front (n ∷ ns) zero d l = ap (last_place n) (sym (behind_nothing front))
  where
    behind_nothing : (xs : List ℕ) → xs ++ [] ≡ xs
    behind_nothing [] = refl
    behind_nothing (x ∷ xs) = ap (λ ys. x ∷ ys) (behind_nothing xs)
link_behind front (n ∷ ns) (suc place) d l =
    link_behind (front ++ n ∷ []) ns place d (omega (arith, l))
    ∙ ap (last_place (slice_index ns place)) (append_assoc front (n ∷ []) (take place ns))

-- what stands beside a number
pub link_at : (ns : List ℕ) (place : ℕ) (d : Option ℕ) → place < length ns → get_or (links_of ns) place d ≡ last_place (slice_index ns place) (take place ns)
link_at ns place d l = link_behind [] ns place d l

-- a place at which a number stands is one of the list
pub last_within : (n : ℕ) (ns : List ℕ) → IfSome (last_place n ns) (λ place. place < length ns)
last_within n [] = record {}
last_within n (m ∷ ns) = by (last_place n ns) (n == m) (last_within n ns)
  where
    by : (found : Option ℕ) (same : Bool) → IfSome found (λ place. place < length ns)
        → IfSome (option_or (option_map suc found) (cond same (Some 0) None)) (λ place. place < suc (length ns))
    by (Some place) same within = omega (arith, within)
    by None true within = omega arith
    by None false within = record {}

-- what is so where it succeeded, where it did
pub on_ok : {T E : Type 0} (r : Result T E) (P : Type 0) → IsOk r → OnOk r P → P
on_ok (Ok x) P ok p = p
on_ok (Err e) P ok p = absurd (false≢true ok)

-- what is below a length is below what the length is at most
pub some_below : (found : Option ℕ) (long most : ℕ) → IfSome found (λ place. place < long) → long < suc most → IfSome found (λ place. place < most)
some_below (Some place) long most within l = omega (arith, within, l)
some_below None long most within l = record {}
