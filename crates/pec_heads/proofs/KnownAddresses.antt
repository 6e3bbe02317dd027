-- The set of the addresses of recipients, with one more.
use Rattle.std.proofs.Common.{◌≡◌, ℕ, List, [], ◌∷◌, ◌++◌, Bool, true, false, not, ◌||◌, refl, ap, sym, ◌∙◌, Vec, Global}
use Rattle.std.proofs.lemmas.Cmp.{nat_list_eq_equiv}
use Rattle.std.proofs.lemmas.List.Folds.{list_any-append}
use Rattle.std.proofs.lemmas.Map.Text.{is_eq-slice_cmp}
use Rattle.std.proofs.lemmas.Slice.Eq.{bytes_eq-Decides}
use Rattle.std.specs.BTreeMap.{is_at}
use Rattle.std.specs.BTreeSet.{insert_key}
use Rattle.std.specs.Cmp.Lexicographic.{slice_cmp}
use Rattle.std.specs.List.{list_any}
use Rattle.std.specs.Ordering.{is_eq, match_ordering, nat_cmp}
use Rattle.std.specs.Str.{bytes_eq}
use Rattle.std.specs.declared.cmp.Ordering.{Ordering}
use Rattle.std.specs.declared.cmp.Ordering.TheVariants.{Less, Equal, Greater}
use Rattle.pec_types.specs.declared.messages.Recipient.{Recipient}
use Rattle.pec_types.specs.declared.messages.Class.{Class}
use Rattle.pec_heads.specs.FactsOfHeads.{recipient}
use Rattle.pec_heads.specs.FactsReading.{with_recipient}

abbrev Key : Type 0
Key = Vec ℕ Global

abbrev key_cmp : Key → Key → Ordering
key_cmp x y = slice_cmp nat_cmp x.items y.items

-- whether a set has an address
abbrev has : List ℕ → List Key → Bool
has address keys = list_any (is_at (λ (key : Key). slice_cmp nat_cmp address key.items)) keys

or_swap : (a b c : Bool) → (a || (b || c)) ≡ (b || (a || c))
or_swap true true c = refl
or_swap true false c = refl
or_swap false b c = refl

or_same : (a b c : Bool) → a ≡ b → (b || c) ≡ (a || (b || c))
or_same true b c e = rw (← e) refl
or_same false b c e = refl

same_key : (address : List ℕ) (key other : Key) → key_cmp key other ≡ Equal
    → is_eq (slice_cmp nat_cmp address key.items) ≡ is_eq (slice_cmp nat_cmp address other.items)
same_key address key other e =
    let same : key.items ≡ other.items = (bytes_eq-Decides key.items other.items).0 (sym (is_eq-slice_cmp key.items other.items) ∙ ap is_eq e)
    in ap (λ bytes. is_eq (slice_cmp nat_cmp address bytes)) same

inserted_case : (address : List ℕ) (key other : Key) (keys : List Key) (o : Ordering) → key_cmp key other ≡ o
    → has address (insert_key key_cmp keys key) ≡ (is_eq (slice_cmp nat_cmp address key.items) || has address keys)
    → has address (match_ordering o (key ∷ other ∷ keys) (other ∷ keys) (other ∷ insert_key key_cmp keys key)) ≡ (is_eq (slice_cmp nat_cmp address key.items) || has address (other ∷ keys))
inserted_case address key other keys Less e ih = refl
inserted_case address key other keys Equal e ih =
    or_same (is_eq (slice_cmp nat_cmp address key.items)) (is_eq (slice_cmp nat_cmp address other.items)) (has address keys) (same_key address key other e)
inserted_case address key other keys Greater e ih =
    ap (λ t. is_eq (slice_cmp nat_cmp address other.items) || t) ih
    ∙ or_swap (is_eq (slice_cmp nat_cmp address other.items)) (is_eq (slice_cmp nat_cmp address key.items)) (has address keys)

inserted : (address : List ℕ) (keys : List Key) (key : Key) → has address (insert_key key_cmp keys key) ≡ (is_eq (slice_cmp nat_cmp address key.items) || has address keys)
inserted address [] key = refl
inserted address (other ∷ keys) key = inserted_case address key other keys (key_cmp key other) refl (inserted address keys key)

turned : (a b : Bool) → (a || b) ≡ (b || (a || false))
turned true true = refl
turned true false = refl
turned false true = refl
turned false false = refl

-- where a set has the addresses of the recipients, it has them with one more on both sides
pub known_more : (class : Class) (all : List Recipient) (keys new : List Key) (key : Key) (address : List ℕ) → new ≡ insert_key key_cmp keys key → key.items ≡ address
    → ((x : List ℕ) → has x keys ≡ list_any (λ r. bytes_eq r.address x) all) → (x : List ℕ) → has x new ≡ list_any (λ r. bytes_eq r.address x) (all ++ recipient class address ∷ [])
known_more class all keys new key address e f known x =
    rw (e, inserted x keys key, known x, f, is_eq-slice_cmp x address, nat_list_eq_equiv.symm x address, list_any-append (λ (r : Recipient). bytes_eq r.address x) all (recipient class address ∷ []))
    (turned (bytes_eq address x) (list_any (λ r. bytes_eq r.address x) all))

abbrev Knows : List Key → List Recipient → Type 0
Knows keys all = (x : List ℕ) → has x keys ≡ list_any (λ r. bytes_eq r.address x) all

is_there : (is_new there : Bool) → is_new ≡ not there → is_new ≡ false → there ≡ true
is_there is_new true e f = refl
is_there is_new false e f = cc

is_absent : (is_new there : Bool) → is_new ≡ not there → is_new ≡ true → there ≡ false
is_absent is_new true e f = cc
is_absent is_new false e f = refl

pub with_known : (class : Class) (all : List Recipient) (keys : List Key) (key : Key) (address : List ℕ) (is_new : Bool) → key.items ≡ address
    → Knows keys all → is_new ≡ not (has key.items keys) → is_new ≡ false → all ≡ with_recipient class all address
with_known class all keys key address is_new e known f g =
    let there : list_any (λ (r : Recipient). bytes_eq r.address address) all ≡ true = rw (← known address, ← e) (is_there is_new (has key.items keys) f g)
    in rw there refl

pub with_new : (class : Class) (all more : List Recipient) (keys : List Key) (key : Key) (address : List ℕ) (is_new : Bool) → key.items ≡ address
    → Knows keys all → is_new ≡ not (has key.items keys) → is_new ≡ true → more ≡ all ++ recipient class address ∷ [] → more ≡ with_recipient class all address
with_new class all more keys key address is_new e known f g h =
    let absent : list_any (λ (r : Recipient). bytes_eq r.address address) all ≡ false = rw (← known address, ← e) (is_absent is_new (has key.items keys) f g)
    in rw absent h
