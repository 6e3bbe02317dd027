-- A path in the order of the recipients has their addresses. Addresses that are put into an index one after another are
-- known, and no others.
use Rattle.std.proofs.Common.{◌≡◌, ℕ, ◌+◌, ◌<◌, Bool, true, false, ◌||◌, ◌&&◌, cond, List, [], ◌∷◌, ◌++◌, length, take, Option, Some, None, refl, ap, sym, ◌∙◌, get_or}
use Rattle.std.specs.Prelude.{is_some, IsSome}
use Rattle.std.specs.List.{list_all, list_any}
use Rattle.std.specs.Str.{bytes_eq}
use Rattle.std.proofs.Math.Bool.{or-true}
use Rattle.std.proofs.lemmas.Bool.{and_parts}
use Rattle.std.proofs.lemmas.Cmp.{nat_list_eq_equiv}
use Rattle.std.proofs.lemmas.List.Folds.{list_any_more}
use Rattle.std.proofs.lemmas.Slice.Eq.{bytes_eq-Decides}
use Rattle.pec_types.specs.Bytes.{Bytes, Path}
use Rattle.pec_types.specs.declared.messages.Recipient.{Recipient}
use Rattle.pec_heads.specs.FactsOfHeads.{has_address}
use Rattle.pec_index.specs.Entries.{Entries, Finds, IsAdded, value_at}
use Rattle.pec_points.specs.AdmissionReading.{has_recipient, is_path_of}
use Rattle.pec_points.specs.Known.{AreKnown, has_key, is_in_order}
use Rattle.pec_points.proofs.SetLemmas.{set_is_path}

-- ---- in the same order

alike : (path : Path) (recipients : List Recipient) → is_in_order path recipients ≡ true
    → (x : Bytes) → has_address path x ≡ has_recipient recipients x
alike [] [] e x = refl
alike [] (r ∷ recipients) e x = absurd cc
alike (address ∷ path) [] e x = absurd cc
alike (address ∷ path) (r ∷ recipients) e x =
    let p = and_parts (bytes_eq address r.address) (is_in_order path recipients) e
    in ap (λ y. bytes_eq y x || has_address path x) ((bytes_eq-Decides address r.address).0 p.0)
    ∙ ap (λ t. bytes_eq r.address x || t) (alike path recipients p.1 x)

pub in_order_is_path : (path : Path) (recipients : List Recipient) → is_in_order path recipients ≡ true
    → is_path_of path recipients ≡ true
in_order_is_path path recipients e = set_is_path path recipients (alike path recipients e)

-- ---- one address more

or_nothing : (t : Bool) → t ≡ (t || false)
or_nothing true = refl
or_nothing false = refl

found_or : (t : Bool) (value : Bool) (rest : Option Bool) (more : Bool) (old : Option Bool)
    → is_some rest ≡ (is_some old || more) → is_some (cond t (Some value) rest) ≡ (is_some (cond t (Some value) old) || more)
found_or true value rest more old e = refl
found_or false value rest more old e = e

found_one : (t : Bool) → is_some (cond t (Some true) None) ≡ t
found_one true = refl
found_one false = refl

key_behind : (entries : Entries Bool) (key other : Bytes)
    → has_key (entries ++ (key, true) ∷ []) other ≡ (has_key entries other || bytes_eq key other)
key_behind [] key other = found_one (bytes_eq other key) ∙ nat_list_eq_equiv.symm other key
key_behind (entry ∷ entries) key other =
    found_or (bytes_eq other entry.0) entry.1 (value_at other (entries ++ (key, true) ∷ [])) (bytes_eq key other)
    (value_at other entries) (key_behind entries key other)

known_stays : (entries : Entries Bool) (key other : Bytes) (same : Bool) → bytes_eq key other ≡ same
    → has_key entries key ≡ true → has_key entries other ≡ (has_key entries other || same)
known_stays entries key other true e there =
    ap (has_key entries) (sym ((bytes_eq-Decides key other).0 e)) ∙ there ∙ sym (or-true (has_key entries other))
known_stays entries key other false e there = or_nothing (has_key entries other)

-- what an index has behind an addition
pub one_added : (added : Bool) (old new : Entries Bool) (key : Bytes)
    → ((entries : Entries Bool) → Finds old entries → IsAdded added new entries key true) → (added ≡ false → new ≡ old)
    → (other : Bytes) → has_key new other ≡ (has_key old other || bytes_eq key other)
one_added true old new key is kept other = ap is_some ((is old (λ k. refl)).1 other) ∙ key_behind old key other
one_added false old new key is kept other =
    let there : IsSome (value_at key old) = is old (λ k. refl)
    in ap (λ entries. has_key entries other) (kept refl) ∙ known_stays old key other (bytes_eq key other) refl there

-- ---- one after another

abbrev pub is_one : {X : Type 0} → (X → Bytes) → List X → Bytes → Bool
is_one address xs key = list_any (λ y. bytes_eq (address y) key) xs

pub one_more : {X : Type 0} (address : X → Bytes) (xs : List X) (i : ℕ) (x : X) (old new : Entries Bool) → i < length xs
    → x ≡ get_or xs i x → AreKnown old (is_one address (take i xs))
    → ((key : Bytes) → has_key new key ≡ (has_key old key || bytes_eq (address x) key))
    → AreKnown new (is_one address (take (i + 1) xs))
one_more address xs i x old new within is known added key =
    added key
    ∙ ap (λ t. t || bytes_eq (address x) key) (known key)
    ∙ ap (λ y. is_one address (take i xs) key || bytes_eq (address y) key) is
    ∙ sym (list_any_more (λ y. bytes_eq (address y) key) xs i x within)

-- ---- the two sets

all_alike : {X : Type 0} (p q : X → Bool) (xs : List X) → ((x : X) → p x ≡ q x) → list_all p xs ≡ list_all q xs
all_alike p q [] same = refl
all_alike p q (x ∷ xs) same = rw (same x, all_alike p q xs same) refl

all_on : (path : Path) (recipients : List Recipient) (known : Entries Bool) → AreKnown known (has_address path)
    → list_all (λ r. has_key known r.address) recipients ≡ list_all (λ r. has_address path r.address) recipients
all_on path recipients known is =
    all_alike (λ (r : Recipient). has_key known r.address) (λ (r : Recipient). has_address path r.address) recipients (λ r. is r.address)

-- a recipient that isn't on the path
pub not_all_on : (path : Path) (recipients : List Recipient) (known : Entries Bool) → AreKnown known (has_address path)
    → list_all (λ r. has_key known r.address) recipients ≡ false → is_path_of path recipients ≡ false
unfolding is_path_of
not_all_on path recipients known is e = rw (sym (all_on path recipients known is) ∙ e) refl

-- all recipients are on the path, and then its addresses decide
pub all_on_and : (path : Path) (recipients : List Recipient) (on_path named : Entries Bool)
    → AreKnown on_path (has_address path) → AreKnown named (has_recipient recipients)
    → list_all (λ r. has_key on_path r.address) recipients ≡ true
    → list_all (has_key named) path ≡ is_path_of path recipients
unfolding is_path_of
all_on_and path recipients on_path named is are e =
    rw (sym (all_on path recipients on_path is) ∙ e) (all_alike (has_key named) (has_recipient recipients) path are)
