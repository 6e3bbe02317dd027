-- Recipients that are gathered one after another, unless they are known, are those of the path, each once.
use Rattle.std.proofs.Common.{◌≡◌, ℕ, ◌+◌, ◌<◌, Bool, true, false, ◌||◌, cond, List, [], ◌∷◌, ◌++◌, length, map, take, Option, Some, None, refl, ap, sym, subst, ◌∙◌, get_or}
use Rattle.std.specs.Prelude.{IsSome, is_some}
use Rattle.std.specs.List.{AllByRecursion, list_any}
use Rattle.std.specs.Str.{bytes_eq}
use Rattle.std.proofs.lemmas.Cmp.{nat_list_eq_equiv}
use Rattle.std.proofs.lemmas.List.{append-nil, append_assoc, map-append, take_more}
use Rattle.pec_types.specs.Address.{IsLowerAddress}
use Rattle.pec_types.specs.Bytes.{Bytes, Path}
use Rattle.pec_types.specs.declared.messages.Class.{Class}
use Rattle.pec_types.specs.declared.messages.Class.TheVariants.{Primary}
use Rattle.pec_types.specs.declared.messages.Recipient.{Recipient}
use Rattle.pec_index.specs.Entries.{Entries, Finds, IsAdded, Key, value_at}
use Rattle.pec_heads.specs.FactsOfHeads.{fresh, has_address, recipient, recipients_of}
use Rattle.pec_heads.specs.FactsReading.{with_recipient, with_recipients}
use Rattle.pec_outgoing.specs.Known.{AreKnown, key_of}

-- ---- which addresses are known

abbrev stands : Bytes → List Recipient → Bool
stands address all = list_any (λ (r : Recipient). bytes_eq r.address address) all

some_or : (t b : Bool) (rest : Option Bool) → is_some rest ≡ b → is_some (cond t (Some true) rest) ≡ (t || b)
some_or true b rest e = refl
some_or false b rest e = e

found_is : (address : Bytes) (all : List Recipient) → is_some (value_at address (map key_of all)) ≡ stands address all
found_is address [] = refl
found_is address (r ∷ all) =
    some_or (bytes_eq address r.address) (stands address all) (value_at address (map key_of all)) (found_is address all)
    ∙ ap (λ (t : Bool). t || stands address all) (nat_list_eq_equiv.symm address r.address)

is_added : (added : Bool) (index entries : Entries Bool) (key : Key) → added ≡ true
    → IsAdded added index entries key true
    → (value_at key entries ≡ None) × Finds index (entries ++ (key, true) ∷ [])
is_added true index entries key e is = is
is_added false index entries key e is = absurd cc

is_known : (added : Bool) (index entries : Entries Bool) (key : Key) → added ≡ false
    → IsAdded added index entries key true → IsSome (value_at key entries)
is_known true index entries key e is = absurd cc
is_known false index entries key e is = is

-- one that is known stays out
pub known_stays : (all : List Recipient) (index : Entries Bool) (key address : Bytes) (added : Bool) → key ≡ address
    → added ≡ false
    → IsAdded added index (map key_of all) key true → all ≡ with_recipient Primary all address
known_stays all index key address added same e is =
    let there : stands address all ≡ true = sym (found_is address all)
    ∙ subst (λ (k : Bytes). IsSome (value_at k (map key_of all))) same (is_known added index (map key_of all) key e is)
    in ap (λ (t : Bool). cond t all (all ++ recipient Primary address ∷ [])) (sym there)

-- one that is new comes to both
pub new_comes : (all more : List Recipient) (index : Entries Bool) (key address : Bytes) (added : Bool) → key
    ≡ address → added ≡ true
    → IsAdded added index (map key_of all) key true → more ≡ all ++ recipient Primary address ∷ [] → more
    ≡ with_recipient Primary all address
new_comes all more index key address added same e is put =
    let none = subst (λ (k : Bytes). value_at k (map key_of all) ≡ None) same (is_added added index (map key_of all)
    key e is).0
    in let absent : stands address all ≡ false = sym (found_is address all) ∙ ap is_some none
    in put ∙ ap (λ (t : Bool). cond t all (all ++ recipient Primary address ∷ [])) (sym absent)

pub new_is_known : (all more : List Recipient) (index : Entries Bool) (key address : Bytes) (added : Bool) → key
    ≡ address → added ≡ true
    → IsAdded added index (map key_of all) key true → more ≡ all ++ recipient Primary address ∷ [] → AreKnown index more
new_is_known all more index key address added same e is put =
    let finds = subst (λ (k : Bytes). Finds index (map key_of all ++ (k, true) ∷ [])) same (is_added added index (map
    key_of all) key e is).1
    in subst (λ (entries : Entries Bool). Finds index entries)
    (sym (ap (map key_of) put ∙ map-append key_of all (recipient Primary address ∷ []))) finds

-- ---- one after another

with_more : (class : Class) (all : List Recipient) (xs : Path) (x : Bytes)
    → with_recipients class all (xs ++ x ∷ []) ≡ with_recipient class (with_recipients class all xs) x
with_more class all [] x = refl
with_more class all (y ∷ xs) x = with_more class (with_recipient class all y) xs x

taken : (path : Path) (i : ℕ) (x : Bytes) → i < length path → x ≡ get_or path i x → take (i + 1) path
    ≡ take i path ++ x ∷ []
taken path i x within is = take_more path i x within ∙ ap (λ (y : Bytes). take i path ++ y ∷ []) (sym is)

pub gathered_more : (path : Path) (i : ℕ) (x : Bytes) (old new : List Recipient) → i < length path → x ≡ get_or path i x
    → old ≡ with_recipients Primary [] (take i path) → new ≡ with_recipient Primary old x → new
    ≡ with_recipients Primary [] (take (i + 1) path)
gathered_more path i x old new within is before added =
    added ∙ ap (λ (all : List Recipient). with_recipient Primary all x) before
    ∙ sym (with_more Primary [] (take i path) x)
    ∙ ap (with_recipients Primary []) (sym (taken path i x within is))

all_and : (P : Bytes → Type 0) (xs : Path) (x : Bytes) → AllByRecursion P xs → P x → AllByRecursion P (xs ++ x ∷ [])
all_and P [] x all one = (one, tt)
all_and P (y ∷ xs) x all one = (all.0, all_and P xs x all.1 one)

pub lower_more : (path : Path) (i : ℕ) (x : Bytes) → i < length path → x ≡ get_or path i x
    → AllByRecursion IsLowerAddress (take i path) → IsLowerAddress x
    → AllByRecursion IsLowerAddress (take (i + 1) path)
lower_more path i x within is all one =
    subst (AllByRecursion IsLowerAddress) (sym (taken path i x within is)) (all_and IsLowerAddress (take i path) x all
    one)

-- ---- all

abbrev addresses : List Recipient → Path
addresses all = map (λ (r : Recipient). r.address) all

there_is : (all : List Recipient) (x : Bytes) → stands x all ≡ has_address (addresses all) x
there_is [] x = refl
there_is (r ∷ all) x = ap (λ (t : Bool). bytes_eq r.address x || t) (there_is all x)

added_is : (all : List Recipient) (x : Bytes) → addresses (all ++ recipient Primary x ∷ []) ≡ addresses all ++ x ∷ []
added_is all x = map-append (λ (r : Recipient). r.address) all (recipient Primary x ∷ [])

added_case : (all : List Recipient) (x : Bytes) (xs : Path) (t : Bool) → stands x all ≡ t
    → ((more : List Recipient) → with_recipients Primary more xs ≡ more ++ map (recipient Primary) (fresh (addresses
    more) xs))
    → with_recipients Primary (cond (stands x all) all (all ++ recipient Primary x ∷ [])) xs
    ≡ all ++ map (recipient Primary) (cond t (fresh (addresses all) xs) (x ∷ fresh (addresses all ++ x ∷ []) xs))
added_case all x xs true e ih = rw e (ih all)
added_case all x xs false e ih = rw e (ih (all ++ recipient Primary x ∷ []) ∙ rw (added_is all x, append_assoc) refl)

added_all : (all : List Recipient) (xs : Path) → with_recipients Primary all xs
    ≡ all ++ map (recipient Primary) (fresh (addresses all) xs)
added_all all [] = sym (append-nil all)
added_all all (x ∷ xs) = added_case all x xs (has_address (addresses all) x) (there_is all x) (λ more. added_all more
    xs)

pub each_once_is : (path : Path) → with_recipients Primary [] path ≡ recipients_of path []
unfolding recipients_of
each_once_is path = added_all [] path ∙ sym (append-nil (map (recipient Primary) (fresh [] path)))
