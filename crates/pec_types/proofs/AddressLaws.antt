-- The answer on a text is its address, or its fault, by the grammar; and each text has one answer.
use Rattle.std.proofs.Common.{◌≡◌, ◌≢◌, ℕ, zero, suc, ◌+◌, ◌<◌, ◌≤◌, Bool, true, false, cond, eqb, ltb, List, [], ◌∷◌, ◌++◌, length, take, drop, position, Option, Some, None, MatchOption, Result, Ok, Err, refl, sym, ◌∙◌, ap, subst, arith, append_assoc, eqb-true, ltb-true, ltb-false, le-ltb, lt-ltb}
use Rattle.std.proofs.Math.Seq.{take-append_seam, drop-append-add}
use Rattle.std.proofs.lemmas.Bool.{false≢true, eqb-false}
use Rattle.std.proofs.lemmas.Iterator.Adapters.{position_from-zero}
use Rattle.std.proofs.lemmas.List.{take-append-drop}
use Rattle.std.specs.List.{flat_map, AllByRecursion, position_from}
use Rattle.pec_types.specs.Address.{is_atom_byte, AllAtomBytes, IsAtom, IsLocal, IsDomain, dotted, IsAddress, HasDomain, lowered, CanGoOn, IsBadAt, HasNoAt, IsParted, IsAddressFault, IsReadAs}
use Rattle.pec_types.specs.Answers.{TellsExactly}
use Rattle.pec_types.specs.AddressReading.{stop_at, is_at_sign, behind_sign, domain_of, domain_read, local_read, parted_read, address_of}
use Rattle.pec_types.specs.declared.addresses.AddressFault.{AddressFault}
use Rattle.pec_types.specs.declared.addresses.AddressFault.TheVariants.{Empty, TooLong, NoAt, BadLocal, BadDomain, NoMemory}
use Rattle.pec_types.specs.declared.scanning.Stand.TheVariants.{AtomBegins, LabelBegins}
use Rattle.pec_types.proofs.PartLaws.{stop_told, StopTells}

-- A part alone.

abbrev PartTells : (List ℕ → Type 0) → List ℕ → Option ℕ → Type 0
PartTells Right part answer = MatchOption answer (Right part) (λ at. IsBadAt Right part at)

local_from : (part : List ℕ) (answer : Option ℕ) → StopTells AtomBegins 0 part answer → PartTells IsLocal part answer
local_from part None told = told
local_from part (Some at) told = let same : told.0 ≡ at = omega (arith, told.2) in subst (λ n. IsBadAt IsLocal part n) same told.1

local_told : (part : List ℕ) → PartTells IsLocal part (stop_at AtomBegins 0 part)
local_told part = local_from part (stop_at AtomBegins 0 part) (stop_told part AtomBegins 0 tt)

domain_from : (part : List ℕ) (answer : Option ℕ) → StopTells LabelBegins 0 part answer → PartTells IsDomain part answer
domain_from part None told = told
domain_from part (Some at) told = let same : told.0 ≡ at = omega (arith, told.2) in subst (λ n. IsBadAt IsDomain part n) same told.1

domain_told : (part : List ℕ) → PartTells IsDomain part (stop_at LabelBegins 0 part)
domain_told part = domain_from part (stop_at LabelBegins 0 part) (stop_told part LabelBegins 0 tt)

-- a shorter front can go on where a longer one can
front_nothing : (n : ℕ) → take {A = ℕ} n [] ≡ [] ++ []
front_nothing zero = refl
front_nothing (suc n) = refl

front_of : (part : List ℕ) (m n : ℕ) → m ≤ n → (rest : List ℕ) × (take n part ≡ take m part ++ rest)
front_of part zero n le = (take n part, refl)
front_of [] (suc m) n le = ([], front_nothing n)
front_of (b ∷ bs) (suc m) zero le = let h : ⊥ = omega arith in absurd h
front_of (b ∷ bs) (suc m) (suc n) le = let r = front_of bs m n (omega arith) in (r.0, ap (λ x. b ∷ x) r.1)

shorter : (Right : List ℕ → Type 0) (part : List ℕ) (m n : ℕ) → m ≤ n → CanGoOn Right (take n part) → CanGoOn Right (take m part)
shorter Right part m n le go =
    let r = front_of part m n le in
    record { more = r.0 ++ go.more; right = subst Right (ap (λ x. x ++ go.more) r.1 ∙ append_assoc (take m part) r.0 go.more) go.right }

one_place : (Right : List ℕ → Type 0) (part : List ℕ) (m n : ℕ) → IsBadAt Right part m → IsBadAt Right part n → m ≤ n → m ≡ n
one_place Right part m n a b le = by_test (ltb m n) refl
  where
    by_test : (x : Bool) → ltb m n ≡ x → m ≡ n
    by_test true less = let l : m < n = ltb-true m n less in absurd (a.stuck (omega (arith, b.within)) (shorter Right part (m + 1) n (omega arith) b.goes_on))
    by_test false less = let l : n ≤ m = ltb-false m n less in omega arith

same_place : (Right : List ℕ → Type 0) (part : List ℕ) (m n : ℕ) → IsBadAt Right part m → IsBadAt Right part n → m ≡ n
same_place Right part m n a b = by_test (ltb n m) refl
  where
    by_test : (x : Bool) → ltb n m ≡ x → m ≡ n
    by_test true less = let l : n < m = ltb-true n m less in sym (one_place Right part n m b a (omega arith))
    by_test false less = let l : m ≤ n = ltb-false n m less in one_place Right part m n a b l

right_goes_on : (Right : List ℕ → Type 0) (part : List ℕ) (n : ℕ) → Right part → CanGoOn Right (take n part)
right_goes_on Right part n r = record { more = drop n part; right = subst Right (sym (take-append-drop n part)) r }

not_right : (Right : List ℕ → Type 0) (part : List ℕ) (at : ℕ) → IsBadAt Right part at → Right part → ⊥
not_right Right part at bad right = by_test (ltb at (length part)) refl
  where
    by_test : (x : Bool) → ltb at (length part) ≡ x → ⊥
    by_test true less = bad.stuck (ltb-true at (length part) less) (right_goes_on Right part (at + 1) right)
    by_test false less = let l : length part ≤ at = ltb-false at (length part) less in bad.wrong (omega (arith, bad.within)) right

again_bad : (Right : List ℕ → Type 0) (part : List ℕ) (at : ℕ) (answer : Option ℕ) → PartTells Right part answer → IsBadAt Right part at → answer ≡ Some at
again_bad Right part at None told bad = absurd (not_right Right part at bad told)
again_bad Right part at (Some n) told bad = ap (λ x. Some x) (same_place Right part n at told bad)

again_right : (Right : List ℕ → Type 0) (part : List ℕ) (answer : Option ℕ) → PartTells Right part answer → Right part → answer ≡ None
again_right Right part None told right = refl
again_right Right part (Some n) told right = absurd (not_right Right part n told right)

-- The first `@`.

pub record Found (bytes : List ℕ) (from at : ℕ) : Type 0 where
  pub place : ℕ
  pub is : at ≡ from + place
  pub size : length (take place bytes) ≡ place
  pub before : HasNoAt (take place bytes)
  pub parts : bytes ≡ take place bytes ++ 64 ∷ drop (place + 1) bytes

abbrev SignTells : List ℕ → ℕ → Option ℕ → Type 0
SignTells bytes from answer = MatchOption answer (HasNoAt bytes) (λ at. Found bytes from at)

sign_further : (b : ℕ) (bs : List ℕ) (from : ℕ) (answer : Option ℕ) → b ≢ 64 → SignTells bs (from + 1) answer → SignTells (b ∷ bs) from answer
sign_further b bs from None other told = (other, told)
sign_further b bs from (Some at) other told =
    let one_more : suc told.place + 1 ≡ suc (told.place + 1) = omega arith in
    record {
      place = suc told.place;
      is = omega (arith, told.is);
      size = omega (arith, told.size);
      before = (other, told.before);
      parts = subst (λ n. b ∷ bs ≡ take (suc told.place) (b ∷ bs) ++ 64 ∷ drop n (b ∷ bs)) (sym one_more) (ap (λ x. b ∷ x) told.parts);
    }

sign_step : (b : ℕ) (bs : List ℕ) (from : ℕ) (x : Bool) → eqb b 64 ≡ x → SignTells bs (from + 1) (position_from is_at_sign (from + 1) bs)
    → SignTells (b ∷ bs) from (cond x (Some from) (position_from is_at_sign (from + 1) bs))
sign_step b bs from true is_sign told = record { place = 0; is = omega arith; size = refl; before = tt; parts = ap (λ x. x ∷ bs) (eqb-true b 64 is_sign) }
sign_step b bs from false is_sign told = sign_further b bs from (position_from is_at_sign (from + 1) bs) (eqb-false b 64 is_sign) told

sign_from : (bytes : List ℕ) (from : ℕ) → SignTells bytes from (position_from is_at_sign from bytes)
sign_from [] from = tt
sign_from (b ∷ bs) from = sign_step b bs from (eqb b 64) refl (sign_from bs (from + 1))

sign_told : (bytes : List ℕ) → SignTells bytes 0 (position is_at_sign bytes)
sign_told bytes = subst (λ o. SignTells bytes 0 o) (sym (position_from-zero is_at_sign bytes)) (sign_from bytes 0)

-- behind bytes that are none, the `@` is found
at_test : (b from : ℕ) (x : Bool) (more : Option ℕ) → (b ≡ 64 → ⊥) → eqb b 64 ≡ x → cond x (Some from) more ≡ more
at_test b from true more other same = absurd (other (eqb-true b 64 same))
at_test b from false more other same = refl

again_sign : (local domain : List ℕ) (from : ℕ) → HasNoAt local → position_from is_at_sign from (local ++ 64 ∷ domain) ≡ Some (from + length local)
again_sign [] domain from none = let e : from ≡ from + 0 = omega arith in ap (λ n. Some n) e
again_sign (b ∷ bs) domain from none =
    let e : from + 1 + length bs ≡ from + length (b ∷ bs) = omega arith in
    at_test b from (eqb b 64) (position_from is_at_sign (from + 1) (bs ++ 64 ∷ domain)) none.0 refl ∙ (again_sign bs domain (from + 1) none.1 ∙ ap (λ n. Some n) e)

position_sign : (text local domain : List ℕ) → HasNoAt local → text ≡ local ++ 64 ∷ domain → position is_at_sign text ≡ Some (length local)
position_sign text local domain none parts = ap (λ t. position is_at_sign t) parts ∙ (position_from-zero is_at_sign (local ++ 64 ∷ domain) ∙ (again_sign local domain 0 none ∙ zero_more))
  where
    zero_more : Some (0 + length local) ≡ Some (length local)
    zero_more = let e : 0 + length local ≡ length local = omega arith in ap (λ n. Some n) e

no_sign_from : (bytes : List ℕ) (from : ℕ) → HasNoAt bytes → position_from is_at_sign from bytes ≡ None
no_sign_from [] from none = refl
no_sign_from (b ∷ bs) from none = at_test b from (eqb b 64) (position_from is_at_sign (from + 1) bs) none.0 refl ∙ no_sign_from bs (from + 1) none.1

no_sign : (bytes : List ℕ) → HasNoAt bytes → position is_at_sign bytes ≡ None
no_sign bytes none = position_from-zero is_at_sign bytes ∙ no_sign_from bytes 0 none

-- The answer is by the grammar.

parted_by : (text : List ℕ) (sign : ℕ) → length text ≤ 254 → Found text 0 sign → IsParted text (take sign text) (drop (sign + 1) text) × (length (take sign text) ≡ sign)
parted_by text sign short found =
    let same : found.place ≡ sign = omega (arith, found.is) in (
      record { short = short; before = subst (λ n. HasNoAt (take n text)) same found.before; parts = subst (λ n. text ≡ take n text ++ 64 ∷ drop (n + 1) text) same found.parts },
      subst (λ n. length (take n text) ≡ n) same found.size,
    )

-- the answer is the text's
abbrev Answers : List ℕ → Result (List ℕ) AddressFault → Type 0
Answers text (Ok address) = IsReadAs text address
Answers text (Err fault) = IsAddressFault text fault

domain_answer : (text : List ℕ) (sign : ℕ) (answer : Option ℕ) → IsParted text (take sign text) (drop (sign + 1) text) → length (take sign text) ≡ sign → IsLocal (take sign text)
    → PartTells IsDomain (drop (sign + 1) text) answer → Answers text (domain_read text (sign + 1) answer)
domain_answer text sign None parted size local told =
    (record { local = take sign text; domain = drop (sign + 1) text; local_is = local; domain_is = told; parts = parted.parts; short = parted.short }, refl)
domain_answer text sign (Some at) parted size local told =
    (take sign text, drop (sign + 1) text, parted, local, (at, told, ap (λ n. n + 1 + at) (sym size)))

local_answer : (text : List ℕ) (sign : ℕ) (answer : Option ℕ) → IsParted text (take sign text) (drop (sign + 1) text) → length (take sign text) ≡ sign
    → PartTells IsLocal (take sign text) answer → Answers text (local_read text sign answer)
local_answer text sign None parted size told =
    domain_answer text sign (stop_at LabelBegins 0 (drop (sign + 1) text)) parted size told (domain_told (drop (sign + 1) text))
local_answer text sign (Some at) parted size told = (take sign text, drop (sign + 1) text, parted, told)

parted_answer : (text : List ℕ) (answer : Option ℕ) → text ≢ [] → length text ≤ 254 → SignTells text 0 answer → Answers text (parted_read text answer)
parted_answer text None some short told = (some, short, told)
parted_answer text (Some sign) some short told =
    let p = parted_by text sign short told in
    local_answer text sign (stop_at AtomBegins 0 (take sign text)) p.0 p.1 (local_told (take sign text))

is_empty : (text : List ℕ) → eqb (length text) 0 ≡ true → text ≡ []
is_empty [] e = refl
is_empty (b ∷ bs) e = let none : length (b ∷ bs) ≡ 0 = eqb-true (length (b ∷ bs)) 0 e in let h : ⊥ = omega arith in absurd h

is_some : (text : List ℕ) → text ≢ [] → eqb (length text) 0 ≡ false
is_some text some = by_test (eqb (length text) 0) refl
  where
    by_test : (x : Bool) → eqb (length text) 0 ≡ x → x ≡ false
    by_test true none = absurd (some (is_empty text none))
    by_test false none = refl

not_empty : (text : List ℕ) → eqb (length text) 0 ≡ false → text ≢ []
not_empty text some e = let t : true ≡ false = subst (λ x. eqb (length x) 0 ≡ false) e some in false≢true (sym t)

answered_by : (text : List ℕ) (x y : Bool) → eqb (length text) 0 ≡ x → ltb 254 (length text) ≡ y
    → Answers text (cond x (Err Empty) (cond y (Err TooLong) (parted_read text (position is_at_sign text))))
answered_by text true y none long = is_empty text none
answered_by text false true some long = ltb-true 254 (length text) long
answered_by text false false some short = parted_answer text (position is_at_sign text) (not_empty text some) (ltb-false 254 (length text) short) (sign_told text)

pub answered : (text : List ℕ) → Answers text (address_of text)
unfolding address_of
answered text = answered_by text (eqb (length text) 0) (ltb 254 (length text)) refl refl

-- Each text has one answer: what the grammar says of it is what is given.

read_some : (text : List ℕ) → text ≢ [] → length text ≤ 254 → address_of text ≡ parted_read text (position is_at_sign text)
unfolding address_of
read_some text some short = rw (is_some text some, le-ltb 254 (length text) short) refl

read_parted : (text local domain : List ℕ) → IsParted text local domain → address_of text ≡ local_read text (length local) (stop_at AtomBegins 0 local)
read_parted text local domain parted =
    read_some text (λ e. no_text local domain (sym e ∙ parted.parts)) parted.short
    ∙ (ap (λ o. parted_read text o) (position_sign text local domain parted.before parted.parts)
    ∙ ap (λ x. local_read text (length local) (stop_at AtomBegins 0 x)) (ap (λ t. take (length local) t) parted.parts ∙ take-append_seam local (64 ∷ domain)))
  where
    no_text : (local domain : List ℕ) → [] ≡ local ++ 64 ∷ domain → ⊥
    no_text [] domain e = let h : ⊥ = cc in h
    no_text (b ∷ bs) domain e = let h : ⊥ = cc in h

read_local : (text local domain : List ℕ) → IsParted text local domain → IsLocal local → address_of text ≡ domain_read text (length local + 1) (stop_at LabelBegins 0 domain)
read_local text local domain parted is_local =
    read_parted text local domain parted
    ∙ (ap (λ o. local_read text (length local) o) (again_right IsLocal local (stop_at AtomBegins 0 local) (local_told local) is_local)
    ∙ ap (λ x. domain_read text (length local + 1) (stop_at LabelBegins 0 x)) (ap (λ t. drop (length local + 1) t) parted.parts ∙ drop-append-add local (64 ∷ domain) 1))

pub each_fault : (text : List ℕ) (fault : AddressFault) → IsAddressFault text fault → address_of text ≡ Err fault
unfolding address_of
each_fault text Empty is = ap address_of is
each_fault text TooLong long = let some : text ≢ [] = λ e. (let short : length text ≡ 0 = ap (λ x. length x) e in let h : ⊥ = omega arith in h) in rw (is_some text some, lt-ltb 254 (length text) long) refl
each_fault text NoAt is = read_some text is.0 is.1 ∙ ap (λ o. parted_read text o) (no_sign text is.2)
each_fault text (BadLocal at) is =
    read_parted text is.0 is.1 is.2 ∙ ap (λ o. local_read text (length is.0) o) (again_bad IsLocal is.0 at (stop_at AtomBegins 0 is.0) (local_told is.0) is.3)
each_fault text (BadDomain at) is =
    read_local text is.0 is.1 is.2 is.3
    ∙ (ap (λ o. domain_read text (length is.0 + 1) o) (again_bad IsDomain is.1 is.4.0 (stop_at LabelBegins 0 is.1) (domain_told is.1) is.4.1)
    ∙ ap (λ n. Err (BadDomain n)) (sym is.4.2))
each_fault text NoMemory is = absurd is

-- no atom has an `@`
atoms_none : (bytes : List ℕ) → AllAtomBytes bytes → HasNoAt bytes
unfolding is_atom_byte
atoms_none [] all = tt
atoms_none (b ∷ bs) all = ((λ e. let t : false ≡ true = subst (λ x. is_atom_byte x ≡ true) e all.0 in false≢true t), atoms_none bs all.1)

atom_none : (bytes : List ℕ) → IsAtom bytes → HasNoAt bytes
atom_none [] none = absurd none
atom_none (b ∷ bs) all = atoms_none (b ∷ bs) all

none_append : (a b : List ℕ) → HasNoAt a → HasNoAt b → HasNoAt (a ++ b)
none_append [] b none none_b = none_b
none_append (x ∷ a) b none none_b = (none.0, none_append a b none.1 none_b)

others_none : (others : List (List ℕ)) → AllByRecursion IsAtom others → HasNoAt (flat_map dotted others)
others_none [] all = tt
others_none (o ∷ os) all = ((λ e. let h : ⊥ = omega arith in h), none_append o (flat_map dotted os) (atom_none o all.0) (others_none os all.1))

local_none : (local : List ℕ) → IsLocal local → HasNoAt local
local_none local is = subst HasNoAt (sym is.parts) (none_append is.first (flat_map dotted is.others) (atom_none is.first is.first_is) (others_none is.others is.others_are))

pub only_address : (text : List ℕ) → IsAddress text → address_of text ≡ Ok (lowered text)
only_address text is =
    let parted : IsParted text is.local is.domain = record { short = is.short; before = local_none is.local is.local_is; parts = is.parts } in
    read_local text is.local is.domain parted is.local_is
    ∙ ap (λ o. domain_read text (length is.local + 1) o) (again_right IsDomain is.domain (stop_at LabelBegins 0 is.domain) (domain_told is.domain) is.domain_is)

pub told_exactly : (text : List ℕ) → TellsExactly (IsReadAs text) (IsAddressFault text) (address_of text)
told_exactly text = record {
  value = λ address. ((λ e. subst (λ r. Answers text r) e (answered text)), (λ is. only_address text is.0 ∙ ap Ok (sym is.1)));
  fault = λ fault. ((λ e. subst (λ r. Answers text r) e (answered text)), each_fault text fault);
}

-- a text that was gone through to its end is an address
pub read_through : (text : List ℕ) (sign : ℕ) → false ≡ eqb (length text) 0 → length text ≤ 254 → Some sign ≡ position is_at_sign text
    → None ≡ stop_at AtomBegins 0 (take sign text) → None ≡ stop_at LabelBegins 0 (drop (sign + 1) text) → IsAddress text
unfolding address_of
read_through text sign some short found local domain = (subst (λ r. Answers text r) whole (answered text)).0
  where
    whole : address_of text ≡ Ok (lowered text)
    whole = rw (sym some, le-ltb 254 (length text) short, sym found, sym local, sym domain) refl

-- the domain stands behind the first `@`
pub domain_is : (address : List ℕ) → IsAddress address → HasDomain address (domain_of address)
unfolding domain_of
domain_is address is = subst (λ domain. HasDomain address domain) (sym same) (record { local = is.local; local_is = is.local_is; domain_is = is.domain_is; parts = is.parts })
  where
    same : behind_sign address (position is_at_sign address) ≡ is.domain
    same = ap (λ o. behind_sign address o) (position_sign address is.local is.domain (local_none is.local is.local_is) is.parts)
        ∙ (ap (λ t. drop (length is.local + 1) t) is.parts ∙ drop-append-add is.local (64 ∷ is.domain) 1)
