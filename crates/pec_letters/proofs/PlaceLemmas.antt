-- Providers at their numbers, recipients in their classes, and what is behind a step of a table.
use Rattle.std.proofs.Common.{◌≡◌, ℕ, zero, suc, ◌+◌, ◌<◌, Bool, true, false, ◌≤◌, ◌-◌, take, drop, get_or, ◌&&◌, cond, List, [], ◌∷◌, ◌++◌, append_assoc, map, length, slice_get, Option, None, Some, option_map, Result, Ok, Err, refl, ap, sym, ◌∙◌, subst, arith}
use Rattle.std.proofs.Math.Seq.{take-length}
use Rattle.std.proofs.lemmas.Bool.{and_parts}
use Rattle.std.proofs.lemmas.Option.{slice_get-map, slice_get_within}
use Rattle.std.specs.Cmp.Lexicographic.{bytes_decides}
use Rattle.std.specs.List.{position_from}
use Rattle.std.specs.Option.{IsSome, is_some}
use Rattle.std.specs.Str.{bytes_eq}
use Rattle.pec_types.specs.AddressReading.{domain_of}
use Rattle.pec_types.specs.Bytes.{Bytes, Path}
use Rattle.pec_types.specs.Results.{◌>>=◌}
use Rattle.pec_types.specs.declared.messages.Recipient.{Recipient}
use Rattle.pec_heads.specs.BoundedFacts.{addresses_where}
use Rattle.pec_directory.specs.Directory.{Kept, Provider, home_of, manager_of, manages, providers_of}
use Rattle.pec_letter_parts.specs.Asking.{claim, known}
use Rattle.pec_letters.specs.Seen.{is_named_path, is_path}

pub none_past : {X : Type 0} (xs : List X) (n : ℕ) → n < length xs → slice_get xs n ≡ None → ⊥
none_past [] n within e = omega arith
none_past (y ∷ xs) zero within e = absurd cc
none_past (y ∷ xs) (suc n) within e = none_past xs n (omega arith) e

-- the provider that is kept at a number is the directory's
pub provider_at : (kept : List Kept) (n : ℕ) (issuer : Kept) → slice_get kept n ≡ Some issuer → slice_get (providers_of kept) n ≡ Some issuer.provider
provider_at kept n issuer e = slice_get-map (λ (one : Kept). one.provider) kept n ∙ ap (option_map (λ (one : Kept). one.provider)) e

found_within : (test : Provider → Bool) (from : ℕ) (providers : List Provider) (n : ℕ) → position_from test from providers ≡ Some n → n < from + length providers
found_within test from [] n e = absurd cc
found_within test from (p ∷ providers) n e = here (test p) (λ q. found_within test (from + 1) providers n q) e
  where
    here : (t : Bool) → (position_from test (from + 1) providers ≡ Some n → n < (from + 1) + length providers) → cond t (Some from) (position_from test (from + 1) providers) ≡ Some n → n < from + length (p ∷ providers)
    here true later q = let same : from ≡ n = cc in omega arith
    here false later q = omega (arith, later q)

-- a home is a provider of the directory
pub home_within : (providers : List Provider) (address : Bytes) (n : ℕ) → home_of providers address ≡ Some n → n < length providers
unfolding home_of manager_of
home_within providers address n e = omega (arith, found_within (manages (domain_of address)) 0 providers n e)

pub some_of_some : (test : Recipient → Bool) (all : List Recipient) → 0 < length (addresses_where test all) → 0 < length all
some_of_some test [] h = h
some_of_some test (r ∷ all) h = omega arith

pub some_is : {X : Type 0} (o : Option X) → IsSome o → (x : X) × (o ≡ Some x)
some_is None h = absurd cc
some_is (Some x) h = (x, refl)

pub is_some_of : {X : Type 0} (o : Option X) (x : X) → o ≡ Some x → IsSome o
is_some_of o x e = ap is_some e

-- ---- steps of a table

pub claimed : {Y E : Type 0} (t : Bool) (fault : E) (next : Unit → Result Y E) (y : Y) → (claim t fault >>= next) ≡ Ok y → (t ≡ true) × (next tt ≡ Ok y)
claimed true fault next y e = (refl, e)
claimed false fault next y e = absurd cc

pub known_as : {X Y E : Type 0} (o : Option X) (fault : E) (next : X → Result Y E) (y : Y) → (known o fault >>= next) ≡ Ok y → (x : X) × ((o ≡ Some x) × (next x ≡ Ok y))
known_as None fault next y e = absurd cc
known_as (Some x) fault next y e = (x, (refl, e))

path_is : (path other : Path) → is_path path other ≡ true → path ≡ other
path_is [] [] e = refl
path_is [] (b ∷ other) e = absurd cc
path_is (a ∷ path) [] e = absurd cc
path_is (a ∷ path) (b ∷ other) e =
    let p = and_parts (bytes_eq a b) (is_path path other) e
    in ap (λ (x : Bytes). x ∷ path) ((bytes_decides a b).0 p.0) ∙ ap (λ (rest : Path). b ∷ rest) (path_is path other p.1)

pub named_is : (path : Path) (o : Option Path) → is_named_path path o ≡ true → o ≡ Some path
named_is path None e = absurd cc
named_is path (Some other) e = ap (λ (p : Path). Some p) (path_is other path e)

pub at_within : (providers : List Provider) (n : ℕ) (provider : Provider) → slice_get providers n ≡ Some provider → n < length providers
at_within providers n provider e = slice_get_within providers n provider e

-- ---- addresses of a class

-- an address that is added where a recipient passes stands before those of the recipients behind
pub added_before : (test : Recipient → Bool) (all : Path) (r : Recipient) (rest : List Recipient)
    → (all ++ addresses_where test (r ∷ [])) ++ addresses_where test rest ≡ all ++ addresses_where test (r ∷ rest)
added_before test all r rest = append_assoc all (addresses_where test (r ∷ [])) (addresses_where test rest) ∙ ap (λ (path : Path). all ++ path) (one (test r))
  where
    one : (t : Bool) → cond t (r.address ∷ []) [] ++ addresses_where test rest ≡ cond t (r.address ∷ addresses_where test rest) (addresses_where test rest)
    one true = refl
    one false = refl

pub first_and_rest : {X : Type 0} (xs : List X) (x : X) → 1 ≤ length xs → x ≡ get_or xs 0 x → xs ≡ x ∷ take (length xs - 1) (drop 1 xs)
first_and_rest [] x some is = absurd (omega arith)
first_and_rest (y ∷ xs) x some is =
    let less : length (y ∷ xs) - 1 ≡ length xs = omega arith
    in ap (λ z. z ∷ xs) (sym is) ∙ ap (λ rest. x ∷ rest) (sym (ap (λ n. take n xs) less ∙ take-length xs))
