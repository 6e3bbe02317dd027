-- What the indexes find is what a search of the lists finds first.
use Rattle.std.proofs.Common.{◌≡◌, ℕ, zero, suc, ◌+◌, ◌<◌, drop, get_or, ◌||◌, Bool, true, false, cond, List, [], ◌∷◌, ◌++◌, length, Option, Some, refl, sym, ap, ◌∙◌, append_assoc, arith, length-append, map, option_map, slice_get}
use Rattle.std.specs.List.{find, list_any, position_from}
use Rattle.std.specs.Option.{option_or}
use Rattle.std.specs.Str.{bytes_eq}
use Rattle.std.proofs.lemmas.List.{at_drop_more}
use Rattle.std.proofs.lemmas.List.Folds.{find-append}
use Rattle.pec_index.specs.Entries.{value_at}
use Rattle.pec_directory.specs.Directory.{Account, Kept, Provider, accounts_of, manages, providers_of}
use Rattle.pec_directory.specs.Indexes.{account_at, deeds_from, deeds_of, reached, spots_from, spots_of}
use Rattle.pec_directory.specs.declared.places.Place.{Place}

either : {X : Type 0} (b c : Bool) (x rest : X) → cond b x (cond c x rest) ≡ cond (b || c) x rest
either true c x rest = refl
either false c x rest = refl

-- ---- domains

pub value_at-deeds : (domain : List ℕ) (number : ℕ) (domains : List (List ℕ)) (rest : List (List ℕ × ℕ))
    → value_at domain (deeds_of number domains ++ rest) ≡ cond (list_any (λ own. bytes_eq domain own) domains) (Some number) (value_at domain rest)
value_at-deeds domain number [] rest = refl
value_at-deeds domain number (first ∷ domains) rest =
    ap (λ v. cond (bytes_eq domain first) (Some number) v) (value_at-deeds domain number domains rest)
    ∙ either (bytes_eq domain first) (list_any (λ own. bytes_eq domain own) domains) (Some number) (value_at domain rest)

pub manager-found : (domain : List ℕ) (number : ℕ) (providers : List Provider) → value_at domain (deeds_from number providers) ≡ position_from (manages domain) number providers
manager-found domain number [] = refl
manager-found domain number (provider ∷ providers) =
    value_at-deeds domain number provider.domains (deeds_from (number + 1) providers)
    ∙ ap (λ v. cond (manages domain provider) (Some number) v) (manager-found domain (number + 1) providers)

-- ---- accounts

slice_get-seam : {X : Type 0} (xs : List X) (y : X) (ys : List X) → slice_get (xs ++ y ∷ ys) (length xs) ≡ Some y
slice_get-seam [] y ys = refl
slice_get-seam (x ∷ xs) y ys = slice_get-seam xs y ys

length-push : {X : Type 0} (xs : List X) (y : X) → length (xs ++ y ∷ []) ≡ length xs + 1
length-push xs y = omega (arith, length-append xs (y ∷ []))

abbrev has : List ℕ → Account → Bool
has address account = bytes_eq address account.address

chosen : (b : Bool) (providers : List Provider) (place : Place) (rest : Option Place) (account : Account) (found : Option Account) → reached providers (Some place) ≡ Some account
    → reached providers rest ≡ found → reached providers (cond b (Some place) rest) ≡ cond b (Some account) found
chosen true providers place rest account found there elsewhere = there
chosen false providers place rest account found there elsewhere = elsewhere

or_first : (b : Bool) (account : Account) (found rest : Option Account) → cond b (Some account) (option_or found rest) ≡ option_or (cond b (Some account) found) rest
or_first true account found rest = refl
or_first false account found rest = refl

-- among the accounts of one provider, behind those of its front
reached-spots : (address : List ℕ) (providers : List Provider) (number : ℕ) (provider : Provider) → slice_get providers number ≡ Some provider
    → (front accounts : List Account) → provider.accounts ≡ front ++ accounts → (rest : List (List ℕ × Place))
    → reached providers (value_at address (spots_of number (length front) accounts ++ rest)) ≡ option_or (find (has address) accounts) (reached providers (value_at address rest))
reached-spots address providers number provider here front [] parts rest = refl
reached-spots address providers number provider here front (account ∷ accounts) parts rest =
    let place : Place = record { provider = number; account = length front } in
    let there : reached providers (Some place) ≡ Some account =
    ap (λ p. account_at p (length front)) here ∙ ap (λ l. slice_get l (length front)) parts ∙ slice_get-seam front account accounts in
    let next = reached-spots address providers number provider here (front ++ account ∷ []) accounts (parts ∙ sym (append_assoc front (account ∷ []) accounts)) rest in
    chosen (has address account) providers place _ account _ there (rw (length-push front account) at next)
    ∙ or_first (has address account) account (find (has address) accounts) (reached providers (value_at address rest))

pub account-found : (address : List ℕ) (providers front back : List Provider) → providers ≡ front ++ back
    → reached providers (value_at address (spots_from (length front) back)) ≡ find (has address) (accounts_of back)
account-found address providers front [] parts = refl
account-found address providers front (provider ∷ back) parts =
    let here : slice_get providers (length front) ≡ Some provider = ap (λ l. slice_get l (length front)) parts ∙ slice_get-seam front provider back in
    let next = account-found address providers (front ++ provider ∷ []) back (parts ∙ sym (append_assoc front (provider ∷ []) back)) in
    reached-spots address providers (length front) provider here [] provider.accounts refl (spots_from (length front + 1) back)
    ∙ ap (λ o. option_or (find (has address) provider.accounts) o) (rw (length-push front provider) at next)
    ∙ sym (find-append (has address) provider.accounts (accounts_of back))

-- ---- what is kept of providers, and what is said of them

pub slice_get-map : {X Y : Type 0} (f : X → Y) (xs : List X) (n : ℕ) → slice_get (map f xs) n ≡ option_map f (slice_get xs n)
slice_get-map f [] n = refl
slice_get-map f (x ∷ xs) zero = refl
slice_get-map f (x ∷ xs) (suc n) = slice_get-map f xs n

-- one step of a search for a provider
pub position-step : (test : Provider → Bool) (kept : List Kept) (i : ℕ) (one : Kept) → i < length kept → one ≡ get_or kept i one
    → position_from test i (providers_of (drop i kept)) ≡ cond (test one.provider) (Some i) (position_from test (i + 1) (providers_of (drop (i + 1) kept)))
position-step test kept i one within is =
    at_drop_more (λ l. position_from test i (providers_of l)) kept i one within
    ∙ ap (λ (x : Kept). cond (test x.provider) (Some i) (position_from test (i + 1) (providers_of (drop (i + 1) kept)))) (sym is)
