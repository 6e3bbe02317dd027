-- Homes, accounts, names and limits of a lawful directory.
use Rattle.std.proofs.Common.{◌≡◌, ℕ, zero, suc, ◌+◌, ◌<◌, ◌≤◌, Bool, true, false, ◌&&◌, cond, nat_le, List, [], ◌∷◌, ◌++◌, length, slice_get, Option, None, Some, option_map, refl, ap, sym, ◌∙◌, subst, arith}
use Rattle.std.specs.Prelude.{IsTrue, is_some}
use Rattle.std.specs.List.{AllByRecursion, list_all, position_from}
use Rattle.std.specs.Str.{bytes_eq}
use Rattle.std.proofs.lemmas.Bool.{and_parts, eqb-true, false≢true, leb-true}
use Rattle.std.proofs.lemmas.List.{length-map}
use Rattle.std.proofs.lemmas.Option.{none-some, same_Some, slice_get-map}
use Rattle.std.proofs.lemmas.Slice.Eq.{bytes_eq-Decides}
use Rattle.pec_types.specs.Address.{IsLowerAddress}
use Rattle.pec_types.specs.AddressReading.{domain_of}
use Rattle.pec_types.specs.Bytes.{Bytes}
use Rattle.pec_directory.specs.Directory.{Account, Kept, Provider, account_home, account_of, accounts_of, home_of, is_account_of, is_number, manager_of, manages, providers_of}
use Rattle.pec_directory.specs.Fields.{greatest_limit, is_name, is_name_byte, longest_name}
use Rattle.pec_directory.specs.Lawful.{AreNext, AreNextAccounts, IsLawful, IsNext, provider_with}
use Rattle.pec_seal.specs.Seals.{Seals}
use Rattle.pec_letters.specs.Fitting.{Fits}
use Rattle.pec_points.specs.Case.{limit_in, limit_of}
use Rattle.pec_trade.proofs.PathLemmas.{all_joined, at_number, found_has}

-- ---- homes

found_within : (test : Provider → Bool) (from : ℕ) (providers : List Provider) (n : ℕ) → position_from test from providers ≡ Some n → n < from + length providers
found_within test from [] n e = absurd (none-some n e)
found_within test from (p ∷ providers) n e = here (test p) (λ q. found_within test (from + 1) providers n q) e
  where
    here : (t : Bool) → (position_from test (from + 1) providers ≡ Some n → n < (from + 1) + length providers)
        → cond t (Some from) (position_from test (from + 1) providers) ≡ Some n → n < from + length (p ∷ providers)
    here true later q = let same : from ≡ n = same_Some from n q in omega arith
    here false later q = omega (arith, later q)

-- a home is a provider of the directory
pub home_within : (providers : List Provider) (address : Bytes) (n : ℕ) → home_of providers address ≡ Some n → n < length providers
unfolding home_of manager_of
home_within providers address n e = omega (arith, found_within (manages (domain_of address)) 0 providers n e)

-- ---- providers

pub next_at : (earlier providers : List Provider) (n : ℕ) (p : Provider) → AreNext earlier providers → slice_get providers n ≡ Some p
    → (before : List Provider) × IsNext before p
next_at earlier [] n p next e = absurd (none-some p e)
next_at earlier (q ∷ ps) zero p next e = (earlier, subst (λ (x : Provider). IsNext earlier x) (same_Some q p e) next.0)
next_at earlier (q ∷ ps) (suc n) p next e = next_at (earlier ++ q ∷ []) ps n p next.1 e

-- a provider that is kept
pub record Issuer (kept : List Kept) (n : ℕ) : Type 0 where
  pub issuer : Kept
  pub is : slice_get kept n ≡ Some issuer
  pub there : slice_get (providers_of kept) n ≡ Some issuer.provider

pub provider_at : (kept : List Kept) (n : ℕ) (issuer : Kept) → slice_get kept n ≡ Some issuer → slice_get (providers_of kept) n ≡ Some issuer.provider
provider_at kept n issuer e = slice_get-map (λ (one : Kept). one.provider) kept n ∙ ap (option_map (λ (one : Kept). one.provider)) e

pub issuer_at : (kept : List Kept) (n : ℕ) → n < length (providers_of kept) → Issuer kept n
issuer_at kept n within =
    let found = at_number kept n (omega (arith, length-map kept (λ (one : Kept). one.provider)))
    in record { issuer = found.0; is = found.1; there = provider_at kept n found.0 found.1 }

-- its name is the sealer's, and is short
pub named_by : (seals : Seals) (providers : List Provider) (n : ℕ) (p : Provider) → Fits seals providers → slice_get providers n ≡ Some p
    → seals.name_of n ≡ Some p.name
named_by seals providers n p fits e = fits.names n ∙ ap (option_map (λ (x : Provider). x.name)) e

pub name_short : (providers : List Provider) (n : ℕ) (p : Provider) → IsLawful providers → slice_get providers n ≡ Some p → length p.name ≤ 32
unfolding is_name
name_short providers n p lawful e =
    let next = next_at [] providers n p lawful.each e
    in let sized = (and_parts (list_all is_name_byte p.name) (nat_le 1 (length p.name) && nat_le (length p.name) longest_name) next.1.name).1
    in leb-true (length p.name) longest_name (and_parts (nat_le 1 (length p.name)) (nat_le (length p.name) longest_name) sized).1

-- the name of any number that the sealer has one for is short
pub sealed_name_short : (seals : Seals) (providers : List Provider) (n : ℕ) (name : Bytes) → Fits seals providers → IsLawful providers
    → seals.name_of n ≡ Some name → length name ≤ 32
sealed_name_short seals providers n name fits lawful e = by (slice_get providers n) refl (sym (fits.names n) ∙ e)
  where
    by : (found : Option Provider) → slice_get providers n ≡ found → option_map (λ (x : Provider). x.name) found ≡ Some name → length name ≤ 32
    by None is f = absurd (none-some name f)
    by (Some p) is f = subst (λ (x : Bytes). length x ≤ 32) (same_Some p.name name f) (name_short providers n p lawful is)

-- no provider takes more than 30 MiB
pub limit_small : (providers : List Provider) (n : ℕ) → IsLawful providers → limit_of providers n ≤ greatest_limit
unfolding limit_of
limit_small providers n lawful = by (slice_get providers n) refl
  where
    by : (found : Option Provider) → slice_get providers n ≡ found → limit_in found ≤ greatest_limit
    by None is = omega arith
    by (Some p) is = (next_at [] providers n p lawful.each is).1.limit.1

-- ---- accounts

abbrev IsLower : Account → Type 0
IsLower account = IsLowerAddress account.address

all_lower : (earlier : List Provider) (provider : Provider) (accounts : List Account) → AreNextAccounts earlier provider accounts
    → AllByRecursion IsLower accounts
all_lower earlier provider [] next = tt
all_lower earlier provider (account ∷ accounts) next =
    (next.0.address, all_lower earlier (provider_with provider (provider.accounts ++ account ∷ [])) accounts next.1)

accounts_lower : (earlier providers : List Provider) → AreNext earlier providers → AllByRecursion IsLower (accounts_of providers)
accounts_lower earlier [] next = tt
accounts_lower earlier (p ∷ providers) next =
    all_joined IsLower p.accounts (accounts_of providers) (all_lower earlier (provider_with p []) p.accounts next.0.accounts)
    (accounts_lower (earlier ++ p ∷ []) providers next.1)

account_at : (number : ℕ) (found : Option Account) (home : Option ℕ) → is_number number (cond (is_some found) home None) ≡ true
    → (account : Account) × ((found ≡ Some account) × (home ≡ Some number))
account_at number None home e = absurd (false≢true e)
account_at number (Some account) None e = absurd (false≢true e)
account_at number (Some account) (Some other) e = (account, (refl, ap (λ (n : ℕ). Some n) (eqb-true other number e)))

-- an account is at home at its provider
pub account_is_home : (providers : List Provider) (number : ℕ) (address : Bytes) → IsTrue (is_account_of providers number address)
    → home_of providers address ≡ Some number
unfolding is_account_of account_home
account_is_home providers number address e = (account_at number (account_of providers address) (home_of providers address) e).1.1

-- and its address is one in lower case
pub account_lower : (providers : List Provider) (number : ℕ) (address : Bytes) → IsLawful providers → IsTrue (is_account_of providers number address)
    → IsLowerAddress address
unfolding is_account_of account_home account_of
account_lower providers number address lawful e =
    let found = account_at number (account_of providers address) (home_of providers address) e
    in let has = found_has IsLower (λ (account : Account). bytes_eq address account.address) (accounts_of providers) found.0
    (accounts_lower [] providers lawful.each) found.1.0
    in subst IsLowerAddress (sym ((bytes_eq-Decides address found.0.address).0 has.0)) has.1
