-- Numbers of providers are below their count; and the number that seven bytes stand for, byte by byte.
use Rattle.std.proofs.Common.{◌≡◌, ℕ, ◌+◌, ◌-◌, ◌*◌, ◌<◌, Bool, true, false, cond, List, [], ◌∷◌, length, take, drop, Option, Some, None, IfSome, refl, subst, arith}
use Rattle.std.specs.Prelude.{slice_index}
use Rattle.std.proofs.lemmas.List.{length-drop, length-map, length-take}
use Rattle.std.specs.List.{position_from}
use Rattle.pec_types.specs.AddressReading.{domain_of}
use Rattle.pec_types.specs.Bytes.{Bytes}
use Rattle.pec_types.specs.Words.{number_in}
use Rattle.pec_directory.specs.Directory.{Kept, Provider, home_of, manager_of, manages, providers_of}

-- ---- numbers of providers

abbrev IsBelow : ℕ → Option ℕ → Type 0
IsBelow most found = IfSome found (λ number. number < most)

first_or : (number : ℕ) (provider : Provider) (providers : List Provider) (b : Bool) (found : Option ℕ) → IsBelow (number + 1 + length providers) found
    → IsBelow (number + length (provider ∷ providers)) (cond b (Some number) found)
first_or number provider providers true found below = omega arith
first_or number provider providers false None below = tt
first_or number provider providers false (Some other) below = omega arith

place_below : (test : Provider → Bool) (number : ℕ) (providers : List Provider) → IsBelow (number + length providers) (position_from test number providers)
place_below test number [] = tt
place_below test number (provider ∷ providers) =
    first_or number provider providers (test provider) (position_from test (number + 1) providers) (place_below test (number + 1) providers)

pub found_below : (test : Provider → Bool) (kept : List Kept) → IsBelow (length kept) (position_from test 0 (providers_of kept))
found_below test kept =
    let all : 0 + length (providers_of kept) ≡ length kept = omega (arith, length-map kept (λ (one : Kept). one.provider)) in
    subst (λ most. IsBelow most (position_from test 0 (providers_of kept))) all (place_below test 0 (providers_of kept))

pub home_below : (kept : List Kept) (address : Bytes) → IfSome (home_of (providers_of kept) address) (λ number. number < length kept)
unfolding home_of manager_of
home_below kept address = found_below (manages (domain_of address)) kept

-- ---- seven bytes

few_none : (text : Bytes) → length text < 7 → 0 ≡ number_in text
unfolding number_in
few_none [] few = refl
few_none (a ∷ []) few = refl
few_none (a ∷ b ∷ []) few = refl
few_none (a ∷ b ∷ c ∷ []) few = refl
few_none (a ∷ b ∷ c ∷ d ∷ []) few = refl
few_none (a ∷ b ∷ c ∷ d ∷ e ∷ []) few = refl
few_none (a ∷ b ∷ c ∷ d ∷ e ∷ f ∷ []) few = refl
few_none (a ∷ b ∷ c ∷ d ∷ e ∷ f ∷ g ∷ more) few = let no : ⊥ = omega arith in absurd no

pub no_seven : (text : Bytes) → length text < 11 → 0 ≡ number_in (take 7 (drop 4 text))
no_seven text few = few_none (take 7 (drop 4 text)) (omega (arith, length-take 7 (drop 4 text), length-drop 4 text))

-- byte by byte
pub seven_worth : (seven : Bytes) → length seven ≡ 7
    → ((slice_index seven 0 - 48) * 1000000 + (slice_index seven 1 - 48) * 100000 + (slice_index seven 2 - 48) * 10000 + (slice_index seven 3 - 48) * 1000
    + (slice_index seven 4 - 48) * 100 + (slice_index seven 5 - 48) * 10 + (slice_index seven 6 - 48)) ≡ number_in seven
unfolding number_in
seven_worth (a ∷ b ∷ c ∷ d ∷ e ∷ f ∷ g ∷ []) is = refl
seven_worth [] is = let no : ⊥ = omega arith in absurd no
seven_worth (a ∷ []) is = let no : ⊥ = omega arith in absurd no
seven_worth (a ∷ b ∷ []) is = let no : ⊥ = omega arith in absurd no
seven_worth (a ∷ b ∷ c ∷ []) is = let no : ⊥ = omega arith in absurd no
seven_worth (a ∷ b ∷ c ∷ d ∷ []) is = let no : ⊥ = omega arith in absurd no
seven_worth (a ∷ b ∷ c ∷ d ∷ e ∷ []) is = let no : ⊥ = omega arith in absurd no
seven_worth (a ∷ b ∷ c ∷ d ∷ e ∷ f ∷ []) is = let no : ⊥ = omega arith in absurd no
seven_worth (a ∷ b ∷ c ∷ d ∷ e ∷ f ∷ g ∷ h ∷ more) is = let no : ⊥ = omega arith in absurd no
