-- Which bytes are an address in lower case, by reading them: from the law of addresses.
use Rattle.std.proofs.Common.{◌≡◌, ℕ, Bool, true, false, not, List, Option, Some, None, Result, Ok, Err, refl, sym, ap, subst, ◌∙◌}
use Rattle.std.specs.Result.{result_ok}
use Rattle.std.specs.Str.{bytes_eq}
use Rattle.std.proofs.lemmas.Bool.{false≢true}
use Rattle.std.proofs.lemmas.Slice.Eq.{bytes_eq-Decides}
use Rattle.pec_types.specs.Address.{IsAddressFault, IsLowerAddress, IsReadAs}
use Rattle.pec_types.specs.AddressReading.{address_of}
use Rattle.pec_types.specs.Answers.{TellsExactly}
use Rattle.pec_types.specs.declared.addresses.AddressFault.{AddressFault}
use Rattle.pec_cert.specs.ValueTests.{is_kept, is_lower}

module _ (told : (text : List ℕ) → TellsExactly (IsReadAs text) (IsAddressFault text) (address_of text)) where
  pub lower_yes : (bytes : List ℕ) → is_lower bytes ≡ true → IsLowerAddress bytes
  unfolding is_lower
  lower_yes bytes = by_answer (address_of bytes) refl
    where
      by_answer : (r : Result (List ℕ) AddressFault) → address_of bytes ≡ r → is_kept bytes r ≡ true → IsLowerAddress bytes
      by_answer (Ok lower) e kept =
          let is = ((told bytes).value lower).0 e in
          record { address = is.0; lower = sym is.1 ∙ (bytes_eq-Decides lower bytes).0 kept }
      by_answer (Err fault) e kept = absurd (false≢true kept)

  pub lower_is_read : (bytes : List ℕ) → IsLowerAddress bytes → address_of bytes ≡ Ok bytes
  lower_is_read bytes is = ((told bytes).value bytes).1 (is.address, sym is.lower)

  pub lower_no : (bytes : List ℕ) → is_lower bytes ≡ false → IsLowerAddress bytes → ⊥
  unfolding is_lower
  lower_no bytes e is =
      let kept : is_kept bytes (address_of bytes) ≡ true = ap (is_kept bytes) (lower_is_read bytes is) ∙ (bytes_eq-Decides bytes bytes).1 refl in
      false≢true (sym e ∙ kept)

  -- What a look for an address finds.

  module _ (bytes : List ℕ) (found : Option (List ℕ)) (is_found : found ≡ result_ok (address_of bytes)) where
    found_lower : IsLowerAddress bytes → found ≡ Some bytes
    found_lower is = is_found ∙ ap result_ok (lower_is_read bytes is)

    pub none_lower : found ≡ None → IsLowerAddress bytes → ⊥
    none_lower none is = let both : None ≡ Some bytes = sym none ∙ found_lower is in let h : ⊥ = cc in h

    pub other_lower : (address shown : List ℕ) → found ≡ Some address → shown ≡ address → true ≡ not (bytes_eq shown bytes) → IsLowerAddress bytes → ⊥
    other_lower address shown some same other is =
        let both : Some address ≡ Some bytes = sym some ∙ found_lower is in
        let address_is : address ≡ bytes = cc in
        let equal = (bytes_eq-Decides shown bytes).1 (same ∙ address_is) in
        false≢true (sym (other ∙ ap not equal))

pub same_lower : (bytes address shown : List ℕ) → shown ≡ address → false ≡ not (bytes_eq shown bytes) → IsLowerAddress address → (address ≡ bytes) × IsLowerAddress bytes
same_lower bytes address shown same equal lower = by_test (bytes_eq shown bytes) refl equal
  where
    by_test : (b : Bool) → bytes_eq shown bytes ≡ b → false ≡ not b → (address ≡ bytes) × IsLowerAddress bytes
    by_test true e test = let is : address ≡ bytes = sym same ∙ (bytes_eq-Decides shown bytes).0 e in (is, subst IsLowerAddress is lower)
    by_test false e test = absurd (false≢true test)
