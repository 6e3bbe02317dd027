-- Who may come to a desk hangs on its providers alone, not on how their zones are kept.
use Rattle.std.proofs.Common.{◌≡◌, ◌∙◌, ℕ, List, Option, Some, None, refl, ap, sym}
use Rattle.std.proofs.Math.Path.{fun_ext}
use Rattle.std.proofs.lemmas.Option.{slice_get-map}
use Rattle.std.specs.Prelude.{slice_get}
use Rattle.std.specs.Option.{option_map}
use Rattle.pec_types.specs.Bytes.{Bytes}
use Rattle.pec_directory.specs.Directory.{Kept, Provider, account_home, account_of, providers_of}
use Rattle.pec_service.specs.Passes.{keyed, limit_in, pass_of, passed}

abbrev said_of : Kept → Provider
said_of one = one.provider

abbrev limit_of : Option Provider → ℕ
limit_of None = 0
limit_of (Some provider) = provider.limit

limit_said : (one : Option Kept) → limit_in one ≡ limit_of (option_map said_of one)
limit_said None = refl
limit_said (Some one) = refl

module _ (kept others : List Kept) (same : providers_of kept ≡ providers_of others) where
  limit_same : (number : ℕ) → limit_in (slice_get kept number) ≡ limit_in (slice_get others number)
  limit_same number =
      limit_said (slice_get kept number)
      ∙ (ap limit_of (sym (slice_get-map said_of kept number)
      ∙ (ap (λ (providers : List Provider). slice_get providers number) same ∙ slice_get-map said_of others number))
      ∙ sym (limit_said (slice_get others number)))

  passed_same : (address key : Bytes) (home : Option ℕ) → passed kept address key home ≡ passed others address key home
  passed_same address key None = refl
  passed_same address key (Some number) =
      ap (λ (limit : ℕ). keyed limit (account_of (providers_of kept) address) key) (limit_same number)
      ∙ ap (λ (providers : List Provider). keyed (limit_in (slice_get others number)) (account_of providers address) key) same

  pub pass_same : pass_of kept ≡ pass_of others
  unfolding pass_of
  pass_same = fun_ext (λ address. fun_ext (λ key.
      passed_same address key (account_home (providers_of kept) address)
      ∙ ap (λ (providers : List Provider). passed others address key (account_home providers address)) same))
