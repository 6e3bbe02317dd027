-- One step of a walk over items: what is read of the first, and then of the others.
use Rattle.std.proofs.Common.{◌≡◌, ℕ, ◌+◌, ◌<◌, List, [], ◌∷◌, ◌++◌, length, get_or, drop, Ok, refl, sym, ap, ◌∙◌, arith}
use Rattle.toml.specs.View.{items_view, view}
use Rattle.toml.specs.declared.value.Value.{Value}
use Rattle.pec_types.specs.Results.{◌>>=◌}
use Rattle.pec_directory.specs.Directory.{Account, Provider}
use Rattle.pec_directory.specs.Walk.{Fields, account_in, accounts_from, count_of, provider_in, providers_from}
use Rattle.pec_directory.proofs.FormLemmas.{items_view-step}

pub accounts_step : (earlier : List Provider) (fields : Fields) (before : List Account) (values : List Value) (i : ℕ) (value : Value) (account : Account)
    → i < length values → value ≡ get_or values i value → account_in earlier fields before (view value) ≡ Ok account
    → accounts_from earlier fields (before ++ account ∷ []) (items_view (drop (i + 1) values)) ≡ accounts_from earlier fields before (items_view (drop i values))
accounts_step earlier fields before values i value account within is read =
    let rest = items_view (drop (i + 1) values) in
    sym (ap (accounts_from earlier fields before) (items_view-step values i value within is)
    ∙ ap (λ r. r >>= (λ next. accounts_from earlier fields (before ++ next ∷ []) rest)) read)

pub providers_step : (earlier : List Provider) (values : List Value) (i : ℕ) (value : Value) (provider : Provider)
    → i < length values → value ≡ get_or values i value → provider_in earlier (view value) ≡ Ok provider
    → providers_from (earlier ++ provider ∷ []) (items_view (drop (i + 1) values)) ≡ providers_from earlier (items_view (drop i values))
providers_step earlier values i value provider within is read =
    let rest = items_view (drop (i + 1) values) in
    sym (ap (providers_from earlier) (items_view-step values i value within is)
    ∙ ap (λ r. r >>= (λ next. providers_from (earlier ++ next ∷ []) rest)) read)

pub count_view : (values : List Value) → count_of (items_view values) ≡ length values
count_view [] = refl
count_view (value ∷ values) = ap (λ n. n + 1) (count_view values) ∙ omega arith
