use Rattle.std.proofs.Common.{[], refl, ap, ◌∙◌, option_map}
use Rattle.pec_directory.proofs.LookupLemmas.{account-found}
use Rattle.pec_directory.specs.Directory.{account_of, providers_of}
use Rattle.pec_directory.specs.Indexes.{reached}
use Rattle.pec_directory.proofs.directories.Directory.account.Goals as goal

pub returns-in_err-place : goal.returns-in_err-place
unfolding account_of
returns-in_err-place c =
    let providers = providers_of c.self.inside.providers.items in
    let address = c.bytes.result.now in
    rw (← c.self.view_is, ← c.bytes.ensures.value)
    (ap (option_map (λ account. account.now)) c.from_residual.ensures
    ∙ ap (reached providers) (c.in_err-place.ensures ∙ c.self.invariant.0.places_are address)
    ∙ account-found address providers [] providers refl)

pub returns : goal.returns
unfolding account_of
returns c =
    let providers = providers_of c.self.inside.providers.items in
    let address = c.bytes.result.now in
    rw (← c.self.view_is, ← c.bytes.ensures.value)
    (rw c.as_slice.ensures.value at c.account_at.ensures
    ∙ ap (reached providers) (c.in_ok-place.ensures ∙ c.self.invariant.0.places_are address)
    ∙ account-found address providers [] providers refl)
