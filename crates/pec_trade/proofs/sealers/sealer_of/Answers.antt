-- The names of the sealer are those of the directory.
use Rattle.std.proofs.Common.{ap, subst, sym, ◌∙◌}
use Rattle.pec_types.specs.Bytes.{Path}
use Rattle.pec_directory.specs.Directory.{providers_of}
use Rattle.pec_letters.specs.Fitting.{Fits}
use Rattle.pec_seal.specs.Hmac.{hmac_seals}
use Rattle.pec_seal.specs.Seals.{Seals}
use Rattle.pec_trade.specs.Keys.{names_of}
use Rattle.pec_trade.proofs.LawfulLemmas.{sealer_fits}
use Rattle.pec_trade.proofs.sealers.sealer_of.Goals as goal

pub returns-clause-fits : goal.returns-clause-fits
returns-clause-fits c =
    let providers = providers_of c.args.directory.now
    in let same =
    c.in_ok-sealer.ensures ∙ ap (λ (names : Path). hmac_seals names c.in_ok-keys.keys.items) c.in_ok-names.ensures
    ∙ ap (λ (keys : Path). hmac_seals (names_of providers) keys) c.in_ok-keys.ensures
    in subst (λ (seals : Seals). Fits seals providers) (sym same) (sealer_fits providers)
