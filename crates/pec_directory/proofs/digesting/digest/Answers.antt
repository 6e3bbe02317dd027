use Rattle.std.proofs.Common.{[], sym, ap, ◌∙◌}
use Rattle.std.proofs.lemmas.List.Folds.{flat_map-map}
use Rattle.sha2.specs.Sha256.{sha256}
use Rattle.pec_directory.specs.Canonical.{canonical, digest_of, provider_text}
use Rattle.pec_directory.specs.Directory.{Kept}
use Rattle.pec_directory.proofs.digesting.digest.Goals as goal

pub returns : goal.returns
unfolding digest_of canonical
returns c =
    c.finalize.ensures _ (c.in_ok-feed_providers.ensures [] c.new-hasher.ensures)
    ∙ ap sha256 (sym (flat_map-map provider_text (λ (kept : Kept). kept.provider) c.args.providers.now))
