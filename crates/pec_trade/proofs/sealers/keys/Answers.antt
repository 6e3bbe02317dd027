-- One key more was put.
use Rattle.std.proofs.Common.{[], ◌∷◌, ◌++◌, take, ap, sym, ◌∙◌}
use Rattle.pec_types.specs.Bytes.{Bytes, Path}
use Rattle.pec_directory.specs.Directory.{Provider, providers_of}
use Rattle.pec_trade.specs.Keys.{keys_of}
use Rattle.pec_trade.proofs.LawfulLemmas.{one_more}
use Rattle.pec_trade.proofs.sealers.keys.Goals as goal

pub loop-number-preserved : goal.loop-number-preserved
loop-number-preserved c =
    let number = c.loop-number.number
    in let before = keys_of (providers_of (take number c.args.directory.now))
    in c.in_ok-push.ensures.items ∙ ap (λ (keys : Path). keys ++ c.in_ok-key.key ∷ []) c.loop-number.invariant
    ∙ ap (λ (key : Bytes). before ++ key ∷ []) c.in_ok-key.ensures
    ∙ sym (one_more (λ (p : Provider). p.key) c.args.directory.now number c.in-Some.provider.now (sym c.in-Some.ensures))
