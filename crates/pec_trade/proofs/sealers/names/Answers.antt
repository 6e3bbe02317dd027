-- One name more was put.
use Rattle.std.proofs.Common.{[], ◌∷◌, ◌++◌, take, ap, sym, ◌∙◌}
use Rattle.pec_types.specs.Bytes.{Bytes, Path}
use Rattle.pec_directory.specs.Directory.{Provider, providers_of}
use Rattle.pec_trade.specs.Keys.{names_of}
use Rattle.pec_trade.proofs.LawfulLemmas.{one_more}
use Rattle.pec_trade.proofs.sealers.names.Goals as goal

pub loop-number-preserved : goal.loop-number-preserved
loop-number-preserved c =
    let number = c.loop-number.number
    in let before = names_of (providers_of (take number c.args.directory.now))
    in c.in_ok-push.ensures.items ∙ ap (λ (names : Path). names ++ c.in_ok-name.name ∷ []) c.loop-number.invariant
    ∙ ap (λ (name : Bytes). before ++ name ∷ []) c.in_ok-name.ensures
    ∙ sym (one_more (λ (p : Provider). p.name) c.args.directory.now number c.in-Some.provider.now (sym c.in-Some.ensures))
