use Rattle.std.proofs.Common.{◌≡◌, true, false, sym, ◌∙◌}
use Rattle.std.specs.Str.{bytes_eq}
use Rattle.std.proofs.lemmas.Bool.{cond-true, cond-false}
use Rattle.pec_directory.proofs.LookupLemmas.{position-step}
use Rattle.pec_directory.specs.Directory.{Provider}
use Rattle.pec_directory.proofs.directories.place_of_name.Goals as goal

pub returns-then-eq-clause-number : goal.returns-then-eq-clause-number
returns-then-eq-clause-number c =
    let one = c.index-providers-number.result in
    let step = position-step (λ (p : Provider). bytes_eq c.args.name.now p.name) c.args.providers.now c.loop-number.number one c.loop-number-test.true c.index-providers-number.is in
    let same : bytes_eq c.args.name.now one.provider.name ≡ true = cc in
    sym (c.loop-number.invariant ∙ step ∙ cond-true _ _ _ same)

pub loop-number-preserved : goal.loop-number-preserved
loop-number-preserved c =
    let one = c.index-providers-number.result in
    let step = position-step (λ (p : Provider). bytes_eq c.args.name.now p.name) c.args.providers.now c.loop-number.number one c.loop-number-test.true c.index-providers-number.is in
    let other : bytes_eq c.args.name.now one.provider.name ≡ false = cc in
    c.loop-number.invariant ∙ step ∙ cond-false _ _ _ other
