use Rattle.std.proofs.Common.{ap, map, refl, ◌∙◌, Option}
use Rattle.indexmap.specs.IndexMap.{insert_entry}
use Rattle.pec_types.specs.declared.messages.Decision.{Decision}
use Rattle.pec_check.specs.FindingsReading.{told_with}
use Rattle.pec_check.specs.Views.{finding_shown}
use Rattle.pec_check.specs.contracts.pairs.PairKeyPartialEq.TheImpl.{eq-value}
use Rattle.pec_check.proofs.FindingLemmas.{noted}
use Rattle.pec_check.proofs.dossiers.note.Goals as goal

pub returns-clause-ok : goal.returns-clause-ok
returns-clause-ok c =
    ap (map finding_shown) c.in_ok-insert.ensures.entries
    ∙ ap (λ (told : Option Decision). map finding_shown (insert_entry eq-value.it c.args.pairs.now.entries c.args.pair told))
    (c.told_with-told.ensures ∙ ap (λ (known : Option (Option Decision)). told_with known c.args.decision) c.get.ensures.value)
    ∙ noted eq-value.it (λ a b. refl) c.args.pairs.now.entries c.args.pair c.args.decision
