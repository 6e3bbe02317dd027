use Rattle.std.proofs.Common.{sym, ◌∙◌, arith}
use Rattle.std.proofs.lemmas.List.{at_drop_all}
use Rattle.toml.specs.View.{items_view}
use Rattle.pec_directory.specs.Drafts.{read_so_far}
use Rattle.pec_directory.specs.Walk.{providers_from}
use Rattle.pec_directory.proofs.LawfulLemmas.{lawful_from}
use Rattle.pec_directory.proofs.StepLemmas.{count_view}
use Rattle.pec_directory.proofs.reading.read_providers.Goals as goal

pub new-requires-3-clause-lawful : goal.new-requires-3-clause-lawful
new-requires-3-clause-lawful c =
    let values = c.args.values.now in
    let read = read_so_far c.loop-value.draft in
    let count = count_view values in
    lawful_from record { told = c.an_address_is_told_exactly.ensures; lower = c.what_is_read_is_in_lower_case.ensures } (items_view values) read (omega (arith, count, c.requires.some)) (omega (arith, count, c.requires.few))
    (sym c.loop-value.invariant.all ∙ at_drop_all (λ l. providers_from read (items_view l)) values c.loop-value.value-index (omega arith))
