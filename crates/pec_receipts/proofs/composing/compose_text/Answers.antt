-- What is composed by the row of the kind is the receipt.
use Rattle.std.proofs.Common.{ap}
use Rattle.std.specs.Option.{option_map}
use Rattle.pec_receipts.proofs.ComposeLemmas.{certified_by_row, words_of}
use Rattle.pec_receipts.specs.Kinds.{row_of}
use Rattle.pec_receipts.specs.Views.{row_shown, said_shown}
use Rattle.pec_receipts.proofs.composing.compose_text.Goals as goal

pub returns : goal.returns
returns g c =
    certified_by_row (g.S.Sealer.seals c.args.sealer.now) c.args.directory.now c.args.receipt.now c.args.original.now
    (row_shown c.row_of-row.result) (row_of c.args.receipt.now.kind) (said_shown c.in-Some.said) c.in_ok-text-2.text.items
    c.row_of-row.ensures (ap (option_map said_shown) c.in-Some.is) c.in_ok-text-2.ensures

pub certify-requires-clause-words : goal.certify-requires-clause-words
certify-requires-clause-words g c =
    words_of c.each_cause_is_one_of_all.ensures.place c.args.receipt.now.kind (row_shown c.row_of-row.result) (said_shown c.in-Some.said) c.row_of-row.ensures
    (ap (option_map said_shown) c.in-Some.is)
