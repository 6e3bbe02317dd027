-- The kinds of causes come before the others.
use Rattle.std.proofs.Common.{◌≡◌, find, map, Option, ap, sym, ◌∙◌}
use Rattle.std.proofs.lemmas.List.Folds.{find-append}
use Rattle.std.specs.Option.{option_or}
use Rattle.pec_types.specs.Words.{all_causes}
use Rattle.pec_types.specs.declared.receipts.Kind.{Kind}
use Rattle.pec_types.specs.declared.receipts.Kind.TheVariants as kinds
use Rattle.pec_letter_parts.specs.Views.{letter_shown}
use Rattle.pec_receipts.specs.Kinds.{other_kinds}
use Rattle.pec_receipts.specs.Seen.{is_of, kind_of}
use Rattle.pec_receipts.proofs.asking.kind_of.Goals as goal

pub returns : goal.returns
unfolding kind_of
returns c =
    let is = is_of (letter_shown c.args.letter.now) in
    let refused : c.refused_kind.result ≡ find is (map kinds.NonAcceptance all_causes) =
    rw c.all.ensures at c.refused_kind.ensures in
    c.or.ensures
    ∙ ap (λ (o : Option Kind). option_or o c.first_kind.result) refused
    ∙ ap (λ (o : Option Kind). option_or (find is (map kinds.NonAcceptance all_causes)) o) c.first_kind.ensures
    ∙ sym (find-append is (map kinds.NonAcceptance all_causes) other_kinds)
