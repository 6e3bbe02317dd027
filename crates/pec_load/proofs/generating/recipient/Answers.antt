-- The letter and the number, with the domain behind them.
use Rattle.std.proofs.Common.{◌%◌, ◌++◌, codes, ap, eqb, sym, ◌∙◌}
use Rattle.std.proofs.lemmas.Bool.{cond-false, ne_eqb}
use Rattle.std.specs.Fmt.{decimal}
use Rattle.pec_load.specs.Generated.{recipient_of}
use Rattle.pec_load.proofs.generating.recipient.Goals as goal

pub returns : goal.returns
unfolding recipient_of
returns c =
    c.in_ok-page-3.ensures
    ∙ (ap (λ t. t ++ codes "@beta.example") (c.in_ok-with_number.ensures
    ∙ ap (λ t. t ++ decimal (c.args.number % 7)) (c.in_ok-page-2.ensures ∙ ap (λ t. t ++ codes "v") c.new-2.ensures))
    ∙ sym (cond-false (eqb (c.args.number % 10) 9) _ _ (ne_eqb (c.args.number % 10) 9 c.if-number-eq9.false)))
