use Rattle.std.proofs.Common.{[], ◌∷◌, ◌∙◌, ap, sym, codes}
use Rattle.pec_types.specs.Bytes.{Bytes}
use Rattle.pec_directory.specs.Directory.{providers_of}
use Rattle.pec_script.specs.Pages.{line_after}
use Rattle.pec_script.specs.Texts.{Row, name_of, unfit_words}
use Rattle.pec_top.specs.Shown.{unfit_of}
use Rattle.pec_top.proofs.SaidLemmas.{not_fit_so}
use Rattle.pec_top.proofs.texts.not_fit_text.Goals as goal

pub returns : goal.returns
returns c =
    let providers = providers_of c.args.directory.now in
    let unfit = unfit_of c.args.why in
    let words : Row = codes "not-fit" ∷ name_of providers c.args.provider ∷ unfit_words unfit in
    c.in_ok-page.ensures
    ∙ (ap (λ (n : Bytes). line_after c.new.result.text.items (codes "not-fit" ∷ n ∷ unfit_words unfit))
    c.name_of.ensures
    ∙ (ap (λ t. line_after t words) c.new.ensures
    ∙ (c.lines_are_put_in_their_order.ensures [] (words ∷ []) ∙ sym (not_fit_so providers c.args.provider unfit))))
