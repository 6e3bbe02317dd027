-- A receipt that is seen is answered by its kind.
use Rattle.std.proofs.Common.{◌∙◌, ap, sym, subst, Some}
use Rattle.pec_plays.specs.Steps.{Step}
use Rattle.pec_trade.specs.TradeOf.{trade_of}
use Rattle.pec_reception.proofs.SightLemmas.{a_receipt}
use Rattle.pec_reception.specs.Shows.{Answers}
use Rattle.pec_reception.specs.Views.{framed_shown}
use Rattle.pec_reception.specs.declared.sights.Sight.{Sight}
use Rattle.pec_reception.proofs.letters.answer.Goals as goal

pub returns-in_ok-found-in-Receipt-clause-exact : goal.returns-in_ok-found-in-Receipt-clause-exact
returns-in_ok-found-in-Receipt-clause-exact c = λ seals. λ journal. λ is. λ seen. λ e.
    let trade = trade_of c.args.directory.now seals
    in let me = c.args.shelf.now.me
    in let framed = framed_shown c.args.framed.now
    in subst (λ (s : Step). Answers trade me c.args.moment journal framed s c.in_ok-found-in-Receipt.found)
    (sym (a_receipt trade me c.args.moment journal framed seen c.in-Receipt.view
    (sym (ap (λ (s : Sight). Some s) c.in-Receipt.is) ∙ e)))
    (c.in_ok-found-in-Receipt.ensures.exact seals journal is)
