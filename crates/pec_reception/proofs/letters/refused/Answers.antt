-- The delivery error of a virus is no letter.
use Rattle.std.proofs.Common.{◌≡◌, refl, sym, subst}
use Rattle.pec_types.specs.declared.messages.Refusal.{Refusal}
use Rattle.pec_types.specs.declared.receipts.Kind.TheVariants as kinds
use Rattle.pec_plays.specs.Reception.{by_receipt, otherwise}
use Rattle.pec_trade.specs.TradeOf.{trade_of}
use Rattle.pec_reception.specs.Views.{framed_shown, stated}
use Rattle.pec_reception.proofs.letters.refused.Goals as goal

pub returns-in-Virus-clause-exact : goal.returns-in-Virus-clause-exact
returns-in-Virus-clause-exact c = λ seals. λ journal. λ is.
    let trade = trade_of c.args.directory.now seals
    in let me = c.args.shelf.now.me
    in let framed = framed_shown c.args.framed.now
    in subst (λ (r : Refusal). by_receipt trade me c.args.moment journal framed (stated c.args.view.now) (kinds.DeliveryError r)
    ≡ otherwise trade me c.args.moment journal framed) (sym c.in-Virus.is) refl
