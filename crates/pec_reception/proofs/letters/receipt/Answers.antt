use Rattle.std.proofs.Common.{sym, subst}
use Rattle.pec_types.specs.declared.receipts.Kind.{Kind}
use Rattle.pec_plays.specs.Reception.{by_receipt}
use Rattle.pec_trade.specs.TradeOf.{trade_of}
use Rattle.pec_reception.proofs.LetterLemmas.{no_letter}
use Rattle.pec_reception.specs.Shows.{Answers}
use Rattle.pec_reception.specs.Views.{framed_shown, stated}
use Rattle.pec_reception.proofs.letters.receipt.Goals as goal

pub returns-in-Charge-clause-exact : goal.returns-in-Charge-clause-exact
returns-in-Charge-clause-exact c = λ seals. λ journal. λ is.
    let trade = trade_of c.args.directory.now seals
    in let framed = framed_shown c.args.framed.now
    in subst (λ (kind : Kind). Answers trade c.args.shelf.now.me c.args.moment journal framed
    (by_receipt trade c.args.shelf.now.me c.args.moment journal framed (stated c.args.view.now) kind) c.charge.result)
    (sym c.in-Charge.is) (c.charge.ensures.exact seals journal is)

pub returns-in_default-clause-exact : goal.returns-in_default-clause-exact
returns-in_default-clause-exact c = λ seals. λ journal. λ is.
    no_letter (trade_of c.args.directory.now seals) c.args.shelf.now.me c.args.moment journal
    (framed_shown c.args.framed.now) (stated c.args.view.now)
    c.args.view.now.kind c.in_default.not-Charge c.in_default.not-Delivery c.in_default.not-DeliveryError
    c.in_default.not-VirusFound c.in_default.not-Ack
