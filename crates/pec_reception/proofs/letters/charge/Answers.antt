-- A charge is noted where it is new.
use Rattle.std.proofs.Common.{refl}
use Rattle.pec_ledger.specs.Lookups.{charged_of}
use Rattle.pec_ledger.specs.Steps.{half}
use Rattle.pec_plays.specs.Reception.{charge_fits, charge_rows}
use Rattle.pec_trade.specs.TradeOf.{trade_of}
use Rattle.pec_reception.proofs.LetterLemmas.{is_foreign, shows_known, shows_new}
use Rattle.pec_reception.proofs.TableLemmas.{charge_stands}
use Rattle.pec_reception.specs.Views.{framed_shown, stated}
use Rattle.pec_reception.specs.declared.standing.Standing.TheVariants.{New, Known, Foreign}
use Rattle.pec_reception.proofs.letters.charge.Goals as goal

pub returns-in-New-clause-exact : goal.returns-in-New-clause-exact
returns-in-New-clause-exact c = λ seals. λ journal. λ is.
    let trade = trade_of c.args.directory.now seals
    in let me = c.args.shelf.now.me
    in let now = c.args.moment
    in let framed = framed_shown c.args.framed.now
    in let receipt = stated c.args.view.now
    in let fits = charge_fits trade me now journal framed receipt
    in let found = charged_of (half trade me journal) receipt.id receipt.by
    in let stands = charge_stands trade me journal framed now receipt New c.me.result c.charge-arrived.result
    c.me.ensures (c.charge-arrived.ensures seals journal is) c.in-New.ensures
    in shows_new (charge_rows trade me now journal framed receipt) fits found c.enters.result _ (rw c.plain-entry.ensures at c.enters.ensures) stands
    (refl, refl, refl)

pub returns-in-Known-clause-exact : goal.returns-in-Known-clause-exact
returns-in-Known-clause-exact c = λ seals. λ journal. λ is.
    let trade = trade_of c.args.directory.now seals
    in let me = c.args.shelf.now.me
    in let now = c.args.moment
    in let framed = framed_shown c.args.framed.now
    in let receipt = stated c.args.view.now
    in let fits = charge_fits trade me now journal framed receipt
    in let found = charged_of (half trade me journal) receipt.id receipt.by
    in let stands = charge_stands trade me journal framed now receipt Known c.me.result c.charge-arrived.result
    c.me.ensures (c.charge-arrived.ensures seals journal is) c.in-Known.ensures
    in shows_known (charge_rows trade me now journal framed receipt) fits found c.passes.result _ c.passes.ensures
    stands (λ row. (refl, refl, refl))

pub returns-clause-exact : goal.returns-clause-exact
returns-clause-exact c = λ seals. λ journal. λ is.
    let trade = trade_of c.args.directory.now seals
    in let me = c.args.shelf.now.me
    in let now = c.args.moment
    in let framed = framed_shown c.args.framed.now
    in let receipt = stated c.args.view.now
    in let fits = charge_fits trade me now journal framed receipt
    in let found = charged_of (half trade me journal) receipt.id receipt.by
    in let stands = charge_stands trade me journal framed now receipt Foreign c.me.result c.charge-arrived.result
    c.me.ensures (c.charge-arrived.ensures seals journal is) c.in-Foreign.ensures
    in is_foreign (charge_rows trade me now journal framed receipt) fits found stands
