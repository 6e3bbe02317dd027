-- An acknowledgement is noted where it is new.
use Rattle.std.proofs.Common.{◌≡◌, refl, sym, subst, Option}
use Rattle.pec_types.specs.Bytes.{Bytes}
use Rattle.pec_ledger.specs.Lookups.{is_acked}
use Rattle.pec_ledger.specs.Pairs.{pair_of}
use Rattle.pec_ledger.specs.Steps.{half}
use Rattle.pec_plays.specs.Reception.{ack_fits, ack_rows, by_ack, otherwise}
use Rattle.pec_trade.specs.TradeOf.{trade_of}
use Rattle.pec_reception.proofs.LetterLemmas.{is_foreign_by, shows_known_by, shows_new_by}
use Rattle.pec_reception.proofs.TableLemmas.{ack_stands}
use Rattle.pec_reception.specs.Shows.{Shows}
use Rattle.pec_reception.specs.Views.{framed_shown, stated}
use Rattle.pec_reception.specs.declared.standing.Standing.TheVariants.{New, Known, Foreign}
use Rattle.pec_reception.proofs.letters.ack.Goals as goal

pub returns-in-New-clause-exact : goal.returns-in-New-clause-exact
returns-in-New-clause-exact c = λ seals. λ journal. λ is.
    let trade = trade_of c.args.directory.now seals
    in let me = c.args.shelf.now.me
    in let now = c.args.moment
    in let framed = framed_shown c.args.framed.now
    in let receipt = stated c.args.view.now
    in let recipient = c.in-Some.recipient
    in let rows = ack_rows trade me now journal framed receipt recipient
    in let fits = ack_fits trade me now journal framed receipt recipient
    in let had = is_acked (half trade me journal) (pair_of receipt.id recipient)
    in let stands = ack_stands trade me journal framed now receipt recipient New c.me.result c.in_ok-arrived.arrived
    c.me.ensures (c.in_ok-arrived.ensures seals journal is) c.in-New.ensures
    in subst (λ (o : Option Bytes). Shows c.in_ok-received-in-New.received
    (by_ack trade me now journal framed receipt o)) (sym c.in-Some.is)
    (shows_new_by rows fits had c.in_ok-received-in-New.received _ c.in_ok-received-in-New.ensures stands
    (refl, refl, refl))

pub returns-in-Known-clause-exact : goal.returns-in-Known-clause-exact
returns-in-Known-clause-exact c = λ seals. λ journal. λ is.
    let trade = trade_of c.args.directory.now seals
    in let me = c.args.shelf.now.me
    in let now = c.args.moment
    in let framed = framed_shown c.args.framed.now
    in let receipt = stated c.args.view.now
    in let recipient = c.in-Some.recipient
    in let rows = ack_rows trade me now journal framed receipt recipient
    in let fits = ack_fits trade me now journal framed receipt recipient
    in let had = is_acked (half trade me journal) (pair_of receipt.id recipient)
    in let stands = ack_stands trade me journal framed now receipt recipient Known c.me.result c.in_ok-arrived.arrived
    c.me.ensures (c.in_ok-arrived.ensures seals journal is) c.in-Known.ensures
    in subst (λ (o : Option Bytes). Shows c.in_ok-received-in-Known.received
    (by_ack trade me now journal framed receipt o)) (sym c.in-Some.is)
    (shows_known_by rows fits had c.in_ok-received-in-Known.received _ c.in_ok-received-in-Known.ensures stands
    (refl, refl, refl))

pub returns-clause-exact : goal.returns-clause-exact
returns-clause-exact c = λ seals. λ journal. λ is.
    let trade = trade_of c.args.directory.now seals
    in let me = c.args.shelf.now.me
    in let now = c.args.moment
    in let framed = framed_shown c.args.framed.now
    in let receipt = stated c.args.view.now
    in let recipient = c.in-Some.recipient
    in let rows = ack_rows trade me now journal framed receipt recipient
    in let fits = ack_fits trade me now journal framed receipt recipient
    in let had = is_acked (half trade me journal) (pair_of receipt.id recipient)
    in let stands = ack_stands trade me journal framed now receipt recipient Foreign c.me.result
    c.in_ok-arrived.arrived c.me.ensures (c.in_ok-arrived.ensures seals journal is) c.in-Foreign.ensures
    in subst (λ (o : Option Bytes). by_ack trade me now journal framed receipt o
    ≡ otherwise trade me now journal framed) (sym c.in-Some.is) (is_foreign_by rows fits had stands)
