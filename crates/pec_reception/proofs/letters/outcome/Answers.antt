-- An outcome is learned where it is new, and its acknowledgement is owed in any case.
use Rattle.std.proofs.Common.{◌≡◌, refl, sym, subst, Option}
use Rattle.pec_types.specs.Bytes.{Bytes}
use Rattle.pec_ledger.specs.Lookups.{known_of}
use Rattle.pec_ledger.specs.Pairs.{pair_of}
use Rattle.pec_ledger.specs.Steps.{half}
use Rattle.pec_plays.specs.Reception.{by_outcome, otherwise, outcome_fits, outcome_rows}
use Rattle.pec_trade.specs.TradeOf.{trade_of}
use Rattle.pec_reception.proofs.LetterLemmas.{is_foreign, shows_known, shows_new}
use Rattle.pec_reception.proofs.TableLemmas.{outcome_stands}
use Rattle.pec_reception.specs.Shows.{Shows}
use Rattle.pec_reception.specs.Views.{framed_shown, stated}
use Rattle.pec_reception.specs.declared.standing.Standing.TheVariants.{New, Known, Foreign}
use Rattle.pec_reception.proofs.letters.outcome.Goals as goal

pub returns-in-New-clause-exact : goal.returns-in-New-clause-exact
returns-in-New-clause-exact c = λ seals. λ journal. λ is.
    let trade = trade_of c.args.directory.now seals
    in let me = c.args.shelf.now.me
    in let now = c.args.moment
    in let framed = framed_shown c.args.framed.now
    in let receipt = stated c.args.view.now
    in let recipient = c.in-Some.recipient
    in let rows = outcome_rows trade me now journal framed receipt recipient c.args.decision
    in let fits = outcome_fits trade me now journal framed receipt recipient c.args.decision
    in let found = known_of (half trade me journal) (pair_of receipt.id recipient)
    in let stands = outcome_stands trade me journal framed now receipt recipient c.args.decision New c.me.result
    c.in_ok-arrived.arrived c.me.ensures (c.in_ok-arrived.ensures seals journal is) c.in-New.ensures
    in subst (λ (o : Option Bytes). Shows c.in_ok-received-in-New.received
    (by_outcome trade me now journal framed receipt c.args.decision o)) (sym c.in-Some.is)
    (shows_new rows fits found c.in_ok-received-in-New.received _ c.in_ok-received-in-New.ensures stands
    (refl, refl, refl))

pub returns-in-Known-clause-exact : goal.returns-in-Known-clause-exact
returns-in-Known-clause-exact c = λ seals. λ journal. λ is.
    let trade = trade_of c.args.directory.now seals
    in let me = c.args.shelf.now.me
    in let now = c.args.moment
    in let framed = framed_shown c.args.framed.now
    in let receipt = stated c.args.view.now
    in let recipient = c.in-Some.recipient
    in let rows = outcome_rows trade me now journal framed receipt recipient c.args.decision
    in let fits = outcome_fits trade me now journal framed receipt recipient c.args.decision
    in let found = known_of (half trade me journal) (pair_of receipt.id recipient)
    in let stands = outcome_stands trade me journal framed now receipt recipient c.args.decision Known c.me.result
    c.in_ok-arrived.arrived c.me.ensures (c.in_ok-arrived.ensures seals journal is) c.in-Known.ensures
    in subst (λ (o : Option Bytes). Shows c.in_ok-received-in-Known.received
    (by_outcome trade me now journal framed receipt c.args.decision o)) (sym c.in-Some.is)
    (shows_known rows fits found c.in_ok-received-in-Known.received _ c.in_ok-received-in-Known.ensures stands
    (λ row. (refl, refl, refl)))

pub returns-clause-exact : goal.returns-clause-exact
returns-clause-exact c = λ seals. λ journal. λ is.
    let trade = trade_of c.args.directory.now seals
    in let me = c.args.shelf.now.me
    in let now = c.args.moment
    in let framed = framed_shown c.args.framed.now
    in let receipt = stated c.args.view.now
    in let recipient = c.in-Some.recipient
    in let rows = outcome_rows trade me now journal framed receipt recipient c.args.decision
    in let fits = outcome_fits trade me now journal framed receipt recipient c.args.decision
    in let found = known_of (half trade me journal) (pair_of receipt.id recipient)
    in let stands = outcome_stands trade me journal framed now receipt recipient c.args.decision Foreign c.me.result
    c.in_ok-arrived.arrived c.me.ensures (c.in_ok-arrived.ensures seals journal is) c.in-Foreign.ensures
    in subst (λ (o : Option Bytes). by_outcome trade me now journal framed receipt c.args.decision o
    ≡ otherwise trade me now journal framed) (sym c.in-Some.is) (is_foreign rows fits found stands)
