-- An envelope is taken where it is new, and its charge is owed in any case.
use Rattle.std.proofs.Common.{refl}
use Rattle.pec_ledger.specs.Lookups.{taken_of}
use Rattle.pec_ledger.specs.Steps.{half}
use Rattle.pec_plays.specs.Reception.{envelope_fits, envelope_rows}
use Rattle.pec_trade.specs.TradeOf.{trade_of}
use Rattle.pec_reception.proofs.LetterLemmas.{is_foreign, shows_known, shows_new}
use Rattle.pec_reception.proofs.TableLemmas.{envelope_stands}
use Rattle.pec_reception.specs.Views.{framed_shown}
use Rattle.pec_reception.specs.declared.standing.Standing.TheVariants.{New, Known, Foreign}
use Rattle.pec_reception.proofs.letters.envelope.Goals as goal

pub returns-in_ok-received-in-New-clause-exact : goal.returns-in_ok-received-in-New-clause-exact
returns-in_ok-received-in-New-clause-exact c = λ seals. λ journal. λ is.
    let trade = trade_of c.args.directory.now seals
    in let me = c.args.shelf.now.me
    in let now = c.args.moment
    in let framed = framed_shown c.args.framed.now
    in let id = c.args.id
    in let fits = envelope_fits trade me framed
    in let found = taken_of (half trade me journal) id
    in let stands = envelope_stands trade me journal framed id New c.me-me.result c.in_ok-arrived.arrived
    c.me-me.ensures (c.in_ok-arrived.ensures seals journal is) c.in-New.ensures
    in shows_new (envelope_rows trade me now journal framed id) fits found c.in_ok-received-in-New.received _
    (rw c.me-me.ensures at c.in_ok-received-in-New.ensures) stands (refl, refl, refl)

pub returns-in-Known-clause-exact : goal.returns-in-Known-clause-exact
returns-in-Known-clause-exact c = λ seals. λ journal. λ is.
    let trade = trade_of c.args.directory.now seals
    in let me = c.args.shelf.now.me
    in let now = c.args.moment
    in let framed = framed_shown c.args.framed.now
    in let id = c.args.id
    in let fits = envelope_fits trade me framed
    in let found = taken_of (half trade me journal) id
    in let stands = envelope_stands trade me journal framed id Known c.me-me.result c.in_ok-arrived.arrived
    c.me-me.ensures (c.in_ok-arrived.ensures seals journal is) c.in-Known.ensures
    in shows_known (envelope_rows trade me now journal framed id) fits found c.passes.result _
    (rw c.me-me.ensures at c.passes.ensures) stands (λ row. (refl, refl, refl))

pub returns-in-Foreign-clause-exact : goal.returns-in-Foreign-clause-exact
returns-in-Foreign-clause-exact c = λ seals. λ journal. λ is.
    let trade = trade_of c.args.directory.now seals
    in let me = c.args.shelf.now.me
    in let now = c.args.moment
    in let framed = framed_shown c.args.framed.now
    in let id = c.args.id
    in let fits = envelope_fits trade me framed
    in let found = taken_of (half trade me journal) id
    in let stands = envelope_stands trade me journal framed id Foreign c.me-me.result c.in_ok-arrived.arrived
    c.me-me.ensures (c.in_ok-arrived.ensures seals journal is) c.in-Foreign.ensures
    in is_foreign (envelope_rows trade me now journal framed id) fits found stands
