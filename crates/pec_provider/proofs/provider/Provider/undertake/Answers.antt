use Rattle.std.proofs.Common.{ap, subst, sym, Ok, Err}
use Rattle.pec_provider.specs.Doing.{AppendsAny}
use Rattle.pec_provider.specs.Provider.{Desk, desk_of}
use Rattle.pec_provider.specs.Working.{Does}
use Rattle.pec_provider.proofs.FollowLemmas.{only_inside}
use Rattle.pec_provider.proofs.TurnLemmas.{does_err, does_handed, does_ok, room_desk}
use Rattle.pec_provider.proofs.provider.Provider.undertake.Goals as goal

pub returns-in_err-reserve-clause-carries : goal.returns-in_err-reserve-clause-carries
returns-in_err-reserve-clause-carries g c = λ tells.
    only_inside g.D.Disk.sight c.args.received.entry _ c.args.self.now c.self.view_is (c.stands_still.ensures tells)

pub returns-in_err-append_any-clause-does : goal.returns-in_err-append_any-clause-does
returns-in_err-append_any-clause-does g c = λ trade step of undertakes.
    let me = c.args.house.now.me in
    let fault = c.in_err-append_any.field-0.0 in
    let old = desk_of c.args.self.now in
    let new = desk_of c.append_any.new.self in
    let room = room_desk _ c.args.self.now c.reserve.new.self.items c.self.view_is c.reserve.ensures.items in
    does_handed step old new fault c.from_residual-in_err-append_any.result c.from_residual-in_err-append_any.ensures.1
    (does_err trade me step old new c.args.received.entry fault undertakes.shows.0 undertakes.full
    (subst (λ (d : Desk). AppendsAny {X = Unit {0}} trade me c.args.received.entry d new (Err fault)) room
    (c.in_err-append_any.ensures.appends trade of)))

pub returns-clause-does : goal.returns-clause-does
returns-clause-does g c = λ trade step of undertakes.
    let me = c.args.house.now.me in
    let old = desk_of c.args.self.now in
    let mid = desk_of c.append_any.new.self in
    let room = room_desk _ c.args.self.now c.reserve.new.self.items c.self.view_is c.reserve.ensures.items in
    subst (λ (d : Desk). Does step old d (Ok c.args.received.event)) (sym (ap (λ p. desk_of p) c.owe.ensures))
    (does_ok trade me step old mid c.args.received.entry c.args.received.event c.args.received.owed undertakes.shows.0
    undertakes.shows.1
    undertakes.shows.2 undertakes.full
    (subst (λ (d : Desk). AppendsAny {X = Unit {0}} trade me c.args.received.entry d mid (Ok tt)) room
    (c.in_ok-append_any.ensures.appends trade of)))
