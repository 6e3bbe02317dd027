use Rattle.std.proofs.Common.{◌≡◌, ◌+◌, ◌-◌, Ok, take, drop, ap, refl, arith}
use Rattle.std.proofs.lemmas.Result.{err_from_is_err_and}
use Rattle.pec_http.proofs.ServingLemmas.{HeadCame, body_stops, demand_stops, demands_so, look_answered, look_rested, rests_over, submission_answered}
use Rattle.pec_http.proofs.exchange.exchange.Goals as goal

pub returns-in_err-demand-clause-stop : goal.returns-in_err-demand-clause-stop
returns-in_err-demand-clause-stop g c =
    let head : HeadCame (g.S.Stream.left c.args.connection.now) (g.S.Stream.left c.read_head.new.connection) c.read_head.new.came.items c.in_ok-end.end =
    record { taken = c.in_ok-end.ensures.came; cut = c.in_ok-end.ensures.end; within = c.in_ok-end.ensures.within } in
    let p = err_from_is_err_and c.from_residual-in_err-demand.result c.from_residual-in_err-demand.ensures.1 in
    rw (p.1, p.2) (demand_stops _ _ _ _ _ _ head
    (λ lacks. demands_so _ _ _ _ _ (ap (λ t. take c.in_ok-end.end t) c.deref.ensures.value) refl (c.in_err-demand.ensures.err lacks)))

pub returns-in-Look-clause-ok : goal.returns-in-Look-clause-ok
returns-in-Look-clause-ok g c =
    let head : HeadCame (g.S.Stream.left c.args.connection.now) (g.S.Stream.left c.read_head.new.connection) c.read_head.new.came.items c.in_ok-end.end =
    record { taken = c.in_ok-end.ensures.came; cut = c.in_ok-end.ensures.end; within = c.in_ok-end.ensures.within } in
    look_answered _ _ _ _ _ _ _ c.in-Look.address c.in-Look.look _ head
    (demands_so _ _ _ _ _ (ap (λ t. take c.in_ok-end.end t) c.deref.ensures.value) (ap (λ d. Ok d) c.in-Look.is) c.in_ok-demand.ensures.ok)
    c.in_ok-reply-in-Look.ensures.ok

pub returns-in_err-read_body-in-Submit-clause-stop :
    goal.returns-in_err-read_body-in-Submit-clause-stop
returns-in_err-read_body-in-Submit-clause-stop g c =
    let head : HeadCame (g.S.Stream.left c.args.connection.now) (g.S.Stream.left c.read_head.new.connection) c.read_head.new.came.items c.in_ok-end.end =
    record { taken = c.in_ok-end.ensures.came; cut = c.in_ok-end.ensures.end; within = c.in_ok-end.ensures.within } in
    let p = err_from_is_err_and c.from_residual-in_err-read_body-in-Submit.result c.from_residual-in_err-read_body-in-Submit.ensures.1 in
    rw (p.1, p.2) (body_stops _ _ _ _ _ (c.in_ok-end.end + c.in-Submit.length) c.in-Submit.length c.in-Submit.address c.in-Submit.path _ head
    (demands_so _ _ _ _ _ (ap (λ t. take c.in_ok-end.end t) c.deref.ensures.value) (ap (λ d. Ok d) c.in-Submit.is) c.in_ok-demand.ensures.ok)
    refl c.in_err-read_body-in-Submit.ensures.stop)

pub returns-clause-ok : goal.returns-clause-ok
returns-clause-ok g c =
    let head : HeadCame (g.S.Stream.left c.args.connection.now) (g.S.Stream.left c.read_head.new.connection) c.read_head.new.came.items c.in_ok-end.end =
    record { taken = c.in_ok-end.ensures.came; cut = c.in_ok-end.ensures.end; within = c.in_ok-end.ensures.within } in
    let length_is : (c.in_ok-end.end + c.in-Submit.length) - c.in_ok-end.end ≡ c.in-Submit.length = omega arith in
    let message_is : take ((c.in_ok-end.end + c.in-Submit.length) - c.in_ok-end.end) (drop c.in_ok-end.end c.deref-in-Submit.result.now)
    ≡ take c.in-Submit.length (drop c.in_ok-end.end c.read_body.new.came.items) = rw (length_is, c.deref-in-Submit.ensures.value) refl in
    submission_answered _ _ _ (g.S.Stream.left c.read_body.new.connection) _ c.read_body.new.came.items _ c.in-Submit.length _ _ c.in-Submit.address c.in-Submit.path c.as_slice.result.now _ _ head
    (demands_so _ _ _ _ _ (ap (λ t. take c.in_ok-end.end t) c.deref.ensures.value) (ap (λ d. Ok d) c.in-Submit.is) c.in_ok-demand.ensures.ok)
    c.in_ok-read_body-in-Submit.ensures.came c.in_ok-read_body-in-Submit.ensures.whole c.as_slice.ensures message_is c.in_ok-reply-in-Submit.ensures.ok

pub returns-in_err-end-clause-rested : goal.returns-in_err-end-clause-rested
returns-in_err-end-clause-rested g c = rests_over g.K.Desk.answers (g.S.Stream.left c.args.connection.now) c.args.desk.now _ c.from_residual.result refl

pub returns-in_err-demand-clause-rested : goal.returns-in_err-demand-clause-rested
returns-in_err-demand-clause-rested g c =
    rests_over g.K.Desk.answers (g.S.Stream.left c.args.connection.now) c.args.desk.now _ c.from_residual-in_err-demand.result refl

pub returns-in_err-reply-in-Look-clause-rested : goal.returns-in_err-reply-in-Look-clause-rested
returns-in_err-reply-in-Look-clause-rested g c =
    let head : HeadCame (g.S.Stream.left c.args.connection.now) (g.S.Stream.left c.read_head.new.connection) c.read_head.new.came.items c.in_ok-end.end =
    record { taken = c.in_ok-end.ensures.came; cut = c.in_ok-end.ensures.end; within = c.in_ok-end.ensures.within } in
    look_rested _ _ _ _ _ _ _ c.in-Look.address c.in-Look.look c.from_residual-in_err-reply-in-Look.result head
    (demands_so _ _ _ _ _ (ap (λ t. take c.in_ok-end.end t) c.deref.ensures.value) (ap (λ d. Ok d) c.in-Look.is) c.in_ok-demand.ensures.ok)
    c.in_err-reply-in-Look.ensures.rested

pub returns-in_err-read_body-in-Submit-clause-rested : goal.returns-in_err-read_body-in-Submit-clause-rested
returns-in_err-read_body-in-Submit-clause-rested g c =
    rests_over g.K.Desk.answers (g.S.Stream.left c.args.connection.now) c.args.desk.now _ c.from_residual-in_err-read_body-in-Submit.result refl

pub returns-in_err-reply-in-Submit-clause-rested : goal.returns-in_err-reply-in-Submit-clause-rested
returns-in_err-reply-in-Submit-clause-rested g c =
    rests_over g.K.Desk.answers (g.S.Stream.left c.args.connection.now) c.args.desk.now _ c.from_residual-in_err-reply-in-Submit.result c.in_err-reply-in-Submit.ensures.same
