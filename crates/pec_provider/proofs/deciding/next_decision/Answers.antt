-- The next pair is the first undecided one, and it is decided by what was found for it.
use Rattle.std.proofs.Common.{ℕ, Bool, None, Option, Some, inr, refl, subst}
use Rattle.std.specs.Prelude.{IsSome}
use Rattle.std.proofs.lemmas.Result.{err_from_is_err_and}
use Rattle.pec_ledger.specs.Lookups.{taken_of}
use Rattle.pec_ledger.specs.Pairs.{pair_of}
use Rattle.pec_plays.specs.Decisions.{undecided}
use Rattle.pec_reception.specs.Shows.{IsFirstOf, Shows, decide_as}
use Rattle.pec_reception.specs.declared.received.Received.{Received}
use Rattle.pec_chronicle.specs.Chronicle.{Stands}
use Rattle.pec_reception.specs.OfTrades.{world_at}
use Rattle.pec_provider.proofs.DecideLemmas.{envelope_changed, half_over, looks_at, looks_none, looks_unread, ready_none}
use Rattle.pec_provider.proofs.DecideLemmas.{ready_some, steps_of, taken_first, unready_of}
use Rattle.pec_provider.proofs.ReadLemmas.{reads_as}
use Rattle.pec_provider.proofs.deciding.next_decision.Goals as goal

pub returns-in_default-clause-ready : goal.returns-in_default-clause-ready
returns-in_default-clause-ready g c =
    let trade = world_at c.args.house.now in
    let of = c.a_house_is_a_trade.ensures.of in
    let journal = c.args.chronicle.now.entries in
    let none = subst (λ (n : ℕ). IsFirstOf (undecided trade n journal) None) c.requires.is
    (c.in_default.ensures trade journal
    (steps_of c.args.house.now.directory.now c.args.chronicle.now c.args.shelf.now trade c.requires.agree of)
    (c.requires.agree.holds.is_half trade of)) in
    ready_none (g.D.Disk.tells × Stands g.D.Disk.sight c.args.chronicle.now) trade c.args.house.now.me c.args.moment
    (g.J.Judge.patterns c.args.screens.now) journal none

pub returns-in_default-clause-looked : goal.returns-in_default-clause-looked
returns-in_default-clause-looked g c =
    let trade = world_at c.args.house.now in
    let of = c.a_house_is_a_trade.ensures.of in
    let journal = c.args.chronicle.now.entries in
    let none = subst (λ (n : ℕ). IsFirstOf (undecided trade n journal) None) c.requires.is
    (c.in_default.ensures trade journal
    (steps_of c.args.house.now.directory.now c.args.chronicle.now c.args.shelf.now trade c.requires.agree of)
    (c.requires.agree.holds.is_half trade of)) in
    looks_none trade c.args.house.now.me (undecided trade c.args.house.now.me journal)
    (g.J.Judge.seen c.args.screens.now) (g.J.Judge.seen c.args.screens.now) none refl

pub found_for-requires-clause-taken : goal.found_for-requires-clause-taken
found_for-requires-clause-taken g c =
    let trade = world_at c.args.house.now in
    let of = c.a_house_is_a_trade.ensures.of in
    let journal = c.args.chronicle.now.entries in
    let pair = pair_of c.in-Some.first.0 c.in-Some.first.1.now in
    let half_is = c.requires.agree.holds.is_half trade of in
    let first = c.in-Some.ensures trade journal
    (steps_of c.args.house.now.directory.now c.args.chronicle.now c.args.shelf.now trade c.requires.agree of) half_is in
    half_over (λ h. IsSome (taken_of h c.in-Some.first.0)) trade c.args.shelf.now journal half_is
    (taken_first trade c.args.shelf.now.me journal pair first.0 first.1)

pub returns-in_err-found-clause-unready : goal.returns-in_err-found-clause-unready
returns-in_err-found-clause-unready g c =
    let p = err_from_is_err_and c.from_residual.result c.from_residual.ensures.1 in
    let trade = world_at c.args.house.now in
    let of = c.a_house_is_a_trade.ensures.of in
    let me = c.args.house.now.me in
    let journal = c.args.chronicle.now.entries in
    let pair = pair_of c.in-Some.first.0 c.in-Some.first.1.now in
    let first = subst (λ (n : ℕ). IsFirstOf (undecided trade n journal) (Some pair)) c.requires.is
    (c.in-Some.ensures trade journal
    (steps_of c.args.house.now.directory.now c.args.chronicle.now c.args.shelf.now trade c.requires.agree of)
    (c.requires.agree.holds.is_half trade of)) in
    rw (p.1, p.2) (unready_of trade me (undecided trade me journal) pair first.0 first.1 Bool c.args.chronicle.now
    c.found_for.new.chronicle _ c.in_err-found.ensures.reads c.in_err-found.ensures.account)

pub returns-in_err-found-clause-changed : goal.returns-in_err-found-clause-changed
returns-in_err-found-clause-changed g c = λ tells stands.
    let p = err_from_is_err_and c.from_residual.result c.from_residual.ensures.1 in
    let trade = world_at c.args.house.now in
    let of = c.a_house_is_a_trade.ensures.of in
    let me = c.args.house.now.me in
    let journal = c.args.chronicle.now.entries in
    let pair = pair_of c.in-Some.first.0 c.in-Some.first.1.now in
    let first = subst (λ (n : ℕ). IsFirstOf (undecided trade n journal) (Some pair)) c.requires.is
    (c.in-Some.ensures trade journal
    (steps_of c.args.house.now.directory.now c.args.chronicle.now c.args.shelf.now trade c.requires.agree of)
    (c.requires.agree.holds.is_half trade of)) in
    rw (p.1, p.2) (envelope_changed trade me journal pair first.0 first.1 _
    (c.in_err-found.ensures.changed tells stands))

pub returns-in_err-found-clause-looked : goal.returns-in_err-found-clause-looked
returns-in_err-found-clause-looked g c =
    let p = err_from_is_err_and c.from_residual.result c.from_residual.ensures.1 in
    let trade = world_at c.args.house.now in
    rw (p.1, p.2) (looks_unread trade c.args.house.now.me
    (undecided trade c.args.house.now.me c.args.chronicle.now.entries) (g.J.Judge.seen c.args.screens.now)
    (g.J.Judge.seen c.found_for.new.screens) Bool (Option Received) c.args.chronicle.now
    c.found_for.new.chronicle _ c.in_err-found.ensures.reads c.in_err-found.ensures.still)

pub returns-in_err-found-clause-reads : goal.returns-in_err-found-clause-reads
returns-in_err-found-clause-reads g c =
    let p = err_from_is_err_and c.from_residual.result c.from_residual.ensures.1 in
    rw (p.1, p.2) (reads_as Bool (Option Received) c.args.chronicle.now c.found_for.new.chronicle _
    c.in_err-found.ensures.reads)

pub returns-in_err-received-clause-looked : goal.returns-in_err-received-clause-looked
returns-in_err-received-clause-looked g c =
    let p = err_from_is_err_and c.from_residual-in_err-received.result c.from_residual-in_err-received.ensures.1 in
    let trade = world_at c.args.house.now in
    let of = c.a_house_is_a_trade.ensures.of in
    let me = c.args.house.now.me in
    let journal = c.args.chronicle.now.entries in
    let pair = pair_of c.in-Some.first.0 c.in-Some.first.1.now in
    let first = subst (λ (n : ℕ). IsFirstOf (undecided trade n journal) (Some pair)) c.requires.is
    (c.in-Some.ensures trade journal
    (steps_of c.args.house.now.directory.now c.args.chronicle.now c.args.shelf.now trade c.requires.agree of)
    (c.requires.agree.holds.is_half trade of)) in
    rw (p.1, p.2) (inr (looks_at trade me (undecided trade me journal) (g.J.Judge.seen c.args.screens.now)
    (g.J.Judge.seen c.found_for.new.screens) pair first.0 first.1 c.in_ok-found.ensures.looked))

pub returns-clause-ready : goal.returns-clause-ready
returns-clause-ready g c =
    let trade = world_at c.args.house.now in
    let of = c.a_house_is_a_trade.ensures.of in
    let me = c.args.house.now.me in
    let journal = c.args.chronicle.now.entries in
    let pair = pair_of c.in-Some.first.0 c.in-Some.first.1.now in
    let half_is = c.requires.agree.holds.is_half trade of in
    let first = subst (λ (n : ℕ). IsFirstOf (undecided trade n journal) (Some pair)) c.requires.is
    (c.in-Some.ensures trade journal
    (steps_of c.args.house.now.directory.now c.args.chronicle.now c.args.shelf.now trade c.requires.agree of)
    half_is) in
    ready_some (g.D.Disk.tells × Stands g.D.Disk.sight c.args.chronicle.now) trade me c.args.moment
    (g.J.Judge.patterns c.args.screens.now) journal pair first.0 first.1 c.in_ok-received.received c.in_ok-found.found
    (λ stood account. c.in_ok-found.ensures.found stood.0 stood.1 account) c.in_ok-found.ensures.given
    (subst
    (λ (n : ℕ). Shows c.in_ok-received.received (decide_as trade n c.args.moment c.in_ok-found.found journal pair))
    c.requires.is (c.in_ok-received.ensures.exact trade of journal half_is))

pub returns-clause-looked : goal.returns-clause-looked
returns-clause-looked g c =
    let trade = world_at c.args.house.now in
    let of = c.a_house_is_a_trade.ensures.of in
    let me = c.args.house.now.me in
    let journal = c.args.chronicle.now.entries in
    let pair = pair_of c.in-Some.first.0 c.in-Some.first.1.now in
    let first = subst (λ (n : ℕ). IsFirstOf (undecided trade n journal) (Some pair)) c.requires.is
    (c.in-Some.ensures trade journal
    (steps_of c.args.house.now.directory.now c.args.chronicle.now c.args.shelf.now trade c.requires.agree of)
    (c.requires.agree.holds.is_half trade of)) in
    looks_at trade me (undecided trade me journal) (g.J.Judge.seen c.args.screens.now)
    (g.J.Judge.seen c.found_for.new.screens) pair first.0 first.1 c.in_ok-found.ensures.looked
