-- The next pair is decided as the step that was made ready.
use Rattle.std.proofs.Common.{List, None, Ok, Err, Option, Some, ap, subst, sym, ◌≡◌, ◌∙◌}
use Rattle.std.specs.Prelude.{IfSome}
use Rattle.std.proofs.lemmas.Result.{err_from_is_err_and}
use Rattle.pec_types.specs.declared.turns.Event.{Event}
use Rattle.pec_ledger.specs.Ledger.{Meets}
use Rattle.pec_ledger.specs.Pairs.{Pair}
use Rattle.pec_ledger.specs.Steps.{half}
use Rattle.pec_plays.specs.Decisions.{undecided}
use Rattle.pec_reception.specs.OfTrades.{trade_of, world_at}
use Rattle.pec_chronicle.specs.CarryingLaws.{carries_and_then}
use Rattle.pec_chronicle.specs.Chronicle.{Stands}
use Rattle.pec_reception.specs.Shows.{decide_as}
use Rattle.pec_reception.specs.declared.received.Received.{Received}
use Rattle.pec_provider.specs.Appending.{MayEnter}
use Rattle.pec_provider.specs.Following.{MayFollow}
use Rattle.pec_provider.specs.Provider.{Desk, desk_of}
use Rattle.pec_provider.specs.Reading.{EnvelopeIsChanged}
use Rattle.pec_provider.specs.Working.{DecidesFirst, Does}
use Rattle.pec_provider.proofs.DecideLemmas.{does_changed, idle_changed, idle_unlooked, limits_of, looks_failed, looks_idle, looks_whole}
use Rattle.pec_provider.proofs.DecideLemmas.{undertakes_over, unready_unlooked}
use Rattle.pec_provider.proofs.FollowLemmas.{carries_any, carries_none, carries_still}
use Rattle.pec_provider.proofs.TurnLemmas.{decision_follows, first_handed, first_there, found_of, found_so, idles_handed}
use Rattle.pec_provider.proofs.TurnLemmas.{none_next, some_next, step_may, unready_handed, works_first}
use Rattle.pec_provider.proofs.provider.Provider.decide_next.Goals as goal

pub returns-in_err-at_work-clause-decides : goal.returns-in_err-at_work-clause-decides
returns-in_err-at_work-clause-decides g c =
    let kept = c.args.house.now.directory.now in
    let me = c.args.house.now.me in
    let seals = g.S.Sealer.seals c.args.house.now.sealer.now in
    let trade = trade_of kept seals in
    let of = c.a_house_is_a_trade.ensures.of in
    let journal = c.args.self.now.chronicle.entries in
    let screens = g.J.Judge.patterns c.args.screens.now in
    let old = desk_of c.args.self.now in
    let found = found_of trade me screens journal (undecided trade me journal) in
    record {
      found = found;
      finds = λ stood. found_so trade me screens journal;
      given =
          let p = err_from_is_err_and c.from_residual.result c.from_residual.ensures.1 in
          λ looked. absurd (idle_unlooked Event trade me c.args.moment old (Option Event) old.interrupted
          c.in_err-at_work.field-0.0 (c.in_err-at_work.ensures.works kept seals me trade c.requires.runs of)
          (rw (p.1, p.2) at looked));
      decides = idles_handed (Option Event) Event trade me c.args.moment
          (DecidesFirst trade me c.args.moment found (undecided trade me journal) old old) old
          c.in_err-at_work.field-0.0 c.from_residual.result c.from_residual.ensures.1
          (c.in_err-at_work.ensures.works kept seals me trade c.requires.runs of);
    }

pub returns-in_err-at_work-clause-changed : goal.returns-in_err-at_work-clause-changed
returns-in_err-at_work-clause-changed g c = λ tells stands.
    let kept = c.args.house.now.directory.now in
    let me = c.args.house.now.me in
    let seals = g.S.Sealer.seals c.args.house.now.sealer.now in
    let trade = trade_of kept seals in
    let of = c.a_house_is_a_trade.ensures.of in
    let journal = c.args.self.now.chronicle.entries in
    let screens = g.J.Judge.patterns c.args.screens.now in
    let old = desk_of c.args.self.now in
    let p = err_from_is_err_and c.from_residual.result c.from_residual.ensures.1 in
    rw (p.1, p.2) (idle_changed Event trade me c.args.moment old (EnvelopeIsChanged trade me journal)
    c.in_err-at_work.field-0.0 (c.in_err-at_work.ensures.works kept seals me trade c.requires.runs of))

pub returns-in_err-at_work-clause-looked : goal.returns-in_err-at_work-clause-looked
returns-in_err-at_work-clause-looked g c =
    let kept = c.args.house.now.directory.now in
    let me = c.args.house.now.me in
    let seals = g.S.Sealer.seals c.args.house.now.sealer.now in
    let trade = trade_of kept seals in
    let of = c.a_house_is_a_trade.ensures.of in
    let journal = c.args.self.now.chronicle.entries in
    let screens = g.J.Judge.patterns c.args.screens.now in
    let old = desk_of c.args.self.now in
    let p = err_from_is_err_and c.from_residual.result c.from_residual.ensures.1 in
    rw (p.1, p.2) (looks_idle Event trade me c.args.moment old (Option Event) (undecided trade me journal) _
    (g.J.Judge.seen c.args.screens.now) c.in_err-at_work.field-0.0
    (c.in_err-at_work.ensures.works kept seals me trade c.requires.runs of))

pub returns-in_err-at_work-clause-carries : goal.returns-in_err-at_work-clause-carries
returns-in_err-at_work-clause-carries g c = λ tells journals.
    carries_still g.D.Disk.sight (world_at c.args.house.now) journals
    c.args.house.now.me _ c.args.self.now c.self.view_is (c.stands_still.ensures tells)

pub returns-in_err-received-clause-decides : goal.returns-in_err-received-clause-decides
returns-in_err-received-clause-decides g c =
    let kept = c.args.house.now.directory.now in
    let me = c.args.house.now.me in
    let seals = g.S.Sealer.seals c.args.house.now.sealer.now in
    let trade = trade_of kept seals in
    let of = c.a_house_is_a_trade.ensures.of in
    let journal = c.args.self.now.chronicle.entries in
    let screens = g.J.Judge.patterns c.args.screens.now in
    let old = desk_of c.args.self.now in
    let found = found_of trade me screens journal (undecided trade me journal) in
    let works = c.in_ok-at_work.ensures.works kept seals me trade c.requires.runs of in
    let new = desk_of c.ready.new.self in
    record {
      found = found;
      finds = λ stood. found_so trade me screens journal;
      given =
          let p = err_from_is_err_and c.from_residual-in_err-received.result
          c.from_residual-in_err-received.ensures.1 in
          λ looked. absurd (unready_unlooked (Option Event) trade me (undecided trade me journal) new.interrupted
          c.in_err-received.field-0.0 c.ready.ensures.whole c.in_err-received.ensures.unready
          (rw (p.1, p.2) at looked));
      decides = works_first trade me c.args.moment old new found (undecided trade me journal)
          c.from_residual-in_err-received.result works
          (unready_handed trade me c.args.moment old new found (undecided trade me journal) c.in_err-received.field-0.0
          c.from_residual-in_err-received.result c.from_residual-in_err-received.ensures.1
          c.in_err-received.ensures.unready c.in_err-received.ensures.reads);
    }

pub returns-in_err-received-clause-changed : goal.returns-in_err-received-clause-changed
returns-in_err-received-clause-changed g c = λ tells stands.
    let p = err_from_is_err_and c.from_residual-in_err-received.result c.from_residual-in_err-received.ensures.1 in
    rw (p.1, p.2) (c.in_err-received.ensures.changed tells stands)

pub returns-in_err-received-clause-looked : goal.returns-in_err-received-clause-looked
returns-in_err-received-clause-looked g c =
    let kept = c.args.house.now.directory.now in
    let me = c.args.house.now.me in
    let seals = g.S.Sealer.seals c.args.house.now.sealer.now in
    let trade = trade_of kept seals in
    let of = c.a_house_is_a_trade.ensures.of in
    let journal = c.args.self.now.chronicle.entries in
    let screens = g.J.Judge.patterns c.args.screens.now in
    let old = desk_of c.args.self.now in
    let p = err_from_is_err_and c.from_residual-in_err-received.result c.from_residual-in_err-received.ensures.1 in
    rw (p.1, p.2) (looks_whole trade me (undecided trade me journal)
    (g.J.Judge.seen c.args.screens.now) (g.J.Judge.seen c.ready.new.screens) (Option Received) (Option Event)
    c.ready.new.self.chronicle.interrupted c.in_err-received.field-0.0 c.ready.ensures.whole
    c.in_err-received.ensures.looked)

pub returns-in_err-received-clause-carries : goal.returns-in_err-received-clause-carries
returns-in_err-received-clause-carries g c = λ tells journals.
    carries_none g.D.Disk.sight (world_at c.args.house.now) journals c.args.house.now.me c.args.self.now.chronicle
    c.ready.new.self.chronicle (c.in_err-received.ensures.carries tells)

pub returns-in_default-clause-decides : goal.returns-in_default-clause-decides
returns-in_default-clause-decides g c =
    let kept = c.args.house.now.directory.now in
    let me = c.args.house.now.me in
    let seals = g.S.Sealer.seals c.args.house.now.sealer.now in
    let trade = trade_of kept seals in
    let of = c.a_house_is_a_trade.ensures.of in
    let journal = c.args.self.now.chronicle.entries in
    let screens = g.J.Judge.patterns c.args.screens.now in
    let old = desk_of c.args.self.now in
    let ready = c.in_ok-received.ensures.ready in
    let works = c.in_ok-at_work.ensures.works kept seals me trade c.requires.runs of in
    let new = desk_of c.ready.new.self in
    record {
      found = ready.found;
      finds = ready.finds;
      given = λ looked. ready.given;
      decides = (
        works,
        subst (λ (l : List Pair). DecidesFirst trade me c.args.moment ready.found l old new (Ok None))
            (sym (none_next (g.D.Disk.tells × Stands g.D.Disk.sight c.args.self.now.chronicle) trade me c.args.moment
            screens journal c.in_ok-received.field-0 ready c.in_default.is)) c.in_ok-received.ensures.reads,
      );
    }

pub returns-in_default-clause-looked : goal.returns-in_default-clause-looked
returns-in_default-clause-looked g c = c.in_ok-received.ensures.looked

pub returns-in_default-clause-carries : goal.returns-in_default-clause-carries
returns-in_default-clause-carries g c = λ tells journals.
    carries_none g.D.Disk.sight (world_at c.args.house.now) journals c.args.house.now.me c.args.self.now.chronicle
    c.ready.new.self.chronicle (c.in_ok-received.ensures.carries tells)

pub undertake-requires-clause-limits : goal.undertake-requires-clause-limits
undertake-requires-clause-limits g c = limits_of c.in_ok-received.field-0 c.in-Some.received c.in-Some.is
    c.in_ok-received.ensures.limits

pub undertake-requires-clause-step : goal.undertake-requires-clause-step
undertake-requires-clause-step g c =
    let kept = c.args.house.now.directory.now in
    let me = c.args.house.now.me in
    let seals = g.S.Sealer.seals c.args.house.now.sealer.now in
    let trade = trade_of kept seals in
    let of = c.a_house_is_a_trade.ensures.of in
    let journal = c.args.self.now.chronicle.entries in
    let screens = g.J.Judge.patterns c.args.screens.now in
    let old = desk_of c.args.self.now in
    let ready = c.in_ok-received.ensures.ready in
    let works = c.in_ok-at_work.ensures.works kept seals me trade c.requires.runs of in
    let first = some_next (g.D.Disk.tells × Stands g.D.Disk.sight c.args.self.now.chronicle) trade me c.args.moment
    screens journal c.in_ok-received.field-0 c.in-Some.received ready c.in-Some.is in
    let found = ready.found in
    let mid : desk_of c.ready.new.self ≡ old = c.in_ok-received.ensures.reads in
    subst (λ (d : Desk). IfSome c.in-Some.received.entry (MayEnter kept me d.journal)) (sym mid)
    (step_may kept me c.args.moment trade journal (decide_as trade me c.args.moment found journal first.pair)
    c.in-Some.received.entry of first.shows.0 works.in_time
    (λ e is. c.what_a_provider_does_is_its_own.ensures.decisions trade me c.args.moment (λ entries one. found) journal
    first.pair (first_there (undecided trade me journal) first.pair first.pairs first.first) e is))

pub returns-in_err-event-clause-decides : goal.returns-in_err-event-clause-decides
returns-in_err-event-clause-decides g c =
    let kept = c.args.house.now.directory.now in
    let me = c.args.house.now.me in
    let seals = g.S.Sealer.seals c.args.house.now.sealer.now in
    let trade = trade_of kept seals in
    let of = c.a_house_is_a_trade.ensures.of in
    let journal = c.args.self.now.chronicle.entries in
    let screens = g.J.Judge.patterns c.args.screens.now in
    let old = desk_of c.args.self.now in
    let ready = c.in_ok-received.ensures.ready in
    let works = c.in_ok-at_work.ensures.works kept seals me trade c.requires.runs of in
    let first = some_next (g.D.Disk.tells × Stands g.D.Disk.sight c.args.self.now.chronicle) trade me c.args.moment
    screens journal c.in_ok-received.field-0 c.in-Some.received ready c.in-Some.is in
    let found = ready.found in
    let mid : desk_of c.ready.new.self ≡ old = c.in_ok-received.ensures.reads in
    let new = desk_of c.undertake.new.self in
    record {
      found = found;
      finds = ready.finds;
      given = λ looked. ready.given;
      decides = works_first trade me c.args.moment old new found (undecided trade me journal)
          c.from_residual-in_err-event.result works
          (first_handed trade me c.args.moment old new found (undecided trade me journal) first.pair first.pairs
          first.first c.in_err-event.field-0.0
          c.from_residual-in_err-event.result c.from_residual-in_err-event.ensures.1
          (subst (λ (d : Desk). Does (decide_as trade me c.args.moment found journal first.pair) d new
          (Err c.in_err-event.field-0.0)) mid
          (c.in_err-event.ensures.does trade (decide_as trade me c.args.moment found journal first.pair) of
          (undertakes_over trade me c.args.moment found journal first.pair c.in-Some.received first.shows
          (desk_of c.ready.new.self) (ap (λ (d : Desk). d.journal) mid)))));
    }

pub returns-in_err-event-clause-changed : goal.returns-in_err-event-clause-changed
returns-in_err-event-clause-changed g c = λ tells stands.
    let kept = c.args.house.now.directory.now in
    let me = c.args.house.now.me in
    let seals = g.S.Sealer.seals c.args.house.now.sealer.now in
    let trade = trade_of kept seals in
    let of = c.a_house_is_a_trade.ensures.of in
    let journal = c.args.self.now.chronicle.entries in
    let screens = g.J.Judge.patterns c.args.screens.now in
    let old = desk_of c.args.self.now in
    let ready = c.in_ok-received.ensures.ready in
    let works = c.in_ok-at_work.ensures.works kept seals me trade c.requires.runs of in
    let first = some_next (g.D.Disk.tells × Stands g.D.Disk.sight c.args.self.now.chronicle) trade me c.args.moment
    screens journal c.in_ok-received.field-0 c.in-Some.received ready c.in-Some.is in
    let found = ready.found in
    let mid : desk_of c.ready.new.self ≡ old = c.in_ok-received.ensures.reads in
    let p = err_from_is_err_and c.from_residual-in_err-event.result c.from_residual-in_err-event.ensures.1 in
    rw (p.1, p.2) (does_changed (EnvelopeIsChanged trade me journal)
    (decide_as trade me c.args.moment found journal first.pair) (desk_of c.ready.new.self)
    (desk_of c.undertake.new.self) c.in_err-event.field-0.0
    (c.in_err-event.ensures.does trade (decide_as trade me c.args.moment found journal first.pair) of
    (undertakes_over trade me c.args.moment found journal first.pair c.in-Some.received first.shows
    (desk_of c.ready.new.self) (ap (λ (d : Desk). d.journal) mid))))

pub returns-in_err-event-clause-looked : goal.returns-in_err-event-clause-looked
returns-in_err-event-clause-looked g c =
    let kept = c.args.house.now.directory.now in
    let me = c.args.house.now.me in
    let seals = g.S.Sealer.seals c.args.house.now.sealer.now in
    let trade = trade_of kept seals in
    let of = c.a_house_is_a_trade.ensures.of in
    let journal = c.args.self.now.chronicle.entries in
    let screens = g.J.Judge.patterns c.args.screens.now in
    let old = desk_of c.args.self.now in
    let ready = c.in_ok-received.ensures.ready in
    let works = c.in_ok-at_work.ensures.works kept seals me trade c.requires.runs of in
    let first = some_next (g.D.Disk.tells × Stands g.D.Disk.sight c.args.self.now.chronicle) trade me c.args.moment
    screens journal c.in_ok-received.field-0 c.in-Some.received ready c.in-Some.is in
    let found = ready.found in
    let mid : desk_of c.ready.new.self ≡ old = c.in_ok-received.ensures.reads in
    let p = err_from_is_err_and c.from_residual-in_err-event.result c.from_residual-in_err-event.ensures.1 in
    rw (p.1, p.2) (looks_failed trade me (undecided trade me journal)
    (g.J.Judge.seen c.args.screens.now) (g.J.Judge.seen c.ready.new.screens) (Option Event)
    (decide_as trade me c.args.moment found journal first.pair) (desk_of c.ready.new.self)
    (desk_of c.undertake.new.self) c.in_err-event.field-0.0
    (c.in_err-event.ensures.does trade (decide_as trade me c.args.moment found journal first.pair) of
    (undertakes_over trade me c.args.moment found journal first.pair c.in-Some.received first.shows
    (desk_of c.ready.new.self) (ap (λ (d : Desk). d.journal) mid))) c.in_ok-received.ensures.looked)

pub returns-in_err-event-clause-carries : goal.returns-in_err-event-clause-carries
returns-in_err-event-clause-carries g c = λ tells journals.
    let kept = c.args.house.now.directory.now in
    let me = c.args.house.now.me in
    let seals = g.S.Sealer.seals c.args.house.now.sealer.now in
    let trade = trade_of kept seals in
    let of = c.a_house_is_a_trade.ensures.of in
    let journal = c.args.self.now.chronicle.entries in
    let screens = g.J.Judge.patterns c.args.screens.now in
    let old = desk_of c.args.self.now in
    let ready = c.in_ok-received.ensures.ready in
    let works = c.in_ok-at_work.ensures.works kept seals me trade c.requires.runs of in
    let first = some_next (g.D.Disk.tells × Stands g.D.Disk.sight c.args.self.now.chronicle) trade me c.args.moment
    screens journal c.in_ok-received.field-0 c.in-Some.received ready c.in-Some.is in
    let found = ready.found in
    let mid : desk_of c.ready.new.self ≡ old = c.in_ok-received.ensures.reads in
    carries_and_then g.D.Disk.sight (MayFollow trade journals me) c.args.self.now.chronicle c.ready.new.self.chronicle
    c.undertake.new.self.chronicle
    (carries_none g.D.Disk.sight trade journals me c.args.self.now.chronicle c.ready.new.self.chronicle
    (c.in_ok-received.ensures.carries tells))
    (carries_any g.D.Disk.sight trade journals me c.ready.new.self.chronicle c.undertake.new.self.chronicle
    c.in-Some.received.entry
    (λ e is. subst (λ (d : Desk). Meets trade journals me (half trade me d.journal) e) (sym mid)
    (decision_follows trade journals me c.args.moment found journal first.pair e works.in_time
    c.at_work.ensures.in_range
    (c.what_a_provider_does_is_its_own.ensures.decisions trade me c.args.moment (λ entries one. found) journal
    first.pair
    (first_there (undecided trade me journal) first.pair first.pairs first.first) e (sym first.shows.0 ∙ is))
    (sym first.shows.0 ∙ is)))
    (c.undertake.ensures.carries tells))

pub returns-clause-decides : goal.returns-clause-decides
returns-clause-decides g c =
    let kept = c.args.house.now.directory.now in
    let me = c.args.house.now.me in
    let seals = g.S.Sealer.seals c.args.house.now.sealer.now in
    let trade = trade_of kept seals in
    let of = c.a_house_is_a_trade.ensures.of in
    let journal = c.args.self.now.chronicle.entries in
    let screens = g.J.Judge.patterns c.args.screens.now in
    let old = desk_of c.args.self.now in
    let ready = c.in_ok-received.ensures.ready in
    let works = c.in_ok-at_work.ensures.works kept seals me trade c.requires.runs of in
    let first = some_next (g.D.Disk.tells × Stands g.D.Disk.sight c.args.self.now.chronicle) trade me c.args.moment
    screens journal c.in_ok-received.field-0 c.in-Some.received ready c.in-Some.is in
    let found = ready.found in
    let mid : desk_of c.ready.new.self ≡ old = c.in_ok-received.ensures.reads in
    let new = desk_of c.undertake.new.self in
    record {
      found = found;
      finds = ready.finds;
      given = λ looked. ready.given;
      decides = (
        works,
        subst (λ (l : List Pair). DecidesFirst trade me c.args.moment found l old new (Ok (Some c.in_ok-event.event)))
            (sym first.first)
            (subst (λ (d : Desk). Does (decide_as trade me c.args.moment found journal first.pair) d new
            (Ok c.in_ok-event.event)) mid
            (c.in_ok-event.ensures.does trade (decide_as trade me c.args.moment found journal first.pair) of
            (undertakes_over trade me c.args.moment found journal first.pair c.in-Some.received first.shows
            (desk_of c.ready.new.self) (ap (λ (d : Desk). d.journal) mid)))),
      );
    }

pub returns-clause-looked : goal.returns-clause-looked
returns-clause-looked g c = c.in_ok-received.ensures.looked

pub returns-clause-carries : goal.returns-clause-carries
returns-clause-carries g c = λ tells journals.
    let kept = c.args.house.now.directory.now in
    let me = c.args.house.now.me in
    let seals = g.S.Sealer.seals c.args.house.now.sealer.now in
    let trade = trade_of kept seals in
    let of = c.a_house_is_a_trade.ensures.of in
    let journal = c.args.self.now.chronicle.entries in
    let screens = g.J.Judge.patterns c.args.screens.now in
    let old = desk_of c.args.self.now in
    let ready = c.in_ok-received.ensures.ready in
    let works = c.in_ok-at_work.ensures.works kept seals me trade c.requires.runs of in
    let first = some_next (g.D.Disk.tells × Stands g.D.Disk.sight c.args.self.now.chronicle) trade me c.args.moment
    screens journal c.in_ok-received.field-0 c.in-Some.received ready c.in-Some.is in
    let found = ready.found in
    let mid : desk_of c.ready.new.self ≡ old = c.in_ok-received.ensures.reads in
    carries_and_then g.D.Disk.sight (MayFollow trade journals me) c.args.self.now.chronicle c.ready.new.self.chronicle
    c.undertake.new.self.chronicle
    (carries_none g.D.Disk.sight trade journals me c.args.self.now.chronicle c.ready.new.self.chronicle
    (c.in_ok-received.ensures.carries tells))
    (carries_any g.D.Disk.sight trade journals me c.ready.new.self.chronicle c.undertake.new.self.chronicle
    c.in-Some.received.entry
    (λ e is. subst (λ (d : Desk). Meets trade journals me (half trade me d.journal) e) (sym mid)
    (decision_follows trade journals me c.args.moment found journal first.pair e works.in_time
    c.at_work.ensures.in_range
    (c.what_a_provider_does_is_its_own.ensures.decisions trade me c.args.moment (λ entries one. found) journal
    first.pair
    (first_there (undecided trade me journal) first.pair first.pairs first.first) e (sym first.shows.0 ∙ is))
    (sym first.shows.0 ∙ is)))
    (c.undertake.ensures.carries tells))
