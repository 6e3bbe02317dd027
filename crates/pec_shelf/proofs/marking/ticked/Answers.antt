use Rattle.std.proofs.Common.{ap, refl}
use Rattle.pec_shelf.specs.Looked.{acceptances_seen}
use Rattle.pec_shelf.specs.declared.deadlines.Clock.{Clock}
use Rattle.pec_shelf.proofs.AcceptanceLemmas.{clock_is, watched_are}
use Rattle.pec_shelf.proofs.KeptLemmas.{ticked_is}
use Rattle.pec_shelf.proofs.marking.ticked.Goals as goal

pub marks-requires : goal.marks-requires
marks-requires c =
    let stands = clock_is c.args.now (acceptances_seen c.args.shelf.now) c.watched.result.1.now.moments c.args.clock c.in-Some.clock c.requires.clock c.in-Some.is
    (watched_are c.args.shelf.now c.watched.result.1.now c.args.shelf.now.half.last c.watched.result.0.now c.watched.ensures.watched c.watched.ensures.side c.watched.ensures.certified) in
    record {
      few = c.watched.ensures.few;
      side = c.watched.ensures.side;
      watched = c.watched.ensures.watched;
      in_time = c.requires.in_time;
      warned = ap (λ (k : Clock). k.warned) stands;
      noticed = ap (λ (k : Clock). k.noticed) stands;
    }

pub returns : goal.returns
returns c =
    λ trade for.
    ticked_is trade c.args.shelf.now c.args.now c.watched.result.0.now.messages c.in-Some.clock c.in_ok-ready.ready c.with_clock.result
    c.watched.ensures.side.messages c.watched.ensures.certified for c.in_ok-ready.ensures c.with_clock.ensures
    (clock_is c.args.now (acceptances_seen c.args.shelf.now) (acceptances_seen c.args.shelf.now) c.args.clock c.in-Some.clock c.requires.clock c.in-Some.is refl)
