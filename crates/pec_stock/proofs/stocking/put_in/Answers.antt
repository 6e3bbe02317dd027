use Rattle.std.proofs.Common.{◌<◌, ◌^◌, ◌+◌, ◌∙◌, ℕ, ap, subst, sym}
use Rattle.pec_types.specs.declared.moments.TheConstants.{END_OF_TIME}
use Rattle.pec_ledger.specs.Half.{Half}
use Rattle.pec_ledger.specs.Steps.{moment_of}
use Rattle.pec_records.specs.Entry.{entry_text}
use Rattle.pec_shelf.specs.Prepared.{Goes, Prepared}
use Rattle.pec_stock.proofs.Agreeing.{goes_from, holds_more}
use Rattle.pec_stock.proofs.OpeningLemmas.{end_agrees}
use Rattle.pec_stock.proofs.PlaceLemmas.{place_at, place_push}
use Rattle.pec_stock.proofs.TakingLemmas.{as_many_held}
use Rattle.pec_stock.proofs.stocking.put_in.Goals as goal

pub returns-clause-taken : goal.returns-clause-taken
returns-clause-taken c = λ entries holds.
    let kept = c.args.directory.now in
    let entry = c.args.draft.now in
    let step = c.requires.step in
    let is = c.in_ok-ready.ensures.is in
    let here = c.requires.holds in
    holds_more kept c.args.shelf.now c.commit.new.self entries entry c.args.place step.trade holds step.of
    (λ trade of. subst (λ (ready : Prepared). Goes c.args.shelf.now c.commit.new.self ready) (is trade of)
    (goes_from c.args.shelf.now c.prepare.new.self c.commit.new.self c.in_ok-ready.ready c.prepare.ensures.same c.commit.ensures.after))
    (λ trade goes. c.what_is_kept_goes_on.ensures.half trade c.args.shelf.now c.commit.new.self entry c.args.place goes)
    (λ trade for goes. c.what_is_kept_goes_on.ensures.homes trade c.args.shelf.now c.commit.new.self entry c.args.place for goes)
    (subst (λ (n : ℕ). n < END_OF_TIME) (c.moment_of.ensures.value ∙ ap moment_of c.entry.ensures) c.moment_of.ensures.below)
    (place_push c.entries_stand_at_their_places.ensures.more entries entry c.args.shelf.now.half.end c.args.place
    (end_agrees kept c.args.shelf.now entries step.trade step.of holds)
    (here.2 ∙ ap (λ (n : ℕ). place_at n (entry_text entry)) (sym (end_agrees kept c.args.shelf.now here.0 step.trade step.of here.1))))

pub returns-clause-few : goal.returns-clause-few
returns-clause-few c = λ entries holds.
    let step = c.requires.step in
    let room = c.in_ok-ready.ensures.room in
    subst (λ (n : ℕ). n + 1 < 2 ^ 64) (as_many_held c.args.directory.now c.args.shelf.now entries step.trade step.of holds)
    (subst (λ (h : Half). h.entries + 1 < 2 ^ 64) c.prepare.ensures.same.1 room.entries)
