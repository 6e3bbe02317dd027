use Rattle.std.proofs.Common.{[], Global, Vec, ap, refl, is_ok, IsOk, subst, Err}
use Rattle.pec_types.specs.declared.mailboxes.Mark.{Mark}
use Rattle.pec_records.specs.declared.entries.Entry.{Entry}
use Rattle.pec_records.specs.declared.entries.Entry.TheVariants as entries
use Rattle.pec_plays.specs.Commands.{Marks, Tick, played}
use Rattle.pec_reception.specs.OfTrades.{trade_of, world_at}
use Rattle.pec_provider.specs.Appending.{Appends}
use Rattle.pec_provider.specs.Provider.{desk_of}
use Rattle.pec_provider.proofs.FollowLemmas.{carries_entry, carries_still}
use Rattle.pec_provider.proofs.PlayLemmas.{plays_done, plays_handed, plays_torn, tick_comes, tick_refused}
use Rattle.pec_provider.proofs.RunLemmas.{enters_by}
use Rattle.pec_provider.proofs.TickLemmas.{counted_later, counted_of, never_ok, none_counted}
use Rattle.pec_provider.proofs.provider.Provider.tick.Goals as goal

pub returns-in_err-at_work-clause-plays : goal.returns-in_err-at_work-clause-plays
returns-in_err-at_work-clause-plays g c = λ screens.
    let kept = c.args.house.now.directory.now in
    let me = c.args.house.now.me in
    let trade = trade_of kept (g.S.Sealer.seals c.args.house.now.sealer.now) in
    let desk = desk_of c.args.self.now in
    plays_handed (λ (marks : Vec Mark Global). Marks marks.items) (λ luck sites. played trade luck sites
    (Tick me c.args.moment)) trade me screens desk desk
    c.in_err-at_work.field-0.0 c.from_residual.result c.from_residual.ensures.1
    (tick_refused (Vec Mark Global) trade me c.args.moment screens desk c.in_err-at_work.field-0.0
    (c.in_err-at_work.ensures.works kept (g.S.Sealer.seals c.args.house.now.sealer.now) me trade c.requires c.a_house_is_a_trade.ensures.of)) refl

pub returns-in_err-at_work-clause-carries : goal.returns-in_err-at_work-clause-carries
returns-in_err-at_work-clause-carries g c = λ tells journals.
    carries_still g.D.Disk.sight (world_at c.args.house.now) journals
    c.args.house.now.me _ c.args.self.now c.self.view_is (c.stands_still.ensures tells)

pub append-requires-clause-step : goal.append-requires-clause-step
append-requires-clause-step g c =
    let kept = c.args.house.now.directory.now in
    let me = c.args.house.now.me in
    let trade = trade_of kept (g.S.Sealer.seals c.args.house.now.sealer.now) in
    let of = c.a_house_is_a_trade.ensures.of in
    let journal = c.args.self.now.chronicle.entries in
    let works = c.in_ok-at_work.ensures.works kept (g.S.Sealer.seals c.args.house.now.sealer.now) me trade c.requires of in
    rw c.plain-entry.ensures (enters_by kept me journal (entries.Ticked c.args.moment) trade (λ p. []) of
    (c.what_a_provider_does_may_follow.ensures.clock_calls trade (λ p. []) me c.args.moment journal works.in_time
    c.at_work.ensures.in_range))

pub returns-in_err-marks-clause-plays : goal.returns-in_err-marks-clause-plays
returns-in_err-marks-clause-plays g c = λ screens.
    let kept = c.args.house.now.directory.now in
    let me = c.args.house.now.me in
    let trade = trade_of kept (g.S.Sealer.seals c.args.house.now.sealer.now) in
    let of = c.a_house_is_a_trade.ensures.of in
    let desk = desk_of c.args.self.now in
    plays_torn (λ (marks : Vec Mark Global). Marks marks.items) (λ luck sites. played trade luck sites
    (Tick me c.args.moment)) trade me screens desk
    (desk_of c.append.new.self) (entries.Ticked c.args.moment) _ (Vec Mark Global) c.in_err-marks.field-0.0
    c.from_residual-in_err-marks.result
    c.from_residual-in_err-marks.ensures.1
    (tick_comes trade me c.args.moment screens desk (c.in_ok-at_work.ensures.works kept
    (g.S.Sealer.seals c.args.house.now.sealer.now) me trade c.requires of))
    (subst (λ (e : Entry). Appends {X = Vec Mark Global} trade me e desk (desk_of c.append.new.self) (Err c.in_err-marks.field-0.0)) c.plain-entry.ensures
    (c.in_err-marks.ensures.appends trade of))

pub returns-in_err-marks-clause-carries : goal.returns-in_err-marks-clause-carries
returns-in_err-marks-clause-carries g c = λ tells journals.
    let kept = c.args.house.now.directory.now in
    let me = c.args.house.now.me in
    let trade = trade_of kept (g.S.Sealer.seals c.args.house.now.sealer.now) in
    let works = c.in_ok-at_work.ensures.works kept (g.S.Sealer.seals c.args.house.now.sealer.now) me trade c.requires c.a_house_is_a_trade.ensures.of in
    carries_entry g.D.Disk.sight trade journals me c.args.self.now.chronicle c.append.new.self.chronicle
    (entries.Ticked c.args.moment)
    (c.what_a_provider_does_may_follow.ensures.clock_calls trade journals me c.args.moment
    c.args.self.now.chronicle.entries works.in_time
    c.at_work.ensures.in_range) (rw c.plain-entry.ensures at (c.append.ensures.carries tells))

pub returns-clause-plays : goal.returns-clause-plays
returns-clause-plays g c = λ screens.
    let kept = c.args.house.now.directory.now in
    let me = c.args.house.now.me in
    let trade = trade_of kept (g.S.Sealer.seals c.args.house.now.sealer.now) in
    let of = c.a_house_is_a_trade.ensures.of in
    let desk = desk_of c.args.self.now in
    plays_done (λ (marks : Vec Mark Global). Marks marks.items) (λ luck sites. played trade luck sites
    (Tick me c.args.moment)) trade me screens desk
    (desk_of c.append.new.self) (entries.Ticked c.args.moment) _ c.in_ok-marks.marks
    (tick_comes trade me c.args.moment screens desk (c.in_ok-at_work.ensures.works kept
    (g.S.Sealer.seals c.args.house.now.sealer.now) me trade c.requires of))
    (rw c.plain-entry.ensures at (c.in_ok-marks.ensures.appends trade of)) (ap (λ l. Marks l) (rw c.plain-entry.ensures at (c.in_ok-marks.ensures.marks trade of)))

pub returns-clause-carries : goal.returns-clause-carries
returns-clause-carries g c = λ tells journals.
    let kept = c.args.house.now.directory.now in
    let me = c.args.house.now.me in
    let trade = trade_of kept (g.S.Sealer.seals c.args.house.now.sealer.now) in
    let works = c.in_ok-at_work.ensures.works kept (g.S.Sealer.seals c.args.house.now.sealer.now) me trade c.requires c.a_house_is_a_trade.ensures.of in
    carries_entry g.D.Disk.sight trade journals me c.args.self.now.chronicle c.append.new.self.chronicle
    (entries.Ticked c.args.moment)
    (c.what_a_provider_does_may_follow.ensures.clock_calls trade journals me c.args.moment
    c.args.self.now.chronicle.entries works.in_time
    c.at_work.ensures.in_range) (rw c.plain-entry.ensures at (c.append.ensures.carries tells))

pub returns-in_err-at_work-clause-looked : goal.returns-in_err-at_work-clause-looked
returns-in_err-at_work-clause-looked g c =
    none_counted _ c.args.self.now.shelf.looks c.args.steps.now _ (never_ok c.from_residual.result c.from_residual.ensures.0)

pub returns-in_err-marks-clause-looked : goal.returns-in_err-marks-clause-looked
returns-in_err-marks-clause-looked g c =
    let trade = trade_of c.args.house.now.directory.now (g.S.Sealer.seals c.args.house.now.sealer.now) in
    counted_later _ c.args.self.now.shelf.looks c.append.new.self.shelf.looks c.args.steps.now c.append.new.steps (IsOk c.append.result) _
    (λ ok. absurd (never_ok c.from_residual-in_err-marks.result c.from_residual-in_err-marks.ensures.0 ok))
    (counted_of c.args.house.now.directory.now c.args.house.now.me c.args.self.now trade c.args.moment c.append.new.self.shelf.looks c.args.steps.now c.append.new.steps
    (IsOk c.append.result) c.requires c.a_house_is_a_trade.ensures.of (rw c.plain-entry.ensures at (c.append.ensures.looked trade c.a_house_is_a_trade.ensures.of)))

pub returns-clause-looked : goal.returns-clause-looked
returns-clause-looked g c =
    let trade = trade_of c.args.house.now.directory.now (g.S.Sealer.seals c.args.house.now.sealer.now) in
    counted_later _ c.args.self.now.shelf.looks c.append.new.self.shelf.looks c.args.steps.now c.append.new.steps (IsOk c.append.result) _ (λ ok. ap is_ok c.in_ok-marks.was)
    (counted_of c.args.house.now.directory.now c.args.house.now.me c.args.self.now trade c.args.moment c.append.new.self.shelf.looks c.args.steps.now c.append.new.steps
    (IsOk c.append.result) c.requires c.a_house_is_a_trade.ensures.of (rw c.plain-entry.ensures at (c.append.ensures.looked trade c.a_house_is_a_trade.ensures.of)))
