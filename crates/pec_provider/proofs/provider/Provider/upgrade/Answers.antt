-- A journal is raised by its entry, which is a step of a journal of version 1.
use Rattle.std.proofs.Common.{[], Global, Vec, refl, subst, Err}
use Rattle.pec_types.specs.declared.mailboxes.Mark.{Mark}
use Rattle.pec_records.specs.declared.entries.Entry.{Entry}
use Rattle.pec_records.specs.declared.entries.Entry.TheVariants as entries
use Rattle.pec_plays.specs.Commands.{Upgrade, Upgraded, played}
use Rattle.pec_reception.specs.OfTrades.{trade_of, world_at}
use Rattle.pec_provider.specs.Appending.{Appends}
use Rattle.pec_provider.specs.Provider.{desk_of}
use Rattle.pec_provider.proofs.FollowLemmas.{carries_entry, carries_still, upgraded_follows}
use Rattle.pec_provider.proofs.PlayLemmas.{plays_done, plays_handed, plays_torn, upgrade_comes}
use Rattle.pec_provider.proofs.RunLemmas.{enters_by}
use Rattle.pec_provider.proofs.provider.Provider.upgrade.Goals as goal

pub returns-in_err-raises-clause-plays : goal.returns-in_err-raises-clause-plays
returns-in_err-raises-clause-plays g c = λ screens.
    let kept = c.args.house.now.directory.now in
    let me = c.args.house.now.me in
    let seals = g.S.Sealer.seals c.args.house.now.sealer.now in
    let trade = trade_of kept seals in
    let of = c.a_house_is_a_trade.ensures.of in
    let desk = desk_of c.args.self.now in
    plays_handed (λ (done : Unit {0}). Upgraded) (λ luck sites. played trade luck sites (Upgrade me c.args.moment))
    trade me screens desk desk
    c.in_err-raises.field-0.0 c.from_residual.result c.from_residual.ensures.1
    (c.in_err-raises.ensures.raises screens) refl

pub returns-in_err-raises-clause-carries : goal.returns-in_err-raises-clause-carries
returns-in_err-raises-clause-carries g c = λ tells journals.
    carries_still g.D.Disk.sight (world_at c.args.house.now) journals
    c.args.house.now.me _ c.args.self.now c.self.view_is (c.stands_still.ensures tells)

pub append-requires-clause-step : goal.append-requires-clause-step
append-requires-clause-step g c =
    let kept = c.args.house.now.directory.now in
    let me = c.args.house.now.me in
    let seals = g.S.Sealer.seals c.args.house.now.sealer.now in
    let trade = trade_of kept seals in
    let of = c.a_house_is_a_trade.ensures.of in
    let desk = desk_of c.args.self.now in
    let journal = c.args.self.now.chronicle.entries in
    let may = c.in_ok-raises.ensures.raises in
    rw c.plain-entry.ensures (enters_by kept me journal (entries.Upgraded c.args.moment) trade (λ p. []) of
    (upgraded_follows trade (λ p. []) me c.args.moment journal may.works.in_time
    c.raises.ensures.in_range may.version))

pub returns-in_err-append-clause-plays : goal.returns-in_err-append-clause-plays
returns-in_err-append-clause-plays g c = λ screens.
    let kept = c.args.house.now.directory.now in
    let me = c.args.house.now.me in
    let seals = g.S.Sealer.seals c.args.house.now.sealer.now in
    let trade = trade_of kept seals in
    let of = c.a_house_is_a_trade.ensures.of in
    let desk = desk_of c.args.self.now in
    let may = c.in_ok-raises.ensures.raises in
    plays_torn (λ (done : Unit {0}). Upgraded) (λ luck sites. played trade luck sites (Upgrade me c.args.moment)) trade
    me screens desk
    (desk_of c.append.new.self) (entries.Upgraded c.args.moment) Upgraded (Vec Mark Global) c.in_err-append.field-0.0
    c.from_residual-in_err-append.result
    c.from_residual-in_err-append.ensures.1
    (upgrade_comes (Unit {0}) trade me c.args.moment screens desk may.works may.version)
    (subst
    (λ (e : Entry). Appends {X = Vec Mark Global} trade me e desk (desk_of c.append.new.self)
    (Err c.in_err-append.field-0.0)) c.plain-entry.ensures (c.in_err-append.ensures.appends trade of))

pub returns-in_err-append-clause-carries : goal.returns-in_err-append-clause-carries
returns-in_err-append-clause-carries g c = λ tells journals.
    let kept = c.args.house.now.directory.now in
    let me = c.args.house.now.me in
    let seals = g.S.Sealer.seals c.args.house.now.sealer.now in
    let trade = trade_of kept seals in
    let of = c.a_house_is_a_trade.ensures.of in
    let desk = desk_of c.args.self.now in
    let journal = c.args.self.now.chronicle.entries in
    let may = c.in_ok-raises.ensures.raises in
    carries_entry g.D.Disk.sight trade journals me c.args.self.now.chronicle c.append.new.self.chronicle
    (entries.Upgraded c.args.moment)
    (upgraded_follows trade journals me c.args.moment journal may.works.in_time
    c.raises.ensures.in_range may.version)
    (rw c.plain-entry.ensures at (c.append.ensures.carries tells))

pub returns-clause-plays : goal.returns-clause-plays
returns-clause-plays g c = λ screens.
    let kept = c.args.house.now.directory.now in
    let me = c.args.house.now.me in
    let seals = g.S.Sealer.seals c.args.house.now.sealer.now in
    let trade = trade_of kept seals in
    let of = c.a_house_is_a_trade.ensures.of in
    let desk = desk_of c.args.self.now in
    let may = c.in_ok-raises.ensures.raises in
    plays_done (λ (done : Unit {0}). Upgraded) (λ luck sites. played trade luck sites (Upgrade me c.args.moment)) trade
    me screens desk
    (desk_of c.append.new.self) (entries.Upgraded c.args.moment) Upgraded tt
    (upgrade_comes (Unit {0}) trade me c.args.moment screens desk may.works may.version)
    (rw c.plain-entry.ensures at (c.in_ok-append.ensures.appends trade of)) refl

pub returns-clause-carries : goal.returns-clause-carries
returns-clause-carries g c = λ tells journals.
    let kept = c.args.house.now.directory.now in
    let me = c.args.house.now.me in
    let seals = g.S.Sealer.seals c.args.house.now.sealer.now in
    let trade = trade_of kept seals in
    let of = c.a_house_is_a_trade.ensures.of in
    let desk = desk_of c.args.self.now in
    let journal = c.args.self.now.chronicle.entries in
    let may = c.in_ok-raises.ensures.raises in
    carries_entry g.D.Disk.sight trade journals me c.args.self.now.chronicle c.append.new.self.chronicle
    (entries.Upgraded c.args.moment)
    (upgraded_follows trade journals me c.args.moment journal may.works.in_time
    c.raises.ensures.in_range may.version)
    (rw c.plain-entry.ensures at (c.append.ensures.carries tells))
