-- An item is archived by its entry, which is a step of a journal of version 2.
use Rattle.std.proofs.Common.{[], Global, Some, Vec, refl, subst, Err}
use Rattle.pec_types.specs.declared.mailboxes.Mark.{Mark}
use Rattle.pec_types.specs.declared.turns.ProviderFault.TheVariants as faults
use Rattle.pec_records.specs.declared.entries.Entry.{Entry}
use Rattle.pec_records.specs.declared.entries.Entry.TheVariants as entries
use Rattle.pec_plays.specs.Commands.{Archived, account_home, archived}
use Rattle.pec_reception.specs.OfTrades.{trade_of, world_at}
use Rattle.pec_provider.specs.Appending.{Appends}
use Rattle.pec_provider.specs.Provider.{desk_of}
use Rattle.pec_provider.proofs.FollowLemmas.{archived_follows, carries_entry, carries_still}
use Rattle.pec_provider.proofs.PlayLemmas.{archive_comes, entry_is, plays_done, plays_handed, plays_torn}
use Rattle.pec_provider.proofs.RunLemmas.{enters_by}
use Rattle.pec_provider.proofs.provider.Provider.archive.Goals as goal

pub returns-in_err-archives-clause-plays : goal.returns-in_err-archives-clause-plays
returns-in_err-archives-clause-plays g c = λ screens.
    let kept = c.args.house.now.directory.now in
    let me = c.args.house.now.me in
    let seals = g.S.Sealer.seals c.args.house.now.sealer.now in
    let trade = trade_of kept seals in
    let of = c.a_house_is_a_trade.ensures.of in
    let desk = desk_of c.args.self.now in
    plays_handed (λ (done : Unit {0}). Archived) (λ luck sites. archived trade luck sites
    (account_home trade c.args.account.now (Some me)) c.args.moment c.args.account.now c.args.place) trade me screens
    desk desk
    c.in_err-archives.field-0.0 c.from_residual.result c.from_residual.ensures.1
    (c.in_err-archives.ensures.archives screens) refl

pub returns-in_err-archives-clause-carries : goal.returns-in_err-archives-clause-carries
returns-in_err-archives-clause-carries g c = λ tells journals.
    carries_still g.D.Disk.sight (world_at c.args.house.now) journals
    c.args.house.now.me _ c.args.self.now c.self.view_is (c.stands_still.ensures tells)

pub returns-in_err-account-clause-plays : goal.returns-in_err-account-clause-plays
returns-in_err-account-clause-plays g c = λ screens.
    let kept = c.args.house.now.directory.now in
    let me = c.args.house.now.me in
    let seals = g.S.Sealer.seals c.args.house.now.sealer.now in
    let trade = trade_of kept seals in
    let of = c.a_house_is_a_trade.ensures.of in
    let desk = desk_of c.args.self.now in
    plays_handed (λ (done : Unit {0}). Archived) (λ luck sites. archived trade luck sites
    (account_home trade c.args.account.now (Some me)) c.args.moment c.args.account.now c.args.place) trade me screens
    desk desk
    faults.NoMemory c.from_residual-in_err-account.result c.from_residual-in_err-account.ensures.1 tt refl

pub returns-in_err-account-clause-carries : goal.returns-in_err-account-clause-carries
returns-in_err-account-clause-carries g c = λ tells journals.
    carries_still g.D.Disk.sight (world_at c.args.house.now) journals
    c.args.house.now.me _ c.args.self.now c.self.view_is (c.stands_still.ensures tells)

pub append-requires-clause-step : goal.append-requires-clause-step
append-requires-clause-step g c =
    let kept = c.args.house.now.directory.now in
    let me = c.args.house.now.me in
    let seals = g.S.Sealer.seals c.args.house.now.sealer.now in
    let trade = trade_of kept seals in
    let of = c.a_house_is_a_trade.ensures.of in
    let desk = desk_of c.args.self.now in
    let journal = c.args.self.now.chronicle.entries in
    let may = c.in_ok-archives.ensures.archives in
    rw (entry_is c.args.moment c.args.place _ _ _ c.plain-entry.ensures c.in_ok-account.ensures)
    (enters_by kept me journal (entries.Archived c.args.moment c.args.account.now c.args.place) trade (λ p. []) of
    (archived_follows trade (λ p. []) me c.args.moment journal may.works.in_time
    c.archives.ensures.in_range c.args.account.now c.args.place may.version may.account_is may.item))

pub returns-in_err-append-clause-plays : goal.returns-in_err-append-clause-plays
returns-in_err-append-clause-plays g c = λ screens.
    let kept = c.args.house.now.directory.now in
    let me = c.args.house.now.me in
    let seals = g.S.Sealer.seals c.args.house.now.sealer.now in
    let trade = trade_of kept seals in
    let of = c.a_house_is_a_trade.ensures.of in
    let desk = desk_of c.args.self.now in
    let may = c.in_ok-archives.ensures.archives in
    plays_torn (λ (done : Unit {0}). Archived) (λ luck sites. archived trade luck sites
    (account_home trade c.args.account.now (Some me)) c.args.moment c.args.account.now c.args.place) trade me screens
    desk (desk_of c.append.new.self) (entries.Archived c.args.moment c.args.account.now c.args.place) Archived
    (Vec Mark Global) c.in_err-append.field-0.0
    c.from_residual-in_err-append.result
    c.from_residual-in_err-append.ensures.1
    (archive_comes (Unit {0}) trade me c.args.moment screens desk c.args.account.now c.args.place may)
    (subst
    (λ (e : Entry). Appends {X = Vec Mark Global} trade me e desk (desk_of c.append.new.self)
    (Err c.in_err-append.field-0.0)) (entry_is c.args.moment c.args.place _ _ _ c.plain-entry.ensures
    c.in_ok-account.ensures)
    (c.in_err-append.ensures.appends trade of))

pub returns-in_err-append-clause-carries : goal.returns-in_err-append-clause-carries
returns-in_err-append-clause-carries g c = λ tells journals.
    let kept = c.args.house.now.directory.now in
    let me = c.args.house.now.me in
    let seals = g.S.Sealer.seals c.args.house.now.sealer.now in
    let trade = trade_of kept seals in
    let of = c.a_house_is_a_trade.ensures.of in
    let desk = desk_of c.args.self.now in
    let journal = c.args.self.now.chronicle.entries in
    let may = c.in_ok-archives.ensures.archives in
    carries_entry g.D.Disk.sight trade journals me c.args.self.now.chronicle c.append.new.self.chronicle
    (entries.Archived c.args.moment c.args.account.now c.args.place)
    (archived_follows trade journals me c.args.moment journal may.works.in_time
    c.archives.ensures.in_range c.args.account.now c.args.place may.version may.account_is may.item)
    (rw (entry_is c.args.moment c.args.place _ _ _ c.plain-entry.ensures c.in_ok-account.ensures) at
    (c.append.ensures.carries tells))

pub returns-clause-plays : goal.returns-clause-plays
returns-clause-plays g c = λ screens.
    let kept = c.args.house.now.directory.now in
    let me = c.args.house.now.me in
    let seals = g.S.Sealer.seals c.args.house.now.sealer.now in
    let trade = trade_of kept seals in
    let of = c.a_house_is_a_trade.ensures.of in
    let desk = desk_of c.args.self.now in
    let may = c.in_ok-archives.ensures.archives in
    plays_done (λ (done : Unit {0}). Archived) (λ luck sites. archived trade luck sites
    (account_home trade c.args.account.now (Some me)) c.args.moment c.args.account.now c.args.place) trade me screens
    desk (desk_of c.append.new.self) (entries.Archived c.args.moment c.args.account.now c.args.place) Archived tt
    (archive_comes (Unit {0}) trade me c.args.moment screens desk c.args.account.now c.args.place may)
    (rw (entry_is c.args.moment c.args.place _ _ _ c.plain-entry.ensures c.in_ok-account.ensures) at
    (c.in_ok-append.ensures.appends trade of)) refl

pub returns-clause-carries : goal.returns-clause-carries
returns-clause-carries g c = λ tells journals.
    let kept = c.args.house.now.directory.now in
    let me = c.args.house.now.me in
    let seals = g.S.Sealer.seals c.args.house.now.sealer.now in
    let trade = trade_of kept seals in
    let of = c.a_house_is_a_trade.ensures.of in
    let desk = desk_of c.args.self.now in
    let journal = c.args.self.now.chronicle.entries in
    let may = c.in_ok-archives.ensures.archives in
    carries_entry g.D.Disk.sight trade journals me c.args.self.now.chronicle c.append.new.self.chronicle
    (entries.Archived c.args.moment c.args.account.now c.args.place)
    (archived_follows trade journals me c.args.moment journal may.works.in_time
    c.archives.ensures.in_range c.args.account.now c.args.place may.version may.account_is may.item)
    (rw (entry_is c.args.moment c.args.place _ _ _ c.plain-entry.ensures c.in_ok-account.ensures) at
    (c.append.ensures.carries tells))
