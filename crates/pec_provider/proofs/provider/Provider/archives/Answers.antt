-- An item may be archived, or the command is refused for the first cause.
use Rattle.std.proofs.Common.{sym, ◌∙◌}
use Rattle.std.specs.Prelude.{length}
use Rattle.std.proofs.lemmas.Bool.{eqb-true}
use Rattle.pec_ledger.specs.Lookups.{mailbox}
use Rattle.pec_ledger.specs.Steps.{half}
use Rattle.pec_reception.specs.OfTrades.{trade_of}
use Rattle.pec_provider.specs.Provider.{desk_of}
use Rattle.pec_provider.proofs.PlayLemmas.{archive_no_account, archives_handed, is_within, no_item, old_journal}
use Rattle.pec_provider.proofs.provider.Provider.archives.Goals as goal

pub returns-then-not-is_account_of-clause-archives : goal.returns-then-not-is_account_of-clause-archives
returns-then-not-is_account_of-clause-archives g c = λ screens.
    let kept = c.args.house.now.directory.now in
    let me = c.args.house.now.me in
    let seals = g.S.Sealer.seals c.args.house.now.sealer.now in
    let trade = trade_of kept seals in
    let of = c.a_house_is_a_trade.ensures.of in
    let desk = desk_of c.args.self.now in
    archive_no_account (Unit {0}) trade me c.args.moment screens desk c.args.account.now c.args.place
    (sym c.is_account_of.ensures.value ∙ c.if-not-is_account_of.true)

pub returns-in_err-at_work-clause-archives : goal.returns-in_err-at_work-clause-archives
returns-in_err-at_work-clause-archives g c =
    let kept = c.args.house.now.directory.now in
    let me = c.args.house.now.me in
    let seals = g.S.Sealer.seals c.args.house.now.sealer.now in
    let trade = trade_of kept seals in
    let of = c.a_house_is_a_trade.ensures.of in
    let desk = desk_of c.args.self.now in
    archives_handed trade me c.args.moment c.args.account.now c.args.place desk c.in_err-at_work.field-0.0
    c.from_residual.result c.from_residual.ensures.1
    (sym c.is_account_of.ensures.value ∙ c.if-not-is_account_of.false)
    (c.in_err-at_work.ensures.works kept seals me trade c.requires of)

pub returns-then-not-has_item-clause-archives : goal.returns-then-not-has_item-clause-archives
returns-then-not-has_item-clause-archives g c = λ screens.
    let kept = c.args.house.now.directory.now in
    let me = c.args.house.now.me in
    let seals = g.S.Sealer.seals c.args.house.now.sealer.now in
    let trade = trade_of kept seals in
    let of = c.a_house_is_a_trade.ensures.of in
    let desk = desk_of c.args.self.now in
    no_item (Unit {0}) trade me c.args.moment screens desk c.args.account.now c.args.place
    (sym c.is_account_of.ensures.value ∙ c.if-not-is_account_of.false)
    (c.in_ok-at_work.ensures.works kept seals me trade c.requires of)
    (sym (c.has_item.ensures kept seals me trade c.requires of) ∙ c.if-not-has_item.true)

pub returns-then-not-is_of_version-clause-archives : goal.returns-then-not-is_of_version-clause-archives
returns-then-not-is_of_version-clause-archives g c = λ screens.
    let kept = c.args.house.now.directory.now in
    let me = c.args.house.now.me in
    let seals = g.S.Sealer.seals c.args.house.now.sealer.now in
    let trade = trade_of kept seals in
    let of = c.a_house_is_a_trade.ensures.of in
    let desk = desk_of c.args.self.now in
    old_journal (Unit {0}) trade me c.args.moment screens desk c.args.account.now c.args.place
    (sym c.is_account_of.ensures.value ∙ c.if-not-is_account_of.false)
    (c.in_ok-at_work.ensures.works kept seals me trade c.requires of)
    (sym (c.has_item.ensures kept seals me trade c.requires of) ∙ c.if-not-has_item.false)
    (sym (c.is_of_version.ensures kept seals me trade c.requires of) ∙ c.if-not-is_of_version.true)

pub returns-clause-archives : goal.returns-clause-archives
returns-clause-archives g c =
    let kept = c.args.house.now.directory.now in
    let me = c.args.house.now.me in
    let seals = g.S.Sealer.seals c.args.house.now.sealer.now in
    let trade = trade_of kept seals in
    let of = c.a_house_is_a_trade.ensures.of in
    let desk = desk_of c.args.self.now in
    let journal = c.args.self.now.chronicle.entries in
    record {
      account_is = sym c.is_account_of.ensures.value ∙ c.if-not-is_account_of.false;
      works = c.in_ok-at_work.ensures.works kept seals me trade c.requires of;
      item = is_within c.args.place (length (mailbox (half trade me journal) c.args.account.now))
          (sym (c.has_item.ensures kept seals me trade c.requires of) ∙ c.if-not-has_item.false);
      version = eqb-true (half trade me journal).version 2
          (sym (c.is_of_version.ensures kept seals me trade c.requires of) ∙ c.if-not-is_of_version.false);
    }
