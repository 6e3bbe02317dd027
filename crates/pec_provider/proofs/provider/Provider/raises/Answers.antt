-- A journal may be raised, or the command is refused for the first cause.
use Rattle.std.proofs.Common.{sym, ◌∙◌}
use Rattle.std.proofs.lemmas.Bool.{eqb-true}
use Rattle.pec_ledger.specs.Steps.{half}
use Rattle.pec_reception.specs.OfTrades.{trade_of}
use Rattle.pec_provider.specs.Provider.{desk_of}
use Rattle.pec_provider.proofs.PlayLemmas.{no_need, raises_handed}
use Rattle.pec_provider.proofs.provider.Provider.raises.Goals as goal

pub returns-in_err-at_work-clause-raises : goal.returns-in_err-at_work-clause-raises
returns-in_err-at_work-clause-raises g c =
    let kept = c.args.house.now.directory.now in
    let me = c.args.house.now.me in
    let seals = g.S.Sealer.seals c.args.house.now.sealer.now in
    let trade = trade_of kept seals in
    let of = c.a_house_is_a_trade.ensures.of in
    let desk = desk_of c.args.self.now in
    raises_handed trade me c.args.moment desk c.in_err-at_work.field-0.0 c.from_residual.result
    c.from_residual.ensures.1 (c.in_err-at_work.ensures.works kept seals me trade c.requires of)

pub returns-then-not-is_of_version-clause-raises : goal.returns-then-not-is_of_version-clause-raises
returns-then-not-is_of_version-clause-raises g c = λ screens.
    let kept = c.args.house.now.directory.now in
    let me = c.args.house.now.me in
    let seals = g.S.Sealer.seals c.args.house.now.sealer.now in
    let trade = trade_of kept seals in
    let of = c.a_house_is_a_trade.ensures.of in
    let desk = desk_of c.args.self.now in
    no_need (Unit {0}) trade me c.args.moment screens desk
    (c.in_ok-at_work.ensures.works kept seals me trade c.requires of)
    (sym (c.is_of_version.ensures kept seals me trade c.requires of) ∙ c.if-not-is_of_version.true)

pub returns-clause-raises : goal.returns-clause-raises
returns-clause-raises g c =
    let kept = c.args.house.now.directory.now in
    let me = c.args.house.now.me in
    let seals = g.S.Sealer.seals c.args.house.now.sealer.now in
    let trade = trade_of kept seals in
    let of = c.a_house_is_a_trade.ensures.of in
    let desk = desk_of c.args.self.now in
    record {
      works = c.in_ok-at_work.ensures.works kept seals me trade c.requires of;
      version = eqb-true (half trade me c.args.self.now.chronicle.entries).version 1
          (sym (c.is_of_version.ensures kept seals me trade c.requires of) ∙ c.if-not-is_of_version.false);
    }
