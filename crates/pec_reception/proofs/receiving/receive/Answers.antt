-- What stands in the frame is what the trade's reader finds there.
use Rattle.std.proofs.Common.{◌∙◌, ap, refl, sym}
use Rattle.std.specs.Prelude.{option_map}
use Rattle.pec_trade.specs.Houses.{world_at}
use Rattle.pec_reception.proofs.SightLemmas.{shows_letter, shows_nothing, shows_other}
use Rattle.pec_reception.specs.Views.{framed_shown}
use Rattle.pec_reception.proofs.receiving.receive.Goals as goal

pub returns-in_default-clause-exact : goal.returns-in_default-clause-exact
returns-in_default-clause-exact g c = λ journal. λ is.
    shows_nothing (world_at c.args.house.now) c.args.shelf.now.me
    c.args.moment journal
    c.args.frame.now c.passes.result _ (sym (ap (option_map framed_shown) c.in_default.is)
    ∙ c.in_ok-framed.ensures.framed) c.passes.ensures (refl, refl, refl)

pub returns-in-Some-2-clause-exact : goal.returns-in-Some-2-clause-exact
returns-in-Some-2-clause-exact g c = λ journal. λ is.
    shows_letter (world_at c.args.house.now) c.args.shelf.now.me c.args.moment
    journal
    c.args.frame.now (framed_shown c.in-Some.framed) c.in_ok-received.field-0 c.in-Some-2.received
    (sym (ap (option_map framed_shown) c.in-Some.is) ∙ c.in_ok-framed.ensures.framed)
    (c.in_ok-received.ensures.exact journal is) c.in-Some-2.is

pub returns-clause-exact : goal.returns-clause-exact
returns-clause-exact g c = λ journal. λ is.
    let seals = g.S.Sealer.seals c.args.house.now.sealer.now
    in shows_other (world_at c.args.house.now) c.args.shelf.now.me c.args.moment journal
    c.args.frame.now (framed_shown c.in-Some.framed) c.in_ok-received.field-0 c.in_ok-received-2.received
    (sym (ap (option_map framed_shown) c.in-Some.is) ∙ c.in_ok-framed.ensures.framed)
    (c.in_ok-received.ensures.exact journal is) c.in_default-2.is (c.in_ok-received-2.ensures.exact seals journal is)
