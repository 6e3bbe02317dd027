-- What is composed of the entry at the needed number is what the letter's frame is made of.
use Rattle.std.proofs.Common.{None, Option, Some, ap, refl, subst, sym, ◌∙◌}
use Rattle.pec_ledger.specs.Trade.{Framed}
use Rattle.pec_trade.specs.Houses.{world_at}
use Rattle.pec_outgoing.specs.Needs.{ComposedOf}
use Rattle.pec_outgoing.specs.Views.{asked_shown}
use Rattle.pec_outgoing.proofs.NeedsLemmas.{frame_so, framed_of, framing}
use Rattle.pec_outgoing.proofs.framing.framed.Goals as goal

pub returns-in_default-2-clause-frame : goal.returns-in_default-2-clause-frame
returns-in_default-2-clause-frame g c journal number is need at =
    let trade = world_at c.args.house.now
    in let made = c.in_ok-made.ensures.composed
    in frame_so trade c.args.shelf.now c.args.letter.now journal c.args.entry.now number (asked_shown c.in-Some.asked)
    made.original _ is need at (sym c.in-Some.ensures) made.holds
    (ap (framing trade c.args.shelf.now.me journal) (sym c.in_default-2.is ∙ made.is))

pub returns-clause-frame : goal.returns-clause-frame
returns-clause-frame g c journal number is need at =
    let trade = world_at c.args.house.now
    in let made = c.in_ok-made.ensures.composed
    in frame_so trade c.args.shelf.now c.args.letter.now journal c.args.entry.now number (asked_shown c.in-Some.asked)
    made.original _ is need at (sym c.in-Some.ensures) made.holds
    (c.in_ok-frame.ensures
    ∙ ap (framing trade c.args.shelf.now.me journal) (sym c.in-Some-2.is ∙ made.is))

pub returns-in_default-2-clause-of : goal.returns-in_default-2-clause-of
returns-in_default-2-clause-of g c =
    framed_of (world_at c.args.house.now) c.args.shelf.now.me c.args.shelf.now.half c.args.letter.now
    c.args.entry.now (asked_shown c.in-Some.asked) None None (sym c.in-Some.ensures)
    (subst (λ (made : Option Framed). ComposedOf (world_at c.args.house.now) c.args.shelf.now.me
    (asked_shown c.in-Some.asked) c.args.entry.now made) c.in_default-2.is c.in_ok-made.ensures.composed) refl

pub returns-clause-of : goal.returns-clause-of
returns-clause-of g c =
    framed_of (world_at c.args.house.now) c.args.shelf.now.me c.args.shelf.now.half c.args.letter.now
    c.args.entry.now (asked_shown c.in-Some.asked) (Some c.in-Some-2.made) c.in_ok-frame.frame (sym c.in-Some.ensures)
    (subst (λ (made : Option Framed). ComposedOf (world_at c.args.house.now) c.args.shelf.now.me
    (asked_shown c.in-Some.asked) c.args.entry.now made) c.in-Some-2.is c.in_ok-made.ensures.composed) c.in_ok-frame.ensures
