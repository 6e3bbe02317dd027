-- The facts of the original in the envelope that stands at a row's number are those of the original that was taken.
use Rattle.std.proofs.Common.{◌∙◌, ap, Option}
use Rattle.std.specs.Option.{option_and_then}
use Rattle.pec_types.specs.Bytes.{Bytes}
use Rattle.pec_trade.specs.Houses.{world_at}
use Rattle.pec_outgoing.proofs.NeedsLemmas.{taken_so}
use Rattle.pec_outgoing.proofs.originals.facts_of.Goals as goal

pub returns-clause-holds : goal.returns-clause-holds
returns-clause-holds g c =
    let trade = world_at c.args.house.now in
    ap (λ (found : Option Bytes). option_and_then trade.facts found) c.in_ok-found.ensures.holds
    ∙ c.in_ok-found.ensures.facts

pub returns-clause-taken : goal.returns-clause-taken
returns-clause-taken g c me journal row at =
    let trade = world_at c.args.house.now in
    ap (λ (found : Option Bytes). option_and_then trade.facts found)
    (taken_so trade me journal c.args.entry.now c.args.id row c.in_ok-found.found.bytes.now at
    c.in_ok-found.ensures.holds)
    ∙ c.in_ok-found.ensures.facts
