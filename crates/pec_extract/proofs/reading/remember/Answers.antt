-- The facts were read before, or are read now.
use Rattle.std.proofs.Common.{sym, ◌∙◌}
use Rattle.pec_provider.specs.OfTrades.{world_at}
use Rattle.pec_provider.specs.Telling.{facts_taken}
use Rattle.pec_extract.specs.Remembering.{facts_kept}
use Rattle.pec_extract.proofs.RememberLemmas.{known_before, none_before, so_some, told_before}
use Rattle.pec_extract.proofs.reading.remember.Goals as goal

pub returns-then-is_some-clause-known : goal.returns-then-is_some-clause-known
returns-then-is_some-clause-known g c = λ tells stands taken.
    known_before _ c.facts.result (facts_kept c.args.remembered.now c.args.id) c.facts.ensures
    (facts_taken (world_at c.args.house.now) c.args.house.now.me c.args.provider.now.chronicle.entries c.args.id)
    (sym c.is_some.ensures ∙ c.if-is_some.true) (taken c.args.id)

pub note-requires : goal.note-requires
note-requires g c = record {
  fresh = none_before _ c.facts.result (facts_kept c.args.remembered.now c.args.id) c.facts.ensures
      (sym c.is_some.ensures ∙ c.if-is_some.false);
}

pub returns-clause-known : goal.returns-clause-known
returns-clause-known g c = λ tells stands taken. c.in_ok-note.ensures.known ∙ c.in_ok-facts.ensures.told tells stands

pub returns-in_err-note-clause-taken : goal.returns-in_err-note-clause-taken
returns-in_err-note-clause-taken g c = λ tells stands taken.
    let trade = world_at c.args.house.now in
    let me = c.args.house.now.me in
    let journal = c.args.provider.now.chronicle.entries in
    c.in_err-note.ensures.taken trade me journal
    (so_some c.in_ok-facts.facts (facts_taken trade me journal c.args.id) (c.in_ok-facts.ensures.told tells stands)) taken

pub returns-clause-taken : goal.returns-clause-taken
returns-clause-taken g c = λ tells stands taken.
    let trade = world_at c.args.house.now in
    let me = c.args.house.now.me in
    let journal = c.args.provider.now.chronicle.entries in
    c.in_ok-note.ensures.taken trade me journal
    (so_some c.in_ok-facts.facts (facts_taken trade me journal c.args.id) (c.in_ok-facts.ensures.told tells stands)) taken

pub returns-then-is_some-clause-original : goal.returns-then-is_some-clause-original
returns-then-is_some-clause-original g c = λ tells stands taken.
    let trade = world_at c.args.house.now in
    let me = c.args.house.now.me in
    let journal = c.args.provider.now.chronicle.entries in
    let told = told_before _ c.facts.result (facts_kept c.args.remembered.now c.args.id) c.facts.ensures
    (sym c.is_some.ensures ∙ c.if-is_some.true) (facts_taken trade me journal c.args.id) (taken c.args.id) in
    c.facts_are_told_of_an_envelope.ensures.told trade me journal c.args.id told.0 told.1

pub returns-clause-original : goal.returns-clause-original
returns-clause-original g c = λ tells stands taken. c.in_ok-facts.ensures.original tells stands
