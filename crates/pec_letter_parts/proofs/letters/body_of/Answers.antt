-- The part at hand is the first of the name, or the first is behind it.
use Rattle.std.proofs.Common.{sym, ◌∙◌}
use Rattle.pec_letter_parts.proofs.LetterLemmas.{part_behind, part_found}
use Rattle.pec_letter_parts.proofs.letters.body_of.Goals as goal

pub returns-then-has_name : goal.returns-then-has_name
returns-then-has_name c =
    part_found c.args.name.now c.args.parts.now c.loop-i.i c.in-Some-Some.head.now c.in-Some-Some.part.body.now c.loop-i.invariant c.in-Some-Some.ensures c.in-Some-Some.ensures'.body
    (sym c.has_name.ensures ∙ c.if-has_name.true)

pub loop-i-preserved : goal.loop-i-preserved
loop-i-preserved c =
    part_behind c.args.name.now c.args.parts.now c.loop-i.i c.in-Some-Some.head.now c.loop-i.invariant c.in-Some-Some.ensures (sym c.has_name.ensures ∙ c.if-has_name.false)
