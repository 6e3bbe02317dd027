-- Each part is put in its turn, and what was put with what is left stays the whole.
use Rattle.std.proofs.Common.{◌≡◌, ◌≤◌, ◌<◌, ◌+◌, ◌++◌, length, drop, ap, ◌∙◌, arith}
use Rattle.std.proofs.lemmas.List.{take_rest}
use Rattle.pec_brief.proofs.ShorteningLemmas.{all_put, begins_behind, ends_within, grown, next_underway, part_there, seen_part}
use Rattle.pec_brief.specs.BriefReading.{within_limit}
use Rattle.pec_brief.specs.declared.TheConstants.{BRIEF_LIMIT}
use Rattle.pec_brief.proofs.shortening.shorten.Goals as goal

pub put_gap-requires-clause-order : goal.put_gap-requires-clause-order
put_gap-requires-clause-order c =
    begins_behind c.args.original.now c.args.place c.args.parts.now c.loop-i.i c.loop-i.past c.loop-i.out.items c.loop-i.invariant
    (seen_part c.in-Some-Some.part.start c.in-Some-Some.part.whole.now c.in-Some-Some.head.now c.in-Some-Some.part.body.now)
    (part_there c.loop-i.i c.args.parts.now c.in-Some-Some.part.start c.in-Some-Some.part.whole.now c.in-Some-Some.head.now c.in-Some-Some.part.body.now
    c.in-Some-Some.ensures'.start c.in-Some-Some.ensures'.whole c.in-Some-Some.ensures c.in-Some-Some.ensures'.body)

pub put_gap-requires-clause-within : goal.put_gap-requires-clause-within
put_gap-requires-clause-within c =
    let ends : c.in-Some-Some.part.start + length c.in-Some-Some.part.whole.now ≤ length (drop c.args.place c.args.original.now) =
    ends_within c.args.original.now c.args.place c.args.parts.now c.loop-i.i c.loop-i.past c.loop-i.out.items c.loop-i.invariant
    (seen_part c.in-Some-Some.part.start c.in-Some-Some.part.whole.now c.in-Some-Some.head.now c.in-Some-Some.part.body.now)
    (part_there c.loop-i.i c.args.parts.now c.in-Some-Some.part.start c.in-Some-Some.part.whole.now c.in-Some-Some.head.now c.in-Some-Some.part.body.now
    c.in-Some-Some.ensures'.start c.in-Some-Some.ensures'.whole c.in-Some-Some.ensures c.in-Some-Some.ensures'.body)
    in rw take_rest (omega arith)

pub behind-past-requires : goal.behind-past-requires
behind-past-requires c =
    rw take_rest (ends_within c.args.original.now c.args.place c.args.parts.now c.loop-i.i c.loop-i.past c.loop-i.out.items c.loop-i.invariant
    (seen_part c.in-Some-Some.part.start c.in-Some-Some.part.whole.now c.in-Some-Some.head.now c.in-Some-Some.part.body.now)
    (part_there c.loop-i.i c.args.parts.now c.in-Some-Some.part.start c.in-Some-Some.part.whole.now c.in-Some-Some.head.now c.in-Some-Some.part.body.now
    c.in-Some-Some.ensures'.start c.in-Some-Some.ensures'.whole c.in-Some-Some.ensures c.in-Some-Some.ensures'.body))

pub loop-i-preserved : goal.loop-i-preserved
loop-i-preserved c =
    rw c.behind-past.ensures (next_underway c.args.original.now c.args.place c.args.parts.now c.loop-i.i c.loop-i.past c.loop-i.out.items c.loop-i.invariant
    (seen_part c.in-Some-Some.part.start c.in-Some-Some.part.whole.now c.in-Some-Some.head.now c.in-Some-Some.part.body.now)
    (part_there c.loop-i.i c.args.parts.now c.in-Some-Some.part.start c.in-Some-Some.part.whole.now c.in-Some-Some.head.now c.in-Some-Some.part.body.now
    c.in-Some-Some.ensures'.start c.in-Some-Some.ensures'.whole c.in-Some-Some.ensures c.in-Some-Some.ensures'.body)
    c.put_gap.new.out.items c.put_part.new.out.items (rw take_rest at c.in_ok-put_gap.ensures) c.in_ok-put_part.ensures)

pub returns-then-len-gt-BRIEF_LIMIT : goal.returns-then-len-gt-BRIEF_LIMIT
returns-then-len-gt-BRIEF_LIMIT c =
    let long : BRIEF_LIMIT < length c.put_part.new.out.items = omega (arith, c.len.ensures, c.if-len-gt-BRIEF_LIMIT.true)
    in grown c.args.original.now c.args.place c.args.parts.now (c.loop-i.i + 1) (c.in-Some-Some.part.start + length c.in-Some-Some.part.whole.now)
    c.put_part.new.out.items
    (next_underway c.args.original.now c.args.place c.args.parts.now c.loop-i.i c.loop-i.past c.loop-i.out.items c.loop-i.invariant
    (seen_part c.in-Some-Some.part.start c.in-Some-Some.part.whole.now c.in-Some-Some.head.now c.in-Some-Some.part.body.now)
    (part_there c.loop-i.i c.args.parts.now c.in-Some-Some.part.start c.in-Some-Some.part.whole.now c.in-Some-Some.head.now c.in-Some-Some.part.body.now
    c.in-Some-Some.ensures'.start c.in-Some-Some.ensures'.whole c.in-Some-Some.ensures c.in-Some-Some.ensures'.body)
    c.put_gap.new.out.items c.put_part.new.out.items (rw take_rest at c.in_ok-put_gap.ensures) c.in_ok-put_part.ensures)
    long

pub returns : goal.returns
returns c =
    let all : length c.args.parts.now ≤ c.loop-i.i = omega (arith, c.count-i-end.ensures, c.loop-i-test.false)
    in let put : c.put_gap-2.new.out.items ≡ c.loop-i.out.items ++ drop c.loop-i.past (drop c.args.place c.args.original.now) =
    rw (take_rest, take_rest) at c.in_ok-put_gap-2.ensures
    in c.within_limit.ensures ∙ ap within_limit (put ∙ all_put c.args.original.now c.args.place c.args.parts.now c.loop-i.i c.loop-i.past c.loop-i.out.items c.loop-i.invariant all)
