-- The first end that knows of a frame gives it; where one knows of none, nothing of it changes.
use Rattle.std.proofs.Common.{List, [], ◌∷◌, ap, sym, ◌∙◌}
use Rattle.pec_rows.proofs.RowLemmas.{take_keeps, without_one}
use Rattle.pec_rows.proofs.rows.+next_frame.Goals as goal
use Rattle.pec_rows.specs.Rows.{Known, known, knowns, waits}

pub returns-in-Some-clause-left : goal.returns-in-Some-clause-left
returns-in-Some-clause-left t c =
    rw (c.in_ok-ends.ensures.cases.0, c.in-Some.ensures.waiting)
    (sym (without_one c.in-Some.frame c.take.new.self.waiting (waits c.in_ok-ends.others.now)))

pub returns-in-Some-clause-kept : goal.returns-in-Some-clause-kept
returns-in-Some-clause-kept t c =
    rw c.in_ok-ends.ensures.cases.0
    (ap (λ (k : Known). k ∷ knowns c.in_ok-ends.others.now)
    (take_keeps c.in_ok-ends.first.now c.take.new.self (c.in-Some.frame ∷ []) c.in-Some.ensures.ring c.in-Some.ensures.taken c.in-Some.ensures.waiting))

pub returns-in-None-clause-kept : goal.returns-in-None-clause-kept
returns-in-None-clause-kept t c =
    rw c.in_ok-ends.ensures.cases.0
    (ap (λ (k : Known). k ∷ knowns c.next_frame.new.ends)
    (take_keeps c.in_ok-ends.first.now c.take.new.self [] c.in-None.ensures.ring c.in-None.ensures.taken c.in-None.ensures.waiting)
    ∙ ap (λ (l : List Known). known c.in_ok-ends.first.now ∷ l) c.next_frame.ensures.kept)
