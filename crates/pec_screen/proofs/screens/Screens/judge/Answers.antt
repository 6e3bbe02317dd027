-- What the boxes found and did, each at its place, is said of all of them at once.
use Rattle.pec_screen.specs.Verdicts.{counted}
use Rattle.pec_screen.proofs.VerdictLemmas.{all_of_each, verdict_of_found}
use Rattle.pec_screen.proofs.screens.Screens.judge.Goals as goal

pub returns-clause-verdict : goal.returns-clause-verdict
returns-clause-verdict g c =
    verdict_of_found c.args.self.now.boxes.items c.as_mut_slice.result.now (λ b. (goal.Screen-dyn g (b.vtable, b.value)).patterns b.value)
    c.args.message.now c.judge_each.result c.as_mut_slice.ensures.value c.judge_each.ensures.some c.judge_each.ensures.none

pub returns-clause-patterns : goal.returns-clause-patterns
returns-clause-patterns g c =
    all_of_each c.args.self.now.boxes.items c.as_mut_slice.result.now c.judge_each.new.boxes c.args.self.now.boxes.len
    (λ b. (goal.Screen-dyn g (b.vtable, b.value)).patterns b.value)
    (λ b. (goal.Screen-dyn g (b.vtable, b.value)).patterns b.value)
    c.as_mut_slice.ensures.value c.args.self.now.boxes.ok.0 c.judge_each.ensures.length c.judge_each.ensures.patterns

pub returns-clause-seen : goal.returns-clause-seen
returns-clause-seen g c =
    all_of_each c.args.self.now.boxes.items c.as_mut_slice.result.now c.judge_each.new.boxes c.args.self.now.boxes.len
    (λ b. (goal.Screen-dyn g (b.vtable, b.value)).seen b.value)
    (λ b. counted ((goal.Screen-dyn g (b.vtable, b.value)).seen b.value))
    c.as_mut_slice.ensures.value c.args.self.now.boxes.ok.0 c.judge_each.ensures.length c.judge_each.ensures.seen
