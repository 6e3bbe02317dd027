-- What is made of each count is made of all of them.
use Rattle.std.proofs.Common.{◌∙◌, sym}
use Rattle.pec_screen.specs.Verdicts.{counted}
use Rattle.pec_screen.proofs.VerdictLemmas.{map_twice}
use Rattle.pec_screen.proofs.judging.ScreensJudge.judge.Goals as goal

pub returns-clause-seen : goal.returns-clause-seen
returns-clause-seen g c = c.judge.ensures.seen ∙ sym (map_twice counted (λ b. (goal.Screen-dyn g (b.vtable, b.value)).seen b.value) c.args.self.now.boxes.items)
