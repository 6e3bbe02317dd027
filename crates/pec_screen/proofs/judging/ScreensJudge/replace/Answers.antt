-- What each box has at a place is what the new one has.
use Rattle.std.proofs.Common.{◌∙◌, ap, map}
use Rattle.std.proofs.lemmas.List.{map-set}
use Rattle.std.proofs.lemmas.Result.{on_ok_weaker}
use Rattle.pec_screen.proofs.judging.ScreensJudge.replace.Goals as goal

pub returns-clause-patterns : goal.returns-clause-patterns
returns-clause-patterns g c =
    on_ok_weaker c.replace.result
    (λ put. ap (λ boxes. map (λ b. (goal.Screen-dyn g (b.vtable, b.value)).patterns b.value) boxes) put
    ∙ map-set (λ b. (goal.Screen-dyn g (b.vtable, b.value)).patterns b.value) c.args.self.now.boxes.items c.args.place c.args.spare)
    c.replace.ensures.put

pub returns-clause-seen : goal.returns-clause-seen
returns-clause-seen g c =
    on_ok_weaker c.replace.result
    (λ put. ap (λ boxes. map (λ b. (goal.Screen-dyn g (b.vtable, b.value)).seen b.value) boxes) put
    ∙ map-set (λ b. (goal.Screen-dyn g (b.vtable, b.value)).seen b.value) c.args.self.now.boxes.items c.args.place c.args.spare)
    c.replace.ensures.put
