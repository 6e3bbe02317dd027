use Rattle.std.proofs.Common.{◌≡◌, ◌+◌, ◌-◌, length, refl, ap, subst, ◌∙◌, arith}
use Rattle.pec_types.specs.Looks.{Rose}
use Rattle.pec_types.specs.Passed.{passed, passing}
use Rattle.pec_types.specs.declared.limits.TheConstants.{WARNING_AFTER, NOTICE_AFTER}
use Rattle.pec_shelf.proofs.LookLemmas.{rose_joined}
use Rattle.pec_shelf.proofs.PassedLemmas.{passed_grows}
use Rattle.pec_shelf.specs.Deadlines.{Watch}
use Rattle.pec_shelf.proofs.CursorLemmas.{looks_of_both, same_watch}
use Rattle.pec_shelf.proofs.deadlines.Deadlines.pass.Goals as goal

pub advance-noticed-requires-clause-from : goal.advance-noticed-requires-clause-from
advance-noticed-requires-clause-from c =
    let noticed = ap (λ (w : Watch). w.noticed) c.self.view_is in
    let same = ap (λ (w : Watch). passed NOTICE_AFTER c.args.now w.moments) c.self.view_is in
    omega (arith, noticed, c.requires.noticed, same, passed_grows NOTICE_AFTER c.args.self.now.ticked c.args.now c.args.self.now.moments c.requires.in_time)

pub advance-warned-requires-clause-from : goal.advance-warned-requires-clause-from
advance-warned-requires-clause-from c =
    let warned = ap (λ (w : Watch). w.warned) c.self.view_is in
    let same = ap (passed WARNING_AFTER c.args.now) c.advance-noticed.ensures.moments ∙ ap (λ (w : Watch). passed WARNING_AFTER c.args.now w.moments) c.self.view_is in
    omega (arith, warned, c.requires.warned, same, passed_grows WARNING_AFTER c.args.self.now.ticked c.args.now c.args.self.now.moments c.requires.in_time)

pub returns : goal.returns
returns c =
    let moments = ap (λ (w : Watch). w.moments) c.self.view_is in
    let warned = ap (λ (w : Watch). w.warned) c.self.view_is in
    let noticed = ap (λ (w : Watch). w.noticed) c.self.view_is in
    let first : c.advance-warned.result ≡ passed WARNING_AFTER c.args.now c.args.self.now.moments =
    c.advance-warned.ensures.place ∙ ap (passed WARNING_AFTER c.args.now) (c.advance-noticed.ensures.moments ∙ moments) in
    let second : c.advance-noticed.result ≡ passed NOTICE_AFTER c.args.now c.args.self.now.moments =
    c.advance-noticed.ensures.place ∙ ap (passed NOTICE_AFTER c.args.now) moments in
    record {
      clock = rw (first, second) refl;
      same = same_watch c.advance-warned.new.times.moments c.args.self.now.moments c.advance-warned.new.times.looks c.self.inside.spots.items c.args.self.now.spots
          c.self.inside.room c.args.self.now.room c.self.inside.warned c.args.self.now.warned c.self.inside.noticed c.args.self.now.noticed
          c.self.inside.ticked c.args.self.now.ticked
          (c.advance-warned.ensures.moments ∙ c.advance-noticed.ensures.moments ∙ moments) (ap (λ (w : Watch). w.spots) c.self.view_is)
          (ap (λ (w : Watch). w.room) c.self.view_is) warned noticed (ap (λ (w : Watch). w.ticked) c.self.view_is);
      rose = rose_joined (c.advance-noticed.result - c.self.inside.noticed + 1) (c.advance-warned.result - c.self.inside.warned + 1)
          (passing c.args.self.now.ticked c.args.now c.args.self.now.moments + 2) c.args.self.now.looks c.advance-noticed.new.times.looks c.advance-warned.new.times.looks
          c.args.steps.now c.advance-noticed.new.steps c.advance-warned.new.steps
          (subst (λ (w : Watch). Rose (c.advance-noticed.result - c.self.inside.noticed + 1) w.looks c.advance-noticed.new.times.looks c.args.steps.now c.advance-noticed.new.steps)
          c.self.view_is c.advance-noticed.ensures.rose)
          c.advance-warned.ensures.rose
          (looks_of_both c.args.self.now.ticked c.args.now c.args.self.now.moments c.self.inside.warned c.self.inside.noticed c.advance-warned.result c.advance-noticed.result
          c.requires.in_time (warned ∙ c.requires.warned) (noticed ∙ c.requires.noticed) first second);
      few = omega (arith, c.length.ensures.value, c.length.ensures.few, ap length moments);
    }
