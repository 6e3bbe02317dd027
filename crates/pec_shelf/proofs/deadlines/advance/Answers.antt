use Rattle.std.proofs.Common.{ℕ, ◌+◌, ◌-◌, List, length, slice_get, sym, ap, ◌∙◌, arith}
use Rattle.std.proofs.lemmas.Option.{slice_get_within}
use Rattle.pec_shelf.proofs.LookLemmas.{rose_more}
use Rattle.pec_shelf.proofs.PassedLemmas.{is_behind, is_in_front}
use Rattle.pec_shelf.proofs.CursorLemmas.{all_in_front}
use Rattle.pec_shelf.proofs.deadlines.advance.Goals as goal

pub returns-then-seconds-limit-clause-place : goal.returns-then-seconds-limit-clause-place
returns-then-seconds-limit-clause-place c =
    let got = ap (λ (ms : List ℕ). slice_get ms c.loop-accepted.place) (sym c.loop-accepted.invariant.moments) ∙ sym c.look.ensures.moment ∙ c.in-Some.is in
    let behind = is_behind c.args.limit c.args.now 0 c.args.times.now.moments c.loop-accepted.place c.in-Some.accepted c.requires.rising got
    (omega (arith, c.if-seconds-limit.true, c.seconds.ensures.value, c.seconds-in-Some.ensures.value)) in
    omega (arith, behind, c.loop-accepted.invariant.place)

pub overflow_add-place : goal.overflow_add-place
overflow_add-place c =
    let within = slice_get_within c.loop-accepted.times.moments c.loop-accepted.place c.in-Some.accepted (sym c.look.ensures.moment ∙ c.in-Some.is) in
    omega (arith, within, ap length c.loop-accepted.invariant.moments, c.requires.few)

pub loop-accepted-smaller : goal.loop-accepted-smaller
loop-accepted-smaller c =
    let within = slice_get_within c.loop-accepted.times.moments c.loop-accepted.place c.in-Some.accepted (sym c.look.ensures.moment ∙ c.in-Some.is) in
    omega (arith, within, ap length c.loop-accepted.invariant.moments)

pub loop-accepted-preserved : goal.loop-accepted-preserved
loop-accepted-preserved c =
    let before = c.loop-accepted.invariant in
    let got = ap (λ (ms : List ℕ). slice_get ms c.loop-accepted.place) (sym before.moments) ∙ sym c.look.ensures.moment ∙ c.in-Some.is in
    let front = is_in_front c.args.limit c.args.now 0 c.args.times.now.moments c.loop-accepted.place c.in-Some.accepted c.requires.rising got
    (omega (arith, c.if-seconds-limit.false, c.seconds.ensures.value, c.seconds-in-Some.ensures.value)) in
    record {
      from = omega (arith, before.from);
      place = omega (arith, front);
      moments = c.look.ensures.moments ∙ before.moments;
      spare = c.look.ensures.spare ∙ before.spare;
      rose = rose_more (c.loop-accepted.place - c.args.from) ((c.loop-accepted.place + 1) - c.args.from) c.args.times.now.looks c.loop-accepted.times.looks c.look.new.self.looks
          c.args.steps.now c.loop-accepted.steps c.look.new.steps before.rose c.look.ensures.looks c.look.ensures.steps (omega (arith, before.from));
    }

pub returns-clause-place : goal.returns-clause-place
returns-clause-place c =
    let got = ap (λ (ms : List ℕ). slice_get ms c.loop-accepted.place) (sym c.loop-accepted.invariant.moments) ∙ sym c.look.ensures.moment ∙ c.in_default.is in
    omega (arith, all_in_front c.args.limit c.args.now c.args.times.now.moments c.loop-accepted.place got, c.loop-accepted.invariant.place)
