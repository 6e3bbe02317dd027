-- One frame more has gone round.
use Rattle.std.proofs.Common.{◌≡◌, ℕ, ◌<◌, List, [], ◌∷◌, ◌++◌, length, take, drop, ap, sym, ◌∙◌, arith, append_assoc}
use Rattle.pec_types.specs.Bytes.{Bytes}
use Rattle.pec_link.proofs.Turns.{first_is, first_with, one_turned, rest_is}
use Rattle.pec_link.proofs.turning.turn.Goals as goal

pub loop-preserved : goal.loop-preserved
loop-preserved c =
    let frames : List Bytes = c.args.taker.now.waiting in
    let place : ℕ = c.loop.counter in
    let frame : Bytes = c.take_first-frame.result in
    let rest : List Bytes = c.take_first-frame.new.taker.waiting in
    let begun : List Bytes = c.args.taker.now.taken in
    let within : place < length frames = omega (arith, c.loop-test.true, c.requires.count) in
    let is : drop place frames ++ take place frames ≡ frame ∷ rest = sym c.loop.invariant.waiting ∙ c.take_first-frame.ensures.waiting in
    let first = first_is frames place frame rest within is in
    record {
      settled = c.put_last.ensures.settled;
      ring = c.put_last.ensures.ring ∙ c.take_first-frame.ensures.ring ∙ c.loop.invariant.ring;
      waiting = c.put_last.ensures.waiting ∙ ap (λ (l : List Bytes). l ++ frame ∷ []) (rest_is frames place frame rest within is)
          ∙ one_turned frames place frame within first;
      taken = c.put_last.ensures.taken ∙ c.take_first-frame.ensures.taken
          ∙ ap (λ (l : List Bytes). l ++ frame ∷ []) c.loop.invariant.taken
          ∙ append_assoc begun (take place frames) (frame ∷ [])
          ∙ ap (λ (l : List Bytes). begun ++ l) (sym (first_with frames place frame within first));
    }

pub returns : goal.returns
returns c =
    let frames : List Bytes = c.args.taker.now.waiting in
    let all : c.loop.counter ≡ c.args.count = omega (arith, c.loop-test.false, c.loop.auto.counter-end) in
    record {
      settled = c.loop.invariant.settled;
      ring = c.loop.invariant.ring;
      waiting = c.loop.invariant.waiting ∙ ap (λ (n : ℕ). drop n frames ++ take n frames) all;
      taken = c.loop.invariant.taken ∙ ap (λ (n : ℕ). c.args.taker.now.taken ++ take n frames) all;
    }
