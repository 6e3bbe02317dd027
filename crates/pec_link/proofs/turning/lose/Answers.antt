-- The frame at the place is taken, and those behind it go round.
use Rattle.std.proofs.Common.{◌≡◌, ℕ, ◌+◌, ◌-◌, ◌<◌, List, ◌++◌, length, take, drop, ap, subst, ◌∙◌, arith}
use Rattle.std.specs.List.{remove}
use Rattle.pec_types.specs.Bytes.{Bytes}
use Rattle.pec_link.proofs.Turns.{all_taken, lost_is}
use Rattle.pec_link.proofs.turning.lose.Goals as goal

pub returns-clause-lost : goal.returns-clause-lost
returns-clause-lost c =
    let frames : List Bytes = c.waiting-count.new.taker.waiting in
    let place : ℕ = c.args.place in
    let count : ℕ = c.waiting-count.result - place - 1 in
    let within : place < length frames = omega (arith, c.if-place-count.false, c.waiting-count.ensures.count) in
    let number : count ≡ length frames - place - 1 = ap (λ (n : ℕ). n - place - 1) c.waiting-count.ensures.count in
    let is : c.turn.new.taker.waiting ≡ remove frames place =
    c.turn.ensures.waiting ∙ ap (λ (l : List Bytes). drop count l ++ take count l) c.take_at.ensures.waiting
    ∙ (lost_is frames place c.take_at.result within c.take_at.ensures.frame count number).0 in (
      subst (λ (l : List Bytes). place < length l) c.waiting-count.ensures.frames within,
      is ∙ ap (λ (l : List Bytes). remove l place) c.waiting-count.ensures.frames,
    )

pub returns-clause-turned : goal.returns-clause-turned
returns-clause-turned c =
    let frames : List Bytes = c.waiting-count.new.taker.waiting in
    let place : ℕ = c.args.place in
    let count : ℕ = c.waiting-count.result - place - 1 in
    let begun : List Bytes = c.args.taker.now.taken in
    let middle : List Bytes = c.take_at.new.taker.taken in
    let within : place < length frames = omega (arith, c.if-place-count.false, c.waiting-count.ensures.count) in
    let number : count ≡ length frames - place - 1 = ap (λ (n : ℕ). n - place - 1) c.waiting-count.ensures.count in
    all_taken frames begun middle c.turn.new.taker.taken (place + 1)
    (c.take_at.ensures.taken ∙ ap (λ (l : List Bytes). l ++ take (place + 1) frames) c.waiting-count.ensures.taken)
    (c.turn.ensures.taken ∙ ap (λ (l : List Bytes). middle ++ take count l) c.take_at.ensures.waiting
    ∙ ap (λ (l : List Bytes). middle ++ l) (lost_is frames place c.take_at.result within c.take_at.ensures.frame count number).1)
    ∙ ap (λ (l : List Bytes). begun ++ l) c.waiting-count.ensures.frames
