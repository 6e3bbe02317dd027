-- The frame at the place is taken, the next one goes round, the first is put, and those behind both go round.
use Rattle.std.proofs.Common.{◌≡◌, ℕ, ◌+◌, ◌-◌, ◌<◌, List, [], ◌∷◌, ◌++◌, length, take, drop, ap, subst, ◌∙◌, arith}
use Rattle.std.specs.List.{swap}
use Rattle.pec_types.specs.Bytes.{Bytes}
use Rattle.pec_link.proofs.Turns.{both_taken, swapped_is}
use Rattle.pec_link.proofs.turning.swap.Goals as goal

pub returns-clause-swapped : goal.returns-clause-swapped
returns-clause-swapped c =
    let frames : List Bytes = c.waiting-count.new.taker.waiting in
    let place : ℕ = c.args.place in
    let frame : Bytes = c.take_at-first.result in
    let all : List Bytes = c.put_last.new.taker.waiting in
    let count : ℕ = c.waiting-count.result - place - 2 in
    let within : place + 1 < length frames = omega (arith, c.if-count-lt2.false, c.if-place-count.false, c.waiting-count.ensures.count) in
    let number : count ≡ length frames - place - 2 = ap (λ (n : ℕ). n - place - 2) c.waiting-count.ensures.count in
    let is = c.put_last.ensures.waiting
    ∙ ap (λ (l : List Bytes). l ++ frame ∷ [])
    (c.turn.ensures.waiting ∙ ap (λ (l : List Bytes). drop 1 l ++ take 1 l) c.take_at-first.ensures.waiting) in
    let swapped = swapped_is frames place frame within c.take_at-first.ensures.frame all count number is in (
      subst (λ (l : List Bytes). place + 1 < length l) c.waiting-count.ensures.frames within,
      c.turn-2.ensures.waiting ∙ swapped.0 ∙ ap (λ (l : List Bytes). swap l place (place + 1)) c.waiting-count.ensures.frames,
    )

pub returns-clause-turned : goal.returns-clause-turned
returns-clause-turned c =
    let frames : List Bytes = c.waiting-count.new.taker.waiting in
    let place : ℕ = c.args.place in
    let frame : Bytes = c.take_at-first.result in
    let all : List Bytes = c.put_last.new.taker.waiting in
    let count : ℕ = c.waiting-count.result - place - 2 in
    let begun : List Bytes = c.args.taker.now.taken in
    let one : List Bytes = c.take_at-first.new.taker.taken in
    let two : List Bytes = c.put_last.new.taker.taken in
    let within : place + 1 < length frames = omega (arith, c.if-count-lt2.false, c.if-place-count.false, c.waiting-count.ensures.count) in
    let number : count ≡ length frames - place - 2 = ap (λ (n : ℕ). n - place - 2) c.waiting-count.ensures.count in
    let is = c.put_last.ensures.waiting
    ∙ ap (λ (l : List Bytes). l ++ frame ∷ [])
    (c.turn.ensures.waiting ∙ ap (λ (l : List Bytes). drop 1 l ++ take 1 l) c.take_at-first.ensures.waiting) in
    let swapped = swapped_is frames place frame within c.take_at-first.ensures.frame all count number is in
    both_taken frames place frame within c.take_at-first.ensures.frame begun one two c.turn-2.new.taker.taken
    (c.take_at-first.ensures.taken ∙ ap (λ (l : List Bytes). l ++ take (place + 1) frames) c.waiting-count.ensures.taken)
    (c.put_last.ensures.taken ∙ c.turn.ensures.taken ∙ ap (λ (l : List Bytes). one ++ take 1 l) c.take_at-first.ensures.waiting)
    (c.turn-2.ensures.taken ∙ ap (λ (l : List Bytes). two ++ l) swapped.1)
    ∙ ap (λ (l : List Bytes). begun ++ l) c.waiting-count.ensures.frames
