-- The frame at the place is taken and put again, those behind it go round, and the copy is put.
use Rattle.std.proofs.Common.{◌≡◌, ℕ, ◌+◌, ◌-◌, ◌<◌, List, [], ◌∷◌, ◌++◌, length, take, ap, sym, subst, ◌∙◌, arith, Result, Ok, Err, OnErr}
use Rattle.pec_types.specs.Bytes.{Bytes}
use Rattle.pec_link.specs.Links.{repeated}
use Rattle.pec_link.specs.declared.ends.TheConstants.{MOST_FRAMES}
use Rattle.pec_link.proofs.Turns.{again_is, all_taken, at_place}
use Rattle.pec_link.proofs.turning.repeat.Goals as goal

on_err : {T E P : Type 0} (r : Result T E) → P → OnErr r P
on_err (Ok x) p = tt
on_err (Err e) p = p

pub returns-in_err-copy-clause-unchanged : goal.returns-in_err-copy-clause-unchanged
returns-in_err-copy-clause-unchanged c =
    let frames : List Bytes = c.waiting-count.new.taker.waiting in
    let place : ℕ = c.args.place in
    let frame : Bytes = c.take_at-frame.result in
    let count : ℕ = c.waiting-count.result - place - 1 in
    let within : place < length frames = omega (arith, c.if-place-count.false, c.waiting-count.ensures.count) in
    let number : count ≡ length frames - place - 1 = ap (λ (n : ℕ). n - place - 1) c.waiting-count.ensures.count in
    let is = c.put_last.ensures.waiting ∙ ap (λ (l : List Bytes). l ++ frame ∷ []) c.take_at-frame.ensures.waiting in
    let again = again_is frames place frame within c.take_at-frame.ensures.frame c.put_last.new.taker.waiting count number is in
    on_err c.from_residual.result (c.turn.ensures.waiting ∙ again.0 ∙ c.waiting-count.ensures.frames)

pub returns-clause-repeated : goal.returns-clause-repeated
returns-clause-repeated c =
    let frames : List Bytes = c.waiting-count.new.taker.waiting in
    let place : ℕ = c.args.place in
    let frame : Bytes = c.take_at-frame.result in
    let count : ℕ = c.waiting-count.result - place - 1 in
    let within : place < length frames = omega (arith, c.if-place-count.false, c.waiting-count.ensures.count) in
    let few : length frames < MOST_FRAMES = omega (arith, c.if-count-ge-MOST_FRAMES.false, c.waiting-count.ensures.count) in
    let number : count ≡ length frames - place - 1 = ap (λ (n : ℕ). n - place - 1) c.waiting-count.ensures.count in
    let is = c.put_last.ensures.waiting ∙ ap (λ (l : List Bytes). l ++ frame ∷ []) c.take_at-frame.ensures.waiting in
    let again = again_is frames place frame within c.take_at-frame.ensures.frame c.put_last.new.taker.waiting count number is in
    let copy : Bytes = c.in_ok-copy.field-0 in
    let done : c.put_last-2.new.taker.waiting ≡ repeated place frames =
    c.put_last-2.ensures.waiting ∙ ap (λ (l : List Bytes). l ++ copy ∷ []) (c.turn.ensures.waiting ∙ again.0)
    ∙ ap (λ (x : Bytes). frames ++ x ∷ []) c.in_ok-copy.ensures
    ∙ ap (λ (l : List Bytes). frames ++ l) (sym (at_place frames place frame within c.take_at-frame.ensures.frame)) in (
      subst (λ (l : List Bytes). place < length l) c.waiting-count.ensures.frames within,
      subst (λ (l : List Bytes). length l < MOST_FRAMES) c.waiting-count.ensures.frames few,
      done ∙ ap (repeated place) c.waiting-count.ensures.frames,
    )

pub returns-clause-turned : goal.returns-clause-turned
returns-clause-turned c =
    let frames : List Bytes = c.waiting-count.new.taker.waiting in
    let place : ℕ = c.args.place in
    let frame : Bytes = c.take_at-frame.result in
    let all : List Bytes = c.put_last.new.taker.waiting in
    let count : ℕ = c.waiting-count.result - place - 1 in
    let begun : List Bytes = c.args.taker.now.taken in
    let middle : List Bytes = c.take_at-frame.new.taker.taken in
    let within : place < length frames = omega (arith, c.if-place-count.false, c.waiting-count.ensures.count) in
    let number : count ≡ length frames - place - 1 = ap (λ (n : ℕ). n - place - 1) c.waiting-count.ensures.count in
    let is = c.put_last.ensures.waiting ∙ ap (λ (l : List Bytes). l ++ frame ∷ []) c.take_at-frame.ensures.waiting in
    let again = again_is frames place frame within c.take_at-frame.ensures.frame all count number is in
    all_taken frames begun middle c.put_last-2.new.taker.taken (place + 1)
    (c.take_at-frame.ensures.taken ∙ ap (λ (l : List Bytes). l ++ take (place + 1) frames) c.waiting-count.ensures.taken)
    (c.put_last-2.ensures.taken ∙ c.turn.ensures.taken ∙ ap (λ (l : List Bytes). l ++ take count all) c.put_last.ensures.taken
    ∙ ap (λ (l : List Bytes). middle ++ l) again.1)
    ∙ ap (λ (l : List Bytes). begun ++ l) c.waiting-count.ensures.frames
