use Rattle.std.proofs.Common.{◌≡◌, ℕ, List, [], ◌∷◌, ◌++◌, take, drop, ap, sym, ◌∙◌, append_assoc}
use Rattle.pec_types.specs.Bytes.{Bytes}
use Rattle.pec_link.proofs.Turns.{first_is, first_with, rest_is}
use Rattle.pec_link.proofs.turning.take_at.Goals as goal

pub returns : goal.returns
returns c =
    let frames : List Bytes = c.args.taker.now.waiting in
    let place : ℕ = c.args.place in
    let frame : Bytes = c.take_first.result in
    let rest : List Bytes = c.take_first.new.taker.waiting in
    let begun : List Bytes = c.args.taker.now.taken in
    let is : drop place frames ++ take place frames ≡ frame ∷ rest = sym c.turn.ensures.waiting ∙ c.take_first.ensures.waiting in
    let first = first_is frames place frame rest c.requires.within is in
    record {
      settled = c.take_first.ensures.settled;
      ring = c.take_first.ensures.ring ∙ c.turn.ensures.ring;
      frame = first;
      waiting = rest_is frames place frame rest c.requires.within is;
      taken = c.take_first.ensures.taken ∙ ap (λ (l : List Bytes). l ++ frame ∷ []) c.turn.ensures.taken
          ∙ append_assoc begun (take place frames) (frame ∷ [])
          ∙ ap (λ (l : List Bytes). begun ++ l) (sym (first_with frames place frame c.requires.within first));
    }
