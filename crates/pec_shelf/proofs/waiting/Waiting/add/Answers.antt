use Rattle.std.proofs.Common.{◌≡◌, ℕ, List, [], ◌∷◌, ◌+◌, ◌++◌, sym, ap, ◌∙◌, arith, append_assoc}
use Rattle.std.specs.List.{range_with_len}
use Rattle.pec_shelf.proofs.WaitingLemmas.{range_more}
use Rattle.pec_shelf.proofs.waiting.Waiting.add.Goals as goal

pub loop-offset-preserved : goal.loop-offset-preserved
loop-offset-preserved c = record {
  places = c.push.ensures.places ∙ ap (λ (ks : List ℕ). ks ++ (c.args.first + c.loop-offset.offset) ∷ []) c.loop-offset.invariant.places
      ∙ append_assoc c.args.self.now.places (range_with_len c.args.first c.loop-offset.offset) ((c.args.first + c.loop-offset.offset) ∷ [])
      ∙ ap (λ (ks : List ℕ). c.args.self.now.places ++ ks) (sym (range_more c.args.first c.loop-offset.offset));
  room = omega (arith, c.push.ensures.room, c.loop-offset.invariant.room);
}

pub returns : goal.returns
returns c =
    let all : c.loop-offset.offset ≡ c.args.count = omega arith in
    record {
      places = c.loop-offset.invariant.places ∙ ap (λ (n : ℕ). c.args.self.now.places ++ range_with_len c.args.first n) all;
      room = omega (arith, c.loop-offset.invariant.room, all);
    }
