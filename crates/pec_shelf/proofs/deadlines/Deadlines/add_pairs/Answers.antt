use Rattle.std.proofs.Common.{◌≡◌, ℕ, List, [], ◌∷◌, ◌++◌, ◌≤◌, map, replicate, sym, ap, subst, ◌∙◌, arith, append_assoc, IfSome}
use Rattle.std.specs.List.{range_with_len}
use Rattle.std.proofs.lemmas.List.{replicate_more}
use Rattle.pec_types.specs.Timetable.{last_of}
use Rattle.pec_shelf.specs.Deadlines.{spot_at}
use Rattle.pec_shelf.specs.declared.deadlines.Spot.{Spot}
use Rattle.pec_shelf.proofs.PairingLemmas.{alike_split, spots_more}
use Rattle.pec_shelf.proofs.deadlines.Deadlines.add_pairs.Goals as goal

pub push-requires : goal.push-requires
push-requires c = record {
  room = omega (arith, c.loop-index.invariant.room, c.requires.room);
  rising = subst (λ (ms : List ℕ). IfSome (last_of ms) (λ last. last ≤ c.args.accepted)) (sym c.loop-index.invariant.moments)
      (alike_split c.args.self.now.moments c.args.accepted c.loop-index.index c.args.count (omega arith) c.requires.rising);
}

pub loop-index-preserved : goal.loop-index-preserved
loop-index-preserved c =
    let before = c.loop-index.invariant.same in
    let here = c.push.ensures.same in
    record {
      moments = c.push.ensures.moments ∙ ap (λ (ms : List ℕ). ms ++ c.args.accepted ∷ []) c.loop-index.invariant.moments
          ∙ append_assoc c.args.self.now.moments (replicate c.loop-index.index c.args.accepted) (c.args.accepted ∷ [])
          ∙ ap (λ (ms : List ℕ). c.args.self.now.moments ++ ms) (replicate_more c.loop-index.index c.args.accepted);
      spots = c.push.ensures.spots ∙ ap (λ (ss : List Spot). ss ++ spot_at c.args.number c.loop-index.index ∷ []) c.loop-index.invariant.spots
          ∙ append_assoc c.args.self.now.spots (map (spot_at c.args.number) (range_with_len 0 c.loop-index.index)) (spot_at c.args.number c.loop-index.index ∷ [])
          ∙ ap (λ (ss : List Spot). c.args.self.now.spots ++ ss) (sym (spots_more c.args.number c.loop-index.index));
      room = omega (arith, c.push.ensures.room, c.loop-index.invariant.room);
      same = (here.0 ∙ before.0, here.1 ∙ before.1, here.2 ∙ before.2, here.3 ∙ before.3);
    }

pub returns : goal.returns
returns c =
    let all : c.loop-index.index ≡ c.args.count = omega arith in
    record {
      moments = c.loop-index.invariant.moments ∙ ap (λ (n : ℕ). c.args.self.now.moments ++ replicate n c.args.accepted) all;
      spots = c.loop-index.invariant.spots ∙ ap (λ (n : ℕ). c.args.self.now.spots ++ map (spot_at c.args.number) (range_with_len 0 n)) all;
      room = omega (arith, c.loop-index.invariant.room, all);
      same = c.loop-index.invariant.same;
    }
