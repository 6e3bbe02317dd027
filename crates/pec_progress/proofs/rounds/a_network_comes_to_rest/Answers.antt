-- A network comes to rest: from the other laws of this crate.
use Rattle.std.proofs.Common.{[], ◌∷◌}
use Rattle.pec_progress.proofs.rounds.a_network_comes_to_rest.Goals as goal

pub returns : goal.returns
returns c = record {
  outcomes = λ trade world sites sound empty few can moment ready first second third follow pair is.
      let well = c.rounds_in_time_go_well.ensures trade world sites moment ready (first ∷ second ∷ third ∷ []) follow
      in let start = c.rounds_in_time_go_well.ensures trade world sites moment ready (first ∷ second ∷ []) (follow.0, follow.1, follow.2, (follow.3.0, follow.3.1, follow.3.2, tt))
      in let little = c.rounds_bring_outcomes.ensures.few trade world sites sound few (first ∷ second ∷ []) start
      (c.rounds_bring_outcomes.ensures.framed trade world sites sound can (first ∷ second ∷ []) start)
      in let carry = c.rounds_bring_outcomes.ensures.carried trade world sites sound empty (first ∷ second ∷ []) start little
      in (
        c.rounds_bring_outcomes.ensures.known trade world sites sound first second third well carry pair is,
        c.rounds_bring_outcomes.ensures.receipts trade world sites sound first second third well carry pair is,
      );
  rest = λ trade world sites sound empty few can moment ready first second third fourth follow pair is.
      let well = c.rounds_in_time_go_well.ensures trade world sites moment ready (first ∷ second ∷ third ∷ fourth ∷ []) follow
      in let start = c.rounds_in_time_go_well.ensures trade world sites moment ready (first ∷ second ∷ third ∷ [])
      (follow.0, follow.1, follow.2, (follow.3.0, follow.3.1, follow.3.2, (follow.3.3.0, follow.3.3.1, follow.3.3.2, tt)))
      in let little = c.rounds_bring_outcomes.ensures.few trade world sites sound few (first ∷ second ∷ third ∷ []) start
      (c.rounds_bring_outcomes.ensures.framed trade world sites sound can (first ∷ second ∷ third ∷ []) start)
      in let carry = c.rounds_bring_outcomes.ensures.carried trade world sites sound empty (first ∷ second ∷ third ∷ []) start little
      in c.rounds_bring_outcomes.ensures.settled trade world sites sound first second third fourth well carry pair is;
  empty = λ trade world sites sound empty few can moment ready first second third fourth fifth follow.
      let rounds = first ∷ second ∷ third ∷ fourth ∷ fifth ∷ []
      in let well = c.rounds_in_time_go_well.ensures trade world sites moment ready rounds follow
      in let little = c.rounds_bring_outcomes.ensures.few trade world sites sound few rounds well (c.rounds_bring_outcomes.ensures.framed trade world sites sound can rounds well)
      in c.rounds_bring_outcomes.ensures.empty trade world sites sound first second third fourth fifth well (c.rounds_bring_outcomes.ensures.carried trade world sites sound empty rounds well little);
}
