-- Rounds by their turns: from the lemmas.
use Rattle.std.proofs.Common.{ap}
use Rattle.pec_ledger.specs.Network.{Site}
use Rattle.pec_plays.specs.Rounds.{rounded, turns_of}
use Rattle.pec_plays.proofs.DeliveryLemmas.{after_is, after_length, nothing_from, turn_is, waits_behind}
use Rattle.pec_plays.proofs.rounds.a_round_is_its_turns.Goals as goal

pub returns : goal.returns
unfolding rounded turns_of
returns c = record {
  turns = turn_is;
  count = after_length;
  journals = λ trade now cuts sites p l. ap (λ (s : Site). s.journal) (after_is trade now cuts sites p l);
  up = λ trade now cuts sites p l. ap (λ (s : Site). s.up) (after_is trade now cuts sites p l);
  interrupted = λ trade now cuts sites p l. ap (λ (s : Site). s.interrupted) (after_is trade now cuts sites p l);
  frames = waits_behind;
  nobody = nothing_from;
}
