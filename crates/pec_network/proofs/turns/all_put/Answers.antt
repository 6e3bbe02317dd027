use Rattle.std.proofs.Common.{ℕ, List, None, ap}
use Rattle.pec_network.proofs.EndLemmas.{told_turn}
use Rattle.pec_network.proofs.turns.all_put.Goals as goal

pub returns-clause-out : goal.returns-clause-out
returns-clause-out c = c.of-3.ensures

pub returns-clause-turn : goal.returns-clause-turn
returns-clause-turn c = rw (c.of.ensures, c.of-2.ensures, ← c.deref.ensures.value)
    (ap (λ (sent : List (ℕ × ℕ)). told_turn c.args.me c.args.events.items sent None) c.in_ok-sent.ensures)
