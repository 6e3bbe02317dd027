-- The receipt is composed of the original that the entry holds.
use Rattle.pec_outgoing.proofs.letters.charge.Goals as goal

pub returns-clause-composed : goal.returns-clause-composed
returns-clause-composed g c = record {
  original = c.in_ok-found.found.bytes.now;
  holds = c.in_ok-found.ensures.holds;
  is = c.in_ok-letter.ensures;
}
