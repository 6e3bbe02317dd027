-- The facts of an envelope that is seen: from the lemmas.
use Rattle.pec_trade.proofs.SeenLemmas.{facts_are, passed}
use Rattle.pec_trade.proofs.laws.an_envelope_is_seen_with_its_facts.Goals as goal

pub returns : goal.returns
returns g c = λ sealer providers text seen e.
    let is = ((c.a_text_is_one_envelope.ensures.told sealer providers text).value seen).0 e
    in facts_are seen.original is.0 seen.facts (passed providers is.0 seen is.1.1).facts
