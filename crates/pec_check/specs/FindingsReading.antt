-- The same as in `Findings`, one attestation after the other, as the code goes: `with_attested`.
use Rattle.std.specs.Prelude.{List, [], ◌∷◌, if◌then◌else◌, Option, Some, None}
use Rattle.pec_types.specs.declared.messages.Decision.{Decision}
use Rattle.pec_check.specs.Findings.{Attested, finding_on, is_decision, is_pair, pair_in}
use Rattle.pec_check.specs.declared.dossiers.Finding.{Finding}
use Rattle.pec_check.specs.declared.pairs.PairKey.{PairKey}

-- what is attested of a pair
abbrev pub attested_at : PairKey → Decision → Attested
attested_at pair decision = record { pair = pair; decision = decision }

-- the decision that all tell, with one more
abbrev pub joined : Option Decision → Decision → Option Decision
joined None decision = None
joined (Some known) decision = if is_decision known decision then Some known else None

-- what is told of a pair that may not be there, with one more decision
abbrev pub told_with : Option (Option Decision) → Decision → Option Decision
told_with None decision = Some decision
told_with (Some told) decision = joined told decision

-- The findings with one more attestation: it joins the finding of its pair, or is a new one at the end.
abbrev pub with_attested : List Finding → Attested → List Finding
with_attested [] one = finding_on one.pair (Some one.decision) ∷ []
with_attested (finding ∷ more) one =
    if is_pair one.pair (pair_in finding) then finding_on (pair_in finding) (joined finding.decision one.decision) ∷ more
    else finding ∷ with_attested more one
