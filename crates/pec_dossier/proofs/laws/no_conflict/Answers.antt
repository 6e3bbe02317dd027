use Rattle.pec_dossier.proofs.ConflictLemmas.{LearnedSo, never_conflict, never_told}
use Rattle.pec_dossier.proofs.laws.no_conflict.Goals as goal

pub returns : goal.returns
returns c =
    let told : LearnedSo = record {
      learned = c.arrivals_are_true.ensures.learned;
      viruses = c.arrivals_are_true.ensures.viruses;
    } in
    record {
      worlds = λ kept seals lawful journals fit texts genuine.
          never_conflict told kept seals lawful journals fit texts genuine;
      dossiers = λ providers setting is journals fit texts genuine.
          never_told told providers setting is journals fit texts genuine;
    }
