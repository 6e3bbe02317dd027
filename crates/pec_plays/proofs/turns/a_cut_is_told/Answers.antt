-- Cuts are told: from the lemmas.
use Rattle.pec_plays.proofs.LooksLemmas.{looks_kept}
use Rattle.pec_plays.proofs.TurnLemmas.{cut_told, told_is_kept, told_or_other}
use Rattle.pec_plays.proofs.turns.a_cut_is_told.Goals as goal

pub returns : goal.returns
returns c = record { cuts = cut_told; kept = told_is_kept; other = told_or_other; looks = looks_kept }
