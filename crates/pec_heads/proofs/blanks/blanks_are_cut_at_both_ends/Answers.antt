-- The law of cutting, from the lemmas.
use Rattle.pec_heads.proofs.BlankLemmas.{trimmed_is, trimmed_only, trimmed_kept}
use Rattle.pec_heads.proofs.blanks.blanks_are_cut_at_both_ends.Goals as goal

pub returns : goal.returns
returns c = record { cut = trimmed_is; only = trimmed_only; kept = trimmed_kept }
