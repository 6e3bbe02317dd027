use Rattle.std.proofs.Common.{◌≡◌, ◌∷◌, take}
use Rattle.pec_extract.specs.LogRows.{spaced}
use Rattle.pec_extract.proofs.words.behind.Given as goal

abbrev pub invariant-loop-other : goal.invariant-loop-other
invariant-loop-other l = l.text.items ≡ spaced (l.first ∷ take l.other-index l.others)
