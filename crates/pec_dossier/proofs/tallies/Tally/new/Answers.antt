-- Nothing was told yet.
use Rattle.std.proofs.Common.{refl}
use Rattle.pec_dossier.specs.Tallies.{tally_of}
use Rattle.pec_dossier.proofs.tallies.Tally.new.Goals as goal

pub returns : goal.returns
unfolding tally_of
returns c = rw c.new.ensures refl
