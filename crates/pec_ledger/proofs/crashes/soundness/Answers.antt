-- States are Sound from the start on: from the lemmas.
use Rattle.pec_ledger.proofs.Beginning.{sound_at_start}
use Rattle.pec_ledger.proofs.Images.{happens_continues, sound_next}
use Rattle.pec_ledger.proofs.crashes.soundness.Goals as goal

pub returns : goal.returns
returns c = record { start = sound_at_start; next = sound_next; each = happens_continues }
