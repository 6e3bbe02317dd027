use Rattle.std.proofs.Common.{length, ap, arith}
use Rattle.pec_shelf.specs.Waiting.{Places}
use Rattle.pec_shelf.proofs.waiting.Waiting.remove.Goals as goal

pub remove-requires : goal.remove-requires
remove-requires c = omega (arith, c.requires, c.self.inside.places.ok.0, ap (λ (v : Places). length v.places) c.self.view_is)
