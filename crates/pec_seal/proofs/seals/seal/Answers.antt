use Rattle.std.proofs.Common.{rules}
use Rattle.pec_seal.proofs.OpeningLaws.{opens_again}
use Rattle.pec_seal.proofs.seals.seal.Goals as goal

pub returns-clause-opens : goal.returns-clause-opens
returns-clause-opens g c = opens_again _ _ _ _ (g.met.S.Sealer.lawful c.args.sealer.now) (search rules)
