use Rattle.std.proofs.Common.{sym, ◌∙◌}
use Rattle.std.proofs.lemmas.Option.{same_Some}
use Rattle.pec_seal.proofs.LineLaws.{line_again}
use Rattle.pec_seal.proofs.OpeningLaws.{opens_again, opens_only, opens_once}
use Rattle.pec_seal.proofs.seals.sealing_and_opening.Goals as goal

pub returns-clause-opens : goal.returns-clause-opens
returns-clause-opens g c = λ sealer provider bytes text. (
  opens_only _ provider bytes text (g.met.S.Sealer.lawful sealer),
  opens_again _ provider bytes text (g.met.S.Sealer.lawful sealer),
)

pub returns-clause-one_way : goal.returns-clause-one_way
returns-clause-one_way g c = λ sealer provider other bytes more text is also.
    opens_once _ provider other bytes more text (g.met.S.Sealer.lawful sealer) is also

pub returns-clause-one_line : goal.returns-clause-one_line
returns-clause-one_line g c =
    λ line other text has also. same_Some line other (sym (line_again line text has) ∙ line_again other text also)
