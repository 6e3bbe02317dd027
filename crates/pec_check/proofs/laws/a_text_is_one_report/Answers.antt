use Rattle.pec_check.proofs.GenuineLemmas.{report_told}
use Rattle.pec_check.proofs.laws.a_text_is_one_report.Goals as goal

pub returns : goal.returns
returns g c sealer providers text = report_told (g.S.Sealer.seals sealer) providers text (c.a_text_is_one_letter.ensures.headed sealer text)
