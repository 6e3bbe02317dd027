use Rattle.std.proofs.Common.{length, ap, subst}
use Rattle.pec_grammar.specs.Reading.{standing}
use Rattle.pec_cert.specs.Front.{dated_so}
use Rattle.pec_cert.specs.Shown.{AnswersShown}
use Rattle.pec_cert.proofs.CertificateLaws.{stamp_is}
use Rattle.pec_cert.proofs.FrontLaws.{date_is, date_isnt}
use Rattle.pec_cert.proofs.FrontLemmas.{read_parts}
use Rattle.pec_cert.proofs.NumberLemmas.{shown, shown_lawful}
use Rattle.pec_cert.proofs.wrong.date.Goals as goal

pub stamp_of-requires : goal.stamp_of-requires
stamp_of-requires c = (read_parts shown shown_lawful c.args.text.now (c.in-Ok.taken.0, standing c.in-Ok.taken.1) (rw c.new.ensures at c.in-Ok.ensures)).0

pub returns-in-Err : goal.returns-in-Err
returns-in-Err c = ap (dated_so c.args.size (length c.args.text.now)) (rw c.new.ensures at c.in-Err.ensures)

pub returns-in-Ok-stamp_of : goal.returns-in-Ok-stamp_of
returns-in-Ok-stamp_of c =
    date_is stamp_is c.args.size c.args.text.now (c.in-Ok.taken.0, standing c.in-Ok.taken.1) (rw c.new.ensures at c.in-Ok.ensures) c.in-Ok-stamp_of.field-0
    (subst (λ r. AnswersShown c.in-Ok.taken.0 r) c.in-Ok-stamp_of.is c.stamp_of.ensures)

pub returns-in-Err-stamp_of : goal.returns-in-Err-stamp_of
returns-in-Err-stamp_of c =
    rw (c.saturating_sub-place.ensures, c.saturating_sub-left.ensures, c.length_before.ensures c.in-Ok.taken.0)
    (date_isnt stamp_is c.args.size c.args.text.now (c.in-Ok.taken.0, standing c.in-Ok.taken.1) (rw c.new.ensures at c.in-Ok.ensures) c.in-Err-stamp_of.part
    (subst (λ r. AnswersShown c.in-Ok.taken.0 r) c.in-Err-stamp_of.is c.stamp_of.ensures))
