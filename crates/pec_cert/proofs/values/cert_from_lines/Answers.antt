use Rattle.std.proofs.Common.{map}
use Rattle.std.proofs.lemmas.Result.{err_from_is_err_and}
use Rattle.pec_cert.specs.Certificate.{addressee}
use Rattle.pec_cert.proofs.CheckLemmas.{lines_fault, lines_are, says}
use Rattle.pec_cert.proofs.values.cert_from_lines.Goals as goal

pub returns-in_err-found : goal.returns-in_err-found
returns-in_err-found c =
    let p = err_from_is_err_and c.from_residual.result c.from_residual.ensures.1 in
    rw (p.1, p.2) (lines_fault c.args.lines c.in_err-found.field-0.0 c.in_err-found.ensures)

pub returns : goal.returns
returns c =
    let l = c.args.lines in
    let good = c.in_ok-found.ensures.0 in
    let has = c.in_ok-found.ensures.1 in
    let found = c.in_ok-found.found in (
      good,
      says l _ c.requires good has.stamp
          (lines_are l found.sender (map addressee found.recipients) found.delivered found.received has.sender has.recipients has.delivered has.received),
    )
