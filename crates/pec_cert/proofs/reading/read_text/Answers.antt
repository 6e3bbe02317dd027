use Rattle.std.proofs.Common.{◌∙◌, subst}
use Rattle.pec_grammar.specs.Grammar.{ending}
use Rattle.pec_grammar.specs.Reading.{Fails}
use Rattle.pec_cert.specs.LinesReading.{lines_at}
use Rattle.pec_cert.proofs.CertificateLaws.{lines_exact, stop_exact}
use Rattle.pec_cert.proofs.CertificateLemmas.{read_shape, read_fault}
use Rattle.pec_cert.proofs.reading.read_text.Goals as goal

pub cert_from_lines-requires : goal.cert_from_lines-requires
cert_from_lines-requires c = (read_shape c.args.text.now c.in-Ok.lines c.in-Ok.ensures).0

pub overflow_sub-text : goal.overflow_sub-text
overflow_sub-text c =
    let stopped = subst (λ e. Fails e (ending (lines_at (record { rest = c.args.text.now; farthest = c.args.text.now })))) c.in-Err-Stop.field-0-is c.in-Err-Stop.ensures in
    rw c.in-Err-Stop.stop-is (read_fault c.args.text.now c.in-Err-Stop.stop.rest.now stopped).0

pub returns-in-Ok : goal.returns-in-Ok
returns-in-Ok c = lines_exact c.args.text.now (c.a_text_has_one_answer.ensures c.args.text.now) c.in-Ok.lines c.cert_from_lines.result (read_shape c.args.text.now c.in-Ok.lines c.in-Ok.ensures) c.cert_from_lines.ensures

pub returns-in_ok-fault-in-Err-Stop : goal.returns-in_ok-fault-in-Err-Stop
returns-in_ok-fault-in-Err-Stop c =
    let stopped = subst (λ e. Fails e (ending (lines_at (record { rest = c.args.text.now; farthest = c.args.text.now })))) c.in-Err-Stop.field-0-is c.in-Err-Stop.ensures in
    λ stays. stop_exact c.args.text.now c.in-Err-Stop.stop.rest.now stopped ∙ rw c.in-Err-Stop.stop-is at c.in_ok-fault-in-Err-Stop.ensures
