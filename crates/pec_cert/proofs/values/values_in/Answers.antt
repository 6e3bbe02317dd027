use Rattle.std.proofs.Common.{◌≡◌, List, ℕ, map, Option}
use Rattle.std.proofs.lemmas.Result.{err_from_is_err_and}
use Rattle.pec_cert.specs.Certificate.{addressee}
use Rattle.pec_cert.specs.Shown.{IsShown}
use Rattle.pec_cert.specs.Stamp.{Instant}
use Rattle.pec_cert.specs.declared.certificates.CertRecipient.{CertRecipient}
use Rattle.pec_cert.proofs.CheckLemmas.{after_sender, after_recipients, after_stamp, after_delivered, all_checked}
use Rattle.pec_cert.proofs.values.values_in.Goals as goal

pub returns-in_err-recipients : goal.returns-in_err-recipients
returns-in_err-recipients c =
    let p = err_from_is_err_and c.from_residual-in_err-recipients.result c.from_residual-in_err-recipients.ensures.1 in
    let l = c.args.lines.now in
    rw (p.1, p.2) (after_sender (λ (x : List CertRecipient). map addressee x ≡ l.recipients) l c.in_err-recipients.field-0.0 c.in_ok-sender.ensures.0 c.in_err-recipients.ensures)

pub returns-in_err-stamp : goal.returns-in_err-stamp
returns-in_err-stamp c =
    let p = err_from_is_err_and c.from_residual-in_err-stamp.result c.from_residual-in_err-stamp.ensures.1 in
    let l = c.args.lines.now in
    rw (p.1, p.2) (after_recipients (λ (x : Instant). IsShown l.shown x) l c.in_err-stamp.field-0.0 c.in_ok-sender.ensures.0 c.in_ok-recipients.ensures.0 c.in_err-stamp.ensures)

pub returns-in_err-delivered : goal.returns-in_err-delivered
returns-in_err-delivered c =
    let p = err_from_is_err_and c.from_residual-in_err-delivered.result c.from_residual-in_err-delivered.ensures.1 in
    let l = c.args.lines.now in
    rw (p.1, p.2)
    (after_stamp (λ (x : Option (List ℕ)). x ≡ l.delivered) l c.in_err-delivered.field-0.0 c.in_ok-sender.ensures.0 c.in_ok-recipients.ensures.0 c.in_ok-stamp.ensures.0 c.in_err-delivered.ensures)

pub returns-in_err-received : goal.returns-in_err-received
returns-in_err-received c =
    let p = err_from_is_err_and c.from_residual-in_err-received.result c.from_residual-in_err-received.ensures.1 in
    let l = c.args.lines.now in
    rw (p.1, p.2)
    (after_delivered (λ (x : List (List ℕ)). x ≡ l.received) l c.in_err-received.field-0.0 c.in_ok-sender.ensures.0 c.in_ok-recipients.ensures.0 c.in_ok-stamp.ensures.0 c.in_ok-delivered.ensures.0
    c.in_err-received.ensures)

pub returns : goal.returns
returns c =
    let l = c.args.lines.now in
    let good = all_checked l c.in_ok-sender.ensures.0 c.in_ok-recipients.ensures.0 c.in_ok-stamp.ensures.0 c.in_ok-delivered.ensures.0 c.in_ok-received.ensures.0 in (
      good,
      record {
        sender = c.in_ok-sender.ensures.1;
        recipients = c.in_ok-recipients.ensures.1;
        stamp = c.in_ok-stamp.ensures.1;
        delivered = c.in_ok-delivered.ensures.1;
        received = c.in_ok-received.ensures.1;
      },
    )
