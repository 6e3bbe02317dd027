-- The table of decisions is asked what the directory and the shelf say of the recipient.
use Rattle.std.proofs.Common.{ℕ, ap, sym, subst, ◌∙◌}
use Rattle.pec_directory.specs.Directory.{is_account_of, providers_of}
use Rattle.pec_points.specs.Decision.{IsDecision, Mailbox}
use Rattle.pec_reception.proofs.MailboxLemmas.{mailbox_is}
use Rattle.pec_reception.proofs.mailboxes.decision_on.Goals as goal

pub returns : goal.returns
returns c = λ trade. λ of.
    let providers = providers_of c.args.directory.now
    in let half = c.args.shelf.now.half
    in let recipient = c.args.recipient.now
    in let account = c.is_account_of-account.ensures.value
    ∙ ap (λ (me : ℕ). is_account_of providers me recipient) c.me.ensures
    in sym ((c.decisions_are_the_table.ensures.table trade c.args.shelf.now.me half recipient c.args.virus
    c.decide.result).1
    (subst (λ (m : Mailbox). IsDecision m c.decide.result)
    (mailbox_is c.args.directory.now trade of c.args.shelf.now.me half recipient c.is_account_of-account.result
    c.args.virus c.counted-count.result c.quota-quota.result
    account c.counted-count.ensures c.quota-quota.ensures)
    c.decide.ensures.row))
