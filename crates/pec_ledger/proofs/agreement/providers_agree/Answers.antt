-- Providers agree: from the lemmas.
use Rattle.pec_ledger.proofs.AgreeLemmas.{acked_is_known, charged_is_taken, recipients_agree, senders_agree}
use Rattle.pec_ledger.proofs.agreement.providers_agree.Goals as goal

pub returns : goal.returns
returns c =
    record { charges = charged_is_taken; acks = acked_is_known; recipients = recipients_agree; senders = senders_agree }
