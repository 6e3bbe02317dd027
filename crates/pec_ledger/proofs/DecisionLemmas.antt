-- The decision on a pair is that of the first row that applies.
use Rattle.std.proofs.Common.{◌≡◌, ℕ, ◌<◌, ◌≤◌, ◌↔◌, Bool, true, false, not, nat_le, refl, sym}
use Rattle.std.specs.Prelude.{if◌then◌else◌}
use Rattle.std.proofs.lemmas.Bool.{false≢true, leb-false, leb-true, le-leb, lt-leb}
use Rattle.pec_types.specs.Bytes.{Bytes}
use Rattle.pec_types.specs.declared.messages.Decision.{Decision}
use Rattle.pec_types.specs.declared.messages.Decision.TheVariants.{Placed, Refused}
use Rattle.pec_types.specs.declared.messages.Refusal.TheVariants as refusals
use Rattle.pec_ledger.specs.Half.{Half}
use Rattle.pec_ledger.specs.Lookups.{counted}
use Rattle.pec_ledger.specs.Own.{decision_at}
use Rattle.pec_ledger.specs.Trade.{Trade}

abbrev rows : Bool → Bool → Decision
rows account full = if not account then Refused refusals.NoMailbox else (if full then Refused refusals.MailboxFull else Placed)

no_mailbox_row : (account full : Bool) → (rows account full ≡ Refused refusals.NoMailbox) ↔ (account ≡ false)
no_mailbox_row true true = ((λ e. absurd (cc)), (λ e. absurd (false≢true (sym e))))
no_mailbox_row true false = ((λ e. absurd (cc)), (λ e. absurd (false≢true (sym e))))
no_mailbox_row false full = ((λ e. refl), (λ e. refl))

full_row : (account full : Bool) → (rows account full ≡ Refused refusals.MailboxFull) ↔ ((account ≡ true) × (full ≡ true))
full_row true true = ((λ e. (refl, refl)), (λ e. refl))
full_row true false = ((λ e. absurd (cc)), (λ e. absurd (false≢true e.1)))
full_row false full = ((λ e. absurd (cc)), (λ e. absurd (false≢true e.0)))

placed_row : (account full : Bool) → (rows account full ≡ Placed) ↔ ((account ≡ true) × (full ≡ false))
placed_row true true = ((λ e. absurd (cc)), (λ e. absurd (false≢true (sym e.1))))
placed_row true false = ((λ e. (refl, refl)), (λ e. refl))
placed_row false full = ((λ e. absurd (cc)), (λ e. absurd (false≢true e.0)))

module _ (trade : Trade) (p : ℕ) (h : Half) (r : Bytes) where
  pub no_mailbox : (decision_at trade p h r ≡ Refused refusals.NoMailbox) ↔ (trade.is_account p r ≡ false)
  unfolding decision_at
  no_mailbox = no_mailbox_row (trade.is_account p r) (nat_le (trade.quota r) (counted h r))

  pub mailbox_full : (decision_at trade p h r ≡ Refused refusals.MailboxFull) ↔ ((trade.is_account p r ≡ true) × (trade.quota r ≤ counted h r))
  unfolding decision_at
  mailbox_full =
      let row = full_row (trade.is_account p r) (nat_le (trade.quota r) (counted h r))
      in (
        (λ e. ((row.0 e).0, leb-true (trade.quota r) (counted h r) (row.0 e).1)),
        (λ is. row.1 (is.0, le-leb (trade.quota r) (counted h r) is.1)),
      )

  pub placed : (decision_at trade p h r ≡ Placed) ↔ ((trade.is_account p r ≡ true) × (counted h r < trade.quota r))
  unfolding decision_at
  placed =
      let row = placed_row (trade.is_account p r) (nat_le (trade.quota r) (counted h r))
      in (
        (λ e. ((row.0 e).0, leb-false (trade.quota r) (counted h r) (row.0 e).1)),
        (λ is. row.1 (is.0, lt-leb (trade.quota r) (counted h r) is.1)),
      )
