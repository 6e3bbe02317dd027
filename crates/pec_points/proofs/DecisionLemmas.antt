-- The tests of the decision decide its rows, so `decision_of` is what is decided.
use Rattle.std.proofs.Common.{◌≡◌, ◌↔◌, [], ◌∷◌, Decides, refl, sym, ap, ◌∙◌}
use Rattle.std.proofs.lemmas.Bool.{leb-true, le-leb}
use Rattle.pec_types.specs.declared.messages.Decision.{Decision}
use Rattle.pec_types.specs.Tables.{IsFirst, first_of, not_so, one_first}
use Rattle.pec_points.specs.Decision.{Mailbox, MailboxRow, NoAccount, Infected, IsFull, HasRoom, mailbox_rows, AppliesToMailbox, decided_by, IsDecision}
use Rattle.pec_points.specs.DecisionReading.{applies_to_mailbox, mailbox_row_of, decision_of}

mailbox_row : (mailbox : Mailbox) (row : MailboxRow) → Decides (applies_to_mailbox mailbox row) (AppliesToMailbox mailbox row)
mailbox_row mailbox NoAccount = not_so mailbox.account
mailbox_row mailbox Infected = (λ e. e, λ h. h)
mailbox_row mailbox IsFull = (λ e. leb-true mailbox.quota mailbox.count e, λ h. le-leb mailbox.quota mailbox.count h)
mailbox_row mailbox HasRoom = (λ e. tt, λ h. refl)

first_row : (mailbox : Mailbox) → IsFirst (AppliesToMailbox mailbox) mailbox_rows (mailbox_row_of mailbox)
first_row mailbox = first_of (applies_to_mailbox mailbox) (AppliesToMailbox mailbox) (mailbox_row mailbox) (NoAccount ∷ Infected ∷ IsFull ∷ []) HasRoom HasRoom refl

pub some_row : (mailbox : Mailbox) → (row : MailboxRow) × IsFirst (AppliesToMailbox mailbox) mailbox_rows row
some_row mailbox = (mailbox_row_of mailbox, first_row mailbox)

pub one_row : (mailbox : Mailbox) (row other : MailboxRow)
    → IsFirst (AppliesToMailbox mailbox) mailbox_rows row → IsFirst (AppliesToMailbox mailbox) mailbox_rows other → row ≡ other
one_row mailbox = one_first (applies_to_mailbox mailbox) (AppliesToMailbox mailbox) (mailbox_row mailbox) mailbox_rows

pub decision_is : (mailbox : Mailbox) (decision : Decision) → decision ≡ decision_of mailbox → IsDecision mailbox decision
unfolding decision_of
decision_is mailbox decision e = record { row = mailbox_row_of mailbox; first = first_row mailbox; answer = e }

decision_again : (mailbox : Mailbox) (decision : Decision) → IsDecision mailbox decision → decision_of mailbox ≡ decision
unfolding decision_of
decision_again mailbox decision h = ap decided_by (one_row mailbox (mailbox_row_of mailbox) h.row (first_row mailbox) h.first) ∙ sym h.answer

pub decision_says : (mailbox : Mailbox) (decision : Decision) → (decision_of mailbox ≡ decision) ↔ IsDecision mailbox decision
decision_says mailbox decision = (λ e. decision_is mailbox decision (sym e), λ h. decision_again mailbox decision h)
