-- Decisions by the table: from the lemmas, and from the law that a recipient has one decision.
use Rattle.std.proofs.Common.{ap, sym, ◌∙◌, Option, Some}
use Rattle.pec_types.specs.declared.messages.Decision.{Decision}
use Rattle.pec_records.specs.declared.entries.Entry.{Entry}
use Rattle.pec_records.specs.declared.entries.Entry.TheVariants as entries
use Rattle.pec_ledger.specs.Steps.{half}
use Rattle.pec_plays.specs.Decisions.{decide, found_in_taken}
use Rattle.pec_plays.specs.TableSight.{mailbox_at}
use Rattle.pec_plays.proofs.SightLemmas.{decision_seen_so, may_decide, unscreened_decision}
use Rattle.pec_plays.proofs.reception.decisions_are_the_table.Goals as goal

pub returns : goal.returns
unfolding decide
returns c = record {
  table = λ trade provider half recipient found decision.
      let says = c.a_recipient_has_one_decision.ensures.function (mailbox_at trade provider half recipient found) decision
      in let same = decision_seen_so trade provider half recipient found
      in (λ e. says.0 (sym same ∙ e), λ is. same ∙ says.1 is);
  own = may_decide;
  unscreened = unscreened_decision;
  decided = λ trade provider now screens journal pair decision is.
      let found = found_in_taken trade provider screens journal pair.id
      in let h = half trade provider journal
      in let says = c.a_recipient_has_one_decision.ensures.function (mailbox_at trade provider h pair.recipient found) decision
      in ap (λ (d : Decision). let e : Option Entry = Some (entries.Decided now pair.id pair.recipient d) in e)
      (decision_seen_so trade provider h pair.recipient found ∙ says.1 is);
}
