-- The receipt is composed of the original that the entry holds, where that names the recipient.
use Rattle.std.proofs.Common.{List, Option, ap, sym, ◌∙◌}
use Rattle.std.proofs.lemmas.Bool.{false≢true}
use Rattle.std.proofs.lemmas.Option.{same_Some}
use Rattle.pec_types.specs.Bytes.{Bytes}
use Rattle.pec_types.specs.declared.messages.Facts.{Facts}
use Rattle.pec_types.specs.declared.messages.Recipient.{Recipient}
use Rattle.pec_trade.specs.Houses.{world_at}
use Rattle.pec_outgoing.specs.Needs.{is_among, is_named_in}
use Rattle.pec_outgoing.proofs.letters.outcome.Goals as goal

pub returns-then-not-is_among-clause-changed : goal.returns-then-not-is_among-clause-changed
returns-then-not-is_among-clause-changed g c changed original holds =
    let trade = world_at c.args.desk.now.house.now in
    let recipient = c.args.recipient.now in
    let found = c.in_ok-found.ensures in
    absurd (false≢true (sym c.if-not-is_among.true
    ∙ c.is_among.ensures
    ∙ ap (λ (all : List Recipient). is_among all recipient) c.as_slice.ensures
    ∙ sym (ap (λ (facts : Option Facts). is_named_in facts recipient) found.facts)
    ∙ ap (λ (bytes : Bytes). is_named_in (trade.facts bytes) recipient)
    (same_Some c.in_ok-found.found.bytes.now original (sym found.holds ∙ holds.0))
    ∙ holds.1))

pub returns-clause-composed : goal.returns-clause-composed
returns-clause-composed g c =
    let recipient = c.args.recipient.now in
    record {
      original = c.in_ok-found.found.bytes.now;
      holds = (
        c.in_ok-found.ensures.holds,
        ap (λ (facts : Option Facts). is_named_in facts recipient) c.in_ok-found.ensures.facts
            ∙ sym (ap (λ (all : List Recipient). is_among all recipient) c.as_slice.ensures)
            ∙ sym c.is_among.ensures
            ∙ c.if-not-is_among.false,
      );
      is = c.in_ok-letter.ensures;
    }
