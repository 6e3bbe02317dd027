-- What contracts see of the crate's types: without where their bytes lie in memory.
use Rattle.std.specs.Option.{option_map}
use Rattle.pec_ledger.specs.Lookups.{Accepted}
use Rattle.pec_outgoing.specs.ItemNeeds.{AnomalyWanted, EnvelopeWanted, OutcomeWanted, ReceiptWanted, RefusalWanted, Wanted}
use Rattle.pec_outgoing.specs.Needs.{AckAsked, Asked, ChargeAsked, EnvelopeAsked, OutcomeAsked}
use Rattle.pec_outgoing.specs.declared.asking.Asked.{Asked as SomeAsked}
use Rattle.pec_outgoing.specs.declared.asking.Asked.TheVariants as asked
use Rattle.pec_outgoing.specs.declared.asking.Own.{Own}
use Rattle.pec_outgoing.specs.declared.wanting.Wanted.{Wanted as SomeWanted}
use Rattle.pec_outgoing.specs.declared.wanting.Wanted.TheVariants as wanted

-- an accepted message
abbrev pub own_shown : Own → Accepted
own_shown own = record {
  moment = own.row.now.message.moment;
  sender = own.row.now.message.sender;
  facts = own.facts.now;
  entry = own.row.now.message.entry;
}

-- what a letter asks for
abbrev pub asked_shown : SomeAsked → Asked
asked_shown (asked.Envelope id to message) = EnvelopeAsked id to (own_shown message)
asked_shown (asked.Charge id row) = ChargeAsked id row.now
asked_shown (asked.Outcome id recipient fate row) = OutcomeAsked id recipient.now fate.now row.now
asked_shown (asked.Ack id recipient known message) = AckAsked id recipient.now known.now (own_shown message)

-- what an item wants
abbrev pub wanted_shown : SomeWanted → Wanted
wanted_shown (wanted.Envelope id row) = EnvelopeWanted id row.now
wanted_shown (wanted.Outcome number id recipient) = OutcomeWanted number id recipient.now
wanted_shown (wanted.Refusal number id row) = RefusalWanted number id (option_map (λ found. found.now.message) row)
wanted_shown (wanted.Receipt kind id recipient moment message) =
    ReceiptWanted kind id recipient.now moment (own_shown message)
wanted_shown (wanted.Anomaly number moment) = AnomalyWanted number moment
