use Rattle.std.proofs.Common.{◌≤◌, ap, sym, subst, ◌∙◌, refl}
use Rattle.pec_types.specs.Bytes.{Bytes, Path}
use Rattle.pec_records.specs.declared.entries.Entry.{Entry}
use Rattle.pec_records.specs.declared.entries.Entry.TheVariants as entries
use Rattle.pec_ledger.specs.OfDirectory.{recipients_named}
use Rattle.pec_ledger.specs.Own.{Own}
use Rattle.pec_ledger.specs.Steps.{moment_of}
use Rattle.pec_shelf.specs.Drafts.{facts_read, read_in}
use Rattle.pec_shelf.specs.Looked.{acceptances_seen, clock_seen}
use Rattle.pec_shelf.specs.Settled.{settled}
use Rattle.pec_shelf.proofs.StepLemmas.{accepted_there, at_entry, facts_are, named_is}
use Rattle.pec_shelf.proofs.preparing.rows_of.Goals as goal

pub facts-requires : goal.facts-requires
facts-requires c =
    let step = c.requires.step in
    let is = sym c.entry.ensures ∙ c.in-Accepted.is in
    let own = subst (λ (e : Entry). Own step.trade c.args.shelf.now.me c.args.shelf.now.half e) is step.step.own in
    (own.2.facts, ap read_in is ∙ ap facts_read (sym (step.of.facts c.in-Accepted.message) ∙ own.2.are))

pub accepted-requires : goal.accepted-requires
accepted-requires c =
    let step = c.requires.step in
    (subst (λ (e : Entry). Own step.trade c.args.shelf.now.me c.args.shelf.now.half e) (sym c.entry.ensures ∙ c.in-Accepted.is) step.step.own).0

pub not_accepted-requires : goal.not_accepted-requires
not_accepted-requires c =
    let step = c.requires.step in
    (subst (λ (e : Entry). Own step.trade c.args.shelf.now.me c.args.shelf.now.half e) (sym c.entry.ensures ∙ c.in-NotAccepted.is) step.step.own).0

pub named-requires : goal.named-requires
named-requires c = (recipients_named c.in-Took.message, ap read_in (sym c.entry.ensures ∙ c.in-Took.is))

pub learned-requires : goal.learned-requires
learned-requires c =
    let step = c.requires.step in
    let own = (subst (λ (e : Entry). Own step.trade c.args.shelf.now.me c.args.shelf.now.half e) (sym c.entry.ensures ∙ c.in-Learned.is) step.step.own).0 in
    accepted_there c.args.shelf.now.half _ own.message own.accepted

pub ticked-requires : goal.ticked-requires
ticked-requires c =
    let is = sym c.entry.ensures ∙ c.in-Ticked.is in
    record {
      in_time = subst (λ (e : Entry). c.args.shelf.now.half.last ≤ moment_of e) is c.requires.step.step.in_time;
      clock = c.requires.clock ∙ ap (clock_seen (acceptances_seen c.args.shelf.now)) is;
    }

pub returns-in-Accepted : goal.returns-in-Accepted
returns-in-Accepted c = λ trade for. at_entry (settled c.args.directory.now trade) c.args.shelf.now.me c.args.shelf.now.half c.args.draft.now _ c.accepted.result (sym c.entry.ensures ∙ c.in-Accepted.is ∙ ap (λ (s : Bytes). entries.Accepted c.in-Accepted.moment s c.in-Accepted.message) (sym c.shared-sender.ensures)) (c.accepted.ensures trade c.in-Accepted.message (facts_are c.args.draft.now c.in-Accepted.moment c.in-Accepted.sender c.in-Accepted.message c.facts.result.now (sym c.entry.ensures ∙ c.in-Accepted.is) c.facts.ensures))

pub returns-in-NotAccepted : goal.returns-in-NotAccepted
returns-in-NotAccepted c = λ trade for. at_entry (settled c.args.directory.now trade) c.args.shelf.now.me c.args.shelf.now.half c.args.draft.now _ c.not_accepted.result (sym c.entry.ensures ∙ c.in-NotAccepted.is ∙ ap (λ (p : Path). entries.NotAccepted c.in-NotAccepted.moment c.in-NotAccepted.sender c.in-NotAccepted.cause p c.in-NotAccepted.message) (sym c.as_slice.ensures)
    ∙ ap (λ (s : Bytes). entries.NotAccepted c.in-NotAccepted.moment s c.in-NotAccepted.cause c.as_slice.result.now c.in-NotAccepted.message) (sym c.shared.ensures)) (c.not_accepted.ensures (settled c.args.directory.now trade) c.in-NotAccepted.message)

pub returns-in-Took : goal.returns-in-Took
returns-in-Took c = λ trade for. at_entry (settled c.args.directory.now trade) c.args.shelf.now.me c.args.shelf.now.half c.args.draft.now _ c.took.result (sym c.entry.ensures ∙ c.in-Took.is) (c.took.ensures trade c.in-Took.message (named_is c.args.draft.now _ c.named.result.now _ (sym c.entry.ensures ∙ c.in-Took.is) c.named.ensures refl))

pub returns-in-Decided : goal.returns-in-Decided
returns-in-Decided c = λ trade for. at_entry (settled c.args.directory.now trade) c.args.shelf.now.me c.args.shelf.now.half c.args.draft.now _ c.decided.result (sym c.entry.ensures ∙ c.in-Decided.is ∙ ap (λ (r : Bytes). entries.Decided c.in-Decided.moment c.in-Decided.id r c.in-Decided.decision) (sym c.shared-in-Decided.ensures)) (c.decided.ensures (settled c.args.directory.now trade))

pub returns-in-Charged : goal.returns-in-Charged
returns-in-Charged c = λ trade for. at_entry (settled c.args.directory.now trade) c.args.shelf.now.me c.args.shelf.now.half c.args.draft.now _ c.charged.result (sym c.entry.ensures ∙ c.in-Charged.is) (c.charged.ensures (settled c.args.directory.now trade))

pub returns-in-Learned : goal.returns-in-Learned
returns-in-Learned c = λ trade for. at_entry (settled c.args.directory.now trade) c.args.shelf.now.me c.args.shelf.now.half c.args.draft.now _ c.learned.result (sym c.entry.ensures ∙ c.in-Learned.is ∙ ap (λ (r : Bytes). entries.Learned c.in-Learned.moment c.in-Learned.id r c.in-Learned.decision c.in-Learned.decided c.in-Learned.message) (sym c.shared-recipient.ensures)) (c.learned.ensures (settled c.args.directory.now trade) c.in-Learned.message)

pub returns-in-Acked : goal.returns-in-Acked
returns-in-Acked c = λ trade for. at_entry (settled c.args.directory.now trade) c.args.shelf.now.me c.args.shelf.now.half c.args.draft.now _ c.acked.result (sym c.entry.ensures ∙ c.in-Acked.is ∙ ap (λ (r : Bytes). entries.Acked c.in-Acked.moment c.in-Acked.id r) (sym c.shared-in-Acked.ensures)) (c.acked.ensures (settled c.args.directory.now trade) c.in-Acked.moment)

pub returns-in-Ticked : goal.returns-in-Ticked
returns-in-Ticked c = λ trade for. at_entry (settled c.args.directory.now trade) c.args.shelf.now.me c.args.shelf.now.half c.args.draft.now _ c.ticked.result (sym c.entry.ensures ∙ c.in-Ticked.is) (c.ticked.ensures (settled c.args.directory.now trade) for)

pub returns-in-Anomaly : goal.returns-in-Anomaly
returns-in-Anomaly c = λ trade for. at_entry (settled c.args.directory.now trade) c.args.shelf.now.me c.args.shelf.now.half c.args.draft.now _ c.anomaly.result (sym c.entry.ensures ∙ c.in-Anomaly.is ∙ ap (λ (p : Path). entries.Anomaly c.in-Anomaly.moment p c.in-Anomaly.message) (sym c.as_slice-in-Anomaly.ensures)) (c.anomaly.ensures (settled c.args.directory.now trade) c.in-Anomaly.message)

pub returns-in-Archived : goal.returns-in-Archived
returns-in-Archived c = λ trade for. at_entry (settled c.args.directory.now trade) c.args.shelf.now.me c.args.shelf.now.half c.args.draft.now _ c.archived.result (sym c.entry.ensures ∙ c.in-Archived.is ∙ ap (λ (r : Bytes). entries.Archived c.in-Archived.moment r c.in-Archived.place) (sym c.shared-in-Archived.ensures)) (c.archived.ensures (settled c.args.directory.now trade) c.in-Archived.moment)
