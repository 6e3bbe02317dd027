use Rattle.std.proofs.Common.{IfOk, IsTrue, ◌↔◌, ap, sym, subst, ◌∙◌, refl}
use Rattle.pec_types.specs.Bytes.{Path}
use Rattle.pec_records.specs.declared.entries.Entry.{Entry}
use Rattle.pec_records.specs.declared.entries.Entry.TheVariants as entries
use Rattle.pec_ledger.specs.OfDirectory.{recipients_named}
use Rattle.pec_ledger.specs.Own.{Own}
use Rattle.pec_shelf.specs.Drafts.{read_in}
use Rattle.pec_shelf.specs.Settled.{settled}
use Rattle.pec_shelf.proofs.StepLemmas.{named_is, own_at}
use Rattle.pec_shelf.proofs.checking.is_own.Goals as goal

pub named-requires : goal.named-requires
named-requires c = (recipients_named c.in-Took.message, ap read_in (sym c.entry.ensures ∙ c.in-Took.is))

pub returns-in-Start : goal.returns-in-Start
returns-in-Start c = λ trade for.
    subst (λ (e : Entry). IfOk c.is_start.result (λ own. IsTrue own ↔ Own (settled c.args.directory.now trade) c.args.shelf.now.me c.args.shelf.now.half e))
    (sym (sym c.entry.ensures ∙ c.in-Start.is)) (c.is_start.ensures trade)

pub returns-in-StartTwo : goal.returns-in-StartTwo
returns-in-StartTwo c = λ trade for.
    subst (λ (e : Entry). IfOk c.is_start-in-StartTwo.result (λ own. IsTrue own ↔ Own (settled c.args.directory.now trade) c.args.shelf.now.me c.args.shelf.now.half e))
    (sym (sym c.entry.ensures ∙ c.in-StartTwo.is)) (c.is_start-in-StartTwo.ensures trade)

pub returns-in-Upgraded : goal.returns-in-Upgraded
returns-in-Upgraded c = λ trade for. own_at (settled c.args.directory.now trade) c.args.shelf.now.me c.args.shelf.now.half c.args.draft.now _ c.may_upgrade.result (sym c.entry.ensures ∙ c.in-Upgraded.is) (c.may_upgrade.ensures (settled c.args.directory.now trade) c.in-Upgraded.moment)

pub returns-in-Archived : goal.returns-in-Archived
returns-in-Archived c = λ trade for. own_at (settled c.args.directory.now trade) c.args.shelf.now.me c.args.shelf.now.half c.args.draft.now _ c.may_archive.result (sym c.entry.ensures ∙ c.in-Archived.is) (c.may_archive.ensures trade c.in-Archived.moment)

pub returns-in-Accepted : goal.returns-in-Accepted
returns-in-Accepted c = λ trade for. own_at (settled c.args.directory.now trade) c.args.shelf.now.me c.args.shelf.now.half c.args.draft.now _ c.may_accept.result (sym c.entry.ensures ∙ c.in-Accepted.is) (c.may_accept.ensures trade c.in-Accepted.moment c.in-Accepted.message (c.read.ensures ∙ ap read_in (sym c.entry.ensures ∙ c.in-Accepted.is)))

pub returns-in-NotAccepted : goal.returns-in-NotAccepted
returns-in-NotAccepted c = λ trade for. own_at (settled c.args.directory.now trade) c.args.shelf.now.me c.args.shelf.now.half c.args.draft.now _ c.may_refuse.result (sym c.entry.ensures ∙ c.in-NotAccepted.is ∙ ap (λ (p : Path). entries.NotAccepted c.in-NotAccepted.moment c.in-NotAccepted.sender c.in-NotAccepted.cause p c.in-NotAccepted.message) (sym c.as_slice.ensures)) (c.may_refuse.ensures trade c.in-NotAccepted.moment c.in-NotAccepted.cause c.in-NotAccepted.message)

pub returns-in-Took : goal.returns-in-Took
returns-in-Took c = λ trade for. own_at (settled c.args.directory.now trade) c.args.shelf.now.me c.args.shelf.now.half c.args.draft.now _ c.may_take.result (sym c.entry.ensures ∙ c.in-Took.is) (c.may_take.ensures trade c.in-Took.moment c.in-Took.message (named_is c.args.draft.now _ c.named.result.now _ (sym c.entry.ensures ∙ c.in-Took.is) c.named.ensures refl))

pub returns-in-Decided : goal.returns-in-Decided
returns-in-Decided c = λ trade for. own_at (settled c.args.directory.now trade) c.args.shelf.now.me c.args.shelf.now.half c.args.draft.now _ c.may_decide_on.result (sym c.entry.ensures ∙ c.in-Decided.is) (c.may_decide_on.ensures trade c.in-Decided.moment)

pub returns-in-Charged : goal.returns-in-Charged
returns-in-Charged c = λ trade for. own_at (settled c.args.directory.now trade) c.args.shelf.now.me c.args.shelf.now.half c.args.draft.now _ c.may_charge.result (sym c.entry.ensures ∙ c.in-Charged.is) (c.may_charge.ensures (settled c.args.directory.now trade) c.in-Charged.moment for)

pub returns-in-Learned : goal.returns-in-Learned
returns-in-Learned c = λ trade for. own_at (settled c.args.directory.now trade) c.args.shelf.now.me c.args.shelf.now.half c.args.draft.now _ c.may_learn.result (sym c.entry.ensures ∙ c.in-Learned.is) (c.may_learn.ensures (settled c.args.directory.now trade) c.in-Learned.moment c.in-Learned.decision c.in-Learned.decided c.in-Learned.message for)

pub returns-in-Acked : goal.returns-in-Acked
returns-in-Acked c = λ trade for. own_at (settled c.args.directory.now trade) c.args.shelf.now.me c.args.shelf.now.half c.args.draft.now _ c.may_acknowledge.result (sym c.entry.ensures ∙ c.in-Acked.is) (c.may_acknowledge.ensures (settled c.args.directory.now trade) c.in-Acked.moment)

pub returns-in-Anomaly : goal.returns-in-Anomaly
returns-in-Anomaly c = λ trade for. own_at (settled c.args.directory.now trade) c.args.shelf.now.me c.args.shelf.now.half c.args.draft.now _ c.may_place_anomaly.result (sym c.entry.ensures ∙ c.in-Anomaly.is ∙ ap (λ (p : Path). entries.Anomaly c.in-Anomaly.moment p c.in-Anomaly.message) (sym c.as_slice-in-Anomaly.ensures)) (c.may_place_anomaly.ensures trade c.in-Anomaly.moment c.in-Anomaly.message)
