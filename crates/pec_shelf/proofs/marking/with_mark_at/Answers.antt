use Rattle.std.proofs.Common.{◌≡◌, ℕ, List, [], ◌∷◌, Some, slice_get, sym, ap, ◌∙◌, arith}
use Rattle.std.specs.List.{filter_map}
use Rattle.std.proofs.lemmas.Option.{slice_get_within}
use Rattle.pec_ledger.specs.Pairs.{id_of}
use Rattle.pec_shelf.specs.Deadlines.{mark_if, mark_there, mark_within}
use Rattle.pec_shelf.specs.Lines.{mark_at}
use Rattle.pec_shelf.specs.Prepared.{with_marks}
use Rattle.pec_shelf.specs.Seen.{Seen}
use Rattle.pec_shelf.specs.declared.certified.Certified.{Certified}
use Rattle.pec_shelf.proofs.MarkLemmas.{submitter_is}
use Rattle.pec_shelf.proofs.marking.with_mark_at.Goals as goal

pub invariant_of-id : goal.invariant_of-id
invariant_of-id c =
    let within = slice_get_within c.args.outbox.now.messages c.in-Some.spot.number c.in-Some-message.row.now (sym c.in-Some-message.ensures) in
    omega (arith, within, c.requires.few)

pub push_mark-requires : goal.push_mark-requires
push_mark-requires c =
    submitter_is c.args.shelf.now.half c.args.outbox.now.messages c.in-Some.spot.number c.in-Some-message.row.now c.sender.result.now c.requires.all (sym c.in-Some-message.ensures) c.sender.ensures

pub returns : goal.returns
returns c =
    let me = c.args.shelf.now.me in
    let half = c.args.shelf.now.half in
    let spot = c.in-Some.spot in
    let row = c.in-Some-message.row.now in
    let recipient = c.in-Some-recipient_at.recipient.now in
    let got : slice_get row.certified spot.index ≡ Some recipient =
    ap (λ (cs : List Certified). slice_get cs spot.index) (sym c.certified.ensures) ∙ sym c.in-Some-recipient_at.ensures in
    let there = ap (mark_there me half c.args.now c.args.outbox.now.messages) (sym c.in-Some.ensures)
    ∙ ap (mark_within me half c.args.now spot) (sym c.in-Some-message.ensures) ∙ ap (mark_if half c.args.now (id_of me spot.number) row.message.moment) got in
    c.in_ok-push_mark.ensures
    ∙ ap (λ (m : ℕ). with_marks half c.args.ready (filter_map (mark_at half c.args.now (id_of m spot.number) c.moment.result) (recipient ∷ []))) (ap (λ (s : Seen). s.me) c.shelf.view_is)
    ∙ ap (λ (a : ℕ). with_marks half c.args.ready (filter_map (mark_at half c.args.now (id_of me spot.number) a) (recipient ∷ []))) c.moment.ensures
    ∙ ap (with_marks half c.args.ready) (sym there)
