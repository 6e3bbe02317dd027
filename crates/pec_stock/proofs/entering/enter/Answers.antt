use Rattle.std.proofs.Common.{refl, sym, ap, subst, ◌∙◌, ◌<◌, ℕ, is_ok}
use Rattle.pec_types.specs.declared.moments.TheConstants.{END_OF_TIME}
use Rattle.pec_records.specs.Entry.{entry_text}
use Rattle.pec_records.specs.declared.entries.Entry.{Entry}
use Rattle.pec_ledger.specs.Steps.{moment_of}
use Rattle.pec_shelf.specs.Looked.{Looked}
use Rattle.pec_stock.proofs.Agreeing.{agree_failed, agree_still, agree_taken, entered_from, failed_from, same_but_room}
use Rattle.pec_stock.proofs.CarryLemmas.{reserve_alone, reserve_and_append}
use Rattle.pec_stock.proofs.LookLemmas.{looked_none, looked_through, never_ok}
use Rattle.pec_stock.proofs.OpeningLemmas.{end_agrees}
use Rattle.pec_stock.proofs.PlaceLemmas.{place_at, place_push}
use Rattle.pec_stock.proofs.RoomLemmas.{within_limit}
use Rattle.pec_stock.proofs.WorldLemmas.{same_step}
use Rattle.pec_stock.proofs.entering.enter.Goals as goal

pub returns-in_err-encoded-clause-agree : goal.returns-in_err-encoded-clause-agree
returns-in_err-encoded-clause-agree g c =
    agree_still c.args.directory.now c.args.chronicle.now c.reserve.new.self c.args.shelf.now c.args.shelf.now c.requires.agree
    (same_but_room c.args.chronicle.now c.reserve.new.self _ c.reserve.ensures.same) (refl, refl, refl, refl, refl)

pub returns-in_err-encoded-clause-carries : goal.returns-in_err-encoded-clause-carries
returns-in_err-encoded-clause-carries g c tells =
    reserve_alone g.D.Disk.sight c.args.draft.now c.args.chronicle.now c.reserve.new.self c.reserve.new.self (c.reserve.ensures.carries tells)

pub returns-in_err-ready-clause-agree : goal.returns-in_err-ready-clause-agree
returns-in_err-ready-clause-agree g c =
    agree_still c.args.directory.now c.args.chronicle.now c.reserve.new.self c.args.shelf.now c.prepare.new.self c.requires.agree
    (same_but_room c.args.chronicle.now c.reserve.new.self _ c.reserve.ensures.same) c.prepare.ensures.same

pub returns-in_err-ready-clause-carries : goal.returns-in_err-ready-clause-carries
returns-in_err-ready-clause-carries g c tells =
    reserve_alone g.D.Disk.sight c.args.draft.now c.args.chronicle.now c.reserve.new.self c.reserve.new.self (c.reserve.ensures.carries tells)

-- what is appended
pub returns-in_err-append-clause-agree : goal.returns-in_err-append-clause-agree
returns-in_err-append-clause-agree g c =
    agree_failed c.args.directory.now c.args.chronicle.now c.append.new.chronicle c.args.shelf.now c.prepare.new.self c.requires.agree
    c.args.draft.now c.requires.up (λ trade of. same_step c.args.directory.now c.requires.step.trade trade c.requires.step.of of c.args.shelf.now.me c.args.shelf.now.half
    c.args.draft.now c.requires.step.step) c.in_err-append.field-0.0
    (failed_from c.args.chronicle.now c.reserve.new.self c.append.new.chronicle c.in_ok-encoded.encoded c.args.draft.now
    (same_but_room c.args.chronicle.now c.reserve.new.self _ c.reserve.ensures.same) (c.in_ok-encoded.ensures.encoded ∙ c.entry-entry.ensures)
    c.in_err-append.field-0.0 c.in_err-append.ensures.failed)
    c.prepare.ensures.same

pub returns-in_err-append-clause-carries : goal.returns-in_err-append-clause-carries
returns-in_err-append-clause-carries g c tells =
    reserve_and_append g.D.Disk.sight c.args.draft.now c.args.chronicle.now c.reserve.new.self c.append.new.chronicle
    c.in_ok-encoded.encoded (c.in_ok-encoded.ensures.encoded ∙ c.entry-entry.ensures) (ap (λ s. s.entries) c.reserve.ensures.same)
    (c.reserve.ensures.carries tells) (c.append.ensures.carries tells)

pub returns-clause-agree : goal.returns-clause-agree
returns-clause-agree g c =
    let kept = c.args.directory.now in
    let entry = c.args.draft.now in
    let place = c.next_place-place.result in
    let step = c.requires.step in
    let is = c.in_ok-ready.ensures.is in
    let same = same_but_room c.args.chronicle.now c.reserve.new.self _ c.reserve.ensures.same in
    let came = entered_from c.args.chronicle.now c.reserve.new.self c.append.new.chronicle c.in_ok-encoded.encoded entry same
    (c.in_ok-encoded.ensures.encoded ∙ c.entry-entry.ensures) c.in_ok-append.ensures.entered in
    let ends = same.end ∙ c.requires.agree.ends c.requires.up in
    let fits = within_limit c.reserve.new.self.end c.in_ok-encoded.encoded c.in_ok-append.ensures.entered.fits in
    agree_taken kept c.args.chronicle.now c.append.new.chronicle c.args.shelf.now c.commit.new.self c.requires.agree
    entry c.requires.up (λ trade of. same_step kept step.trade trade step.of of c.args.shelf.now.me c.args.shelf.now.half entry step.step)
    c.in_ok-ready.ready c.prepare.new.self place step.trade step.of c.prepare.ensures.same c.commit.ensures.after is
    (λ trade s t e p goes. c.what_is_kept_goes_on.ensures.half trade s t e p goes)
    (λ trade s t e p for goes. c.what_is_kept_goes_on.ensures.homes trade s t e p for goes)
    (subst (λ (n : ℕ). n < END_OF_TIME) (c.moment_of.ensures.value ∙ ap moment_of c.entry-entry.ensures) c.moment_of.ensures.below)
    (place_push c.entries_stand_at_their_places.ensures.more c.args.chronicle.now.entries entry c.reserve.new.self.end place
    (ends ∙ end_agrees kept c.args.shelf.now c.args.chronicle.now.entries step.trade step.of c.requires.agree.holds)
    (c.next_place-place.ensures fits ∙ ap (λ (e : Entry). place_at c.reserve.new.self.end (entry_text e)) (c.in_ok-encoded.ensures.encoded ∙ c.entry-entry.ensures)))
    came

pub returns-clause-carries : goal.returns-clause-carries
returns-clause-carries g c tells =
    reserve_and_append g.D.Disk.sight c.args.draft.now c.args.chronicle.now c.reserve.new.self c.append.new.chronicle
    c.in_ok-encoded.encoded (c.in_ok-encoded.ensures.encoded ∙ c.entry-entry.ensures) (ap (λ s. s.entries) c.reserve.ensures.same)
    (c.reserve.ensures.carries tells) (c.append.ensures.carries tells)

pub returns-in_err-encoded-clause-looked : goal.returns-in_err-encoded-clause-looked
returns-in_err-encoded-clause-looked g c = λ trade of.
    looked_none trade c.args.shelf.now c.args.draft.now c.args.steps.now c.from_residual.result
    (never_ok c.from_residual.result c.from_residual.ensures.0)

pub returns-in_err-ready-clause-looked : goal.returns-in_err-ready-clause-looked
returns-in_err-ready-clause-looked g c = λ trade of.
    looked_through trade c.args.shelf.now c.args.draft.now c.prepare.new.self.looks c.args.steps.now c.prepare.new.steps c.prepare.result
    c.from_residual-in_err-ready.result
    (λ ok. absurd (never_ok c.from_residual-in_err-ready.result c.from_residual-in_err-ready.ensures.0 ok)) (c.prepare.ensures.looked trade of)

pub returns-in_err-append-clause-looked : goal.returns-in_err-append-clause-looked
returns-in_err-append-clause-looked g c = λ trade of.
    looked_through trade c.args.shelf.now c.args.draft.now c.prepare.new.self.looks c.args.steps.now c.prepare.new.steps c.prepare.result
    c.from_residual-in_err-append.result
    (λ ok. absurd (never_ok c.from_residual-in_err-append.result c.from_residual-in_err-append.ensures.0 ok)) (c.prepare.ensures.looked trade of)

pub returns-clause-looked : goal.returns-clause-looked
returns-clause-looked g c = λ trade of.
    looked_through trade c.args.shelf.now c.args.draft.now c.commit.new.self.looks c.args.steps.now c.prepare.new.steps c.prepare.result _
    (λ ok. ap is_ok c.in_ok-ready.was)
    (subst (λ (n : ℕ). Looked trade c.args.shelf.now c.args.draft.now n c.args.steps.now c.prepare.new.steps c.prepare.result) (sym c.commit.ensures.looks)
    (c.prepare.ensures.looked trade of))
