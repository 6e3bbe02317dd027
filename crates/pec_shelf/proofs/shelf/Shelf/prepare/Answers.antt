-- What is answered of the shelf of which acceptances were looked up is so for the shelf as it was.
use Rattle.std.proofs.Common.{◌≡◌, ℕ, ◌≤◌, sym, ap, subst}
use Rattle.pec_records.specs.declared.entries.Entry.{Entry}
use Rattle.pec_ledger.specs.Steps.{moment_of}
use Rattle.pec_shelf.specs.Looked.{LookedSo, acceptances_seen, clock_seen}
use Rattle.pec_shelf.specs.Seen.{IsFor, Seen}
use Rattle.pec_shelf.proofs.StepLemmas.{came_from, follows_still, holds_looked, holds_roomy, looked_is, prepared_still, room_for}
use Rattle.pec_shelf.proofs.shelf.Shelf.prepare.Goals as goal

pub prepared-requires : goal.prepared-requires
prepared-requires c = record {
  homes = λ trade of. subst (λ (s : Seen). IsFor trade s) (sym c.look-clock.ensures.same) (c.requires.homes trade of);
  step = follows_still c.args.directory.now c.args.self.now c.look-clock.new.self c.args.draft.now c.look-clock.ensures.same c.requires.step;
  clock = subst (λ (s : Seen). c.look-clock.result ≡ clock_seen (acceptances_seen s) c.args.draft.now) (sym c.look-clock.ensures.same)
      (subst (λ (e : Entry). c.look-clock.result ≡ clock_seen (acceptances_seen c.args.self.now) e) c.entry.ensures
      (c.look-clock.ensures.clock (subst (λ (e : Entry). c.args.self.now.half.last ≤ moment_of e) (sym c.entry.ensures) c.requires.step.step.in_time)));
}

pub returns-clause-is : goal.returns-clause-is
returns-clause-is c = λ trade of.
    prepared_still trade c.args.self.now c.look-clock.new.self c.args.draft.now c.args.place c.in_ok-ready.ready c.look-clock.ensures.same (c.in_ok-ready.ensures.is trade of)

pub returns-clause-came : goal.returns-clause-came
returns-clause-came c =
    came_from c.args.directory.now c.args.self.now c.reserve.new.self c.args.draft.now c.args.place c.in_ok-ready.ready
    (holds_roomy c.args.self.now c.look-clock.new.self c.reserve.new.self c.look-clock.ensures.same c.reserve.ensures.same) c.requires.homes c.requires.step
    (λ trade of. prepared_still trade c.args.self.now c.look-clock.new.self c.args.draft.now c.args.place c.in_ok-ready.ready c.look-clock.ensures.same (c.in_ok-ready.ensures.is trade of))

pub returns-clause-room : goal.returns-clause-room
returns-clause-room c =
    room_for c.look-clock.new.self c.reserve.new.self c.in_ok-ready.ready c.rows.result c.reserve.ensures.same c.rows.ensures c.in_ok-reserve.ensures.room
    c.in_ok-ready.ensures.entries c.in_ok-ready.ensures.bytes

pub returns-clause-same : goal.returns-clause-same
returns-clause-same c = holds_roomy c.args.self.now c.look-clock.new.self c.reserve.new.self c.look-clock.ensures.same c.reserve.ensures.same

pub returns-clause-looked : goal.returns-clause-looked
returns-clause-looked c = λ trade of.
    looked_is trade c.args.self.now c.args.draft.now c.reserve.new.self.looks c.args.steps.now c.look-clock.new.steps _ (c.requires.homes trade of)
    (subst (λ (n : ℕ). LookedSo c.args.self.now c.args.draft.now n c.args.steps.now c.look-clock.new.steps) (sym (ap (λ (s : Seen). s.looks) c.reserve.ensures.same))
    (subst (λ (e : Entry). LookedSo c.args.self.now e c.look-clock.new.self.looks c.args.steps.now c.look-clock.new.steps) c.entry.ensures c.look-clock.ensures.looked))
    (λ ok. c.requires.step.step.in_time)

pub returns-in_err-ready-clause-same : goal.returns-in_err-ready-clause-same
returns-in_err-ready-clause-same c = holds_looked c.args.self.now c.look-clock.new.self c.look-clock.ensures.same

pub returns-in_err-ready-clause-looked : goal.returns-in_err-ready-clause-looked
returns-in_err-ready-clause-looked c = λ trade of.
    looked_is trade c.args.self.now c.args.draft.now c.look-clock.new.self.looks c.args.steps.now c.look-clock.new.steps _ (c.requires.homes trade of)
    (subst (λ (e : Entry). LookedSo c.args.self.now e c.look-clock.new.self.looks c.args.steps.now c.look-clock.new.steps) c.entry.ensures c.look-clock.ensures.looked)
    (λ ok. c.requires.step.step.in_time)

pub returns-in_err-reserve-clause-same : goal.returns-in_err-reserve-clause-same
returns-in_err-reserve-clause-same c = holds_roomy c.args.self.now c.look-clock.new.self c.reserve.new.self c.look-clock.ensures.same c.reserve.ensures.same

pub returns-in_err-reserve-clause-looked : goal.returns-in_err-reserve-clause-looked
returns-in_err-reserve-clause-looked c = λ trade of.
    looked_is trade c.args.self.now c.args.draft.now c.reserve.new.self.looks c.args.steps.now c.look-clock.new.steps _ (c.requires.homes trade of)
    (subst (λ (n : ℕ). LookedSo c.args.self.now c.args.draft.now n c.args.steps.now c.look-clock.new.steps) (sym (ap (λ (s : Seen). s.looks) c.reserve.ensures.same))
    (subst (λ (e : Entry). LookedSo c.args.self.now e c.look-clock.new.self.looks c.args.steps.now c.look-clock.new.steps) c.entry.ensures c.look-clock.ensures.looked))
    (λ ok. c.requires.step.step.in_time)
