use Rattle.std.proofs.Common.{◌≡◌, ◌+◌, List, ◌∷◌, [], ◌++◌, ◌∙◌, length, map, refl, sym, ap, subst, arith, rules, Err, length-append}
use Rattle.std.specs.Prelude.{IfSome}
use Rattle.std.specs.List.{All}
use Rattle.std.proofs.lemmas.Result.{err_from_is_err_and}
use Rattle.pec_outside.specs.Moments.{stays, stays_and}
use Rattle.pec_types.specs.Bytes.{Bytes}
use Rattle.pec_records.specs.Entry.{CanBeWritten, entry_text}
use Rattle.pec_records.specs.declared.entries.Entry.{Entry}
use Rattle.pec_ledger.specs.Trade.{Trade}
use Rattle.pec_chronicle.specs.Carrying.{with_entry}
use Rattle.pec_chronicle.specs.Opening.{place_behind}
use Rattle.pec_stock.specs.Opening.{IsHere}
use Rattle.pec_stock.specs.Stocking.{HasTaken}
use Rattle.pec_stock.proofs.OpeningLemmas.{only_disk, outside_by}
use Rattle.pec_stock.proofs.TakingLemmas.{here_more, own_goes_on, own_read, step_back, taken_more, unfit_next, unfit_step}
use Rattle.pec_stock.proofs.stocking.take_rest.Goals as goal

pub loop-entry-init : goal.loop-entry-init
loop-entry-init g c =
    record {
      taken = c.requires.taken;
      number = sym c.requires.first;
      here = λ trade is. is;
      reads = λ tells texts reads. reads;
      stays = λ tells. stays (g.D.Disk.sight c.args.opening.now.disk) (c.a_disk_is_so.ensures.now tells c.args.opening.now.disk);
      later = omega arith;
    }

pub loop-entry-preserved : goal.loop-entry-preserved
loop-entry-preserved g c =
    let inv = c.loop-entry.invariant in
    let read = c.loop-entry.opening.read in
    let entry = c.in-Some.entry in
    let some : c.next.new.self.read ≡ with_entry read entry =
    subst (λ o. IfSome o (λ next. c.next.new.self.read ≡ with_entry read next.0)) c.in-Some.is c.in_ok-entry.ensures.some in
    record {
      taken = subst (λ (l : List Entry). HasTaken c.args.directory.now c.args.shelf.now.me c.take_in.new.shelf l) (sym some)
          (taken_more c.args.directory.now c.args.shelf.now.me c.loop-entry.shelf read inv.taken c.take_in.new.shelf entry
          (c.in-Ok.ensures.taken read inv.taken.holds) c.take_in.ensures.me (λ trade of. c.in-Ok.ensures.step trade of));
      number = omega (arith, inv.number, ap length some, length-append read (entry ∷ []));
      here = λ trade is. subst (λ (l : List Entry). IsHere trade l) (sym some) (here_more trade read (entry ∷ []) (inv.here trade is));
      reads = λ tells texts was. c.next.ensures.reads tells texts (inv.reads tells texts was);
      stays = λ tells. stays_and _ _ _ (inv.stays tells) (c.next.ensures.stays tells);
      later = omega (arith, inv.later, c.next.ensures.later);
    }

pub take_in-requires : goal.take_in-requires
take_in-requires g c =
    let read = c.loop-entry.opening.read in
    let place : c.in-Some.place ≡ place_behind read c.in-Some.entry =
    subst (λ o. IfSome o (λ next. next.1 ≡ place_behind read next.0)) c.in-Some.is c.in_ok-entry.ensures.place in
    record { holds = (read, c.loop-entry.invariant.taken.holds, place) }

pub overflow_add-number : goal.overflow_add-number
overflow_add-number g c =
    let inv = c.loop-entry.invariant in omega (arith, inv.number, c.in-Ok.ensures.few c.loop-entry.opening.read inv.taken.holds)

-- what an opening answers
pub returns-in_err-entry-clause-unfit : goal.returns-in_err-entry-clause-unfit
returns-in_err-entry-clause-unfit g c = λ tells texts so_far trade of here.
    let p = err_from_is_err_and c.from_residual.result c.from_residual.ensures.1 in
    let inv = c.loop-entry.invariant in
    let me = c.args.shelf.now.me in
    let read = c.loop-entry.opening.read in
    rw (p.1, p.2) (unfit_next trade me (g.D.Disk.sight c.args.opening.now.disk).seen texts so_far.keeps.file c.in_err-entry.field-0.0 read
    (λ place is. c.in_err-entry.ensures.not_a_journal place (search rules))
    (λ n is. c.in_err-entry.ensures.bad_entry tells texts (inv.reads tells texts so_far) n (search rules))
    (own_read c.args.directory.now me c.loop-entry.shelf read inv.taken trade of (inv.here trade here)))

pub returns-in_err-entry-clause-outside : goal.returns-in_err-entry-clause-outside
returns-in_err-entry-clause-outside g c = λ tells list opens trade of own.
    let p = err_from_is_err_and c.from_residual.result c.from_residual.ensures.1 in
    let now = c.loop-entry.invariant.reads tells (map entry_text list) opens.reads in
    rw (p.1, p.2) (outside_by c.in_err-entry.field-0.0 (λ n. (
      λ is. c.in_err-entry.ensures.not_a_journal n (search rules),
      λ is. c.in_err-entry.ensures.refused tells list (record { reads = now; written = opens.written }) n (search rules),
    )))

pub returns-in_err-entry-clause-stays : goal.returns-in_err-entry-clause-stays
returns-in_err-entry-clause-stays g c = λ tells. stays_and _ _ _ (c.loop-entry.invariant.stays tells) (c.next.ensures.stays tells)

-- an entry that is no step
pub returns-in-Err-NotAStep-clause-unfit : goal.returns-in-Err-NotAStep-clause-unfit
returns-in-Err-NotAStep-clause-unfit g c = λ tells texts so_far trade of here.
    let inv = c.loop-entry.invariant in
    let me = c.args.shelf.now.me in
    let read = c.loop-entry.opening.read in
    let entry = c.in-Some.entry in
    let some : c.next.new.self.read ≡ with_entry read entry =
    subst (λ o. IfSome o (λ next. c.next.new.self.read ≡ with_entry read next.0)) c.in-Some.is c.in_ok-entry.ensures.some in
    let now = c.next.ensures.reads tells texts (inv.reads tells texts so_far) in
    unfit_step trade me (g.D.Disk.sight c.args.opening.now.disk).seen texts so_far.keeps.file c.an_entry_is_told_exactly.ensures
    read entry now.rest (now.is ∙ ap (λ (l : List Entry). map entry_text l ++ now.rest) some)
    (subst (λ (l : List Entry). All CanBeWritten l) some now.written) (inv.here trade here) (inv.taken.steps trade of)
    (λ step. c.in-Err-NotAStep.ensures.none trade of (ap (λ f. Err f) c.in-Err-NotAStep.field-0-is)
    (step_back c.args.directory.now me c.loop-entry.shelf read inv.taken trade of entry step))
    c.loop-entry.number inv.number

pub returns-in-Err-NotAStep-clause-outside : goal.returns-in-Err-NotAStep-clause-outside
returns-in-Err-NotAStep-clause-outside g c = λ tells list opens trade of own.
    let inv = c.loop-entry.invariant in
    let me = c.args.shelf.now.me in
    let read = c.loop-entry.opening.read in
    let entry = c.in-Some.entry in
    let some : c.next.new.self.read ≡ with_entry read entry =
    subst (λ o. IfSome o (λ next. c.next.new.self.read ≡ with_entry read next.0)) c.in-Some.is c.in_ok-entry.ensures.some in
    let now = c.next.ensures.reads tells (map entry_text list) (inv.reads tells (map entry_text list) opens.reads) in
    let one = c.texts_are_of_one_list.ensures list c.next.new.self.read now.rest now.is opens.written now.written in
    own_goes_on trade me list read one.0 entry own (one.1 ∙ ap (λ (l : List Entry). l ++ one.0) some) (inv.taken.steps trade of)
    (λ step. c.in-Err-NotAStep.ensures.none trade of (ap (λ f. Err f) c.in-Err-NotAStep.field-0-is)
    (step_back c.args.directory.now me c.loop-entry.shelf read inv.taken trade of entry step))
