use Rattle.std.proofs.Common.{◌≡◌, ◌∙◌, ◌∷◌, [], ◌++◌, List, length, map, sym, ap, subst, rules}
use Rattle.std.specs.Prelude.{IfSome}
use Rattle.std.specs.List.{All}
use Rattle.std.proofs.lemmas.Result.{err_from_is_err_and}
use Rattle.pec_types.specs.Bytes.{Bytes}
use Rattle.pec_records.specs.Entry.{CanBeWritten, entry_text}
use Rattle.pec_records.specs.declared.entries.Entry.{Entry}
use Rattle.pec_chronicle.specs.Carrying.{with_entry}
use Rattle.pec_chronicle.specs.Opening.{StopsAtBad}
use Rattle.pec_stock.specs.Opening.{IsHere}
use Rattle.pec_stock.proofs.OpeningLemmas.{outside_by}
use Rattle.pec_stock.proofs.TakingLemmas.{no_text, own_empty, own_starts, unfit_empty, unfit_first, unfit_start}
use Rattle.pec_stock.proofs.opening.take_first.Goals as goal

pub returns-in_err-entry-clause-unfit : goal.returns-in_err-entry-clause-unfit
returns-in_err-entry-clause-unfit g c = λ tells texts so_far trade of.
    let p = err_from_is_err_and c.from_residual.result c.from_residual.ensures.1 in
    rw (p.1, p.2) (unfit_first trade c.args.shelf.now.me (g.D.Disk.sight c.args.opening.now.disk).seen texts so_far.keeps.file c.in_err-entry.field-0.0
    (λ place is. c.in_err-entry.ensures.not_a_journal place (search rules))
    (λ n is. subst (λ (l : List Entry). StopsAtBad n l texts) c.requires.fresh (c.in_err-entry.ensures.bad_entry tells texts so_far n (search rules))))

pub returns-in_err-entry-clause-outside : goal.returns-in_err-entry-clause-outside
returns-in_err-entry-clause-outside g c = λ tells list opens trade of own.
    let p = err_from_is_err_and c.from_residual.result c.from_residual.ensures.1 in
    rw (p.1, p.2) (outside_by c.in_err-entry.field-0.0 (λ n. (
      λ is. c.in_err-entry.ensures.not_a_journal n (search rules),
      λ is. c.in_err-entry.ensures.refused tells list opens n (search rules),
    )))

-- no entry
pub returns-in_default-clause-unfit : goal.returns-in_default-clause-unfit
returns-in_default-clause-unfit g c = λ tells texts so_far trade of.
    let none : length c.args.opening.now.places ≡ 0 = sym (c.in_ok-entry.ensures.none c.in_default.is).1 ∙ ap length c.requires.fresh in
    unfit_empty trade c.args.shelf.now.me (g.D.Disk.sight c.args.opening.now.disk).seen texts so_far.keeps.file
    (no_text texts (ap length (sym so_far.places) ∙ none))

pub returns-in_default-clause-outside : goal.returns-in_default-clause-outside
returns-in_default-clause-outside g c = λ tells list opens trade of own.
    let none : length c.args.opening.now.places ≡ 0 = sym (c.in_ok-entry.ensures.none c.in_default.is).1 ∙ ap length c.requires.fresh in
    own_empty trade c.args.shelf.now.me list own (no_text (map entry_text list) (ap length (sym opens.reads.places) ∙ none))

-- the first entry
pub returns-in_err-take_start-clause-unfit : goal.returns-in_err-take_start-clause-unfit
returns-in_err-take_start-clause-unfit g c = λ tells texts so_far trade of.
    let p = err_from_is_err_and c.from_residual-in_err-take_start.result c.from_residual-in_err-take_start.ensures.1 in
    let now = c.next.ensures.reads tells texts so_far in
    let entry = c.in-Some.entry in
    let some : c.next.new.self.read ≡ with_entry c.args.opening.now.read entry =
    subst (λ o. IfSome o (λ next. c.next.new.self.read ≡ with_entry c.args.opening.now.read next.0)) c.in-Some.is c.in_ok-entry.ensures.some in
    let one = some ∙ ap (λ (l : List Entry). l ++ entry ∷ []) c.requires.fresh in
    rw (p.1, p.2) (unfit_start trade c.args.shelf.now.me (g.D.Disk.sight c.args.opening.now.disk).seen texts so_far.keeps.file
    c.an_entry_is_told_exactly.ensures entry now.rest (now.is ∙ ap (λ (l : List Entry). map entry_text l ++ now.rest) one)
    (subst (λ (l : List Entry). All CanBeWritten l) one now.written) c.in_err-take_start.field-0.0 (c.in_err-take_start.ensures.not_own trade of))

pub returns-in_err-take_start-clause-outside : goal.returns-in_err-take_start-clause-outside
returns-in_err-take_start-clause-outside g c = λ tells list opens trade of own.
    let p = err_from_is_err_and c.from_residual-in_err-take_start.result c.from_residual-in_err-take_start.ensures.1 in
    let now = c.next.ensures.reads tells (map entry_text list) opens.reads in
    let entry = c.in-Some.entry in
    let some : c.next.new.self.read ≡ with_entry c.args.opening.now.read entry =
    subst (λ o. IfSome o (λ next. c.next.new.self.read ≡ with_entry c.args.opening.now.read next.0)) c.in-Some.is c.in_ok-entry.ensures.some in
    let more = some ∙ ap (λ (l : List Entry). l ++ entry ∷ []) c.requires.fresh in
    let one = c.texts_are_of_one_list.ensures list c.next.new.self.read now.rest now.is opens.written now.written in
    rw (p.1, p.2) (own_starts trade c.args.shelf.now.me list one.0 entry own (one.1 ∙ ap (λ (l : List Entry). l ++ one.0) more)
    c.in_err-take_start.field-0.0 (c.in_err-take_start.ensures.not_own trade of))

-- what was read is that entry alone
pub returns-clause-here : goal.returns-clause-here
returns-clause-here g c = λ trade of.
    let entry = c.in-Some.entry in
    let some : c.next.new.self.read ≡ with_entry c.args.opening.now.read entry =
    subst (λ o. IfSome o (λ next. c.next.new.self.read ≡ with_entry c.args.opening.now.read next.0)) c.in-Some.is c.in_ok-entry.ensures.some in
    let one = some ∙ ap (λ (l : List Entry). l ++ entry ∷ []) c.requires.fresh in
    subst (λ (l : List Entry). IsHere trade l) (sym one) (c.in_ok-take_start.ensures.here trade of)
