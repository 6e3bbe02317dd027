use Rattle.std.proofs.Common.{◌≡◌, ◌∙◌, ℕ, List, length, map, sym, ap, subst}
use Rattle.std.proofs.lemmas.Result.{err_from_is_err_and}
use Rattle.pec_journal.specs.JournalFile.{front}
use Rattle.pec_types.specs.Bytes.{Bytes}
use Rattle.pec_records.specs.Entry.{entry_text}
use Rattle.pec_stock.specs.Opening.{IsUnfit}
use Rattle.pec_stock.specs.Stock.{IsOwn}
use Rattle.pec_stock.proofs.BeginningLemmas.{holds_new}
use Rattle.pec_stock.proofs.OpeningLemmas.{end_agrees}
use Rattle.pec_stock.proofs.TakingLemmas.{all_read, own_read}
use Rattle.pec_stock.proofs.opening.whole.Goals as goal

pub take_first-requires-clause-holds : goal.take_first-requires-clause-holds
take_first-requires-clause-holds g c = holds_new c.args.directory.now c.args.me c.new-shelf.result c.new-shelf.ensures

pub returns-in_err-take_first-clause-unfit : goal.returns-in_err-take_first-clause-unfit
returns-in_err-take_first-clause-unfit g c = λ tells texts so_far trade of.
    let p = err_from_is_err_and c.from_residual.result c.from_residual.ensures.1 in
    let bytes = (g.D.Disk.sight c.args.opening.now.disk).seen in
    rw (p.1, p.2) (subst (λ (n : ℕ). IsUnfit trade n bytes c.in_err-take_first.field-0.0) c.new-shelf.ensures.0
    (c.in_err-take_first.ensures.unfit tells texts so_far trade of))

pub returns-in_err-take_first-clause-outside : goal.returns-in_err-take_first-clause-outside
returns-in_err-take_first-clause-outside g c = λ tells list opens trade of own.
    let p = err_from_is_err_and c.from_residual.result c.from_residual.ensures.1 in
    rw (p.1, p.2) (c.in_err-take_first.ensures.outside tells list opens trade of
    (subst (λ (n : ℕ). IsOwn trade n list) (sym c.new-shelf.ensures.0) own))

pub returns-in_err-take_rest-clause-unfit : goal.returns-in_err-take_rest-clause-unfit
returns-in_err-take_rest-clause-unfit g c = λ tells texts so_far trade of.
    let p = err_from_is_err_and c.from_residual-in_err-take_rest.result c.from_residual-in_err-take_rest.ensures.1 in
    let fault = c.in_err-take_rest.field-0.0 in
    let first = c.in_ok-take_first.ensures in
    let sight = g.D.Disk.sight in
    let me = first.taken.whose ∙ c.new-shelf.ensures.0 in
    rw (p.1, p.2) (subst (λ (b : Bytes). IsUnfit trade c.args.me b fault) (c.take_first.ensures.stays tells).seen
    (subst (λ (n : ℕ). IsUnfit trade n (sight c.take_first.new.opening.disk).seen fault) me
    (c.in_err-take_rest.ensures.unfit tells texts (c.take_first.ensures.reads tells texts so_far) trade of (first.here trade of))))

pub returns-in_err-take_rest-clause-outside : goal.returns-in_err-take_rest-clause-outside
returns-in_err-take_rest-clause-outside g c = λ tells list opens trade of own.
    let p = err_from_is_err_and c.from_residual-in_err-take_rest.result c.from_residual-in_err-take_rest.ensures.1 in
    let me = c.in_ok-take_first.ensures.taken.whose ∙ c.new-shelf.ensures.0 in
    rw (p.1, p.2) (c.in_err-take_rest.ensures.outside tells list
    (record { reads = c.take_first.ensures.reads tells (map entry_text list) opens.reads; written = opens.written }) trade of
    (subst (λ (n : ℕ). IsOwn trade n list) (sym me) own))

-- over a disk that tells what it holds they end where the half says
pub returns-then-end-clause-unfit : goal.returns-then-end-clause-unfit
returns-then-end-clause-unfit g c = λ tells texts so_far trade of.
    let now = c.take_rest.ensures.reads tells texts (c.take_first.ensures.reads tells texts so_far) in
    let rest = c.in_ok-take_rest.ensures in
    absurd (c.if-end.true (c.end.ensures ∙ now.keeps.ends
    ∙ ap (λ (t : List Bytes). length (front t)) (all_read g.D.Disk.sight c.take_rest.new.opening texts now rest.all)
    ∙ sym (end_agrees c.args.directory.now c.take_rest.new.shelf c.take_rest.new.opening.read trade of rest.taken.holds)
    ∙ sym c.end-2.ensures))

pub returns-then-end-clause-outside : goal.returns-then-end-clause-outside
returns-then-end-clause-outside g c = λ tells list opens trade of own.
    let texts = map entry_text list in
    let now = c.take_rest.ensures.reads tells texts (c.take_first.ensures.reads tells texts opens.reads) in
    let rest = c.in_ok-take_rest.ensures in
    c.if-end.true (c.end.ensures ∙ now.keeps.ends
    ∙ ap (λ (t : List Bytes). length (front t)) (all_read g.D.Disk.sight c.take_rest.new.opening texts now rest.all)
    ∙ sym (end_agrees c.args.directory.now c.take_rest.new.shelf c.take_rest.new.opening.read trade of rest.taken.holds)
    ∙ sym c.end-2.ensures)

pub returns-clause-own : goal.returns-clause-own
returns-clause-own g c = λ trade of.
    let first = c.in_ok-take_first.ensures in
    let rest = c.in_ok-take_rest.ensures in
    let read = c.take_rest.new.opening.read in
    subst (λ (n : ℕ). IsOwn trade n read) (first.taken.whose ∙ c.new-shelf.ensures.0)
    (own_read c.args.directory.now c.take_first.new.shelf.me c.take_rest.new.shelf read rest.taken trade of (rest.here trade (first.here trade of)))
