use Rattle.std.proofs.Common.{List, ℕ, map, sym, subst}
use Rattle.pec_outside.specs.Moments.{stays_and}
use Rattle.pec_records.specs.Entry.{entry_text}
use Rattle.pec_chronicle.specs.Chronicle.{IsJournalOf}
use Rattle.pec_stock.specs.Opening.{IsOutside, IsUnfit}
use Rattle.pec_stock.proofs.OpeningLemmas.{only_disk, outside_by, unfit_open}
use Rattle.pec_stock.proofs.opening.open.Goals as goal

pub returns-in-Ok-opened-clause-opened : goal.returns-in-Ok-opened-clause-opened
returns-in-Ok-opened-clause-opened g c tells =
    let o = c.in-Ok.ensures.opened tells in
    let so = c.in-Ok-opened.ensures.opened tells o.0 o.2 in
    (subst (λ (b : List ℕ). IsJournalOf c.in-Ok-opened.made.0.entries b) (c.in-Ok.ensures.stays tells).seen so.0, so.1)

pub returns-in-Ok-opened-clause-stays : goal.returns-in-Ok-opened-clause-stays
returns-in-Ok-opened-clause-stays g c tells = stays_and _ _ _ (c.in-Ok.ensures.stays tells) (c.in-Ok-opened.ensures.stays tells)

pub returns-in-Err-opened-clause-stays_err : goal.returns-in-Err-opened-clause-stays_err
returns-in-Err-opened-clause-stays_err g c tells = stays_and _ _ _ (c.in-Ok.ensures.stays tells) (c.in-Err-opened.ensures.stays_err tells)

pub returns-in-Err-opened-clause-own : goal.returns-in-Err-opened-clause-own
returns-in-Err-opened-clause-own g c = λ tells trade list of own journal.
    c.in-Err-opened.ensures.own tells trade list of own
    (record { reads = c.in-Ok.ensures.list tells (map entry_text list) journal.file; written = journal.written })

pub returns-in-Err-opened-clause-unfit : goal.returns-in-Err-opened-clause-unfit
returns-in-Err-opened-clause-unfit g c = λ tells trade of.
    let o = c.in-Ok.ensures.opened tells in
    subst (λ (b : List ℕ). IsUnfit trade c.args.me b c.in-Err-opened.refused.0) (c.in-Ok.ensures.stays tells).seen
    (c.in-Err-opened.ensures.unfit tells o.0 o.2 trade of)

pub returns-in-Err-clause-own : goal.returns-in-Err-clause-own
returns-in-Err-clause-own g c = λ tells trade list of own journal.
    subst IsOutside (sym c.into.ensures)
    (outside_by c.in-Err.fault (λ n. (c.in-Err.ensures.refused tells (map entry_text list) journal.file n, c.in-Err.ensures.no_entry n)))

pub returns-in-Err-clause-unfit : goal.returns-in-Err-clause-unfit
returns-in-Err-clause-unfit g c = λ tells trade of.
    let bytes = (g.D.Disk.sight c.args.disk).seen in
    subst (IsUnfit trade c.args.me bytes) (sym c.into.ensures)
    (unfit_open trade c.args.me bytes c.in-Err.fault (c.in-Err.ensures.not_a_journal tells) c.in-Err.ensures.no_entry)

pub returns-in-Err-clause-disk_fault : goal.returns-in-Err-clause-disk_fault
returns-in-Err-clause-disk_fault g c = λ e quiet. c.in-Err.ensures.disk_fault (only_disk c.in-Err.fault (rw c.into.ensures at e)) quiet
