use Rattle.std.proofs.Common.{ℕ, List, sym, ap, subst, ◌∙◌}
use Rattle.pec_outside.specs.DiskModel.{Stays}
use Rattle.pec_records.specs.declared.entries.Entry.{Entry}
use Rattle.pec_chronicle.specs.Chronicle.{IsJournalOf}
use Rattle.pec_stock.specs.Stock.{IsOwn}
use Rattle.pec_stock.proofs.BeginningLemmas.{agree_with}
use Rattle.pec_stock.proofs.opening.opened.Goals as goal

pub returns-in-Ok-clause-agree : goal.returns-in-Ok-clause-agree
returns-in-Ok-clause-agree g c =
    let read = c.whole.new.opening.read in
    let me = c.in-Ok.ensures.me in
    let is = c.done.ensures.is in (
      me,
      agree_with c.args.directory.now c.done.result c.in-Ok.shelf read c.in-Ok.ensures.holds
          (λ trade of. subst (λ (n : ℕ). IsOwn trade n read) (sym me) (c.in-Ok.ensures.own trade of))
          (ap (λ s. s.entries) is) (ap (λ s. s.interrupted) is) (ap (λ s. s.end) is ∙ c.in-Ok.ensures.ends),
    )

pub returns-in-Ok-clause-opened : goal.returns-in-Ok-clause-opened
returns-in-Ok-clause-opened g c tells texts reads =
    let sight = g.D.Disk.sight in
    let stands = c.done.ensures.stands tells texts (c.whole.ensures.reads tells texts reads) in (
      subst (λ (l : List Entry). IsJournalOf l (sight c.args.opening.disk).seen) (sym (ap (λ s. s.entries) c.done.ensures.is))
          (subst (λ (b : List ℕ). IsJournalOf c.whole.new.opening.read b) (c.whole.ensures.stays tells).seen stands.1),
      stands.0,
    )

pub returns-in-Ok-clause-stays : goal.returns-in-Ok-clause-stays
returns-in-Ok-clause-stays g c tells =
    let sight = g.D.Disk.sight in
    subst (λ d. Stays (sight c.args.opening.disk) (sight d)) (sym (ap (λ s. s.disk) c.done.ensures.is)) (c.whole.ensures.stays tells)
