use Rattle.std.proofs.Common.{ap, length, subst, sym, ℕ, ◌+◌, ◌∷◌, [], ◌∙◌}
use Rattle.pec_outside.specs.DiskModel.{GrowsTo}
use Rattle.pec_records.specs.Entry.{entry_text}
use Rattle.pec_records.specs.declared.entries.Entry.{Entry}
use Rattle.pec_chronicle.specs.Chronicle.{made_size}
use Rattle.pec_stock.specs.Stock.{IsOwn}
use Rattle.pec_stock.proofs.BeginningLemmas.{agree_with, end_begun}
use Rattle.pec_stock.proofs.opening.begin.Goals as goal

pub returns-in-Ok-create-clause-agree : goal.returns-in-Ok-create-clause-agree
returns-in-Ok-create-clause-agree g c =
    let some = c.a_directory_has_a_trade.ensures c.args.directory.now in
    let made = c.in-Ok-create.ensures in (
      c.in-Ok.ensures.me,
      agree_with c.args.directory.now c.in-Ok-create.chronicle c.in-Ok.shelf (c.in-Ok.start ∷ []) c.in-Ok.ensures.holds
          (λ trade of. subst (λ (me : ℕ). IsOwn trade me (c.in-Ok.start ∷ [])) (sym c.in-Ok.ensures.me) (c.in-Ok.ensures.own trade of))
          (made.created.0 ∙ ap (λ (e : Entry). e ∷ []) c.entry.ensures) made.created.1
          (made.ended ∙ ap (λ (e : Entry). 8 + 5 + length (entry_text e)) c.entry.ensures ∙ end_begun c.args.directory.now c.in-Ok.shelf c.in-Ok.start some.0 some.1 c.in-Ok.ensures.holds),
    )

pub returns-in-Ok-create-clause-any_moment : goal.returns-in-Ok-create-clause-any_moment
returns-in-Ok-create-clause-any_moment g c tells =
    let sight = g.D.Disk.sight in
    subst (λ (start : Entry). GrowsTo (made_size start) (sight c.args.disk) (sight c.in-Ok-create.chronicle.disk))
    (c.entry.ensures ∙ c.in-Ok.ensures.start) (c.in-Ok-create.ensures.any_moment tells)

pub returns-in-Ok-clause-any_moment_err : goal.returns-in-Ok-clause-any_moment_err
returns-in-Ok-clause-any_moment_err g c tells =
    let sight = g.D.Disk.sight in
    subst (λ (start : Entry). GrowsTo (made_size start) (sight c.args.disk) (sight c.in-Err-create.fault.1))
    (c.entry.ensures ∙ c.in-Ok.ensures.start) (c.in-Err-create.ensures.any_moment_err tells)
