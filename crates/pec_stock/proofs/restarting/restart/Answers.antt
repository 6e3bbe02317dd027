use Rattle.std.proofs.Common.{◌≡◌, ◌++◌, ℕ, List, map, sym, ap, subst, ◌∙◌}
use Rattle.pec_outside.specs.Moments.{stays_and}
use Rattle.pec_ledger.specs.Network.{chosen}
use Rattle.pec_records.specs.Entry.{entry_text}
use Rattle.pec_records.specs.declared.entries.Entry.{Entry}
use Rattle.pec_stock.specs.Opening.{IsOutside}
use Rattle.pec_stock.specs.Stock.{IsOwn}
use Rattle.pec_stock.proofs.BeginningLemmas.{agree_with}
use Rattle.pec_stock.proofs.OpeningLemmas.{outside_by}
use Rattle.pec_stock.proofs.restarting.restart.Goals as goal

pub returns-in-Ok-whole-clause-agree : goal.returns-in-Ok-whole-clause-agree
returns-in-Ok-whole-clause-agree g c =
    let read = c.whole.new.opening.read in
    let me = c.in-Ok-whole.ensures.me in
    let is = c.done.ensures.is in (
      me ∙ c.me.ensures,
      agree_with c.args.directory.now c.done.result c.in-Ok-whole.taken read c.in-Ok-whole.ensures.holds
          (λ trade of. subst (λ (n : ℕ). IsOwn trade n read) (sym me) (c.in-Ok-whole.ensures.own trade of))
          (ap (λ s. s.entries) is) (ap (λ s. s.interrupted) is) (ap (λ s. s.end) is ∙ c.in-Ok-whole.ensures.ends),
    )

-- the entries are those before, with the interrupted one or without it
pub returns-in-Ok-whole-clause-found : goal.returns-in-Ok-whole-clause-found
returns-in-Ok-whole-clause-found g c tells stands =
    let was = c.args.chronicle in
    let finds = c.in-Ok.ensures.found tells stands in
    let list = was.entries ++ chosen finds.0 was.interrupted in (
      finds.0,
      ap (λ s. s.entries) c.done.ensures.is
          ∙ c.done.ensures.list tells list
          (record { reads = c.whole.ensures.reads tells (map entry_text list) finds.1.reads; written = finds.1.written }),
    )

pub returns-in-Ok-whole-clause-carries : goal.returns-in-Ok-whole-clause-carries
returns-in-Ok-whole-clause-carries g c tells =
    let was = c.args.chronicle in
    c.done.ensures.carries tells was (stays_and _ _ _ (c.in-Ok.ensures.stays tells) (c.whole.ensures.stays tells))
    (λ stands.
    let finds = c.in-Ok.ensures.found tells stands in
    let list = was.entries ++ chosen finds.0 was.interrupted in
    (finds.0, record { reads = c.whole.ensures.reads tells (map entry_text list) finds.1.reads; written = finds.1.written }))

pub returns-in-Err-whole-clause-carries_err : goal.returns-in-Err-whole-clause-carries_err
returns-in-Err-whole-clause-carries_err g c tells =
    c.back_to.ensures.carries tells c.args.chronicle c.in-Ok.ensures.past
    (stays_and _ _ _ (c.in-Ok.ensures.stays tells) (c.whole.ensures.stays tells))

-- and so the provider's own
pub returns-in-Err-whole-clause-outside : goal.returns-in-Err-whole-clause-outside
returns-in-Err-whole-clause-outside g c = λ tells stands.
    let was = c.args.chronicle in
    let some = c.a_directory_has_a_trade.ensures c.args.directory.now in
    let finds = c.in-Ok.ensures.found tells stands in
    let list = was.entries ++ chosen finds.0 was.interrupted in
    c.in-Err-whole.ensures.outside tells list finds.1 some.0 some.1
    (subst (λ (n : ℕ). IsOwn some.0 n list) (sym c.me.ensures) (c.requires.own some.0 some.1 finds.0))

pub returns-in-Err-clause-outside : goal.returns-in-Err-clause-outside
returns-in-Err-clause-outside g c = λ tells stands.
    subst IsOutside (sym c.into.ensures) (outside_by c.in-Err.fault (c.in-Err.ensures.refused tells stands))
