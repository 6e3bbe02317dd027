use Rattle.std.proofs.Common.{sym, ◌∙◌}
use Rattle.pec_index.proofs.IndexLemmas.{finds-added, found_there, none_there, value_at-put}
use Rattle.pec_index.proofs.indexes.Index.add.Goals as goal

pub returns-then-contains_key-clause-added : goal.returns-then-contains_key-clause-added
returns-then-contains_key-clause-added g c =
    λ entries finds. found_there c.args.key.now c.self.inside.map.entries entries (rw c.self.view_is finds) (sym c.contains_key.ensures ∙ c.if-contains_key.true)

pub returns-clause-added : goal.returns-clause-added
returns-clause-added g c =
    λ entries finds.
    let none = none_there c.args.key.now c.self.inside.map.entries entries (rw c.self.view_is finds) (sym c.contains_key.ensures ∙ c.if-contains_key.false) in (
      none,
      finds-added c.args.key.now c.args.value _ _ entries
          (rw (← c.in_ok-key.ensures.items, ← c.self.view_is) (value_at-put _ c.self.inside.map c.insert.new.self _ c.in_ok-insert.ensures.updates)) finds none,
    )
