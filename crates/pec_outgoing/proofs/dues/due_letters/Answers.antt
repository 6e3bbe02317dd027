-- The answers that have room, and then the other letters, are all that are due.
use Rattle.std.proofs.Common.{◌-◌, ℕ, [], take, ap, ◌∙◌}
use Rattle.pec_ledger.specs.Due.{due_letters}
use Rattle.pec_trade.specs.Houses.{world_at}
use Rattle.pec_outgoing.proofs.DueLemmas.{all_due}
use Rattle.pec_outgoing.proofs.dues.due_letters.Goals as goal

pub returns : goal.returns
returns g c =
    let trade = world_at c.args.house.now
    in let me = c.args.shelf.now.me
    in let h = c.args.shelf.now.half
    in c.in_ok-letters.ensures
    ∙ all_due trade me h c.args.to c.args.room c.args.owed.now c.truncate.new.self.items c.in_ok-others.others.items
    (c.truncate.ensures.items ∙ ap (take c.args.room) c.in_ok-answers.ensures)
    (c.in_ok-others.ensures trade c.requires.homes
    ∙ ap (λ (n : ℕ). due_letters trade me h c.args.to (c.args.room - n) []) (c.len.ensures ∙ c.truncate.new.self.ok.0))
