use Rattle.std.proofs.Common.{◌∙◌}
use Rattle.std.proofs.lemmas.List.{length-map}
use Rattle.pec_screen.specs.Perhaps.{all_of}
use Rattle.pec_screen.specs.declared.perhaps.Perhaps.{Perhaps}
use Rattle.pec_network.proofs.network.Network.directory.Goals as goal

pub returns-clause-whole : goal.returns-clause-whole
returns-clause-whole g c = rw (← c.self.view_is) c.self.invariant.0

pub returns-clause-judged : goal.returns-clause-judged
returns-clause-judged g c =
    rw (← c.self.view_is) (
      length-map c.self.inside.judges.items (λ (p : Perhaps g.row.J.Denot). all_of g.J.Judge.patterns p.judge) ∙ c.self.invariant.1,
      length-map c.self.inside.judges.items (λ (p : Perhaps g.row.J.Denot). all_of g.J.Judge.seen p.judge) ∙ c.self.invariant.1,
    )
