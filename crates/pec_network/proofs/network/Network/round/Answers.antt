use Rattle.std.proofs.Common.{◌∙◌, List, ap, length, sym}
use Rattle.std.proofs.lemmas.List.{length-map}
use Rattle.pec_screen.specs.Perhaps.{all_of}
use Rattle.pec_screen.specs.Verdicts.{Patterns}
use Rattle.pec_screen.specs.declared.perhaps.Perhaps.{Perhaps}
use Rattle.pec_network.proofs.network.Network.round.Goals as goal

pub returns-clause-plays : goal.returns-clause-plays
returns-clause-plays g c = rw (← c.self.view_is, c.take_turns.ensures.screens) c.take_turns.ensures.plays

pub returns-clause-stops : goal.returns-clause-stops
returns-clause-stops g c = rw (← c.self.view_is, c.take_turns.ensures.screens) c.take_turns.ensures.stops

pub returns-clause-carries : goal.returns-clause-carries
returns-clause-carries g c = rw (← c.self.view_is) c.take_turns.ensures.carries

pub returns-clause-stands : goal.returns-clause-stands
returns-clause-stands g c = rw (← c.self.view_is) c.take_turns.ensures.stands

pub returns-clause-disk_fault : goal.returns-clause-disk_fault
returns-clause-disk_fault g c = rw (← c.self.view_is) c.take_turns.ensures.disk_fault

pub returns-clause-later : goal.returns-clause-later
returns-clause-later g c = rw (← c.self.view_is) c.take_turns.ensures.later

pub returns-clause-screens : goal.returns-clause-screens
returns-clause-screens g c = rw (← c.self.view_is) c.take_turns.ensures.screens

pub returns-clause-looked : goal.returns-clause-looked
returns-clause-looked g c = rw (← c.self.view_is) c.take_turns.ensures.looked

pub take_turns-requires-clause-whole : goal.take_turns-requires-clause-whole
take_turns-requires-clause-whole g c = λ κs within. c.self.invariant.0

pub take_turns-requires-clause-judges : goal.take_turns-requires-clause-judges
take_turns-requires-clause-judges g c = λ κs within. c.self.invariant.1

pub invariant_of-self : goal.invariant_of-self
invariant_of-self g c = (
  c.take_turns.ensures.whole,
  sym (length-map c.take_turns.new.judges.items (λ (p : Perhaps g.row.J.Denot). all_of g.J.Judge.patterns p.judge))
      ∙ ap (λ (l : List (List Patterns)). length l) c.take_turns.ensures.screens
      ∙ length-map c.self.inside.judges.items (λ (p : Perhaps g.row.J.Denot). all_of g.J.Judge.patterns p.judge)
      ∙ c.self.invariant.1,
)
