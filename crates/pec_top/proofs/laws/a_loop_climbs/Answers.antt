-- From the laws of the crates below.
use Rattle.std.proofs.Common.{[]}
use Rattle.pec_top.proofs.laws.a_loop_climbs.Goals as goal

pub returns : goal.returns
returns g c = λ trade providers. record {
  nowhere = λ here. c.acts_are_joined.ensures.ends trade providers [] here here
      (c.acts_are_joined.ensures.starts trade providers [] here);
  written = λ text here there stop. c.an_act_is_done.ensures.written trade providers text here there stop;
  starts = λ first. c.lines_are_climbed.ensures.starts trade providers first;
  on = λ first here there spare line what behind.
      c.lines_are_climbed.ensures.on trade providers first here there spare line what behind;
  ended = λ first here there lines end stop.
      c.lines_are_climbed.ensures.ended trade providers first here there lines end stop;
  stopped = λ first here there spare line what behind stop.
      c.lines_are_climbed.ensures.stopped trade providers first here there spare line what behind stop;
  halted = λ first here stop. c.lines_are_climbed.ensures.halted trade providers first here stop;
  content = c.lines_are_the_text.ensures.content;
}
