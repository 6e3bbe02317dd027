-- What the crates above name of the steps of a run, and of what a call does, as pec_runs hands it on.
pub use Rattle.pec_runs.specs.Moves.{Moves, MovesOn}
pub use Rattle.pec_runs.specs.Plays.{HasMemory, IsUnchanged, RoseBy, faults_at, faults_at_home, is_change}
pub use Rattle.pec_runs.specs.Ran.{Behind, LeavesOff}
pub use Rattle.pec_runs.specs.Steps.{Act, AreCounted, Climbs, Goes, IsMoment, NoMemory, Plays, State, Stop, WriteFault, Writes}
