-- Moves are joined: from the lemmas.
use Rattle.pec_runs.proofs.MoveLemmas.{moves_none, moves_on, moves_part, moves_told}
use Rattle.pec_runs.proofs.moving.moves_are_joined.Goals as goal

pub returns : goal.returns
returns g c = record {
  none = λ trade here. moves_none trade (g.P.Depot.tells × g.P.D.Disk.tells) g.P.D.Disk.sight g.P.D.Counted.faults here;
  on = λ trade first here there went goes.
      moves_on trade (g.P.Depot.tells × g.P.D.Disk.tells) g.P.D.Disk.sight g.P.D.Counted.faults first here there went goes;
  part = λ trade first here there went goes.
      moves_part trade (g.P.Depot.tells × g.P.D.Disk.tells) g.P.D.Disk.sight g.P.D.Counted.faults first here there went goes;
  told = λ trade here there moves.
      moves_told trade g.P.D.Disk.tells (g.P.Depot.tells × g.P.D.Disk.tells) g.P.D.Disk.sight g.P.D.Counted.faults here there (λ t. t.1) moves;
}
