-- A run is complete: it has its journals, and one transcript.
use Rattle.std.proofs.Common.{inl, inr}
use Rattle.pec_runs.proofs.CompleteLemmas.{has_journals}
use Rattle.pec_runs.proofs.complete.a_run_without_faults_is_complete.Goals as goal

pub returns-clause-journals : goal.returns-clause-journals
returns-clause-journals g c = λ told asked status unread before after depot left old new ran form script begun can none.
    has_journals (g.P.Depot.tells × g.P.D.Disk.tells) g.P.D.Disk.sight told asked status unread before after
    (g.P.Depot.home depot) (g.P.Depot.home left) old new ran form script begun none can

pub returns-clause-whole : goal.returns-clause-whole
returns-clause-whole g c = λ told asked status unread before after depot left old new ran form script begun can none same.
    elim (returns-clause-journals g c told asked status unread before after depot left old new ran form script begun can none) [
      | inl lacks ↦ inl lacks
      | inr all ↦ elim (c.a_run_without_faults_has_one_transcript.ensures.one asked status unread before after depot left old new
          told ran none same) [
            | inl lacks ↦ inl lacks
            | inr tells ↦ inr (all, tells)
          ]
    ]
