use Rattle.std.proofs.Common.{List, inl, inr, refl, subst}
use Rattle.pec_service.specs.Connections.{Connection}
use Rattle.pec_service.specs.Runs.{first_place, world}
use Rattle.pec_service.specs.Services.{AreConnections, place_behind}
use Rattle.pec_service.proofs.IsolationLemmas.{connection_at, gave_own}
use Rattle.pec_service.proofs.RunLemmas.{serves_on}
use Rattle.pec_service.proofs.isolation.a_runs_callers_are_answered_their_own.Goals as goal

pub returns : goal.returns
returns g c = λ asked status unread before after depot left here there old new ran form begins is_form at_hand
    front rest connection among answering heard question asks gives.
    let happened = ran.served.happened
    in let serves = serves_on asked status unread before after _ _ _ here there _ _ ran.served form begins is_form at_hand
    in let start = first_place (world happened) asked.screens happened.course.opening.journals serves.counts here
    in let is = connection_at (world happened) _ happened.setting.kept start front rest connection
    (subst (λ (l : List Connection). AreConnections (world happened) (g.P.Depot.tells × g.P.D.Disk.tells) happened.setting.kept start l) among serves.is.each)
    in record {
      counts = serves.counts;
      sooner = serves.sooner;
      here = place_behind start front;
      behind = refl;
      own = c.a_caller_is_answered_its_own.ensures.own happened.setting.kept happened.setting.seals
          (place_behind start front) connection
          is
          answering heard question asks
          (elim gives [
            | inl told ↦ gave_own (world happened) _ happened.setting.kept (place_behind start front) connection told is
                question
            | inr gave ↦ gave
          ]);
    }
