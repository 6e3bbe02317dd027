-- At a connection the state is that of what was played before it, and the reply is what was answered there.
use Rattle.std.proofs.Common.{List, subst, sym}
use Rattle.pec_ledger.specs.Network.{Site}
use Rattle.pec_http.specs.declared.demands.Look.TheVariants as looks
use Rattle.pec_service.specs.Connections.{Connection, Heard, Hearing, IsReplied, Sees}
use Rattle.pec_service.specs.Runs.{first_place, world}
use Rattle.pec_service.specs.Services.{AreConnections, place_behind}
use Rattle.pec_service.proofs.IsolationLemmas.{connection_at}
use Rattle.pec_service.proofs.ShownLemmas.{front_are}
use Rattle.pec_service.proofs.RunLemmas.{serves_on}
use Rattle.pec_service.proofs.showing.a_serving_run_shows_the_ledger.Goals as goal

pub returns-clause-book : goal.returns-clause-book
returns-clause-book g c = λ asked status unread before after depot left here there old new ran form begins is_form at_hand
    front rest connection address among heard done.
    let tells = g.P.Depot.tells × g.P.D.Disk.tells in
    let happened = ran.served.happened in
    let trade = world happened in
    let kept = happened.setting.kept in
    let serves = serves_on asked status unread before after _ _ _ here there _ _ ran.served form begins is_form at_hand in
    let start = first_place trade asked.screens happened.course.opening.journals serves.counts here in
    let all = subst (λ (l : List Connection). AreConnections trade tells kept start l) among serves.is.each in
    let is = connection_at trade tells kept start front rest connection all in
    let state = c.a_services_books_belong_to_the_ledger.ensures.states trade kept start front
    (front_are trade tells kept start front rest connection all) in
    let replied = subst (λ (h : Hearing). IsReplied trade kept (place_behind start front).network.sites
    connection.handed h connection.reply) heard is.replied in
    record {
      shows = c.what_is_shown_is_the_ledgers.ensures.book kept happened.setting.seals _ connection.handed address done;
      written = subst (λ (s : List Site). IsReplied trade kept s connection.handed (Heard (Sees address looks.Book))
          connection.reply) (sym state) replied;
    }

pub returns-clause-items : goal.returns-clause-items
returns-clause-items g c = λ asked status unread before after depot left here there old new ran form begins is_form at_hand
    front rest connection address among heard done.
    let tells = g.P.Depot.tells × g.P.D.Disk.tells in
    let happened = ran.served.happened in
    let trade = world happened in
    let kept = happened.setting.kept in
    let serves = serves_on asked status unread before after _ _ _ here there _ _ ran.served form begins is_form at_hand in
    let start = first_place trade asked.screens happened.course.opening.journals serves.counts here in
    let all = subst (λ (l : List Connection). AreConnections trade tells kept start l) among serves.is.each in
    let is = connection_at trade tells kept start front rest connection all in
    let state = c.a_services_books_belong_to_the_ledger.ensures.states trade kept start front
    (front_are trade tells kept start front rest connection all) in
    let replied = subst (λ (h : Hearing). IsReplied trade kept (place_behind start front).network.sites
    connection.handed h connection.reply) heard is.replied in
    record {
      shows = c.what_is_shown_is_the_ledgers.ensures.items kept happened.setting.seals _ connection.handed address done;
      written = subst (λ (s : List Site). IsReplied trade kept s connection.handed (Heard (Sees address looks.Items))
          connection.reply) (sym state) replied;
    }
