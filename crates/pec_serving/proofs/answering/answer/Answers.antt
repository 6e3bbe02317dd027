use Rattle.std.proofs.Common.{◌≡◌, ◌∙◌, List, [], length, ap, sym, subst}
use Rattle.pec_directory.specs.Directory.{Kept}
use Rattle.pec_seal.specs.Hmac.{hmac_seals}
use Rattle.pec_seal.specs.declared.hmac.HmacSealer.{HmacSealer}
use Rattle.pec_seal.specs.Seals.{Seals}
use Rattle.pec_playing.specs.OfNetworks.{AllStand, NetworkState, world_of}
use Rattle.pec_http.specs.Serving.{Serves}
use Rattle.pec_desk.specs.Desks.{DeskState, answers_of}
use Rattle.pec_playing.specs.Doing.{Keeps}
use Rattle.pec_serving.specs.Hearing.{Hears}
use Rattle.pec_serving.specs.Playing.{state_of}
use Rattle.pec_serving.proofs.HearingLemmas.{opened_is, serves_hear}
use Rattle.pec_playing.specs.Points.{state_in}
use Rattle.pec_service.specs.OfRuns.{MovesOn}
use Rattle.pec_serving.proofs.KeepLemmas.{serves_keep}
use Rattle.pec_serving.proofs.MoveLemmas.{serves_move}
use Rattle.pec_serving.proofs.answering.answer.Goals as goal

abbrev seals_of : HmacSealer → Seals
seals_of sealer = hmac_seals sealer.names.items sealer.keys.items

pub returns-clause-keeps : goal.returns-clause-keeps
returns-clause-keeps g c =
    let X = DeskState g.row.D.Denot HmacSealer in
    let start : X = record { network = c.args.network; moment = c.args.moment } in
    let after : X = c.serve_one-told.new.desk in
    let left = g.C.Stream.left c.args.connection.now in
    let held = g.C.Stream.held c.args.connection.now in
    let held_then = g.C.Stream.held c.serve_one-told.new.connection in
    let serves : Serves (answers_of g.D.Disk.sight g.D.Counted.faults g.D.Disk.tells seals_of) left held start after held_then
    c.serve_one-told.result =
    subst (λ (d : X). Serves (answers_of g.D.Disk.sight g.D.Counted.faults g.D.Disk.tells seals_of) left held d after
    held_then c.serve_one-told.result)
    (opened_is c.open-desk.result c.args.network c.args.moment c.open-desk.ensures.network c.open-desk.ensures.moment)
    c.serve_one-told.ensures.serves in
    let closed : c.close-network.result ≡ after.network = c.close-network.ensures in
    let whole_after : length after.network.providers ≡ length after.network.kept =
    subst (λ (n : NetworkState g.row.D.Denot HmacSealer). length n.providers ≡ length n.kept) closed
    c.as_many_providers-2.ensures in
    subst (λ (n : NetworkState g.row.D.Denot HmacSealer).
    Keeps g.D.Disk.sight g.D.Counted.faults g.D.Disk.tells c.args.network n) (sym closed)
    (serves_keep g.D.Disk.sight g.D.Counted.faults g.D.Disk.tells seals_of start after c.as_many_providers.ensures whole_after
    left held held_then c.serve_one-told.result serves)

pub returns-clause-hears : goal.returns-clause-hears
returns-clause-hears g c = λ elsewhere.
    let X = DeskState g.row.D.Denot HmacSealer in
    let start : X = record { network = c.args.network; moment = c.args.moment } in
    let after : X = c.serve_one-told.new.desk in
    let left = g.C.Stream.left c.args.connection.now in
    let held = g.C.Stream.held c.args.connection.now in
    let held_then = g.C.Stream.held c.serve_one-told.new.connection in
    let serves : Serves (answers_of g.D.Disk.sight g.D.Counted.faults g.D.Disk.tells seals_of) left held start after held_then
    c.serve_one-told.result =
    subst (λ (d : X). Serves (answers_of g.D.Disk.sight g.D.Counted.faults g.D.Disk.tells seals_of) left held d after
    held_then c.serve_one-told.result)
    (opened_is c.open-desk.result c.args.network c.args.moment c.open-desk.ensures.network c.open-desk.ensures.moment)
    c.serve_one-told.ensures.serves in
    let closed : c.close-network.result ≡ after.network = c.close-network.ensures in
    let keeps = returns-clause-keeps g c in
    let many : length after.network.providers ≡ length c.args.network.providers =
    subst (λ (n : NetworkState g.row.D.Denot HmacSealer). length n.providers ≡ length c.args.network.providers) closed
    (c.as_many_providers-2.ensures ∙ ap (λ (k : List Kept). length k) keeps.directory ∙ sym c.as_many_providers.ensures) in
    subst (λ (n : NetworkState g.row.D.Denot HmacSealer).
    Hears (world_of seals_of c.args.network) (g.D.Disk.tells × AllStand g.D.Disk.sight c.args.network.providers)
    c.args.network.kept c.args.moment
    (state_of g.D.Counted.faults elsewhere c.args.network) (state_of g.D.Counted.faults elsewhere n) left held held_then
    c.serve_one-told.result) (sym closed)
    (serves_hear g.D.Disk.sight g.D.Counted.faults g.D.Disk.tells seals_of
    (record { refused = c.what_is_told_was_counted.ensures.refused; later = c.what_is_told_was_counted.ensures.later })
    (λ desk later input reply answer asked asks reads.
    c.an_account_sees_its_own.ensures.own desk later input reply answer asked asks reads)
    c.args.network c.args.moment after elsewhere many c.as_many_providers.ensures left held held_then c.serve_one-told.result
    serves)

pub returns-clause-moves : goal.returns-clause-moves
returns-clause-moves g c = λ elsewhere in_time.
    let X = DeskState g.row.D.Denot HmacSealer in
    let start : X = record { network = c.args.network; moment = c.args.moment } in
    let after : X = c.serve_one-told.new.desk in
    let left = g.C.Stream.left c.args.connection.now in
    let held = g.C.Stream.held c.args.connection.now in
    let held_then = g.C.Stream.held c.serve_one-told.new.connection in
    let trade = world_of seals_of c.args.network in
    let serves : Serves (answers_of g.D.Disk.sight g.D.Counted.faults g.D.Disk.tells seals_of) left held start after held_then
    c.serve_one-told.result =
    subst (λ (d : X). Serves (answers_of g.D.Disk.sight g.D.Counted.faults g.D.Disk.tells seals_of) left held d after
    held_then c.serve_one-told.result)
    (opened_is c.open-desk.result c.args.network c.args.moment c.open-desk.ensures.network c.open-desk.ensures.moment)
    c.serve_one-told.ensures.serves in
    let closed : c.close-network.result ≡ after.network = c.close-network.ensures in
    let keeps = returns-clause-keeps g c in
    let many : length after.network.providers ≡ length c.args.network.providers =
    subst (λ (n : NetworkState g.row.D.Denot HmacSealer). length n.providers ≡ length c.args.network.providers) closed
    keeps.many in
    subst (λ (n : NetworkState g.row.D.Denot HmacSealer). MovesOn trade g.D.Disk.tells g.D.Disk.sight g.D.Counted.faults
    (state_in g.D.Counted.faults elsewhere [] c.args.network) (state_in g.D.Counted.faults elsewhere [] n)) (sym closed)
    (serves_move g.D.Disk.sight g.D.Counted.faults g.D.Disk.tells seals_of start after elsewhere in_time many
    (c.a_network_stays_sound.ensures.commands trade)
    (c.what_carries_on_is_a_moment.ensures.counted after.network elsewhere [])
    (λ told carries. c.what_carries_on_is_a_moment.ensures.moment told trade c.args.network after.network many carries elsewhere [] [])
    left held held_then c.serve_one-told.result serves)
