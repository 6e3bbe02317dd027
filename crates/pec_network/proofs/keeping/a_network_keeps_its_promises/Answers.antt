use Rattle.std.proofs.Common.{List, [], subst}
use Rattle.pec_directory.specs.Directory.{Kept, providers_of}
use Rattle.pec_directory.specs.Lawful.{IsLawful}
use Rattle.pec_plays.specs.Commands.{Round}
use Rattle.pec_network.specs.Network.{sites, world_of}
use Rattle.pec_network.proofs.KeepLemmas.{none_forged, stopped_fit}
use Rattle.pec_network.proofs.keeping.a_network_keeps_its_promises.Goals as goal

pub returns-clause-stays : goal.returns-clause-stays
returns-clause-stays g c =
    let trade = world_of g.S.Sealer.seals c.args.network.now in
    let is = c.the_texts_are_a_trade.ensures.trade c.args.network.now.sealer c.args.network.now.kept
    (subst (λ (kept : List Kept). IsLawful (providers_of kept)) c.directory.ensures.value c.count.ensures.lawful) c.directory.ensures.whole.fits in
    λ luck command sound unforged. c.a_network_stays_sound.ensures.commands trade is luck (sites c.args.network.now) command sound unforged

pub returns-clause-kept : goal.returns-clause-kept
returns-clause-kept g c =
    let trade = world_of g.S.Sealer.seals c.args.network.now in
    let is = c.the_texts_are_a_trade.ensures.trade c.args.network.now.sealer c.args.network.now.kept
    (subst (λ (kept : List Kept). IsLawful (providers_of kept)) c.directory.ensures.value c.count.ensures.lawful) c.directory.ensures.whole.fits in
    λ sound. c.a_network_stays_sound.ensures.guarantees trade is [] (sites c.args.network.now) [] sound tt

pub returns-clause-stopped : goal.returns-clause-stopped
returns-clause-stopped g c =
    let trade = world_of g.S.Sealer.seals c.args.network.now in
    let is = c.the_texts_are_a_trade.ensures.trade c.args.network.now.sealer c.args.network.now.kept
    (subst (λ (kept : List Kept). IsLawful (providers_of kept)) c.directory.ensures.value c.count.ensures.lawful) c.directory.ensures.whole.fits in
    λ moment left early sound stops. stopped_fit trade moment (sites c.args.network.now) left stops
    (c.a_network_stays_sound.ensures.commands trade is stops.luck (sites c.args.network.now) (Round moment) sound
    (early, none_forged trade stops.luck (sites c.args.network.now) moment stops.instead))
    (c.any_images.ensures.journals trade)
