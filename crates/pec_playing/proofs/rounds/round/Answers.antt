use Rattle.std.proofs.Common.{◌≡◌, ◌∙◌, List, length, ap, sym, refl}
use Rattle.pec_types.specs.declared.turns.Turn.{Turn}
use Rattle.pec_ledger.specs.Network.{journals_of}
use Rattle.pec_network.specs.Network.{sites}
use Rattle.pec_directory.specs.Directory.{Kept, providers_of}
use Rattle.pec_script.specs.Texts.{turns_text}
use Rattle.pec_playing.specs.Doing.{Keeps}
use Rattle.pec_playing.proofs.RoundLemmas.{round_is_left, round_says, round_stops}
use Rattle.pec_playing.proofs.rounds.round.Goals as goal
use Rattle.pec_network.specs.Network.{world_of}

pub returns-in-Ok-clause-does : goal.returns-in-Ok-clause-does
returns-in-Ok-clause-does g c =
    let network = c.args.network.now in
    let trade = world_of g.S.Sealer.seals network in
    let new = c.round-outcome.new.self in
    let told = c.round-outcome.ensures in
    let many : length new.providers ≡ length network.providers =
    c.as_many_providers-2.ensures ∙ ap (λ (k : List Kept). length k) told.same.0 ∙ sym c.as_many_providers.ensures in
    let keeps : Keeps g.D.Disk.sight g.D.Counted.faults g.D.Disk.tells network new =
    record { directory = told.same.0; many = many; seals = told.same.1; stands = told.stands; later = told.later } in
    round_says g.D.Disk.sight g.D.Counted.faults g.D.Disk.tells trade c.args.moment network new keeps many
    c.in-Ok.turns.items
    c.in-Ok.ensures.plays c.in-Ok.ensures.disk_fault c.in_ok-text-in-Ok.text
    (c.in_ok-text-in-Ok.ensures
    ∙ ap (λ (k : List Kept). turns_text (providers_of k) c.as_slice.result.now)
    (c.directory.ensures.value ∙ told.same.0)
    ∙ ap (λ (l : List Turn). turns_text (providers_of network.kept) l) c.as_slice.ensures.value)

pub returns-in-Err-clause-does : goal.returns-in-Err-clause-does
returns-in-Err-clause-does g c =
    let network = c.args.network.now in
    let trade = world_of g.S.Sealer.seals network in
    let new = c.round-outcome.new.self in
    let told = c.round-outcome.ensures in
    let many : length new.providers ≡ length network.providers =
    c.as_many_providers-2.ensures ∙ ap (λ (k : List Kept). length k) told.same.0 ∙ sym c.as_many_providers.ensures in
    let keeps : Keeps g.D.Disk.sight g.D.Counted.faults g.D.Disk.tells network new =
    record { directory = told.same.0; many = many; seals = told.same.1; stands = told.stands; later = told.later } in
    round_stops g.D.Disk.sight g.D.Counted.faults g.D.Disk.tells trade c.args.moment network new keeps many
    c.in-Err.ensures.stops.0
    _ refl

pub returns-in_err-text-in-Ok-clause-does : goal.returns-in_err-text-in-Ok-clause-does
returns-in_err-text-in-Ok-clause-does g c =
    let network = c.args.network.now in
    let trade = world_of g.S.Sealer.seals network in
    let new = c.round-outcome.new.self in
    let told = c.round-outcome.ensures in
    let many : length new.providers ≡ length network.providers =
    c.as_many_providers-2.ensures ∙ ap (λ (k : List Kept). length k) told.same.0 ∙ sym c.as_many_providers.ensures in
    let keeps : Keeps g.D.Disk.sight g.D.Counted.faults g.D.Disk.tells network new =
    record { directory = told.same.0; many = many; seals = told.same.1; stands = told.stands; later = told.later } in
    round_is_left g.D.Disk.sight g.D.Counted.faults g.D.Disk.tells trade c.args.moment network new keeps many
    c.in-Ok.turns.items
    c.in-Ok.ensures.plays c.in-Ok.ensures.disk_fault c.from_residual.result c.from_residual.ensures.0

pub returns-in-Ok-clause-carries : goal.returns-in-Ok-clause-carries
returns-in-Ok-clause-carries g c = λ told sound.
    let network = c.args.network.now in
    c.round-outcome.ensures.carries told (journals_of (sites network)) sound.fit
    (c.waiting_frames_are_genuine.ensures (world_of g.S.Sealer.seals network) (sites network) sound)

pub returns-in-Err-clause-carries : goal.returns-in-Err-clause-carries
returns-in-Err-clause-carries g c = λ told sound.
    let network = c.args.network.now in
    c.round-outcome.ensures.carries told (journals_of (sites network)) sound.fit
    (c.waiting_frames_are_genuine.ensures (world_of g.S.Sealer.seals network) (sites network) sound)

pub returns-in_err-text-in-Ok-clause-carries : goal.returns-in_err-text-in-Ok-clause-carries
returns-in_err-text-in-Ok-clause-carries g c = λ told sound.
    let network = c.args.network.now in
    c.round-outcome.ensures.carries told (journals_of (sites network)) sound.fit
    (c.waiting_frames_are_genuine.ensures (world_of g.S.Sealer.seals network) (sites network) sound)
