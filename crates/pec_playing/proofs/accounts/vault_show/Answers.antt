use Rattle.std.proofs.Common.{◌≡◌, ◌∙◌, List, length, ap, sym, Err}
use Rattle.pec_types.specs.Bytes.{Bytes}
use Rattle.pec_directory.specs.Directory.{Kept}
use Rattle.pec_ledger.specs.Network.{journals_of}
use Rattle.pec_plays.specs.Commands.{VaultShow}
use Rattle.pec_network.specs.Network.{sites, world_of}
use Rattle.pec_script.specs.Texts.{item_text}
use Rattle.pec_playing.specs.Doing.{Keeps}
use Rattle.pec_playing.proofs.KeptLemmas.{keeps_same}
use Rattle.pec_playing.proofs.ShowLemmas.{look_refuses, look_says, look_stops, vault_at_home}
use Rattle.pec_playing.proofs.accounts.vault_show.Goals as goal

pub returns-in-Ok-clause-does : goal.returns-in-Ok-clause-does
returns-in-Ok-clause-does g c =
    let network = c.args.network.now in
    let new = c.vault_item-outcome.new.self in
    let told = c.vault_item-outcome.ensures in
    let many : length new.providers ≡ length network.providers =
    c.as_many_providers-2.ensures ∙ ap (λ (k : List Kept). length k) told.same.0 ∙ sym c.as_many_providers.ensures in
    let keeps : Keeps g.D.Disk.sight g.D.Counted.faults g.D.Disk.tells network new =
    keeps_same g.D.Disk.sight g.D.Counted.faults g.D.Disk.tells (world_of g.S.Sealer.seals network) network new
    told.same.0 told.same.1 many told.concerns.carries told.concerns.later in
    look_says g.D.Disk.sight g.D.Counted.faults g.D.Disk.tells g.S.Sealer.seals (VaultShow c.args.account.now c.args.place) c.args.account.now
    network new (vault_at_home (world_of g.S.Sealer.seals network) c.args.account.now c.args.place) keeps c.in-Ok.bytes c.in-Ok.ensures.shown c.in_ok-text-in-Ok.text
    (c.in_ok-text-in-Ok.ensures ∙ ap (λ (l : Bytes). item_text l) c.as_slice.ensures.value)

pub returns-in-Err-clause-does : goal.returns-in-Err-clause-does
returns-in-Err-clause-does g c =
    let network = c.args.network.now in
    let new = c.vault_item-outcome.new.self in
    let told = c.vault_item-outcome.ensures in
    let many : length new.providers ≡ length network.providers =
    c.as_many_providers-2.ensures ∙ ap (λ (k : List Kept). length k) told.same.0 ∙ sym c.as_many_providers.ensures in
    let keeps : Keeps g.D.Disk.sight g.D.Counted.faults g.D.Disk.tells network new =
    keeps_same g.D.Disk.sight g.D.Counted.faults g.D.Disk.tells (world_of g.S.Sealer.seals network) network new
    told.same.0 told.same.1 many told.concerns.carries told.concerns.later in
    look_refuses g.D.Disk.sight g.D.Counted.faults g.D.Disk.tells g.S.Sealer.seals (VaultShow c.args.account.now c.args.place) c.args.account.now
    network new (vault_at_home (world_of g.S.Sealer.seals network) c.args.account.now c.args.place) keeps c.in-Err.fault c.in-Err.ensures.shown (λ e. c.in-Err.ensures.concerns.disk_fault (ap Err e))
    c.in_ok-text-in-Err.text c.in_ok-text-in-Err.ensures

pub returns-in_err-text-in-Ok-clause-does : goal.returns-in_err-text-in-Ok-clause-does
returns-in_err-text-in-Ok-clause-does g c =
    let network = c.args.network.now in
    let new = c.vault_item-outcome.new.self in
    let told = c.vault_item-outcome.ensures in
    let many : length new.providers ≡ length network.providers =
    c.as_many_providers-2.ensures ∙ ap (λ (k : List Kept). length k) told.same.0 ∙ sym c.as_many_providers.ensures in
    let keeps : Keeps g.D.Disk.sight g.D.Counted.faults g.D.Disk.tells network new =
    keeps_same g.D.Disk.sight g.D.Counted.faults g.D.Disk.tells (world_of g.S.Sealer.seals network) network new
    told.same.0 told.same.1 many told.concerns.carries told.concerns.later in
    look_stops g.D.Disk.sight g.D.Counted.faults g.D.Disk.tells g.S.Sealer.seals (VaultShow c.args.account.now c.args.place) c.args.account.now
    network new (vault_at_home (world_of g.S.Sealer.seals network) c.args.account.now c.args.place) keeps c.vault_item-outcome.result told.shown c.from_residual.result c.from_residual.ensures.0

pub returns-in_err-text-in-Err-clause-does : goal.returns-in_err-text-in-Err-clause-does
returns-in_err-text-in-Err-clause-does g c =
    let network = c.args.network.now in
    let new = c.vault_item-outcome.new.self in
    let told = c.vault_item-outcome.ensures in
    let many : length new.providers ≡ length network.providers =
    c.as_many_providers-2.ensures ∙ ap (λ (k : List Kept). length k) told.same.0 ∙ sym c.as_many_providers.ensures in
    let keeps : Keeps g.D.Disk.sight g.D.Counted.faults g.D.Disk.tells network new =
    keeps_same g.D.Disk.sight g.D.Counted.faults g.D.Disk.tells (world_of g.S.Sealer.seals network) network new
    told.same.0 told.same.1 many told.concerns.carries told.concerns.later in
    look_stops g.D.Disk.sight g.D.Counted.faults g.D.Disk.tells g.S.Sealer.seals (VaultShow c.args.account.now c.args.place) c.args.account.now
    network new (vault_at_home (world_of g.S.Sealer.seals network) c.args.account.now c.args.place) keeps c.vault_item-outcome.result told.shown c.from_residual-in_err-text-in-Err.result
    c.from_residual-in_err-text-in-Err.ensures.0

pub returns-in-Ok-clause-carries : goal.returns-in-Ok-clause-carries
returns-in-Ok-clause-carries g c = λ told sound.
    c.vault_item-outcome.ensures.concerns.carries told (journals_of (sites c.args.network.now))

pub returns-in-Err-clause-carries : goal.returns-in-Err-clause-carries
returns-in-Err-clause-carries g c = λ told sound.
    c.vault_item-outcome.ensures.concerns.carries told (journals_of (sites c.args.network.now))

pub returns-in_err-text-in-Ok-clause-carries : goal.returns-in_err-text-in-Ok-clause-carries
returns-in_err-text-in-Ok-clause-carries g c = λ told sound.
    c.vault_item-outcome.ensures.concerns.carries told (journals_of (sites c.args.network.now))

pub returns-in_err-text-in-Err-clause-carries : goal.returns-in_err-text-in-Err-clause-carries
returns-in_err-text-in-Err-clause-carries g c = λ told sound.
    c.vault_item-outcome.ensures.concerns.carries told (journals_of (sites c.args.network.now))
