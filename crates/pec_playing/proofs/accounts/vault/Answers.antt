use Rattle.std.proofs.Common.{◌∙◌, false, Global, List, Vec, ap}
use Rattle.pec_types.specs.declared.mailboxes.ItemLine.{ItemLine}
use Rattle.pec_directory.specs.Directory.{Kept, providers_of}
use Rattle.pec_plays.specs.Commands.{Vault, Vaults}
use Rattle.pec_network.specs.Network.{world_of}
use Rattle.pec_network.specs.OfProviders.{luck_of}
use Rattle.pec_script.specs.Texts.{vault_text}
use Rattle.pec_playing.proofs.AskLemmas.{ask_refuses, ask_says, ask_stops, vault_asked, vaults_told}
use Rattle.pec_playing.proofs.accounts.vault.Goals as goal

pub returns-in-Ok : goal.returns-in-Ok
returns-in-Ok g c =
    let network = c.args.network.now in
    let trade = world_of g.S.Sealer.seals network in
    ask_says g.D.Disk.sight g.D.Counted.faults g.D.Disk.tells trade (Vault c.args.account.now) network
    (vault_asked trade c.args.account.now)
    (λ (told : Vec ItemLine Global). Vaults told.items) c.in-Ok.lines
    (λ providers. vault_text providers c.in-Ok.lines.items) (vaults_told c.in-Ok.lines.items)
    (c.in-Ok.ensures (luck_of false)) c.in_ok-text-in-Ok.text
    (c.in_ok-text-in-Ok.ensures
    ∙ ap (λ (k : List Kept). vault_text (providers_of k) c.as_slice.result.now) c.directory.ensures.value
    ∙ ap (λ (l : List ItemLine). vault_text (providers_of network.kept) l) c.as_slice.ensures.value)

pub returns-in-Err : goal.returns-in-Err
returns-in-Err g c =
    let network = c.args.network.now in
    let trade = world_of g.S.Sealer.seals network in
    ask_refuses g.D.Disk.sight g.D.Counted.faults g.D.Disk.tells trade (Vault c.args.account.now) network
    (vault_asked trade c.args.account.now)
    (λ (told : Vec ItemLine Global). Vaults told.items) c.in-Err.fault (c.in-Err.ensures (luck_of false))
    c.in_ok-text-in-Err.text c.in_ok-text-in-Err.ensures

pub returns-in_err-text-in-Ok : goal.returns-in_err-text-in-Ok
returns-in_err-text-in-Ok g c =
    let network = c.args.network.now in
    let trade = world_of g.S.Sealer.seals network in
    ask_stops g.D.Disk.sight g.D.Counted.faults g.D.Disk.tells trade (Vault c.args.account.now) network
    (vault_asked trade c.args.account.now)
    (λ (told : Vec ItemLine Global). Vaults told.items) c.from_residual.result c.from_residual.ensures.0

pub returns-in_err-text-in-Err : goal.returns-in_err-text-in-Err
returns-in_err-text-in-Err g c =
    let network = c.args.network.now in
    let trade = world_of g.S.Sealer.seals network in
    ask_stops g.D.Disk.sight g.D.Counted.faults g.D.Disk.tells trade (Vault c.args.account.now) network
    (vault_asked trade c.args.account.now)
    (λ (told : Vec ItemLine Global). Vaults told.items) c.from_residual-in_err-text-in-Err.result
    c.from_residual-in_err-text-in-Err.ensures.0
