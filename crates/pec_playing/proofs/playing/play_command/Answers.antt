-- What takes no spare leaves all; another screen takes the last.
use Rattle.std.proofs.Common.{List, map, subst, sym}
use Rattle.std.specs.Prelude.{IfOk}
use Rattle.pec_screen.specs.Verdicts.{Patterns}
use Rattle.pec_network.specs.Network.{sites, world_of}
use Rattle.pec_script.specs.declared.commands.Command.{Command as Written}
use Rattle.pec_runs.specs.ScriptLines.{command_in}
use Rattle.pec_playing.specs.Spares.{LeavesSpares, NeedsNoSpare, last_spare}
use Rattle.pec_playing.proofs.SpareLemmas.{all_left}
use Rattle.pec_playing.proofs.playing.play_command.Goals as goal

pub returns-in-Submit-clause-left : goal.returns-in-Submit-clause-left
returns-in-Submit-clause-left g c =
    let network = c.args.network.now in
    all_left (world_of g.S.Sealer.seals network) (map g.J.Judge.spare_patterns c.args.spares.now.items) (sites network)
    c.args.command c.submit.result (subst NeedsNoSpare (sym c.in-Submit.is) tt)

pub returns-in-Tick-clause-left : goal.returns-in-Tick-clause-left
returns-in-Tick-clause-left g c =
    let network = c.args.network.now in
    all_left (world_of g.S.Sealer.seals network) (map g.J.Judge.spare_patterns c.args.spares.now.items) (sites network)
    c.args.command c.tick.result (subst NeedsNoSpare (sym c.in-Tick.is) tt)

pub returns-in-Round-clause-left : goal.returns-in-Round-clause-left
returns-in-Round-clause-left g c =
    let network = c.args.network.now in
    all_left (world_of g.S.Sealer.seals network) (map g.J.Judge.spare_patterns c.args.spares.now.items) (sites network)
    c.args.command c.round.result (subst NeedsNoSpare (sym c.in-Round.is) tt)

pub returns-in-Lose-clause-left : goal.returns-in-Lose-clause-left
returns-in-Lose-clause-left g c =
    let network = c.args.network.now in
    all_left (world_of g.S.Sealer.seals network) (map g.J.Judge.spare_patterns c.args.spares.now.items) (sites network)
    c.args.command c.lose.result (subst NeedsNoSpare (sym c.in-Lose.is) tt)

pub returns-in-Repeat-clause-left : goal.returns-in-Repeat-clause-left
returns-in-Repeat-clause-left g c =
    let network = c.args.network.now in
    all_left (world_of g.S.Sealer.seals network) (map g.J.Judge.spare_patterns c.args.spares.now.items) (sites network)
    c.args.command c.repeat.result (subst NeedsNoSpare (sym c.in-Repeat.is) tt)

pub returns-in-Swap-clause-left : goal.returns-in-Swap-clause-left
returns-in-Swap-clause-left g c =
    let network = c.args.network.now in
    all_left (world_of g.S.Sealer.seals network) (map g.J.Judge.spare_patterns c.args.spares.now.items) (sites network)
    c.args.command c.swap.result (subst NeedsNoSpare (sym c.in-Swap.is) tt)

pub returns-in-Inject-clause-left : goal.returns-in-Inject-clause-left
returns-in-Inject-clause-left g c =
    let network = c.args.network.now in
    all_left (world_of g.S.Sealer.seals network) (map g.J.Judge.spare_patterns c.args.spares.now.items) (sites network)
    c.args.command c.inject.result (subst NeedsNoSpare (sym c.in-Inject.is) tt)

pub returns-in-Crash-clause-left : goal.returns-in-Crash-clause-left
returns-in-Crash-clause-left g c =
    let network = c.args.network.now in
    all_left (world_of g.S.Sealer.seals network) (map g.J.Judge.spare_patterns c.args.spares.now.items) (sites network)
    c.args.command c.crash.result (subst NeedsNoSpare (sym c.in-Crash.is) tt)

pub returns-in-Restart-clause-left : goal.returns-in-Restart-clause-left
returns-in-Restart-clause-left g c =
    let network = c.args.network.now in
    all_left (world_of g.S.Sealer.seals network) (map g.J.Judge.spare_patterns c.args.spares.now.items) (sites network)
    c.args.command c.restart.result (subst NeedsNoSpare (sym c.in-Restart.is) tt)

pub returns-in-Book-clause-left : goal.returns-in-Book-clause-left
returns-in-Book-clause-left g c =
    let network = c.args.network.now in
    all_left (world_of g.S.Sealer.seals network) (map g.J.Judge.spare_patterns c.args.spares.now.items) (sites network)
    c.args.command c.book.result (subst NeedsNoSpare (sym c.in-Book.is) tt)

pub returns-in-Mailbox-clause-left : goal.returns-in-Mailbox-clause-left
returns-in-Mailbox-clause-left g c =
    let network = c.args.network.now in
    all_left (world_of g.S.Sealer.seals network) (map g.J.Judge.spare_patterns c.args.spares.now.items) (sites network)
    c.args.command c.mailbox.result (subst NeedsNoSpare (sym c.in-Mailbox.is) tt)

pub returns-in-Show-clause-left : goal.returns-in-Show-clause-left
returns-in-Show-clause-left g c =
    let network = c.args.network.now in
    all_left (world_of g.S.Sealer.seals network) (map g.J.Judge.spare_patterns c.args.spares.now.items) (sites network)
    c.args.command c.show.result (subst NeedsNoSpare (sym c.in-Show.is) tt)

pub returns-in-Archive-clause-left : goal.returns-in-Archive-clause-left
returns-in-Archive-clause-left g c =
    let network = c.args.network.now in
    all_left (world_of g.S.Sealer.seals network) (map g.J.Judge.spare_patterns c.args.spares.now.items) (sites network)
    c.args.command c.archive.result (subst NeedsNoSpare (sym c.in-Archive.is) tt)

pub returns-in-Upgrade-clause-left : goal.returns-in-Upgrade-clause-left
returns-in-Upgrade-clause-left g c =
    let network = c.args.network.now in
    all_left (world_of g.S.Sealer.seals network) (map g.J.Judge.spare_patterns c.args.spares.now.items) (sites network)
    c.args.command c.upgrade.result (subst NeedsNoSpare (sym c.in-Upgrade.is) tt)

pub returns-in-Vault-clause-left : goal.returns-in-Vault-clause-left
returns-in-Vault-clause-left g c =
    let network = c.args.network.now in
    all_left (world_of g.S.Sealer.seals network) (map g.J.Judge.spare_patterns c.args.spares.now.items) (sites network)
    c.args.command c.vault.result (subst NeedsNoSpare (sym c.in-Vault.is) tt)

pub returns-in-VaultShow-clause-left : goal.returns-in-VaultShow-clause-left
returns-in-VaultShow-clause-left g c =
    let network = c.args.network.now in
    all_left (world_of g.S.Sealer.seals network) (map g.J.Judge.spare_patterns c.args.spares.now.items) (sites network)
    c.args.command c.vault_show.result (subst NeedsNoSpare (sym c.in-VaultShow.is) tt)

pub returns-in-Screen-clause-left : goal.returns-in-Screen-clause-left
returns-in-Screen-clause-left g c =
    let network = c.args.network.now in
    let spares : List Patterns = map g.J.Judge.spare_patterns c.args.spares.now.items in
    subst (λ (command : Written). IfOk c.screen.result (λ text. LeavesSpares (world_of g.S.Sealer.seals network) spares
    (sites network) (command_in (last_spare spares) command) (map g.J.Judge.spare_patterns c.screen.new.spares.items)))
    (sym c.in-Screen.is) c.screen.ensures.left

pub returns-in-Screen-clause-spared : goal.returns-in-Screen-clause-spared
returns-in-Screen-clause-spared g c = λ none. absurd (subst NeedsNoSpare c.in-Screen.is none)
