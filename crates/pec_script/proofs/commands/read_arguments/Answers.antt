-- Each verb's arguments are read by its own function.
use Rattle.pec_directory.specs.Directory.{providers_of}
use Rattle.pec_script.proofs.commands.read_arguments.Goals as goal

pub returns-in-Submit : goal.returns-in-Submit
returns-in-Submit c = rw c.in-Submit.is c.read_submit.ensures

pub returns-in-Tick : goal.returns-in-Tick
returns-in-Tick c = rw c.in-Tick.is c.read_tick.ensures

pub returns-in-Round : goal.returns-in-Round
returns-in-Round c = rw c.in-Round.is (c.read_round.ensures (providers_of c.args.directory.now))

pub returns-in-Lose : goal.returns-in-Lose
returns-in-Lose c = rw c.in-Lose.is c.read_lose.ensures

pub returns-in-Repeat : goal.returns-in-Repeat
returns-in-Repeat c = rw c.in-Repeat.is c.read_repeat.ensures

pub returns-in-Swap : goal.returns-in-Swap
returns-in-Swap c = rw c.in-Swap.is c.read_swap.ensures

pub returns-in-Inject : goal.returns-in-Inject
returns-in-Inject c = rw c.in-Inject.is c.read_inject.ensures

pub returns-in-Crash : goal.returns-in-Crash
returns-in-Crash c = rw c.in-Crash.is c.read_crash.ensures

pub returns-in-Restart : goal.returns-in-Restart
returns-in-Restart c = rw c.in-Restart.is c.read_restart.ensures

pub returns-in-Book : goal.returns-in-Book
returns-in-Book c = rw c.in-Book.is (c.read_book.ensures (providers_of c.args.directory.now))

pub returns-in-Mailbox : goal.returns-in-Mailbox
returns-in-Mailbox c = rw c.in-Mailbox.is (c.read_mailbox.ensures (providers_of c.args.directory.now))

pub returns-in-Show : goal.returns-in-Show
returns-in-Show c = rw c.in-Show.is (c.read_show.ensures (providers_of c.args.directory.now))

pub returns-in-Archive : goal.returns-in-Archive
returns-in-Archive c = rw c.in-Archive.is (c.read_archive.ensures (providers_of c.args.directory.now))

pub returns-in-Upgrade : goal.returns-in-Upgrade
returns-in-Upgrade c = rw c.in-Upgrade.is c.read_upgrade.ensures

pub returns-in-Vault : goal.returns-in-Vault
returns-in-Vault c = rw c.in-Vault.is (c.read_vault.ensures (providers_of c.args.directory.now))

pub returns-in-VaultShow : goal.returns-in-VaultShow
returns-in-VaultShow c = rw c.in-VaultShow.is (c.read_vault_show.ensures (providers_of c.args.directory.now))

pub returns-in-Screen : goal.returns-in-Screen
returns-in-Screen c = rw c.in-Screen.is c.read_screen.ensures
