use Rattle.std.proofs.Common.{◌≡◌, drop}
use Rattle.std.specs.List.{list_all}
use Rattle.pec_directory.specs.Directory.{providers_of}
use Rattle.pec_shelf.specs.Settled.{has_room_at}
use Rattle.pec_shelf.proofs.accounts.all_have_room.Given as goal

abbrev pub invariant-loop-account : goal.invariant-loop-account
invariant-loop-account l =
    list_all (has_room_at (providers_of l.directory) l.shelf.me l.shelf.half) l.accounts
    ≡ list_all (has_room_at (providers_of l.directory) l.shelf.me l.shelf.half) (drop l.account-index l.accounts)
