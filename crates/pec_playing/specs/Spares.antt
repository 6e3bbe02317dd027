-- The spares that are at hand as a command is played, and those that are left behind it: `last_spare`, `LeavesSpares`.
-- This project's profile.
use Rattle.std.specs.Prelude.{◌≡◌, ◌-◌, List, length, slice_get, Option}
use Rattle.pec_ledger.specs.Network.{Site}
use Rattle.pec_ledger.specs.Trade.{Trade}
use Rattle.pec_plays.specs.Commands.{Command, Luck, played}
use Rattle.pec_runs.specs.Plays.{spares_left}
use Rattle.pec_screen.specs.Verdicts.{Patterns}
use Rattle.pec_script.specs.declared.commands.Command.{Command as Written}
use Rattle.pec_script.specs.declared.commands.Command.TheVariants as written

-- the patterns of the last spare, if one is left
abbrev pub last_spare : List Patterns → Option Patterns
last_spare spares = slice_get spares (length spares - 1)

-- The command asks for no spare.
abbrev pub NeedsNoSpare : Written → Type 0
NeedsNoSpare (written.Screen provider place) = ⊥
NeedsNoSpare _ = Unit {0}

-- Behind a command, whatever its luck, those spares are left that its answer leaves.
abbrev pub LeavesSpares : Trade → List Patterns → List Site → Command → List Patterns → Type 0
LeavesSpares trade spares sites command left =
    (luck : Luck) → left ≡ spares_left spares command (played trade luck sites command).answer
