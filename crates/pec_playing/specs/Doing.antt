-- What a call for one command comes to, whoever asked for it: `Does`. It speaks of disks alone, and not of a depot.
-- This project's profile.
use Rattle.std.specs.Prelude.{◌≡◌, ◌⊎◌, ℕ, false, List, length, Some, Result, IfOk, OnErr}
use Rattle.std.specs.declared.alloc.Global.{Global}
use Rattle.std.specs.declared.vec.Vec.{Vec}
use Rattle.pec_outside.specs.DiskModel.{Sight}
use Rattle.pec_types.specs.declared.faults.NoMemory.{NoMemory}
use Rattle.pec_directory.specs.Directory.{providers_of}
use Rattle.pec_ledger.specs.Network.{Site, Sound, is_up, journals_of}
use Rattle.pec_ledger.specs.Trade.{Trade}
use Rattle.pec_plays.specs.Commands.{Command, Restart}
use Rattle.pec_network.specs.OfProviders.{ProviderState}
use Rattle.pec_network.specs.Carrying.{AllCarryOn, AllStand, NoneFalls}
use Rattle.pec_network.specs.Network.{NetworkState, sites}
use Rattle.pec_runs.specs.Ran.{LeavesOff}
use Rattle.pec_playing.specs.Playing.{IsPlayedSo, counts_in}

-- A provider that was down was restarted, and came to what it doesn't come to over a disk that tells what it holds,
-- where each provider stands on its disk.
pub record Strange {D : Type 0} (sight : D → Sight) (tells : Type 0) (providers : List (ProviderState D))
    (state : List Site) (command : Command) : Type 0 where
  pub provider : ℕ
  pub restarts : command ≡ Restart provider
  pub down : is_up state provider ≡ false
  pub never : tells → AllStand sight providers → ⊥

-- What every command keeps: the directory, how many providers there are, and who seals; that providers stand on disks that
-- tell what they hold; and no count of faults falls.
pub record Keeps {D S : Type 0} (sight : D → Sight) (faults : D → ℕ) (tells : Type 0)
    (old new : NetworkState D S) : Type 0 where
  pub directory : new.kept ≡ old.kept
  pub many : length new.providers ≡ length old.providers
  pub seals : new.sealer ≡ old.sealer
  pub stands : tells → AllStand sight old.providers → AllStand sight new.providers
  pub later : NoneFalls faults old.providers new.providers

-- Where the state before a command is Sound each provider carries on, with entries that may follow in the ledger of that
-- state: so it is at every moment of the command.
abbrev pub Carries : {D S : Type 0} → (D → Sight) → Type 0 → Trade → NetworkState D S → NetworkState D S → Type 0
Carries sight tells trade old new =
    tells → Sound trade (sites old)
    → AllCarryOn sight trade (journals_of (sites old)) old.providers new.providers

-- A command was played and its answer's lines are given, or memory ran out. Where disks tell what they hold, and what is
-- kept of each provider stood on its own, they gave back what they took.
pub record Does {D S : Type 0} (sight : D → Sight) (faults : D → ℕ) (tells : Type 0) (trade : Trade) (command : Command)
    (old new : NetworkState D S) (result : Result (Vec ℕ Global) NoMemory) : Type 0 where
  pub said : (elsewhere : ℕ → ℕ) → IfOk result (λ text.
      IsPlayedSo (tells × AllStand sight old.providers) trade (providers_of old.kept) (sites old)
      (counts_in faults old.providers elsewhere) (counts_in faults new.providers elsewhere) command text.items (sites new)
      ⊎ Strange sight tells old.providers (sites old) command)
  pub left : OnErr result (LeavesOff trade (sites old) (Some command) (sites new)
      ⊎ Strange sight tells old.providers (sites old) command)
  pub keeps : Keeps sight faults tells old new
