-- What a network's calls answer, and what they leave: each is played as a command of pec_plays, with the luck that its
-- answer tells. This project's profile.
use Rattle.std.specs.Prelude.{◌≡◌, ℕ, true, false, List, Option, Some, None, Result, Ok, Err, IsErrOf}
use Rattle.pec_types.specs.Bytes.{Bytes}
use Rattle.pec_types.specs.declared.turns.ProviderFault.{ProviderFault}
use Rattle.pec_types.specs.declared.turns.ProviderFault.TheVariants as faults
use Rattle.pec_link.specs.declared.faults.LinkFault.{LinkFault}
use Rattle.pec_link.specs.declared.faults.LinkFault.TheVariants as link_faults
use Rattle.pec_ledger.specs.Network.{Site}
use Rattle.pec_plays.specs.Commands.{Answer, Command, LinkFull, Luck, NoFrame, NoScreen, Played, Refuses, Screened, answers}
use Rattle.pec_plays.specs.Commands.{played}
use Rattle.pec_plays.specs.Turns.{Whole}
use Rattle.pec_provider.specs.Playing.{luck_of}
use Rattle.pec_provider.specs.declared.swapping.SwapFault.{SwapFault}
use Rattle.pec_provider.specs.declared.swapping.SwapFault.TheVariants as swaps
use Rattle.pec_seal.specs.Seals.{Seals}
use Rattle.pec_network.specs.Network.{NetworkState, sites, world_of}

-- A command of a provider was played, and answered so. An append that failed is told by the answer; all other refusals,
-- and want of memory, leave the state as it was.
abbrev pub IsPlayed : {X : Type 0} → (X → Answer) → (Luck → Played) → List Site → List Site → Result X ProviderFault → Type 0
IsPlayed tells play old new (Ok x) = play (luck_of false) ≡ record { answer = tells x; after = new }
IsPlayed tells play old new (Err faults.DiskFault) =
    play (luck_of true) ≡ record { answer = Refuses faults.DiskFault; after = new }
IsPlayed tells play old new (Err faults.NoMemory) = new ≡ old
IsPlayed tells play old new (Err fault) = (play (luck_of false) ≡ answers old (Refuses fault)) × (new ≡ old)

-- A command of a provider was played over a network, in its world, and answered so.
abbrev pub IsPlayedOver : {D S X : Type 0} → (S → Seals) → (X → Answer) → Command → NetworkState D S
    → NetworkState D S → Result X ProviderFault → Type 0
IsPlayedOver seals tells command old new result =
    IsPlayed tells (λ (luck : Luck). played (world_of seals old) luck (sites old) command) (sites old) (sites new) result

-- A command of a link was played, which answers so where it is done.
abbrev pub IsPlayedOnLink : Answer → Played → List Site → List Site → Result (Unit {0}) LinkFault → Type 0
IsPlayedOnLink done played old new (Ok x) = played ≡ record { answer = done; after = new }
IsPlayedOnLink done played old new (Err link_faults.NoFrame) = (played ≡ answers old NoFrame) × (new ≡ old)
IsPlayedOnLink done played old new (Err link_faults.Full) = (played ≡ answers old LinkFull) × (new ≡ old)
IsPlayedOnLink done played old new (Err link_faults.NoMemory) = new ≡ old

-- Another screen was put into a place, as a command, or refused; after a refusal all is as it was.
abbrev pub IsSwapped : {X : Type 0} → Played → List Site → List Site → Result (Unit {0}) (X × SwapFault) → Type 0
IsSwapped played old new (Ok x) = played ≡ record { answer = Screened; after = new }
IsSwapped played old new (Err (spare, swaps.Down)) = (played ≡ answers old (Refuses faults.Down)) × (new ≡ old)
IsSwapped played old new (Err (spare, swaps.NoSuchPlace)) = (played ≡ answers old NoScreen) × (new ≡ old)

-- An account was shown what it asked for, or refused.
abbrev pub IsShown : {X : Type 0} → (X → Answer) → Played → List Site → Result X ProviderFault → Type 0
IsShown tells played sites (Ok x) = played ≡ answers sites (tells x)
IsShown tells played sites (Err faults.NoMemory) = Unit {0}
IsShown tells played sites (Err fault) = played ≡ answers sites (Refuses fault)

-- ---- what is read

-- the read of an item fails so, if it does, and these bytes are shown in place of the item's, if others are
abbrev pub luck_of_read : Option ProviderFault → Option Bytes → Luck
luck_of_read read shown = record { cuts = λ provider. Whole; fails = false; found = false; read = read; shown = shown }

-- A command that reads was played, by how the read failed, if it did, and answered so. A read that failed is told by
-- the answer; all other refusals, and want of memory, leave the state as it was.
abbrev pub IsReadSo : {X : Type 0} → (X → Answer) → (Option ProviderFault → Played) → List Site → List Site
    → Result X ProviderFault → Type 0
IsReadSo tells play old new (Ok x) = (play None ≡ answers old (tells x)) × (new ≡ old)
IsReadSo tells play old new (Err faults.DiskFault) =
    play (Some faults.DiskFault) ≡ record { answer = Refuses faults.DiskFault; after = new }
IsReadSo tells play old new (Err (faults.Changed number)) =
    play (Some (faults.Changed number)) ≡ record { answer = Refuses (faults.Changed number); after = new }
IsReadSo tells play old new (Err faults.NoMemory) = new ≡ old
IsReadSo tells play old new (Err fault) = (play None ≡ answers old (Refuses fault)) × (new ≡ old)

-- A command that reads was played over a network, in its world, and answered so. `Stood` says when all disks gave back
-- what they took; then no other bytes were shown than those of the item, and no entry is told as changed.
pub record IsReadOver {D S X : Type 0} (Stood : Type 0) (seals : S → Seals) (tells : X → Answer) (command : Command)
    (old new : NetworkState D S) (result : Result X ProviderFault) : Type 0 where
  pub shown : Option Bytes
  pub kept : Stood → shown ≡ None
  pub unchanged : Stood → (number : ℕ) → IsErrOf result (faults.Changed number) → ⊥
  pub is : IsReadSo tells
      (λ (read : Option ProviderFault). played (world_of seals old) (luck_of_read read shown) (sites old) command)
      (sites old) (sites new) result
