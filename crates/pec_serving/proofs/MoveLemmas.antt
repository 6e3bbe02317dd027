-- How a network moves on while a connection is answered: not at all, or by a submission or a look at an item that was
-- played, or for which memory ran out.
use Rattle.std.proofs.Common.{◌≡◌, false, inl, inr, ℕ, ◌<◌, ◌⊎◌, List, [], ◌∷◌, length, refl, sym, subst, Option, None, Result, Err}
use Rattle.pec_types.specs.Bytes.{Bytes}
use Rattle.pec_types.specs.declared.moments.TheConstants.{END_OF_TIME}
use Rattle.pec_types.specs.declared.turns.ProviderFault.{ProviderFault}
use Rattle.pec_types.specs.declared.turns.ProviderFault.TheVariants as faults
use Rattle.pec_types.specs.declared.turns.Submitted.{Submitted}
use Rattle.pec_outside.specs.DiskModel.{Sight}
use Rattle.pec_seal.specs.Seals.{Seals}
use Rattle.pec_ledger.specs.Network.{Site, Sound, journals_of}
use Rattle.pec_ledger.specs.Trade.{Trade}
use Rattle.pec_ledger.specs.TradeLaws.{IsTrade}
use Rattle.pec_plays.specs.Commands.{Answer, Command, Luck, Show, Shown, Submit, Submits, played}
use Rattle.pec_plays.specs.Scripts.{IsUnforged}
use Rattle.pec_plays.specs.Turns.{Whole}
use Rattle.pec_directory.specs.Directory.{Kept}
use Rattle.pec_playing.specs.Doing.{Carries, Keeps}
use Rattle.pec_playing.specs.OfNetworks.{NetworkState, sites, world_of}
use Rattle.pec_playing.specs.Points.{state_in}
use Rattle.pec_http.specs.Serving.{Serves}
use Rattle.pec_http.specs.declared.serving.Served.{Served}
use Rattle.pec_desk.specs.Desks.{DeskState, HandsIn, LooksAt, answers_of}
use Rattle.pec_service.specs.OfRuns.{Moves, MovesOn}
use Rattle.pec_service.specs.OfRuns.{AreCounted, IsMoment, State, Writes}
use Rattle.pec_serving.proofs.HearingLemmas.{Called, called_or, looked_or, told}
use Rattle.pec_service.specs.Connections.{Place}
use Rattle.pec_serving.specs.Serving.{ComesNext}
use Rattle.pec_serving.specs.declared.next.Came.{Came}
use Rattle.pec_serving.specs.declared.next.Came.TheVariants as came_variants
use Rattle.pec_serving.proofs.KeepLemmas.{as_begun, holds_served}

module _ {D : Type 0} (sight : D → Sight) (faults : D → ℕ) (tells : Type 0) (trade : Trade) where
  pub moves_none : (here : State D) → MovesOn trade tells sight faults here here
  moves_none here = record {
    moves = record { steps = []; counted = λ first. tt; sound = λ told. tt; moments = λ told. record { each = tt; last = inl refl } };
    whole = refl;
  }

  -- one move, whatever it is called
  moves_one : (luck : Luck) (here there : State D) → (IsTrade trade → Sound trade here.sites → Sound trade there.sites)
      → AreCounted faults there → (tells → IsMoment trade sight here there)
      → MovesOn trade tells sight faults here there
  moves_one luck here there sound counted moment = record {
    moves = record {
      steps = record { act = Writes []; luck = luck; behind = there } ∷ [];
      counted = λ first. (counted, tt);
      sound = λ told. (sound, tt);
      moments = λ told. record { each = (moment told, tt); last = inl refl };
    };
    whole = refl;
  }

module _ {D S : Type 0} (sight : D → Sight) (count : D → ℕ) (tells : Type 0) (seals : S → Seals)
    (desk after : DeskState D S) (elsewhere : ℕ → ℕ) (in_time : desk.moment < END_OF_TIME)
    (many : length after.network.providers ≡ length desk.network.providers)
    (stays : IsTrade (world_of seals desk.network) → (luck : Luck) (state : List Site) (command : Command)
    → Sound (world_of seals desk.network) state → IsUnforged (world_of seals desk.network) luck state command
    → Sound (world_of seals desk.network) (played (world_of seals desk.network) luck state command).after)
    (counted : AreCounted count (state_in count elsewhere [] after.network))
    (moment : tells → Carries sight tells (world_of seals desk.network) desk.network after.network
    → IsMoment (world_of seals desk.network) sight (state_in count elsewhere [] desk.network)
    (state_in count elsewhere [] after.network)) where
  abbrev trade : Trade
  trade = world_of seals desk.network

  abbrev MovesTo : DeskState D S → Type 0
  MovesTo to = MovesOn trade tells sight count (state_in count elsewhere [] desk.network) (state_in count elsewhere [] to.network)

  quiet : Luck
  quiet = record { cuts = λ provider. Whole; fails = false; found = false; read = None; shown = None }

  -- A command that was played, or for which memory ran out, keeps a state Sound.
  sound_by : (command : Command) → ((luck : Luck) → IsUnforged trade luck (sites desk.network) command)
      → (shown_so : Option Bytes) (answer : Answer) (Lacks : Type 0)
      → Called (λ luck. played trade luck (sites desk.network) command) (sites after.network) shown_so answer
      ⊎ (Lacks × (sites after.network ≡ sites desk.network))
      → IsTrade trade → Sound trade (sites desk.network) → Sound trade (sites after.network)
  sound_by command may shown_so answer Lacks (inl called) is_trade sound =
      subst (λ (s : List Site). Sound trade s) (sym called.after)
      (stays is_trade called.luck (sites desk.network) command sound (may called.luck))
  sound_by command may shown_so answer Lacks (inr lack) is_trade sound =
      subst (λ (s : List Site). Sound trade s) (sym lack.1) sound

  handed_moves : (address : Bytes) (path : List Bytes) (message : Bytes) (said : Result Submitted ProviderFault)
      → HandsIn sight count tells seals desk address path message said after → MovesTo after
  handed_moves address path message said handed =
      let command : Command =
      Submit handed.number desk.moment address path message
      in moves_one sight count tells trade quiet (state_in count elsewhere [] desk.network) (state_in count elsewhere [] after.network)
      (sound_by command (λ luck. (handed.path.0, handed.path.1, in_time)) None (told Submits said)
      (said ≡ Err faults.NoMemory)
      (called_or (λ luck. played trade luck (sites desk.network) command) (sites desk.network) (sites after.network) said
      handed.plays))
      counted (λ told. moment told (λ again sound. handed.concerns.carries again (journals_of (sites desk.network))))

  looked_moves : (address : Bytes) (place : ℕ) (said : Result Bytes ProviderFault)
      → LooksAt sight count tells seals desk address place said after → MovesTo after
  looked_moves address place said looked =
      moves_one sight count tells trade quiet (state_in count elsewhere [] desk.network) (state_in count elsewhere [] after.network)
      (sound_by (Show address place) (λ luck. tt) looked.reads.shown (told Shown said) (said ≡ Err faults.NoMemory)
      (looked_or (λ luck. played trade luck (sites desk.network) (Show address place)) (sites desk.network)
      (sites after.network) looked.reads.shown said looked.reads.is))
      counted (λ told. moment told (λ again sound. looked.concerns.carries again (journals_of (sites desk.network))))

  pub serves_move : (left held held_then : Option Bytes) (told : Served)
      → Serves (answers_of sight count tells seals) left held desk after held_then told → MovesTo after
  serves_move left held held_then told serves =
      holds_served sight count tells seals desk after MovesTo
      (moves_none sight count tells trade (state_in count elsewhere [] desk.network)) handed_moves looked_moves left held held_then told
      serves

-- ---- a service

-- what is known of moves that are joined
pub record MoveLaws {D : Type 0} (trade : Trade) (disks all : Type 0) (sight : D → Sight) (faults : D → ℕ) : Type 0
  where
    pub on : (first here there : State D) → MovesOn trade all sight faults first here → MovesOn trade all sight faults here there
        → MovesOn trade all sight faults first there
    pub part : (first here there : State D) → MovesOn trade all sight faults first here → Moves trade all sight faults here there
        → Moves trade all sight faults first there
    pub told : (here there : State D) → MovesOn trade disks sight faults here there → MovesOn trade all sight faults here there

module _ {D S : Type 0} (sight : D → Sight) (count : D → ℕ) (disks all : Type 0) (seals : S → Seals)
    (start now again : NetworkState D S) (elsewhere : ℕ → ℕ) (laws : MoveLaws (world_of seals start) disks all sight count)
    (keeps : Keeps sight count disks start now)
    (going : MovesOn (world_of seals start) all sight count (state_in count elsewhere [] start) (state_in count elsewhere [] now))
    (next : MovesOn (world_of seals now) disks sight count (state_in count elsewhere [] now) (state_in count elsewhere [] again)) where
  -- the next connection alone
  pub next_moves : MovesOn (world_of seals start) all sight count (state_in count elsewhere [] now) (state_in count elsewhere [] again)
  next_moves =
      laws.told (state_in count elsewhere [] now) (state_in count elsewhere [] again)
      (as_begun sight count disks seals start now keeps
      (λ (t : Trade) (k : List Kept). MovesOn t disks sight count (state_in count elsewhere [] now) (state_in count elsewhere [] again))
      next)

  -- the next connection
  pub moves_again : MovesOn (world_of seals start) all sight count (state_in count elsewhere [] start) (state_in count elsewhere [] again)
  moves_again =
      laws.on (state_in count elsewhere [] start) (state_in count elsewhere [] now) (state_in count elsewhere [] again) going
      (laws.told (state_in count elsewhere [] now) (state_in count elsewhere [] again)
      (as_begun sight count disks seals start now keeps
      (λ (t : Trade) (k : List Kept). MovesOn t disks sight count (state_in count elsewhere [] now) (state_in count elsewhere [] again))
      next))

  module _ (keeps_again : Keeps sight count disks start again) (last : NetworkState D S) where
    -- it and its clock calls, all of them or some
    pub whole_moves : MovesOn (world_of seals again) all sight count (state_in count elsewhere [] again)
        (state_in count elsewhere [] last)
        → MovesOn (world_of seals start) all sight count (state_in count elsewhere [] now) (state_in count elsewhere [] last)
    whole_moves clock =
        laws.on (state_in count elsewhere [] now) (state_in count elsewhere [] again) (state_in count elsewhere [] last) next_moves
        (as_begun sight count disks seals start again keeps_again
        (λ (t : Trade) (k : List Kept). MovesOn t all sight count (state_in count elsewhere [] again) (state_in count elsewhere [] last))
        clock)

    pub part_moves : Moves (world_of seals again) all sight count (state_in count elsewhere [] again)
        (state_in count elsewhere [] last)
        → Moves (world_of seals start) all sight count (state_in count elsewhere [] now) (state_in count elsewhere [] last)
    part_moves clock =
        laws.part (state_in count elsewhere [] now) (state_in count elsewhere [] again) (state_in count elsewhere [] last) next_moves
        (as_begun sight count disks seals start again keeps_again
        (λ (t : Trade) (k : List Kept). Moves t all sight count (state_in count elsewhere [] again) (state_in count elsewhere [] last))
        clock)

    -- and its clock calls, all of them
    pub moves_last : MovesOn (world_of seals again) all sight count (state_in count elsewhere [] again)
        (state_in count elsewhere [] last)
        → MovesOn (world_of seals start) all sight count (state_in count elsewhere [] start) (state_in count elsewhere [] last)
    moves_last clock =
        laws.on (state_in count elsewhere [] start) (state_in count elsewhere [] again) (state_in count elsewhere [] last) moves_again
        (as_begun sight count disks seals start again keeps_again
        (λ (t : Trade) (k : List Kept). MovesOn t all sight count (state_in count elsewhere [] again) (state_in count elsewhere [] last))
        clock)

    -- or some
    pub moves_stopped : Moves (world_of seals again) all sight count (state_in count elsewhere [] again)
        (state_in count elsewhere [] last)
        → Moves (world_of seals start) all sight count (state_in count elsewhere [] start) (state_in count elsewhere [] last)
    moves_stopped clock =
        laws.part (state_in count elsewhere [] start) (state_in count elsewhere [] again) (state_in count elsewhere [] last)
        moves_again
        (as_begun sight count disks seals start again keeps_again
        (λ (t : Trade) (k : List Kept). Moves t all sight count (state_in count elsewhere [] again) (state_in count elsewhere [] last))
        clock)

-- a connection that was served came at a moment that a clock tells
pub served_in_time : (trade : Trade) (tells : Type 0) (kept : List Kept) (here there : Place) (moment : ℕ) (told : Served)
    (came : Came) → came ≡ came_variants.Served moment told → ComesNext trade tells kept here there came
    → moment < END_OF_TIME
served_in_time trade tells kept here there moment told came is comes =
    let next = subst (λ (c : Came). ComesNext trade tells kept here there c) is comes in
    subst (λ (m : ℕ). m < END_OF_TIME) next.moment_is next.is.in_time
