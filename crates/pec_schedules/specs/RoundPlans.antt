-- The plan of a round (`plan_of`): what the turns of all providers take and put, on each link. That a schedule of it
-- leaves on each link what the round leaves there is `LeavesTheRound`. This project's profile.
use Rattle.std.specs.Prelude.{◌≡◌, ℕ, ◌-◌, ◌<◌, List, [], length, slice_index_or, Some}
use Rattle.pec_ledger.specs.Network.{Site, frames_between, site_at}
use Rattle.pec_ledger.specs.Trade.{Trade}
use Rattle.pec_plays.specs.Rounds.{rooms_of, rounded}
use Rattle.pec_plays.specs.Turns.{Cut, Turned, turned}
use Rattle.pec_schedules.specs.Schedules.{Lines, Plan, Step, begun, ran}

module _ (trade : Trade) (now : ℕ) (cuts : ℕ → Cut) (sites : List Site) where
  -- the turn of a provider, from the state as the round begins
  abbrev pub turn_at : ℕ → Turned
  turn_at provider = turned trade provider now (rooms_of sites provider) (cuts provider) (site_at sites provider)

  -- On each link wait the frames that wait as the round begins. As many are taken as the turn of the provider for which
  -- they wait took, and those are put that the turn of the other provider put there.
  abbrev pub plan_of : Plan
  plan_of link = record {
    waiting = frames_between sites link.0 link.1;
    takes = length (frames_between sites link.0 link.1) - length (slice_index_or (turn_at link.1).site.waiting link.0 []);
    puts = slice_index_or (turn_at link.0).out link.1 [];
  }

  -- These steps are done, and each link of the network then holds what it holds behind the round.
  pub record LeavesTheRound (steps : List Step) : Type 0 where
    pub after : Lines
    pub runs : ran steps (begun plan_of) ≡ Some after
    pub each : (from to : ℕ) → from < length sites → to < length sites
        → (after (from, to)).frames ≡ frames_between (rounded trade now cuts sites).sites from to
