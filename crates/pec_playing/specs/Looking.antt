-- How often the screens of providers look while a command is played: `LooksBy`. This project's profile.
use Rattle.std.specs.Prelude.{◌≡◌, ◌⊎◌, ℕ, List, [], slice_index_or, slice_set}
use Rattle.pec_directory.specs.Directory.{Provider}
use Rattle.pec_ledger.specs.Network.{Site}
use Rattle.pec_plays.specs.Commands.{Command, Round, Screen, Submit, finds_at}
use Rattle.pec_network.specs.Looking.{AllLookAlike}
use Rattle.pec_network.specs.OfProviders.{Case, Looked, case_at}

-- Of the lists of screens, one for each provider from 0 on, none looks; or that of this provider alone, each screen once
-- where the message comes to them.
pub record MayLook (provider : ℕ) (case : Case) (before after : List (List ℕ)) : Type 0 where
  pub own : (slice_index_or after provider [] ≡ slice_index_or before provider [])
      ⊎ Looked case (slice_index_or before provider []) (slice_index_or after provider [])
  pub others : after ≡ slice_set before provider (slice_index_or after provider [])

-- How often a screen at a place of a provider has looked is no longer told, but how often another did that took its place.
pub record IsReplaced (provider place : ℕ) (before after : List (List ℕ)) : Type 0 where
  pub seen : ℕ
  pub is : after ≡ slice_set before provider (slice_set (slice_index_or before provider []) place seen)

-- Screens look at submissions, each once at most, and in rounds, all of a provider equally often.
abbrev pub LooksBy : List Provider → List Site → Command → List (List ℕ) → List (List ℕ) → Type 0
LooksBy providers sites (Submit provider moment sender path message) before after =
    MayLook provider (case_at providers provider sender path message (finds_at sites provider message)) before after
LooksBy providers sites (Round moment) before after = AllLookAlike before after
LooksBy providers sites (Screen provider place spare) before after =
    (after ≡ before) ⊎ IsReplaced provider place before after
LooksBy providers sites _ before after = after ≡ before
