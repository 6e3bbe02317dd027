-- A network as contracts see it: `NetworkState`; what the ledger sees of it, `sites`, and the world in which it plays,
-- `world_of`; and that its providers are those of its directory, `IsOfDirectory`. This project's profile.
use Rattle.std.specs.Prelude.{◌≡◌, ℕ, zero, suc, ◌<◌, List, [], ◌∷◌, length, slice_index_or}
use Rattle.pec_directory.specs.Directory.{Kept, providers_of}
use Rattle.pec_ledger.specs.Network.{Site}
use Rattle.pec_ledger.specs.Trade.{Trade}
use Rattle.pec_posts.specs.Arrivals.{Waiting, waiting_for}
use Rattle.pec_screen.specs.Verdicts.{Patterns}
use Rattle.pec_seal.specs.Seals.{Seals}
use Rattle.pec_provider.specs.Provider.{ProviderState, Runs, desk_of, site_of}
use Rattle.pec_provider.specs.OfTrades.{Fits, trade_of}

-- Providers with their numbers from 0; for each the patterns of its screens and how often each of these has looked, and
-- the frames that wait for it, a list for each sender; the directory, and who seals.
pub record NetworkState (D S : Type 0) : Type 0 where
  pub kept : List Kept
  pub sealer : S
  pub providers : List (ProviderState D)
  pub screens : List (List Patterns)
  pub looks : List (List ℕ)
  pub waiting : List Waiting

-- the world in which a network plays
abbrev pub world_of : {D S : Type 0} → (S → Seals) → NetworkState D S → Trade
world_of seals network = trade_of network.kept (seals network.sealer)

-- ---- lists, one for each provider

-- the first of lists, and an empty one where there is none
abbrev pub first_of : {X : Type 0} → List (List X) → List X
first_of [] = []
first_of (list ∷ lists) = list

-- the lists behind it
abbrev pub behind_first : {X : Type 0} → List (List X) → List (List X)
behind_first [] = []
behind_first (list ∷ lists) = lists

-- The lists of so many providers, an empty one for each past the end.
abbrev pub of_first : {X : Type 0} → ℕ → List (List X) → List (List X)
of_first zero lists = []
of_first (suc count) lists = first_of lists ∷ of_first count (behind_first lists)

-- ---- sites

-- providers, the patterns of the screens of each and what waits for it, as sites; a provider past the lists has no screens,
-- and nothing waits for it
abbrev pub sites_of : {D : Type 0} → List (ProviderState D) → List (List Patterns) → List Waiting → List Site
sites_of [] screens waiting = []
sites_of (provider ∷ providers) screens waiting =
    site_of (desk_of provider) (first_of screens) (first_of waiting)
    ∷ sites_of providers (behind_first screens) (behind_first waiting)

-- What the ledger sees of a network.
abbrev pub sites : {D S : Type 0} → NetworkState D S → List Site
sites network = sites_of network.providers network.screens network.waiting

-- These are the providers of the directory, for which these seals are, each with links from all of them, and nobody owes an
-- answer.
pub record IsOfDirectory {D : Type 0} (kept : List Kept) (seals : Seals) (providers : List (ProviderState D)) (waiting : List Waiting) : Type 0 where
  pub fits : Fits seals (providers_of kept)
  pub count : length providers ≡ length kept
  pub links : length waiting ≡ length kept
  pub senders : (to : ℕ) → to < length waiting → length (waiting_for waiting to) ≡ length kept
  pub runs : (number : ℕ) (other : ProviderState D) → number < length providers → Runs kept seals number (slice_index_or providers number other)
  pub nothing_owed : (number : ℕ) (other : ProviderState D) → number < length providers → (slice_index_or providers number other).owed ≡ []
