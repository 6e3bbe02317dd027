-- Sites of a network, where one provider, its screens or what waits for it changes.
use Rattle.std.proofs.Common.{◌≡◌, ℕ, zero, suc, ◌+◌, ◌<◌, List, [], ◌∷◌, length, get_or, set, refl, ap, ◌∙◌, arith}
use Rattle.std.proofs.lemmas.List.{set-get_or}
use Rattle.pec_ledger.specs.Network.{Site, empty_site, site_at}
use Rattle.pec_plays.specs.Commands.{with_screens, with_site}
use Rattle.pec_plays.specs.Rounds.{delivered_to, with_waiting}
use Rattle.pec_posts.specs.Arrivals.{Waiting, deliveries, waiting_for}
use Rattle.pec_screen.specs.Verdicts.{Patterns}
use Rattle.pec_types.specs.Bytes.{Bytes}
use Rattle.pec_provider.specs.Provider.{Desk, ProviderState, desk_of, site_of}
use Rattle.pec_network.specs.Network.{behind_first, first_of, sites_of}

-- a site in its own place
pub site_again : (all : List Site) (number : ℕ) → with_site all number (site_at all number) ≡ all
site_again all number = set-get_or all number empty_site

-- ---- lists, one for each provider

first_at : {X : Type 0} (lists : List (List X)) → first_of lists ≡ get_or lists 0 []
first_at [] = refl
first_at (list ∷ lists) = refl

next_at : {X : Type 0} (lists : List (List X)) (number : ℕ) → get_or (behind_first lists) number [] ≡ get_or lists (suc number) []
next_at [] number = refl
next_at (list ∷ lists) number = refl

site_first : (desk : Desk) (screens : List (List Patterns)) (waiting : List Waiting)
    → site_of desk (first_of screens) (first_of waiting) ≡ site_of desk (get_or screens 0 []) (waiting_for waiting 0)
site_first desk screens waiting =
    ap (λ (boxes : List Patterns). site_of desk boxes (first_of waiting)) (first_at screens)
    ∙ ap (λ (links : Waiting). site_of desk (get_or screens 0 []) links) (first_at waiting)

site_next : (desk : Desk) (screens : List (List Patterns)) (waiting : List Waiting) (number : ℕ)
    → site_of desk (get_or (behind_first screens) number []) (waiting_for (behind_first waiting) number)
    ≡ site_of desk (get_or screens (suc number) []) (waiting_for waiting (suc number))
site_next desk screens waiting number =
    ap (λ (boxes : List Patterns). site_of desk boxes (waiting_for (behind_first waiting) number)) (next_at screens number)
    ∙ ap (λ (links : Waiting). site_of desk (get_or screens (suc number) []) links) (next_at waiting number)

-- ---- sites

module _ {D : Type 0} where
  pub sites_count : (providers : List (ProviderState D)) (screens : List (List Patterns)) (waiting : List Waiting)
      → length (sites_of providers screens waiting) ≡ length providers
  sites_count [] screens waiting = refl
  sites_count (provider ∷ providers) screens waiting =
      ap suc (sites_count providers (behind_first screens) (behind_first waiting))

  pub site_is : (providers : List (ProviderState D)) (screens : List (List Patterns)) (waiting : List Waiting)
      (number : ℕ) (other : ProviderState D) → number < length providers
      → site_at (sites_of providers screens waiting) number
      ≡ site_of (desk_of (get_or providers number other)) (get_or screens number []) (waiting_for waiting number)
  site_is [] screens waiting number other l = absurd (omega arith)
  site_is (provider ∷ providers) screens waiting zero other l = site_first (desk_of provider) screens waiting
  site_is (provider ∷ providers) screens waiting (suc number) other l =
      site_is providers (behind_first screens) (behind_first waiting) number other (omega arith)
      ∙ site_next (desk_of (get_or providers number other)) screens waiting number

  -- another provider in the place of one
  pub provider_changes : (providers : List (ProviderState D)) (screens : List (List Patterns)) (waiting : List Waiting)
      (number : ℕ) (new : ProviderState D) → number < length providers
      → sites_of (set providers number new) screens waiting
      ≡ with_site (sites_of providers screens waiting) number
      (site_of (desk_of new) (get_or screens number []) (waiting_for waiting number))
  provider_changes [] screens waiting number new l = absurd (omega arith)
  provider_changes (provider ∷ providers) screens waiting zero new l =
      ap (λ (s : Site). s ∷ sites_of providers (behind_first screens) (behind_first waiting))
      (site_first (desk_of new) screens waiting)
  provider_changes (provider ∷ providers) screens waiting (suc number) new l =
      let rest = sites_of providers (behind_first screens) (behind_first waiting) in
      let here = site_of (desk_of provider) (first_of screens) (first_of waiting) in
      ap (λ (more : List Site). here ∷ more)
      (provider_changes providers (behind_first screens) (behind_first waiting) number new (omega arith)
      ∙ ap (λ (s : Site). with_site rest number s) (site_next (desk_of new) screens waiting number))

  -- other screens of one
  pub screens_change : (providers : List (ProviderState D)) (screens : List (List Patterns)) (waiting : List Waiting)
      (number : ℕ) (boxes : List Patterns) → number < length providers → number < length screens
      → sites_of providers (set screens number boxes) waiting
      ≡ with_site (sites_of providers screens waiting) number
      (with_screens (site_at (sites_of providers screens waiting) number) boxes)
  screens_change [] screens waiting number boxes l m = absurd (omega arith)
  screens_change (provider ∷ providers) [] waiting number boxes l m = absurd (omega arith)
  screens_change (provider ∷ providers) (first ∷ screens) waiting zero boxes l m = refl
  screens_change (provider ∷ providers) (first ∷ screens) waiting (suc number) boxes l m =
      ap (λ (more : List Site). site_of (desk_of provider) first (first_of waiting) ∷ more)
      (screens_change providers screens (behind_first waiting) number boxes (omega arith) (omega arith))

  -- other frames wait for one
  pub waiting_changes : (providers : List (ProviderState D)) (screens : List (List Patterns)) (waiting : List Waiting)
      (number : ℕ) (new : Waiting) → number < length providers → length waiting ≡ length providers
      → sites_of providers screens (set waiting number new)
      ≡ with_site (sites_of providers screens waiting) number
      (with_waiting (site_at (sites_of providers screens waiting) number) new)
  waiting_changes [] screens waiting number new l e = absurd (omega arith)
  waiting_changes (provider ∷ providers) screens [] number new l e = absurd (omega arith)
  waiting_changes (provider ∷ providers) screens (links ∷ waiting) zero new l e = refl
  waiting_changes (provider ∷ providers) screens (links ∷ waiting) (suc number) new l e =
      ap (λ (more : List Site). site_of (desk_of provider) (first_of screens) links ∷ more)
      (waiting_changes providers (behind_first screens) waiting number new (omega arith) (omega arith))

  -- another provider in the place of one, for which other frames wait
  pub both_change : (providers : List (ProviderState D)) (screens : List (List Patterns)) (waiting : List Waiting)
      (number : ℕ) (new : ProviderState D) (links : Waiting)
      → number < length providers → length waiting ≡ length providers
      → sites_of (set providers number new) screens (set waiting number links)
      ≡ with_site (sites_of providers screens waiting) number (site_of (desk_of new) (get_or screens number []) links)
  both_change [] screens waiting number new links l e = absurd (omega arith)
  both_change (provider ∷ providers) screens [] number new links l e = absurd (omega arith)
  both_change (provider ∷ providers) screens (first ∷ waiting) zero new links l e =
      ap (λ (boxes : List Patterns). site_of (desk_of new) boxes links ∷ sites_of providers (behind_first screens) waiting)
      (first_at screens)
  both_change (provider ∷ providers) screens (first ∷ waiting) (suc number) new links l e =
      let rest = sites_of providers (behind_first screens) waiting in
      ap (λ (more : List Site). site_of (desk_of provider) (first_of screens) first ∷ more)
      (both_change providers (behind_first screens) waiting number new links (omega arith) (omega arith)
      ∙ ap (λ (boxes : List Patterns). with_site rest number (site_of (desk_of new) boxes links)) (next_at screens number))

  -- what waits at a site
  pub waiting_at : (providers : List (ProviderState D)) (screens : List (List Patterns)) (waiting : List Waiting) (to : ℕ)
      → length waiting ≡ length providers
      → (site_at (sites_of providers screens waiting) to).waiting ≡ waiting_for waiting to
  waiting_at [] screens [] to e = refl
  waiting_at [] screens (links ∷ waiting) to e = absurd (omega arith)
  waiting_at (provider ∷ providers) screens [] to e = absurd (omega arith)
  waiting_at (provider ∷ providers) screens (links ∷ waiting) zero e = refl
  waiting_at (provider ∷ providers) screens (links ∷ waiting) (suc to) e =
      waiting_at providers (behind_first screens) waiting to (omega arith)

  -- a site for which there were deliveries
  pub site_delivered : (providers : List (ProviderState D)) (screens : List (List Patterns)) (waiting : List Waiting)
      (outs : List (List (List Bytes))) (to k : ℕ)
      → k < length providers → length waiting ≡ length providers
      → site_at (sites_of providers screens (deliveries outs to waiting)) k
      ≡ with_waiting (site_at (sites_of providers screens waiting) k)
      (delivered_to (to + k) outs (site_at (sites_of providers screens waiting) k).waiting)
  site_delivered [] screens waiting outs to k l e = absurd (omega arith)
  site_delivered (provider ∷ providers) screens [] outs to k l e = absurd (omega arith)
  site_delivered (provider ∷ providers) screens (links ∷ waiting) outs to zero l e =
      ap (λ (n : ℕ). with_waiting (site_of (desk_of provider) (first_of screens) links) (delivered_to n outs links))
      (let here : to ≡ to + 0 = omega arith in here)
  site_delivered (provider ∷ providers) screens (links ∷ waiting) outs to (suc k) l e =
      let rest = sites_of providers (behind_first screens) waiting in
      site_delivered providers (behind_first screens) waiting outs (to + 1) k (omega arith) (omega arith)
      ∙ ap (λ (n : ℕ). with_waiting (site_at rest k) (delivered_to n outs (site_at rest k).waiting))
      (let there : (to + 1) + k ≡ to + suc k = omega arith in there)

  -- what waits changes no journal, and nothing that is interrupted
  pub desk_stays : (providers : List (ProviderState D)) (screens : List (List Patterns)) (one other : List Waiting) (k : ℕ)
      → ((site_at (sites_of providers screens one) k).journal ≡ (site_at (sites_of providers screens other) k).journal)
      × ((site_at (sites_of providers screens one) k).interrupted
      ≡ (site_at (sites_of providers screens other) k).interrupted)
  desk_stays [] screens one other k = (refl, refl)
  desk_stays (provider ∷ providers) screens one other zero = (refl, refl)
  desk_stays (provider ∷ providers) screens one other (suc k) =
      desk_stays providers (behind_first screens) (behind_first one) (behind_first other) k
