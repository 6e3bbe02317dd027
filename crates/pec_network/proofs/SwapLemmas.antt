-- What another screen in a place leaves of a network, by what its provider answers.
use Rattle.std.proofs.Common.{◌≡◌, ℕ, ◌<◌, true, false, List, [], length, get_or, set, refl, ap, sym, ◌∙◌, Some, Ok, Err}
use Rattle.std.specs.Prelude.{IfErr, OnErr, OnOk, Result, if◌then◌else◌, nat_lt, not}
use Rattle.std.proofs.lemmas.Bool.{le-ltb, lt-ltb}
use Rattle.std.proofs.lemmas.List.{set-get_or}
use Rattle.pec_types.specs.declared.turns.ProviderFault.TheVariants as faults
use Rattle.pec_directory.specs.Directory.{Kept}
use Rattle.pec_ledger.specs.Network.{Site, site_at}
use Rattle.pec_ledger.specs.Trade.{Trade}
use Rattle.pec_plays.specs.Commands.{Luck, NoScreen, Played, Refuses, Screen, Screened, answers, played, with_screens, with_site}
use Rattle.pec_posts.specs.Arrivals.{Waiting, waiting_for}
use Rattle.pec_screen.specs.Verdicts.{Patterns}
use Rattle.pec_provider.specs.Provider.{ProviderState, desk_of, site_of}
use Rattle.pec_provider.specs.Swapping.{IsUnswapped}
use Rattle.pec_provider.specs.declared.swapping.SwapFault.{SwapFault}
use Rattle.pec_provider.specs.declared.swapping.SwapFault.TheVariants as swaps
use Rattle.pec_network.specs.Network.{NetworkState, sites_of}
use Rattle.pec_network.specs.Playing.{IsSwapped}
use Rattle.pec_network.proofs.ChangeLemmas.{there_from}
use Rattle.pec_network.proofs.SiteLemmas.{screens_change}

-- what is said of a refusal by two clauses
pub both_err : {T E : Type 0} (A B : Type 0) (r : Result T E) → OnErr r A → OnErr r B → OnErr r (A × B)
both_err A B (Ok x) one other = tt
both_err A B (Err fault) one other = (one, other)

-- a provider that a call left as it was, in its own place
pub same_place : {X : Type 0} (list : List X) (number : ℕ) (old new : X) → old ≡ get_or list number old → new ≡ old
    → set list number new ≡ list
same_place {X} list number old new here same =
    ap (λ (x : X). set list number x) (same ∙ here) ∙ set-get_or list number old

-- a network, by what may have changed of it
pub same_state : {D S : Type 0} (kept : List Kept) (sealer : S) (waiting : List Waiting)
    (providers providers_then : List (ProviderState D)) (screens screens_then : List (List Patterns))
    (looks looks_then : List (List ℕ)) → providers ≡ providers_then → screens ≡ screens_then → looks ≡ looks_then
    → (let one : NetworkState D S = record {
      kept = kept;
      sealer = sealer;
      providers = providers;
      screens = screens;
      looks = looks;
      waiting = waiting;
    } in one)
    ≡ record {
      kept = kept;
      sealer = sealer;
      providers = providers_then;
      screens = screens_then;
      looks = looks_then;
      waiting = waiting;
    }
same_state kept sealer waiting providers providers_then screens screens_then looks looks_then a b c = rw (a, b, c) refl

module _ {D : Type 0} (trade : Trade) (luck : Luck) (providers : List (ProviderState D)) (screens : List (List Patterns))
    (waiting : List Waiting) (me place : ℕ) (one : ProviderState D) (spare : Patterns)
    (within : me < length providers) (here : one ≡ get_or providers me one) (inside : me < length screens) where
  abbrev all : List Site
  all = sites_of providers screens waiting

  abbrev boxes : List Patterns
  boxes = get_or screens me []

  abbrev site : Site
  site = site_of (desk_of one) boxes (waiting_for waiting me)

  there : site_at all me ≡ site
  there = there_from providers me one one within here screens waiting

  abbrev swapped_at : Site → Played
  swapped_at here =
      if here.up
      then (if nat_lt place (length here.screens)
      then record { answer = Screened; after = with_site all me (with_screens here (set here.screens place spare)) }
      else answers all NoScreen)
      else answers all (Refuses faults.Down)

  play_is : played trade luck all (Screen me place (Some spare)) ≡ swapped_at site
  unfolding played
  play_is = ap (λ (s : Site). swapped_at s) there

  down_so : not one.chronicle.down ≡ false → swapped_at site ≡ answers all (Refuses faults.Down)
  down_so down = rw down refl

  past_so : not one.chronicle.down ≡ true → nat_lt place (length boxes) ≡ false → swapped_at site ≡ answers all NoScreen
  past_so up past = rw (up, past) refl

  put_so : one.chronicle.down ≡ false → nat_lt place (length boxes) ≡ true
      → swapped_at site
      ≡ record { answer = Screened; after = with_site all me (with_screens site (set boxes place spare)) }
  put_so up inside = rw (up, inside) refl

  pub swapped_so : {X : Type 0} (after : List (List Patterns)) (r : Result (Unit {0}) (X × SwapFault))
      → OnOk r ((one.chronicle.down ≡ false) × (place < length boxes))
      → OnOk r (after ≡ set screens me (set boxes place spare))
      → IfErr r (λ refusal. IsUnswapped (not one.chronicle.down) (length boxes) place refusal.1)
      → OnErr r (after ≡ screens)
      → IsSwapped (played trade luck all (Screen me place (Some spare))) all (sites_of providers after waiting) r
  swapped_so after (Ok x) replaced put refused kept =
      play_is ∙ put_so replaced.0 (lt-ltb place (length boxes) replaced.1)
      ∙ ap (λ (s : Site). record { answer = Screened; after = with_site all me (with_screens s (set boxes place spare)) })
      (sym there)
      ∙ ap (λ (sites : List Site). record { answer = Screened; after = sites })
      (sym (screens_change providers screens waiting me (set boxes place spare) within inside))
      ∙ ap (λ (s : List (List Patterns)). record { answer = Screened; after = sites_of providers s waiting }) (sym put)
  swapped_so after (Err (x, swaps.Down)) replaced put refused kept = (
    play_is ∙ down_so refused,
    ap (λ (s : List (List Patterns)). sites_of providers s waiting) kept,
  )
  swapped_so after (Err (x, swaps.NoSuchPlace)) replaced put refused kept = (
    play_is ∙ past_so refused.0 (le-ltb place (length boxes) refused.1),
    ap (λ (s : List (List Patterns)). sites_of providers s waiting) kept,
  )
