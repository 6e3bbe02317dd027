-- What a command of a link leaves of a network, by what it leaves of the links of one provider.
use Rattle.std.proofs.Common.{◌≡◌, ℕ, zero, suc, ◌<◌, ◌≤◌, List, [], ◌∷◌, ◌++◌, length, get_or, set, ap, sym, ◌∙◌, arith, Some, None, Result}
use Rattle.std.specs.Prelude.{IfErr, IsErrOf, OnErr, OnOk, slice_get}
use Rattle.std.specs.Option.{option_to_list}
use Rattle.pec_types.specs.Bytes.{Bytes}
use Rattle.pec_link.specs.declared.faults.LinkFault.{LinkFault}
use Rattle.pec_link.specs.declared.faults.LinkFault.TheVariants as faults
use Rattle.pec_directory.specs.Directory.{Kept}
use Rattle.pec_ledger.specs.Network.{Site, site_at}
use Rattle.pec_ledger.specs.Trade.{Trade}
use Rattle.pec_plays.specs.Commands.{Inject, Injected, Lose, Lost, Luck, Repeat, Repeated, Swap, Swapped, played, swapped_at}
use Rattle.pec_plays.specs.Rounds.{link_size}
use Rattle.pec_posts.specs.Arrivals.{Waiting, waiting_for, waiting_from, with_link, without}
use Rattle.pec_provider.specs.Provider.{ProviderState}
use Rattle.pec_screen.specs.Verdicts.{Patterns}
use Rattle.pec_seal.specs.Seals.{Seals}
use Rattle.pec_network.specs.Network.{IsOfDirectory, NetworkState, sites_of}
use Rattle.pec_network.specs.Playing.{IsPlayedOnLink}
use Rattle.pec_network.proofs.LinkLemmas.{injected_so, lost_so, repeated_so, swapped_so}
use Rattle.pec_network.proofs.ProviderLemmas.{whole_with}
use Rattle.pec_network.proofs.SiteLemmas.{waiting_at, waiting_changes}

-- a number of the directory is one of a provider for which frames wait
pub link_within : {D S : Type 0} {seals : Seals} (inside now : NetworkState D S) → inside ≡ now
    → IsOfDirectory inside.kept seals inside.providers inside.waiting → (to : ℕ) → to < length now.kept → to < length inside.waiting
link_within {D} {S} inside now view whole to within =
    let count = whole.links in
    let same = ap (λ (n : NetworkState D S). length n.kept) view in
    omega arith

same_links : (waiting : List Waiting) (to : ℕ) (links : Waiting) → to < length waiting → links ≡ get_or waiting to links → waiting_for waiting to ≡ links
same_links [] to links l here = absurd (omega arith)
same_links (w ∷ ws) zero links l here = sym here
same_links (w ∷ ws) (suc to) links l here = same_links ws to links (omega arith) here

-- the links of one provider are from all
pub senders_of : {D S : Type 0} {seals : Seals} (inside now : NetworkState D S) → inside ≡ now
    → IsOfDirectory inside.kept seals inside.providers inside.waiting → (from to : ℕ) (links : Waiting) → from < length now.kept
    → to < length inside.waiting → links ≡ get_or inside.waiting to links → from < length links
senders_of {D} {S} inside now view whole from to links within there here =
    let same = ap (λ (n : NetworkState D S). length n.kept) view in
    let count = whole.senders to there in
    let size = ap (λ (w : Waiting). length w) (same_links inside.waiting to links there here) in
    omega arith

pub whole_on_link : {D : Type 0} {seals : Seals} (kept : List Kept) (providers : List (ProviderState D)) (waiting : List Waiting) (to : ℕ) (links after : Waiting)
    → IsOfDirectory kept seals providers waiting → to < length waiting → links ≡ get_or waiting to links → length after ≡ length links
    → IsOfDirectory kept seals providers (set waiting to after)
whole_on_link kept providers waiting to links after whole within here same =
    whole_with kept providers waiting to after whole within
    (same ∙ ap (λ (w : Waiting). length w) (sym (same_links waiting to links within here)))

module _ {D : Type 0} (providers : List (ProviderState D)) (screens : List (List Patterns)) (waiting : List Waiting) (from to place : ℕ) (links after : Waiting)
    (within : to < length waiting) (count : length waiting ≡ length providers) (here : links ≡ get_or waiting to links)
    (trade : Trade) (luck : Luck) where
  abbrev all : List Site
  all = sites_of providers screens waiting

  abbrev new : List Site
  new = sites_of providers screens (set waiting to after)

  there : (site_at all to).waiting ≡ links
  there = waiting_at providers screens waiting to count ∙ same_links waiting to links within here

  pub lost_from : (r : Result (Unit {0}) LinkFault)
      → OnOk r ((place < length (waiting_from links from)) × (after ≡ with_link links from (without place (waiting_from links from))))
      → IfErr r (λ fault. (fault ≡ faults.NoFrame) × (length (waiting_from links from) ≤ place)) → OnErr r (after ≡ links)
      → IsPlayedOnLink Lost (played trade luck all (Lose from to place)) all new r
  unfolding played
  lost_from r = lost_so all new from to place links after there (waiting_changes providers screens waiting to after (omega arith) count) r

  pub swapped_from : (r : Result (Unit {0}) LinkFault)
      → OnOk r (swapped_at place (waiting_from links from) ≡ Some (waiting_from after from))
      → OnOk r (after ≡ with_link links from (waiting_from after from))
      → IfErr r (λ fault. (fault ≡ faults.NoFrame) × (swapped_at place (waiting_from links from) ≡ None)) → OnErr r (after ≡ links)
      → IsPlayedOnLink Swapped (played trade luck all (Swap from to place)) all new r
  unfolding played
  swapped_from r = swapped_so all new from to place links after there (waiting_changes providers screens waiting to after (omega arith) count) r

  pub repeated_from : (r : Result (Unit {0}) LinkFault)
      → OnOk r ((place < length (waiting_from links from)) × (length (waiting_from links from) < link_size)
      × (after ≡ with_link links from (waiting_from links from ++ option_to_list (slice_get (waiting_from links from) place))))
      → (IsErrOf r faults.NoFrame → length (waiting_from links from) ≤ place)
      → (IsErrOf r faults.Full → (place < length (waiting_from links from)) × (length (waiting_from links from) ≡ link_size))
      → OnErr r (after ≡ links)
      → IsPlayedOnLink Repeated (played trade luck all (Repeat from to place)) all new r
  unfolding played
  repeated_from r = repeated_so all new from to place links after there (waiting_changes providers screens waiting to after (omega arith) count) r

  pub injected_from : (frame : Bytes) (r : Result (Unit {0}) LinkFault)
      → OnOk r ((length (waiting_from links from) < link_size) × (after ≡ with_link links from (waiting_from links from ++ frame ∷ [])))
      → IfErr r (λ fault. (fault ≡ faults.Full) × (length (waiting_from links from) ≡ link_size)) → OnErr r (after ≡ links)
      → IsPlayedOnLink Injected (played trade luck all (Inject from to frame)) all new r
  unfolding played
  injected_from frame r = injected_so all new from to place links after there (waiting_changes providers screens waiting to after (omega arith) count) frame r
