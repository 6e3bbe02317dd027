-- What a command of a link does, by what its call on the link answers.
use Rattle.std.proofs.Common.{◌≡◌, ℕ, zero, suc, ◌<◌, ◌≤◌, true, false, List, [], ◌∷◌, ◌++◌, length, refl, ap, sym, ◌∙◌, arith, Option, Some, None, Ok, Err}
use Rattle.std.specs.Prelude.{IfErr, IsErrOf, OnErr, OnOk, Result, nat_lt, slice_get, slice_index_or, slice_set}
use Rattle.std.specs.Option.{option_to_list}
use Rattle.std.proofs.lemmas.Bool.{le-ltb, lt-ltb}
use Rattle.pec_types.specs.Bytes.{Bytes}
use Rattle.pec_link.specs.declared.faults.LinkFault.{LinkFault}
use Rattle.pec_link.specs.declared.faults.LinkFault.TheVariants as faults
use Rattle.pec_ledger.specs.Network.{Site, frames_between, site_at}
use Rattle.pec_plays.specs.Commands.{Injected, Lost, Played, Repeated, Swapped, injected, lost, put_again, swapped, swapped_at, with_site}
use Rattle.pec_plays.specs.Rounds.{link_size, with_waiting}
use Rattle.pec_posts.specs.Arrivals.{Waiting, waiting_from, with_link, without}
use Rattle.pec_network.specs.Playing.{IsPlayedOnLink}
use Rattle.pec_network.proofs.SiteLemmas.{site_again}

get_within : (frames : List Bytes) (place : ℕ) → place < length frames → slice_get frames place ≡ None → ⊥
get_within [] place l e = absurd (omega arith)
get_within (frame ∷ frames) zero l e = absurd (cc)
get_within (frame ∷ frames) (suc place) l e = get_within frames place (omega arith) e

get_past : (frames : List Bytes) (place : ℕ) → length frames ≤ place → slice_get frames place ≡ None
get_past [] place l = refl
get_past (frame ∷ frames) zero l = absurd (omega arith)
get_past (frame ∷ frames) (suc place) l = get_past frames place (omega arith)

module _ (all new : List Site) (from to place : ℕ) (links after : Waiting)
    (here : (site_at all to).waiting ≡ links) (next : new ≡ with_site all to (with_waiting (site_at all to) after)) where
  frames_here : frames_between all from to ≡ waiting_from links from
  frames_here = ap (λ (w : Waiting). slice_index_or w from []) here

  -- the link's frames are others
  changed : (frames : List Bytes) → after ≡ with_link links from frames
      → with_site all to (with_waiting (site_at all to) (slice_set (site_at all to).waiting from frames)) ≡ new
  changed frames e =
      ap (λ (w : Waiting). with_site all to (with_waiting (site_at all to) (slice_set w from frames))) here
      ∙ ap (λ (w : Waiting). with_site all to (with_waiting (site_at all to) w)) (sym e)
      ∙ sym next

  unchanged : after ≡ links → new ≡ all
  unchanged e =
      next ∙ ap (λ (w : Waiting). with_site all to (with_waiting (site_at all to) w)) (e ∙ sym here) ∙ site_again all to

  -- ---- losses

  pub lost_so : (r : Result (Unit {0}) LinkFault)
      → OnOk r ((place < length (waiting_from links from)) × (after ≡ with_link links from (without place (waiting_from links from))))
      → IfErr r (λ fault. (fault ≡ faults.NoFrame) × (length (waiting_from links from) ≤ place)) → OnErr r (after ≡ links)
      → IsPlayedOnLink Lost (lost all from to place) all new r
  lost_so (Ok x) ok no_frame same =
      let there : nat_lt place (length (frames_between all from to)) ≡ true =
      ap (λ (f : List Bytes). nat_lt place (length f)) frames_here ∙ lt-ltb place (length (waiting_from links from)) ok.0 in
      let after_so = changed (without place (frames_between all from to))
      (ok.1 ∙ ap (λ (f : List Bytes). with_link links from (without place f)) (sym frames_here)) in
      rw there (ap (λ (s : List Site). (let p : Played = record { answer = Lost; after = s } in p)) after_so)
  lost_so (Err faults.NoFrame) ok no_frame same =
      let none : nat_lt place (length (frames_between all from to)) ≡ false =
      ap (λ (f : List Bytes). nat_lt place (length f)) frames_here ∙ le-ltb place (length (waiting_from links from)) no_frame.1 in
      (rw none refl, unchanged same)
  lost_so (Err faults.Full) ok no_frame same = let e = no_frame.0 in absurd (cc)
  lost_so (Err faults.NoMemory) ok no_frame same = unchanged same

  -- ---- exchanges

  swapped_by : (found : Option (List Bytes)) → swapped_at place (frames_between all from to) ≡ found → (r : Result (Unit {0}) LinkFault)
      → OnOk r (swapped_at place (waiting_from links from) ≡ Some (waiting_from after from))
      → OnOk r (after ≡ with_link links from (waiting_from after from))
      → IfErr r (λ fault. (fault ≡ faults.NoFrame) × (swapped_at place (waiting_from links from) ≡ None)) → OnErr r (after ≡ links)
      → IsPlayedOnLink Swapped (swapped all from to found) all new r
  swapped_by None is (Ok x) ok others no_frame same =
      let e = sym is ∙ ap (λ (f : List Bytes). swapped_at place f) frames_here ∙ ok in absurd (cc)
  swapped_by (Some frames) is (Ok x) ok others no_frame same =
      let e : Some frames ≡ Some (waiting_from after from) = sym is ∙ ap (λ (f : List Bytes). swapped_at place f) frames_here ∙ ok in
      let so : frames ≡ waiting_from after from = cc in
      ap (λ (s : List Site). (let p : Played = record { answer = Swapped; after = s } in p))
      (changed frames (others ∙ ap (λ (f : List Bytes). with_link links from f) (sym so)))
  swapped_by None is (Err faults.NoFrame) ok others no_frame same = (refl, unchanged same)
  swapped_by (Some frames) is (Err faults.NoFrame) ok others no_frame same =
      let e = sym is ∙ ap (λ (f : List Bytes). swapped_at place f) frames_here ∙ no_frame.1 in absurd (cc)
  swapped_by found is (Err faults.Full) ok others no_frame same = let e = no_frame.0 in absurd (cc)
  swapped_by found is (Err faults.NoMemory) ok others no_frame same = unchanged same

  pub swapped_so : (r : Result (Unit {0}) LinkFault)
      → OnOk r (swapped_at place (waiting_from links from) ≡ Some (waiting_from after from))
      → OnOk r (after ≡ with_link links from (waiting_from after from))
      → IfErr r (λ fault. (fault ≡ faults.NoFrame) × (swapped_at place (waiting_from links from) ≡ None)) → OnErr r (after ≡ links)
      → IsPlayedOnLink Swapped (swapped all from to (swapped_at place (frames_between all from to))) all new r
  swapped_so r = swapped_by (swapped_at place (frames_between all from to)) refl r

  -- ---- frames that are put

  room_here : length (waiting_from links from) < link_size → nat_lt (length (frames_between all from to)) link_size ≡ true
  room_here l = ap (λ (f : List Bytes). nat_lt (length f) link_size) frames_here ∙ lt-ltb (length (waiting_from links from)) link_size l

  full_here : length (waiting_from links from) ≡ link_size → nat_lt (length (frames_between all from to)) link_size ≡ false
  full_here e =
      ap (λ (f : List Bytes). nat_lt (length f) link_size) frames_here ∙ le-ltb (length (waiting_from links from)) link_size (omega arith)

  repeated_by : (found : Option Bytes) → slice_get (frames_between all from to) place ≡ found → (r : Result (Unit {0}) LinkFault)
      → OnOk r ((place < length (waiting_from links from)) × (length (waiting_from links from) < link_size)
      × (after ≡ with_link links from (waiting_from links from ++ option_to_list (slice_get (waiting_from links from) place))))
      → (IsErrOf r faults.NoFrame → length (waiting_from links from) ≤ place)
      → (IsErrOf r faults.Full → (place < length (waiting_from links from)) × (length (waiting_from links from) ≡ link_size))
      → OnErr r (after ≡ links)
      → IsPlayedOnLink Repeated (put_again all from to found) all new r
  repeated_by None is (Ok x) ok no_frame full same =
      absurd (get_within (waiting_from links from) place ok.0 (ap (λ (f : List Bytes). slice_get f place) (sym frames_here) ∙ is))
  repeated_by (Some frame) is (Ok x) ok no_frame full same =
      let found : slice_get (waiting_from links from) place ≡ Some frame = ap (λ (f : List Bytes). slice_get f place) (sym frames_here) ∙ is in
      let after_so = changed (frames_between all from to ++ frame ∷ [])
      (ok.2 ∙ ap (λ (o : Option Bytes). with_link links from (waiting_from links from ++ option_to_list o)) found
      ∙ ap (λ (f : List Bytes). with_link links from (f ++ frame ∷ [])) (sym frames_here)) in
      rw (room_here ok.1) (ap (λ (s : List Site). (let p : Played = record { answer = Repeated; after = s } in p)) after_so)
  repeated_by None is (Err faults.NoFrame) ok no_frame full same = (refl, unchanged same)
  repeated_by (Some frame) is (Err faults.NoFrame) ok no_frame full same =
      let found = sym (get_past (waiting_from links from) place (no_frame refl)) ∙ ap (λ (f : List Bytes). slice_get f place) (sym frames_here) ∙ is in
      absurd (cc)
  repeated_by None is (Err faults.Full) ok no_frame full same =
      absurd (get_within (waiting_from links from) place (full refl).0 (ap (λ (f : List Bytes). slice_get f place) (sym frames_here) ∙ is))
  repeated_by (Some frame) is (Err faults.Full) ok no_frame full same = (rw (full_here (full refl).1) refl, unchanged same)
  repeated_by found is (Err faults.NoMemory) ok no_frame full same = unchanged same

  pub repeated_so : (r : Result (Unit {0}) LinkFault)
      → OnOk r ((place < length (waiting_from links from)) × (length (waiting_from links from) < link_size)
      × (after ≡ with_link links from (waiting_from links from ++ option_to_list (slice_get (waiting_from links from) place))))
      → (IsErrOf r faults.NoFrame → length (waiting_from links from) ≤ place)
      → (IsErrOf r faults.Full → (place < length (waiting_from links from)) × (length (waiting_from links from) ≡ link_size))
      → OnErr r (after ≡ links)
      → IsPlayedOnLink Repeated (put_again all from to (slice_get (frames_between all from to) place)) all new r
  repeated_so r = repeated_by (slice_get (frames_between all from to) place) refl r

  pub injected_so : (frame : Bytes) (r : Result (Unit {0}) LinkFault)
      → OnOk r ((length (waiting_from links from) < link_size) × (after ≡ with_link links from (waiting_from links from ++ frame ∷ [])))
      → IfErr r (λ fault. (fault ≡ faults.Full) × (length (waiting_from links from) ≡ link_size)) → OnErr r (after ≡ links)
      → IsPlayedOnLink Injected (injected all from to frame) all new r
  injected_so frame (Ok x) ok full same =
      let after_so = changed (frames_between all from to ++ frame ∷ [])
      (ok.1 ∙ ap (λ (f : List Bytes). with_link links from (f ++ frame ∷ [])) (sym frames_here)) in
      rw (room_here ok.0) (ap (λ (s : List Site). (let p : Played = record { answer = Injected; after = s } in p)) after_so)
  injected_so frame (Err faults.Full) ok full same = (rw (full_here full.1) refl, unchanged same)
  injected_so frame (Err faults.NoFrame) ok full same = let e = full.0 in absurd (cc)
  injected_so frame (Err faults.NoMemory) ok full same = unchanged same
