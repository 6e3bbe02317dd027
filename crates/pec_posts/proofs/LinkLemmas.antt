-- Frames on links: two that change places.
use Rattle.std.proofs.Common.{◌≡◌, ℕ, zero, suc, ◌+◌, ◌-◌, ◌<◌, ◌≤◌, List, [], ◌∷◌, ◌++◌, length, map, take, drop, get_or, set, refl, ap, sym, subst, ◌∙◌, arith, Some}
use Rattle.std.specs.Prelude.{Result, OnOk}
use Rattle.std.specs.List.{All, swap}
use Rattle.std.proofs.lemmas.Bool.{lt-ltb}
use Rattle.std.proofs.lemmas.List.{get_or_default, get_or-set_same, map-append}
use Rattle.std.proofs.lemmas.Grind.{take_at_read}
use Rattle.std.proofs.lemmas.List.Elements.{All-push}
use Rattle.std.proofs.lemmas.Result.{on_ok_weaker}
use Rattle.pec_link.specs.declared.faults.LinkFault.{LinkFault}
use Rattle.pec_types.specs.Bytes.{Bytes}
use Rattle.pec_plays.specs.Rounds.{link_size}
use Rattle.pec_posts.specs.Arrivals.{Waiting, room_on, waiting_from}
use Rattle.pec_plays.specs.Commands.{swapped_at}

swap_at : (d : Bytes) (frames : List Bytes) (place : ℕ) → place + 1 < length frames
    → set (set frames place (get_or frames (place + 1) d)) (place + 1) (get_or frames place d)
    ≡ take place frames ++ take 1 (drop (place + 1) frames) ++ take 1 (drop place frames) ++ drop (place + 2) frames
swap_at d [] place l = absurd (omega arith)
swap_at d (x ∷ []) place l = absurd (omega arith)
swap_at d (x ∷ y ∷ frames) zero l = refl
swap_at d (x ∷ y ∷ frames) (suc place) l =
    let one : suc place + 1 ≡ suc (place + 1) = omega arith in
    let two : suc place + 2 ≡ suc (place + 2) = omega arith in
    rw (one, two) (ap (λ (more : List Bytes). x ∷ more) (swap_at d (y ∷ frames) place (omega arith)))

-- two frames that follow each other, exchanged
pub swap_is : (frames : List Bytes) (place : ℕ) → place + 1 < length frames
    → swap frames place (place + 1)
    ≡ take place frames ++ take 1 (drop (place + 1) frames) ++ take 1 (drop place frames) ++ drop (place + 2) frames
swap_is [] place l = absurd (omega arith)
swap_is (frame ∷ frames) place l = swap_at frame (frame ∷ frames) place l

swapped_some : (frames : List Bytes) (place : ℕ) → place + 1 < length frames → swapped_at place frames ≡ Some (swap frames place (place + 1))
swapped_some frames place l = rw (lt-ltb (place + 1) (length frames) l) (ap Some (sym (swap_is frames place l)))

-- on one of many links
pub swapped_link : (r : Result (Unit {0}) LinkFault) (links inside : Waiting) (from place : ℕ) (link new : List Bytes)
    → inside ≡ links → from < length links → link ≡ get_or inside from link
    → OnOk r ((place + 1 < length link) × (new ≡ swap link place (place + 1)))
    → OnOk r (swapped_at place (waiting_from links from) ≡ Some (waiting_from (set inside from new) from))
swapped_link r links inside from place link new same l is ok =
    let within : from < length inside = omega (arith, l, ap length same) in
    let here : waiting_from links from ≡ link =
    ap (λ (w : Waiting). get_or w from []) (sym same) ∙ get_or_default inside from [] link within ∙ sym is in
    let there : waiting_from (set inside from new) from ≡ new = get_or-set_same inside from new [] within in
    on_ok_weaker r (λ h. rw (here, there, h.1) (swapped_some link place h.0)) ok

-- ---- rooms

-- the links for one provider more
pub rooms_more : (arrivals : List Waiting) (from index room : ℕ) (rooms more : List ℕ) (links : Waiting) → index < length arrivals
    → links ≡ get_or arrivals index links → more ≡ rooms ++ room ∷ [] → room + length (waiting_from links from) ≡ link_size
    → rooms ≡ map (room_on from) (take index arrivals)
    → All (λ (w : Waiting). length (waiting_from w from) ≤ link_size) (take index arrivals)
    → (more ≡ map (room_on from) (take (index + 1) arrivals))
    × All (λ (w : Waiting). length (waiting_from w from) ≤ link_size) (take (index + 1) arrivals)
rooms_more arrivals from index room rooms more links within is pushed size so_far short =
    let next : take (index + 1) arrivals ≡ take index arrivals ++ links ∷ [] =
    (take_at_read arrivals index links within).1 ∙ ap (λ (w : Waiting). take index arrivals ++ w ∷ []) (sym is) in
    let here : room ≡ room_on from links = omega arith in (
      pushed ∙ ap (λ (l : List ℕ). l ++ room ∷ []) so_far
          ∙ ap (λ (r : ℕ). map (room_on from) (take index arrivals) ++ r ∷ []) here
          ∙ sym (map-append (room_on from) (take index arrivals) (links ∷ []))
          ∙ ap (map (room_on from)) (sym next),
      subst (All (λ (w : Waiting). length (waiting_from w from) ≤ link_size)) (sym next)
          (All-push (λ (w : Waiting). length (waiting_from w from) ≤ link_size) (take index arrivals) links short (omega arith)),
    )
