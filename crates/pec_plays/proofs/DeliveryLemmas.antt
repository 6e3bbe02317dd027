-- Turns and deliveries by number: the turn of a provider is that from the state as the round began, and behind the round
-- it stands as its turn left it, with what was put for it.
use Rattle.std.proofs.Common.{◌≡◌, ℕ, zero, suc, ◌+◌, ◌<◌, ◌≤◌, List, [], ◌∷◌, ◌++◌, length, refl, ap, sym, ◌∙◌, arith, Some}
use Rattle.std.specs.Prelude.{slice_get, slice_index_or}
use Rattle.std.proofs.lemmas.List.{append-nil, get_or_past}
use Rattle.std.proofs.lemmas.Option.{none-some, same_Some}
use Rattle.pec_types.specs.Bytes.{Bytes}
use Rattle.pec_ledger.specs.Network.{Site, empty_site, frames_between, site_at}
use Rattle.pec_ledger.specs.Trade.{Trade}
use Rattle.pec_plays.specs.Rounds.{delivered, delivered_to, outs_of, rooms_of, turns_from, with_waiting}
use Rattle.pec_plays.specs.Turns.{Cut, Turned, turned}

later : (number place : ℕ) → (number + 1) + place ≡ number + suc place
later number place = omega arith

turn_at : (trade : Trade) (now : ℕ) (all : List Site) (cuts : ℕ → Cut) (number : ℕ) (ss : List Site) (k : ℕ) → k < length ss
    → slice_get (turns_from trade now all cuts number ss) k ≡ Some (turned trade (number + k) now (rooms_of all (number + k)) (cuts (number + k)) (slice_index_or ss k empty_site))
turn_at trade now all cuts number [] k l = absurd (omega arith)
turn_at trade now all cuts number (s ∷ ss) zero l =
    ap (λ (q : ℕ). Some (turned trade q now (rooms_of all q) (cuts q) s)) (let z : number ≡ number + 0 = omega arith in z)
turn_at trade now all cuts number (s ∷ ss) (suc k) l =
    turn_at trade now all cuts (number + 1) ss k (omega arith)
    ∙ ap (λ (q : ℕ). Some (turned trade q now (rooms_of all q) (cuts q) (slice_index_or ss k empty_site))) (later number k)

pub turns_length : (trade : Trade) (now : ℕ) (all : List Site) (cuts : ℕ → Cut) (number : ℕ) (ss : List Site) → length (turns_from trade now all cuts number ss) ≡ length ss
turns_length trade now all cuts number [] = refl
turns_length trade now all cuts number (s ∷ ss) = ap suc (turns_length trade now all cuts (number + 1) ss)

delivered_length : (outs : List (List (List Bytes))) (to : ℕ) (turns : List Turned) → length (delivered outs to turns) ≡ length turns
delivered_length outs to [] = refl
delivered_length outs to (t ∷ turns) = ap suc (delivered_length outs (to + 1) turns)

delivered_at : (outs : List (List (List Bytes))) (to : ℕ) (turns : List Turned) (k : ℕ) (turn : Turned) → slice_get turns k ≡ Some turn
    → site_at (delivered outs to turns) k ≡ with_waiting turn.site (delivered_to (to + k) outs turn.site.waiting)
delivered_at outs to [] k turn e = absurd (none-some turn e)
delivered_at outs to (t ∷ turns) zero turn e =
    let same = same_Some t turn e
    in ap (λ (x : Turned). with_waiting x.site (delivered_to to outs x.site.waiting)) same
    ∙ ap (λ (q : ℕ). with_waiting turn.site (delivered_to q outs turn.site.waiting)) (let z : to ≡ to + 0 = omega arith in z)
delivered_at outs to (t ∷ turns) (suc k) turn e =
    delivered_at outs (to + 1) turns k turn e ∙ ap (λ (q : ℕ). with_waiting turn.site (delivered_to q outs turn.site.waiting)) (later to k)

pub out_at : (turns : List Turned) (k : ℕ) (turn : Turned) → slice_get turns k ≡ Some turn → slice_index_or (outs_of turns) k [] ≡ turn.out
out_at [] k turn e = absurd (none-some turn e)
out_at (t ∷ turns) zero turn e = ap (λ (x : Turned). x.out) (same_Some t turn e)
out_at (t ∷ turns) (suc k) turn e = out_at turns k turn e

pub outs_length : (turns : List Turned) → length (outs_of turns) ≡ length turns
outs_length [] = refl
outs_length (t ∷ turns) = ap suc (outs_length turns)

module _ (trade : Trade) (now : ℕ) (cuts : ℕ → Cut) (sites : List Site) where
  abbrev turns : List Turned
  turns = turns_from trade now sites cuts 0 sites

  abbrev after : List Site
  after = delivered (outs_of turns) 0 turns

  abbrev pub turn_in : ℕ → Turned
  turn_in p = turned trade p now (rooms_of sites p) (cuts p) (site_at sites p)

  pub turn_is : (p : ℕ) → p < length sites → slice_get turns p ≡ Some (turn_in p)
  turn_is p l =
      turn_at trade now sites cuts 0 sites p l
      ∙ ap (λ (q : ℕ). Some (turned trade q now (rooms_of sites q) (cuts q) (site_at sites p))) (let z : 0 + p ≡ p = omega arith in z)

  pub after_is : (p : ℕ) → p < length sites → site_at after p ≡ with_waiting (turn_in p).site (delivered_to p (outs_of turns) (turn_in p).site.waiting)
  after_is p l =
      delivered_at (outs_of turns) 0 turns p (turn_in p) (turn_is p l)
      ∙ ap (λ (q : ℕ). with_waiting (turn_in p).site (delivered_to q (outs_of turns) (turn_in p).site.waiting)) (let z : 0 + p ≡ p = omega arith in z)

  pub after_length : length after ≡ length sites
  after_length = delivered_length (outs_of turns) 0 turns ∙ turns_length trade now sites cuts 0 sites

  pub past_the_end : (p : ℕ) → length sites ≤ p → site_at after p ≡ site_at sites p
  past_the_end p l =
      get_or_past after p empty_site (let e = after_length in omega (arith, e)) ∙ sym (get_or_past sites p empty_site l)

  -- ---- what waits

  put_behind : (to : ℕ) (outs : List (List (List Bytes))) (links : List (List Bytes)) (k : ℕ)
      → slice_index_or (delivered_to to outs links) k [] ≡ slice_index_or links k [] ++ slice_index_or (slice_index_or outs k []) to []
  put_behind to [] links k = sym (append-nil (slice_index_or links k []))
  put_behind to (out ∷ outs) [] zero = refl
  put_behind to (out ∷ outs) [] (suc k) = put_behind to outs [] k
  put_behind to (out ∷ outs) (link ∷ links) zero = refl
  put_behind to (out ∷ outs) (link ∷ links) (suc k) = put_behind to outs links k

  pub waits_behind : (from to : ℕ) → from < length sites → to < length sites
      → frames_between after from to ≡ slice_index_or (turn_in to).site.waiting from [] ++ slice_index_or (turn_in from).out to []
  waits_behind from to m l =
      ap (λ (s : Site). slice_index_or s.waiting from []) (after_is to l)
      ∙ put_behind to (outs_of turns) (turn_in to).site.waiting from
      ∙ ap (λ (out : List (List Bytes)). slice_index_or (turn_in to).site.waiting from [] ++ slice_index_or out to []) (out_at turns from (turn_in from) (turn_is from m))

  pub nothing_from : (from to : ℕ) → length sites ≤ from → to < length sites → frames_between after from to ≡ slice_index_or (turn_in to).site.waiting from []
  nothing_from from to past l =
      let count = outs_length turns ∙ turns_length trade now sites cuts 0 sites
      in ap (λ (s : Site). slice_index_or s.waiting from []) (after_is to l)
      ∙ put_behind to (outs_of turns) (turn_in to).site.waiting from
      ∙ ap (λ (out : List (List Bytes)). slice_index_or (turn_in to).site.waiting from [] ++ slice_index_or out to [])
      (get_or_past (outs_of turns) from [] (omega (arith, past, count)))
      ∙ append-nil (slice_index_or (turn_in to).site.waiting from [])
