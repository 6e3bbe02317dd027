-- What a round tells of a turn: one that came to its end was done whole, and where it put few frames it put all that was
-- owed.
use Rattle.std.proofs.Common.{◌≡◌, ℕ, zero, suc, ◌+◌, ◌<◌, ◌≤◌, List, [], ◌∷◌, Bool, true, false, cond, length, take, refl, ap, sym, subst, arith, nat_lt, Option, Some, None}
use Rattle.std.specs.Prelude.{All, Contains, IsSome, slice_get, slice_index_or}
use Rattle.std.specs.List.{cons_option, filter_map}
use Rattle.std.proofs.lemmas.Bool.{false≢true, ltb-false}
use Rattle.std.proofs.lemmas.List.{length-take}
use Rattle.std.proofs.lemmas.List.Elements.{All-head, All-tail}
use Rattle.std.proofs.lemmas.Option.{none-some, same_Some}
use Rattle.pec_types.specs.Bytes.{Bytes}
use Rattle.pec_types.specs.declared.turns.ProviderFault.TheVariants as faults
use Rattle.pec_types.specs.declared.turns.Turn.{Turn}
use Rattle.pec_ledger.specs.Network.{Site}
use Rattle.pec_ledger.specs.Trade.{Trade}
use Rattle.pec_plays.specs.Possible.{IsOfKept}
use Rattle.pec_plays.specs.Rounds.{sent_from, told_from}
use Rattle.pec_plays.specs.Steps.{Step}
use Rattle.pec_plays.specs.Turns.{Cut, Fails, Full, Other, Sees, Stops, Turned, Unread, Whole, cut_turn, last_of, not_begun, steps_of, turned}
use Rattle.pec_progress_runs.specs.Told.{most_sent}

-- ---- turns

-- where what was kept was read, a turn that came to its end was done whole
cut_whole : (trade : Trade) (p : ℕ) (rooms : ℕ → ℕ) (site : Site) (steps : List Step) (cut : Cut) → IsOfKept cut → (cut_turn trade p rooms site steps cut).ended ≡ None → cut ≡ Whole
cut_whole trade p rooms site steps Whole kept e = refl
cut_whole trade p rooms site steps (Fails n fault) kept e = absurd (none-some fault (sym e))
cut_whole trade p rooms site steps (Full n) kept e = absurd (none-some faults.JournalFull (sym e))
cut_whole trade p rooms site steps (Stops n) kept e = absurd (none-some faults.NoMemory (sym e))
cut_whole trade p rooms site steps (Unread n fault) kept e = absurd (none-some fault (sym e))
cut_whole trade p rooms site steps (Other out) kept e = absurd kept
cut_whole trade p rooms site steps (Sees looks cut) kept e = absurd kept

module _ (trade : Trade) (p now : ℕ) (rooms : ℕ → ℕ) (cut : Cut) (site : Site) where
  -- A turn that came to its end: its provider was up, its moment wasn't behind, and it was done whole.
  pub record IsWhole : Type 0 where
    pub up : site.up ≡ true
    pub in_time : last_of trade p site.journal ≤ now
    pub cut_is : cut ≡ Whole

  abbrev last : ℕ
  last = last_of trade p site.journal

  abbrev begun : Turned
  begun = cut_turn trade p rooms site (steps_of trade p now site cut) cut

  in_time : (b : Bool) → nat_lt now last ≡ b → IsOfKept cut → site.up ≡ true → (cond b (not_begun site (faults.ClockBack last)) begun).ended ≡ None → IsWhole
  in_time true t kept up e = absurd (none-some (faults.ClockBack last) (sym e))
  in_time false t kept up e =
      record { up = up; in_time = ltb-false now last t; cut_is = cut_whole trade p rooms site (steps_of trade p now site cut) cut kept e }

  is_up : (b : Bool) → site.up ≡ b → IsOfKept cut
      → (cond b (cond (nat_lt now last) (not_begun site (faults.ClockBack last)) begun) (not_begun site faults.Down)).ended ≡ None → IsWhole
  is_up true up kept e = in_time (nat_lt now last) refl kept up e
  is_up false up kept e = absurd (none-some faults.Down (sym e))

  pub ended_whole : IsOfKept cut → (turned trade p now rooms cut site).ended ≡ None → IsWhole
  unfolding turned
  ended_whole kept e = is_up site.up refl kept e

-- ---- what is told

abbrev pub told_of : ℕ → Turned → Turn
told_of provider turn = record { provider = provider; events = turn.events; sent = sent_from 0 turn.out; ended = turn.ended }

-- what holds of all turns that are told holds of each
pub told_at : (P : Turn → Type 0) (turns : List Turned) (number k : ℕ) (turn : Turned) → slice_get turns k ≡ Some turn → All P (told_from number turns) → P (told_of (number + k) turn)
told_at P [] number k turn e all = absurd (none-some turn e)
told_at P (t ∷ turns) number zero turn e all =
    subst (λ (n : ℕ). P (told_of n turn)) (let z : number ≡ number + 0 = omega arith in z)
    (subst (λ (x : Turned). P (told_of number x)) (same_Some t turn e) (All-head P (told_of number t) (told_from (number + 1) turns) all))
told_at P (t ∷ turns) number (suc k) turn e all =
    subst (λ (n : ℕ). P (told_of n turn)) (let z : (number + 1) + k ≡ number + suc k = omega arith in z)
    (told_at P turns (number + 1) k turn e (All-tail P (told_of number t) (told_from (number + 1) turns) all))

abbrev AreFew : List (ℕ × ℕ) → Type 0
AreFew sent = All (λ (one : ℕ × ℕ). one.1 ≤ most_sent) sent

-- few frames were put for each provider
pub few_put : (out : List (List Bytes)) (number k : ℕ) → AreFew (sent_from number out) → length (slice_index_or out k []) ≤ most_sent
few_put [] number k all = omega arith
few_put (frames ∷ out) number zero all = here (nat_lt 0 (length frames)) refl all
  where
    here : (b : Bool) → nat_lt 0 (length frames) ≡ b → AreFew (cond b ((number, length frames) ∷ sent_from (number + 1) out) (sent_from (number + 1) out)) → length frames ≤ most_sent
    here true t all = All-head (λ (one : ℕ × ℕ). one.1 ≤ most_sent) (number, length frames) (sent_from (number + 1) out) all
    here false t all = let none = ltb-false 0 (length frames) t in omega (arith, none)
few_put (frames ∷ out) number (suc k) all = few_put out (number + 1) k (rest (nat_lt 0 (length frames)) all)
  where
    rest : (b : Bool) → AreFew (cond b ((number, length frames) ∷ sent_from (number + 1) out) (sent_from (number + 1) out)) → AreFew (sent_from (number + 1) out)
    rest true all = All-tail (λ (one : ℕ × ℕ). one.1 ≤ most_sent) (number, length frames) (sent_from (number + 1) out) all
    rest false all = all

-- ---- what was put was all

contains_more : {X : Type 0} (y : X) (xs : List X) (x : X) → Contains xs x → Contains (y ∷ xs) x
contains_more y xs x (k, l, e) = (suc k, omega (arith, l), e)

all_given : {X Y : Type 0} (f : X → Option Y) (xs : List X) → ((x : X) → Contains xs x → IsSome (f x)) → length (filter_map f xs) ≡ length xs
all_given f [] some = refl
all_given {X} {Y} f (x ∷ xs) some = by (f x) (some x (0, omega arith, refl)) (all_given f xs (λ y c. some y (contains_more x xs y c)))
  where
    by : (o : Option Y) → IsSome o → length (filter_map f xs) ≡ length xs → length (cons_option o (filter_map f xs)) ≡ length (x ∷ xs)
    by None h e = absurd (false≢true h)
    by (Some y) h e = ap suc e

from_take : {X : Type 0} (n : ℕ) (xs : List X) (x : X) → Contains (take n xs) x → Contains xs x
from_take zero xs x (k, l, e) = absurd (omega arith)
from_take (suc n) [] x (k, l, e) = absurd (omega arith)
from_take (suc n) (y ∷ xs) x (zero, l, e) = (0, omega arith, e)
from_take (suc n) (y ∷ xs) x (suc k, l, e) = contains_more y xs x (from_take n xs x (k, omega (arith, l), e))

-- where fewer are given of the first ones than there is room for, there are no others
pub all_fit : {X Y : Type 0} (f : X → Option Y) (room : ℕ) (xs : List X) → ((x : X) → Contains xs x → IsSome (f x)) → length (filter_map f (take room xs)) < room → length xs ≤ room
all_fit f room xs some few =
    let given = all_given f (take room xs) (λ x c. some x (from_take room xs x c))
    in let taken = length-take room xs
    in omega (arith, given, taken, few)
