-- A round keeps a state Sound and links short, however its turns are cut.
use Rattle.std.proofs.Common.{◌≡◌, ℕ, zero, suc, ◌+◌, ◌-◌, ◌<◌, ◌≤◌, List, [], ◌∷◌, ◌++◌, Bool, true, false, inl, inr, length, take, refl, ap, sym, subst, ◌∙◌, arith, nat_lt, Option, Some, None}
use Rattle.std.specs.Prelude.{IsSome, slice_index_or, if◌then◌else◌}
use Rattle.std.specs.Option.{option_to_list}
use Rattle.std.proofs.lemmas.Bool.{cases_lt, ltb-false}
use Rattle.std.proofs.lemmas.List.{append-nil, get_or_past, length-append, length-drop, length-take}
use Rattle.std.proofs.lemmas.List.Elements.{All-append, All-cons, All-drop, All-head, All-nil, All-tail, All-take}
use Rattle.pec_types.specs.Bytes.{Bytes}
use Rattle.pec_types.specs.declared.letters.Letter.{Letter}
use Rattle.pec_types.specs.declared.turns.ProviderFault.{ProviderFault}
use Rattle.pec_types.specs.declared.turns.ProviderFault.TheVariants as faults
use Rattle.pec_types.specs.declared.moments.TheConstants.{END_OF_TIME}
use Rattle.pec_records.specs.declared.entries.Entry.{Entry}
use Rattle.pec_ledger.specs.Ledger.{Fit, Follows, Journals}
use Rattle.pec_ledger.specs.Network.{AreGenuine, FollowsState, Happens, IsGenuine, IsNext, Site, Sound, frames_between, interrupted_at, is_up, journal_at, journals_of, site_at, Stays, Appends, Fails}
use Rattle.pec_ledger.specs.Steps.{half}
use Rattle.pec_ledger.specs.Trade.{Trade}
use Rattle.pec_ledger.specs.TradeLaws.{IsTrade}
use Rattle.pec_plays.specs.Rounds.{delivered, delivered_to, link_size, outs_of, rooms_of, rounded, turns_from, turns_of}
use Rattle.pec_plays.specs.Steps.{Step}
use Rattle.pec_plays.specs.Turns.{Cut, Turned, Whole, Fails as FailsAt, Full, Stops, Unread, Other, Sees, cut_turn, entries_of, entry_at, frames_in, last_of, looks_by, not_begun, owed_of, puts_from, steps_of, that_fit, turned, without_first}
use Rattle.pec_plays.proofs.DeliveryLemmas.{after_is, after_length, out_at, outs_length, past_the_end, turn_in, turn_is, turns_length}
use Rattle.pec_plays.proofs.FrameLemmas.{TextLaws, due_genuine}
use Rattle.pec_plays.specs.Frames.{due_frames}
use Rattle.pec_plays.specs.Scripts.{LinksAreShort, put_instead}
use Rattle.pec_plays.proofs.LinkLemmas.{due_fit}
use Rattle.pec_plays.proofs.PlanLemmas.{front_follows, next_follows, nothing_found, plan_follows}
use Rattle.pec_plays.proofs.SiteLemmas.{StateLaws, none_interrupted, stays_as_it_was, goes_on}
use Rattle.pec_plays.proofs.StepLemmas.{ArrivalLaws}

module _ (trade : Trade) (world : IsTrade trade) (laws : StateLaws trade) (sites : List Site) (sound : Sound trade sites)
    (arrivals : ArrivalLaws trade (journals_of sites)) where
  -- ---- frames that wait

  all_waiting : (J : Journals) (links : List (List Bytes)) → ((k : ℕ) → AreGenuine trade J (slice_index_or links k [])) → AreGenuine trade J (frames_in links)
  all_waiting J [] each = All-nil (IsGenuine trade J)
  all_waiting J (link ∷ links) each =
      All-append (IsGenuine trade J) link (frames_in links) (each 0) (all_waiting J links (λ k. each (suc k)))

  left_genuine : (J : Journals) (n : ℕ) (links : List (List Bytes)) → ((k : ℕ) → AreGenuine trade J (slice_index_or links k []))
      → (k : ℕ) → AreGenuine trade J (slice_index_or (without_first n links) k [])
  left_genuine J n [] each k = each k
  left_genuine J n (link ∷ links) each zero = All-drop (IsGenuine trade J) n link (each 0)
  left_genuine J n (link ∷ links) each (suc k) = left_genuine J (n - length link) links (λ i. each (suc i)) k

  -- ---- a turn

  abbrev Became : ℕ → Turned → Type 0
  Became p turn = (new : List Site) → journal_at new p ≡ turn.site.journal → interrupted_at new p ≡ turn.site.interrupted → is_up new p ≡ turn.site.up
      → Happens trade sites new p

  as_it_was : (p : ℕ) (fault : ProviderFault) → Became p (not_begun (site_at sites p) fault)
  as_it_was p fault new j i u = Stays j i (λ some. u ∙ sound.down p (subst (λ (o : Option Entry). IsSome o) i some))

  appends : (p : ℕ) (up : (site_at sites p).up ≡ true) (more : List Entry) → Follows trade (journals_of sites) p (half trade p (journal_at sites p)) more
      → (new : List Site) → journal_at new p ≡ journal_at sites p ++ more → interrupted_at new p ≡ interrupted_at sites p → Happens trade sites new p
  appends p up more follows new j i =
      Appends more (none_interrupted trade laws sites p sound up) (i ∙ none_interrupted trade laws sites p sound up) j follows

  broken_at : (p : ℕ) (up : (site_at sites p).up ≡ true) (steps : List Step) (n : ℕ)
      → Follows trade (journals_of sites) p (half trade p (journal_at sites p)) (entries_of steps)
      → (found : Option Entry) → entry_at steps n ≡ found
      → (new : List Site) → journal_at new p ≡ journal_at sites p ++ entries_of (take n steps) → interrupted_at new p ≡ found → is_up new p ≡ false
      → Happens trade sites new p
  broken_at p up steps n follows None e new j i u =
      Appends (entries_of (take n steps)) (none_interrupted trade laws sites p sound up) i j
      (front_follows trade world (journals_of sites) arrivals p 0 nothing_found (half trade p (journal_at sites p)) n steps follows)
  broken_at p up steps n follows (Some entry) e new j i u =
      Fails (entries_of (take n steps)) entry (none_interrupted trade laws sites p sound up) i u j
      (subst (λ (o : Option Entry). Follows trade (journals_of sites) p (half trade p (journal_at sites p)) (entries_of (take n steps) ++ option_to_list o)) e
      (next_follows trade world (journals_of sites) arrivals p 0 nothing_found (half trade p (journal_at sites p)) n steps follows))

  cut_became : (p : ℕ) (rooms : ℕ → ℕ) (steps : List Step) → (site_at sites p).up ≡ true
      → Follows trade (journals_of sites) p (half trade p (journal_at sites p)) (entries_of steps)
      → (cut : Cut) → Became p (cut_turn trade p rooms (site_at sites p) steps cut)
  cut_became p rooms steps up follows Whole new j i u = appends p up (entries_of steps) follows new j i
  cut_became p rooms steps up follows (FailsAt n fault) new j i u = broken_at p up steps n follows (entry_at steps n) refl new j i u
  cut_became p rooms steps up follows (Full n) new j i u =
      appends p up (entries_of (take n steps)) (front_follows trade world (journals_of sites) arrivals p 0 nothing_found (half trade p (journal_at sites p)) n steps follows) new j i
  cut_became p rooms steps up follows (Stops n) new j i u =
      appends p up (entries_of (take n steps)) (front_follows trade world (journals_of sites) arrivals p 0 nothing_found (half trade p (journal_at sites p)) n steps follows) new j i
  cut_became p rooms steps up follows (Unread n fault) new j i u =
      Appends (entries_of (take n steps)) (none_interrupted trade laws sites p sound up) i j
      (front_follows trade world (journals_of sites) arrivals p 0 nothing_found (half trade p (journal_at sites p)) n steps follows)
  cut_became p rooms steps up follows (Other out) new j i u = appends p up (entries_of steps) follows new j i
  cut_became p rooms steps up follows (Sees looks cut) new j i u = cut_became p rooms steps up follows cut new j i u

  by_test : (p : ℕ) (b : Bool) (x y : Turned) → (b ≡ true → Became p x) → (b ≡ false → Became p y) → Became p (if b then x else y)
  by_test p true x y taken passed = taken refl
  by_test p false x y taken passed = passed refl

  turn_became : (p now : ℕ) → now < END_OF_TIME → (rooms : ℕ → ℕ) (cut : Cut) → Became p (turned trade p now rooms cut (site_at sites p))
  unfolding turned
  turn_became p now range rooms cut =
      by_test p (site_at sites p).up _ _
      (λ up. by_test p (nat_lt now (last_of trade p (journal_at sites p))) _ _ (λ late. as_it_was p (faults.ClockBack (last_of trade p (journal_at sites p))))
      (λ time. cut_became p rooms (steps_of trade p now (site_at sites p) cut) up
      (plan_follows trade world (journals_of sites) arrivals p now (looks_by trade p (site_at sites p).screens cut) (journal_at sites p) (frames_in (site_at sites p).waiting)
      (all_waiting (journals_of sites) (site_at sites p).waiting (λ k. sound.genuine k p))
      (ltb-false now (last_of trade p (journal_at sites p)) time) range)
      cut))
      (λ down. as_it_was p faults.Down)

  -- ---- what waits behind a turn

  abbrev LeavesGenuine : Turned → Type 0
  LeavesGenuine turn = (k : ℕ) → AreGenuine trade (journals_of sites) (slice_index_or turn.site.waiting k [])

  cut_leaves : (p : ℕ) (rooms : ℕ → ℕ) (steps : List Step) (cut : Cut) → LeavesGenuine (cut_turn trade p rooms (site_at sites p) steps cut)
  cut_leaves p rooms steps Whole = left_genuine (journals_of sites) (length steps) (site_at sites p).waiting (λ k. sound.genuine k p)
  cut_leaves p rooms steps (FailsAt n fault) = left_genuine (journals_of sites) (n + 1) (site_at sites p).waiting (λ k. sound.genuine k p)
  cut_leaves p rooms steps (Full n) = left_genuine (journals_of sites) (n + 1) (site_at sites p).waiting (λ k. sound.genuine k p)
  cut_leaves p rooms steps (Stops n) = left_genuine (journals_of sites) (n + 1) (site_at sites p).waiting (λ k. sound.genuine k p)
  cut_leaves p rooms steps (Unread n fault) = left_genuine (journals_of sites) (n + 1) (site_at sites p).waiting (λ k. sound.genuine k p)
  cut_leaves p rooms steps (Other out) = left_genuine (journals_of sites) (length steps) (site_at sites p).waiting (λ k. sound.genuine k p)
  cut_leaves p rooms steps (Sees looks cut) = cut_leaves p rooms steps cut

  leaves_by : (b : Bool) (x y : Turned) → LeavesGenuine x → LeavesGenuine y → LeavesGenuine (if b then x else y)
  leaves_by true x y a b = a
  leaves_by false x y a b = b

  turn_leaves : (p now : ℕ) (rooms : ℕ → ℕ) (cut : Cut) → LeavesGenuine (turned trade p now rooms cut (site_at sites p))
  unfolding turned
  turn_leaves p now rooms cut =
      leaves_by (site_at sites p).up _ _
      (leaves_by (nat_lt now (last_of trade p (journal_at sites p))) _ _ (λ k. sound.genuine k p)
      (cut_leaves p rooms (steps_of trade p now (site_at sites p) cut) cut))
      (λ k. sound.genuine k p)

  -- ---- what a turn puts, in journals in which its own is that behind the turn

  puts_genuine : (J : Journals) → TextLaws trade J → (p : ℕ) (rooms : ℕ → ℕ) (owed : List Letter) (to count k : ℕ)
      → AreGenuine trade J (slice_index_or (puts_from trade p (J p) rooms owed to count) k [])
  puts_genuine J texts p rooms owed to zero k = All-nil (IsGenuine trade J)
  puts_genuine J texts p rooms owed to (suc count) zero = due_genuine trade world J texts p to (rooms to) owed
  puts_genuine J texts p rooms owed to (suc count) (suc k) = puts_genuine J texts p rooms owed (to + 1) count k

  -- where other frames are put than those that are due, they are genuine
  abbrev GivenGenuine : Journals → Cut → Type 0
  GivenGenuine J cut = (out : List (List Bytes)) → put_instead cut ≡ Some out → AreGenuine trade J (frames_in out)

  front_genuine : (J : Journals) (xs ys : List Bytes) → AreGenuine trade J (xs ++ ys) → AreGenuine trade J xs
  front_genuine J [] ys all = All-nil (IsGenuine trade J)
  front_genuine J (x ∷ xs) ys all =
      All-cons (IsGenuine trade J) x xs (All-head (IsGenuine trade J) x (xs ++ ys) all) (front_genuine J xs ys (All-tail (IsGenuine trade J) x (xs ++ ys) all))

  rest_genuine : (J : Journals) (xs ys : List Bytes) → AreGenuine trade J (xs ++ ys) → AreGenuine trade J ys
  rest_genuine J [] ys all = all
  rest_genuine J (x ∷ xs) ys all = rest_genuine J xs ys (All-tail (IsGenuine trade J) x (xs ++ ys) all)

  fit_genuine : (J : Journals) (rooms : ℕ → ℕ) (to : ℕ) (out : List (List Bytes)) → AreGenuine trade J (frames_in out) → (k : ℕ)
      → AreGenuine trade J (slice_index_or (that_fit rooms to out) k [])
  fit_genuine J rooms to [] good k = All-nil (IsGenuine trade J)
  fit_genuine J rooms to (frames ∷ out) good zero = All-take (IsGenuine trade J) (rooms to) frames (front_genuine J frames (frames_in out) good)
  fit_genuine J rooms to (frames ∷ out) good (suc k) = fit_genuine J rooms (to + 1) out (rest_genuine J frames (frames_in out) good) k

  abbrev PutsGenuine : ℕ → Cut → Turned → Type 0
  PutsGenuine p cut turn = (J : Journals) → TextLaws trade J → GivenGenuine J cut → J p ≡ turn.site.journal
      → (k : ℕ) → AreGenuine trade J (slice_index_or turn.out k [])

  cut_puts : (p : ℕ) (rooms : ℕ → ℕ) (steps : List Step) (cut : Cut) → PutsGenuine p cut (cut_turn trade p rooms (site_at sites p) steps cut)
  cut_puts p rooms steps Whole J texts given e k =
      subst (λ (es : List Entry). AreGenuine trade J (slice_index_or (puts_from trade p es rooms (owed_of steps) 0 trade.providers) k [])) e
      (puts_genuine J texts p rooms (owed_of steps) 0 trade.providers k)
  cut_puts p rooms steps (FailsAt n fault) J texts given e k = All-nil (IsGenuine trade J)
  cut_puts p rooms steps (Full n) J texts given e k = All-nil (IsGenuine trade J)
  cut_puts p rooms steps (Stops n) J texts given e k = All-nil (IsGenuine trade J)
  cut_puts p rooms steps (Unread n fault) J texts given e k = All-nil (IsGenuine trade J)
  cut_puts p rooms steps (Other out) J texts given e k = fit_genuine J rooms 0 out (given out refl) k
  cut_puts p rooms steps (Sees looks cut) J texts given e k = cut_puts p rooms steps cut J texts given e k

  puts_by : (p : ℕ) (cut : Cut) (b : Bool) (x y : Turned) → PutsGenuine p cut x → PutsGenuine p cut y → PutsGenuine p cut (if b then x else y)
  puts_by p cut true x y a b = a
  puts_by p cut false x y a b = b

  turn_puts : (p now : ℕ) (rooms : ℕ → ℕ) (cut : Cut) → PutsGenuine p cut (turned trade p now rooms cut (site_at sites p))
  unfolding turned
  turn_puts p now rooms cut =
      puts_by p cut (site_at sites p).up _ _
      (puts_by p cut (nat_lt now (last_of trade p (journal_at sites p))) _ _ (λ J texts given e k. All-nil (IsGenuine trade J))
      (cut_puts p rooms (steps_of trade p now (site_at sites p) cut) cut))
      (λ J texts given e k. All-nil (IsGenuine trade J))

  -- ---- what waits after a delivery

  delivery_genuine : (J : Journals) (to : ℕ) (outs : List (List (List Bytes))) (links : List (List Bytes))
      → ((k : ℕ) → AreGenuine trade J (slice_index_or (slice_index_or outs k []) to [])) → ((k : ℕ) → AreGenuine trade J (slice_index_or links k []))
      → (k : ℕ) → AreGenuine trade J (slice_index_or (delivered_to to outs links) k [])
  delivery_genuine J to [] links puts waits k = waits k
  delivery_genuine J to (out ∷ outs) [] puts waits zero = puts 0
  delivery_genuine J to (out ∷ outs) [] puts waits (suc k) = delivery_genuine J to outs [] (λ i. puts (suc i)) (λ i. All-nil (IsGenuine trade J)) k
  delivery_genuine J to (out ∷ outs) (link ∷ links) puts waits zero = All-append (IsGenuine trade J) link (slice_index_or out to []) (waits 0) (puts 0)
  delivery_genuine J to (out ∷ outs) (link ∷ links) puts waits (suc k) = delivery_genuine J to outs links (λ i. puts (suc i)) (λ i. waits (suc i)) k

  -- ---- how long links are

  left_fewer : (n : ℕ) (links : List (List Bytes)) (k : ℕ) → length (slice_index_or (without_first n links) k []) ≤ length (slice_index_or links k [])
  left_fewer n [] k = omega arith
  left_fewer n (link ∷ links) zero = let e = length-drop n link in omega (arith, e)
  left_fewer n (link ∷ links) (suc k) = left_fewer (n - length link) links k

  abbrev LeavesFewer : ℕ → Turned → Type 0
  LeavesFewer p turn = (k : ℕ) → length (slice_index_or turn.site.waiting k []) ≤ length (slice_index_or (site_at sites p).waiting k [])

  cut_leaves_fewer : (p : ℕ) (rooms : ℕ → ℕ) (steps : List Step) (cut : Cut) → LeavesFewer p (cut_turn trade p rooms (site_at sites p) steps cut)
  cut_leaves_fewer p rooms steps Whole k = left_fewer (length steps) (site_at sites p).waiting k
  cut_leaves_fewer p rooms steps (FailsAt n fault) k = left_fewer (n + 1) (site_at sites p).waiting k
  cut_leaves_fewer p rooms steps (Full n) k = left_fewer (n + 1) (site_at sites p).waiting k
  cut_leaves_fewer p rooms steps (Stops n) k = left_fewer (n + 1) (site_at sites p).waiting k
  cut_leaves_fewer p rooms steps (Unread n fault) k = left_fewer (n + 1) (site_at sites p).waiting k
  cut_leaves_fewer p rooms steps (Other out) k = left_fewer (length steps) (site_at sites p).waiting k
  cut_leaves_fewer p rooms steps (Sees looks cut) k = cut_leaves_fewer p rooms steps cut k

  fewer_by : (p : ℕ) (b : Bool) (x y : Turned) → LeavesFewer p x → LeavesFewer p y → LeavesFewer p (if b then x else y)
  fewer_by p true x y a b = a
  fewer_by p false x y a b = b

  turn_leaves_fewer : (p now : ℕ) (rooms : ℕ → ℕ) (cut : Cut) → LeavesFewer p (turned trade p now rooms cut (site_at sites p))
  unfolding turned
  turn_leaves_fewer p now rooms cut =
      fewer_by p (site_at sites p).up _ _
      (fewer_by p (nat_lt now (last_of trade p (journal_at sites p))) _ _ (λ k. omega arith)
      (cut_leaves_fewer p rooms (steps_of trade p now (site_at sites p) cut) cut))
      (λ k. omega arith)

  abbrev PutsFit : (ℕ → ℕ) → Turned → Type 0
  PutsFit rooms turn = (k : ℕ) → length (slice_index_or turn.out k []) ≤ rooms k

  puts_fit : (p : ℕ) (es : List Entry) (rooms : ℕ → ℕ) (owed : List Letter) (to count k : ℕ)
      → length (slice_index_or (puts_from trade p es rooms owed to count) k []) ≤ rooms (to + k)
  puts_fit p es rooms owed to zero k = omega arith
  puts_fit p es rooms owed to (suc count) zero =
      subst (λ (n : ℕ). length (due_frames trade p es to (rooms to) owed) ≤ rooms n) (let z : to ≡ to + 0 = omega arith in z) (due_fit trade p es to (rooms to) owed)
  puts_fit p es rooms owed to (suc count) (suc k) =
      subst (λ (n : ℕ). length (slice_index_or (puts_from trade p es rooms owed (to + 1) count) k []) ≤ rooms n) (let z : (to + 1) + k ≡ to + suc k = omega arith in z)
      (puts_fit p es rooms owed (to + 1) count k)

  that_fits : (rooms : ℕ → ℕ) (to : ℕ) (out : List (List Bytes)) (k : ℕ) → length (slice_index_or (that_fit rooms to out) k []) ≤ rooms (to + k)
  that_fits rooms to [] k = omega arith
  that_fits rooms to (frames ∷ out) zero =
      subst (λ (n : ℕ). length (take (rooms to) frames) ≤ rooms n) (let z : to ≡ to + 0 = omega arith in z) (let few = length-take (rooms to) frames in omega (arith, few))
  that_fits rooms to (frames ∷ out) (suc k) =
      subst (λ (n : ℕ). length (slice_index_or (that_fit rooms (to + 1) out) k []) ≤ rooms n) (let z : (to + 1) + k ≡ to + suc k = omega arith in z)
      (that_fits rooms (to + 1) out k)

  cut_puts_fit : (p : ℕ) (rooms : ℕ → ℕ) (steps : List Step) (cut : Cut) → PutsFit rooms (cut_turn trade p rooms (site_at sites p) steps cut)
  cut_puts_fit p rooms steps Whole k =
      subst (λ (n : ℕ). length (slice_index_or (puts_from trade p (journal_at sites p ++ entries_of steps) rooms (owed_of steps) 0 trade.providers) k []) ≤ rooms n)
      (let z : 0 + k ≡ k = omega arith in z) (puts_fit p (journal_at sites p ++ entries_of steps) rooms (owed_of steps) 0 trade.providers k)
  cut_puts_fit p rooms steps (FailsAt n fault) k = omega arith
  cut_puts_fit p rooms steps (Full n) k = omega arith
  cut_puts_fit p rooms steps (Stops n) k = omega arith
  cut_puts_fit p rooms steps (Unread n fault) k = omega arith
  cut_puts_fit p rooms steps (Sees looks cut) k = cut_puts_fit p rooms steps cut k
  cut_puts_fit p rooms steps (Other out) k =
      subst (λ (n : ℕ). length (slice_index_or (that_fit rooms 0 out) k []) ≤ rooms n) (let z : 0 + k ≡ k = omega arith in z) (that_fits rooms 0 out k)

  fit_by : (rooms : ℕ → ℕ) (b : Bool) (x y : Turned) → PutsFit rooms x → PutsFit rooms y → PutsFit rooms (if b then x else y)
  fit_by rooms true x y a b = a
  fit_by rooms false x y a b = b

  turn_puts_fit : (p now : ℕ) (rooms : ℕ → ℕ) (cut : Cut) → PutsFit rooms (turned trade p now rooms cut (site_at sites p))
  unfolding turned
  turn_puts_fit p now rooms cut =
      fit_by rooms (site_at sites p).up _ _
      (fit_by rooms (nat_lt now (last_of trade p (journal_at sites p))) _ _ (λ k. omega arith)
      (cut_puts_fit p rooms (steps_of trade p now (site_at sites p) cut) cut))
      (λ k. omega arith)

  longer_by : (to : ℕ) (outs : List (List (List Bytes))) (links : List (List Bytes)) (k : ℕ)
      → length (slice_index_or (delivered_to to outs links) k [])
      ≤ length (slice_index_or links k []) + length (slice_index_or (slice_index_or outs k []) to [])
  longer_by to [] links k = omega arith
  longer_by to (out ∷ outs) [] zero = omega arith
  longer_by to (out ∷ outs) [] (suc k) = longer_by to outs [] k
  longer_by to (out ∷ outs) (link ∷ links) zero = let e = length-append link (slice_index_or out to []) in omega (arith, e)
  longer_by to (out ∷ outs) (link ∷ links) (suc k) = longer_by to outs links k

  -- ---- rounds

  module _ (images : (new : Journals) → ((p : ℕ) → FollowsState trade sites p (new p)) → Fit trade new)
      (texts : (J : Journals) → Fit trade J → TextLaws trade J) (now : ℕ) (range : now < END_OF_TIME) (cuts : ℕ → Cut) where
    abbrev turns : List Turned
    turns = turns_from trade now sites cuts 0 sites

    abbrev after : List Site
    after = delivered (outs_of turns) 0 turns

    abbrev turn_of : ℕ → Turned
    turn_of = turn_in trade now cuts sites

    each_happens : (p : ℕ) → Happens trade sites after p
    each_happens p =
        elim (cases_lt p (length sites)) [
          | inl l ↦
              let e = after_is trade now cuts sites p l
              in turn_became p now range (rooms_of sites p) (cuts p) after (ap (λ (s : Site). s.journal) e) (ap (λ (s : Site). s.interrupted) e) (ap (λ (s : Site). s.up) e)
          | inr l ↦ stays_as_it_was trade laws sites after p sound (past_the_end trade now cuts sites p l)
        ]

    fit_after : Fit trade (journals_of after)
    fit_after =
        images (journals_of after)
        (λ p. subst (λ (es : List Entry). FollowsState trade sites p es) (append-nil (journal_at after p)) ((laws.each sites after p (each_happens p)).journal false))

    waits_on : (p : ℕ) → (frames : List Bytes) → AreGenuine trade (journals_of sites) frames → AreGenuine trade (journals_of after) frames
    waits_on p frames good =
        laws.frames (journals_of sites) (journals_of after) (λ q. goes_on trade laws sites after q (each_happens q)) frames good

    abbrev AllGiven : Type 0
    AllGiven = (p : ℕ) (out : List (List Bytes)) → p < length sites → put_instead (cuts p) ≡ Some out
        → AreGenuine trade (journals_of after) (frames_in out)

    puts_are : AllGiven → (to k : ℕ) → AreGenuine trade (journals_of after) (slice_index_or (slice_index_or (outs_of turns) k []) to [])
    puts_are given to k =
        elim (cases_lt k (length sites)) [
          | inl l ↦ subst (λ (out : List (List Bytes)). AreGenuine trade (journals_of after) (slice_index_or out to [])) (sym (out_at turns k (turn_of k) (turn_is trade now cuts sites k l)))
              (turn_puts k now (rooms_of sites k) (cuts k) (journals_of after) (texts (journals_of after) fit_after) (λ out e. given k out l e) (ap (λ (s : Site). s.journal) (after_is trade now cuts sites k l)) to)
          | inr l ↦ subst (λ (out : List (List Bytes)). AreGenuine trade (journals_of after) (slice_index_or out to []))
              (sym (get_or_past (outs_of turns) k [] (let e = outs_length turns ∙ turns_length trade now sites cuts 0 sites in omega (arith, e))))
              (All-nil (IsGenuine trade (journals_of after)))
        ]

    frames_after : AllGiven → (from to : ℕ) → AreGenuine trade (journals_of after) (frames_between after from to)
    frames_after given from to =
        elim (cases_lt to (length sites)) [
          | inl l ↦ subst (λ (s : Site). AreGenuine trade (journals_of after) (slice_index_or s.waiting from [])) (sym (after_is trade now cuts sites to l))
              (delivery_genuine (journals_of after) to (outs_of turns) (turn_of to).site.waiting (puts_are given to)
              (λ k. waits_on to (slice_index_or (turn_of to).site.waiting k []) (turn_leaves to now (rooms_of sites to) (cuts to) k)) from)
          | inr l ↦ subst (λ (s : Site). AreGenuine trade (journals_of after) (slice_index_or s.waiting from [])) (sym (past_the_end trade now cuts sites to l))
              (waits_on to (frames_between sites from to) (sound.genuine from to))
        ]

    pub next_rounded : ((p : ℕ) (out : List (List Bytes)) → p < length sites → put_instead (cuts p) ≡ Some out
        → AreGenuine trade (journals_of (rounded trade now cuts sites).sites) (frames_in out))
        → IsNext trade sites (rounded trade now cuts sites).sites
    unfolding rounded turns_of
    next_rounded given = record {
      count = after_length trade now cuts sites;
      each = λ p. laws.each sites after p (each_happens p);
      genuine = frames_after given;
    }

    put_for : (from to : ℕ) → length (slice_index_or (slice_index_or (outs_of turns) from []) to []) ≤ rooms_of sites from to
    put_for from to =
        elim (cases_lt from (length sites)) [
          | inl l ↦ subst (λ (out : List (List Bytes)). length (slice_index_or out to []) ≤ rooms_of sites from to) (sym (out_at turns from (turn_of from) (turn_is trade now cuts sites from l)))
              (turn_puts_fit from now (rooms_of sites from) (cuts from) to)
          | inr l ↦ subst (λ (out : List (List Bytes)). length (slice_index_or out to []) ≤ rooms_of sites from to)
              (sym (get_or_past (outs_of turns) from [] (let e = outs_length turns ∙ turns_length trade now sites cuts 0 sites in omega (arith, e))))
              (omega arith)
        ]

    short_after : LinksAreShort sites → LinksAreShort after
    short_after short from to =
        elim (cases_lt to (length sites)) [
          | inl l ↦
              let waits = turn_leaves_fewer to now (rooms_of sites to) (cuts to) from
              in let put = put_for from to
              in let all = longer_by to (outs_of turns) (turn_of to).site.waiting from
              in let old = short from to
              in subst (λ (s : Site). length (slice_index_or s.waiting from []) ≤ link_size) (sym (after_is trade now cuts sites to l)) (omega (arith, waits, put, all, old))
          | inr l ↦ subst (λ (s : Site). length (slice_index_or s.waiting from []) ≤ link_size) (sym (past_the_end trade now cuts sites to l)) (short from to)
        ]

    pub short_rounded : LinksAreShort sites → LinksAreShort (rounded trade now cuts sites).sites
    unfolding rounded turns_of
    short_rounded short = short_after short
