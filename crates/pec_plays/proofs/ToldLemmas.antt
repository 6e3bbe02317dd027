-- Which pairs events name: those of the rows that the entries add. So no two events of a run name one pair.
use Rattle.std.proofs.Common.{◌≡◌, ℕ, zero, suc, ◌+◌, ◌≤◌, List, [], ◌∷◌, ◌++◌, Bool, true, false, cond, length, map, take, fold, filter, refl, ap, sym, subst, ◌∙◌, arith, nat_lt, Option, Some, None}
use Rattle.std.specs.Prelude.{if◌then◌else◌}
use Rattle.std.specs.List.{find, flat_map}
use Rattle.std.specs.Option.{option_to_list}
use Rattle.std.proofs.lemmas.Bool.{false≢true}
use Rattle.std.proofs.lemmas.Grind.{flat_map-append}
use Rattle.std.proofs.lemmas.List.{append-nil, append_assoc, map-append}
use Rattle.std.proofs.lemmas.List.Sums.{fold-append}
use Rattle.std.proofs.lemmas.Option.{none-some}
use Rattle.pec_types.specs.Bytes.{Bytes, Path}
use Rattle.pec_types.specs.Message.{Id}
use Rattle.pec_types.specs.declared.messages.Decision.{Decision}
use Rattle.pec_types.specs.declared.messages.Decision.TheVariants.{Placed, Refused}
use Rattle.pec_types.specs.declared.messages.Refusal.TheVariants as refusals
use Rattle.pec_types.specs.declared.receipts.Kind.{Kind}
use Rattle.pec_types.specs.declared.receipts.Kind.TheVariants as kinds
use Rattle.pec_types.specs.declared.turns.Event.{Event}
use Rattle.pec_records.specs.declared.entries.Entry.{Entry}
use Rattle.pec_ledger.specs.Along.{AllDiffer, StandsNotIn, times}
use Rattle.pec_ledger.specs.Half.{Charge, Fate, Half, Known, Taken, empty}
use Rattle.pec_ledger.specs.Lookups.{charged_of, is_acked, known_of, taken_of}
use Rattle.pec_ledger.specs.Network.{Site}
use Rattle.pec_ledger.specs.Pairs.{Pair, pair_of, same_pair}
use Rattle.pec_ledger.specs.Steps.{decided_by, half, known_by, step}
use Rattle.pec_ledger.specs.Trade.{Framed, Receipt, Seen, SeenEnvelope, SeenReceipt, Trade}
use Rattle.pec_plays.specs.Decisions.{Looks, decide, undecided}
use Rattle.pec_plays.specs.Reception.{accounts_with_room, ack_fits, ack_rows, anomaly, arrive, by_ack, by_frame, by_outcome, by_receipt, by_seen, charge_fits, charge_rows, envelope_fits, envelope_rows, otherwise, outcome_fits, outcome_rows}
use Rattle.pec_plays.specs.Steps.{Step, journal_after}
use Rattle.pec_plays.specs.Told.{decides, learns}
use Rattle.pec_plays.specs.Turns.{Cut, Turned, Whole, Fails, Full, Stops, Unread, Other, Sees, cut_turn, decisions, entries_of, events_of, frames_in, last_of, looks_by, plan, steps_of, turned}
use Rattle.pec_plays.proofs.ListLemmas.{pair_again}

-- ---- counts

counted_on : {X : Type 0} (b : Bool) (x : X) (ps qs rs : List X) → length rs ≡ length ps + length qs
    → length (cond b (x ∷ rs) rs) ≡ length (cond b (x ∷ ps) ps) + length qs
counted_on true x ps qs rs e = omega (arith, e)
counted_on false x ps qs rs e = e

pub times_append : {X : Type 0} (p : X → Bool) (xs ys : List X) → times p (xs ++ ys) ≡ times p xs + times p ys
times_append p [] ys = omega arith
times_append p (x ∷ xs) ys = counted_on (p x) x (filter p xs) (filter p ys) (filter p (xs ++ ys)) (times_append p xs ys)

counted_as : {X Y : Type 0} (a b : Bool) (x : X) (y : Y) (xs : List X) (ys : List Y) → a ≡ b → length xs ≡ length ys
    → length (cond a (x ∷ xs) xs) ≡ length (cond b (y ∷ ys) ys)
counted_as true true x y xs ys e f = omega (arith, f)
counted_as false false x y xs ys e f = f
counted_as true false x y xs ys e f = absurd (false≢true (sym e))
counted_as false true x y xs ys e f = absurd (false≢true e)

-- the items of a list are counted as what they are mapped to
pub times_mapped : {X : Type 0} (p : Pair → Bool) (f : X → Pair) (xs : List X) → times p (map f xs) ≡ times (λ (x : X). p (f x)) xs
times_mapped p f [] = refl
times_mapped p f (x ∷ xs) =
    counted_as (p (f x)) (p (f x)) (f x) x (filter p (map f xs)) (filter (λ x. p (f x)) xs) refl (times_mapped p f xs)

counted_none : {X : Type 0} (b : Bool) (x : X) (p : X → Bool) (xs : List X) → cond b (Some x) (find p xs) ≡ None → (find p xs ≡ None → times p xs ≡ 0)
    → length (cond b (x ∷ filter p xs) (filter p xs)) ≡ 0
counted_none true x p xs e more = absurd (none-some x (sym e))
counted_none false x p xs e more = more e

pub none_counted : {X : Type 0} (p : X → Bool) (xs : List X) → find p xs ≡ None → times p xs ≡ 0
none_counted p [] e = refl
none_counted p (x ∷ xs) e = counted_none (p x) x p xs e (none_counted p xs)

-- pairs of which each is counted once differ
more_than : {X : Type 0} (b : Bool) (x : X) (xs : List X) → length xs ≤ length (cond b (x ∷ xs) xs)
more_than true x xs = omega arith
more_than false x xs = omega arith

one_more : {X : Type 0} (b : Bool) (x : X) (xs : List X) → b ≡ true → length (cond b (x ∷ xs) xs) ≡ suc (length xs)
one_more true x xs e = refl
one_more false x xs e = absurd (false≢true e)

not_there : (pair : Pair) (pairs : List Pair) → times (same_pair pair) pairs ≡ 0 → StandsNotIn pair pairs
not_there pair [] e = tt
not_there pair (other ∷ pairs) e = (
  λ (same : pair ≡ other).
      let one = one_more (same_pair pair other) other (filter (same_pair pair) pairs) (subst (λ (p : Pair). same_pair pair p ≡ true) same (pair_again pair))
      in omega (arith, one, e),
  not_there pair pairs (let l = more_than (same_pair pair other) other (filter (same_pair pair) pairs) in omega (arith, l, e)),
)

pub differ_by_counts : (pairs : List Pair) → ((pair : Pair) → times (same_pair pair) pairs ≤ 1) → AllDiffer pairs
differ_by_counts [] once = tt
differ_by_counts (pair ∷ pairs) once = (
  not_there pair pairs
      (let l = once pair
      in let one = one_more (same_pair pair pair) pair (filter (same_pair pair) pairs) (pair_again pair)
      in omega (arith, l, one)),
  differ_by_counts pairs
      (λ other.
      let l = once other in let m = more_than (same_pair other pair) pair (filter (same_pair other) pairs) in omega (arith, l, m)),
)

-- ---- rows and events

-- the pairs of what is decided and known, and those that an entry adds
abbrev pub decided_rows : Half → List Pair
decided_rows h = map (λ (fate : Fate). fate.pair) h.decided

abbrev pub decided_more : Entry → List Pair
decided_more e = map (λ (fate : Fate). fate.pair) (decided_by e)

abbrev pub known_rows : Half → List Pair
known_rows h = map (λ (known : Known). known.pair) h.known

abbrev pub known_more : Entry → List Pair
known_more e = map (λ (known : Known). known.pair) (known_by e)

-- Each list names the pairs of these entries' rows.
pub record Tells (events : List Event) (more : List Entry) : Type 0 where
  pub decided : flat_map decides events ≡ flat_map decided_more more
  pub known : flat_map learns events ≡ flat_map known_more more

abbrev pub TellsStep : Step → Type 0
TellsStep s = Tells (s.event ∷ []) (option_to_list s.entry)

tells_nothing : Tells [] []
tells_nothing = record { decided = refl; known = refl }

both_lists : (a b c d : List Pair) → a ≡ b → c ≡ d → a ++ c ≡ b ++ d
both_lists a b c d e f = rw (e, f) refl

tells_both : (events : List Event) (more : List Entry) (later : List Event) (rest : List Entry) → Tells events more → Tells later rest
    → Tells (events ++ later) (more ++ rest)
tells_both events more later rest a b = record {
  decided = flat_map-append decides events later
      ∙ both_lists (flat_map decides events) (flat_map decided_more more) (flat_map decides later) (flat_map decided_more rest) a.decided b.decided
      ∙ sym (flat_map-append decided_more more rest);
  known = flat_map-append learns events later
      ∙ both_lists (flat_map learns events) (flat_map known_more more) (flat_map learns later) (flat_map known_more rest) a.known b.known
      ∙ sym (flat_map-append known_more more rest);
}

-- ---- steps

module _ (trade : Trade) (p now : ℕ) (es : List Entry) where
  anomaly_tells : (message : Bytes) (accounts : Path) → TellsStep (anomaly trade p now es message accounts)
  anomaly_tells message [] = record { decided = refl; known = refl }
  anomaly_tells message (a ∷ accounts) = record { decided = refl; known = refl }

  otherwise_tells : (f : Framed) → TellsStep (otherwise trade p now es f)
  otherwise_tells f = anomaly_tells f.message (accounts_with_room trade p es f.path)

  envelope_tells : (f : Framed) (id : Id) (fits : Bool) (row : Option Taken) → TellsStep (envelope_rows trade p now es f id fits row)
  envelope_tells f id false row = otherwise_tells f
  envelope_tells f id true None = record { decided = refl; known = refl }
  envelope_tells f id true (Some row) = record { decided = refl; known = refl }

  charge_tells : (f : Framed) (r : Receipt) (fits : Bool) (row : Option Charge) → TellsStep (charge_rows trade p now es f r fits row)
  charge_tells f r false row = otherwise_tells f
  charge_tells f r true None = record { decided = refl; known = refl }
  charge_tells f r true (Some row) = record { decided = refl; known = refl }

  outcome_tells : (f : Framed) (r : Receipt) (recipient : Bytes) (decision : Decision) (fits : Bool) (row : Option Known)
      → TellsStep (outcome_rows trade p now es f r recipient decision fits row)
  outcome_tells f r recipient decision false row = otherwise_tells f
  outcome_tells f r recipient decision true None = record { decided = refl; known = refl }
  outcome_tells f r recipient decision true (Some row) = record { decided = refl; known = refl }

  ack_tells : (f : Framed) (r : Receipt) (recipient : Bytes) (fits acked : Bool) → TellsStep (ack_rows trade p now es f r recipient fits acked)
  ack_tells f r recipient false acked = otherwise_tells f
  ack_tells f r recipient true false = record { decided = refl; known = refl }
  ack_tells f r recipient true true = record { decided = refl; known = refl }

  by_outcome_tells : (f : Framed) (r : Receipt) (decision : Decision) (recipient : Option Bytes) → TellsStep (by_outcome trade p now es f r decision recipient)
  by_outcome_tells f r decision None = otherwise_tells f
  by_outcome_tells f r decision (Some recipient) =
      outcome_tells f r recipient decision (outcome_fits trade p now es f r recipient decision) (known_of (half trade p es) (pair_of r.id recipient))

  by_ack_tells : (f : Framed) (r : Receipt) (recipient : Option Bytes) → TellsStep (by_ack trade p now es f r recipient)
  by_ack_tells f r None = otherwise_tells f
  by_ack_tells f r (Some recipient) =
      ack_tells f r recipient (ack_fits trade p now es f r recipient) (is_acked (half trade p es) (pair_of r.id recipient))

  by_receipt_tells : (f : Framed) (r : Receipt) (kind : Kind) → TellsStep (by_receipt trade p now es f r kind)
  by_receipt_tells f r kinds.Charge = charge_tells f r (charge_fits trade p now es f r) (charged_of (half trade p es) r.id r.by)
  by_receipt_tells f r kinds.Delivery = by_outcome_tells f r Placed r.recipient
  by_receipt_tells f r (kinds.DeliveryError refusals.NoMailbox) = by_outcome_tells f r (Refused refusals.NoMailbox) r.recipient
  by_receipt_tells f r (kinds.DeliveryError refusals.MailboxFull) = by_outcome_tells f r (Refused refusals.MailboxFull) r.recipient
  by_receipt_tells f r (kinds.DeliveryError refusals.Virus) = otherwise_tells f
  by_receipt_tells f r kinds.VirusFound = by_outcome_tells f r (Refused refusals.Virus) r.recipient
  by_receipt_tells f r kinds.Ack = by_ack_tells f r r.recipient
  by_receipt_tells f r kinds.Acceptance = otherwise_tells f
  by_receipt_tells f r (kinds.NonAcceptance cause) = otherwise_tells f
  by_receipt_tells f r kinds.Warning = otherwise_tells f
  by_receipt_tells f r kinds.Notice = otherwise_tells f
  by_receipt_tells f r kinds.LateNotice = otherwise_tells f

  by_seen_tells : (f : Framed) (seen : Option Seen) → TellsStep (by_seen trade p now es f seen)
  by_seen_tells f None = otherwise_tells f
  by_seen_tells f (Some (SeenEnvelope id moment original)) = envelope_tells f id (envelope_fits trade p f) (taken_of (half trade p es) id)
  by_seen_tells f (Some (SeenReceipt r)) = by_receipt_tells f r r.kind

  by_frame_tells : (found : Option Framed) → TellsStep (by_frame trade p now es found)
  by_frame_tells None = record { decided = refl; known = refl }
  by_frame_tells (Some f) = by_seen_tells f (trade.view f.message)

  arrive_tells : (frame : Bytes) → TellsStep (arrive trade p now es frame)
  unfolding arrive
  arrive_tells frame = by_frame_tells (trade.unframed frame)

  decide_tells : (looks : Looks) (pair : Pair) → TellsStep (decide trade p now looks es pair)
  unfolding decide
  decide_tells looks pair = record { decided = refl; known = refl }

-- ---- turns

abbrev AllTell : List Step → Type 0
AllTell [] = Unit {0}
AllTell (s ∷ steps) = TellsStep s × AllTell steps

module _ (trade : Trade) (p now : ℕ) (looks : Looks) where
  decisions_tell : (es : List Entry) (pairs : List Pair) → AllTell (decisions trade p now looks es pairs)
  decisions_tell es [] = tt
  decisions_tell es (pair ∷ pairs) = (decide_tells trade p now es looks pair, decisions_tell (journal_after es (decide trade p now looks es pair)) pairs)

  plan_tells : (es : List Entry) (frames : List Bytes) → AllTell (plan trade p now looks es frames)
  plan_tells es [] = decisions_tell es (undecided trade p es)
  plan_tells es (frame ∷ frames) = (arrive_tells trade p now es frame, plan_tells (journal_after es (arrive trade p now es frame)) frames)

front_tells : (n : ℕ) (steps : List Step) → AllTell steps → Tells (events_of (take n steps)) (entries_of (take n steps))
front_tells zero steps all = tells_nothing
front_tells (suc n) [] all = tells_nothing
front_tells (suc n) (s ∷ steps) all =
    tells_both (s.event ∷ []) (option_to_list s.entry) (events_of (take n steps)) (entries_of (take n steps)) all.0 (front_tells n steps all.1)

all_tell : (steps : List Step) → AllTell steps → Tells (events_of steps) (entries_of steps)
all_tell [] all = tells_nothing
all_tell (s ∷ steps) all = tells_both (s.event ∷ []) (option_to_list s.entry) (events_of steps) (entries_of steps) all.0 (all_tell steps all.1)

-- what a turn appends, and that its events tell it
pub record TurnTells (old : Site) (turn : Turned) : Type 0 where
  pub more : List Entry
  pub journal : turn.site.journal ≡ old.journal ++ more
  pub tells : Tells turn.events more

module _ (trade : Trade) (p now : ℕ) (rooms : ℕ → ℕ) (site : Site) where
  untold : (turn : Turned) → turn.site.journal ≡ site.journal → turn.events ≡ [] → TurnTells site turn
  untold turn j e = record {
    more = [];
    journal = j ∙ sym (append-nil site.journal);
    tells = subst (λ (events : List Event). Tells events []) (sym e) tells_nothing;
  }

  cut_tells : (steps : List Step) → AllTell steps → (cut : Cut) → TurnTells site (cut_turn trade p rooms site steps cut)
  cut_tells steps all Whole = record { more = entries_of steps; journal = refl; tells = all_tell steps all }
  cut_tells steps all (Fails n fault) = record { more = entries_of (take n steps); journal = refl; tells = front_tells n steps all }
  cut_tells steps all (Full n) = record { more = entries_of (take n steps); journal = refl; tells = front_tells n steps all }
  cut_tells steps all (Stops n) = record { more = entries_of (take n steps); journal = refl; tells = front_tells n steps all }
  cut_tells steps all (Unread n fault) = record { more = entries_of (take n steps); journal = refl; tells = front_tells n steps all }
  cut_tells steps all (Other out) = record { more = entries_of steps; journal = refl; tells = all_tell steps all }
  cut_tells steps all (Sees looks cut) = cut_tells steps all cut

  by_test : (b : Bool) (x y : Turned) → TurnTells site x → TurnTells site y → TurnTells site (if b then x else y)
  by_test true x y a b = a
  by_test false x y a b = b

  pub turn_tells : (cut : Cut) → TurnTells site (turned trade p now rooms cut site)
  unfolding turned
  turn_tells cut =
      by_test site.up _ _
      (by_test (nat_lt now (last_of trade p site.journal)) _ _ (untold _ refl refl)
      (cut_tells (steps_of trade p now site cut) (plan_tells trade p now (looks_by trade p site.screens cut) site.journal (frames_in site.waiting)) cut))
      (untold _ refl refl)

-- ---- rows of halves

module _ (trade : Trade) (p : ℕ) where
  decided_behind : (h : Half) (es : List Entry) → decided_rows (fold (step trade p) h es) ≡ decided_rows h ++ flat_map decided_more es
  unfolding step
  decided_behind h [] = sym (append-nil (decided_rows h))
  decided_behind h (e ∷ es) =
      decided_behind (step trade p h e) es
      ∙ ap (λ (l : List Pair). l ++ flat_map decided_more es) (map-append (λ (fate : Fate). fate.pair) h.decided (decided_by e))
      ∙ append_assoc (decided_rows h) (decided_more e) (flat_map decided_more es)

  known_behind : (h : Half) (es : List Entry) → known_rows (fold (step trade p) h es) ≡ known_rows h ++ flat_map known_more es
  unfolding step
  known_behind h [] = sym (append-nil (known_rows h))
  known_behind h (e ∷ es) =
      known_behind (step trade p h e) es
      ∙ ap (λ (l : List Pair). l ++ flat_map known_more es) (map-append (λ (known : Known). known.pair) h.known (known_by e))
      ∙ append_assoc (known_rows h) (known_more e) (flat_map known_more es)

  pub decided_on : (es more : List Entry) → decided_rows (half trade p (es ++ more)) ≡ decided_rows (half trade p es) ++ flat_map decided_more more
  unfolding half
  decided_on es more = ap decided_rows (fold-append (step trade p) empty es more) ∙ decided_behind (fold (step trade p) empty es) more

  pub known_on : (es more : List Entry) → known_rows (half trade p (es ++ more)) ≡ known_rows (half trade p es) ++ flat_map known_more more
  unfolding half
  known_on es more = ap known_rows (fold-append (step trade p) empty es more) ∙ known_behind (fold (step trade p) empty es) more
