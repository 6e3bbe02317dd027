-- The next undecided pair: in a journal of steps no id was taken twice, so the first taken pair that isn't decided is
-- the first undecided one.
use Rattle.std.proofs.Common.{◌≡◌, ℕ, List, [], ◌∷◌, ◌++◌, Bool, true, false, not, ◌&&◌, inl, inr, cond, map, refl, ap}
use Rattle.std.proofs.Common.{sym, subst, ◌∙◌, append-nil, Option, Some, None}
use Rattle.std.specs.Prelude.{Contains, filter, find, fold, is_none, ◌==◌}
use Rattle.std.specs.Option.{option_or}
use Rattle.std.specs.Str.{bytes_eq}
use Rattle.std.proofs.lemmas.Bool.{and_from, and_parts, eq-eqb, eqb-true}
use Rattle.std.proofs.lemmas.List.Elements.{Contains-append_cases}
use Rattle.std.proofs.lemmas.List.Folds.{find-append}
use Rattle.std.proofs.lemmas.Option.{none-some, same_Some}
use Rattle.std.proofs.lemmas.Slice.Eq.{bytes_eq-Decides}
use Rattle.pec_types.specs.Bytes.{Bytes, Path}
use Rattle.pec_types.specs.Message.{Id}
use Rattle.pec_types.specs.declared.messages.Decision.{Decision}
use Rattle.pec_types.specs.declared.turns.Event.TheVariants as events
use Rattle.pec_records.specs.declared.entries.Entry.{Entry}
use Rattle.pec_records.specs.declared.entries.Entry.TheVariants as entries
use Rattle.pec_ledger.specs.Along.{AllAlong}
use Rattle.pec_ledger.specs.Half.{Half, Taken, empty}
use Rattle.pec_ledger.specs.Lookups.{at_home, decided_of}
use Rattle.pec_ledger.specs.Own.{Own}
use Rattle.pec_ledger.specs.Pairs.{Pair, pair_of, same_id, same_pair}
use Rattle.pec_ledger.specs.Steps.{half, step, taken_by}
use Rattle.pec_ledger.specs.Trade.{Trade}
use Rattle.pec_plays.specs.Decisions.{decide, decision_on, is_open, is_recipient_of, pairs_taken, undecided}
use Rattle.pec_plays.specs.Reception.{each_once}
use Rattle.pec_shelf.specs.Prepared.{AreSteps, IsStep}
use Rattle.pec_shelf.specs.Undecided.{next_undecided}
use Rattle.pec_reception.proofs.PairLemmas.{address_there, contains_cases, contains_here, contains_none, contains_there}
use Rattle.pec_reception.specs.Shows.{IsFirstOf, Shows, decide_as}
use Rattle.pec_reception.specs.declared.received.Received.{Received}

-- ---- no id was taken twice

id_again : (id : Id) → same_id id id ≡ true
id_again id = and_from (id.provider == id.provider) (id.number == id.number) (eq-eqb id.provider id.provider refl)
    (eq-eqb id.number id.number refl)

-- each row is the one that is found by its id
abbrev IsPlain : List Taken → Type 0
IsPlain rows = (row : Taken) → Contains rows row → find (λ (t : Taken). same_id row.id t.id) rows ≡ Some row

only_one : (row other : Taken) → Contains (row ∷ []) other → row ≡ other
only_one row other c =
    elim (contains_cases row [] other c) [
      | inl same ↦ same
      | inr there ↦ absurd (contains_none other there)
    ]

plain_more : (rows : List Taken) (new : Taken) → IsPlain rows → find (λ (t : Taken). same_id new.id t.id) rows ≡ None
    → IsPlain (rows ++ new ∷ [])
plain_more rows new plain none row c =
    elim (Contains-append_cases rows (new ∷ []) row c) [
      | inl there ↦ find-append (λ (t : Taken). same_id row.id t.id) rows (new ∷ [])
          ∙ ap (λ (o : Option Taken). option_or o (find (λ (t : Taken). same_id row.id t.id) (new ∷ [])))
          (plain row there)
      | inr here ↦ subst (λ (r : Taken). find (λ (t : Taken). same_id r.id t.id) (rows ++ new ∷ []) ≡ Some r)
          (only_one new row here)
          (find-append (λ (t : Taken). same_id new.id t.id) rows (new ∷ [])
          ∙ ap (λ (o : Option Taken). option_or o (find (λ (t : Taken). same_id new.id t.id) (new ∷ []))) none
          ∙ ap (λ t. cond t (Some new) None) (id_again new.id))
    ]

plain_still : (rows : List Taken) → IsPlain rows → IsPlain (rows ++ [])
plain_still rows plain = subst IsPlain (sym (append-nil rows)) plain

module _ (trade : Trade) (me : ℕ) where
  plain_added : (h : Half) (entry : Entry) → IsPlain h.taken → Own trade me h entry
      → IsPlain (h.taken ++ taken_by trade me h entry)
  plain_added h (entries.Took moment id message) plain own =
      let new : Taken = record {
        id = id;
        moment = moment;
        recipients = at_home trade me
            (trade.envelope_recipients message);
        entry = h.entries;
      }
      in plain_more h.taken new plain own.1
  plain_added h (entries.Start number digest) plain own = plain_still h.taken plain
  plain_added h (entries.Accepted moment sender message) plain own = plain_still h.taken plain
  plain_added h (entries.NotAccepted moment sender cause path message) plain own = plain_still h.taken plain
  plain_added h (entries.Decided moment id recipient decision) plain own = plain_still h.taken plain
  plain_added h (entries.Charged moment id by) plain own = plain_still h.taken plain
  plain_added h (entries.Learned moment id recipient decision decided message) plain own = plain_still h.taken plain
  plain_added h (entries.Acked moment id recipient) plain own = plain_still h.taken plain
  plain_added h (entries.Ticked moment) plain own = plain_still h.taken plain
  plain_added h (entries.Anomaly moment accounts message) plain own = plain_still h.taken plain
  plain_added h (entries.StartTwo number digest) plain own = plain_still h.taken plain
  plain_added h (entries.Upgraded moment) plain own = plain_still h.taken plain
  plain_added h (entries.Archived moment account place) plain own = plain_still h.taken plain

  plain_stepped : (h : Half) (entry : Entry) → IsPlain h.taken → Own trade me h entry
      → IsPlain (step trade me h entry).taken
  unfolding step
  plain_stepped h entry plain own = plain_added h entry plain own

  plain_along : (h : Half) (list : List Entry) → IsPlain h.taken → AllAlong (step trade me) (IsStep trade me) h list
      → IsPlain (fold (step trade me) h list).taken
  plain_along h [] plain steps = plain
  plain_along h (entry ∷ list) plain steps = plain_along (step trade me h entry) list
      (plain_stepped h entry plain steps.0.own) steps.1

  plain_half : (journal : List Entry) → AreSteps trade me journal → IsPlain (half trade me journal).taken
  unfolding half
  plain_half journal steps = plain_along empty journal (λ row c. absurd (contains_none row c)) steps

-- ---- the first of a list

found_in : {X : Type 0} (p : X → Bool) (xs : List X) (x : X) → find p xs ≡ Some x → (rest : List X)
    × (filter p xs ≡ x ∷ rest)
found_in {X} p [] x e = absurd (none-some x e)
found_in {X} p (y ∷ xs) x e = by_test (p y) e (found_in p xs x)
  where
    by_test : (t : Bool) → cond t (Some y) (find p xs) ≡ Some x
        → (find p xs ≡ Some x → (rest : List X) × (filter p xs ≡ x ∷ rest))
        → (rest : List X) × (cond t (y ∷ filter p xs) (filter p xs) ≡ x ∷ rest)
    by_test true e more = (filter p xs, ap (λ z. z ∷ filter p xs) (same_Some y x e))
    by_test false e more = more e

none_in : {X : Type 0} (p : X → Bool) (xs : List X) → find p xs ≡ None → filter p xs ≡ []
none_in {X} p [] e = refl
none_in {X} p (y ∷ xs) e = by_test (p y) e (none_in p xs)
  where
    by_test : (t : Bool) → cond t (Some y) (find p xs) ≡ None → (find p xs ≡ None → filter p xs ≡ [])
        → cond t (y ∷ filter p xs) (filter p xs) ≡ []
    by_test true e more = absurd (none-some y (sym e))
    by_test false e more = more e

found_alike : {X : Type 0} (p q : X → Bool) (xs : List X) → ((x : X) → Contains xs x → p x ≡ q x)
    → find p xs ≡ find q xs
found_alike p q [] same = refl
found_alike p q (x ∷ xs) same =
    ap (λ t. cond t (Some x) (find p xs)) (same x (contains_here x xs))
    ∙ ap (λ found. cond (q x) (Some x) found) (found_alike p q xs (λ y c. same y (contains_there x xs y c)))

-- ---- each once

module _ {X : Type 0} (same : X → X → Bool) (equal : (x y : X) → same x y ≡ true → x ≡ y) (p : X → Bool) where
  -- what doesn't pass is left out, and what is equal to it
  left_out : (x : X) → p x ≡ false → (ys : List X) → find p (filter (λ y. not (same x y)) ys) ≡ find p ys
  left_out x none [] = refl
  left_out x none (y ∷ ys) = by_test (same x y) refl (left_out x none ys)
    where
      by_test : (t : Bool) → same x y ≡ t → find p (filter (λ y. not (same x y)) ys) ≡ find p ys
          → find p (cond (not t) (y ∷ filter (λ y. not (same x y)) ys) (filter (λ y. not (same x y)) ys)) ≡ cond (p y)
          (Some y) (find p ys)
      by_test true e rest = rest ∙ sym (ap (λ t. cond t (Some y) (find p ys)) (sym (ap p (equal x y e)) ∙ none))
      by_test false e rest = ap (λ found. cond (p y) (Some y) found) rest

  found_once : (xs : List X) → find p (each_once same xs) ≡ find p xs
  found_once [] = refl
  found_once (x ∷ xs) = by_test (p x) refl (found_once xs)
    where
      by_test : (t : Bool) → p x ≡ t → find p (each_once same xs) ≡ find p xs
          → cond t (Some x) (find p (filter (λ y. not (same x y)) (each_once same xs))) ≡ cond t (Some x) (find p xs)
      by_test true e rest = refl
      by_test false e rest = left_out x e (each_once same xs) ∙ rest

ids : (a b c d : ℕ) → a ≡ b → c ≡ d
    → (let i : Id = record { provider = a; number = c } in let j : Id = record { provider = b; number = d } in i ≡ j)
ids a b c d e f = rw (e, f) refl

pairs : (a b : Id) (c d : Bytes) → a ≡ b → c ≡ d → pair_of a c ≡ pair_of b d
pairs a b c d e f = rw (e, f) refl

same_ids : (a b : Id) → same_id a b ≡ true → a ≡ b
same_ids a b e =
    let numbers = and_parts (a.provider == b.provider) (a.number == b.number) e
    in ids a.provider b.provider a.number b.number (eqb-true a.provider b.provider numbers.0)
    (eqb-true a.number b.number numbers.1)

same_pairs : (a b : Pair) → same_pair a b ≡ true → a ≡ b
same_pairs a b e =
    let parts = and_parts (same_id a.id b.id) (bytes_eq a.recipient b.recipient) e
    in pairs a.id b.id a.recipient b.recipient (same_ids a.id b.id parts.0)
    ((bytes_eq-Decides a.recipient b.recipient).0 parts.1)

-- ---- pairs

-- a pair that was taken is one of a row
record IsOfRow (rows : List Taken) (pair : Pair) : Type 0 where
  row : Taken
  among : Contains rows row
  recipient : Bytes
  named : Contains row.recipients recipient
  is : pair_of row.id recipient ≡ pair

mapped : (id : Id) (recipients : Path) (pair : Pair) → Contains (map (pair_of id) recipients) pair
    → (recipient : Bytes) × Contains recipients recipient × (pair_of id recipient ≡ pair)
mapped id [] pair c = absurd (contains_none pair c)
mapped id (r ∷ recipients) pair c =
    elim (contains_cases (pair_of id r) (map (pair_of id) recipients) pair c) [
      | inl same ↦ (r, contains_here r recipients, same)
      | inr there ↦
          let more = mapped id recipients pair there
          in (more.0, contains_there r recipients more.0 more.1, more.2)
    ]

of_row : (rows : List Taken) (pair : Pair) → Contains (pairs_taken rows) pair → IsOfRow rows pair
of_row [] pair c = absurd (contains_none pair c)
of_row (row ∷ rows) pair c =
    elim (Contains-append_cases (map (pair_of row.id) row.recipients) (pairs_taken rows) pair c) [
      | inl here ↦
          let found = mapped row.id row.recipients pair here
          in record { row = row; among = contains_here row rows; recipient = found.0; named = found.1; is = found.2 }
      | inr there ↦
          let more = of_row rows pair there
          in record {
            row = more.row;
            among = contains_there row rows more.row more.among;
            recipient = more.recipient;
            named = more.named;
            is = more.is;
          }
    ]

abbrev is_undecided : Half → Pair → Bool
is_undecided h pair = is_none (decided_of h pair)

open_alike : (h : Half) → IsPlain h.taken → (pair : Pair) → Contains (pairs_taken h.taken) pair
    → is_open h pair ≡ is_undecided h pair
open_alike h plain pair c =
    let of = of_row h.taken pair c
    in subst (λ (p : Pair). is_open h p ≡ is_undecided h p) of.is
    (ap (λ (o : Option Taken). is_recipient_of of.recipient o && is_undecided h (pair_of of.row.id of.recipient))
    (plain of.row of.among)
    ∙ ap (λ t. t && is_undecided h (pair_of of.row.id of.recipient))
    (address_there of.row.recipients of.recipient of.named))

first_open : (h : Half) → IsPlain h.taken → find (is_open h) (each_once same_pair (pairs_taken h.taken))
    ≡ next_undecided h
first_open h plain =
    found_once same_pair same_pairs (is_open h) (pairs_taken h.taken)
    ∙ found_alike (is_open h) (is_undecided h) (pairs_taken h.taken) (open_alike h plain)

module _ (trade : Trade) (me : ℕ) (journal : List Entry) (steps : AreSteps trade me journal) where
  none_is_next : (h : Half) → h ≡ half trade me journal → None ≡ next_undecided h → undecided trade me journal ≡ []
  unfolding undecided
  none_is_next h e none =
      let now = half trade me journal
      in none_in (is_open now) (each_once same_pair (pairs_taken now.taken))
      (first_open now (plain_half trade me journal steps) ∙ sym (none ∙ ap next_undecided e))

  one_is_next : (h : Half) (pair : Pair) → h ≡ half trade me journal → Some pair ≡ next_undecided h
      → (pairs : List Pair) × (undecided trade me journal ≡ pair ∷ pairs)
  unfolding undecided
  one_is_next h pair e found =
      let now = half trade me journal
      in found_in (is_open now) (each_once same_pair (pairs_taken now.taken)) pair
      (first_open now (plain_half trade me journal steps) ∙ sym (found ∙ ap next_undecided e))

  -- what is found is the first of the undecided pairs
  pub is_next : (h : Half) (found : Option Pair) → h ≡ half trade me journal → found ≡ next_undecided h
      → IsFirstOf (undecided trade me journal) found
  is_next h None e found = none_is_next h e found
  is_next h (Some pair) e found = one_is_next h pair e found

-- what is to be done is the decision
pub shows_decision : (trade : Trade) (me moment : ℕ) (found : Bool) (journal : List Entry) (pair : Pair) (h : Half)
    → h ≡ half trade me journal
    → (received : Received)
    → received ≡ (let given : Received = record {
      entry = Some (entries.Decided moment pair.id pair.recipient (decision_on trade me h pair.recipient found));
      event = events.Decided pair.id pair.recipient (decision_on trade me h pair.recipient found);
      owed = None;
    } in given)
    → Shows received (decide_as trade me moment found journal pair)
unfolding decide
shows_decision trade me moment found journal pair h e received is =
    subst (λ (r : Received). Shows r (decide_as trade me moment found journal pair)) (sym is)
    (let same : decision_on trade me h pair.recipient found
    ≡ decision_on trade me (half trade me journal) pair.recipient found =
    ap (λ (x : Half). decision_on trade me x pair.recipient found) e
    in (
      ap (λ (x : Decision). Some (entries.Decided moment pair.id pair.recipient x)) same,
      ap (λ (x : Decision). events.Decided pair.id pair.recipient x) same,
      refl,
    ))
