-- What a clock call marks, exactly: each pair of an accepted message to whose sender something is due, and nothing else.
use Rattle.std.proofs.Common.{◌≡◌, ℕ, zero, suc, ◌+◌, List, [], ◌∷◌, inl, inr, refl, ap, sym, subst, ◌∙◌, arith, Option, Some, None}
use Rattle.std.specs.Prelude.{Contains, is_some, slice_get}
use Rattle.std.specs.List.{filter_map, cons_option}
use Rattle.std.proofs.lemmas.List.Elements.{Contains-append_left, Contains-append_right, Contains-append_cases}
use Rattle.std.proofs.lemmas.Option.{none-some, same_Some}
use Rattle.pec_types.specs.Bytes.{Bytes}
use Rattle.pec_types.specs.Message.{Id}
use Rattle.pec_ledger.specs.Half.{Half, Mark, Message}
use Rattle.pec_ledger.specs.Lookups.{Accepted, HasPair, accepted_of, addresses_of, certified}
use Rattle.pec_types.specs.LimitsReading.{due_of}
use Rattle.pec_types.specs.declared.limits.Due.{Due}
use Rattle.pec_types.specs.declared.limits.Due.TheVariants as dues
use Rattle.pec_ledger.specs.Marks.{clocked, mark_for, marked, marks_from, marks_of, pairs_of}
use Rattle.pec_ledger.specs.Pairs.{Pair, id_of, pair_of}
use Rattle.pec_ledger.specs.Trade.{Trade}
use Rattle.pec_ledger.proofs.ListLemmas.{contains_here, contains_none, contains_there, contains_cases, from_filter, from_map, into_filter, into_filter_map, into_map}

-- ---- what `filter_map` gives

opened_cases : {X Y : Type 0} (f : X → Option Y) (x : X) (xs : List X) (y : Y) (o : Option Y) → f x ≡ o
    → (Contains (filter_map f xs) y → (z : X) × Contains xs z × (f z ≡ Some y))
    → Contains (cons_option o (filter_map f xs)) y → (z : X) × Contains (x ∷ xs) z × (f z ≡ Some y)
opened_cases f x xs y None e more c = let there = more c in (there.0, contains_there x xs there.0 there.1, there.2)
opened_cases f x xs y (Some w) e more c =
    elim (contains_cases w (filter_map f xs) y c) [
      | inl same ↦ (x, contains_here x xs, e ∙ ap (λ v. Some v) same)
      | inr later ↦ let there = more later in (there.0, contains_there x xs there.0 there.1, there.2)
    ]

pub from_filter_map : {X Y : Type 0} (f : X → Option Y) (xs : List X) (y : Y) → Contains (filter_map f xs) y → (x : X) × Contains xs x × (f x ≡ Some y)
from_filter_map f [] y c = absurd (contains_none y c)
from_filter_map f (x ∷ xs) y c = opened_cases f x xs y (f x) refl (from_filter_map f xs y) c

-- ---- pairs

module _ (trade : Trade) where
  is_pair : (id : Id) (m : Accepted) (pair : Pair) → Contains (pairs_of trade id m) pair → (pair.id ≡ id) × HasPair trade m pair.recipient
  is_pair id m pair c =
      let from = from_map (pair_of id) (certified trade (addresses_of m.facts)) pair c
      in let kept = from_filter (λ (address : Bytes). is_some (trade.home address)) (addresses_of m.facts) from.0 from.1
      in (ap (λ (q : Pair). q.id) (sym from.2), subst (λ (q : Pair). HasPair trade m q.recipient) from.2 kept)

  pub has_pair : (id : Id) (m : Accepted) (recipient : Bytes) → HasPair trade m recipient → Contains (pairs_of trade id m) (pair_of id recipient)
  has_pair id m recipient has =
      into_map (pair_of id) (certified trade (addresses_of m.facts)) recipient
      (into_filter (λ (address : Bytes). is_some (trade.home address)) (addresses_of m.facts) recipient has.0 has.1)

  -- ---- marks

  -- Where a mark comes from: the message of a number, one of its pairs, and what is due to its sender.
  pub record Marked (p : ℕ) (h : Half) (now number : ℕ) (messages : List Message) (mark : Mark) : Type 0 where
    pub place : ℕ
    pub row : Message
    pub there : slice_get messages place ≡ Some row
    pub message : Accepted
    pub accepted : accepted_of row ≡ Some message
    pub recipient : Bytes
    pub has : HasPair trade message recipient
    pub due : mark_for trade h now message.moment (pair_of (id_of p (number + place)) recipient) ≡ Some mark

  one_later : (number place : ℕ) → (number + 1) + place ≡ number + suc place
  one_later number place = omega arith

  marked_later : (p : ℕ) (h : Half) (now number : ℕ) (m : Message) (ms : List Message) (mark : Mark)
      → Marked p h now (number + 1) ms mark → Marked p h now number (m ∷ ms) mark
  marked_later p h now number m ms mark is = record {
    place = suc is.place;
    row = is.row;
    there = is.there;
    message = is.message;
    accepted = is.accepted;
    recipient = is.recipient;
    has = is.has;
    due = subst (λ (k : ℕ). mark_for trade h now is.message.moment (pair_of (id_of p k) is.recipient) ≡ Some mark) (one_later number is.place) is.due;
  }

  pair_again : (id : Id) (pair : Pair) → pair.id ≡ id → pair ≡ pair_of id pair.recipient
  pair_again id pair e = ap (λ (i : Id). pair_of i pair.recipient) e

  marked_here : (p : ℕ) (h : Half) (now number : ℕ) (m : Message) (ms : List Message) (mark : Mark) (found : Option Accepted)
      → accepted_of m ≡ found → Contains (marks_of trade h now (id_of p number) found) mark → Marked p h now number (m ∷ ms) mark
  marked_here p h now number m ms mark None e c = absurd (contains_none mark c)
  marked_here p h now number m ms mark (Some message) e c =
      let from = from_filter_map (mark_for trade h now message.moment) (pairs_of trade (id_of p number) message) mark c
      in let of = is_pair (id_of p number) message from.0 from.1
      in let same : from.0 ≡ pair_of (id_of p (number + 0)) from.0.recipient =
      pair_again (id_of p number) from.0 of.0 ∙ ap (λ (k : ℕ). pair_of (id_of p k) from.0.recipient) (let z : number ≡ number + 0 = omega arith in z)
      in record {
        place = 0;
        row = m;
        there = refl;
        message = message;
        accepted = e;
        recipient = from.0.recipient;
        has = of.1;
        due = ap (mark_for trade h now message.moment) (sym same) ∙ from.2;
      }

  pub marked_from : (p : ℕ) (h : Half) (now number : ℕ) (ms : List Message) (mark : Mark)
      → Contains (marks_from trade p h now number ms) mark → Marked p h now number ms mark
  marked_from p h now number [] mark c = absurd (contains_none mark c)
  marked_from p h now number (m ∷ ms) mark c =
      elim (Contains-append_cases (marks_of trade h now (id_of p number) (accepted_of m)) (marks_from trade p h now (number + 1) ms) mark c) [
        | inl here ↦ marked_here p h now number m ms mark (accepted_of m) refl here
        | inr later ↦ marked_later p h now number m ms mark (marked_from p h now (number + 1) ms mark later)
      ]

  marks_here : (p : ℕ) (h : Half) (now number : ℕ) (message : Accepted) (recipient : Bytes) (mark : Mark) (found : Option Accepted)
      → found ≡ Some message → HasPair trade message recipient
      → mark_for trade h now message.moment (pair_of (id_of p number) recipient) ≡ Some mark
      → Contains (marks_of trade h now (id_of p number) found) mark
  marks_here p h now number message recipient mark found e has due =
      subst (λ (o : Option Accepted). Contains (marks_of trade h now (id_of p number) o) mark) (sym e)
      (into_filter_map (mark_for trade h now message.moment) (pairs_of trade (id_of p number) message) (pair_of (id_of p number) recipient) mark
      (has_pair (id_of p number) message recipient has) due)

  pub marks_hold : (p : ℕ) (h : Half) (now number : ℕ) (ms : List Message) (place : ℕ) (row : Message) (message : Accepted) (recipient : Bytes) (mark : Mark)
      → slice_get ms place ≡ Some row → accepted_of row ≡ Some message → HasPair trade message recipient
      → mark_for trade h now message.moment (pair_of (id_of p (number + place)) recipient) ≡ Some mark
      → Contains (marks_from trade p h now number ms) mark
  marks_hold p h now number [] place row message recipient mark there accepted has due = absurd (none-some row there)
  marks_hold p h now number (m ∷ ms) zero row message recipient mark there accepted has due =
      Contains-append_left (marks_of trade h now (id_of p number) (accepted_of m)) (marks_from trade p h now (number + 1) ms) mark
      (marks_here p h now number message recipient mark (accepted_of m)
      (ap accepted_of (same_Some m row there) ∙ accepted) has
      (subst (λ (k : ℕ). mark_for trade h now message.moment (pair_of (id_of p k) recipient) ≡ Some mark) (let z : number + 0 ≡ number = omega arith in z) due))
  marks_hold p h now number (m ∷ ms) (suc place) row message recipient mark there accepted has due =
      Contains-append_right (marks_of trade h now (id_of p number) (accepted_of m)) (marks_from trade p h now (number + 1) ms) mark
      (marks_hold p h now (number + 1) ms place row message recipient mark there accepted has
      (subst (λ (k : ℕ). mark_for trade h now message.moment (pair_of (id_of p k) recipient) ≡ Some mark) (sym (one_later number place)) due))

  -- what a mark is of
  pub mark_is : (h : Half) (now accepted : ℕ) (pair : Pair) (mark : Mark) → mark_for trade h now accepted pair ≡ Some mark → mark.pair ≡ pair
  mark_is h now accepted pair mark e = of_due (due_of (clocked trade h now accepted pair)) e
    where
      of_due : (due : Due) → marked pair now due ≡ Some mark → mark.pair ≡ pair
      of_due dues.Nothing e = absurd (none-some mark e)
      of_due dues.Warning e = ap (λ (m : Mark). m.pair) (sym (same_Some _ mark e))
      of_due dues.Notice e = ap (λ (m : Mark). m.pair) (sym (same_Some _ mark e))
      of_due dues.LateNotice e = ap (λ (m : Mark). m.pair) (sym (same_Some _ mark e))
