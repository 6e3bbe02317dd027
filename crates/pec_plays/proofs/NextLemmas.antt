-- When the first undecided pair is decided, the others are the undecided ones.
use Rattle.std.proofs.Common.{◌≡◌, ℕ, List, [], ◌∷◌, ◌++◌, Bool, true, false, not, ◌&&◌, cond, inl, inr, refl, ap, sym, subst, ◌∙◌, Option, Some, None}
use Rattle.std.specs.Prelude.{filter, is_none}
use Rattle.std.specs.List.{find}
use Rattle.std.specs.Option.{option_or}
use Rattle.std.proofs.lemmas.Bool.{cases_Bool, false≢true}
use Rattle.std.proofs.lemmas.List.{append-nil}
use Rattle.std.proofs.lemmas.List.Folds.{find-append}
use Rattle.pec_types.specs.declared.messages.Decision.{Decision}
use Rattle.pec_records.specs.declared.entries.Entry.{Entry}
use Rattle.pec_records.specs.declared.entries.Entry.TheVariants as entries
use Rattle.pec_ledger.specs.Along.{AllDiffer, StandsNotIn}
use Rattle.pec_ledger.specs.Half.{Fate, Half, Taken}
use Rattle.pec_ledger.specs.Lookups.{decided_of, taken_of}
use Rattle.pec_ledger.specs.Pairs.{Pair, same_pair}
use Rattle.pec_ledger.specs.Steps.{half, step}
use Rattle.pec_ledger.specs.Trade.{Trade}
use Rattle.pec_plays.specs.Decisions.{Looks, decide, decided_as, is_open, is_recipient_of, pairs_taken, undecided}
use Rattle.pec_plays.specs.Reception.{each_once}
use Rattle.pec_plays.specs.Steps.{journal_after}
use Rattle.pec_plays.proofs.ListLemmas.{once_differ, pair_again, same_pairs}
use Rattle.pec_plays.proofs.PlanLemmas.{half_one, open_by}

-- ---- a filter with one test more, where the items differ

abbrev More : (Pair → Bool) → (Pair → Bool) → Pair → Type 0
More p q pair = (other : Pair) → q other ≡ (p other && not (same_pair other pair))

other_pairs : (x pair : Pair) → (pair ≡ x → ⊥) → same_pair x pair ≡ false
other_pairs x pair n =
    elim (cases_Bool (same_pair x pair)) [
      | inl e ↦ absurd (n (sym (same_pairs x pair e)))
      | inr e ↦ e
    ]

and_true : (b : Bool) → (b && true) ≡ b
and_true true = refl
and_true false = refl

with_one : (b c : Bool) (x : Pair) (xs ys : List Pair) → b ≡ c → xs ≡ ys → cond b (x ∷ xs) xs ≡ cond c (x ∷ ys) ys
with_one b c x xs ys e f = rw (e, f) refl

-- where the pair isn't among them, both tests keep the same
same_kept : (p q : Pair → Bool) (pair : Pair) → More p q pair → (xs : List Pair) → StandsNotIn pair xs → filter q xs ≡ filter p xs
same_kept p q pair more [] n = refl
same_kept p q pair more (x ∷ xs) n =
    with_one (q x) (p x) x (filter q xs) (filter p xs)
    (more x ∙ ap (λ (b : Bool). p x && not b) (other_pairs x pair n.0) ∙ and_true (p x)) (same_kept p q pair more xs n.1)

abbrev head_of : Pair → List Pair → Pair
head_of other [] = other
head_of other (pair ∷ pairs) = pair

abbrev tail_of : List Pair → List Pair
tail_of [] = []
tail_of (pair ∷ pairs) = pairs

abbrev is_cons : List Pair → Bool
is_cons [] = false
is_cons (pair ∷ pairs) = true

and_false : (a : Bool) → (a && false) ≡ false
and_false true = refl
and_false false = refl

others_kept : (p q : Pair → Bool) (pair : Pair) → More p q pair → (all : List Pair) → AllDiffer all → (rest : List Pair) → filter p all ≡ pair ∷ rest
    → filter q all ≡ rest
others_kept p q pair more [] differ rest e = absurd (false≢true (ap is_cons e))
others_kept p q pair more (x ∷ xs) differ rest e = by_test (p x) refl e (others_kept p q pair more xs differ.1 rest)
  where
    dropped : q x ≡ false → filter q xs ≡ rest → cond (q x) (x ∷ filter q xs) (filter q xs) ≡ rest
    dropped t f = ap (λ (b : Bool). cond b (x ∷ filter q xs) (filter q xs)) t ∙ f

    by_test : (b : Bool) → p x ≡ b → cond b (x ∷ filter p xs) (filter p xs) ≡ pair ∷ rest → (filter p xs ≡ pair ∷ rest → filter q xs ≡ rest)
        → cond (q x) (x ∷ filter q xs) (filter q xs) ≡ rest
    by_test true t f later =
        let same : x ≡ pair = ap (head_of x) f
        in dropped
        (more x ∙ ap (λ (b : Bool). p x && not b) (subst (λ (z : Pair). same_pair x z ≡ true) same (pair_again x)) ∙ and_false (p x))
        (same_kept p q pair more xs (subst (λ (z : Pair). StandsNotIn z xs) same differ.0) ∙ ap tail_of f)
    by_test false t f later = dropped (more x ∙ ap (λ (b : Bool). b && not (same_pair x pair)) t) (later f)

-- ---- what is open behind a decision

none_by : {X : Type 0} (o : Option X) (b : Bool) (x : X) → is_none (option_or o (cond b (Some x) None)) ≡ (is_none o && not b)
none_by None true x = refl
none_by None false x = refl
none_by (Some y) true x = refl
none_by (Some y) false x = refl

regrouped : (a b c : Bool) → (a && (b && c)) ≡ ((a && b) && c)
regrouped true b c = refl
regrouped false b c = refl

module _ (trade : Trade) (p now : ℕ) where
  open_behind : (h : Half) (pair : Pair) (decision : Decision) (other : Pair)
      → is_open (step trade p h (entries.Decided now pair.id pair.recipient decision)) other ≡ (is_open h other && not (same_pair other pair))
  unfolding step
  open_behind h pair decision other =
      let fate : Fate = record { pair = pair; decision = decision; moment = now }
      in let test = λ (f : Fate). same_pair other f.pair
      in let recipient = is_recipient_of other.recipient (taken_of h other.id)
      in ap (λ (taken : List Taken). open_by taken (h.decided ++ fate ∷ []) other) (append-nil h.taken)
      ∙ ap (λ (found : Option Fate). recipient && is_none found) (find-append test h.decided (fate ∷ []))
      ∙ ap (λ (b : Bool). recipient && b) (none_by (find test h.decided) (same_pair other pair) fate)
      ∙ regrouped recipient (is_none (decided_of h other)) (not (same_pair other pair))

  undecided_behind : (h : Half) (pair : Pair) (decision : Decision) (pairs : List Pair)
      → filter (is_open h) (each_once same_pair (pairs_taken h.taken)) ≡ pair ∷ pairs
      → (let k = step trade p h (entries.Decided now pair.id pair.recipient decision) in filter (is_open k) (each_once same_pair (pairs_taken k.taken)) ≡ pairs)
  unfolding step
  undecided_behind h pair decision pairs e =
      let k = step trade p h (entries.Decided now pair.id pair.recipient decision)
      in ap (λ (taken : List Taken). filter (is_open k) (each_once same_pair (pairs_taken taken))) (append-nil h.taken)
      ∙ others_kept (is_open h) (is_open k) pair (open_behind h pair decision) (each_once same_pair (pairs_taken h.taken))
      (once_differ same_pair pair_again (pairs_taken h.taken)) pairs e

  pub next_undecided : (looks : Looks) (es : List Entry) (pair : Pair) (pairs : List Pair) → undecided trade p es ≡ pair ∷ pairs
      → undecided trade p (journal_after es (decide trade p now looks es pair)) ≡ pairs
  unfolding undecided decide
  next_undecided looks es pair pairs e =
      let decision = decided_as trade p looks es pair
      in ap (λ (h : Half). filter (is_open h) (each_once same_pair (pairs_taken h.taken))) (half_one trade p es (entries.Decided now pair.id pair.recipient decision))
      ∙ undecided_behind (half trade p es) pair decision pairs e
