-- What is found as one pair is decided, and what is found from then on.
use Rattle.std.proofs.Common.{◌≡◌, ◌⊎◌, inl, inr, ℕ, ◌+◌, ◌<◌, Bool, true, false, List, [], ◌∷◌, length, refl, ap, sym, ◌∙◌, arith}
use Rattle.std.specs.Prelude.{if◌then◌else◌, nat_lt}
use Rattle.std.specs.Option.{option_to_list}
use Rattle.std.proofs.lemmas.Bool.{le-ltb, lt-ltb}
use Rattle.std.proofs.lemmas.List.{length-append}
use Rattle.pec_records.specs.declared.entries.Entry.{Entry}
use Rattle.pec_ledger.specs.Pairs.{Pair}
use Rattle.pec_ledger.specs.Trade.{Trade}
use Rattle.pec_screen.specs.Verdicts.{Patterns}
use Rattle.pec_plays.specs.Decisions.{Looks, decide, found_in_taken, kept_looks, undecided}
use Rattle.pec_plays.specs.Steps.{Step, journal_after}
use Rattle.pec_plays.specs.Turns.{decisions, plan}
use Rattle.pec_provider.specs.Working.{IsFound, decide_as}

-- two tests say the same, or they don't
same_or_not : (one other : Bool) → (one ≡ other) ⊎ (one ≡ other → ⊥)
same_or_not true true = inl refl
same_or_not false false = inl refl
same_or_not true false = inr (λ e. absurd (cc))
same_or_not false true = inr (λ e. absurd (cc))

if_so : (test one other : Bool) → test ≡ true → (if test then one else other) ≡ one
if_so test one other e = rw e refl

if_not : (test one other : Bool) → test ≡ false → (if test then one else other) ≡ other
if_not test one other e = rw e refl

-- this is found while a journal has no more entries than so many, and from then on something else
abbrev pub finds_first : ℕ → Bool → Looks → Looks
finds_first size found ahead journal pair = if nat_lt size (length journal) then ahead journal pair else found

module _ (trade : Trade) (me now : ℕ) where
  -- a decision depends on what is found for its own pair alone
  decide_by : (looks others : Looks) (journal : List Entry) (pair : Pair) → looks journal pair ≡ others journal pair
      → decide trade me now looks journal pair ≡ decide trade me now others journal pair
  unfolding decide
  decide_by looks others journal pair same =
      ap (λ (found : Bool). decide trade me now (λ (entries : List Entry) (one : Pair). found) journal pair) same

  -- it adds an entry
  decide_adds : (looks : Looks) (journal : List Entry) (pair : Pair)
      → length (journal_after journal (decide trade me now looks journal pair)) ≡ length journal + 1
  unfolding decide
  decide_adds looks journal pair =
      length-append journal (option_to_list (decide trade me now looks journal pair).entry)

  decisions_by : (looks others : Looks) (size : ℕ)
      → ((journal : List Entry) (pair : Pair) → size < length journal → looks journal pair ≡ others journal pair)
      → (journal : List Entry) (pairs : List Pair) → size < length journal
      → decisions trade me now looks journal pairs ≡ decisions trade me now others journal pairs
  decisions_by looks others size same journal [] l = refl
  decisions_by looks others size same journal (pair ∷ pairs) l =
      let step = decide trade me now looks journal pair in
      let more = decide_adds looks journal pair in
      ap (λ (rest : List Step). step ∷ rest)
      (decisions_by looks others size same (journal_after journal step) pairs (omega (arith, l, more)))
      ∙ ap (λ (s : Step). s ∷ decisions trade me now others (journal_after journal s) pairs)
      (decide_by looks others journal pair (same journal pair l))

  -- the first undecided pair is the next step of a plan without frames
  abbrev pub PairsAreNext : Type 0
  PairsAreNext = (trade : Trade) (provider now : ℕ) (looks : Looks) (journal : List Entry) (pair : Pair)
      (pairs : List Pair)
      → undecided trade provider journal ≡ pair ∷ pairs
      → plan trade provider now looks journal []
      ≡ decide trade provider now looks journal pair
      ∷ plan trade provider now looks (journal_after journal (decide trade provider now looks journal pair)) []

  module _ (law : PairsAreNext) (found : Bool) (journal : List Entry) (pair : Pair) (pairs : List Pair)
      (next : undecided trade me journal ≡ pair ∷ pairs) where
    abbrev step : Step
    step = decide_as trade me now found journal pair

    -- the pair is decided as is found for it, and all later ones as is found from then on
    pub pair_step : (ahead : Looks)
        → plan trade me now (finds_first (length journal) found ahead) journal []
        ≡ step ∷ plan trade me now ahead (journal_after journal step) []
    pair_step ahead =
        let size = length journal in
        let looks = finds_first size found ahead in
        let here : looks journal pair ≡ found =
        if_not (nat_lt size (length journal)) (ahead journal pair) found (le-ltb size (length journal) (omega arith)) in
        let more = decide_adds (λ (entries : List Entry) (one : Pair). found) journal pair in
        law trade me now looks journal pair pairs next
        ∙ ap (λ (s : Step). s ∷ plan trade me now looks (journal_after journal s) [])
        (decide_by looks (λ (entries : List Entry) (one : Pair). found) journal pair here)
        ∙ ap (λ (rest : List Step). step ∷ rest)
        (decisions_by looks ahead size
        (λ later one l. if_so (nat_lt size (length later)) (ahead later one) found (lt-ltb size (length later) l))
        (journal_after journal step) (undecided trade me (journal_after journal step)) (omega (arith, more)))

    -- that is what screens find in what was taken, unless the disk gave back something else
    pub honest_step : (Stood : Type 0) (screens : List Patterns) → (Stood → IsFound trade me screens journal found)
        → (plan trade me now (kept_looks trade me screens) journal []
        ≡ step ∷ plan trade me now (kept_looks trade me screens) (journal_after journal step) []) ⊎ (Stood → ⊥)
    honest_step Stood screens finds =
        let kept = kept_looks trade me screens in
        let planned : (e : decide trade me now kept journal pair ≡ step)
        → plan trade me now kept journal [] ≡ step ∷ plan trade me now kept (journal_after journal step) [] = λ e.
        law trade me now kept journal pair pairs next
        ∙ ap (λ (s : Step). s ∷ plan trade me now kept (journal_after journal s) []) e in
        elim (same_or_not found (found_in_taken trade me screens journal pair.id)) [
          | inl same ↦ inl (planned
              (decide_by kept (λ (entries : List Entry) (one : Pair). found) journal pair (sym same)))
          | inr apart ↦ inr (λ stood. apart (finds stood pair pairs next))
        ]
