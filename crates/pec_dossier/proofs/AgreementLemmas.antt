-- Where all that is attested is decided so, all that is attested of a pair is one decision.
use Rattle.std.proofs.Common.{◌≡◌, ℕ, List, [], ◌∷◌, Bool, true, false, not, filter, map, ◌⊎◌, inl, inr, refl, ap, sym, subst, ◌∙◌, cond, true≢false, None, Some}
use Rattle.std.specs.Prelude.{All}
use Rattle.std.specs.List.{list_all}
use Rattle.std.proofs.lemmas.List.Elements.{All-cons, All-filter, All-head, All-map, All-nil, All-tail, All-weaker}
use Rattle.std.proofs.lemmas.Option.{same_Some}
use Rattle.std.proofs.lemmas.Slice.Eq.{bytes_eq-Decides}
use Rattle.pec_types.specs.Words.{decision_word}
use Rattle.pec_types.specs.declared.messages.Decision.{Decision}
use Rattle.pec_ledger.specs.Half.{Fate}
use Rattle.pec_ledger.specs.Ledger.{IsDecidedSo, Journals, decided_in}
use Rattle.pec_ledger.specs.Pairs.{Pair, pair_of}
use Rattle.pec_ledger.specs.Trade.{Trade}
use Rattle.pec_check.specs.Findings.{Attested, agreed, decisions_on, each_once, finding_on, findings, is_decision, is_pair}
use Rattle.pec_check.specs.declared.pairs.PairKey.{PairKey}
use Rattle.pec_dossier.specs.Conflicts.{TellsTheDecision}
use Rattle.pec_dossier.proofs.PairLemmas.{pair_again, same_pairs}

-- ---- pairs that are attested

-- something is attested of the pair
abbrev Meets : PairKey → List Attested → Type 0
Meets pair [] = ⊥
Meets pair (one ∷ all) = (pair ≡ one.pair) ⊎ Meets pair all

each_met : (all : List Attested) → All (λ (pair : PairKey). Meets pair all) (map (λ (one : Attested). one.pair) all)
each_met [] = All-nil (λ (pair : PairKey). Meets pair [])
each_met (one ∷ all) =
    All-cons (λ (pair : PairKey). Meets pair (one ∷ all)) one.pair (map (λ (a : Attested). a.pair) all) (inl refl)
    (All-weaker (λ (pair : PairKey). Meets pair all) (λ (pair : PairKey). Meets pair (one ∷ all)) (λ pair met. inr met)
    (map (λ (a : Attested). a.pair) all) (each_met all))

once_all : (P : PairKey → Type 0) (pairs : List PairKey) → All P pairs → All P (each_once pairs)
once_all P [] all = All-nil P
once_all P (pair ∷ more) all =
    All-cons P pair (filter (λ (other : PairKey). not (is_pair pair other)) (each_once more)) (All-head P pair more all)
    (All-filter (λ (other : PairKey). not (is_pair pair other)) P (each_once more)
    (once_all P more (All-tail P pair more all)))

-- ---- decisions

again : (decision : Decision) → is_decision decision decision ≡ true
again decision = (bytes_eq-Decides (decision_word decision) (decision_word decision)).1 refl

-- decisions that are all this one agree on it
all_agree : (decision : Decision) (others : List Decision) → All (λ (other : Decision). other ≡ decision) others
    → list_all (is_decision decision) others ≡ true
all_agree decision [] all = refl
all_agree decision (other ∷ others) all =
    let same = All-head (λ (d : Decision). d ≡ decision) other others all
    in let first : is_decision decision other ≡ true =
    subst (λ (d : Decision). is_decision decision d ≡ true) (sym same) (again decision)
    in rw first (all_agree decision others (All-tail (λ (d : Decision). d ≡ decision) other others all))

agreed_so : (decision first : Decision) (others : List Decision)
    → All (λ (other : Decision). other ≡ decision) (first ∷ others) → agreed (first ∷ others) ≡ Some decision
agreed_so decision first others all =
    let same = All-head (λ (d : Decision). d ≡ decision) first others all
    in subst (λ (d : Decision). agreed (d ∷ others) ≡ Some decision) (sym same)
    (ap (λ (b : Bool). cond b (Some decision) None)
    (all_agree decision others (All-tail (λ (d : Decision). d ≡ decision) first others all)))

-- some decision is attested of a pair of which anything is
some_decision : (pair : PairKey) (all : List Attested) → Meets pair all
    → (first : Decision) × (others : List Decision) × (decisions_on pair all ≡ first ∷ others)
some_decision pair [] met = absurd met
some_decision pair (one ∷ all) met = by (is_pair pair one.pair) refl met (λ there. some_decision pair all there)
  where
    by : (b : Bool) → is_pair pair one.pair ≡ b → Meets pair (one ∷ all)
        → (Meets pair all → (first : Decision) × (others : List Decision) × (decisions_on pair all ≡ first ∷ others))
        → (first : Decision) × (others : List Decision) × (decisions_on pair (one ∷ all) ≡ first ∷ others)
    by true e met rest = (one.decision, decisions_on pair all, rw e refl)
    by false e (inl same) rest =
        absurd (true≢false (sym (subst (λ (q : PairKey). is_pair pair q ≡ true) same (pair_again pair)) ∙ e))
    by false e (inr there) rest =
        let found = rest there in (found.0, found.1, rw e found.2)

-- ---- in a ledger

module _ (trade : Trade) (journals : Journals) where
  abbrev named : PairKey → Pair
  named pair = pair_of pair.id pair.recipient

  -- what is attested is decided so
  pub record IsTold (one : Attested) : Type 0 where
    pub moment : ℕ
    pub decided : IsDecidedSo trade journals (named one.pair) one.decision moment

  -- the pair is decided
  record IsSettled (pair : PairKey) : Type 0 where
    pub fate : Fate
    pub decided : decided_in trade journals (named pair) ≡ Some fate

  settled : (pair : PairKey) (all : List Attested) → All IsTold all → Meets pair all → IsSettled pair
  settled pair [] told met = absurd met
  settled pair (one ∷ all) told (inl same) =
      let decided = (All-head IsTold one all told).decided
      in subst IsSettled (sym same) (record { fate = decided.fate; decided = decided.decided })
  settled pair (one ∷ all) told (inr there) = settled pair all (All-tail IsTold one all told) there

  -- all that is attested of a pair is what it is decided
  module _ (pair : PairKey) (is : IsSettled pair) where
    abbrev IsFate : Decision → Type 0
    IsFate decision = decision ≡ is.fate.decision

    one_fate : (one : Attested) → IsTold one → is_pair pair one.pair ≡ true → IsFate one.decision
    one_fate one told e =
        let same : pair ≡ one.pair = same_pairs pair one.pair e
        in let there = subst (λ (p : PairKey). decided_in trade journals (named p) ≡ Some is.fate) same is.decided
        in let fates = same_Some told.decided.fate is.fate (sym told.decided.decided ∙ there)
        in sym told.decided.so ∙ ap (λ (f : Fate). f.decision) fates

    all_fates : (all : List Attested) → All IsTold all → All IsFate (decisions_on pair all)
    all_fates [] told = All-nil IsFate
    all_fates (one ∷ all) told =
        by (is_pair pair one.pair) refl (all_fates all (All-tail IsTold one all told))
      where
        by : (b : Bool) → is_pair pair one.pair ≡ b → All IsFate (decisions_on pair all)
            → All IsFate (decisions_on pair (one ∷ all))
        by true e rest =
            rw e (All-cons IsFate one.decision (decisions_on pair all) (one_fate one (All-head IsTold one all told) e) rest)
        by false e rest = rw e rest

  found_so : (all : List Attested) → All IsTold all → (pair : PairKey) → Meets pair all
      → TellsTheDecision trade journals (finding_on pair (agreed (decisions_on pair all)))
  found_so all told pair met =
      let is = settled pair all told met
      in let some = some_decision pair all met
      in let fates = subst (λ (ds : List Decision). All (IsFate pair is) ds) some.2 (all_fates pair is all told)
      in record {
        decision = is.fate.decision;
        tells = ap agreed some.2 ∙ agreed_so is.fate.decision some.0 some.1 fates;
        moment = is.fate.moment;
        decided = record { fate = is.fate; decided = is.decided; so = refl; at = refl };
      }

  -- no finding is a conflict, and each tells the decision
  pub none_conflicts : (all : List Attested) → All IsTold all → All (TellsTheDecision trade journals) (findings all)
  unfolding findings
  none_conflicts all told =
      All-map (TellsTheDecision trade journals)
      (λ (pair : PairKey). finding_on pair (agreed (decisions_on pair all)))
      (each_once (map (λ (one : Attested). one.pair) all))
      (All-weaker (λ (pair : PairKey). Meets pair all)
      (λ (pair : PairKey). TellsTheDecision trade journals (finding_on pair (agreed (decisions_on pair all))))
      (found_so all told) (each_once (map (λ (one : Attested). one.pair) all))
      (once_all (λ (pair : PairKey). Meets pair all) (map (λ (one : Attested). one.pair) all) (each_met all)))
