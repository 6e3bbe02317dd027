-- The findings with one more attestation are those of all attestations: by `found`, which goes along the attestations once.
use Rattle.std.proofs.Common.{◌≡◌, List, [], ◌∷◌, ◌++◌, Bool, true, false, not, ◌&&◌, filter, map, Option, Some, None, refl, ap, sym, ◌∙◌, subst, cond, true≢false}
use Rattle.std.specs.List.{cons_option, filter_map, list_all}
use Rattle.std.proofs.lemmas.List.{append-nil, map-append}
use Rattle.std.proofs.lemmas.List.Elements.{filter-append, filter_map-append}
use Rattle.std.proofs.lemmas.List.Folds.{list_all-append}
use Rattle.pec_types.specs.Bytes.{Bytes}
use Rattle.pec_types.specs.declared.messages.Decision.{Decision}
use Rattle.pec_check.specs.Findings.{Attested, agreed, attested_by, attests, decision_told, decisions_on, each_once, finding_on, findings, findings_of, is_decision, is_pair, pair_in}
use Rattle.indexmap.specs.IndexMap.{insert_entry}
use Rattle.std.specs.Map.{lookup}
use Rattle.pec_check.specs.FindingsReading.{attested_at, joined, told_with, with_attested}
use Rattle.pec_check.specs.Views.{finding_shown}
use Rattle.pec_check.specs.declared.dossiers.Finding.{Finding}
use Rattle.pec_check.specs.declared.pairs.PairKey.{PairKey}
use Rattle.pec_check.specs.declared.reports.Report.{Report}
use Rattle.pec_check.proofs.PairLemmas.{pair_again, same_pairs, turned}

-- the findings on other pairs
abbrev others : PairKey → List Finding → List Finding
others pair fs = filter (λ (finding : Finding). not (is_pair pair (pair_in finding))) fs

-- the findings: one on the pair of the first attestation, by all that follow, and then those on other pairs
abbrev found : List Attested → List Finding
found [] = []
found (one ∷ more) = finding_on one.pair (agreed (one.decision ∷ decisions_on one.pair more)) ∷ others one.pair (found more)

-- ---- decisions

-- one more decision joins those that are there
more_agreed : (decision : Decision) (ds : List Decision) (more : Decision)
    → agreed (decision ∷ (ds ++ more ∷ [])) ≡ joined (agreed (decision ∷ ds)) more
more_agreed decision ds more =
    ap (λ (b : Bool). cond b (Some decision) None) (list_all-append (is_decision decision) ds (more ∷ []))
    ∙ by (list_all (is_decision decision) ds) (is_decision decision more) refl
  where
    by : (all one : Bool) → is_decision decision more ≡ one
        → cond (all && (one && true)) (Some decision) None ≡ joined (cond all (Some decision) None) more
    by false one e = refl
    by true true e = rw e refl
    by true false e = rw e refl

decisions_more : (pair : PairKey) (all : List Attested) (one : Attested)
    → decisions_on pair (all ++ one ∷ []) ≡ decisions_on pair all ++ decisions_on pair (one ∷ [])
decisions_more pair all one =
    ap (map (λ (a : Attested). a.decision)) (filter-append (λ (a : Attested). is_pair pair a.pair) all (one ∷ []))
    ∙ map-append (λ (a : Attested). a.decision) (filter (λ (a : Attested). is_pair pair a.pair) all) (filter (λ (a : Attested). is_pair pair a.pair) (one ∷ []))

-- ---- findings on other pairs

-- what is attested of a pair changes nothing on others
gone : (one : Attested) (fs : List Finding) → others one.pair (with_attested fs one) ≡ others one.pair fs
gone one [] = rw (pair_again one.pair) refl
gone one (f ∷ fs) = by (is_pair one.pair (pair_in f)) refl (gone one fs)
  where
    by : (b : Bool) → is_pair one.pair (pair_in f) ≡ b → others one.pair (with_attested fs one) ≡ others one.pair fs
        → others one.pair (with_attested (f ∷ fs) one) ≡ others one.pair (f ∷ fs)
    by true e rest = rw (e, e) refl
    by false e rest = rw (e, e) (ap (λ (xs : List Finding). f ∷ xs) rest)

-- and what is attested of another pair is among them
kept : (pair : PairKey) (one : Attested) (fs : List Finding) → is_pair pair one.pair ≡ false
    → others pair (with_attested fs one) ≡ with_attested (others pair fs) one
kept pair one [] other = rw other refl
kept pair one (f ∷ fs) other = by (is_pair one.pair (pair_in f)) (is_pair pair (pair_in f)) refl refl (kept pair one fs other)
  where
    by : (here there : Bool) → is_pair one.pair (pair_in f) ≡ here → is_pair pair (pair_in f) ≡ there
        → others pair (with_attested fs one) ≡ with_attested (others pair fs) one
        → others pair (with_attested (f ∷ fs) one) ≡ with_attested (others pair (f ∷ fs)) one
    by true true e g rest = absurd (true≢false (sym (subst (λ (q : PairKey). is_pair pair q ≡ true) (sym (same_pairs one.pair (pair_in f) e)) g) ∙ other))
    by true false e g rest = rw (e, g, e) refl
    by false true e g rest = rw (e, g) rest
    by false false e g rest = rw (e, g, e) (ap (λ (xs : List Finding). f ∷ xs) rest)

-- ---- the findings

found_more : (all : List Attested) (one : Attested) → found (all ++ one ∷ []) ≡ with_attested (found all) one
found_more [] one = refl
found_more (first ∷ all) one = by (is_pair first.pair one.pair) refl (found_more all one)
  where
    here : Option Decision
    here = agreed (first.decision ∷ decisions_on first.pair all)

    by : (b : Bool) → is_pair first.pair one.pair ≡ b → found (all ++ one ∷ []) ≡ with_attested (found all) one
        → found ((first ∷ all) ++ one ∷ []) ≡ with_attested (found (first ∷ all)) one
    by true e more =
        let told : decisions_on first.pair (all ++ one ∷ []) ≡ decisions_on first.pair all ++ one.decision ∷ [] =
        decisions_more first.pair all one ∙ ap (λ (b : Bool). decisions_on first.pair all ++ map (λ (a : Attested). a.decision) (cond b (one ∷ []) [])) e
        in let rest : others first.pair (found (all ++ one ∷ [])) ≡ others first.pair (found all) =
        ap (others first.pair) more
        ∙ subst (λ (q : PairKey). others q (with_attested (found all) one) ≡ others q (found all)) (sym (same_pairs first.pair one.pair e)) (gone one (found all))
        in ap (λ (ds : List Decision). finding_on first.pair (agreed (first.decision ∷ ds)) ∷ others first.pair (found (all ++ one ∷ []))) told
        ∙ ap (λ (fs : List Finding). finding_on first.pair (agreed (first.decision ∷ (decisions_on first.pair all ++ one.decision ∷ []))) ∷ fs) rest
        ∙ ap (λ (o : Option Decision). finding_on first.pair o ∷ others first.pair (found all)) (more_agreed first.decision (decisions_on first.pair all) one.decision)
        ∙ sym (ap (λ (b : Bool). cond b (finding_on first.pair (joined here one.decision) ∷ others first.pair (found all))
        (finding_on first.pair here ∷ with_attested (others first.pair (found all)) one)) (sym (turned first.pair one.pair) ∙ e))
    by false e more =
        let told : decisions_on first.pair (all ++ one ∷ []) ≡ decisions_on first.pair all =
        decisions_more first.pair all one ∙ ap (λ (b : Bool). decisions_on first.pair all ++ map (λ (a : Attested). a.decision) (cond b (one ∷ []) [])) e ∙ append-nil (decisions_on first.pair all)
        in let rest : others first.pair (found (all ++ one ∷ [])) ≡ with_attested (others first.pair (found all)) one =
        ap (others first.pair) more ∙ kept first.pair one (found all) e
        in ap (λ (ds : List Decision). finding_on first.pair (agreed (first.decision ∷ ds)) ∷ others first.pair (found (all ++ one ∷ []))) told
        ∙ ap (λ (fs : List Finding). finding_on first.pair here ∷ fs) rest
        ∙ sym (ap (λ (b : Bool). cond b (finding_on first.pair (joined here one.decision) ∷ others first.pair (found all))
        (finding_on first.pair here ∷ with_attested (others first.pair (found all)) one)) (sym (turned first.pair one.pair) ∙ e))

-- ---- the definition

-- the findings that stand in an order of pairs
abbrev on_all : List Attested → List PairKey → List Finding
on_all all pairs = map (λ (pair : PairKey). finding_on pair (agreed (decisions_on pair all))) pairs

-- what is attested of one pair isn't of the others
on_others : (one : Attested) (all : List Attested) (ps : List PairKey)
    → on_all (one ∷ all) (filter (λ (other : PairKey). not (is_pair one.pair other)) ps) ≡ others one.pair (on_all all ps)
on_others one all [] = refl
on_others one all (pair ∷ ps) = by (is_pair one.pair pair) refl (on_others one all ps)
  where
    by : (b : Bool) → is_pair one.pair pair ≡ b
        → on_all (one ∷ all) (filter (λ (other : PairKey). not (is_pair one.pair other)) ps) ≡ others one.pair (on_all all ps)
        → on_all (one ∷ all) (filter (λ (other : PairKey). not (is_pair one.pair other)) (pair ∷ ps)) ≡ others one.pair (on_all all (pair ∷ ps))
    by true e rest = rw e rest
    by false e rest = rw (e, turned pair one.pair ∙ e) (ap (λ (fs : List Finding). finding_on pair (agreed (decisions_on pair all)) ∷ fs) rest)

found_so : (all : List Attested) → findings all ≡ found all
unfolding findings
found_so [] = refl
found_so (one ∷ all) =
    ap (λ (b : Bool). finding_on one.pair (agreed (map (λ (a : Attested). a.decision) (cond b (one ∷ filter (λ (a : Attested). is_pair one.pair a.pair) all)
    (filter (λ (a : Attested). is_pair one.pair a.pair) all))))
    ∷ on_all (one ∷ all) (filter (λ (other : PairKey). not (is_pair one.pair other)) (each_once (map (λ (a : Attested). a.pair) all)))) (pair_again one.pair)
    ∙ ap (λ (fs : List Finding). finding_on one.pair (agreed (one.decision ∷ decisions_on one.pair all)) ∷ fs)
    (on_others one all (each_once (map (λ (a : Attested). a.pair) all)) ∙ ap (others one.pair) (found_so all))

pub one_more : (all : List Attested) (one : Attested) → findings (all ++ one ∷ []) ≡ with_attested (findings all) one
one_more all one =
    found_so (all ++ one ∷ []) ∙ found_more all one ∙ ap (λ (fs : List Finding). with_attested fs one) (sym (found_so all))

-- ---- the entries of a map

-- what a map's entries show is what they show with one more decision on a pair
pub noted : (eq : PairKey → PairKey → Bool) → ((a b : PairKey) → eq a b ≡ is_pair a b) → (es : List (PairKey × Option Decision)) (pair : PairKey) (decision : Decision)
    → map finding_shown (insert_entry eq es pair (told_with (lookup (eq pair) es) decision)) ≡ with_attested (map finding_shown es) (attested_at pair decision)
noted eq same [] pair decision = refl
noted eq same (e ∷ es) pair decision = by (eq pair e.0) refl (noted eq same es pair decision)
  where
    by : (b : Bool) → eq pair e.0 ≡ b
        → map finding_shown (insert_entry eq es pair (told_with (lookup (eq pair) es) decision)) ≡ with_attested (map finding_shown es) (attested_at pair decision)
        → map finding_shown (insert_entry eq (e ∷ es) pair (told_with (lookup (eq pair) (e ∷ es)) decision)) ≡ with_attested (map finding_shown (e ∷ es)) (attested_at pair decision)
    by true t rest = rw (t, sym (same pair e.0) ∙ t) refl
    by false t rest = rw (t, sym (same pair e.0) ∙ t) (ap (λ (fs : List Finding). finding_shown e ∷ fs) rest)

-- ---- reports

-- what attests nothing changes nothing
silent : (reports : List Report) (report : Report) → attested_by report ≡ None → findings_of (reports ++ report ∷ []) ≡ findings_of reports
silent reports report e =
    ap findings (filter_map-append attested_by reports (report ∷ [])
    ∙ ap (λ (o : Option Attested). filter_map attested_by reports ++ cons_option o []) e ∙ append-nil (filter_map attested_by reports))

-- a report that tells no decision
pub no_decision : (reports : List Report) (report : Report) (now : List Finding) → decision_told report.kind ≡ None
    → now ≡ findings_of reports → now ≡ findings_of (reports ++ report ∷ [])
unfolding attested_by
no_decision reports report now e is = is ∙ sym (silent reports report (ap (attests report.id report.recipient) e ∙ none report.recipient))
  where
    none : (recipient : Option Bytes) → attests report.id recipient None ≡ None
    none None = refl
    none (Some recipient) = refl

-- a report that names no recipient
pub no_recipient : (reports : List Report) (report : Report) (now : List Finding) → report.recipient ≡ None
    → now ≡ findings_of reports → now ≡ findings_of (reports ++ report ∷ [])
unfolding attested_by
no_recipient reports report now e is =
    is ∙ sym (silent reports report (ap (λ (r : Option Bytes). attests report.id r (decision_told report.kind)) e))

-- a report that attests something
pub told : (reports : List Report) (report : Report) (recipient : Bytes) (decision : Decision) (old now : List Finding)
    → report.recipient ≡ Some recipient → decision_told report.kind ≡ Some decision → old ≡ findings_of reports
    → now ≡ with_attested old (attested_at (record { id = report.id; recipient = recipient }) decision)
    → now ≡ findings_of (reports ++ report ∷ [])
unfolding attested_by
told reports report recipient decision old now r d was is =
    is ∙ ap (λ (fs : List Finding). with_attested fs one) was
    ∙ sym (ap findings (filter_map-append attested_by reports (report ∷ [])
    ∙ ap (λ (o : Option Attested). filter_map attested_by reports ++ cons_option o []) attests_one)
    ∙ one_more (filter_map attested_by reports) one)
  where
    one : Attested
    one = attested_at (record { id = report.id; recipient = recipient }) decision

    attests_one : attested_by report ≡ Some one
    attests_one = ap (λ (o : Option Bytes). attests report.id o (decision_told report.kind)) r ∙ ap (attests report.id (Some recipient)) d
