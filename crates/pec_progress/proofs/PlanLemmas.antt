-- A turn that is done whole handles each waiting frame, and behind it no taken pair is undecided.
use Rattle.std.proofs.Common.{◌≡◌, ℕ, zero, suc, ◌-◌, ◌≤◌, List, length, arith, [], ◌∷◌, ◌++◌, true, inl, inr, refl, ap, sym, subst, ◌∙◌}
use Rattle.std.specs.Prelude.{Contains, nat_lt, slice_index_or}
use Rattle.std.specs.Option.{option_to_list}
use Rattle.std.proofs.lemmas.Bool.{le-ltb}
use Rattle.std.proofs.lemmas.List.{append-nil, append_assoc, drop_all, length-append}
use Rattle.std.proofs.lemmas.List.Elements.{Contains-append_left, Contains-append_right}
use Rattle.pec_types.specs.Bytes.{Bytes}
use Rattle.pec_types.specs.declared.letters.Letter.{Letter}
use Rattle.pec_types.specs.declared.turns.ProviderFault.TheVariants as faults
use Rattle.pec_records.specs.declared.entries.Entry.{Entry}
use Rattle.pec_ledger.specs.Along.{GoesOnAs}
use Rattle.pec_ledger.specs.Network.{Site}
use Rattle.pec_ledger.specs.Pairs.{Pair}
use Rattle.pec_ledger.specs.Trade.{Trade}
use Rattle.pec_plays.specs.Decisions.{Looks, decide, undecided}
use Rattle.pec_plays.specs.Reception.{arrive}
use Rattle.pec_plays.specs.Steps.{Step, journal_after}
use Rattle.pec_plays.specs.Turns.{Cut, Whole, cut_turn, decisions, entries_of, frames_in, last_of, not_begun, owed_of, plan, steps_of, turned, without_first}
use Rattle.pec_progress.proofs.ListLemmas.{contains_cases, contains_none, if_false, if_true, itself, on_through}

module _ (trade : Trade) (p now : ℕ) (looks : Looks) where
  abbrev pub behind_plan : List Entry → List Bytes → List Entry
  behind_plan es frames = es ++ entries_of (plan trade p now looks es frames)

  -- a frame is received in some journal between the two, and what is owed for it is among these letters
  pub record Handles (es fs : List Entry) (all : List Letter) (frame : Bytes) : Type 0 where
    pub before : List Entry
    pub from : GoesOnAs es before
    pub to : GoesOnAs (journal_after before (arrive trade p now before frame)) fs
    pub owed : (letter : Letter) → Contains (arrive trade p now before frame).owed letter → Contains all letter

  behind_all : (es : List Entry) (s : Step) (rest : List Step) → (journal_after es s ++ entries_of rest) ≡ es ++ entries_of (s ∷ rest)
  behind_all es s rest = append_assoc es (option_to_list s.entry) (entries_of rest)

  pub plan_handles : (frames : List Bytes) (es : List Entry) (frame : Bytes) → Contains frames frame
      → Handles es (behind_plan es frames) (owed_of (plan trade p now looks es frames)) frame
  plan_handles [] es frame c = absurd (contains_none frame c)
  plan_handles (first ∷ frames) es frame c =
      let s = arrive trade p now es first
      in let rest = plan trade p now looks (journal_after es s) frames
      in elim (contains_cases first frames frame c) [
        | inl same ↦ record {
          before = es;
          from = itself es;
          to = (
            entries_of rest,
            subst (λ (f : Bytes). es ++ entries_of (s ∷ rest) ≡ journal_after es (arrive trade p now es f) ++ entries_of rest) same (sym (behind_all es s rest)),
          );
          owed = λ letter c. Contains-append_left s.owed (owed_of rest) letter
              (subst (λ (f : Bytes). Contains (arrive trade p now es f).owed letter) (sym same) c);
        }
        | inr there ↦
            let is = plan_handles frames (journal_after es s) frame there
            in record {
              before = is.before;
              from = on_through es (journal_after es s) is.before (option_to_list s.entry, refl) is.from;
              to = subst (λ (fs : List Entry). GoesOnAs (journal_after is.before (arrive trade p now is.before frame)) fs) (behind_all es s rest) is.to;
              owed = λ letter c. Contains-append_right s.owed (owed_of rest) letter (is.owed letter c);
            }
      ]

  module _ (left : (es : List Entry) (pair : Pair) (pairs : List Pair) → undecided trade p es ≡ pair ∷ pairs
      → undecided trade p (journal_after es (decide trade p now looks es pair)) ≡ pairs) where
    all_decided : (pairs : List Pair) (es : List Entry) → undecided trade p es ≡ pairs
        → undecided trade p (es ++ entries_of (decisions trade p now looks es pairs)) ≡ []
    all_decided [] es e = ap (undecided trade p) (append-nil es) ∙ e
    all_decided (pair ∷ pairs) es e =
        let s = decide trade p now looks es pair
        in ap (undecided trade p) (sym (behind_all es s (decisions trade p now looks (journal_after es s) pairs)))
        ∙ all_decided pairs (journal_after es s) (left es pair pairs e)

    pub plan_decides : (frames : List Bytes) (es : List Entry) → undecided trade p (behind_plan es frames) ≡ []
    plan_decides [] es = all_decided (undecided trade p es) es refl
    plan_decides (frame ∷ frames) es =
        let s = arrive trade p now es frame
        in ap (undecided trade p) (sym (behind_all es s (plan trade p now looks (journal_after es s) frames))) ∙ plan_decides frames (journal_after es s)

-- a turn that is done whole
pub turn_is : (trade : Trade) (p now : ℕ) (rooms : ℕ → ℕ) (cut : Cut) (site : Site) → site.up ≡ true → last_of trade p site.journal ≤ now → cut ≡ Whole
    → turned trade p now rooms cut site ≡ cut_turn trade p rooms site (steps_of trade p now site Whole) Whole
unfolding turned
turn_is trade p now rooms cut site up time whole =
    if_true site.up _ (not_begun site faults.Down) up
    ∙ if_false (nat_lt now (last_of trade p site.journal)) (not_begun site (faults.ClockBack (last_of trade p site.journal))) _ (le-ltb now (last_of trade p site.journal) time)
    ∙ ap (λ (c : Cut). cut_turn trade p rooms site (steps_of trade p now site c) c) whole

-- ---- what is left on links

-- where as many frames were taken as waited, none is left
pub none_left : (links : List (List Bytes)) (n k : ℕ) → length (frames_in links) ≤ n → slice_index_or (without_first n links) k [] ≡ []
none_left [] n k l = refl
none_left (link ∷ links) n zero l = drop_all n link (let e = length-append link (frames_in links) in omega (arith, l, e))
none_left (link ∷ links) n (suc k) l =
    none_left links (n - length link) k (let e = length-append link (frames_in links) in omega (arith, l, e))
