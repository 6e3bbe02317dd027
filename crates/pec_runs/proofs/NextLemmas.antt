-- A next state is reached, and what is interrupted in it would meet its conditions.
use Rattle.std.proofs.Common.{◌≡◌, ℕ, ◌≤◌, List, [], ◌∷◌, ◌++◌, Bool, true, false, length, refl, ap, sym, subst, ◌∙◌, arith, Option, Some, None}
use Rattle.std.specs.Prelude.{fold}
use Rattle.std.proofs.lemmas.List.{append-nil, append_assoc, append_cancel_left, get_or_past, length-append, same_from_push}
use Rattle.pec_records.specs.declared.entries.Entry.{Entry}
use Rattle.pec_ledger.specs.Along.{AllAlong}
use Rattle.pec_ledger.specs.Half.{Half}
use Rattle.pec_ledger.specs.Ledger.{Follows, Journals, Meets}
use Rattle.pec_ledger.specs.Network.{IsNext, Site, chosen, empty_site, interrupted_at, journal_at, journals_of}
use Rattle.pec_ledger.specs.Steps.{half, step}
use Rattle.pec_ledger.specs.Trade.{Trade}
use Rattle.pec_runs.specs.Reaching.{IsReached}
use Rattle.pec_runs.proofs.StepLemmas.{GoOn, JointStays, half_more, reached_by}

-- ---- lists

along_append : {S X : Type 0} (next : S → X → S) (M : S → X → Type 0) (s : S) (xs ys : List X) → AllAlong next M s xs
    → AllAlong next M (fold next s xs) ys → AllAlong next M s (xs ++ ys)
along_append next M s [] ys a b = b
along_append next M s (x ∷ xs) ys a b = (a.0, along_append next M (next s x) xs ys a.1 b)

along_at : {S X : Type 0} (next : S → X → S) (M : S → X → Type 0) (s : S) (xs : List X) (x : X)
    → AllAlong next M s (xs ++ x ∷ []) → M (fold next s xs) x
along_at next M s [] x a = a.0
along_at next M s (y ∷ xs) x a = along_at next M (next s y) xs x a.1

-- a list is empty, or has a last item
pub data Ending (X : Type 0) (xs : List X) : Type 0 where
  Empty : xs ≡ [] → Ending X xs
  Last : (front : List X) (last : X) → xs ≡ front ++ last ∷ [] → Ending X xs

longer : {X : Type 0} (x : X) (xs : List X) → Ending X xs → Ending X (x ∷ xs)
longer x xs (Empty is) = Last [] x (ap (λ l. x ∷ l) is)
longer x xs (Last front last is) = Last (x ∷ front) last (ap (λ l. x ∷ l) is)

ending : {X : Type 0} (xs : List X) → Ending X xs
ending [] = Empty refl
ending (x ∷ xs) = longer x xs (ending xs)

-- one more item isn't none
one_more : {X : Type 0} (xs : List X) (x : X) → xs ++ x ∷ [] ≡ [] → ⊥
one_more xs x is = omega (arith, ap length is, length-append xs (x ∷ []))

-- ---- what is interrupted

-- Each entry whose append failed would meet its conditions.
abbrev pub WouldMeet : Trade → List Site → Type 0
WouldMeet trade sites =
    (p : ℕ) (e : Entry) → interrupted_at sites p ≡ Some e
    → Meets trade (journals_of sites) p (half trade p (journal_at sites p)) e

module _ (trade : Trade) (stays : JointStays trade) (old new : List Site) (next : IsNext trade old new) where
  abbrev J : Journals
  J = journals_of old

  abbrev K : Journals
  K = journals_of new

  -- what came of a journal: the interrupted entry or nothing, and then more
  abbrev came : ℕ → List Entry
  came p = chosen ((next.each p).journal false).choice (interrupted_at old p) ++ ((next.each p).journal false).further

  grown : (p : ℕ) → K p ≡ J p ++ came p
  grown p = sym (append-nil (K p)) ∙ ((next.each p).journal false).is

  pub goes_on : GoOn J K
  goes_on p = (came p, grown p)

  chosen_follows : WouldMeet trade old → (p : ℕ) (choice : Bool) (i : Option Entry) → interrupted_at old p ≡ i
      → Follows trade J p (half trade p (J p)) (chosen choice i)
  chosen_follows would p false i is = tt
  chosen_follows would p true None is = tt
  chosen_follows would p true (Some e) is = (would p e is, tt)

  pub gone : WouldMeet trade old → (p : ℕ)
      → (es : List Entry) × (K p ≡ J p ++ es) × Follows trade J p (half trade p (J p)) es
  gone would p =
      let f = (next.each p).journal false
      in let first = chosen f.choice (interrupted_at old p)
      in (
        came p,
        grown p,
        along_append (step trade p) (Meets trade J p) (half trade p (J p)) first f.further
            (chosen_follows would p f.choice (interrupted_at old p) refl)
            (subst (λ (h : Half). Follows trade J p h f.further) (half_more trade p (J p) first) f.follows),
      )

  past : (sites : List Site) (p : ℕ) → length sites ≤ p → journal_at sites p ≡ []
  past sites p l = ap (λ (site : Site). site.journal) (get_or_past sites p empty_site l)

  pub next_reached : WouldMeet trade old → IsReached trade J K
  next_reached would =
      reached_by trade stays J K (gone would) (length old)
      (λ q l. past new q (let e = next.count in omega (arith, e, l)) ∙ sym (past old q l))

  -- ---- what is interrupted then

  -- an entry that meets its conditions in the old ledger, behind the new journal
  meets_then : (p : ℕ) (es : List Entry) (e : Entry) → K p ≡ es → Meets trade J p (half trade p es) e
      → Meets trade K p (half trade p (K p)) e
  meets_then p es e is meets =
      let behind : Meets trade J p (half trade p (K p)) e = subst
      (λ (l : List Entry). Meets trade J p (half trade p l) e) (sym is) meets
      in record {
        own = behind.own;
        in_time = behind.in_time;
        in_range = behind.in_range;
        joint = stays J K goes_on p e behind.joint;
      }

  -- the last of further entries
  was_last : (p : ℕ) (choice : Bool) (front : List Entry) (last e : Entry)
      → K p ++ e ∷ [] ≡ J p ++ (chosen choice (interrupted_at old p) ++ (front ++ last ∷ []))
      → Follows trade J p (half trade p (J p ++ chosen choice (interrupted_at old p))) (front ++ last ∷ [])
      → Meets trade K p (half trade p (K p)) e
  was_last p choice front last e is follows =
      let first = chosen choice (interrupted_at old p)
      in let joined : J p ++ (first ++ (front ++ last ∷ [])) ≡ ((J p ++ first) ++ front) ++ last ∷ [] =
      sym (append_assoc (J p) first (front ++ last ∷ [])) ∙ sym (append_assoc (J p ++ first) front (last ∷ []))
      in let same = same_from_push (K p) ((J p ++ first) ++ front) e last (is ∙ joined)
      in let met = along_at (step trade p) (Meets trade J p) (half trade p (J p ++ first)) front last follows
      in let here : Meets trade J p (half trade p ((J p ++ first) ++ front)) last =
      subst (λ (h : Half). Meets trade J p h last) (sym (half_more trade p (J p ++ first) front)) met
      in meets_then p ((J p ++ first) ++ front) e same.0
      (subst (λ (x : Entry). Meets trade J p (half trade p ((J p ++ first) ++ front)) x) (sym same.1) here)

  -- nothing came but the entry that was interrupted before
  was_same : WouldMeet trade old → (p : ℕ) (choice : Bool) (i : Option Entry) (e : Entry) → interrupted_at old p ≡ i
      → came p ++ e ∷ [] ≡ chosen choice i → Meets trade K p (half trade p (K p)) e
  was_same would p false i e at is = absurd (one_more (came p) e is)
  was_same would p true None e at is = absurd (one_more (came p) e is)
  was_same would p true (Some x) e at is =
      let same = same_from_push (came p) [] e x is
      in meets_then p (J p) e (grown p ∙ (ap (λ (l : List Entry). J p ++ l) same.0 ∙ append-nil (J p)))
      (subst (λ (y : Entry). Meets trade J p (half trade p (J p)) y) (sym same.1) (would p x at))

  by_ending : WouldMeet trade old → (p : ℕ) (choice : Bool) (further : List Entry) (e : Entry)
      → K p ++ e ∷ [] ≡ J p ++ (chosen choice (interrupted_at old p) ++ further)
      → Follows trade J p (half trade p (J p ++ chosen choice (interrupted_at old p))) further → Ending Entry further
      → Meets trade K p (half trade p (K p)) e
  by_ending would p choice further e is follows (Empty none) =
      was_same would p choice (interrupted_at old p) e refl
      (append_cancel_left (J p) (came p ++ e ∷ []) (chosen choice (interrupted_at old p))
      (sym (append_assoc (J p) (came p) (e ∷ []))
      ∙ (ap (λ (l : List Entry). l ++ e ∷ []) (sym (grown p))
      ∙ (is ∙ ap (λ (l : List Entry). J p ++ l)
      (ap (λ (l : List Entry). chosen choice (interrupted_at old p) ++ l) none
      ∙ append-nil (chosen choice (interrupted_at old p)))))))
  by_ending would p choice further e is follows (Last front last some) =
      was_last p choice front last e
      (is ∙ ap (λ (l : List Entry). J p ++ (chosen choice (interrupted_at old p) ++ l)) some)
      (subst (λ (l : List Entry). Follows trade J p
      (half trade p (J p ++ chosen choice (interrupted_at old p))) l) some follows)

  pub would_meet : WouldMeet trade old → WouldMeet trade new
  would_meet would p e at =
      let f = (next.each p).journal true
      in by_ending would p f.choice f.further e
      (ap (λ (i : Option Entry). K p ++ chosen true i) (sym at) ∙ f.is) f.follows (ending f.further)
