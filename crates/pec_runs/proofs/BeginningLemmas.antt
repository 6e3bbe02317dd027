-- The state at the beginning of a script is Sound where its journals fit.
use Rattle.std.proofs.Common.{◌≡◌, ℕ, zero, suc, ◌+◌, ◌<◌, List, [], ◌∷◌, ◌++◌, Bool, true, false, ◌⊎◌, inl, inr, length, replicate, refl, ap, sym, subst, ◌∙◌, arith, Option, Some, None}
use Rattle.std.specs.Prelude.{IsSome, slice_get, slice_index_or}
use Rattle.std.specs.Option.{option_to_list}
use Rattle.std.proofs.lemmas.Bool.{cases_lt}
use Rattle.std.proofs.lemmas.List.{append-nil, get_or-replicate, get_or_past, length-replicate}
use Rattle.std.proofs.lemmas.List.Elements.{All-nil}
use Rattle.pec_types.specs.Bytes.{Bytes}
use Rattle.pec_records.specs.declared.entries.Entry.{Entry}
use Rattle.pec_records.specs.declared.entries.Entry.TheVariants as entries
use Rattle.pec_ledger.specs.Along.{AllAlong}
use Rattle.pec_ledger.specs.Half.{empty}
use Rattle.pec_ledger.specs.Ledger.{Begins, Fit, Follows, Journals, Meets}
use Rattle.pec_ledger.specs.Network.{AreGenuine, IsGenuine, Site, Sound, at_start, chosen, empty_site, interrupted_at, journal_at, journals_in, journals_of, site_at, started, started_from, with_choice}
use Rattle.pec_ledger.specs.Steps.{step}
use Rattle.pec_ledger.specs.Trade.{Trade}
use Rattle.pec_plays.specs.Possible.{NoneInterrupted}
use Rattle.pec_screen.specs.Verdicts.{Patterns}
use Rattle.pec_runs.specs.Openings.{opened, opened_all}
use Rattle.pec_runs.proofs.StepLemmas.{JointStays, alike_on}

-- ---- journals that are alike fit alike

along_weaker : {S X : Type 0} (next : S → X → S) (M N : S → X → Type 0) → ((s : S) (x : X) → M s x → N s x)
    → (s : S) (xs : List X)
    → AllAlong next M s xs → AllAlong next N s xs
along_weaker next M N w s [] a = tt
along_weaker next M N w s (x ∷ xs) a = (w s x a.0, along_weaker next M N w (next s x) xs a.1)

module _ (trade : Trade) (stays : JointStays trade) where
  pub fit_alike : (J K : Journals) → ((p : ℕ) → J p ≡ K p) → Fit trade J → Fit trade K
  fit_alike J K same fit = record {
    begins = λ p l. subst Begins (same p) (fit.begins p l);
    follows = λ p.
        subst (λ (es : List Entry). Follows trade K p empty es) (same p)
        (along_weaker (step trade p) (Meets trade J p) (Meets trade K p)
        (λ h e meets. record {
          own = meets.own;
          in_time = meets.in_time;
          in_range = meets.in_range;
          joint = stays J K (alike_on trade stays J K same) p e meets.joint;
        })
        empty (J p) (fit.follows p));
  }

-- ---- journals as they are opened

module _ (trade : Trade) where
  pub opened_count : (screens : List (List Patterns)) (journals : List (List Entry))
      → length (opened_all trade screens journals) ≡ length journals
  opened_count [] [] = refl
  opened_count (boxes ∷ screens) [] = refl
  opened_count [] (journal ∷ journals) = ap suc (opened_count [] journals)
  opened_count (boxes ∷ screens) (journal ∷ journals) = ap suc (opened_count screens journals)

  -- a provider past the lists has no screens
  no_boxes : (p : ℕ) → slice_index_or (let none : List (List Patterns) = [] in none) p [] ≡ []
  no_boxes p = get_or_past [] p [] (omega arith)

  opened_at : (screens : List (List Patterns)) (journals : List (List Entry)) (p : ℕ) → p < length journals
      → site_at (opened_all trade screens journals) p
      ≡ opened trade (slice_index_or screens p []) (slice_index_or journals p [])
  opened_at [] [] p within = absurd (omega (arith, within))
  opened_at (boxes ∷ screens) [] p within = absurd (omega (arith, within))
  opened_at [] (journal ∷ journals) zero within =
      ap (λ (none : List Patterns). opened trade none journal) (sym (no_boxes zero))
  opened_at (boxes ∷ screens) (journal ∷ journals) zero within = refl
  opened_at [] (journal ∷ journals) (suc p) within =
      opened_at [] journals p (omega (arith, within))
      ∙ ap (λ (none : List Patterns). opened trade none (slice_index_or journals p [])) (no_boxes p ∙ sym (no_boxes (suc p)))
  opened_at (boxes ∷ screens) (journal ∷ journals) (suc p) within = opened_at screens journals p (omega (arith, within))

module _ (trade : Trade) (screens : List (List Patterns)) (journals : List (List Entry)) where
  -- what stands at a number: a provider as it is opened, or nothing
  abbrev IsOpened : ℕ → Site → Type 0
  IsOpened p site = (site ≡ opened trade (slice_index_or screens p []) (slice_index_or journals p []))
      ⊎ ((site ≡ empty_site) × (slice_index_or journals p [] ≡ []))

  opened_or_none : (p : ℕ) → IsOpened p (site_at (opened_all trade screens journals) p)
  opened_or_none p =
      elim (cases_lt p (length journals)) [
        | inl l ↦ inl (opened_at trade screens journals p l)
        | inr l ↦ inr (
          get_or_past (opened_all trade screens journals) p empty_site
              (let e = opened_count trade screens journals in omega (arith, e, l)),
          get_or_past journals p [] l,
        )
      ]

  journal_is : (p : ℕ) (site : Site) → IsOpened p site → site.journal ≡ slice_index_or journals p []
  journal_is p site (inl e) = ap (λ (s : Site). s.journal) e
  journal_is p site (inr e) = ap (λ (s : Site). s.journal) e.0 ∙ sym e.1

  pub journal_opened : (p : ℕ) → journal_at (opened_all trade screens journals) p ≡ slice_index_or journals p []
  journal_opened p = journal_is p (site_at (opened_all trade screens journals) p) (opened_or_none p)

  none_at : (p : ℕ) (site : Site) → IsOpened p site → site.interrupted ≡ None
  none_at p site (inl e) = ap (λ (s : Site). s.interrupted) e
  none_at p site (inr e) = ap (λ (s : Site). s.interrupted) e.0

  pub none_interrupted : NoneInterrupted (opened_all trade screens journals)
  none_interrupted p = none_at p (site_at (opened_all trade screens journals) p) (opened_or_none p)

  no_links : (n k : ℕ) → slice_index_or (replicate n (let none : List Bytes = [] in none)) k [] ≡ []
  no_links n k =
      elim (cases_lt k n) [
        | inl l ↦ get_or-replicate n k [] [] l
        | inr l ↦ get_or_past (replicate n []) k []
            (let e = length-replicate n (let none : List Bytes = [] in none) in omega (arith, e, l))
      ]

  nothing_waits : (from p : ℕ) (site : Site) → IsOpened p site → slice_index_or site.waiting from [] ≡ []
  nothing_waits from p site (inl e) = ap (λ (s : Site). slice_index_or s.waiting from []) e
      ∙ no_links trade.providers from
  nothing_waits from p site (inr e) = ap (λ (s : Site). slice_index_or s.waiting from []) e.0

  none_chosen : (choice : Bool) (i : Option Entry) → i ≡ None → chosen choice i ≡ []
  none_chosen true i e = ap option_to_list e
  none_chosen false i e = refl

  nothing_is_down : {X : Type 0} (o : Option X) → o ≡ None → IsSome o → ⊥
  nothing_is_down None e h = cc
  nothing_is_down (Some x) e h = cc

  pub sound_opened : JointStays trade → length journals ≡ trade.providers → Fit trade (journals_in journals)
      → Sound trade (opened_all trade screens journals)
  sound_opened stays count fit =
      let sites = opened_all trade screens journals
      in record {
        count = opened_count trade screens journals ∙ count;
        fit = fit_alike trade stays (journals_in journals) (journals_of sites) (λ p. sym (journal_opened p)) fit;
        any_choice = λ choice. fit_alike trade stays (journals_in journals) (with_choice sites choice)
            (λ p. sym (ap (λ (l : List Entry). journal_at sites p ++ l)
            (none_chosen (choice p) (interrupted_at sites p) (none_interrupted p))
            ∙ (append-nil (journal_at sites p) ∙ journal_opened p)))
            fit;
        down = λ p some. absurd (nothing_is_down (interrupted_at sites p) (none_interrupted p) some);
        genuine = λ from to. subst (AreGenuine trade (journals_of sites))
            (sym (nothing_waits from to (site_at sites to) (opened_or_none to)))
            (All-nil (IsGenuine trade (journals_of sites)));
      }

-- ---- journals that were made

-- a journal that was made is of version 2
module _ (trade : Trade) where
  abbrev AreMade : ℕ → List (List Entry) → Type 0
  AreMade number journals = (k : ℕ) (journal : List Entry) → slice_get journals k ≡ Some journal
      → journal ≡ entries.StartTwo (number + k) trade.digest ∷ []

  first_made : (number : ℕ) (journal : List Entry) (journals : List (List Entry)) → AreMade number (journal ∷ journals)
      → journal ≡ entries.StartTwo number trade.digest ∷ []
  first_made number journal journals each =
      each 0 journal refl ∙ ap (λ (n : ℕ). entries.StartTwo n trade.digest ∷ [])
      (let z : number + 0 ≡ number = omega arith in z)

  others_made : (number : ℕ) (journal : List Entry) (journals : List (List Entry)) → AreMade number (journal ∷ journals)
      → AreMade (number + 1) journals
  others_made number journal journals each k j e =
      each (suc k) j e ∙ ap (λ (n : ℕ). entries.StartTwo n trade.digest ∷ [])
      (let z : number + suc k ≡ (number + 1) + k = omega arith in z)

  made_so : (number : ℕ) (all : ℕ → List Patterns) (boxes : List Patterns) (journal : List Entry) (sites others : List Site)
      → journal ≡ entries.StartTwo number trade.digest ∷ [] → all number ≡ boxes → sites ≡ others
      → opened trade boxes journal ∷ sites ≡ started trade all number ∷ others
  made_so number all boxes journal sites others first here behind =
      ap (λ (j : List Entry). opened trade boxes j ∷ sites) first
      ∙ ap (λ (b : List Patterns). opened trade b (entries.StartTwo number trade.digest ∷ []) ∷ sites) (sym here)
      ∙ ap (λ (l : List Site). started trade all number ∷ l) behind

  -- these are the screens from a number on
  abbrev AreFrom : (ℕ → List Patterns) → ℕ → List (List Patterns) → Type 0
  AreFrom all number screens = (k : ℕ) → all (number + k) ≡ slice_index_or screens k []

  here_from : (all : ℕ → List Patterns) (number : ℕ) (screens : List (List Patterns)) → AreFrom all number screens
      → all number ≡ slice_index_or screens 0 []
  here_from all number screens from = ap all (let z : number ≡ number + 0 = omega arith in z) ∙ from 0

  next_from : (all : ℕ → List Patterns) (number k : ℕ) → all ((number + 1) + k) ≡ all (number + suc k)
  next_from all number k = ap all (let z : (number + 1) + k ≡ number + suc k = omega arith in z)

  made_from : (all : ℕ → List Patterns) (screens : List (List Patterns)) (journals : List (List Entry)) (number : ℕ)
      → AreFrom all number screens → AreMade number journals
      → opened_all trade screens journals ≡ started_from trade all number (length journals)
  made_from all [] [] number from each = refl
  made_from all (boxes ∷ screens) [] number from each = refl
  made_from all [] (journal ∷ journals) number from each =
      made_so number all [] journal (opened_all trade [] journals) (started_from trade all (number + 1) (length journals))
      (first_made number journal journals each) (here_from all number [] from ∙ no_boxes trade 0)
      (made_from all [] journals (number + 1)
      (λ k. next_from all number k ∙ from (suc k) ∙ no_boxes trade (suc k) ∙ sym (no_boxes trade k))
      (others_made number journal journals each))
  made_from all (boxes ∷ screens) (journal ∷ journals) number from each =
      made_so number all boxes journal (opened_all trade screens journals)
      (started_from trade all (number + 1) (length journals))
      (first_made number journal journals each) (here_from all number (boxes ∷ screens) from)
      (made_from all screens journals (number + 1) (λ k. next_from all number k ∙ from (suc k))
      (others_made number journal journals each))

-- the screens of each provider, in lists from provider 0 on
abbrev pub by_lists : List (List Patterns) → ℕ → List Patterns
by_lists screens p = slice_index_or screens p []

pub made_at_start : (trade : Trade) (screens : List (List Patterns)) (journals : List (List Entry))
    → length journals ≡ trade.providers
    → ((k : ℕ) (journal : List Entry) → slice_get journals k ≡ Some journal
    → journal ≡ entries.StartTwo k trade.digest ∷ [])
    → opened_all trade screens journals ≡ at_start trade (by_lists screens)
unfolding at_start
made_at_start trade screens journals count each =
    made_from trade (by_lists screens) screens journals 0
    (λ k. ap (by_lists screens) (let z : 0 + k ≡ k = omega arith in z))
    (λ k j e. each k j e ∙ ap (λ (n : ℕ). entries.StartTwo n trade.digest ∷ []) (let z : k ≡ 0 + k = omega arith in z))
    ∙ ap (started_from trade (by_lists screens) 0) count
