-- The state at the start is Sound.
use Rattle.std.proofs.Common.{◌≡◌, ℕ, zero, suc, ◌+◌, ◌<◌, List, [], ◌++◌, Bool, true, false, ◌⊎◌, inl, inr, length, replicate, refl, ap, sym, subst, ◌∙◌, arith, Option, Some, None}
use Rattle.std.specs.Prelude.{IsSome, slice_index_or}
use Rattle.std.specs.Option.{option_to_list}
use Rattle.std.proofs.lemmas.Bool.{cases_lt}
use Rattle.std.proofs.lemmas.List.{append-nil, get_or-replicate, get_or_past, length-replicate}
use Rattle.std.proofs.lemmas.List.Elements.{All-nil}
use Rattle.pec_types.specs.Bytes.{Bytes}
use Rattle.pec_records.specs.declared.entries.Entry.{Entry}
use Rattle.pec_ledger.specs.Half.{empty}
use Rattle.pec_ledger.specs.Ledger.{Begins, Fit, Follows, Journals}
use Rattle.pec_ledger.specs.Network.{AreGenuine, IsGenuine, Site, Sound, at_start, chosen, empty_site, interrupted_at, journal_at, journals_of, started, started_from, with_choice}
use Rattle.pec_ledger.specs.Trade.{Trade}

module _ (trade : Trade) (screens : ℕ → List (List Bytes)) where
  -- what stands at a number: a provider as it begins, or nothing
  abbrev IsStarted : ℕ → Site → Type 0
  IsStarted number site = (site ≡ started trade screens number) ⊎ (site ≡ empty_site)

  later : (number place : ℕ) → (number + 1) + place ≡ number + suc place
  later number place = omega arith

  site_is : (number count place : ℕ) → place < count → slice_index_or (started_from trade screens number count) place empty_site ≡ started trade screens (number + place)
  site_is number zero place l = absurd (omega arith)
  site_is number (suc count) zero l = ap (started trade screens) (let z : number ≡ number + 0 = omega arith in z)
  site_is number (suc count) (suc place) l =
      site_is (number + 1) count place (omega arith) ∙ ap (started trade screens) (later number place)

  count_is : (number count : ℕ) → length (started_from trade screens number count) ≡ count
  count_is number zero = refl
  count_is number (suc count) = ap suc (count_is (number + 1) count)

  started_or_empty : (p : ℕ) → IsStarted p (slice_index_or (at_start trade screens) p empty_site)
  unfolding at_start
  started_or_empty p =
      elim (cases_lt p trade.providers) [
        | inl l ↦ inl (site_is 0 trade.providers p l ∙ ap (started trade screens) (let z : 0 + p ≡ p = omega arith in z))
        | inr l ↦ inr (get_or_past (started_from trade screens 0 trade.providers) p empty_site (let e = count_is 0 trade.providers in omega (arith, e)))
      ]

  follows_start : (J : Journals) (p : ℕ) (site : Site) → IsStarted p site → Follows trade J p empty site.journal
  follows_start J p site (inl e) =
      subst (λ (s : Site). Follows trade J p empty s.journal) (sym e)
      (record { own = (refl, refl, refl); in_time = omega arith; in_range = omega arith; joint = tt }, tt)
  follows_start J p site (inr e) = subst (λ (s : Site). Follows trade J p empty s.journal) (sym e) tt

  starts : (p : ℕ) → p < trade.providers → Begins (journal_at (at_start trade screens) p)
  unfolding at_start
  starts p l = subst (λ (s : Site). Begins s.journal) (sym (site_is 0 trade.providers p l)) tt

  fit_at_start : (J : Journals) → ((p : ℕ) → J p ≡ journal_at (at_start trade screens) p) → Fit trade J
  fit_at_start J same = record {
    begins = λ p l. subst Begins (sym (same p)) (starts p l);
    follows = λ p. subst (λ (es : List Entry). Follows trade J p empty es) (sym (same p))
        (follows_start J p (slice_index_or (at_start trade screens) p empty_site) (started_or_empty p));
  }

  none_interrupted : (p : ℕ) (site : Site) → IsStarted p site → site.interrupted ≡ None
  none_interrupted p site (inl e) = ap (λ (s : Site). s.interrupted) e
  none_interrupted p site (inr e) = ap (λ (s : Site). s.interrupted) e

  none_chosen : (choice : Bool) (interrupted : Option Entry) → interrupted ≡ None → chosen choice interrupted ≡ []
  none_chosen true interrupted e = ap option_to_list e
  none_chosen false interrupted e = refl

  no_links : (n k : ℕ) → slice_index_or (replicate n (let none : List Bytes = [] in none)) k [] ≡ []
  no_links n k =
      elim (cases_lt k n) [
        | inl l ↦ get_or-replicate n k [] [] l
        | inr l ↦ get_or_past (replicate n []) k [] (let e = length-replicate n (let none : List Bytes = [] in none) in omega (arith, e))
      ]

  nothing_waits : (from p : ℕ) (site : Site) → IsStarted p site → slice_index_or site.waiting from [] ≡ []
  nothing_waits from p site (inl e) = ap (λ (s : Site). slice_index_or s.waiting from []) e ∙ no_links trade.providers from
  nothing_waits from p site (inr e) = ap (λ (s : Site). slice_index_or s.waiting from []) e

  nothing_is_down : {X : Type 0} (o : Option X) → o ≡ None → IsSome o → ⊥
  nothing_is_down None e h = cc
  nothing_is_down (Some x) e h = cc

  size_at_start : length (at_start trade screens) ≡ trade.providers
  unfolding at_start
  size_at_start = count_is 0 trade.providers

  pub sound_at_start : Sound trade (at_start trade screens)
  sound_at_start = record {
    count = size_at_start;
    fit = fit_at_start (journals_of (at_start trade screens)) (λ p. refl);
    any_choice = λ choice. fit_at_start (with_choice (at_start trade screens) choice)
        (λ p. ap (λ (l : List Entry). journal_at (at_start trade screens) p ++ l)
        (none_chosen (choice p) (interrupted_at (at_start trade screens) p) (none_interrupted p (slice_index_or (at_start trade screens) p empty_site) (started_or_empty p)))
        ∙ append-nil (journal_at (at_start trade screens) p));
    down = λ p some. absurd (nothing_is_down (interrupted_at (at_start trade screens) p) (none_interrupted p (slice_index_or (at_start trade screens) p empty_site) (started_or_empty p)) some);
    genuine = λ from to. subst (AreGenuine trade (journals_of (at_start trade screens)))
        (sym (nothing_waits from to (slice_index_or (at_start trade screens) to empty_site) (started_or_empty to)))
        (All-nil (IsGenuine trade (journals_of (at_start trade screens))));
  }
