-- Journals that go on, each by itself, from a state that is Sound, are Fit together.
use Rattle.std.proofs.Common.{◌≡◌, ℕ, ◌<◌, ◌≤◌, List, [], ◌∷◌, ◌++◌, Bool, true, false, refl, ap, sym, subst, ◌∙◌, arith, length, Option, Some, None, inl, inr}
use Rattle.std.specs.Prelude.{slice_index_or, IsSome}
use Rattle.std.specs.Option.{option_to_list}
use Rattle.std.proofs.lemmas.List.{append-nil, append_assoc, get_or_past}
use Rattle.std.proofs.lemmas.Bool.{cases_lt}
use Rattle.pec_records.specs.declared.entries.Entry.{Entry}
use Rattle.pec_records.specs.declared.entries.Entry.TheVariants as entries
use Rattle.pec_ledger.specs.Half.{Half, empty}
use Rattle.pec_ledger.specs.Ledger.{Begins, Fit, Follows, Journals, Meets}
use Rattle.pec_ledger.specs.Network.{Continues, FollowsState, Happens, IsNext, Site, Sound, chosen, interrupted_at, journal_at, journals_in, journals_of, with_choice, Stays, Appends, Fails, Restarts}
use Rattle.pec_ledger.specs.Steps.{half, step}
use Rattle.pec_ledger.specs.Trade.{Trade}
use Rattle.pec_ledger.proofs.AlongLemmas.{along_append, along_left, along_weaker}
use Rattle.pec_ledger.proofs.Growth.{GoOnAs, meets_stays}

begins_on : (es more : List Entry) → Begins es → Begins (es ++ more)
begins_on [] more b = absurd b
begins_on (entries.Start number digest ∷ es) more b = tt
begins_on (entries.Accepted moment sender message ∷ es) more b = absurd b
begins_on (entries.NotAccepted moment sender cause path message ∷ es) more b = absurd b
begins_on (entries.Took moment id message ∷ es) more b = absurd b
begins_on (entries.Decided moment id recipient decision ∷ es) more b = absurd b
begins_on (entries.Charged moment id by ∷ es) more b = absurd b
begins_on (entries.Learned moment id recipient decision decided message ∷ es) more b = absurd b
begins_on (entries.Acked moment id recipient ∷ es) more b = absurd b
begins_on (entries.Ticked moment ∷ es) more b = absurd b
begins_on (entries.Anomaly moment accounts message ∷ es) more b = absurd b
begins_on (entries.StartTwo number digest ∷ es) more b = tt
begins_on (entries.Upgraded moment ∷ es) more b = absurd b
begins_on (entries.Archived moment account place ∷ es) more b = absurd b

module _ (trade : Trade) where
  pub follows_stays : (J K : Journals) → GoOnAs trade J K → (p : ℕ) (h : Half) (es : List Entry) → Follows trade J p h es → Follows trade K p h es
  follows_stays J K g p h es f = along_weaker (step trade p) (Meets trade J p) (Meets trade K p) (meets_stays trade J K g p) h es f

  -- Journals that are Fit, each with further entries that may follow in earlier journals, are Fit.
  pub fit_more : (J L K : Journals) (more : Journals) → Fit trade J → GoOnAs trade L K → ((p : ℕ) → K p ≡ J p ++ more p)
      → ((p : ℕ) → Follows trade L p (half trade p (J p)) (more p)) → Fit trade K
  unfolding half
  fit_more J L K more fit g is each = record {
    begins = λ p l. subst Begins (sym (is p)) (begins_on (J p) (more p) (fit.begins p l));
    follows = λ p.
        let on : GoOnAs trade J K = λ q. (more q, is q)
        in subst (λ (es : List Entry). Follows trade K p empty es) (sym (is p))
        (along_append (step trade p) (Meets trade K p) empty (J p) (more p)
        (follows_stays J K on p empty (J p) (fit.follows p))
        (follows_stays L K g p (half trade p (J p)) (more p) (each p)));
  }

  pub any_images : (sites : List Site) → Sound trade sites → (images : Journals) → ((p : ℕ) → FollowsState trade sites p (images p)) → Fit trade images
  any_images sites sound images each =
      let choice = λ (p : ℕ). (each p).choice
      in let more : Journals = λ p. (each p).further
      in fit_more (with_choice sites choice) (journals_of sites) images more (sound.any_choice choice)
      (λ p. (chosen (choice p) (interrupted_at sites p) ++ more p, (each p).is))
      (λ p. (each p).is ∙ sym (append_assoc (journal_at sites p) (chosen (choice p) (interrupted_at sites p)) (more p)))
      (λ p. (each p).follows)

  -- ---- a list of journals, one for each provider

  nothing_chosen : (choice : Bool) (interrupted : Option Entry) → interrupted ≡ None → chosen choice interrupted ≡ []
  nothing_chosen true interrupted e = ap option_to_list e
  nothing_chosen false interrupted e = refl

  -- a journal that goes on by nothing
  pub as_it_was : (sites : List Site) (p : ℕ) (choice : Bool) (image : List Entry)
      → image ≡ journal_at sites p ++ chosen choice (interrupted_at sites p) → FollowsState trade sites p image
  as_it_was sites p choice image e = record {
    choice = choice;
    further = [];
    is = e ∙ ap (λ (l : List Entry). journal_at sites p ++ l) (sym (append-nil (chosen choice (interrupted_at sites p))));
    follows = tt;
  }

  past_the_sites : (sites : List Site) (p : ℕ) → length sites ≤ p → journal_at sites p ≡ []
  past_the_sites sites p l = ap (λ (site : Site). site.journal) (get_or_past sites p (record { journal = []; up = false; interrupted = None; screens = []; waiting = [] }) l)

  pub any_list_of_images : (sites : List Site) → Sound trade sites → (images : List (List Entry)) → length images ≡ trade.providers
      → ((p : ℕ) → p < trade.providers → FollowsState trade sites p (slice_index_or images p [])) → Fit trade (journals_in images)
  any_list_of_images sites sound images size each =
      any_images sites sound (journals_in images) (λ p. elim (cases_lt p trade.providers) [
        | inl l ↦ each p l
        | inr l ↦ as_it_was sites p false (journals_in images p)
            (get_or_past images p [] (omega arith)
            ∙ sym (append-nil (journal_at sites p) ∙ past_the_sites sites p (let e : length sites ≡ trade.providers = sound.count in omega arith)))
      ])

  -- ---- states

  pub sound_next : (old new : List Site) → Sound trade old → IsNext trade old new → Sound trade new
  sound_next old new sound next = record {
    count = next.count ∙ sound.count;
    fit = any_images old sound (journals_of new)
        (λ p. subst (λ (l : List Entry). FollowsState trade old p l) (append-nil (journal_at new p)) ((next.each p).journal false));
    any_choice = λ choice. any_images old sound (with_choice new choice) (λ p. (next.each p).journal (choice p));
    down = λ p i. (next.each p).down i;
    genuine = next.genuine;
  }

  none_is_not : {X : Type 0} (o : Option X) → o ≡ None → IsSome o → ⊥
  none_is_not None e h = cc
  none_is_not (Some x) e h = cc

  goes_on : (old : List Site) (p : ℕ) (more : List Entry) (image : List Entry) → interrupted_at old p ≡ None
      → image ≡ journal_at old p ++ more → Follows trade (journals_of old) p (half trade p (journal_at old p)) more
      → FollowsState trade old p image
  goes_on old p more image none e follows = record {
    choice = false;
    further = more;
    is = e;
    follows = subst (λ (l : List Entry). Follows trade (journals_of old) p (half trade p l) more) (sym (append-nil (journal_at old p))) follows;
  }

  pub happens_continues : (old new : List Site) (p : ℕ) → Happens trade old new p → Continues trade old new p
  happens_continues old new p (Stays journal interrupted down) = record {
    journal = λ choice. as_it_was old p choice (journal_at new p ++ chosen choice (interrupted_at new p))
        (ap (λ (l : List Entry). l ++ chosen choice (interrupted_at new p)) journal
        ∙ ap (λ (i : Option Entry). journal_at old p ++ chosen choice i) interrupted);
    down = down;
  }
  happens_continues old new p (Appends more before after journal follows) = record {
    journal = λ choice. goes_on old p more (journal_at new p ++ chosen choice (interrupted_at new p)) before
        (ap (λ (l : List Entry). journal_at new p ++ l) (nothing_chosen choice (interrupted_at new p) after)
        ∙ append-nil (journal_at new p) ∙ journal)
        follows;
    down = λ h. absurd (none_is_not (interrupted_at new p) after h);
  }
  happens_continues old new p (Fails more entry before after down journal follows) = record {
    journal = λ choice. failed choice (interrupted_at new p) after;
    down = λ h. down;
  }
    where
      failed : (choice : Bool) (interrupted : Option Entry) → interrupted ≡ Some entry
          → FollowsState trade old p (journal_at new p ++ chosen choice interrupted)
      failed true interrupted e =
          goes_on old p (more ++ entry ∷ []) (journal_at new p ++ chosen true interrupted) before
          (ap (λ (l : List Entry). l ++ chosen true interrupted) journal
          ∙ ap (λ (i : Option Entry). (journal_at old p ++ more) ++ chosen true i) e
          ∙ append_assoc (journal_at old p) more (entry ∷ []))
          follows
      failed false interrupted e =
          goes_on old p more (journal_at new p ++ chosen false interrupted) before (append-nil (journal_at new p) ∙ journal)
          (along_left (step trade p) (Meets trade (journals_of old) p) (half trade p (journal_at old p)) more (entry ∷ []) follows)
  happens_continues old new p (Restarts found journal after) = record {
    journal = λ choice. as_it_was old p found (journal_at new p ++ chosen choice (interrupted_at new p))
        (ap (λ (l : List Entry). journal_at new p ++ l) (nothing_chosen choice (interrupted_at new p) after)
        ∙ append-nil (journal_at new p) ∙ journal);
    down = λ h. absurd (none_is_not (interrupted_at new p) after h);
  }
