-- Lemmas on the disk model over logs: what a step does to a sight.
use Rattle.std.proofs.Common.{◌≡◌, ◌⊎◌, inl, inr, ⊎_elim, ℕ, suc, ◌+◌, ◌<◌, ◌≤◌, min, ◌==◌, Bool, true, false, if◌then◌else◌, List, [], ◌∷◌, ◌++◌, length, refl, sym, ap, ◌∙◌, subst, arith, length-append}
use Rattle.std.proofs.lemmas.Bool.{cases_lt, eqb-true}
use Rattle.std.proofs.lemmas.List.{take-append-le, take_all}
use Rattle.pec_outside.specs.DiskModel.{Elapses, Rests, Tears, Torn, Only, written}
use Rattle.pec_outside.specs.MemoryDisk.{Step, looked, wrote, synced, crashed, Held, after, after_crash, held_of, LeftSince, sight_of}
use Rattle.pec_outside.specs.MemoryDiskLaws.{reads_so, crash_is_image, only_where_quiet}
use Rattle.pec_outside.proofs.LogLemmas.{held_of-push}

-- ---- time

elapses_same : (log : List Step) → Elapses (sight_of log) (sight_of log)
elapses_same log = record { later = omega arith; nothing_else = λ t image within left. inl left; keeps = λ t image within left. left }

module _ (log : List Step) (step : Step) where
  length_push : length (log ++ step ∷ []) ≡ length log + 1
  length_push = omega (arith, length-append log (step ∷ []))

  since_before : (t : ℕ) (image : List ℕ) → LeftSince (log ++ step ∷ []) t image → LeftSince log t image ⊎ (held_of (log ++ step ∷ [])).images image
  since_before t image left = ⊎_elim
      (λ (h : left.steps < length log + 1). inl (record {
        steps = left.steps;
        from = left.from;
        within = omega (arith, h);
        leaves = subst (λ (l : List Step). (held_of l).images image) (take-append-le left.steps log (step ∷ []) (omega (arith, h))) left.leaves;
      }))
      (λ (h : length log + 1 ≤ left.steps). inr (subst (λ (l : List Step). (held_of l).images image) (take_all left.steps (log ++ step ∷ []) (omega (arith, h, length_push))) left.leaves))
      (cases_lt left.steps (length log + 1))

  since_behind : (t : ℕ) (image : List ℕ) → LeftSince log t image → LeftSince (log ++ step ∷ []) t image
  since_behind t image left = record {
    steps = left.steps;
    from = left.from;
    within = omega (arith, left.within, length_push);
    leaves = subst (λ (l : List Step). (held_of l).images image) (sym (take-append-le left.steps log (step ∷ []) left.within)) left.leaves;
  }

  pub elapses_push : Elapses (sight_of log) (sight_of (log ++ step ∷ []))
  elapses_push = record {
    later = omega (arith, length_push);
    nothing_else = λ t image within left. since_before t image left;
    keeps = λ t image within left. since_behind t image left;
  }

  -- what a crash leaves after the step
  now_left : (image : List ℕ) → (held_of (log ++ step ∷ [])).images image → (after (held_of log) step).images image
  now_left image = subst (λ (h : Held). h.images image) (held_of-push log step)

  pub now_seen : (held_of (log ++ step ∷ [])).bytes ≡ (after (held_of log) step).bytes
  now_seen = ap (λ (h : Held). h.bytes) (held_of-push log step)

-- ---- calls

pub rests_same : (log : List Step) → Rests (sight_of log) (sight_of log)
rests_same log = record { seen = refl; crash = λ image now. now; time = elapses_same log }

pub looked_rests : (log : List Step) → Rests (sight_of log) (sight_of (log ++ looked ∷ []))
looked_rests log = record { seen = now_seen log looked; crash = now_left log looked; time = elapses_push log looked }

pub unsynced_rests : (log : List Step) → Rests (sight_of log) (sight_of (log ++ synced false ∷ []))
unsynced_rests log = record { seen = now_seen log (synced false); crash = now_left log (synced false); time = elapses_push log (synced false) }

pub synced_only : (log : List Step) → Only (held_of log).bytes (held_of (log ++ synced true ∷ [])).images
synced_only log = now_left log (synced true)

pub synced_rests : (log : List Step) → Rests (sight_of log) (sight_of (log ++ synced true ∷ []))
synced_rests log = record {
  seen = now_seen log (synced true);
  crash = λ image now. subst (held_of log).images (sym (synced_only log image now)) (reads_so log);
  time = elapses_push log (synced true);
}

place_is : (log : List Step) (at : ℕ) → at ≤ length (held_of log).bytes → min at (length (held_of log).bytes) ≡ at
place_is log at within = omega (arith, within)

pub wrote_tears : (log : List Step) (at : ℕ) (piece : List ℕ) (answered : _) → at ≤ length (held_of log).bytes
    → Tears at (length piece) (sight_of log) (sight_of (log ++ wrote at piece answered ∷ []))
wrote_tears log at piece answered within =
    let place = place_is log at within in
    record {
      crash = λ image now. let left = now_left log (wrote at piece answered) image now in (left.0, left.1, subst (λ k. Torn k (length piece) left.0 image) place left.2);
      time = elapses_push log (wrote at piece answered);
    }

pub wrote_seen : (log : List Step) (at : ℕ) (piece : List ℕ) → at ≤ length (held_of log).bytes
    → (held_of (log ++ wrote at piece true ∷ [])).bytes ≡ written (held_of log).bytes at piece
wrote_seen log at piece within = now_seen log (wrote at piece true) ∙ ap (λ k. written (held_of log).bytes k piece) (place_is log at within)

-- ---- a crash

no_zero : (n : ℕ) → (suc n == 0) ≡ true → ⊥
no_zero n e = let is : suc n ≡ 0 = eqb-true (suc n) 0 e in omega (arith, is)

crash_goes : (log : List Step) (kept : ℕ) (quiet : Bool) → (length (held_of log).pending == 0) ≡ quiet → (P : List Step → Type 0)
    → ((held_of log).pending ≡ [] → P log) → P (log ++ crashed kept ∷ []) → P (after_crash log kept)
crash_goes log kept true is P same more = subst (λ (b : Bool). P (if b then log else log ++ crashed kept ∷ [])) (sym is) (same (empty_from (held_of log).pending is))
  where
    empty_from : {X : Type 0} (xs : List X) → (length xs == 0) ≡ true → xs ≡ []
    empty_from [] e = refl
    empty_from (x ∷ xs) e = absurd (no_zero (length xs) e)
crash_goes log kept false is P same more = subst (λ (b : Bool). P (if b then log else log ++ crashed kept ∷ [])) (sym is) more

pub crash_left : (log : List Step) (kept : ℕ) → (held_of log).images (held_of (after_crash log kept)).bytes
crash_left log kept = crash_goes log kept (length (held_of log).pending == 0) refl (λ l. (held_of log).images (held_of l).bytes)
    (λ quiet. reads_so log)
    (subst (held_of log).images (sym (now_seen log (crashed kept))) (crash_is_image log kept))

pub crash_durable : (log : List Step) (kept : ℕ) → Only (held_of (after_crash log kept)).bytes (held_of (after_crash log kept)).images
crash_durable log kept = crash_goes log kept (length (held_of log).pending == 0) refl (λ l. Only (held_of l).bytes (held_of l).images)
    (only_where_quiet log)
    (λ image now. now_left log (crashed kept) image now ∙ sym (now_seen log (crashed kept)))

pub crash_elapses : (log : List Step) (kept : ℕ) → Elapses (sight_of log) (sight_of (after_crash log kept))
crash_elapses log kept = crash_goes log kept (length (held_of log).pending == 0) refl (λ l. Elapses (sight_of log) (sight_of l))
    (λ quiet. elapses_same log) (elapses_push log (crashed kept))
