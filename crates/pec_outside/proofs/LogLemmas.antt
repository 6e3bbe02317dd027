-- Lemmas on logs of disks in memory: one step more.
use Rattle.std.proofs.Common.{◌≡◌, ◌<◌, List, [], ◌∷◌, ◌++◌, map, vec_len, vec_capacity, refl, sym, ap, ◌∙◌}
use Rattle.std.proofs.lemmas.List.{map-append}
use Rattle.pec_outside.specs.declared.disk_log.DiskLog.{DiskLog}
use Rattle.pec_outside.specs.declared.disk_log.Step as program
use Rattle.pec_outside.specs.DiskLog.{step_of, steps_of, Goes, Keeps}
use Rattle.pec_outside.specs.MemoryDisk.{Step, Held, settled, after, after_all, held_of}

after_all-push : (held : Held) (log : List Step) (step : Step) → after_all held (log ++ step ∷ []) ≡ after (after_all held log) step
after_all-push held [] step = refl
after_all-push held (first ∷ log) step = after_all-push (after held first) log step

pub held_of-push : (log : List Step) (step : Step) → held_of (log ++ step ∷ []) ≡ after (held_of log) step
held_of-push log step = after_all-push (settled []) log step

-- one step more, in the program's log
pub goes : (old new : DiskLog) (kept : program.Step) (step : Step) → step_of kept ≡ step
    → new.steps.items ≡ old.steps.items ++ kept ∷ []
    → new.bytes.items ≡ (after (held_of (steps_of old)) step).bytes
    → new.pending.items ≡ (after (held_of (steps_of old)) step).pending
    → (0 < vec_len new.pending → vec_len new.steps < vec_capacity new.steps)
    → Goes old step new
goes old new kept step is pushed bytes pending room =
    let steps : steps_of new ≡ steps_of old ++ step ∷ [] = ap (λ items. map step_of items) pushed ∙ map-append step_of old.steps.items (kept ∷ []) ∙ ap (λ s. steps_of old ++ s ∷ []) is in
    let held = ap held_of steps ∙ held_of-push (steps_of old) step in
    record {
      log = record { bytes = bytes ∙ ap (λ (h : Held). h.bytes) (sym held); pending = pending ∙ ap (λ (h : Held). h.pending) (sym held); room = room };
      steps = steps;
    }

-- a step behind the making of room
pub kept_goes : (old mid new : DiskLog) (step : Step) → Keeps old mid → Goes mid step new → Goes old step new
kept_goes old mid new step kept gone = record {
  log = gone.log;
  steps = gone.steps ∙ ap (λ items. map step_of items ++ step ∷ []) kept.steps;
}
