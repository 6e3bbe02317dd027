-- By the words: what the law of each form says.
use Rattle.std.proofs.Common.{◌≡◌, ◌⊎◌, List, Option, inl, inr, subst, sym}
use Rattle.pec_types.specs.Bytes.{Bytes}
use Rattle.pec_outside.specs.Flow.{followed_by}
use Rattle.pec_dossier.specs.Checks.{CheckRan}
use Rattle.pec_dossier.specs.Exports.{ExportRan}
use Rattle.pec_dossier.specs.Extracts.{ExtractRan}
use Rattle.pec_ldif.specs.Writing.{ldif_text}
use Rattle.pec_load_runs.specs.Loading.{LoadRan, load_asked, state_text}
use Rattle.pec_runs.specs.Complete.{CanBegin}
use Rattle.pec_runs.specs.Happened.{outcome_of, trade_in}
use Rattle.pec_runs.specs.Openings.{NoMore, Resume}
use Rattle.pec_runs.specs.Ran.{world}
use Rattle.pec_runs.specs.Statuses.{Status, status_of}
use Rattle.pec_runs.specs.Statuses as statuses
use Rattle.pec_screen.specs.Verdicts.{Patterns}
use Rattle.pec_service.specs.Runs.{NoFaults}
use Rattle.pec_top.specs.Complete.{Completes, with_home}
use Rattle.pec_top.specs.Extracting.{header_text, text_within}
use Rattle.pec_top.specs.Tasks.{Checks, Exports, Extracts, IsRun, Loads, NoForm, Plays, Serves, Task, View, task_in}
use Rattle.pec_top.proofs.complete.each_form_is_complete.Goals as goal

pub returns : goal.returns
returns g c = λ told words screens spares status depot left old new ran none.
    by_task told words screens spares status depot left old new none (task_in words) ran.is_run
  where
    by_task : g.P.Depot.tells × g.P.D.Disk.tells → (words : List Bytes) (screens : List (List Patterns)) (spares : List Patterns)
        (status : Status) (depot left : g.row.P.Denot) (old new : View g.row.P-D.Denot) → NoFaults old.counts new.counts → (task : Task)
        → (run : IsRun (g.P.Depot.tells × g.P.D.Disk.tells) g.P.D.Disk.sight g.P.D.Counted.faults words screens spares status
        (with_home old (g.P.Depot.home depot)) (with_home new (g.P.Depot.home left)) task)
        → Completes (g.P.Depot.tells × g.P.D.Disk.tells) g.P.D.Disk.sight g.P.D.Counted.faults words screens spares status
        (with_home old (g.P.Depot.home depot)) (with_home new (g.P.Depot.home left)) task run
    by_task told words screens spares status depot left old new none (Plays form) run = λ script begun can unchanged.
        c.a_run_without_faults_is_complete.ensures.whole told (record { words = words; screens = screens; spares = spares })
        status old.unread old.held new.held depot left old.counts.devices new.counts.devices run.ran form script begun can
        none.devices unchanged
    by_task told words screens spares status depot left old new none (Serves wanted) run = λ begins can.
        c.a_service_without_faults_is_complete.ensures told (record { wanted = wanted; screens = screens }) status old.unread
        old.held new.held depot left old.outside new.outside old.counts new.counts run.ran begins can none
    by_task told words screens spares status depot left old new none Exports run = λ text providers is short reads.
        c.a_status_says_what_was_exported.ensures.whole ldif_text status text old.held new.held old.counts.devices
        new.counts.devices
        (subst (λ (u : Option Bytes). ExportRan ldif_text status u old.held new.held old.counts.devices new.counts.devices) is run)
        none.devices short providers reads
    by_task told words screens spares status depot left old new none Checks run = λ text is.
        c.a_status_says_what_was_checked.ensures.whole status text old.held new.held old.counts.devices new.counts.devices
        (subst (λ (u : Option Bytes). CheckRan status u old.held new.held old.counts.devices new.counts.devices) is run)
        none.devices
    by_task told words screens spares status depot left old new none (Extracts range) run = λ text providers is short reads can.
        let whole = subst (λ (u : Option Bytes). (ran : ExtractRan text_within header_text (g.P.Depot.tells × g.P.D.Disk.tells)
        g.P.D.Disk.sight g.P.D.Counted.faults range status u old.held new.held (g.P.Depot.home depot) (g.P.Depot.home left)
        old.counts.devices new.counts.devices)
        → CanBegin g.P.D.Disk.sight (trade_in ran.extracted.setting) (g.P.Depot.home depot) Resume
        → (status ≡ statuses.NoMemory) ⊎ ((status ≡ statuses.Changed) ⊎ ((ran.extracted.opening.next ≡ NoMore)
        × ((status ≡ statuses.Done)
        × (new.held ≡ followed_by old.held (text_within range (trade_in ran.extracted.setting) providers
        ran.extracted.opening.journals)))))) (sym is)
        (λ ran can. elim (c.a_status_says_what_was_extracted.ensures.complete told text_within header_text range status text
        old.held new.held depot left old.counts.devices new.counts.devices ran none.devices short providers reads can) [
          | inl lacks ↦ inl lacks
          | inr (inl changed) ↦ inr (inl changed)
          | inr (inr done) ↦ inr (inr (done.2, (done.0, done.3)))
        ]) in
        whole (record { extracted = run.ran.so; blame = run.blame; counts = run.counts }) can
    by_task told words screens spares status depot left old new none (Loads count) run = λ few can.
        elim (c.a_status_says_what_a_load_told.ensures.complete told screens count status old.held new.held depot left
        old.counts.devices new.counts.devices few run none.devices can) [
          | inl lacks ↦ inl lacks
          | inr done ↦ inr (
            done,
            subst (λ (s : Status). (load : LoadRan (g.P.Depot.tells × g.P.D.Disk.tells) g.P.D.Disk.sight
                g.P.D.Counted.faults count screens s old.held new.held (g.P.Depot.home depot) (g.P.Depot.home left)
                old.counts.devices new.counts.devices)
                → new.held ≡ followed_by old.held (state_text count (world load.through.ran.happened)
                (outcome_of (load_asked screens) load.through.ran.happened).after)) (sym done)
                (λ load. (c.a_status_says_what_a_load_told.ensures.done screens count old.held new.held depot left
                old.counts.devices new.counts.devices few load).2) run,
          )
        ]
    by_task told words screens spares status depot left old new none NoForm run = λ unchanged.
        c.a_run_without_faults_has_one_transcript.ensures.one (record { words = words; screens = screens; spares = spares })
        status old.unread old.held new.held depot left old.counts.devices new.counts.devices told run.ran none.devices unchanged
