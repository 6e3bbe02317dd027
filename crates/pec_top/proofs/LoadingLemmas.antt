-- A load, from the run that is played for it to what is written of it.
use Rattle.std.proofs.Common.{◌≡◌, ◌≢◌, ℕ, ◌≤◌, List, [], length, Option, Some, Result, Ok, Err, refl, ap, sym, subst, ◌∙◌, arith}
use Rattle.std.specs.Prelude.{IfErr, IfOk, OnErr}
use Rattle.pec_types.specs.Bytes.{Bytes}
use Rattle.pec_outside.specs.DiskModel.{Sight}
use Rattle.pec_outside.specs.Flow.{WrotePart, followed_by}
use Rattle.pec_ledger.specs.Network.{Site, journal_at}
use Rattle.pec_ledger.specs.Trade.{Trade}
use Rattle.pec_load.specs.Heard.{load_input}
use Rattle.pec_load_runs.specs.Loading.{LoadRan, LoadTells, counts_with, load_asked, state_text, summary_text, written_behind}
use Rattle.pec_runs.specs.Happened.{outcome_of}
use Rattle.pec_runs.specs.Openings.{Resume, Run}
use Rattle.pec_runs.specs.Plays.{Strays}
use Rattle.pec_runs.specs.Ran.{Blames, Counts, NoneFell, world}
use Rattle.pec_runs.specs.Statuses.{Status}
use Rattle.pec_runs.specs.Statuses as statuses
use Rattle.pec_screen.specs.Verdicts.{Patterns}
use Rattle.pec_serving.specs.OfNetworks.{Summary, total_of}
use Rattle.pec_top.specs.Blaming.{BlamesDevices, BlamesDisks}
use Rattle.pec_top.specs.Reporting.{IsTold, RanReporting}
use Rattle.pec_top.specs.Shown.{end_shown, loaded_stop, result_shown, stop_shown}
use Rattle.pec_top.specs.declared.ending.End.{End}
use Rattle.pec_top.specs.declared.ending.Stop.{Stop}
use Rattle.pec_top.specs.declared.ending.Stop.TheVariants as stops
use Rattle.pec_top.specs.declared.reporting.Report.{Report}
use Rattle.pec_top.specs.declared.reporting.Report.TheVariants as reports
use Rattle.pec_top.proofs.FlowLemmas.{followed_by-nil}
use Rattle.pec_top.proofs.HadFromLemmas.{had_none}
use Rattle.pec_top.proofs.RunningLemmas.{ran_whole, untouched}
use Rattle.pec_top.proofs.ThroughLemmas.{counted_through, halted_through, whole_through}

-- what was to be written was, or a front of it where the output failed
pub load_written : (other : Status) (text line : Bytes) → line ≡ text → (end : End) (before after : Option Bytes)
    (result : Result End Stop) → IfOk result (λ last. (last ≡ end) × (after ≡ followed_by before line))
    → OnErr result (WrotePart before after line) → IfErr result (λ stop. stop ≡ stops.WriteFault)
    → ((after ≡ followed_by before text) → LoadTells (end_shown end) other text before after)
    → LoadTells (result_shown result) other text before after
load_written other text line same end before after (Ok last) ok err stop whole =
    subst (λ (e : End). LoadTells (end_shown e) other text before after) (sym ok.0) (whole (ok.1 ∙ ap (followed_by before) same))
load_written other text line same end before after (Err stop) ok err is whole =
    subst (λ (s : Stop). LoadTells (stop_shown s) other text before after) (sym is)
    (subst (λ (written : Bytes). WrotePart before after written) same err)

-- the summary of what was told is that of the state
pub told_text : (count : ℕ) (summary : Summary) (alfa beta : ℕ) (trade : Trade) (sites : List Site)
    → IsTold (reports.Told summary alfa beta) trade sites → (line text : Bytes) → line ≡ text
    → text ≡ summary_text count summary alfa beta → line ≡ state_text count trade sites
told_text count summary alfa beta trade sites told line text same is =
    same
    ∙ (is
    ∙ (ap (λ (s : Summary). summary_text count s alfa beta) told.0
    ∙ (ap (λ (n : ℕ). summary_text count (total_of trade sites) n beta) told.1
    ∙ ap (λ (n : ℕ). summary_text count (total_of trade sites) (length (journal_at sites 0)) n) told.2)))

-- a run that was stopped has nothing written behind it
pub load_stopped : (stop : Stop) (count : ℕ) (lines : Bytes) (trade : Trade) (sites : List Site) (before : Option Bytes)
    → LoadTells (stop_shown (loaded_stop stop)) (stop_shown stop) (written_behind count (stop_shown stop) lines trade sites)
    before before
load_stopped stops.NoMemory count lines trade sites before = sym (followed_by-nil before)
load_stopped stops.ReadFault count lines trade sites before = sym (followed_by-nil before)
load_stopped stops.WriteFault count lines trade sites before = sym (followed_by-nil before)
load_stopped stops.StartFault count lines trade sites before = (refl, sym (followed_by-nil before))
load_stopped stops.ClockFault count lines trade sites before = sym (followed_by-nil before)
load_stopped stops.DoorFault count lines trade sites before = sym (followed_by-nil before)

-- a load, by the run that was played for it
pub loaded_so : {D : Type 0} (count : ℕ) (screens : List (List Patterns)) (run result : Result End Stop) (lines : Bytes)
    (before after : Option Bytes) (tells : Type 0) (sight : D → Sight) (faults : D → ℕ) (home left : ℕ → Option D) (old new : Counts)
    (source sink : ℕ) (report : Report) (devices : BlamesDevices run 0 source 0 sink)
    (disks : BlamesDisks run old.depot new.depot old.disks new.disks) (depot : old.depot ≤ new.depot)
    (last : (provider : ℕ) → old.disks provider ≤ new.disks provider)
    (so : RanReporting tells sight faults (load_asked screens) (result_shown run) (Some (load_input count)) (Some []) (Some lines) home
    left old.disks new.disks reports.Asked report)
    → ((outcome_of (load_asked screens) so.ran.so.happened).finish ≢ Strays)
    → ((trade : Trade) (sites : List Site) → (result_shown run ≡ statuses.Done → IsTold report trade sites)
    → LoadTells (result_shown result) (result_shown run) (written_behind count (result_shown run) lines trade sites) before
    after)
    → Blames (result_shown result) old new → NoneFell old new
    → LoadRan tells sight faults count screens (result_shown result) before after home left old new
unfolding counted_through whole_through ran_whole
loaded_so count screens run result lines before after tells sight faults home left old new source sink report devices disks depot last
    so on told blame fell = record {
      played = result_shown run;
      lines = lines;
      source = source;
      sink = sink;
      through = counted_through run (load_asked screens) (Some (load_input count)) (Some []) (Some lines) tells sight faults home left
          (counts_with old 0 0) (counts_with new source sink) devices disks depot last so.ran;
      told = told (world so.ran.so.happened) (outcome_of (load_asked screens) so.ran.so.happened).after
          (λ done. so.reported done on);
      blame = blame;
      counts = fell;
    }

none_fell : (counts : Counts) → NoneFell counts counts
none_fell counts = record { source = omega arith; sink = omega arith; depot = omega arith; disks = λ provider. omega arith }

-- memory ran out before there was a run to play
pub unmade : {D : Type 0} (count : ℕ) (screens : List (List Patterns)) (before : Option Bytes) (tells : Type 0) (sight : D → Sight) (faults : D → ℕ)
    (home : ℕ → Option D) (counts : Counts) → LoadRan tells sight faults count screens statuses.NoMemory before before home home counts counts
unfolding whole_through
unmade count screens before tells sight faults home counts = record {
  played = statuses.NoMemory;
  lines = [];
  source = 0;
  sink = 0;
  through = whole_through (load_asked screens) statuses.NoMemory (Some (load_input count)) (Some []) (Some []) tells sight faults home
      home (counts_with counts 0 0) (counts_with counts 0 0) tt (none_fell (counts_with counts 0 0))
      (halted_through (load_asked screens) (Some (load_input count)) (Some []) (Some []) tells sight faults home home counts.disks
      counts.disks (untouched tells sight home) (λ trade. had_none tells sight Resume trade home) Run statuses.NoMemory refl
      (refl, refl));
  told = sym (followed_by-nil before);
  blame = tt;
  counts = none_fell counts;
}
