-- How a run ends that plays a load.
use Rattle.std.proofs.Common.{◌≡◌, ◌≢◌, ℕ, suc, ◌-◌, ◌^◌, ◌<◌, ◌≤◌, ◌⊎◌, inl, inr, Bool, true, false, List, [], ◌∷◌, length, refl, sym, ap, subst, ◌∙◌, arith, Option, Some, None}
use Rattle.std.proofs.lemmas.List.{length-map}
use Rattle.std.proofs.lemmas.Option.{none-some, same_Some}
use Rattle.pec_types.specs.Bytes.{Bytes}
use Rattle.pec_outside.specs.DiskModel.{Sight}
use Rattle.pec_outside.specs.Flow.{HasRisen, followed_by}
use Rattle.pec_input.specs.Lines.{raw_lines}
use Rattle.pec_input.specs.Parts.{parts_of}
use Rattle.pec_plays.specs.Commands.{Command, Luck}
use Rattle.pec_screen.specs.Verdicts.{Patterns}
use Rattle.pec_load.specs.Generated.{commands_of}
use Rattle.pec_load.specs.Heard.{load_input}
use Rattle.pec_load_runs.specs.Loading.{IsOfLoad, IsQuiet, LoadRan, counts_with, load_asked, load_script, state_text, written_behind}
use Rattle.pec_load_runs.proofs.ScriptLemmas.{Told, load_begins, load_halts, never_restarts}
use Rattle.pec_runs.specs.Endings.{End}
use Rattle.pec_runs.specs.Endings as ends
use Rattle.pec_runs.specs.Happened.{Begun, Halted, Happened, Stage, by_next, outcome_at, outcome_of, providers_in, stage_of}
use Rattle.pec_ledger.specs.Trade.{Trade}
use Rattle.pec_runs.specs.Complete.{CanBegin}
use Rattle.pec_runs.specs.Openings.{Disks, IsOpening, Next, Opening, disks_at, NoMore, Holds, Unfits, Fails, Stops, IsNext, Run, Resume, next_of}
use Rattle.pec_runs.specs.Plays.{Finish, MayPlay, Rest, Stopped, Strayed, ToTheEnd, at_end, finish_of, outcome_text}
use Rattle.pec_runs.specs.Plays as plays
use Rattle.pec_runs.specs.ScriptLines.{command_in}
use Rattle.pec_runs.specs.Ran.{Counts, IsAt, PlaysOn, Ran, RanOver, TellsAs, beginning, status_at, world}
use Rattle.pec_runs.specs.Statuses.{Status, status_of}
use Rattle.pec_runs.specs.Statuses as statuses
use Rattle.pec_runs.specs.Transcripts.{NoFaults, StoodStill}

-- ---- finishes

-- how a load may finish, with what is true then of the journals and of the lucks
abbrev Finishes : Happened → ℕ → Finish → Type 0
Finishes happened count (plays.Ends ends.Done) =
    (happened.opening.next ≡ NoMore) × (length happened.lucks ≡ length (commands_of count))
Finishes happened count (plays.Ends (ends.NotEmpty provider)) = happened.opening.next ≡ Holds
Finishes happened count plays.Stops = Unit {0}
Finishes happened count plays.Fails = Unit {0}
Finishes happened count _ = ⊥

-- the lucks of commands that were all played
all_played : (lucks : List Luck) (commands : List Command) (P : Finish → Type 0)
    → (length lucks ≡ length commands → P (plays.Ends ends.Done)) → P plays.Stops → P (at_end lucks commands ends.Done)
all_played [] [] P whole stops = whole refl
all_played [] (command ∷ commands) P whole stops = stops
all_played (luck ∷ lucks) [] P whole stops = stops
all_played (luck ∷ lucks) (command ∷ commands) P whole stops =
    all_played lucks commands P (λ e. whole (ap suc e)) stops

module _ (screens : List (List Patterns)) (count : ℕ) (tells : Type 0) (old_disks new_disks : Disks) (old new : Counts) (happened : Happened) where
  rest_finishes : (rest : Rest) → happened.opening.next ≡ NoMore
      → MayPlay (world happened) tells happened.spares (beginning happened) old.disks new.disks (load_script count) happened.lucks rest
      → Finishes happened count (finish_of rest happened.lucks (load_script count))
  rest_finishes ToTheEnd more may =
      all_played happened.lucks (load_script count).commands (Finishes happened count)
      (λ e. (more, e ∙ length-map (commands_of count) (command_in None))) tt
  rest_finishes Stopped more may = tt
  rest_finishes Strayed more may = never_restarts count (length happened.lucks) may.strays.provider may.strays.restarts

  next_finishes : (next : Next) → happened.opening.next ≡ next → IsNext (world happened) old_disks Run (next_of happened.opening) next
      → PlaysOn tells old_disks new_disks old new happened (load_script count) next
      → Finishes happened count (by_next (world happened) happened.screens happened.opening happened.lucks happened.rest (load_script count) next).finish
  next_finishes NoMore e is may = rest_finishes happened.rest e may
  next_finishes Holds e is may = e
  next_finishes (Unfits unfit) e is may = absurd (not_resumed is.0)
    where
      not_resumed : Run ≡ Resume → ⊥
      not_resumed e = cc
  next_finishes Fails e is may = tt
  next_finishes Stops e is may = tt

  at_finishes : (status : Status) (stage : Stage) → IsAt tells old_disks new_disks old new happened status (load_asked screens) stage
      → (stage ≡ Halted) ⊎ (stage ≡ Begun Run (load_script count))
      → Finishes happened count (outcome_at happened stage).finish
  at_finishes status stage at (inl e) = subst (λ s. Finishes happened count (outcome_at happened s).finish) (sym e) tt
  at_finishes status stage at (inr e) =
      let begun = subst (IsAt tells old_disks new_disks old new happened status (load_asked screens)) e at in
      subst (λ s. Finishes happened count (outcome_at happened s).finish) (sym e)
      (next_finishes happened.opening.next refl begun.opening.next begun.plays)

stage_by : Told → (screens : List (List Patterns)) (count : ℕ) → count ≤ 20000 → (happened : Happened) (early : Bool) → happened.early ≡ early
    → happened.parts ≡ parts_of (raw_lines (load_input count))
    → (stage_of (load_asked screens) happened.hands happened.early happened.parts ≡ Halted)
    ⊎ (stage_of (load_asked screens) happened.hands happened.early happened.parts ≡ Begun Run (load_script count))
stage_by told screens count few happened true e are =
    inl (ap (λ x. stage_of (load_asked screens) happened.hands x happened.parts) e ∙ load_halts screens happened.hands happened.parts)
stage_by told screens count few happened false e are =
    inr (ap (λ x. stage_of (load_asked screens) happened.hands x happened.parts) e ∙ load_begins told screens happened.hands count few happened.parts are)

pub load_finishes : Told → (screens : List (List Patterns)) (count : ℕ) → count ≤ 20000 → (status : Status) (before after : Option Bytes) (tells : Type 0)
    (old_disks new_disks : Disks) (old new : Counts)
    (ran : Ran (load_asked screens) status (Some (load_input count)) before after tells old_disks new_disks old new)
    → Finishes ran.happened count (outcome_of (load_asked screens) ran.happened).finish
unfolding outcome_of
load_finishes told screens count few status before after tells old_disks new_disks old new ran =
    at_finishes screens count tells old_disks new_disks old new ran.happened status
    (stage_of (load_asked screens) ran.happened.hands ran.happened.early ran.happened.parts) ran.is_at
    (stage_by told screens count few ran.happened ran.happened.early refl ran.input)

-- ---- statuses

ends_of : (happened : Happened) (count : ℕ) (finish : Finish) → Finishes happened count finish → (status : Status)
    → status_at finish ≡ Some status → IsOfLoad status
ends_of happened count (plays.Ends ends.Done) is status e = subst IsOfLoad (same_Some statuses.Done status e) tt
ends_of happened count (plays.Ends (ends.NotEmpty provider)) is status e = subst IsOfLoad (same_Some statuses.NotEmpty status e) tt
ends_of happened count (plays.Ends ends.Usage) is status e = absurd is
ends_of happened count (plays.Ends ends.LongDirectory) is status e = absurd is
ends_of happened count (plays.Ends ends.NoScript) is status e = absurd is
ends_of happened count (plays.Ends (ends.DirectoryRefused why)) is status e = absurd is
ends_of happened count (plays.Ends (ends.NotFit provider unfit)) is status e = absurd is
ends_of happened count (plays.Ends (ends.LongLine number)) is status e = absurd is
ends_of happened count (plays.Ends ends.LongScript) is status e = absurd is
ends_of happened count (plays.Ends (ends.LineRefused number fault)) is status e = absurd is
ends_of happened count plays.Stops is status e = absurd (none-some status e)
ends_of happened count plays.Fails is status e = subst IsOfLoad (same_Some statuses.StartFault status e) tt
ends_of happened count plays.Strays is status e = absurd is

module _ (happened : Happened) (count : ℕ) (before after : Option Bytes) (text : Bytes) (finish : Finish)
    (is : Finishes happened count finish) where
  as_told : (status : Status) → TellsAs status before after text finish → IsOfLoad status
  as_told statuses.Done told = tt
  as_told statuses.Usage told = ends_of happened count finish is statuses.Usage told.0
  as_told statuses.Refused told = ends_of happened count finish is statuses.Refused told.0
  as_told statuses.ReadFault told = tt
  as_told statuses.WriteFault told = tt
  as_told statuses.NoMemory told = tt
  as_told statuses.StartFault told = tt
  as_told statuses.NotEmpty told = tt
  as_told statuses.NotFit told = ends_of happened count finish is statuses.NotFit told.0
  as_told statuses.ClockFault told = ends_of happened count finish is statuses.ClockFault told.0
  as_told statuses.DoorFault told = ends_of happened count finish is statuses.DoorFault told.0
  as_told statuses.DiskFault told = ends_of happened count finish is statuses.DiskFault told.0
  as_told statuses.Changed told = ends_of happened count finish is statuses.Changed told.0
  as_told statuses.InputTooLong told = ends_of happened count finish is statuses.InputTooLong told.0

-- it doesn't stray
no_stray : (happened : Happened) (count : ℕ) (finish : Finish) → Finishes happened count finish → finish ≡ plays.Strays → ⊥
no_stray happened count finish is e = subst (Finishes happened count) e is

pub load_stays : Told → (screens : List (List Patterns)) (count : ℕ) (status : Status) (before after : Option Bytes) (tells : Type 0)
    (old_disks new_disks : Disks) (old new : Counts) → count ≤ 20000
    → (ran : Ran (load_asked screens) status (Some (load_input count)) before after tells old_disks new_disks old new)
    → (outcome_of (load_asked screens) ran.happened).finish ≢ plays.Strays
load_stays told screens count status before after tells old_disks new_disks old new few ran =
    no_stray ran.happened count (outcome_of (load_asked screens) ran.happened).finish
    (load_finishes told screens count few status before after tells old_disks new_disks old new ran)

pub load_status : Told → (screens : List (List Patterns)) (count : ℕ) (status : Status) (before after : Option Bytes) (tells : Type 0)
    (old_disks new_disks : Disks) (old new : Counts) → count ≤ 20000
    → Ran (load_asked screens) status (Some (load_input count)) before after tells old_disks new_disks old new → IsOfLoad status
load_status told screens count status before after tells old_disks new_disks old new few ran =
    let outcome = outcome_of (load_asked screens) ran.happened in
    let is = load_finishes told screens count few status before after tells old_disks new_disks old new ran in
    elim ran.told [
      | inl as_is ↦ as_told ran.happened count before after (outcome_text (providers_in ran.happened.setting) outcome) outcome.finish is status as_is
      | inr more ↦ absurd (no_stray ran.happened count outcome.finish is more.strays)
    ]

-- ---- status 0

done_of : (happened : Happened) (count : ℕ) (finish : Finish) → Finishes happened count finish → status_at finish ≡ Some statuses.Done
    → (happened.opening.next ≡ NoMore) × (length happened.lucks ≡ length (commands_of count))
done_of happened count (plays.Ends ends.Done) is e = is
done_of happened count (plays.Ends (ends.NotEmpty provider)) is e = cc
done_of happened count (plays.Ends ends.Usage) is e = absurd is
done_of happened count (plays.Ends ends.LongDirectory) is e = absurd is
done_of happened count (plays.Ends ends.NoScript) is e = absurd is
done_of happened count (plays.Ends (ends.DirectoryRefused why)) is e = absurd is
done_of happened count (plays.Ends (ends.NotFit provider unfit)) is e = absurd is
done_of happened count (plays.Ends (ends.LongLine number)) is e = absurd is
done_of happened count (plays.Ends ends.LongScript) is e = absurd is
done_of happened count (plays.Ends (ends.LineRefused number fault)) is e = absurd is
done_of happened count plays.Stops is e = cc
done_of happened count plays.Fails is e = cc
done_of happened count plays.Strays is e = absurd is

-- ---- status 8

holds_of : (happened : Happened) (count : ℕ) (finish : Finish) → Finishes happened count finish
    → status_at finish ≡ Some statuses.NotEmpty → happened.opening.next ≡ Holds
holds_of happened count (plays.Ends ends.Done) is e = cc
holds_of happened count (plays.Ends (ends.NotEmpty provider)) is e = is
holds_of happened count (plays.Ends ends.Usage) is e = absurd is
holds_of happened count (plays.Ends ends.LongDirectory) is e = absurd is
holds_of happened count (plays.Ends ends.NoScript) is e = absurd is
holds_of happened count (plays.Ends (ends.DirectoryRefused why)) is e = absurd is
holds_of happened count (plays.Ends (ends.NotFit provider unfit)) is e = absurd is
holds_of happened count (plays.Ends (ends.LongLine number)) is e = absurd is
holds_of happened count (plays.Ends ends.LongScript) is e = absurd is
holds_of happened count (plays.Ends (ends.LineRefused number fault)) is e = absurd is
holds_of happened count plays.Stops is e = cc
holds_of happened count plays.Fails is e = cc
holds_of happened count plays.Strays is e = absurd is

-- what journals come to on empty disks
abbrev pub Had : {D : Type 0} → Type 0 → (D → Sight) → (ℕ → Option D) → Type 0
Had tells sight home = (trade : Trade) (opening : Opening) → IsOpening trade (disks_at tells sight home) Run opening
    → CanBegin sight trade home Run → (opening.next ≡ NoMore) ⊎ (opening.next ≡ Fails) ⊎ (opening.next ≡ Stops)

module _ {D : Type 0} (told : Told) (screens : List (List Patterns)) (count : ℕ) (few : count ≤ 20000) (before after : Option Bytes)
    (tells : Type 0) (sight : D → Sight) (home left : ℕ → Option D) (old new : Counts)
    (ran : RanOver tells sight (load_asked screens) statuses.NotEmpty (Some (load_input count)) before after home left old new) where
  abbrev Came : Finish
  Came = (outcome_of (load_asked screens) ran.happened).finish

  finish_is : status_at Came ≡ Some statuses.NotEmpty
  finish_is =
      let is = load_finishes told screens count few statuses.NotEmpty before after tells _ _ old new ran in
      elim ran.told [
        | inl as_is ↦ as_is.0
        | inr more ↦ absurd (no_stray ran.happened count Came is more.strays)
      ]

  holds_next : ran.happened.opening.next ≡ Holds
  holds_next = holds_of ran.happened count Came
      (load_finishes told screens count few statuses.NotEmpty before after tells _ _ old new ran) finish_is

  never_holds : (next : Next) → next ≡ Holds → (next ≡ NoMore) ⊎ (next ≡ Fails) ⊎ (next ≡ Stops) → ⊥
  never_holds next e (inl other) = let x : NoMore ≡ Holds = sym other ∙ e in cc
  never_holds next e (inr (inl other)) = let x : Fails ≡ Holds = sym other ∙ e in cc
  never_holds next e (inr (inr other)) = let x : Stops ≡ Holds = sym other ∙ e in cc

  -- the disks that were to be made on weren't all empty
  pub not_blank : Had tells sight home → CanBegin sight (world ran.happened) home Run → ⊥
  unfolding outcome_of
  not_blank had can = elim (stage_by told screens count few ran.happened ran.happened.early refl ran.input) [
    | inl halted ↦ absurd (none-some statuses.NotEmpty
        (ap (λ s. status_at (outcome_at ran.happened s).finish) (sym halted) ∙ finish_is))
    | inr begun ↦
        let at = subst (IsAt tells (disks_at tells sight home) (disks_at tells sight left) old new ran.happened
        statuses.NotEmpty (load_asked screens)) begun ran.is_at in
        never_holds ran.happened.opening.next holds_next (had (world ran.happened) ran.happened.opening at.opening can)
  ]

played_all : Told → (screens : List (List Patterns)) (count : ℕ) → count ≤ 20000 → (status : Status) → status ≡ statuses.Done → (before after : Option Bytes)
    (tells : Type 0) (old_disks new_disks : Disks) (old new : Counts)
    (ran : Ran (load_asked screens) status (Some (load_input count)) before after tells old_disks new_disks old new)
    → (ran.happened.opening.next ≡ NoMore) × (length ran.happened.lucks ≡ length (commands_of count))
played_all told screens count few status e before after tells old_disks new_disks old new ran =
    let outcome = outcome_of (load_asked screens) ran.happened in
    let text = outcome_text (providers_in ran.happened.setting) outcome in
    let is = load_finishes told screens count few status before after tells old_disks new_disks old new ran in
    elim ran.told [
      | inl as_is ↦
          let so = subst (λ s. TellsAs s before after text outcome.finish) e as_is in
          done_of ran.happened count outcome.finish is so.0
      | inr more ↦ absurd (no_stray ran.happened count outcome.finish is more.strays)
    ]

pub load_done : {D : Type 0} → Told → (screens : List (List Patterns)) (count : ℕ) (before after : Option Bytes) (tells : Type 0)
    (sight : D → Sight) (faults : D → ℕ) (home left : ℕ → Option D) (old new : Counts) → count ≤ 20000
    → (load : LoadRan tells sight faults count screens statuses.Done before after home left old new)
    → (load.through.ran.happened.opening.next ≡ NoMore)
    × (length load.through.ran.happened.lucks ≡ length (commands_of count))
    × (after ≡ followed_by before (state_text count (world load.through.ran.happened)
    (outcome_of (load_asked screens) load.through.ran.happened).after))
load_done told screens count before after tells sight faults home left old new few load =
    let ran = load.through.ran in
    let all = played_all told screens count few load.played load.told.0 _ _ tells _ _ _ _ ran in (
      all.0,
      all.1,
      load.told.1 ∙ ap (λ s. followed_by before (written_behind count s load.lines (world ran.happened)
          (outcome_of (load_asked screens) ran.happened).after)) load.told.0,
    )

-- ---- without faults

still_down : (before now : ℕ) → StoodStill before now → HasRisen before now → ⊥
still_down before now still risen =
    let same : now ≡ before = still.0 in
    let small : now < 2 ^ 64 - 1 = still.1 in
    let up : before < now = risen (omega arith) in
    omega arith

pub load_quiet : {D : Type 0} (count : ℕ) (screens : List (List Patterns)) (before after : Option Bytes) (tells : Type 0) (sight : D → Sight)
    (faults : D → ℕ) (home left : ℕ → Option D) (old new : Counts) (status : Status)
    → LoadRan tells sight faults count screens status before after home left old new → NoFaults old new → IsQuiet status
load_quiet count screens before after tells sight faults home left old new statuses.Done load none = tt
load_quiet count screens before after tells sight faults home left old new statuses.NoMemory load none = tt
load_quiet count screens before after tells sight faults home left old new statuses.NotEmpty load none = tt
load_quiet count screens before after tells sight faults home left old new statuses.WriteFault load none =
    still_down old.sink new.sink none.sink load.blame
load_quiet count screens before after tells sight faults home left old new statuses.StartFault load none =
    elim load.blame [
      | inl depot ↦ still_down old.depot new.depot none.depot depot
      | inr disk ↦ still_down (old.disks disk.0) (new.disks disk.0) (none.disks disk.0) disk.1
    ]
load_quiet count screens before after tells sight faults home left old new statuses.Usage load none = load.told
load_quiet count screens before after tells sight faults home left old new statuses.Refused load none = load.told
load_quiet count screens before after tells sight faults home left old new statuses.ReadFault load none = load.told
load_quiet count screens before after tells sight faults home left old new statuses.NotFit load none = load.told
load_quiet count screens before after tells sight faults home left old new statuses.ClockFault load none = load.told
load_quiet count screens before after tells sight faults home left old new statuses.DoorFault load none = load.told
load_quiet count screens before after tells sight faults home left old new statuses.DiskFault load none = load.told
load_quiet count screens before after tells sight faults home left old new statuses.Changed load none = load.told
load_quiet count screens before after tells sight faults home left old new statuses.InputTooLong load none = load.told

-- on empty disks
pub load_complete : {D : Type 0} → Told → (screens : List (List Patterns)) (count : ℕ) (before after : Option Bytes)
    (tells : Type 0) (sight : D → Sight) (faults : D → ℕ) (home left : ℕ → Option D) (old new : Counts) (status : Status)
    → count ≤ 20000 → Had tells sight home
    → (load : LoadRan tells sight faults count screens status before after home left old new) → NoFaults old new
    → CanBegin sight (world load.through.ran.happened) home Run → (status ≡ statuses.NoMemory) ⊎ (status ≡ statuses.Done)
load_complete told screens count before after tells sight faults home left old new status few had load none can =
    by_status status load (load_quiet count screens before after tells sight faults home left old new status load none) can
  where
    by_status : (status : Status)
        → (load : LoadRan tells sight faults count screens status before after home left old new) → IsQuiet status
        → CanBegin sight (world load.through.ran.happened) home Run
        → (status ≡ statuses.NoMemory) ⊎ (status ≡ statuses.Done)
    by_status statuses.Done load quiet can = inr refl
    by_status statuses.NoMemory load quiet can = inl refl
    by_status statuses.NotEmpty load quiet can =
        absurd (subst (λ (s : Status).
        (ran : RanOver tells sight (load_asked screens) s (Some (load_input count)) (Some []) (Some load.lines) home left
        (counts_with old 0 0) (counts_with new load.source load.sink)) → CanBegin sight (world ran.happened) home Run → ⊥)
        (sym load.told.0)
        (λ ran can. not_blank told screens count few (Some []) (Some load.lines) tells sight home left (counts_with old 0 0)
        (counts_with new load.source load.sink) ran had can) load.through.ran can)
    by_status statuses.Usage load quiet can = absurd quiet
    by_status statuses.Refused load quiet can = absurd quiet
    by_status statuses.ReadFault load quiet can = absurd quiet
    by_status statuses.WriteFault load quiet can = absurd quiet
    by_status statuses.StartFault load quiet can = absurd quiet
    by_status statuses.NotFit load quiet can = absurd quiet
    by_status statuses.ClockFault load quiet can = absurd quiet
    by_status statuses.DoorFault load quiet can = absurd quiet
    by_status statuses.DiskFault load quiet can = absurd quiet
    by_status statuses.Changed load quiet can = absurd quiet
    by_status statuses.InputTooLong load quiet can = absurd quiet
