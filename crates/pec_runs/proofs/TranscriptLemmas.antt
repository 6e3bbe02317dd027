-- A run without faults tells its transcript.
use Rattle.std.proofs.Common.{◌≡◌, ℕ, ◌+◌, ◌<◌, ◌≤◌, ◌⊎◌, inl, inr, List, [], ◌∷◌, ◌++◌, Bool, true, false, length, refl, ap, sym, subst, ◌∙◌, arith, Option, Some, None}
use Rattle.std.specs.Prelude.{All}
use Rattle.std.specs.List.{AllByRecursion}
use Rattle.std.proofs.lemmas.List.Elements.{All-head, All-tail}
use Rattle.pec_types.specs.Bytes.{Bytes}
use Rattle.pec_outside.specs.Flow.{HasRisen, followed_by}
use Rattle.pec_directory.specs.Directory.{Provider}
use Rattle.pec_ledger.specs.Network.{Site}
use Rattle.pec_ledger.specs.Trade.{Trade}
use Rattle.pec_plays.specs.Commands.{Command, Luck, played}
use Rattle.pec_plays.specs.Possible.{AllQuiet, GaveWhatWasKept, NoneInterrupted, quiet_lucks}
use Rattle.pec_plays.specs.Scripts.{Told, script}
use Rattle.pec_screen.specs.Verdicts.{Patterns}
use Rattle.pec_runs.specs.AnswerLines.{answers_text}
use Rattle.pec_runs.specs.Endings.{End}
use Rattle.pec_runs.specs.Happened.{Asked, Begun, Halted, Happened, Over, Stage, by_form, by_next, outcome_at, outcome_of, providers_in, stage_of}
use Rattle.pec_input.specs.Parts.{Parts}
use Rattle.pec_runs.specs.Openings.{Disks, Form, Next, NoMore, Holds, Unfits, Fails, Stops, form_in}
use Rattle.pec_runs.specs.Plays.{AllHanded, AllMeet, Finish, HasMemory, IsUnchanged, MayPlay, Outcome, Rest, RoseBy, ShowsItsOwn, Stopped, Strayed, ToTheEnd, at_end, faults_told, finish_of, finish_text, outcome_from, outcome_text}
use Rattle.pec_runs.specs.Plays.{UnchangedAlong}
use Rattle.pec_runs.specs.Plays as plays
use Rattle.pec_runs.specs.Ran.{Blames, Counts, IsAt, PlaysOn, Ran, beginning, status_at, world}
use Rattle.pec_runs.specs.ScriptLines.{Script}
use Rattle.pec_runs.specs.Statuses.{Status, status_of}
use Rattle.pec_runs.specs.Statuses as statuses
use Rattle.pec_runs.specs.Transcripts.{NoFaults, StoodStill, TellsTranscript, transcript, transcript_at}
use Rattle.pec_runs.specs.Writing.{HasEnded, IsOfEnd}
use Rattle.pec_runs.proofs.BeginningLemmas.{none_interrupted}
use Rattle.pec_runs.proofs.ClimbLemmas.{rose_in_all, rose_nowhere}
use Rattle.pec_runs.proofs.HandsLemmas.{handed_alike}
use Rattle.pec_runs.proofs.TwinLemmas.{quiet_kept, quiet_meet, quiet_memory, quiet_none, quiet_unchanged}
use Rattle.pec_runs.proofs.StageLemmas.{same_script}
use Rattle.pec_runs.proofs.StatusLemmas.{at_end_full, has_ended}

-- what the law of scripts without faults says
abbrev pub OneWay : Type 0
OneWay = (trade : Trade) (lucks : List Luck) (sites : List Site) (commands : List Command) → NoneInterrupted sites
    → length lucks ≡ length commands → AllMeet trade lucks sites commands
    → AllByRecursion GaveWhatWasKept lucks → AllByRecursion ShowsItsOwn lucks
    → All HasMemory (script trade lucks sites commands).answers
    → All IsUnchanged (script trade lucks sites commands).answers
    → ((provider : ℕ) → faults_told trade provider commands (script trade lucks sites commands).answers ≡ 0)
    → script trade lucks sites commands ≡ script trade (quiet_lucks trade sites commands) sites commands

-- what the law of lucks without faults says
abbrev pub QuietThere : Type 0
QuietThere = (trade : Trade) (sites : List Site) (commands : List Command)
    → AllQuiet trade (quiet_lucks trade sites commands) sites commands
    × (length (quiet_lucks trade sites commands) ≡ length commands)

none_rose : (n before now : ℕ) → RoseBy n before now → StoodStill before now → n ≡ 0
none_rose n before now rose still =
    let same = still.0 in let x : before + n ≤ now = rose.1 still.1 in omega (arith, same, x)

not_risen : (before now : ℕ) → HasRisen before now → StoodStill before now → ⊥
not_risen before now risen still =
    let same = still.0 in let small = still.1 in let x : before < now = risen (omega (arith, same, small)) in omega
    (arith, same, x)

pub at_end_all : (lucks : List Luck) (commands : List Command) (end : End) → length lucks ≡ length commands
    → at_end lucks commands end ≡ plays.Ends end
at_end_all [] [] end e = refl
at_end_all [] (c ∷ commands) end e = absurd (omega (arith, e))
at_end_all (l ∷ lucks) [] end e = absurd (omega (arith, e))
at_end_all (l ∷ lucks) (c ∷ commands) end e = at_end_all lucks commands end
    (let f : length lucks ≡ length commands = omega (arith, e) in f)

abbrev told_as : Told → Finish → Outcome
told_as told finish = record { answers = told.answers; after = told.after; finish = finish }

module _ (one : OneWay) (there : QuietThere) (tells : Type 0) (old_disks new_disks : Disks) (old new : Counts)
    (status : Status)
    (asked : Asked) (happened : Happened) (told : tells) (none : NoFaults old new) (end : End) where
  quiet : Script → List Luck
  quiet written = quiet_lucks (world happened) (beginning happened) written.commands

  -- a script that was played to its end
  scripts_same : (written : Script)
      → MayPlay (world happened) tells happened.spares (beginning happened) old.disks new.disks written happened.lucks ToTheEnd
      → finish_of ToTheEnd happened.lucks written ≡ plays.Ends end
      → All IsUnchanged (script (world happened) happened.lucks (beginning happened) written.commands).answers
      → script (world happened) happened.lucks (beginning happened) written.commands
      ≡ script (world happened) (quiet_lucks (world happened) (beginning happened) written.commands) (beginning happened)
      written.commands
  scripts_same written may e same_entries =
      one (world happened) happened.lucks (beginning happened) written.commands
      (none_interrupted (world happened) happened.screens happened.opening.journals)
      (at_end_full happened.lucks written.commands written.end end e).0 may.meet (may.kept told) (may.shown told)
      may.memory same_entries
      (λ p. none_rose _ (old.disks p) (new.disks p)
      (rose_in_all (world happened) happened.lucks (beginning happened) written.commands old.disks new.disks may.counts p)
      (none.disks p))

  -- without faults, too, each screen is the last spare that is left
  rest_handed : (written : Script) (rest : Rest)
      → MayPlay (world happened) tells happened.spares (beginning happened) old.disks new.disks written happened.lucks rest
      → finish_of rest happened.lucks written ≡ plays.Ends end
      → All IsUnchanged (script (world happened) happened.lucks (beginning happened) written.commands).answers
      → AllHanded (world happened) (quiet_lucks (world happened) (beginning happened) written.commands) happened.spares
      (beginning happened) written.commands
  rest_handed written ToTheEnd may e same_entries =
      handed_alike (world happened) happened.lucks (quiet_lucks (world happened) (beginning happened) written.commands)
      happened.spares (beginning happened) written.commands (scripts_same written may e same_entries) may.handed
  rest_handed written Stopped may e same_entries = cc
  rest_handed written Strayed may e same_entries = cc

  rest_same : (written : Script) (rest : Rest)
      → MayPlay (world happened) tells happened.spares (beginning happened) old.disks new.disks written happened.lucks rest
      → finish_of rest happened.lucks written ≡ plays.Ends end
      → All IsUnchanged (script (world happened) happened.lucks (beginning happened) written.commands).answers
      → outcome_from (world happened) happened.lucks rest (beginning happened) written
      ≡ outcome_from (world happened) (quiet_lucks (world happened) (beginning happened) written.commands) ToTheEnd
      (beginning happened) written
  rest_same written ToTheEnd may e same_entries =
      let full = at_end_full happened.lucks written.commands written.end end e
      in let calm = there (world happened) (beginning happened) written.commands
      in let same = scripts_same written may e same_entries
      in ap (λ (t : Told). told_as t (at_end happened.lucks written.commands written.end)) same
      ∙ ap (told_as (script (world happened) (quiet_lucks (world happened) (beginning happened) written.commands)
      (beginning happened) written.commands))
      (at_end_all happened.lucks written.commands written.end full.0
      ∙ sym (at_end_all (quiet_lucks (world happened)
      (beginning happened) written.commands) written.commands written.end calm.1))
  rest_same written Stopped may e same_entries = cc
  rest_same written Strayed may e same_entries = cc

  next_same : (written : Script) (next : Next) → PlaysOn tells old_disks new_disks old new happened written next
      → (by_next (world happened) happened.screens happened.opening happened.lucks happened.rest written next).finish ≡ plays.Ends end
      → All IsUnchanged (by_next (world happened) happened.screens happened.opening happened.lucks happened.rest written next).answers
      → by_next (world happened) happened.screens happened.opening happened.lucks happened.rest written next
      ≡ by_next (world happened) happened.screens happened.opening
      (quiet_lucks (world happened) (beginning happened) written.commands) ToTheEnd written next
  next_same written NoMore may e same_entries = rest_same written happened.rest may e same_entries
  next_same written Holds may e same_entries = refl
  next_same written (Unfits unfit) may e same_entries = refl
  next_same written Fails may e same_entries = refl
  next_same written Stops may e same_entries = refl

  next_handed : (written : Script) (next : Next) → next ≡ NoMore
      → PlaysOn tells old_disks new_disks old new happened written next
      → (by_next (world happened) happened.screens happened.opening happened.lucks happened.rest written next).finish
      ≡ plays.Ends end
      → All IsUnchanged (by_next (world happened) happened.screens happened.opening happened.lucks happened.rest written
      next).answers
      → AllHanded (world happened) (quiet_lucks (world happened) (beginning happened) written.commands) happened.spares
      (beginning happened) written.commands
  next_handed written NoMore all may e same_entries = rest_handed written happened.rest may e same_entries
  next_handed written Holds all may e same_entries = cc
  next_handed written (Unfits unfit) all may e same_entries = cc
  next_handed written Fails all may e same_entries = cc
  next_handed written Stops all may e same_entries = cc

  handed_at : (stage : Stage) (form : Form) (written : Script) → stage ≡ Begun form written
      → happened.opening.next ≡ NoMore → IsAt tells old_disks new_disks old new happened status asked stage
      → (outcome_at happened stage).finish ≡ plays.Ends end → All IsUnchanged (outcome_at happened stage).answers
      → AllHanded (world happened) (quiet_lucks (world happened) (beginning happened) written.commands) happened.spares
      (beginning happened) written.commands
  handed_at (Over other) form written begun all at e same_entries = cc
  handed_at Halted form written begun all at e same_entries = cc
  handed_at (Begun other others) form written begun all at e same_entries =
      subst (λ (w : Script). AllHanded (world happened) (quiet_lucks (world happened) (beginning happened) w.commands)
      happened.spares (beginning happened) w.commands)
      (same_script other form others written begun)
      (next_handed others happened.opening.next all at.plays e same_entries)

  pub ended_handed : (form : Form) (written : Script)
      → stage_of asked happened.hands happened.early happened.parts ≡ Begun form written
      → happened.opening.next ≡ NoMore
      → IsAt tells old_disks new_disks old new happened status asked
      (stage_of asked happened.hands happened.early happened.parts)
      → (outcome_of asked happened).finish ≡ plays.Ends end → All IsUnchanged (outcome_of asked happened).answers
      → AllHanded (world happened) (quiet_lucks (world happened) (beginning happened) written.commands) happened.spares
      (beginning happened) written.commands
  unfolding outcome_of
  ended_handed form written begun all at e same_entries =
      handed_at (stage_of asked happened.hands happened.early happened.parts) form written begun all at e same_entries

  same_at : (stage : Stage) → IsAt tells old_disks new_disks old new happened status asked stage
      → (outcome_at happened stage).finish ≡ plays.Ends end → All IsUnchanged (outcome_at happened stage).answers
      → outcome_at happened stage ≡ transcript_at happened stage
  same_at (Over other) at e same_entries = refl
  same_at Halted at e same_entries = refl
  same_at (Begun form written) at e same_entries = next_same written happened.opening.next at.plays e same_entries

  late_by : (early : Bool) (parts : Parts) (found : Option Form)
      → (outcome_at happened (by_form happened.hands early parts found)).finish ≡ plays.Ends end
      → by_form happened.hands early parts found ≡ by_form happened.hands false parts found
  late_by true parts None e = refl
  late_by true parts (Some form) e = cc
  late_by false parts found e = refl

  pub ended_same : IsAt tells old_disks new_disks old new happened status asked
      (stage_of asked happened.hands happened.early happened.parts)
      → (outcome_of asked happened).finish ≡ plays.Ends end → All IsUnchanged (outcome_of asked happened).answers
      → outcome_of asked happened ≡ transcript asked happened
  unfolding outcome_of transcript stage_of
  ended_same at e same_entries =
      same_at (by_form happened.hands happened.early happened.parts (form_in asked.words)) at e same_entries
      ∙ ap (transcript_at happened) (late_by happened.early happened.parts (form_in asked.words) e)

-- ---- a run

module _ (one : OneWay) (there : QuietThere) (asked : Asked) (status : Status)
    (unread before after : Option Bytes) (tells : Type 0)
    (old_disks new_disks : Disks) (old new : Counts)
    (ran : Ran asked status unread before after tells old_disks new_disks old new)
    (told : tells) (none : NoFaults old new) (same_entries : All IsUnchanged (outcome_of asked ran.happened).answers) where
  abbrev providers : List Provider
  providers = providers_in ran.happened.setting

  tells_transcript : HasEnded asked ran.happened status before after
      → TellsTranscript asked ran.happened status before after
  tells_transcript ended =
      let same = ended_same one there tells old_disks new_disks old new status asked ran.happened told none
      ended.end ran.is_at ended.finish same_entries
      in let finish : (transcript asked ran.happened).finish
      ≡ plays.Ends ended.end = ap (λ (o : Outcome). o.finish) (sym same) ∙ ended.finish
      in record {
        status_is = ap status_at finish ∙ ap (λ (s : Status). Some s) ended.status_is;
        written = ended.written
            ∙ ap (λ (f : Finish). followed_by before
            (answers_text providers (outcome_of asked ran.happened).answers ++ finish_text providers f))
            (sym ended.finish)
            ∙ ap (λ (o : Outcome). followed_by before (outcome_text providers o)) same;
      }

  blamed : (wanted : Status) → status ≡ wanted → Blames wanted old new
  blamed wanted e = subst (λ (s : Status). Blames s old new) e ran.blame

  start_blamed : (HasRisen old.depot new.depot) ⊎ ((p : ℕ) × HasRisen (old.disks p) (new.disks p)) → ⊥
  start_blamed (inl risen) = not_risen old.depot new.depot risen none.depot
  start_blamed (inr risen) = not_risen (old.disks risen.0) (new.disks risen.0) risen.1 (none.disks risen.0)

  by_status : (wanted : Status) → status ≡ wanted → (status ≡ statuses.NoMemory) ⊎ IsOfEnd status
  by_status statuses.Done e = inr (subst IsOfEnd (sym e) tt)
  by_status statuses.Usage e = inr (subst IsOfEnd (sym e) tt)
  by_status statuses.Refused e = inr (subst IsOfEnd (sym e) tt)
  by_status statuses.ReadFault e = absurd (not_risen old.source new.source (blamed statuses.ReadFault e) none.source)
  by_status statuses.WriteFault e = absurd (not_risen old.sink new.sink (blamed statuses.WriteFault e) none.sink)
  by_status statuses.NoMemory e = inl e
  by_status statuses.StartFault e = absurd (start_blamed (blamed statuses.StartFault e))
  by_status statuses.NotEmpty e = inr (subst IsOfEnd (sym e) tt)
  by_status statuses.NotFit e = inr (subst IsOfEnd (sym e) tt)
  by_status statuses.ClockFault e = inr (subst IsOfEnd (sym e) tt)
  by_status statuses.DoorFault e = inr (subst IsOfEnd (sym e) tt)
  by_status statuses.DiskFault e = inr (subst IsOfEnd (sym e) tt)
  by_status statuses.Changed e = inr (subst IsOfEnd (sym e) tt)
  by_status statuses.InputTooLong e = inr (subst IsOfEnd (sym e) tt)

  by_kind : (status ≡ statuses.NoMemory) ⊎ IsOfEnd status
      → (status ≡ statuses.NoMemory) ⊎ TellsTranscript asked ran.happened status before after
  by_kind (inl e) = inl e
  by_kind (inr of) = inr (tells_transcript
      (has_ended asked status unread before after tells old_disks new_disks old new ran told of))

  -- a run that began with all its journals, each of whose screens is the last spare that is left, also without faults
  pub has_its_hands : (form : Form) (written : Script)
      → stage_of asked ran.happened.hands ran.happened.early ran.happened.parts ≡ Begun form written
      → ran.happened.opening.next ≡ NoMore
      → (status ≡ statuses.NoMemory)
      ⊎ AllHanded (world ran.happened) (quiet_lucks (world ran.happened) (beginning ran.happened) written.commands)
      ran.happened.spares (beginning ran.happened) written.commands
  has_its_hands form written begun all = by_end (by_status status refl)
    where
      by_end : (status ≡ statuses.NoMemory) ⊎ IsOfEnd status
          → (status ≡ statuses.NoMemory)
          ⊎ AllHanded (world ran.happened) (quiet_lucks (world ran.happened) (beginning ran.happened) written.commands)
          ran.happened.spares (beginning ran.happened) written.commands
      by_end (inl e) = inl e
      by_end (inr of) =
          let ended = has_ended asked status unread before after tells old_disks new_disks old new ran told of
          in inr (ended_handed one there tells old_disks new_disks old new status asked ran.happened told none ended.end
          form written begun all ran.is_at ended.finish same_entries)

  pub has_one_transcript : (status ≡ statuses.NoMemory) ⊎ TellsTranscript asked ran.happened status before after
  has_one_transcript = by_kind (by_status status refl)

-- ---- there is such a run

-- where none is told as changed, none is along it
unchanged_along : (trade : Trade) (lucks : List Luck) (sites : List Site) (commands : List Command)
    → All IsUnchanged (script trade lucks sites commands).answers → UnchangedAlong trade lucks sites commands
unchanged_along trade [] sites commands all = tt
unchanged_along trade (luck ∷ lucks) sites [] all = tt
unchanged_along trade (luck ∷ lucks) sites (c ∷ commands) all =
    let here = played trade luck sites c
    in let told = (script trade lucks here.after commands).answers
    in (
      λ world sound. All-head IsUnchanged here.answer told all,
      unchanged_along trade lucks here.after commands (All-tail IsUnchanged here.answer told all),
    )

pub quiet_plays : (there : QuietThere) (trade : Trade) (tells : Type 0) (spares : List Patterns) (sites : List Site)
    (counts : ℕ → ℕ) (written : Script)
    → AllHanded trade (quiet_lucks trade sites written.commands) spares sites written.commands
    → MayPlay trade tells spares sites counts counts written (quiet_lucks trade sites written.commands) ToTheEnd
quiet_plays there trade tells spares sites counts written handed =
    let calm = there trade sites written.commands
    in let lucks = quiet_lucks trade sites written.commands
    in let kept = quiet_kept trade lucks sites written.commands calm.1 calm.0
    in record {
      enough = let e = calm.1 in omega (arith, e);
      handed = handed;
      meet = quiet_meet trade lucks sites written.commands calm.0;
      memory = quiet_memory trade lucks sites written.commands calm.0;
      counts = rose_nowhere trade lucks sites written.commands counts
          (λ p. quiet_none trade p lucks sites written.commands calm.0);
      kept = λ told. kept.0;
      shown = λ told. kept.1;
      unchanged = λ told. unchanged_along trade lucks sites written.commands
          (quiet_unchanged trade lucks sites written.commands calm.0);
      strays = tt;
    }
