-- What a status says of a run: what was written, and how far it came.
use Rattle.std.proofs.Common.{sym, ◌≡◌, ℕ, suc, ◌+◌, ◌≤◌, inl, inr, List, [], ◌∷◌, ◌++◌, Bool, true, false, length, refl, ap, subst, ◌∙◌, arith, nat_lt, Option, Some, None, Result, Ok, Err}
use Rattle.std.specs.Prelude.{if◌then◌else◌}
use Rattle.std.proofs.lemmas.List.{append-nil}
use Rattle.std.proofs.lemmas.Option.{none-some}
use Rattle.pec_types.specs.Bytes.{Bytes}
use Rattle.pec_outside.specs.Flow.{followed_by}
use Rattle.pec_directory.specs.Directory.{Provider}
use Rattle.pec_ledger.specs.Network.{Site}
use Rattle.pec_ledger.specs.Trade.{Trade}
use Rattle.pec_plays.specs.Commands.{Command, Luck, played}
use Rattle.pec_plays.specs.Scripts.{script}
use Rattle.pec_runs.specs.AnswerLines.{answers_text}
use Rattle.pec_runs.specs.Endings.{End, end_text}
use Rattle.pec_runs.specs.Endings as ends
use Rattle.pec_input.specs.Directory.{Refusal, directory_in}
use Rattle.pec_input.specs.declared.opening.TheConstants.{LONGEST_DIRECTORY}
use Rattle.pec_runs.specs.Happened.{Asked, Begun, Halted, Happened, Over, Stage, by_directory, by_form, by_next, by_script, outcome_at, outcome_of, providers_in, stage_of}
use Rattle.pec_input.specs.Parts.{Parts}
use Rattle.pec_runs.specs.Openings.{Disks, Form, Next, NoMore, Holds, Unfits, Fails, Stops, form_in}
use Rattle.pec_runs.specs.Plays.{Finish, MayPlay, Outcome, Rest, Stopped, Strayed, ToTheEnd, at_end, finish_of, finish_text, outcome_from, outcome_text}
use Rattle.pec_runs.specs.Plays as plays
use Rattle.pec_runs.specs.Ran.{Counts, IsAt, PlaysOn, Ran, Tells, TellsAs, beginning, status_at, world}
use Rattle.pec_runs.specs.ScriptLines.{Hands, Line, PassedOver, Says, SaysNone, TooLong, TooMany, Script, behind_line, said_by, script_of}
use Rattle.pec_runs.specs.Statuses.{Status, status_of}
use Rattle.pec_runs.specs.Statuses as statuses
use Rattle.pec_runs.specs.Writing.{HasEnded, IsDone, IsOfEnd, WroteAnswers}

-- ---- ends of scripts

-- a script comes to its end where each command had its luck
pub at_end_full : (lucks : List Luck) (commands : List Command) (end other : End)
    → at_end lucks commands end ≡ plays.Ends other
    → (length lucks ≡ length commands) × (end ≡ other)
at_end_full [] [] end other e = (refl, (let same : end ≡ other = cc in same))
at_end_full [] (c ∷ commands) end other e = cc
at_end_full (l ∷ lucks) [] end other e = cc
at_end_full (l ∷ lucks) (c ∷ commands) end other e =
    let more = at_end_full lucks commands end other e in (ap suc more.0, more.1)

pub at_end_not : (lucks : List Luck) (commands : List Command) (end : End)
    → (at_end lucks commands end ≡ plays.Fails → ⊥) × (at_end lucks commands end ≡ plays.Strays → ⊥)
at_end_not [] [] end = (λ e. cc, λ e. cc)
at_end_not [] (c ∷ commands) end = (λ e. cc, λ e. cc)
at_end_not (l ∷ lucks) [] end = (λ e. cc, λ e. cc)
at_end_not (l ∷ lucks) (c ∷ commands) end = at_end_not lucks commands end

-- how many answers there are
pub answers_count : (trade : Trade) (lucks : List Luck) (sites : List Site) (commands : List Command)
    → length lucks ≤ length commands
    → length (script trade lucks sites commands).answers ≡ length lucks
answers_count trade [] sites commands l = refl
answers_count trade (luck ∷ lucks) sites [] l = absurd (omega arith)
answers_count trade (luck ∷ lucks) sites (c ∷ commands) l =
    ap suc (answers_count trade lucks (played trade luck sites c).after commands (omega arith))

-- ---- runs that don't stray

module _ (tells : Type 0) (old_disks new_disks : Disks) (old new : Counts) (status : Status) (asked : Asked)
    (happened : Happened)
    (told : tells) where
  rest_strays : (written : Script) (rest : Rest) → (rest ≡ Strayed → ⊥)
      → finish_of rest happened.lucks written ≡ plays.Strays → ⊥
  rest_strays written ToTheEnd not e = (at_end_not happened.lucks written.commands written.end).1 e
  rest_strays written Stopped not e = cc
  rest_strays written Strayed not e = not refl

  never_strayed : (written : Script) (rest : Rest) (at : Rest) → rest ≡ at
      → MayPlay (world happened) tells happened.spares (beginning happened) old.disks new.disks written happened.lucks rest
      → rest ≡ Strayed → ⊥
  never_strayed written rest at e may strays =
      let same = subst (λ (r : Rest). MayPlay (world happened) tells happened.spares
      (beginning happened) old.disks new.disks written happened.lucks r) strays may
      in same.strays.untold told

  next_strays : (written : Script) (next : Next) → PlaysOn tells old_disks new_disks old new happened written next
      → (by_next (world happened) happened.screens happened.opening happened.lucks happened.rest written next).finish ≡ plays.Strays → ⊥
  next_strays written NoMore may e =
      rest_strays written happened.rest (never_strayed written happened.rest happened.rest refl may) e
  next_strays written Holds may e = cc
  next_strays written (Unfits unfit) may e = cc
  next_strays written Fails may e = cc
  next_strays written Stops may e = cc

  pub no_stray : (stage : Stage) → IsAt tells old_disks new_disks old new happened status asked stage
      → (outcome_at happened stage).finish ≡ plays.Strays → ⊥
  no_stray (Over end) at e = cc
  no_stray Halted at e = cc
  no_stray (Begun form written) at e = next_strays written happened.opening.next at.plays e

-- ---- outcomes

module _ (happened : Happened) where
  -- a run that failed at its disks answered nothing
  next_fails : (written : Script) (next : Next)
      → (by_next (world happened) happened.screens happened.opening happened.lucks happened.rest written next).finish ≡ plays.Fails
      → (by_next (world happened) happened.screens happened.opening happened.lucks happened.rest written next).answers ≡ []
  next_fails written NoMore e = absurd (not_so happened.rest e)
    where
      not_so : (rest : Rest) → finish_of rest happened.lucks written ≡ plays.Fails → ⊥
      not_so ToTheEnd e = (at_end_not happened.lucks written.commands written.end).0 e
      not_so Stopped e = cc
      not_so Strayed e = cc
  next_fails written Holds e = refl
  next_fails written (Unfits unfit) e = refl
  next_fails written Fails e = refl
  next_fails written Stops e = refl

  pub fails_early : (stage : Stage) → (outcome_at happened stage).finish ≡ plays.Fails
      → (outcome_at happened stage).answers ≡ []
  fails_early (Over end) e = refl
  fails_early Halted e = refl
  fails_early (Begun form written) e = next_fails written happened.opening.next e

-- the text of an outcome without a last line
pub no_last_line : (providers : List Provider) (outcome : Outcome) → finish_text providers outcome.finish ≡ []
    → outcome_text providers outcome ≡ answers_text providers outcome.answers
no_last_line providers outcome e =
    ap (λ (t : Bytes). answers_text providers outcome.answers ++ t) e
    ∙ append-nil (answers_text providers outcome.answers)

-- ---- statuses with a last line

finish_is : (status : Status) → IsOfEnd status → (finish : Finish) → status_at finish ≡ Some status
    → (end : End) × (finish ≡ plays.Ends end) × (status_of end ≡ status)
finish_is status of (plays.Ends end) e = (end, refl, (let same : status_of end ≡ status = cc in same))
finish_is status of plays.Stops e = cc
finish_is status of plays.Fails e = absurd (subst IsOfEnd (let same : status ≡ statuses.StartFault = cc in same) of)
finish_is status of plays.Strays e = cc

pub ends_so : (status : Status) → IsOfEnd status → (before after : Option Bytes) (text : Bytes) (finish : Finish)
    → TellsAs status before after text finish
    → ((end : End) × (finish ≡ plays.Ends end) × (status_of end ≡ status)) × (after ≡ followed_by before text)
ends_so statuses.Done of before after text finish told = (finish_is statuses.Done of finish told.0, told.1)
ends_so statuses.Usage of before after text finish told = (finish_is statuses.Usage of finish told.0, told.1)
ends_so statuses.Refused of before after text finish told = (finish_is statuses.Refused of finish told.0, told.1)
ends_so statuses.ReadFault of before after text finish told = absurd of
ends_so statuses.WriteFault of before after text finish told = absurd of
ends_so statuses.NoMemory of before after text finish told = absurd of
ends_so statuses.StartFault of before after text finish told = absurd of
ends_so statuses.NotEmpty of before after text finish told = (finish_is statuses.NotEmpty of finish told.0, told.1)
ends_so statuses.NotFit of before after text finish told = (finish_is statuses.NotFit of finish told.0, told.1)
ends_so statuses.ClockFault of before after text finish told = (finish_is statuses.ClockFault of finish told.0, told.1)
ends_so statuses.DoorFault of before after text finish told = (finish_is statuses.DoorFault of finish told.0, told.1)
ends_so statuses.DiskFault of before after text finish told = (finish_is statuses.DiskFault of finish told.0, told.1)
ends_so statuses.Changed of before after text finish told = (finish_is statuses.Changed of finish told.0, told.1)
ends_so statuses.InputTooLong of before after text finish told =
    (finish_is statuses.InputTooLong of finish told.0, told.1)

pub start_fails : (finish : Finish) → status_at finish ≡ Some statuses.StartFault → finish ≡ plays.Fails
start_fails (plays.Ends ends.Done) e = cc
start_fails (plays.Ends ends.Usage) e = cc
start_fails (plays.Ends ends.LongDirectory) e = cc
start_fails (plays.Ends ends.NoScript) e = cc
start_fails (plays.Ends (ends.DirectoryRefused fault)) e = cc
start_fails (plays.Ends (ends.NotEmpty provider)) e = cc
start_fails (plays.Ends (ends.NotFit provider unfit)) e = cc
start_fails (plays.Ends (ends.LongLine number)) e = cc
start_fails (plays.Ends ends.LongScript) e = cc
start_fails (plays.Ends (ends.LineRefused number fault)) e = cc
start_fails plays.Stops e = cc
start_fails plays.Fails e = refl
start_fails plays.Strays e = cc

-- ---- done

module _ (asked : Asked) (happened : Happened) where
  -- a script never ends so that the words are at fault, or the directory, or a disk
  abbrev IsOfScript : End → Type 0
  IsOfScript ends.Done = Unit {0}
  IsOfScript (ends.LineRefused number fault) = Unit {0}
  IsOfScript (ends.LongLine number) = Unit {0}
  IsOfScript ends.LongScript = Unit {0}
  IsOfScript _ = ⊥

  line_ends : (number : ℕ) (line : Line) (written : Script) → IsOfScript written.end
      → IsOfScript (behind_line number line written).end
  line_ends number PassedOver written is = is
  line_ends number (Says command) written is = is
  line_ends number (SaysNone fault) written is = tt
  line_ends number TooLong written is = tt
  line_ends number TooMany written is = tt

  pub script_ends : (hands : Hands) (providers : List Provider) (number : ℕ) (lines : List Bytes)
      → IsOfScript (script_of hands providers number lines).end
  script_ends hands providers number [] = tt
  script_ends hands providers number (line ∷ lines) =
      line_ends number (said_by (hands number) providers number line) (script_of hands providers (number + 1) lines)
      (script_ends hands providers (number + 1) lines)

  -- ---- how a stage ends

  abbrev EndsSo : Stage → End → Type 0
  EndsSo stage end = (outcome_at happened stage).finish ≡ plays.Ends end

  abbrev DoneAt : Stage → Type 0
  DoneAt stage = (form : Form) × (written : Script) × (stage ≡ Begun form written) × (happened.opening.next ≡ NoMore)
      × (length happened.lucks ≡ length written.commands) × (written.end ≡ ends.Done)

  rest_done : (written : Script) (rest : Rest) → finish_of rest happened.lucks written ≡ plays.Ends ends.Done
      → (length happened.lucks ≡ length written.commands) × (written.end ≡ ends.Done)
  rest_done written ToTheEnd e = at_end_full happened.lucks written.commands written.end ends.Done e
  rest_done written Stopped e = cc
  rest_done written Strayed e = cc

  next_done : (form : Form) (written : Script) (next : Next) → happened.opening.next ≡ next
      → (by_next (world happened) happened.screens happened.opening happened.lucks happened.rest written next).finish
      ≡ plays.Ends ends.Done
      → DoneAt (Begun form written)
  next_done form written NoMore is e =
      let all = rest_done written happened.rest e in (form, written, refl, is, all.0, all.1)
  next_done form written Holds is e = cc
  next_done form written (Unfits unfit) is e = cc
  next_done form written Fails is e = cc
  next_done form written Stops is e = cc

  -- before a script there is no end that is done
  not_done_by : (form : Form) (lines : List Bytes) (told : Result (List Provider) Refusal)
      → EndsSo (by_directory happened.hands form lines told) ends.Done
      → DoneAt (by_directory happened.hands form lines told)
  not_done_by form lines (Err fault) e = cc
  not_done_by form lines (Ok providers) e = next_done form (script_of happened.hands providers 1 lines) happened.opening.next refl e

  done_lines : (form : Form) (directory : Bytes) (found : Option (List Bytes))
      → EndsSo (by_script happened.hands form directory found) ends.Done
      → DoneAt (by_script happened.hands form directory found)
  done_lines form directory None e = cc
  done_lines form directory (Some lines) e = not_done_by form lines (directory_in directory) e

  done_long : (parts : Parts) (form : Form) (long : Bool)
      → EndsSo (if long then Over ends.LongDirectory else by_script happened.hands form parts.directory parts.script) ends.Done
      → DoneAt (if long then Over ends.LongDirectory else by_script happened.hands form parts.directory parts.script)
  done_long parts form true e = cc
  done_long parts form false e = done_lines form parts.directory parts.script e

  done_form : (early : Bool) (parts : Parts) (found : Option Form) → EndsSo (by_form happened.hands early parts found) ends.Done
      → DoneAt (by_form happened.hands early parts found)
  done_form true parts None e = cc
  done_form false parts None e = cc
  done_form true parts (Some form) e = cc
  done_form false parts (Some form) e = done_long parts form (nat_lt LONGEST_DIRECTORY (length parts.directory)) e

  no_form : (early : Bool) (parts : Parts) (found : Option Form) → found ≡ None
      → by_form happened.hands early parts found ≡ Over ends.Usage
  no_form true parts None e = refl
  no_form false parts None e = refl
  no_form true parts (Some form) e = absurd (none-some form (sym e))
  no_form false parts (Some form) e = absurd (none-some form (sym e))

  -- other words are at fault
  pub other_words : form_in asked.words ≡ None → (outcome_of asked happened).finish ≡ plays.Ends ends.Usage
  unfolding outcome_of stage_of
  other_words e = ap (λ (stage : Stage). (outcome_at happened stage).finish)
      (no_form happened.early happened.parts (form_in asked.words) e)

  pub is_done : (outcome_of asked happened).finish ≡ plays.Ends ends.Done → IsDone asked happened
  unfolding outcome_of stage_of
  is_done e =
      let all = done_form happened.early happened.parts (form_in asked.words) e
      in record { form = all.0; script = all.1; begun = all.2; at_hand = all.3; all = all.4; done = all.5 }

done_end : (end : End) → status_of end ≡ statuses.Done → end ≡ ends.Done
done_end ends.Done e = refl
done_end ends.Usage e = cc
done_end ends.LongDirectory e = cc
done_end ends.NoScript e = cc
done_end (ends.DirectoryRefused fault) e = cc
done_end (ends.NotEmpty provider) e = cc
done_end (ends.NotFit provider unfit) e = cc
done_end (ends.LongLine number) e = cc
done_end ends.LongScript e = cc
done_end (ends.LineRefused number fault) e = cc

-- ---- runs

module _ (asked : Asked) (status : Status) (unread before after : Option Bytes) (tells : Type 0)
    (old_disks new_disks : Disks)
    (old new : Counts) (ran : Ran asked status unread before after tells old_disks new_disks old new) where
  abbrev outcome : Outcome
  outcome = outcome_of asked ran.happened

  abbrev providers : List Provider
  providers = providers_in ran.happened.setting

  -- where disks tell what they hold, a run doesn't stray
  straight : tells → outcome.finish ≡ plays.Strays → ⊥
  unfolding outcome_of
  straight told e =
      no_stray tells old_disks new_disks old new status asked ran.happened told
      (stage_of asked ran.happened.hands ran.happened.early ran.happened.parts) ran.is_at e

  by_told : tells → Tells providers status before after outcome
      → TellsAs status before after (outcome_text providers outcome) outcome.finish
  by_told told (inl so) = so
  by_told told (inr more) = absurd (straight told more.strays)

  pub tells_as : tells → TellsAs status before after (outcome_text providers outcome) outcome.finish
  tells_as told = by_told told ran.told

  pub answers_alone : outcome.finish ≡ plays.Stops → after ≡ followed_by before (outcome_text providers outcome)
      → WroteAnswers asked ran.happened before after
  answers_alone stops held =
      held ∙ ap (followed_by before) (no_last_line providers outcome (ap (finish_text providers) stops))

  no_answers : outcome.finish ≡ plays.Fails → outcome.answers ≡ []
  unfolding outcome_of
  no_answers e = fails_early ran.happened (stage_of asked ran.happened.hands ran.happened.early ran.happened.parts) e

  pub nothing_written : outcome.finish ≡ plays.Fails → after ≡ followed_by before (outcome_text providers outcome)
      → after ≡ followed_by before []
  nothing_written fails held =
      held ∙ ap (followed_by before)
      (no_last_line providers outcome (ap (finish_text providers) fails)
      ∙ ap (answers_text providers) (no_answers fails))

  pub has_ended : tells → IsOfEnd status → HasEnded asked ran.happened status before after
  has_ended told of =
      let so = ends_so status of before after (outcome_text providers outcome) outcome.finish (tells_as told)
      in record {
        end = so.0.0;
        finish = so.0.1;
        status_is = so.0.2;
        written = so.1 ∙ ap (λ (f : Finish). followed_by before
            (answers_text providers outcome.answers ++ finish_text providers f)) so.0.1;
      }

  pub done_run : (ended : HasEnded asked ran.happened status before after) → status ≡ statuses.Done
      → IsDone asked ran.happened
  done_run ended is =
      is_done asked ran.happened (ended.finish ∙ ap plays.Ends (done_end ended.end (ended.status_is ∙ is)))
