-- What a status says of a run that checks a dossier.
use Rattle.std.proofs.Common.{◌≡◌, ◌⊎◌, inl, inr, ℕ, ◌+◌, ◌-◌, ◌^◌, ◌<◌, Bool, true, false, List, [], ◌∷◌, length, nat_lt, refl, ap, sym, subst, ◌∙◌, arith, Option, None, Some, Result, Ok, Err}
use Rattle.std.specs.Prelude.{if◌then◌else◌}
use Rattle.std.proofs.lemmas.Option.{none-some, same_Some}
use Rattle.pec_types.specs.Bytes.{Bytes}
use Rattle.pec_outside.specs.Flow.{HasRisen, followed_by}
use Rattle.pec_directory.specs.Directory.{Provider}
use Rattle.pec_input.specs.Directory.{Refusal, directory_in}
use Rattle.pec_input.specs.Lines.{raw_lines}
use Rattle.pec_input.specs.Parts.{Parts, parts_of}
use Rattle.pec_input.specs.declared.opening.TheConstants.{LONGEST_DIRECTORY}
use Rattle.pec_runs.specs.Endings.{End}
use Rattle.pec_runs.specs.Endings as ends
use Rattle.pec_runs.specs.Plays.{Ends, Stops}
use Rattle.pec_runs.specs.Ran.{Blames, Counts, TellsAs, status_at}
use Rattle.pec_runs.specs.Statuses.{Status, status_of}
use Rattle.pec_runs.specs.Statuses as statuses
use Rattle.pec_runs.specs.Transcripts.{NoFaults, StoodStill}
use Rattle.pec_dossier.specs.Checks.{CheckRan, Checked, Dossier, IsOfCheck, by_directory, by_lines, checked_finish, checked_text, dossier_in, end_in, saved_text}
use Rattle.pec_dossier.specs.Lines.{Line, PassedOver, Saves, SavesNone, TooLong, TooMany, behind_line, said_by, saved_in}

abbrev Had : Type 0
Had = Result Dossier End

-- ---- how an input may end

-- an end that lines, or an input that is no dossier, may have
abbrev MayEnd : End → Type 0
MayEnd end = IsOfCheck (status_of end)

lines_end : (number : ℕ) (lines : List Bytes) → MayEnd (saved_in number lines).end
lines_end number [] = tt
lines_end number (line ∷ lines) = by (said_by number line) (lines_end (number + 1) lines)
  where
    by : (what : Line) → MayEnd (saved_in (number + 1) lines).end
        → MayEnd (behind_line number what (saved_in (number + 1) lines)).end
    by PassedOver rest = rest
    by (Saves message) rest = rest
    by SavesNone rest = tt
    by TooLong rest = tt
    by TooMany rest = tt

abbrev was_long : Had
was_long = Err ends.LongDirectory

abbrev was_none : Had
was_none = Err ends.NoScript

abbrev was_refused : Refusal → Had
was_refused why = Err (ends.DirectoryRefused why)

abbrev was_read : List Provider → List Bytes → Had
was_read providers lines = Ok (record { providers = providers; saved = saved_in 1 lines })

-- what holds of each of the four that an input may be holds of it
module _ (P : Had → Type 0) (long_so : P was_long) (none_so : P was_none)
    (refused_so : (why : Refusal) → P (was_refused why))
    (read_so : (providers : List Provider) (lines : List Bytes) → P (was_read providers lines)) where
  by_told : (lines : List Bytes) (read : Result (List Provider) Refusal) → P (by_directory lines read)
  by_told lines (Ok providers) = read_so providers lines
  by_told lines (Err why) = refused_so why

  by_script : (directory : Bytes) (script : Option (List Bytes)) → P (by_lines directory script)
  by_script directory None = none_so
  by_script directory (Some lines) = by_told lines (directory_in directory)

  by_length : (parts : Parts) (long : Bool) → P (if long then was_long else by_lines parts.directory parts.script)
  by_length parts true = long_so
  by_length parts false = by_script parts.directory parts.script

  by_had : (parts : Parts) → P (dossier_in parts)
  unfolding dossier_in
  by_had parts = by_length parts (nat_lt LONGEST_DIRECTORY (length parts.directory))

input_ends : (parts : Parts) → MayEnd (end_in (dossier_in parts))
input_ends parts =
    by_had (λ (had : Had). MayEnd (end_in had)) tt tt (λ why. tt) (λ providers lines. lines_end 1 lines) parts

-- lines that are done are read to their end
done_end : (end : End) → statuses.Done ≡ status_of end → end ≡ ends.Done
done_end ends.Done e = refl
done_end ends.Usage e = absurd cc
done_end ends.LongDirectory e = absurd cc
done_end ends.NoScript e = absurd cc
done_end (ends.DirectoryRefused why) e = absurd cc
done_end (ends.NotEmpty provider) e = absurd cc
done_end (ends.NotFit provider unfit) e = absurd cc
done_end (ends.LongLine number) e = absurd cc
done_end ends.LongScript e = absurd cc
done_end (ends.LineRefused number fault) e = absurd cc

-- an input that is done is a dossier
abbrev IsDoneDossier : Had → Type 0
IsDoneDossier had = (dossier : Dossier) × (had ≡ Ok dossier) × (dossier.saved.end ≡ ends.Done)

done_had : (parts : Parts) → statuses.Done ≡ status_of (end_in (dossier_in parts)) → IsDoneDossier (dossier_in parts)
done_had parts =
    by_had (λ (had : Had). statuses.Done ≡ status_of (end_in had) → IsDoneDossier had) (λ e. absurd cc) (λ e. absurd cc)
    (λ why e. absurd cc)
    (λ providers lines e. (
      record { providers = providers; saved = saved_in 1 lines },
      refl,
      done_end (saved_in 1 lines).end e,
    )) parts

-- ---- how a run finishes

-- it ends, as its input does, or was stopped
finish_so : (stopped : Option ℕ) (had : Had)
    → ((stopped ≡ None) × (checked_finish stopped had ≡ Ends (end_in had)))
    ⊎ ((count : ℕ) × (stopped ≡ Some count) × (checked_finish stopped had ≡ Stops))
finish_so None (Ok dossier) = inl (refl, refl)
finish_so None (Err end) = inl (refl, refl)
finish_so (Some count) (Ok dossier) = inr (count, refl, refl)
finish_so (Some count) (Err end) = inr (count, refl, refl)

module _ (before after : Option Bytes) (had : Had) (stopped : Option ℕ) where
  abbrev Told : Status → Type 0
  Told status = TellsAs status before after (checked_text stopped had) (checked_finish stopped had)

  abbrev Wrote : Option ℕ → Type 0
  Wrote upto = after ≡ followed_by before (checked_text upto had)

  -- what a run wrote that came to an end, where its status says so
  came : (status : Status) → status_at (checked_finish stopped had) ≡ Some status → Wrote stopped
      → (status ≡ status_of (end_in had)) × Wrote None
  came status ends_with wrote = by (finish_so stopped had)
    where
      by : ((stopped ≡ None) × (checked_finish stopped had ≡ Ends (end_in had)))
          ⊎ ((count : ℕ) × (stopped ≡ Some count) × (checked_finish stopped had ≡ Stops))
          → (status ≡ status_of (end_in had)) × Wrote None
      by (inl ends_so) = (
        sym (same_Some (status_of (end_in had)) status (sym (ap status_at ends_so.1) ∙ ends_with)),
        subst Wrote ends_so.0 wrote,
      )
      by (inr stops_so) = absurd (none-some status (sym (ap status_at stops_so.2) ∙ ends_with))

  -- what a run wrote that was stopped
  halted : checked_finish stopped had ≡ Stops → Wrote stopped → (count : ℕ) × Wrote (Some count)
  halted stops wrote = by (finish_so stopped had)
    where
      ends_not : (end : End) → Ends end ≡ Stops → ⊥
      ends_not end e = cc

      by : ((stopped ≡ None) × (checked_finish stopped had ≡ Ends (end_in had)))
          ⊎ ((count : ℕ) × (stopped ≡ Some count) × (checked_finish stopped had ≡ Stops)) → (count : ℕ) × Wrote (Some count)
      by (inl ends_so) = absurd (ends_not (end_in had) (sym ends_so.1 ∙ stops))
      by (inr stops_so) = (stops_so.0, subst Wrote stops_so.1 wrote)

  -- such a status, or one that the end of the input has
  told_end : (status : Status) → Told status
      → (((status ≡ statuses.ReadFault) ⊎ (status ≡ statuses.NoMemory)) ⊎ (status ≡ statuses.WriteFault))
      ⊎ ((status ≡ status_of (end_in had)) × Wrote None)
  told_end statuses.ReadFault told = inl (inl (inl refl))
  told_end statuses.NoMemory told = inl (inl (inr refl))
  told_end statuses.WriteFault told = inl (inr refl)
  told_end statuses.Done told = inr (came statuses.Done told.0 told.1)
  told_end statuses.Usage told = inr (came statuses.Usage told.0 told.1)
  told_end statuses.Refused told = inr (came statuses.Refused told.0 told.1)
  told_end statuses.StartFault told = inr (came statuses.StartFault told.0 told.1)
  told_end statuses.NotEmpty told = inr (came statuses.NotEmpty told.0 told.1)
  told_end statuses.NotFit told = inr (came statuses.NotFit told.0 told.1)
  told_end statuses.ClockFault told = inr (came statuses.ClockFault told.0 told.1)
  told_end statuses.DoorFault told = inr (came statuses.DoorFault told.0 told.1)
  told_end statuses.DiskFault told = inr (came statuses.DiskFault told.0 told.1)
  told_end statuses.Changed told = inr (came statuses.Changed told.0 told.1)
  told_end statuses.InputTooLong told = inr (came statuses.InputTooLong told.0 told.1)

-- ---- the clauses

module _ (unread before after : Option Bytes) where
  abbrev Ran : Status → Type 0
  Ran status = Checked status unread before after

  abbrev WroteOf : Parts → Option ℕ → Type 0
  WroteOf parts upto = after ≡ followed_by before (checked_text upto (dossier_in parts))

  told_of_run : (status : Status) (ran : Ran status)
      → (((status ≡ statuses.ReadFault) ⊎ (status ≡ statuses.NoMemory)) ⊎ (status ≡ statuses.WriteFault))
      ⊎ ((status ≡ status_of (end_in (dossier_in ran.parts))) × WroteOf ran.parts None)
  told_of_run status ran = told_end before after (dossier_in ran.parts) ran.stopped status ran.told

  pub ended_so : (status : Status) → (status ≡ statuses.Refused) ⊎ (status ≡ statuses.InputTooLong) → (ran : Ran status)
      → (status ≡ status_of (end_in (dossier_in ran.parts))) × WroteOf ran.parts None
  ended_so status which ran = by (told_of_run status ran)
    where
      other : (one : Status) → status ≡ one → (statuses.Refused ≡ one → ⊥) → (statuses.InputTooLong ≡ one → ⊥) → ⊥
      other one e refused long = elim which [
        | inl f ↦ refused (sym f ∙ e)
        | inr f ↦ long (sym f ∙ e)
      ]

      by : (((status ≡ statuses.ReadFault) ⊎ (status ≡ statuses.NoMemory)) ⊎ (status ≡ statuses.WriteFault))
          ⊎ ((status ≡ status_of (end_in (dossier_in ran.parts))) × WroteOf ran.parts None)
          → (status ≡ status_of (end_in (dossier_in ran.parts))) × WroteOf ran.parts None
      by (inl (inl (inl e))) = absurd (other statuses.ReadFault e (λ f. cc) (λ f. cc))
      by (inl (inl (inr e))) = absurd (other statuses.NoMemory e (λ f. cc) (λ f. cc))
      by (inl (inr e)) = absurd (other statuses.WriteFault e (λ f. cc) (λ f. cc))
      by (inr so) = so

  pub done_so : (ran : Ran statuses.Done)
      → (dossier : Dossier) × (dossier_in ran.parts ≡ Ok dossier) × (dossier.saved.end ≡ ends.Done)
      × (after ≡ followed_by before (saved_text dossier.providers None dossier.saved))
  done_so ran =
      let so = came before after (dossier_in ran.parts) ran.stopped statuses.Done ran.told.0 ran.told.1
      in let had = done_had ran.parts so.0
      in (
        had.0,
        had.1,
        had.2,
        so.1 ∙ ap (λ (r : Had). followed_by before (checked_text None r)) had.1,
      )

  pub stopped_so : (status : Status) → (status ≡ statuses.ReadFault) ⊎ (status ≡ statuses.NoMemory) → (ran : Ran status)
      → (count : ℕ) × WroteOf ran.parts (Some count)
  stopped_so status (inl e) ran =
      let told = subst (Told before after (dossier_in ran.parts) ran.stopped) e ran.told
      in halted before after (dossier_in ran.parts) ran.stopped told.0 told.1
  stopped_so status (inr e) ran =
      let told = subst (Told before after (dossier_in ran.parts) ran.stopped) e ran.told
      in halted before after (dossier_in ran.parts) ran.stopped told.0 told.1

  pub no_other : (status : Status) → Ran status → IsOfCheck status
  no_other status ran = by (told_of_run status ran)
    where
      by : (((status ≡ statuses.ReadFault) ⊎ (status ≡ statuses.NoMemory)) ⊎ (status ≡ statuses.WriteFault))
          ⊎ ((status ≡ status_of (end_in (dossier_in ran.parts))) × WroteOf ran.parts None) → IsOfCheck status
      by (inl (inl (inl e))) = subst IsOfCheck (sym e) tt
      by (inl (inl (inr e))) = subst IsOfCheck (sym e) tt
      by (inl (inr e)) = subst IsOfCheck (sym e) tt
      by (inr so) = subst IsOfCheck (sym so.0) (input_ends ran.parts)

not_risen : (old new : ℕ) → StoodStill old new → HasRisen old new → ⊥
not_risen old new still risen =
    let same : new ≡ old = still.0
    in let low : new < 2 ^ 64 - 1 = still.1
    in let more : old < new = risen (omega (arith, same, low)) in omega (arith, same, more)

-- all was written that the input comes to, with the status of its end
abbrev EndsAs : Status → Option Bytes → Option Bytes → Parts → Type 0
EndsAs status before after parts =
    (status ≡ status_of (end_in (dossier_in parts))) × (after ≡ followed_by before (checked_text None (dossier_in parts)))

pub whole_so : (status : Status) (text : Bytes) (before after : Option Bytes) (old new : Counts)
    → CheckRan status (Some text) before after old new → NoFaults old new
    → (status ≡ statuses.NoMemory)
    ⊎ ((status ≡ status_of (end_in (dossier_in (parts_of (raw_lines text)))))
    × (after ≡ followed_by before (checked_text None (dossier_in (parts_of (raw_lines text))))))
whole_so status text before after old new ran none =
    by (told_of_run (Some text) before after status ran.checked)
  where
    parts : Parts
    parts = ran.checked.parts

    is : parts ≡ parts_of (raw_lines text)
    is = ran.checked.input

    by : (((status ≡ statuses.ReadFault) ⊎ (status ≡ statuses.NoMemory)) ⊎ (status ≡ statuses.WriteFault))
        ⊎ ((status ≡ status_of (end_in (dossier_in parts))) × WroteOf (Some text) before after parts None)
        → (status ≡ statuses.NoMemory) ⊎ EndsAs status before after (parts_of (raw_lines text))
    by (inl (inl (inl e))) =
        absurd (not_risen old.source new.source none.source (subst (λ (s : Status). Blames s old new) e ran.blame))
    by (inl (inl (inr e))) = inl e
    by (inl (inr e)) =
        absurd (not_risen old.sink new.sink none.sink (subst (λ (s : Status). Blames s old new) e ran.blame))
    by (inr so) = inr (subst (EndsAs status before after) is so)
