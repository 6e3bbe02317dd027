-- A run that checks a dossier, by what its input and its lines come to.
use Rattle.std.proofs.Common.{◌≡◌, ◌⊎◌, ℕ, ◌-◌, ◌^◌, ◌≤◌, Bool, true, false, List, [], ◌∷◌, length, nat_lt, codes, inl, inr, refl, ap, sym, subst, ◌∙◌, arith, Option, None, Some, Result, Ok, Err}
use Rattle.std.specs.Prelude.{IfOk, IsErrOf, if◌then◌else◌}
use Rattle.std.proofs.lemmas.Bool.{cases_lt, le-ltb}
use Rattle.pec_types.specs.Bytes.{Bytes}
use Rattle.pec_outside.specs.Flow.{HasRisen, followed_by}
use Rattle.pec_directory.specs.Directory.{Provider}
use Rattle.pec_dossier.specs.Checks.{AreChecked, AreLeft, Checked, Dossier, by_directory, by_lines, checked_finish, checked_text, dossier_in, told_text}
use Rattle.pec_dossier.specs.Lines.{saved_in}
use Rattle.pec_dossier.specs.Reading.{BlamesDevices as LinesBlame, result_shown as lines_shown}
use Rattle.pec_dossier.specs.declared.ending.Last.{Last}
use Rattle.pec_dossier.specs.declared.ending.Last.TheVariants as lasts
use Rattle.pec_dossier.specs.declared.ending.Stop.{Stop as LinesStop}
use Rattle.pec_dossier.specs.declared.ending.Stop.TheVariants as lines
use Rattle.pec_input.specs.Directory.{Refusal, directory_in}
use Rattle.pec_input.specs.Finding.{IsAtEnd}
use Rattle.pec_input.specs.Parts.{Parts}
use Rattle.pec_input.specs.declared.opening.TheConstants.{LONGEST_DIRECTORY}
use Rattle.pec_runs.specs.Endings.{End as RunEnd, end_text}
use Rattle.pec_runs.specs.Endings as ends
use Rattle.pec_runs.specs.Happened.{Asked, Over, stage_of}
use Rattle.pec_runs.specs.Happened as runs
use Rattle.pec_runs.specs.Openings.{Run, form_in}
use Rattle.pec_runs.specs.Plays as plays
use Rattle.pec_runs.specs.Ran.{TellsAs}
use Rattle.pec_runs.specs.Reading.{AreLinesLeft}
use Rattle.pec_runs.specs.Statuses.{Status}
use Rattle.pec_top.specs.Blaming.{BlamesDevices}
use Rattle.pec_top.specs.Checking.{ended_by}
use Rattle.pec_top.specs.Inputs.{IsOver, IsTaken}
use Rattle.pec_top.specs.Shown.{result_shown, stop_shown}
use Rattle.pec_top.specs.declared.ending.End.TheVariants as last_ends
use Rattle.pec_top.specs.declared.ending.End.{End}
use Rattle.pec_top.specs.declared.ending.Stop.{Stop}
use Rattle.pec_top.specs.declared.ending.Stop.TheVariants as stops
use Rattle.pec_top.proofs.EndLemmas.{halted_told}
use Rattle.pec_top.proofs.FlowLemmas.{followed_by-nil}
use Rattle.pec_top.proofs.RunningLemmas.{no_hands, parts_are, parts_there}

-- ---- how lines ended

pub ended_shown : (run : Result Last LinesStop) → result_shown (ended_by run) ≡ lines_shown run
ended_shown (Ok lasts.Done) = refl
ended_shown (Ok lasts.Refused) = refl
ended_shown (Ok lasts.TooLong) = refl
ended_shown (Err lines.NoMemory) = refl
ended_shown (Err lines.ReadFault) = refl
ended_shown (Err lines.WriteFault) = refl

pub ended_read : (run : Result Last LinesStop) (left : Option Bytes)
    → IfOk run (λ last. last ≡ lasts.Done → IsAtEnd left)
    → IfOk (ended_by run) (λ end. end ≡ last_ends.Done → IsAtEnd left)
ended_read (Ok lasts.Done) left read = λ e. read refl
ended_read (Ok lasts.Refused) left read = λ e. cc
ended_read (Ok lasts.TooLong) left read = λ e. cc
ended_read (Err lines.NoMemory) left read = tt
ended_read (Err lines.ReadFault) left read = tt
ended_read (Err lines.WriteFault) left read = tt

pub ended_blames : (run : Result Last LinesStop) (a b c d : ℕ) → LinesBlame run a b c d
    → BlamesDevices (ended_by run) a b c d
ended_blames (Ok lasts.Done) a b c d blame = ((λ e. absurd cc), ((λ e. absurd cc), (blame.source, blame.sink)))
ended_blames (Ok lasts.Refused) a b c d blame = ((λ e. absurd cc), ((λ e. absurd cc), (blame.source, blame.sink)))
ended_blames (Ok lasts.TooLong) a b c d blame = ((λ e. absurd cc), ((λ e. absurd cc), (blame.source, blame.sink)))
ended_blames (Err lines.NoMemory) a b c d blame = ((λ e. absurd cc), ((λ e. absurd cc), (blame.source, blame.sink)))
ended_blames (Err lines.ReadFault) a b c d blame =
    ((λ e. blame.read refl), ((λ e. absurd cc), (blame.source, blame.sink)))
ended_blames (Err lines.WriteFault) a b c d blame =
    ((λ e. absurd cc), ((λ e. blame.write refl), (blame.source, blame.sink)))

-- it began with counts that are not greater
risen_since : (a first b : ℕ) → a ≤ first → first ≤ b → HasRisen first b → HasRisen a b
risen_since a first b before later rise = λ low. elim (cases_lt first (2 ^ 64 - 1)) [
  | inl less ↦ let rose = rise less in omega (arith, before, rose)
  | inr full ↦ omega (arith, later, full, low)
]

pub ended_since : (run : Result Last LinesStop) (a first b c d : ℕ) → a ≤ first → LinesBlame run first b c d
    → BlamesDevices (ended_by run) a b c d
ended_since run a first b c d before blame = ended_blames run a b c d (record {
  read = λ e. risen_since a first b before blame.source (blame.read e);
  write = blame.write;
  source = let later = blame.source in omega (arith, before, later);
  sink = blame.sink;
})

pub ended_started : (run : Result Last LinesStop) → IsErrOf (ended_by run) stops.StartFault → ⊥
ended_started (Ok lasts.Done) e = cc
ended_started (Ok lasts.Refused) e = cc
ended_started (Ok lasts.TooLong) e = cc
ended_started (Err lines.NoMemory) e = cc
ended_started (Err lines.ReadFault) e = cc
ended_started (Err lines.WriteFault) e = cc

-- ---- what an input is

abbrev Had : Type 0
Had = Result Dossier RunEnd

-- no lines of messages
told_none : (providers : List Provider) → told_text providers [] ≡ []
unfolding told_text
told_none providers = refl

-- words of a form that plays a script
abbrev a_script : Asked
a_script = record { words = codes "run" ∷ []; screens = []; spares = [] }

is_script : form_in a_script.words ≡ Some Run
is_script = refl

same_over : (one end : RunEnd) → Over one ≡ Over end → one ≡ end
same_over one end e = cc

-- an input that ends a run that plays a script ends this one
had_over : (parts : Parts) (end : RunEnd) → stage_of a_script no_hands false parts ≡ Over end → dossier_in parts ≡ Err end
unfolding stage_of dossier_in
had_over parts end = by_length (nat_lt LONGEST_DIRECTORY (length parts.directory))
  where
    long : Had
    long = Err ends.LongDirectory

    by_read : (lines : List Bytes) (read : Result (List Provider) Refusal)
        → runs.by_directory no_hands Run lines read ≡ Over end → by_directory lines read ≡ Err end
    by_read lines (Err why) e = ap (λ (one : RunEnd). (let r : Had = Err one in r)) (same_over (ends.DirectoryRefused why) end e)
    by_read lines (Ok providers) e = cc

    by_script : (script : Option (List Bytes)) → runs.by_script no_hands Run parts.directory script ≡ Over end
        → by_lines parts.directory script ≡ Err end
    by_script None e = ap (λ (one : RunEnd). (let r : Had = Err one in r)) (same_over ends.NoScript end e)
    by_script (Some lines) e = by_read lines (directory_in parts.directory) e

    by_length : (b : Bool)
        → (if b then Over ends.LongDirectory else runs.by_script no_hands Run parts.directory parts.script) ≡ Over end
        → (if b then long else by_lines parts.directory parts.script) ≡ Err end
    by_length true e = ap (λ (one : RunEnd). (let r : Had = Err one in r)) (same_over ends.LongDirectory end e)
    by_length false e = by_script parts.script e

had_read : (bytes : Bytes) (lines : List Bytes) → length bytes ≤ LONGEST_DIRECTORY → (providers : List Provider)
    → directory_in bytes ≡ Ok providers
    → dossier_in (record { directory = bytes; script = Some lines })
    ≡ Ok (record { providers = providers; saved = saved_in 1 lines })
unfolding dossier_in
had_read bytes lines short providers reads =
    ap (λ (b : Bool). if b then long else by_lines bytes (Some lines)) (le-ltb LONGEST_DIRECTORY (length bytes) short)
    ∙ ap (by_directory lines) reads
  where
    long : Had
    long = Err ends.LongDirectory

-- ---- runs

module _ (status : Status) (before after : Option Bytes) where
  abbrev Told : Option ℕ → Had → Type 0
  Told stopped had = TellsAs status before after (checked_text stopped had) (checked_finish stopped had)

  -- The input is no dossier.
  pub checked_over : (unread : Option Bytes) (text : Bytes) (last : End) (over : IsOver unread text last)
      → TellsAs status before after (end_text [] over.end) (plays.Ends over.end) → Checked status unread before after
  checked_over unread text last over told = record {
    parts = over.parts;
    stopped = None;
    input = over.input;
    told = subst (Told None) (sym (had_over over.parts over.end (over.stage a_script no_hands Run is_script))) told;
  }

  -- It is one, of these providers.
  pub checked_lines : (unread behind : Option Bytes) (providers : List Provider) → IsTaken unread behind providers
      → AreChecked providers status behind before after → Checked status unread before after
  checked_lines unread behind providers taken lines = record {
    parts = record { directory = taken.bytes; script = Some lines.lines };
    stopped = lines.stopped;
    input = parts_are unread behind taken.bytes lines.lines taken.parts (left behind lines.left);
    told = subst (Told lines.stopped)
        (sym (had_read taken.bytes lines.lines taken.short providers taken.reads)) lines.told;
  }
    where
      left : (behind : Option Bytes) → AreLeft behind lines.lines → AreLinesLeft behind lines.lines
      left None is = tt
      left (Some text) is = is

-- It was stopped before anything was to be written.
pub checked_stopped : (stop : Stop) → (stop ≡ stops.NoMemory) ⊎ (stop ≡ stops.ReadFault) → (unread before : Option Bytes)
    → Checked (stop_shown stop) unread before before
checked_stopped stop which unread before =
    let parts = parts_there unread
    in record { parts = parts.0; stopped = Some 0; input = parts.1; told = so (dossier_in parts.0) }
  where
    so : (had : Had) → TellsAs (stop_shown stop) before before (checked_text (Some 0) had) (checked_finish (Some 0) had)
    so (Err end) = halted_told stop which before before [] (sym (followed_by-nil before))
    so (Ok dossier) =
        halted_told stop which before before (told_text dossier.providers [])
        (sym (followed_by-nil before) ∙ ap (followed_by before) (sym (told_none dossier.providers)))
