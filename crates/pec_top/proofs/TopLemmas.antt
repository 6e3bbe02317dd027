-- What a status blames, by what stopped the run; and which task words are.
use Rattle.std.proofs.Common.{◌≡◌, ℕ, Bool, true, false, List, Option, Some, None, Result, Ok, Err, refl, ap, sym, subst, ◌∙◌}
use Rattle.std.specs.Prelude.{IfErr, IfOk, IsErrOf, if◌then◌else◌}
use Rattle.pec_types.specs.Bytes.{Bytes}
use Rattle.pec_outside.specs.Flow.{HasRisen}
use Rattle.pec_input.specs.Finding.{IsAtEnd}
use Rattle.pec_dossier.specs.Checks.{asks_check}
use Rattle.pec_dossier.specs.Exports.{asks_ldif}
use Rattle.pec_dossier.specs.Extracts.{Range, extracts_in}
use Rattle.pec_load_runs.specs.Loading.{loads_in}
use Rattle.pec_runs.specs.Openings.{Form, form_in}
use Rattle.pec_runs.specs.Ran.{Blames, Counts}
use Rattle.pec_runs.specs.Statuses as statuses
use Rattle.pec_service.specs.Runs.{wanted_in}
use Rattle.pec_top.specs.Blaming.{BlamesDevices, BlamesDisks}
use Rattle.pec_top.specs.Shown.{end_shown, result_shown, stop_shown}
use Rattle.pec_top.specs.Tasks.{Checks, Exports, NoForm, Plays, extracts_or, loads_or, plays_or, serves_or, task_in}
use Rattle.pec_top.specs.declared.ending.End.{End}
use Rattle.pec_top.specs.declared.ending.End.TheVariants as ends
use Rattle.pec_top.specs.declared.ending.Stop.{Stop}
use Rattle.pec_top.specs.declared.ending.Stop.TheVariants as stops

pub blames_stop : (stop : Stop) (old new : Counts)
    → BlamesDevices {T = End} (Err stop) old.source new.source old.sink new.sink
    → BlamesDisks {T = End} (Err stop) old.depot new.depot old.disks new.disks → Blames (stop_shown stop) old new
blames_stop stops.NoMemory old new devices disks = tt
blames_stop stops.ReadFault old new devices disks = devices.0 refl
blames_stop stops.WriteFault old new devices disks = devices.1.0 refl
blames_stop stops.StartFault old new devices disks = disks refl
blames_stop stops.ClockFault old new devices disks = tt
blames_stop stops.DoorFault old new devices disks = tt

pub blames_end : (end : End) (old new : Counts) → Blames (end_shown end) old new
blames_end ends.Done old new = tt
blames_end ends.Usage old new = tt
blames_end ends.Refused old new = tt
blames_end ends.NotEmpty old new = tt
blames_end ends.NotFit old new = tt
blames_end ends.TooLong old new = tt

abbrev stopped : Stop → Result End Stop
stopped stop = Err stop

abbrev ended : End → Result End Stop
ended end = Ok end

-- a run that only wrote blames nothing but its output
pub blames_written : (result : Result End Stop) (old new : Counts) → IfErr result (λ stop. stop ≡ stops.WriteFault)
    → (IsErrOf result stops.WriteFault → HasRisen old.sink new.sink) → Blames (result_shown result) old new
blames_written (Ok end) old new is risen = blames_end end old new
blames_written (Err stop) old new is risen =
    subst (λ (s : Stop). Blames (stop_shown s) old new) (sym is) (risen (ap stopped is))

pub blames_result : (result : Result End Stop) (old new : Counts)
    → BlamesDevices result old.source new.source old.sink new.sink
    → BlamesDisks result old.depot new.depot old.disks new.disks → Blames (result_shown result) old new
blames_result (Ok end) old new devices disks = blames_end end old new
blames_result (Err stop) old new devices disks = blames_stop stop old new devices disks

-- ---- how it ended

same_end : (a b : End) → ended a ≡ ended b → a ≡ b
same_end a b e = cc

-- where it is done its input was read
pub ended_read : (result : Result End Stop) (left : Option Bytes) → result ≡ Ok ends.Done
    → IfOk result (λ end. end ≡ ends.Done → IsAtEnd left) → IsAtEnd left
ended_read (Ok end) left is read = read (same_end end ends.Done is)
ended_read (Err stop) left is read = cc

-- only a run that ended as done has that status
pub done_only : (run : Result End Stop) → result_shown run ≡ statuses.Done → run ≡ Ok ends.Done
done_only (Ok ends.Done) e = refl
done_only (Ok ends.Usage) e = cc
done_only (Ok ends.Refused) e = cc
done_only (Ok ends.NotEmpty) e = cc
done_only (Ok ends.NotFit) e = cc
done_only (Ok ends.TooLong) e = cc
done_only (Err stops.NoMemory) e = cc
done_only (Err stops.ReadFault) e = cc
done_only (Err stops.WriteFault) e = cc
done_only (Err stops.StartFault) e = cc
done_only (Err stops.ClockFault) e = cc
done_only (Err stops.DoorFault) e = cc

pub usage_undone : (P : Type 0) (result : Result End Stop) → result ≡ Ok ends.Done
    → IfOk result (λ end. (end ≡ ends.Usage) × P) → ⊥
usage_undone P (Ok end) is ok = apart (sym (same_end end ends.Done is) ∙ ok.0)
  where
    apart : ends.Done ≡ ends.Usage → ⊥
    apart e = cc
usage_undone P (Err stop) is ok = cc

-- ---- tasks

plays_form : (ldif check : Bool) (range : Option Range) (loads wanted : Option ℕ) (found : Option Form) (form : Form)
    → Plays form
    ≡ (if ldif then Exports
    else (if check then Checks else extracts_or range (loads_or loads (serves_or wanted (plays_or found NoForm)))))
    → found ≡ Some form
plays_form true check range loads wanted found form e = cc
plays_form false true range loads wanted found form e = cc
plays_form false false (Some range) loads wanted found form e = cc
plays_form false false None (Some count) wanted found form e = cc
plays_form false false None None (Some number) found form e = cc
plays_form false false None None None (Some other) form e = cc
plays_form false false None None None None form e = cc

-- words that ask to play say the form
pub form_played : (words : List Bytes) (form : Form) → Plays form ≡ task_in words → form_in words ≡ Some form
form_played words form e =
    plays_form (asks_ldif words) (asks_check words) (extracts_in words) (loads_in words) (wanted_in words) (form_in words)
    form e

lacks_form : (ldif check : Bool) (range : Option Range) (loads wanted : Option ℕ) (found : Option Form)
    → NoForm
    ≡ (if ldif then Exports
    else (if check then Checks else extracts_or range (loads_or loads (serves_or wanted (plays_or found NoForm)))))
    → found ≡ None
lacks_form true check range loads wanted found e = cc
lacks_form false true range loads wanted found e = cc
lacks_form false false (Some range) loads wanted found e = cc
lacks_form false false None (Some count) wanted found e = cc
lacks_form false false None None (Some number) found e = cc
lacks_form false false None None None (Some other) e = cc
lacks_form false false None None None None e = refl

-- words that ask for nothing are no form
pub form_none : (words : List Bytes) → NoForm ≡ task_in words → form_in words ≡ None
form_none words e =
    lacks_form (asks_ldif words) (asks_check words) (extracts_in words) (loads_in words) (wanted_in words) (form_in words) e
