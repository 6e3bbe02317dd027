-- A run whose journals can't all be had.
use Rattle.std.proofs.Common.{◌≡◌, ◌≢◌, ℕ, ◌<◌, ◌≤◌, ◌⊎◌, inl, inr, Bool, false, List, [], ◌∷◌, refl, ap, sym, subst, ◌∙◌}
use Rattle.std.proofs.Common.{arith, length, get_or, Option, Some, None, Result, Ok, Err}
use Rattle.std.specs.Prelude.{IsErrOf}
use Rattle.std.proofs.lemmas.Bool.{cases_eq, cases_lt}
use Rattle.std.proofs.lemmas.Option.{none-some}
use Rattle.pec_screen.specs.Verdicts.{Patterns}
use Rattle.pec_serving.specs.OfNetworks.{ProviderState}
use Rattle.pec_types.specs.Bytes.{Bytes}
use Rattle.pec_outside.specs.DiskModel.{Sight}
use Rattle.pec_directory.specs.Directory.{Kept, Provider, providers_of}
use Rattle.pec_input.specs.Directory.{directory_in}
use Rattle.pec_input.specs.Opening.{parts_left}
use Rattle.pec_input.specs.declared.opening.TheConstants.{LONGEST_DIRECTORY}
use Rattle.pec_ledger.specs.Trade.{Trade}
use Rattle.pec_serving.specs.OfNetworks.{IsAbout, IsRefused, StartFault}
use Rattle.pec_serving.specs.OfNetworks.faults as faults
use Rattle.pec_runs.specs.Endings as ends
use Rattle.pec_runs.specs.Happened.{Asked, Happened, Setting, by_next, trade_in}
use Rattle.pec_runs.specs.Openings.{Disks, HasLines, Next, NoMore, Holds, Unfits, Fails, Stops, Opening, disks_at, form_in, next_of, opened_all}
use Rattle.pec_runs.specs.Openings as runs
use Rattle.pec_runs.specs.Plays.{Finish, Stopped, finish_text}
use Rattle.pec_runs.specs.Plays as plays
use Rattle.pec_runs.specs.Ran.{Behind, Counts, LeavesOff, PlaysOn, Tells, TellsAs, WritesAt, command_in_hand}
use Rattle.pec_runs.specs.ScriptLines.{Script, script_of}
use Rattle.pec_runs.specs.Statuses.{Status}
use Rattle.pec_runs.specs.Statuses as statuses
use Rattle.pec_runs.specs.Through.{AreHadFrom}
use Rattle.pec_top.specs.Running.{RanSoOver, disk_counts, parts_behind}
use Rattle.pec_top.specs.Blaming.{HasLine}
use Rattle.pec_top.specs.Shown.{form_shown, result_shown, way_of}
use Rattle.pec_top.specs.declared.ending.End.{End as Last}
use Rattle.pec_top.specs.declared.ending.End.TheVariants as lasts
use Rattle.pec_top.specs.declared.ending.Stop.{Stop}
use Rattle.pec_top.specs.declared.ending.Stop.TheVariants as stops
use Rattle.pec_service.specs.Runs.{finish_at}
use Rattle.pec_top.specs.Opened.{Finishes, Halted, IsUnopened, Refused, Unlooked, next_by, provider_named}
use Rattle.pec_top.specs.declared.forms.Form.{Form}
use Rattle.pec_top.specs.declared.forms.Form.TheVariants as forms
use Rattle.pec_top.specs.declared.opening.Journals.TheVariants as journals
use Rattle.pec_top.specs.declared.opening.Refusal.{Refusal}
use Rattle.pec_top.specs.declared.opening.Refusal.TheVariants as refusals
use Rattle.pec_top.proofs.LineReadLemmas.{lines_there}
use Rattle.pec_top.proofs.RunningLemmas.{no_hands}
use Rattle.pec_top.proofs.ThroughLemmas.{halted_through, stopped_through}

-- a refusal is of the next provider
pub names_next : (form : Form) (me : ℕ) (fault : StartFault) → IsAbout (way_of form) me fault
    → provider_named me fault ≡ me
names_next forms.Run me (faults.NotEmpty number) about = about
names_next forms.Run me (faults.DiskFault number) about = about
names_next forms.Run me (faults.NotFit number why) about = absurd about
names_next forms.Run me faults.NoMemory about = refl
names_next forms.Resume me (faults.NotEmpty number) about = absurd about
names_next forms.Resume me (faults.DiskFault number) about = about
names_next forms.Resume me (faults.NotFit number why) about = about
names_next forms.Resume me faults.NoMemory about = refl

next_known : (fault : StartFault) → next_by fault ≡ NoMore → ⊥
next_known (faults.NotEmpty number) e = cc
next_known (faults.DiskFault number) e = cc
next_known (faults.NotFit number why) e = cc
next_known faults.NoMemory e = cc

stops_known : Stops ≡ NoMore → ⊥
stops_known e = cc

pub not_all : (fault : StartFault) (next : Next) → (next ≡ next_by fault) ⊎ (next ≡ Stops) → next ≡ NoMore → ⊥
not_all fault next (inl e) none = next_known fault (sym e ∙ none)
not_all fault next (inr e) none = stops_known (sym e ∙ none)

module _ (trade : Trade) (screens : List (List Patterns)) (providers : List Provider) (opening : Opening) (script : Script) (status : Status) where
  tells_next : (before after : Option Bytes) (next : Next) → (next ≡ NoMore → ⊥)
      → TellsAs status before after (finish_text providers (finish_at false (next_of opening) next))
      (finish_at false (next_of opening) next)
      → Tells providers status before after (by_next trade screens opening [] Stopped script next)
  tells_next before after NoMore some told = absurd (some refl)
  tells_next before after Holds some told = inl told
  tells_next before after (Unfits unfit) some told = inl told
  tells_next before after Fails some told = inl told
  tells_next before after Stops some told = inl told

  leaves_next : (next : Next) → (next ≡ NoMore → ⊥)
      → LeavesOff trade (by_next trade screens opening [] Stopped script next).after
      (command_in_hand status next Stopped [] script) (opened_all trade screens opening.journals)
  leaves_next NoMore some = absurd (some refl)
  leaves_next Holds some = Behind refl
  leaves_next (Unfits unfit) some = Behind refl
  leaves_next Fails some = Behind refl
  leaves_next Stops some = Behind refl

plays_next : (tells : Type 0) (old_disks new_disks : Disks) (old new : Counts) (happened : Happened) (script : Script)
    (next : Next) → (next ≡ NoMore → ⊥) → PlaysOn tells old_disks new_disks old new happened script next
plays_next tells old_disks new_disks old new happened script NoMore some = absurd (some refl)
plays_next tells old_disks new_disks old new happened script Holds some = tt
plays_next tells old_disks new_disks old new happened script (Unfits unfit) some = tt
plays_next tells old_disks new_disks old new happened script Fails some = tt
plays_next tells old_disks new_disks old new happened script Stops some = tt

-- a run that ended, or was stopped, with the status of a failed output was stopped by that
failed_output : (result : Result Last Stop) → result_shown result ≡ statuses.WriteFault → IsErrOf result stops.WriteFault
failed_output (Ok lasts.Done) e = cc
failed_output (Ok lasts.Usage) e = cc
failed_output (Ok lasts.Refused) e = cc
failed_output (Ok lasts.NotEmpty) e = cc
failed_output (Ok lasts.NotFit) e = cc
failed_output (Ok lasts.TooLong) e = cc
failed_output (Err stops.NoMemory) e = cc
failed_output (Err stops.ReadFault) e = cc
failed_output (Err stops.WriteFault) e = refl
failed_output (Err stops.StartFault) e = cc
failed_output (Err stops.ClockFault) e = cc
failed_output (Err stops.DoorFault) e = cc

fails_not : (end : ends.End) → plays.Fails ≡ plays.Ends end → ⊥
fails_not end e = cc

stops_not : (end : ends.End) → plays.Stops ≡ plays.Ends end → ⊥
stops_not end e = cc

-- a refusal that has a line has one by what came of the disk
lines_by : (providers : List Provider) (refusal : Refusal) (holds : Bool) (number : ℕ) (next : Next) → HasLine refusal
    → Finishes providers refusal (finish_at holds number next) → HasLines next
lines_by providers refusal holds number NoMore line given = tt
lines_by providers refusal holds number Holds line given = tt
lines_by providers refusal holds number (Unfits unfit) line given = tt
lines_by providers (refusals.NotEmpty text) holds number Fails line given = absurd (fails_not _ given.1)
lines_by providers (refusals.NotFit text) holds number Fails line given = absurd (fails_not _ given.2)
lines_by providers refusals.StartFault holds number Fails line given = line
lines_by providers refusals.NoMemory holds number Fails line given = line
lines_by providers (refusals.NotEmpty text) holds number Stops line given = absurd (stops_not _ given.1)
lines_by providers (refusals.NotFit text) holds number Stops line given = absurd (stops_not _ given.2)
lines_by providers refusals.StartFault holds number Stops line given = line
lines_by providers refusals.NoMemory holds number Stops line given = line

pub refused_lines : (providers : List Provider) (refusal : Refusal) (result : Result Last Stop) (holds : Bool) (number : ℕ)
    (next : Next) → (IsErrOf result stops.WriteFault → HasLine refusal)
    → Finishes providers refusal (finish_at holds number next) → WritesAt (result_shown result) next
refused_lines providers refusal result holds number next line given failed =
    lines_by providers refusal holds number next (line (failed_output result failed)) given

-- A run in a form that plays a script whose journals can't all be had.
pub ran_unopened : {D : Type 0} (asked : Asked) (way : Form) → form_in asked.words ≡ Some (form_shown way) → (bytes : Bytes)
    → length bytes ≤ LONGEST_DIRECTORY → (kept : List Kept) → directory_in bytes ≡ Ok (providers_of kept)
    → (refusal : Refusal) (status : Status) (unread behind before after : Option Bytes) (tells : Type 0) (sight : D → Sight) (faults : D → ℕ)
    (home left : ℕ → Option D) (from upto : ℕ → ℕ) → parts_left unread ≡ parts_behind bytes behind
    → ((providers : List Provider) (finish : Finish) → Finishes providers refusal finish
    → TellsAs status before after (finish_text providers finish) finish)
    → ((providers : List Provider) (holds : Bool) (number : ℕ) (next : Next)
    → Finishes providers refusal (finish_at holds number next) → WritesAt status next)
    → IsUnopened (journals.As way) asked.screens kept (disks_at tells sight home) (disks_at tells sight left)
    (λ form trade. AreHadFrom sight tells form trade home left) refusal
    → RanSoOver tells sight faults asked status unread before after home left from upto
ran_unopened asked way is bytes short kept opens refusal status unread behind before after tells sight faults home left from upto input
    told lines (Halted none untouched went) =
    halted_through asked unread before after tells sight faults home left from upto untouched went (form_shown way) status is
    (told [] plays.Stops (subst (λ (r : Refusal). Finishes [] r plays.Stops) (sym none) refl))
ran_unopened asked way is bytes short kept opens refusal status unread behind before after tells sight faults home left from upto input
    told lines (Unlooked seals chosen failed setting untouched went) = absurd (apart chosen)
  where
    apart : journals.As way ≡ journals.Chosen → ⊥
    apart e = cc
ran_unopened asked way is bytes short kept opens refusal status unread behind before after tells sight faults home left from upto input
    told lines (Refused seals at) =
    let setting : Setting = record { kept = kept; seals = seals }
    in let trade = trade_in setting
    in let providers = providers_of kept
    in let rest = lines_there behind
    in let script = script_of no_hands providers 1 rest.0
    in let happened : Happened = record {
      parts = record { directory = bytes; script = Some rest.0 };
      early = false;
      setting = setting;
      screens = asked.screens;
      spares = asked.spares;
      hands = no_hands;
      opening = at.opening;
      lucks = [];
      rest = Stopped;
    }
    in let finish = subst (λ (h : Bool). Finishes providers refusal (finish_at h (next_of at.opening) at.opening.next))
    at.may_hold at.finishes
    in stopped_through asked at.form (is ∙ ap (λ (f : runs.Form). Some f) (sym at.is_form)) bytes short setting opens at.is_setting
    tells sight faults home left from upto no_hands rest.0 at.opening [] Stopped status unread behind before after
    (opened_all trade asked.screens at.opening.journals) input rest.1 at.is_opening
    (lines providers at.holds (next_of at.opening) at.opening.next at.finishes)
    (plays_next tells (disks_at tells sight home) (disks_at tells sight left) (disk_counts from) (disk_counts upto) happened
    script at.opening.next at.some)
    (leaves_next trade asked.screens providers at.opening script status at.opening.next at.some) at.left
    (tells_next trade asked.screens providers at.opening script status before after at.opening.next at.some
    (told providers (finish_at false (next_of at.opening) at.opening.next) finish)) at.some at.went

-- each disk that was at home is at home again
module _ {D : Type 0} (home_tells reads : Type 0) (sight : D → Sight) (kept : List Kept) (form : Form)
    (home new : ℕ → Option D) (fault : StartFault)
    (refused : IsRefused home_tells reads sight kept (way_of form) home new fault) (told : home_tells) where
  abbrev me : ℕ
  me = length refused.providers

  first : (xs : List (ProviderState D)) (k : ℕ) → k < length xs → ProviderState D
  first [] k l = absurd (omega (arith, l))
  first (x ∷ xs) k l = x

  at_next : (was : Option D) → home me ≡ was → home me ≢ None → new me ≢ None
  at_next None e some gone = some e
  at_next (Some disk) e some gone =
      let back = refused.next told disk e in none-some back.now (sym gone ∙ back.is)

  behind_it : (k : ℕ) → (k ≡ me) ⊎ (k ≡ me → ⊥) → me ≤ k → home k ≢ None → new k ≢ None
  behind_it k (inl same) past some gone =
      at_next (home me) refl (subst (λ (n : ℕ). home n ≢ None) same some) (ap new (sym same) ∙ gone)
  behind_it k (inr differs) past some gone =
      some (sym (refused.behind told k (let d = differs in omega (arith, past, d))) ∙ gone)

  at_any : (k : ℕ) → (k < me) ⊎ (me ≤ k) → home k ≢ None → new k ≢ None
  at_any k (inl within) some gone =
      let x = first refused.providers k within
      in none-some (get_or refused.providers k x).chronicle.disk (sym gone ∙ refused.home told k x within)
  at_any k (inr past) some gone = behind_it k (cases_eq k me) past some gone

  pub home_again : (k : ℕ) → home k ≢ None → new k ≢ None
  home_again k = at_any k (cases_lt k me)
