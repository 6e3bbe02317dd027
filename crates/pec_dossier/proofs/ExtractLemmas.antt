-- What a status says of a run that writes an extract of logs.
use Rattle.std.proofs.Common.{◌≡◌, ◌≢◌, ℕ, ◌<◌, ◌≤◌, Bool, List, [], length, refl, ap, subst, sym, ◌∙◌, arith, ◌⊎◌, inl, inr, Option, Some, Result, Ok, Err}
use Rattle.std.proofs.lemmas.Option.{none-some, same_Some}
use Rattle.pec_types.specs.Bytes.{Bytes}
use Rattle.pec_outside.specs.DiskModel.{Sight}
use Rattle.pec_outside.specs.Flow.{HasRisen, WrotePart, followed_by}
use Rattle.pec_directory.specs.Directory.{Provider}
use Rattle.pec_records.specs.declared.entries.Entry.{Entry}
use Rattle.pec_ledger.specs.Trade.{Trade}
use Rattle.pec_input.specs.Directory.{Refusal, directory_in}
use Rattle.pec_input.specs.declared.opening.TheConstants.{LONGEST_DIRECTORY}
use Rattle.pec_script.specs.declared.answers.Unfit.{Unfit}
use Rattle.pec_dossier.specs.Extracts.{ExtractRan, Extracted, Extracts, GoesOn, HasHeader, IsAt, IsOfExtract, Range, TellsHeader}
use Rattle.pec_dossier.specs.Extracts.{finish_at}
use Rattle.pec_runs.specs.Endings.{End, end_text}
use Rattle.pec_runs.specs.Endings as ends
use Rattle.pec_runs.specs.Happened.{IsSetting, Setting, providers_in, trade_in}
use Rattle.pec_runs.specs.Openings.{Form, IsNext, Next, NoMore, Holds, Unfits, Fails, Opening, Resume, Run, disks_at, next_of}
use Rattle.pec_runs.specs.Openings as openings
use Rattle.pec_runs.specs.Plays.{Ends, Finish, Stops, finish_text}
use Rattle.pec_runs.specs.Plays as plays
use Rattle.pec_runs.specs.Ran.{Blames, Counts, TellsAs, status_at}
use Rattle.pec_runs.specs.Statuses.{Status, status_of}
use Rattle.pec_runs.specs.Statuses as statuses
use Rattle.pec_runs.specs.Complete.{CanBegin}
use Rattle.pec_runs.specs.Transcripts.{NoFaults}
use Rattle.pec_runs.specs.Transcripts.{StoodStill}
use Rattle.pec_dossier.specs.Exports.{providers_had}
use Rattle.pec_dossier.proofs.ExportLemmas.{Had, by_had}

-- ---- statuses of finishes

-- a run that was stopped has no status of an end
stopped_not : (status : Status) → status_at Stops ≡ Some status → ⊥
stopped_not status e = none-some status e

end_is : (end : End) (status : Status) → status_at (Ends end) ≡ Some status → status_of end ≡ status
end_is end status e = same_Some (status_of end) status e

fails_is : (status : Status) → status_at plays.Fails ≡ Some status → statuses.StartFault ≡ status
fails_is status e = same_Some statuses.StartFault status e

module _ (text_of : Range → Trade → List Provider → List (List Entry) → Bytes) (header : Bytes) {D : Type 0}
    (tells : Type 0) (sight : D → Sight) (faults : D → ℕ) (range : Range) (before after : Option Bytes) (home left : ℕ → Option D)
    (from upto : ℕ → ℕ) where
  abbrev Ran : Status → Option Bytes → Type 0
  Ran status unread = Extracted text_of header tells sight faults range status before after home left from upto unread

  abbrev At : Status → Setting → Opening → Had → Type 0
  At status = IsAt text_of header tells sight faults range status before after home left from upto

  abbrev Goes : Status → Setting → Opening → Next → Type 0
  Goes status = GoesOn text_of header tells sight faults range status before after home left from upto

  abbrev Writes : Status → Setting → List (List Entry) → Type 0
  Writes status = Extracts text_of header tells sight faults range status before after home left from upto

  abbrev CameNext : Setting → Opening → Next → Type 0
  CameNext setting opening next = IsNext (trade_in setting) (disks_at tells sight home) Resume (next_of opening) next

  -- ---- by how the run finished

  -- What holds of a status, where it holds of each way to finish without the text, and of the text.
  module _ (status : Status) (Goal : Type 0) (setting : Setting) (opening : Opening) (bytes : Bytes)
      (stopped_so : TellsAs status before after [] Stops → Goal)
      (long_so : LONGEST_DIRECTORY < length bytes → TellsAs status before after (end_text [] ends.LongDirectory)
      (Ends ends.LongDirectory) → Goal)
      (refused_so : (why : Refusal) → directory_in bytes ≡ Err why
      → TellsAs status before after (end_text [] (ends.DirectoryRefused why)) (Ends (ends.DirectoryRefused why)) → Goal)
      (opened_so : (providers : List Provider) → directory_in bytes ≡ Ok providers → IsSetting providers setting
      → CameNext setting opening opening.next → Goes status setting opening opening.next → Goal) where
    by_at : (early : Bool) → At status setting opening (providers_had early bytes) → Goal
    by_at early = by_had (λ had. At status setting opening had → Goal) bytes (λ at. stopped_so at.told)
        (λ long at. long_so long at.told) (λ why is at. refused_so why is at.told)
        (λ providers is at. opened_so providers is at.0 at.1.is.next at.1.goes_on) early

  -- ---- status 0

  -- The input was this directory, all its journals were opened, and this is so of their text.
  abbrev WasText : Setting → Opening → Bytes → (Bytes → Type 0) → Type 0
  WasText setting opening bytes So =
      (providers : List Provider) × (directory_in bytes ≡ Ok providers) × IsSetting providers setting
      × (opening.next ≡ NoMore)
      × (tells → So (text_of range (trade_in setting) (providers_in setting) opening.journals))

  abbrev IsNone : Next → Type 0
  IsNone next = next ≡ NoMore

  next_done : (setting : Setting) (opening : Opening) (next : Next) → Goes statuses.Done setting opening next
      → IsNone next × (tells → after ≡ followed_by before (text_of range (trade_in setting) (providers_in setting) opening.journals))
  next_done setting opening NoMore goes = (refl, goes.told)
  next_done setting opening Holds goes = absurd (so (end_is (ends.NotEmpty (next_of opening)) statuses.Done goes.told.0))
    where
      so : statuses.NotEmpty ≡ statuses.Done → ⊥
      so e = cc
  next_done setting opening (Unfits unfit) goes =
      absurd (so (end_is (ends.NotFit (next_of opening) unfit) statuses.Done goes.told.0))
    where
      so : statuses.NotFit ≡ statuses.Done → ⊥
      so e = cc
  next_done setting opening Fails goes = absurd (so (fails_is statuses.Done goes.told.0))
    where
      so : statuses.StartFault ≡ statuses.Done → ⊥
      so e = cc
  next_done setting opening openings.Stops goes = absurd (stopped_not statuses.Done goes.told.0)

  pub done_so : (unread : Option Bytes) → (ran : Ran statuses.Done unread)
      → WasText ran.setting ran.opening ran.bytes (λ text. after ≡ followed_by before text)
  done_so unread ran =
      by_at statuses.Done (WasText ran.setting ran.opening ran.bytes (λ text. after ≡ followed_by before text))
      ran.setting ran.opening ran.bytes
      (λ told. absurd (stopped_not statuses.Done told.0))
      (λ long told. absurd (too_long (end_is ends.LongDirectory statuses.Done told.0)))
      (λ why is told. absurd (refused (end_is (ends.DirectoryRefused why) statuses.Done told.0)))
      (λ providers is setting came goes.
      let so = next_done ran.setting ran.opening ran.opening.next goes in (providers, is, setting, so.0, so.1))
      ran.early ran.is_at
    where
      too_long : statuses.InputTooLong ≡ statuses.Done → ⊥
      too_long e = cc

      refused : statuses.Refused ≡ statuses.Done → ⊥
      refused e = cc

  -- ---- statuses 13 and 14

  abbrev WasFront : Setting → Opening → Bytes → Type 0
  WasFront setting opening bytes =
      (providers : List Provider) × (directory_in bytes ≡ Ok providers) × IsSetting providers setting
      × (opening.next ≡ NoMore) × HasHeader header before after
      × (tells → WrotePart before after (text_of range (trade_in setting) (providers_in setting) opening.journals))

  abbrev IsFront : Setting → Opening → Next → Type 0
  IsFront setting opening next =
      IsNone next × HasHeader header before after
      × (tells → WrotePart before after (text_of range (trade_in setting) (providers_in setting) opening.journals))

  module _ (setting : Setting) (opening : Opening) where
    next_failed : (next : Next) → Goes statuses.DiskFault setting opening next → IsFront setting opening next
    next_failed NoMore goes = (refl, goes.headed, goes.told)
    next_failed Holds goes = absurd (so (end_is (ends.NotEmpty (next_of opening)) statuses.DiskFault goes.told.0))
      where
        so : statuses.NotEmpty ≡ statuses.DiskFault → ⊥
        so e = cc
    next_failed (Unfits unfit) goes =
        absurd (so (end_is (ends.NotFit (next_of opening) unfit) statuses.DiskFault goes.told.0))
      where
        so : statuses.NotFit ≡ statuses.DiskFault → ⊥
        so e = cc
    next_failed Fails goes = absurd (so (fails_is statuses.DiskFault goes.told.0))
      where
        so : statuses.StartFault ≡ statuses.DiskFault → ⊥
        so e = cc
    next_failed openings.Stops goes = absurd (stopped_not statuses.DiskFault goes.told.0)

    next_changed : (next : Next) → Goes statuses.Changed setting opening next → IsFront setting opening next
    next_changed NoMore goes = (refl, goes.headed, goes.told)
    next_changed Holds goes = absurd (so (end_is (ends.NotEmpty (next_of opening)) statuses.Changed goes.told.0))
      where
        so : statuses.NotEmpty ≡ statuses.Changed → ⊥
        so e = cc
    next_changed (Unfits unfit) goes =
        absurd (so (end_is (ends.NotFit (next_of opening) unfit) statuses.Changed goes.told.0))
      where
        so : statuses.NotFit ≡ statuses.Changed → ⊥
        so e = cc
    next_changed Fails goes = absurd (so (fails_is statuses.Changed goes.told.0))
      where
        so : statuses.StartFault ≡ statuses.Changed → ⊥
        so e = cc
    next_changed openings.Stops goes = absurd (stopped_not statuses.Changed goes.told.0)

  failed_so : (unread : Option Bytes) → (ran : Ran statuses.DiskFault unread)
      → WasFront ran.setting ran.opening ran.bytes
  failed_so unread ran =
      by_at statuses.DiskFault (WasFront ran.setting ran.opening ran.bytes) ran.setting ran.opening ran.bytes
      (λ told. absurd (stopped_not statuses.DiskFault told.0))
      (λ long told. absurd (too_long (end_is ends.LongDirectory statuses.DiskFault told.0)))
      (λ why is told. absurd (refused (end_is (ends.DirectoryRefused why) statuses.DiskFault told.0)))
      (λ providers is setting came goes.
      let so = next_failed ran.setting ran.opening ran.opening.next goes in (providers, is, setting, so.0, so.1, so.2))
      ran.early ran.is_at
    where
      too_long : statuses.InputTooLong ≡ statuses.DiskFault → ⊥
      too_long e = cc

      refused : statuses.Refused ≡ statuses.DiskFault → ⊥
      refused e = cc

  changed_so : (unread : Option Bytes) → (ran : Ran statuses.Changed unread)
      → WasFront ran.setting ran.opening ran.bytes
  changed_so unread ran =
      by_at statuses.Changed (WasFront ran.setting ran.opening ran.bytes) ran.setting ran.opening ran.bytes
      (λ told. absurd (stopped_not statuses.Changed told.0))
      (λ long told. absurd (too_long (end_is ends.LongDirectory statuses.Changed told.0)))
      (λ why is told. absurd (refused (end_is (ends.DirectoryRefused why) statuses.Changed told.0)))
      (λ providers is setting came goes.
      let so = next_changed ran.setting ran.opening ran.opening.next goes in (providers, is, setting, so.0, so.1, so.2))
      ran.early ran.is_at
    where
      too_long : statuses.InputTooLong ≡ statuses.Changed → ⊥
      too_long e = cc

      refused : statuses.Refused ≡ statuses.Changed → ⊥
      refused e = cc

  pub faulted_so : (status : Status) (unread : Option Bytes) → (status ≡ statuses.DiskFault) ⊎ (status ≡ statuses.Changed)
      → (ran : Ran status unread) → WasFront ran.setting ran.opening ran.bytes
  faulted_so status unread (inl e) =
      subst (λ (s : Status). (ran : Ran s unread) → WasFront ran.setting ran.opening ran.bytes) (sym e) (failed_so unread)
  faulted_so status unread (inr e) =
      subst (λ (s : Status). (ran : Ran s unread) → WasFront ran.setting ran.opening ran.bytes) (sym e) (changed_so unread)

  -- ---- statuses 3 and 12

  abbrev WasRefused : Bytes → Type 0
  WasRefused bytes =
      (why : Refusal) × (directory_in bytes ≡ Err why)
      × (after ≡ followed_by before (end_text [] (ends.DirectoryRefused why)))

  abbrev WasLong : Bytes → Type 0
  WasLong bytes =
      (LONGEST_DIRECTORY < length bytes) × (after ≡ followed_by before (end_text [] ends.LongDirectory))

  next_refused : (Goal : Type 0) (setting : Setting) (opening : Opening) (next : Next)
      → Goes statuses.Refused setting opening next → Goal
  next_refused Goal setting opening NoMore goes = absurd goes.headed
  next_refused Goal setting opening Holds goes =
      absurd (so (end_is (ends.NotEmpty (next_of opening)) statuses.Refused goes.told.0))
    where
      so : statuses.NotEmpty ≡ statuses.Refused → ⊥
      so e = cc
  next_refused Goal setting opening (Unfits unfit) goes =
      absurd (so (end_is (ends.NotFit (next_of opening) unfit) statuses.Refused goes.told.0))
    where
      so : statuses.NotFit ≡ statuses.Refused → ⊥
      so e = cc
  next_refused Goal setting opening Fails goes = absurd (so (fails_is statuses.Refused goes.told.0))
    where
      so : statuses.StartFault ≡ statuses.Refused → ⊥
      so e = cc
  next_refused Goal setting opening openings.Stops goes = absurd (stopped_not statuses.Refused goes.told.0)

  next_long : (Goal : Type 0) (setting : Setting) (opening : Opening) (next : Next)
      → Goes statuses.InputTooLong setting opening next → Goal
  next_long Goal setting opening NoMore goes = absurd goes.headed
  next_long Goal setting opening Holds goes =
      absurd (so (end_is (ends.NotEmpty (next_of opening)) statuses.InputTooLong goes.told.0))
    where
      so : statuses.NotEmpty ≡ statuses.InputTooLong → ⊥
      so e = cc
  next_long Goal setting opening (Unfits unfit) goes =
      absurd (so (end_is (ends.NotFit (next_of opening) unfit) statuses.InputTooLong goes.told.0))
    where
      so : statuses.NotFit ≡ statuses.InputTooLong → ⊥
      so e = cc
  next_long Goal setting opening Fails goes = absurd (so (fails_is statuses.InputTooLong goes.told.0))
    where
      so : statuses.StartFault ≡ statuses.InputTooLong → ⊥
      so e = cc
  next_long Goal setting opening openings.Stops goes = absurd (stopped_not statuses.InputTooLong goes.told.0)

  pub refused_so : (unread : Option Bytes) → (ran : Ran statuses.Refused unread) → WasRefused ran.bytes
  refused_so unread ran =
      by_at statuses.Refused (WasRefused ran.bytes) ran.setting ran.opening ran.bytes
      (λ told. absurd (stopped_not statuses.Refused told.0))
      (λ long told. absurd (too_long (end_is ends.LongDirectory statuses.Refused told.0)))
      (λ why is told. (why, is, told.1))
      (λ providers is setting came goes.
      next_refused (WasRefused ran.bytes) ran.setting ran.opening ran.opening.next goes)
      ran.early ran.is_at
    where
      too_long : statuses.InputTooLong ≡ statuses.Refused → ⊥
      too_long e = cc

  pub long_so : (unread : Option Bytes) → (ran : Ran statuses.InputTooLong unread) → WasLong ran.bytes
  long_so unread ran =
      by_at statuses.InputTooLong (WasLong ran.bytes) ran.setting ran.opening ran.bytes
      (λ told. absurd (stopped_not statuses.InputTooLong told.0))
      (λ long told. (long, told.1))
      (λ why is told. absurd (refused (end_is (ends.DirectoryRefused why) statuses.InputTooLong told.0)))
      (λ providers is setting came goes. next_long (WasLong ran.bytes) ran.setting ran.opening ran.opening.next goes)
      ran.early ran.is_at
    where
      refused : statuses.Refused ≡ statuses.InputTooLong → ⊥
      refused e = cc

  -- ---- statuses 7 and 9

  abbrev WasUnfit : Setting → Opening → Next → Type 0
  WasUnfit setting opening next =
      (unfit : Unfit) × (next ≡ Unfits unfit)
      × (after ≡ followed_by before (end_text (providers_in setting) (ends.NotFit (next_of opening) unfit)))

  abbrev WasFailing : Next → Type 0
  WasFailing next = (next ≡ Fails) × (after ≡ followed_by before [])

  next_unfit : (setting : Setting) (opening : Opening) (next : Next) → Goes statuses.NotFit setting opening next
      → WasUnfit setting opening next
  next_unfit setting opening NoMore goes = absurd goes.headed
  next_unfit setting opening Holds goes =
      absurd (so (end_is (ends.NotEmpty (next_of opening)) statuses.NotFit goes.told.0))
    where
      so : statuses.NotEmpty ≡ statuses.NotFit → ⊥
      so e = cc
  next_unfit setting opening (Unfits unfit) goes = (unfit, refl, goes.told.1)
  next_unfit setting opening Fails goes = absurd (so (fails_is statuses.NotFit goes.told.0))
    where
      so : statuses.StartFault ≡ statuses.NotFit → ⊥
      so e = cc
  next_unfit setting opening openings.Stops goes = absurd (stopped_not statuses.NotFit goes.told.0)

  next_failing : (setting : Setting) (opening : Opening) (next : Next) → Goes statuses.StartFault setting opening next
      → WasFailing next
  next_failing setting opening NoMore goes = absurd goes.headed
  next_failing setting opening Holds goes =
      absurd (so (end_is (ends.NotEmpty (next_of opening)) statuses.StartFault goes.told.0))
    where
      so : statuses.NotEmpty ≡ statuses.StartFault → ⊥
      so e = cc
  next_failing setting opening (Unfits unfit) goes =
      absurd (so (end_is (ends.NotFit (next_of opening) unfit) statuses.StartFault goes.told.0))
    where
      so : statuses.NotFit ≡ statuses.StartFault → ⊥
      so e = cc
  next_failing setting opening Fails goes = (refl, goes.told.1)
  next_failing setting opening openings.Stops goes = absurd (stopped_not statuses.StartFault goes.told.0)

  pub unfit_so : (unread : Option Bytes) → (ran : Ran statuses.NotFit unread)
      → WasUnfit ran.setting ran.opening ran.opening.next
  unfit_so unread ran =
      by_at statuses.NotFit (WasUnfit ran.setting ran.opening ran.opening.next) ran.setting ran.opening ran.bytes
      (λ told. absurd (stopped_not statuses.NotFit told.0))
      (λ long told. absurd (too_long (end_is ends.LongDirectory statuses.NotFit told.0)))
      (λ why is told. absurd (refused (end_is (ends.DirectoryRefused why) statuses.NotFit told.0)))
      (λ providers is setting came goes. next_unfit ran.setting ran.opening ran.opening.next goes)
      ran.early ran.is_at
    where
      too_long : statuses.InputTooLong ≡ statuses.NotFit → ⊥
      too_long e = cc

      refused : statuses.Refused ≡ statuses.NotFit → ⊥
      refused e = cc

  -- what came of the next disk, where it is told of one
  pub came_so : (unread : Option Bytes) → (ran : Ran statuses.NotFit unread)
      → CameNext ran.setting ran.opening ran.opening.next
  came_so unread ran =
      by_at statuses.NotFit (CameNext ran.setting ran.opening ran.opening.next) ran.setting ran.opening ran.bytes
      (λ told. absurd (stopped_not statuses.NotFit told.0))
      (λ long told. absurd (too_long (end_is ends.LongDirectory statuses.NotFit told.0)))
      (λ why is told. absurd (refused (end_is (ends.DirectoryRefused why) statuses.NotFit told.0)))
      (λ providers is setting came goes. came)
      ran.early ran.is_at
    where
      too_long : statuses.InputTooLong ≡ statuses.NotFit → ⊥
      too_long e = cc

      refused : statuses.Refused ≡ statuses.NotFit → ⊥
      refused e = cc

  pub failing_so : (unread : Option Bytes) → (ran : Ran statuses.StartFault unread) → WasFailing ran.opening.next
  failing_so unread ran =
      by_at statuses.StartFault (WasFailing ran.opening.next) ran.setting ran.opening ran.bytes
      (λ told. absurd (stopped_not statuses.StartFault told.0))
      (λ long told. absurd (too_long (end_is ends.LongDirectory statuses.StartFault told.0)))
      (λ why is told. absurd (refused (end_is (ends.DirectoryRefused why) statuses.StartFault told.0)))
      (λ providers is setting came goes. next_failing ran.setting ran.opening ran.opening.next goes)
      ran.early ran.is_at
    where
      too_long : statuses.InputTooLong ≡ statuses.StartFault → ⊥
      too_long e = cc

      refused : statuses.Refused ≡ statuses.StartFault → ⊥
      refused e = cc

  -- ---- status 4

  -- what is written of a run that was stopped
  wrote_none : (providers : List Provider) (finish : Finish) → finish ≡ Stops
      → after ≡ followed_by before (finish_text providers finish) → after ≡ followed_by before []
  wrote_none providers finish is =
      subst (λ (f : Finish). after ≡ followed_by before (finish_text providers f) → after ≡ followed_by before [])
      (sym is) (λ held. held)

  next_stopped : (setting : Setting) (opening : Opening) (next : Next) → Goes statuses.ReadFault setting opening next
      → after ≡ followed_by before []
  next_stopped setting opening NoMore goes = absurd goes.headed
  next_stopped setting opening Holds goes =
      wrote_none (providers_in setting) (Ends (ends.NotEmpty (next_of opening))) goes.told.0 goes.told.1
  next_stopped setting opening (Unfits unfit) goes =
      wrote_none (providers_in setting) (Ends (ends.NotFit (next_of opening) unfit)) goes.told.0 goes.told.1
  next_stopped setting opening Fails goes = wrote_none (providers_in setting) plays.Fails goes.told.0 goes.told.1
  next_stopped setting opening openings.Stops goes = goes.told.1

  pub stopped_so : (unread : Option Bytes) → (ran : Ran statuses.ReadFault unread) → after ≡ followed_by before []
  stopped_so unread ran =
      by_at statuses.ReadFault (after ≡ followed_by before []) ran.setting ran.opening ran.bytes (λ told. told.1)
      (λ long told. wrote_none [] (Ends ends.LongDirectory) told.0 told.1)
      (λ why is told. wrote_none [] (Ends (ends.DirectoryRefused why)) told.0 told.1)
      (λ providers is setting came goes. next_stopped ran.setting ran.opening ran.opening.next goes)
      ran.early ran.is_at

  -- ---- all statuses

  -- it has the status of a finish that such a run comes to
  abbrev Has : Status → Finish → Type 0
  Has status finish = status_at finish ≡ Some status → IsOfExtract status

  has_end : (end : End) (status : Status) → IsOfExtract (status_of end) → Has status (Ends end)
  has_end end status of e = subst IsOfExtract (end_is end status e) of

  has_next : (status : Status) (setting : Setting) (opening : Opening) (next : Next) → CameNext setting opening next
      → (next ≡ NoMore → IsOfExtract status) → Has status (finish_at (next_of opening) next)
  has_next status setting opening NoMore came all e = all refl
  has_next status setting opening Holds came all e = absurd (so came.0)
    where
      so : Resume ≡ Run → ⊥
      so e = cc
  has_next status setting opening (Unfits unfit) came all e =
      has_end (ends.NotFit (next_of opening) unfit) status tt e
  has_next status setting opening Fails came all e = subst IsOfExtract (fails_is status e) tt
  has_next status setting opening openings.Stops came all e = absurd (stopped_not status e)

  abbrev Lasts : Status → Type 0
  Lasts status = (text : Bytes) (finish : Finish) → TellsAs status before after text finish → status_at finish ≡ Some status

  module _ (status : Status) (lasts : Lasts status) (headless : TellsHeader status header before after → ⊥) where
    next_among : (setting : Setting) (opening : Opening) (next : Next) → CameNext setting opening next
        → Goes status setting opening next → IsOfExtract status
    next_among setting opening NoMore came goes = absurd (headless goes.headed)
    next_among setting opening Holds came goes =
        has_next status setting opening Holds came (λ e. absurd (none e)) (lasts _ _ goes.told)
      where
        none : Holds ≡ NoMore → ⊥
        none e = cc
    next_among setting opening (Unfits unfit) came goes =
        has_next status setting opening (Unfits unfit) came (λ e. absurd (none e)) (lasts _ _ goes.told)
      where
        none : Unfits unfit ≡ NoMore → ⊥
        none e = cc
    next_among setting opening Fails came goes =
        has_next status setting opening Fails came (λ e. absurd (none e)) (lasts _ _ goes.told)
      where
        none : Fails ≡ NoMore → ⊥
        none e = cc
    next_among setting opening openings.Stops came goes = absurd (stopped_not status (lasts _ _ goes.told))

    among : (unread : Option Bytes) → Ran status unread → IsOfExtract status
    among unread ran =
        by_at status (IsOfExtract status) ran.setting ran.opening ran.bytes
        (λ told. absurd (stopped_not status (lasts _ _ told)))
        (λ long told. has_end ends.LongDirectory status tt (lasts _ _ told))
        (λ why is told. has_end (ends.DirectoryRefused why) status tt (lasts _ _ told))
        (λ providers is setting came goes. next_among ran.setting ran.opening ran.opening.next came goes)
        ran.early ran.is_at

  pub status_so : (status : Status) (unread : Option Bytes) → Ran status unread → IsOfExtract status
  status_so statuses.Done unread ran = tt
  status_so statuses.Usage unread ran =
      among statuses.Usage (λ text finish told. told.0) (λ headed. headed) unread ran
  status_so statuses.Refused unread ran = tt
  status_so statuses.ReadFault unread ran = tt
  status_so statuses.WriteFault unread ran = tt
  status_so statuses.NoMemory unread ran = tt
  status_so statuses.StartFault unread ran = tt
  status_so statuses.NotEmpty unread ran =
      among statuses.NotEmpty (λ text finish told. told.0) (λ headed. headed) unread ran
  status_so statuses.NotFit unread ran = tt
  status_so statuses.ClockFault unread ran =
      among statuses.ClockFault (λ text finish told. told.0) (λ headed. headed) unread ran
  status_so statuses.DoorFault unread ran =
      among statuses.DoorFault (λ text finish told. told.0) (λ headed. headed) unread ran
  status_so statuses.DiskFault unread ran = tt
  status_so statuses.Changed unread ran = tt
  status_so statuses.InputTooLong unread ran = tt

-- ---- without faults

abbrev was_ok : List Provider → Result (List Provider) Refusal
was_ok providers = Ok providers

abbrev was_err : Refusal → Result (List Provider) Refusal
was_err why = Err why

never_risen : (was now : ℕ) → HasRisen was now → StoodStill was now → ⊥
never_risen was now risen still =
    let same = still.0 in let small = still.1 in let x : was < now = risen (omega (arith, same, small)) in omega
    (arith, same, x)

module _ (text_of : Range → Trade → List Provider → List (List Entry) → Bytes) (header : Bytes) {D : Type 0}
    (tells : Type 0) (sight : D → Sight) (faults : D → ℕ) (range : Range) (before after : Option Bytes) (home left : ℕ → Option D)
    (old new : Counts) (none : NoFaults old new) (text : Bytes) (short : length text ≤ LONGEST_DIRECTORY)
    (providers : List Provider) (reads : directory_in text ≡ Ok providers) where
  abbrev RanSo : Status → Type 0
  RanSo status =
      Extracted text_of header tells sight faults range status before after home left old.disks new.disks (Some text)

  abbrev IsWhole : Status → Setting → Opening → Type 0
  IsWhole status setting opening =
      (status ≡ statuses.NoMemory) ⊎ ((status ≡ statuses.Changed) ⊎ ((status ≡ statuses.Done)
      × IsSetting providers setting × (opening.next ≡ NoMore)
      × (tells → after ≡ followed_by before (text_of range (trade_in setting) providers opening.journals))))

  same_read : (bytes : Bytes) (others : List Provider) → bytes ≡ text → directory_in bytes ≡ was_ok others
      → others ≡ providers
  same_read bytes others is other = so (sym other ∙ (ap directory_in is ∙ reads))
    where
      so : was_ok others ≡ was_ok providers → others ≡ providers
      so e = cc

  never_refused : (bytes : Bytes) (why : Refusal) → bytes ≡ text → directory_in bytes ≡ was_err why → ⊥
  never_refused bytes why is other = so (sym other ∙ (ap directory_in is ∙ reads))
    where
      so : was_err why ≡ was_ok providers → ⊥
      so e = cc

  never_long : (bytes : Bytes) → bytes ≡ text → LONGEST_DIRECTORY < length bytes → ⊥
  never_long bytes is long = let size = ap (λ (b : Bytes). length b) is in omega (arith, size, short, long)

  done_whole : (ran : RanSo statuses.Done) → IsWhole statuses.Done ran.setting ran.opening
  done_whole ran =
      let so = done_so text_of header tells sight faults range before after home left old.disks new.disks (Some text) ran
      in let same = same_read ran.bytes so.0 ran.input so.1
      in let setting = subst (λ (p : List Provider). IsSetting p ran.setting) same so.2
      in inr (inr (
        refl,
        setting,
        so.3,
        λ told. so.4 told
            ∙ ap (λ (p : List Provider). followed_by before (text_of range (trade_in ran.setting) p ran.opening.journals))
            setting.kept,
      ))

  blamed : HasRisen old.depot new.depot ⊎ ((provider : ℕ) × HasRisen (old.disks provider) (new.disks provider)) → ⊥
  blamed (inl risen) = never_risen old.depot new.depot risen none.depot
  blamed (inr risen) =
      never_risen (old.disks risen.0) (new.disks risen.0) risen.1 (none.disks risen.0)

  -- Over disks that hold journals of their providers' own no journal is unfit.
  own_fits : tells → (setting : Setting) (number : ℕ) (unfit : Unfit)
      → IsNext (trade_in setting) (disks_at tells sight home) Resume number (Unfits unfit)
      → CanBegin sight (trade_in setting) home Resume → ⊥
  own_fits told setting number unfit came can =
      let own = can number came.2
      in came.3 (sight own.disk).seen (told, (own.disk, own.is, refl)) own.entries own.own own.journal

  pub never_unfit : tells → (ran : RanSo statuses.NotFit) → CanBegin sight (trade_in ran.setting) home Resume → ⊥
  never_unfit told ran can =
      let so = unfit_so text_of header tells sight faults range before after home left old.disks new.disks (Some text) ran
      in own_fits told ran.setting (next_of ran.opening) so.0
      (subst (IsNext (trade_in ran.setting) (disks_at tells sight home) Resume (next_of ran.opening)) so.1
      (came_so text_of header tells sight faults range before after home left old.disks new.disks (Some text) ran)) can

  whole_by : (status : Status) → (ran : RanSo status) → Blames status old new → IsOfExtract status
      → (status ≡ statuses.NotFit → ⊥) → IsWhole status ran.setting ran.opening
  whole_by statuses.Done ran blames of fit = done_whole ran
  whole_by statuses.Refused ran blames of fit =
      let so = refused_so text_of header tells sight faults range before after home left old.disks new.disks (Some text) ran
      in absurd (never_refused ran.bytes so.0 ran.input so.1)
  whole_by statuses.InputTooLong ran blames of fit =
      let so = long_so text_of header tells sight faults range before after home left old.disks new.disks (Some text) ran
      in absurd (never_long ran.bytes ran.input so.0)
  whole_by statuses.NotFit ran blames of fit = absurd (fit refl)
  whole_by statuses.ReadFault ran blames of fit = absurd (never_risen old.source new.source blames none.source)
  whole_by statuses.WriteFault ran blames of fit = absurd (never_risen old.sink new.sink blames none.sink)
  whole_by statuses.StartFault ran blames of fit = absurd (blamed blames)
  whole_by statuses.DiskFault ran blames of fit = absurd (blamed (inr blames))
  whole_by statuses.NoMemory ran blames of fit = inl refl
  whole_by statuses.Changed ran blames of fit = inr (inl refl)
  whole_by statuses.Usage ran blames of fit = absurd of
  whole_by statuses.NotEmpty ran blames of fit = absurd of
  whole_by statuses.ClockFault ran blames of fit = absurd of
  whole_by statuses.DoorFault ran blames of fit = absurd of

  -- A run without faults whose input is a directory, and whose disks hold journals, writes the text, unless memory runs out or
  -- an entry isn't what was kept.
  pub whole_so : (status : Status)
      → (ran : ExtractRan text_of header tells sight faults range status (Some text) before after home left old new)
      → ((unfit : Unfit) → ran.extracted.opening.next ≢ Unfits unfit)
      → IsWhole status ran.extracted.setting ran.extracted.opening
  whole_so status ran fit =
      whole_by status ran.extracted ran.blame
      (status_so text_of header tells sight faults range before after home left old.disks new.disks status (Some text)
      ran.extracted)
      (λ e. subst (λ (s : Status). (ran : RanSo s) → ((unfit : Unfit) → ran.opening.next ≢ Unfits unfit) → ⊥) (sym e)
      (λ ran fit.
      let so = unfit_so text_of header tells sight faults range before after home left old.disks new.disks (Some text) ran
      in fit so.0 so.1)
      ran.extracted fit)

  -- where the disks hold journals of their providers' own
  pub complete_so : tells → (status : Status)
      → (ran : ExtractRan text_of header tells sight faults range status (Some text) before after home left old new)
      → CanBegin sight (trade_in ran.extracted.setting) home Resume
      → (status ≡ statuses.NoMemory) ⊎ ((status ≡ statuses.Changed) ⊎ ((status ≡ statuses.Done)
      × IsSetting providers ran.extracted.setting × (ran.extracted.opening.next ≡ NoMore)
      × (after ≡ followed_by before (text_of range (trade_in ran.extracted.setting) providers
      ran.extracted.opening.journals))))
  complete_so told status ran can =
      by_whole (whole_by status ran.extracted ran.blame
      (status_so text_of header tells sight faults range before after home left old.disks new.disks status (Some text)
      ran.extracted) (λ e. no e ran.extracted can))
    where
      by_rest : (status ≡ statuses.Changed) ⊎ ((status ≡ statuses.Done) × IsSetting providers ran.extracted.setting
          × (ran.extracted.opening.next ≡ NoMore)
          × (tells → after ≡ followed_by before (text_of range (trade_in ran.extracted.setting) providers
          ran.extracted.opening.journals)))
          → (status ≡ statuses.NoMemory) ⊎ ((status ≡ statuses.Changed) ⊎ ((status ≡ statuses.Done)
          × IsSetting providers ran.extracted.setting × (ran.extracted.opening.next ≡ NoMore)
          × (after ≡ followed_by before (text_of range (trade_in ran.extracted.setting) providers
          ran.extracted.opening.journals))))
      by_rest (inl changed) = inr (inl changed)
      by_rest (inr done) = inr (inr (done.0, done.1, done.2, done.3 told))

      by_whole : IsWhole status ran.extracted.setting ran.extracted.opening
          → (status ≡ statuses.NoMemory) ⊎ ((status ≡ statuses.Changed) ⊎ ((status ≡ statuses.Done)
          × IsSetting providers ran.extracted.setting × (ran.extracted.opening.next ≡ NoMore)
          × (after ≡ followed_by before (text_of range (trade_in ran.extracted.setting) providers
          ran.extracted.opening.journals))))
      by_whole (inl lacks) = inl lacks
      by_whole (inr rest) = by_rest rest

      no : status ≡ statuses.NotFit → (so : RanSo status) → CanBegin sight (trade_in so.setting) home Resume → ⊥
      no e = subst (λ (s : Status). (so : RanSo s) → CanBegin sight (trade_in so.setting) home Resume → ⊥) (sym e)
          (never_unfit told)
