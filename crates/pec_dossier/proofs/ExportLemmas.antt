-- What a status says of a run that writes its directory as another text.
use Rattle.std.proofs.Common.{◌≡◌, ℕ, ◌<◌, ◌≤◌, Bool, true, false, List, [], length, nat_lt, refl, ap, subst, sym, ◌∙◌, arith, ◌⊎◌, inl, inr, Option, Some, Result, Ok, Err}
use Rattle.std.specs.Prelude.{if◌then◌else◌}
use Rattle.std.proofs.lemmas.Bool.{ltb-true}
use Rattle.pec_types.specs.Bytes.{Bytes}
use Rattle.pec_outside.specs.Flow.{HasRisen, followed_by}
use Rattle.pec_directory.specs.Directory.{Provider}
use Rattle.pec_input.specs.Directory.{Refusal, directory_in}
use Rattle.pec_input.specs.declared.opening.TheConstants.{LONGEST_DIRECTORY}
use Rattle.pec_runs.specs.Endings.{end_text}
use Rattle.pec_runs.specs.Endings as ends
use Rattle.pec_dossier.specs.Exports.{ExportRan, Exported, IsOfExport, by_reading, export_finish, exported_text, providers_had}
use Rattle.pec_runs.specs.Plays.{Ends, Finish, Stops}
use Rattle.pec_runs.specs.Ran.{Blames, Counts, TellsAs, status_at}
use Rattle.pec_runs.specs.Statuses.{Status}
use Rattle.pec_runs.specs.Statuses as statuses
use Rattle.pec_runs.specs.Transcripts.{NoFaults, StoodStill}

abbrev pub Had : Type 0
Had = Result (List Provider) Finish

abbrev stopped_early : Had
stopped_early = Err Stops

abbrev was_long : Had
was_long = Err (Ends ends.LongDirectory)

abbrev was_refused : Refusal → Had
was_refused why = Err (Ends (ends.DirectoryRefused why))

abbrev was_read : List Provider → Had
was_read providers = Ok providers

abbrev was_ok : List Provider → Result (List Provider) Refusal
was_ok providers = Ok providers

abbrev was_err : Refusal → Result (List Provider) Refusal
was_err why = Err why

-- what holds of each of the four that a run can have of its input holds of what it has
module _ (P : Had → Type 0) (bytes : Bytes) (early_so : P stopped_early)
    (long_so : LONGEST_DIRECTORY < length bytes → P was_long)
    (refused_so : (why : Refusal) → directory_in bytes ≡ Err why → P (was_refused why))
    (read_so : (providers : List Provider) → directory_in bytes ≡ Ok providers → P (was_read providers)) where
  by_told : (read : Result (List Provider) Refusal) → directory_in bytes ≡ read → P (by_reading read)
  by_told (Ok providers) is = read_so providers is
  by_told (Err why) is = refused_so why is

  by_length : (long : Bool) → nat_lt LONGEST_DIRECTORY (length bytes) ≡ long
      → P (if long then was_long else by_reading (directory_in bytes))
  by_length true is = long_so (ltb-true LONGEST_DIRECTORY (length bytes) is)
  by_length false is = by_told (directory_in bytes) refl

  pub by_had : (early : Bool) → P (providers_had early bytes)
  unfolding providers_had
  by_had true = early_so
  by_had false = by_length (nat_lt LONGEST_DIRECTORY (length bytes)) refl

module _ (text_of : List Provider → Bytes) (before after : Option Bytes) where
  abbrev Told : Status → Had → Type 0
  Told status had = TellsAs status before after (exported_text text_of had) (export_finish had)

  abbrev WasRead : Bytes → Type 0
  WasRead bytes =
      (providers : List Provider) × (directory_in bytes ≡ Ok providers) × (after ≡ followed_by before (text_of providers))

  abbrev WasRefused : Bytes → Type 0
  WasRefused bytes =
      (why : Refusal) × (directory_in bytes ≡ Err why)
      × (after ≡ followed_by before (end_text [] (ends.DirectoryRefused why)))

  abbrev WasLong : Bytes → Type 0
  WasLong bytes =
      (LONGEST_DIRECTORY < length bytes) × (after ≡ followed_by before (end_text [] ends.LongDirectory))

  pub done_so : (unread : Option Bytes) → (ran : Exported text_of statuses.Done unread before after) → WasRead ran.bytes
  done_so unread ran =
      by_had (λ had. Told statuses.Done had → WasRead ran.bytes) ran.bytes (λ told. absurd (early told.0))
      (λ long told. absurd (was told.0)) (λ why is told. absurd (other why told.0))
      (λ providers is told. (providers, is, told.1)) ran.early ran.told
    where
      early : status_at Stops ≡ Some statuses.Done → ⊥
      early e = cc

      was : status_at (Ends ends.LongDirectory) ≡ Some statuses.Done → ⊥
      was e = cc

      other : (why : Refusal) → status_at (Ends (ends.DirectoryRefused why)) ≡ Some statuses.Done → ⊥
      other why e = cc

  pub refused_so : (unread : Option Bytes) → (ran : Exported text_of statuses.Refused unread before after)
      → WasRefused ran.bytes
  refused_so unread ran =
      by_had (λ had. Told statuses.Refused had → WasRefused ran.bytes) ran.bytes (λ told. absurd (early told.0))
      (λ long told. absurd (was told.0)) (λ why is told. (why, is, told.1))
      (λ providers is told. absurd (done told.0)) ran.early ran.told
    where
      early : status_at Stops ≡ Some statuses.Refused → ⊥
      early e = cc

      was : status_at (Ends ends.LongDirectory) ≡ Some statuses.Refused → ⊥
      was e = cc

      done : status_at (Ends ends.Done) ≡ Some statuses.Refused → ⊥
      done e = cc

  pub long_so : (unread : Option Bytes) → (ran : Exported text_of statuses.InputTooLong unread before after)
      → WasLong ran.bytes
  long_so unread ran =
      by_had (λ had. Told statuses.InputTooLong had → WasLong ran.bytes) ran.bytes (λ told. absurd (early told.0))
      (λ long told. (long, told.1)) (λ why is told. absurd (other why told.0))
      (λ providers is told. absurd (done told.0)) ran.early ran.told
    where
      early : status_at Stops ≡ Some statuses.InputTooLong → ⊥
      early e = cc

      other : (why : Refusal) → status_at (Ends (ends.DirectoryRefused why)) ≡ Some statuses.InputTooLong → ⊥
      other why e = cc

      done : status_at (Ends ends.Done) ≡ Some statuses.InputTooLong → ⊥
      done e = cc

  -- ---- stopped

  abbrev WroteNone : Had → Type 0
  WroteNone had = (export_finish had ≡ Stops) × (after ≡ followed_by before (exported_text text_of had))
      → after ≡ followed_by before []

  none_by : (bytes : Bytes) (early : Bool) → WroteNone (providers_had early bytes)
  none_by bytes early =
      by_had WroteNone bytes (λ told. told.1) (λ long told. absurd (was told.0)) (λ why is told. absurd (other why told.0))
      (λ providers is told. absurd (done told.0)) early
    where
      was : Ends ends.LongDirectory ≡ Stops → ⊥
      was e = cc

      other : (why : Refusal) → Ends (ends.DirectoryRefused why) ≡ Stops → ⊥
      other why e = cc

      done : Ends ends.Done ≡ Stops → ⊥
      done e = cc

  pub stopped_so : (status : Status) (unread : Option Bytes) → (status ≡ statuses.ReadFault) ⊎ (status ≡ statuses.NoMemory)
      → Exported text_of status unread before after → after ≡ followed_by before []
  stopped_so status unread (inl e) ran =
      none_by ran.bytes ran.early (subst (λ (s : Status). Told s (providers_had ran.early ran.bytes)) e ran.told)
  stopped_so status unread (inr e) ran =
      none_by ran.bytes ran.early (subst (λ (s : Status). Told s (providers_had ran.early ran.bytes)) e ran.told)

  -- ---- all statuses

  -- a status of an end that such a run comes to
  abbrev IsAmong : Status → Had → Type 0
  IsAmong status had = status_at (export_finish had) ≡ Some status → IsOfExport status

  among : (status : Status) (bytes : Bytes) (early : Bool) → IsAmong status (providers_had early bytes)
  among status bytes early =
      by_had (IsAmong status) bytes (λ e. absurd (none e)) (λ long e. subst IsOfExport (same statuses.InputTooLong e) tt)
      (λ why is e. subst IsOfExport (same statuses.Refused e) tt)
      (λ providers is e. subst IsOfExport (same statuses.Done e) tt) early
    where
      none : status_at Stops ≡ Some status → ⊥
      none e = cc

      same : (other : Status) → Some other ≡ Some status → other ≡ status
      same other e = cc

  pub status_so : (status : Status) (unread : Option Bytes) → Exported text_of status unread before after
      → IsOfExport status
  status_so statuses.Done unread ran = tt
  status_so statuses.Usage unread ran = among statuses.Usage ran.bytes ran.early ran.told.0
  status_so statuses.Refused unread ran = tt
  status_so statuses.ReadFault unread ran = tt
  status_so statuses.WriteFault unread ran = tt
  status_so statuses.NoMemory unread ran = tt
  status_so statuses.StartFault unread ran = among statuses.StartFault ran.bytes ran.early ran.told.0
  status_so statuses.NotEmpty unread ran = among statuses.NotEmpty ran.bytes ran.early ran.told.0
  status_so statuses.NotFit unread ran = among statuses.NotFit ran.bytes ran.early ran.told.0
  status_so statuses.ClockFault unread ran = among statuses.ClockFault ran.bytes ran.early ran.told.0
  status_so statuses.DoorFault unread ran = among statuses.DoorFault ran.bytes ran.early ran.told.0
  status_so statuses.DiskFault unread ran = among statuses.DiskFault ran.bytes ran.early ran.told.0
  status_so statuses.Changed unread ran = among statuses.Changed ran.bytes ran.early ran.told.0
  status_so statuses.InputTooLong unread ran = tt

  -- ---- without faults

  not_risen : (was now : ℕ) → HasRisen was now → StoodStill was now → ⊥
  not_risen was now risen still =
      let same = still.0 in let small = still.1 in let x : was < now = risen (omega (arith, same, small)) in omega
      (arith, same, x)

  abbrev IsWhole : Status → List Provider → Type 0
  IsWhole status providers =
      (status ≡ statuses.NoMemory) ⊎ ((status ≡ statuses.Done) × (after ≡ followed_by before (text_of providers)))

  module _ (old new : Counts) (none : NoFaults old new) (text : Bytes) (short : length text ≤ LONGEST_DIRECTORY)
      (providers : List Provider) (reads : directory_in text ≡ Ok providers) where
    same_read : (bytes : Bytes) (others : List Provider) → bytes ≡ text → directory_in bytes ≡ Ok others → others ≡ providers
    same_read bytes others is other = so (sym other ∙ (ap directory_in is ∙ reads))
      where
        so : was_ok others ≡ was_ok providers → others ≡ providers
        so e = cc

    never_refused : (bytes : Bytes) (why : Refusal) → bytes ≡ text → directory_in bytes ≡ Err why → ⊥
    never_refused bytes why is other = so (sym other ∙ (ap directory_in is ∙ reads))
      where
        so : was_err why ≡ was_ok providers → ⊥
        so e = cc

    never_long : (bytes : Bytes) → bytes ≡ text → LONGEST_DIRECTORY < length bytes → ⊥
    never_long bytes is long = let size = ap (λ (b : Bytes). length b) is in omega (arith, size, short, long)

    whole_by : (status : Status) → Exported text_of status (Some text) before after → Blames status old new
        → IsOfExport status → IsWhole status providers
    whole_by statuses.Done ran blames of =
        let so = done_so (Some text) ran
        in inr (
          refl,
          so.2 ∙ ap (λ (all : List Provider). followed_by before (text_of all))
              (same_read ran.bytes so.0 ran.input so.1),
        )
    whole_by statuses.Refused ran blames of =
        let so = refused_so (Some text) ran in absurd (never_refused ran.bytes so.0 ran.input so.1)
    whole_by statuses.InputTooLong ran blames of =
        absurd (never_long ran.bytes ran.input (long_so (Some text) ran).0)
    whole_by statuses.ReadFault ran blames of = absurd (not_risen old.source new.source blames none.source)
    whole_by statuses.WriteFault ran blames of = absurd (not_risen old.sink new.sink blames none.sink)
    whole_by statuses.NoMemory ran blames of = inl refl
    whole_by statuses.Usage ran blames of = absurd of
    whole_by statuses.StartFault ran blames of = absurd of
    whole_by statuses.NotEmpty ran blames of = absurd of
    whole_by statuses.NotFit ran blames of = absurd of
    whole_by statuses.ClockFault ran blames of = absurd of
    whole_by statuses.DoorFault ran blames of = absurd of
    whole_by statuses.DiskFault ran blames of = absurd of
    whole_by statuses.Changed ran blames of = absurd of

    -- A run without faults whose input is a directory writes its text, unless memory runs out.
    pub whole_so : (status : Status) → ExportRan text_of status (Some text) before after old new
        → IsWhole status providers
    whole_so status ran = whole_by status ran.exported ran.blame (status_so status (Some text) ran.exported)
