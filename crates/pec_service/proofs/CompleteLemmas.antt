-- A service without faults has its journals.
use Rattle.std.proofs.Common.{◌≡◌, ℕ, ◌<◌, ◌⊎◌, inl, inr, [], length, refl, ap, subst, ◌∙◌, arith, Option, Some, None}
use Rattle.std.specs.Prelude.{◌-◌, ◌^◌}
use Rattle.pec_types.specs.Bytes.{Bytes}
use Rattle.pec_outside.specs.DiskModel.{Sight}
use Rattle.pec_outside.specs.Flow.{HasRisen}
use Rattle.pec_ledger.specs.Trade.{Trade}
use Rattle.pec_runs.specs.Complete.{CanBegin}
use Rattle.pec_runs.specs.Happened.{providers_in}
use Rattle.pec_runs.specs.Openings.{Fails, Form, IsOpening, Next, NoMore, Opening, Resume, Run, Stops, disks_at, next_of}
use Rattle.pec_runs.specs.Plays as plays
use Rattle.pec_runs.specs.Ran.{TellsAs, WritesAt}
use Rattle.pec_runs.specs.Statuses.{Status}
use Rattle.pec_runs.specs.Statuses as statuses
use Rattle.pec_runs.specs.Transcripts.{StoodStill}
use Rattle.pec_service.specs.Complete.{CanServe, ServesWhole}
use Rattle.pec_service.specs.Runs.{AllCounts, Asked, Begins, Blames, GoesOn, HasBegun, Happened, HasJournals, IsAt, IsChosen, NoFaults, Outside, ServesAll, ServesNone, ServiceRanOver, finish_at, stage_of, world}

-- ---- the form that was chosen

module _ {D : Type 0} (tells : Type 0) (sight : D → Sight) (told : tells) (trade : Trade) (home : ℕ → Option D)
    (can : CanServe sight trade home) where
  at_home : (provider : ℕ) → provider < trade.providers → (disk : D) × (home provider ≡ Some disk)
  at_home provider within = elim can [
    | inl blank ↦ ((blank provider within).disk, (blank provider within).is)
    | inr own ↦ ((own provider within).disk, (own provider within).is)
  ]

  -- a disk that holds something isn't empty
  holds_not : CanBegin sight trade home Run → IsChosen (disks_at tells sight home) trade.providers Resume → ⊥
  holds_not blank chosen =
      let one = blank chosen.0 chosen.1 in
      let some = chosen.2 (sight one.disk).seen (told, (one.disk, one.is, refl)) in
      let none : length (sight one.disk).seen ≡ 0 = ap length one.empty in omega (arith, some, none)

  pub can_begin : (form : Form) → IsChosen (disks_at tells sight home) trade.providers form → CanBegin sight trade home form
  can_begin Run chosen = λ provider within.
      let one = at_home provider within in
      record { disk = one.0; is = one.1; empty = chosen provider within (sight one.0).seen (told, (one.0, one.1, refl)) }
  can_begin Resume chosen = elim can [
    | inl blank ↦ absurd (holds_not blank chosen)
    | inr own ↦ own
  ]

-- ---- its status

still_not : (before now : ℕ) → StoodStill before now → HasRisen before now → ⊥
still_not before now still risen =
    let same : now ≡ before = still.0 in
    let small : now < 2 ^ 64 - 1 = still.1 in
    let up : before < now = risen (omega (arith, same, small)) in omega (arith, same, up)

start_not : (status : Status) (old new : AllCounts) → status ≡ statuses.StartFault → Blames status old new
    → NoFaults old new → ⊥
start_not status old new is blame none = by_blame (subst (λ (s : Status). Blames s old new) is blame)
  where
    by_blame : HasRisen old.devices.depot new.devices.depot
        ⊎ ((provider : ℕ) × HasRisen (old.devices.disks provider) (new.devices.disks provider)) → ⊥
    by_blame (inl risen) = still_not old.devices.depot new.devices.depot none.devices.depot risen
    by_blame (inr risen) =
        still_not (old.devices.disks risen.0) (new.devices.disks risen.0) (none.devices.disks risen.0) risen.1

read_not : (status : Status) (old new : AllCounts) → status ≡ statuses.ReadFault → Blames status old new
    → NoFaults old new → ⊥
read_not status old new is blame none =
    still_not old.devices.source new.devices.source none.devices.source (subst (λ (s : Status). Blames s old new) is blame)

write_not : (status : Status) (old new : AllCounts) → status ≡ statuses.WriteFault → Blames status old new
    → NoFaults old new → ⊥
write_not status old new is blame none =
    still_not old.devices.sink new.devices.sink none.devices.sink (subst (λ (s : Status). Blames s old new) is blame)

-- ---- the run

-- What the laws of pec_runs say of journals that are had.
pub record HadLaws {D : Type 0} (tells : Type 0) (sight : D → Sight) (trade : Trade) (home : ℕ → Option D) : Type 0 where
  pub had : (form : Form) (opening : Opening) → IsOpening trade (disks_at tells sight home) form opening
      → CanBegin sight trade home form → (opening.next ≡ NoMore) ⊎ (opening.next ≡ Fails) ⊎ (opening.next ≡ Stops)
  pub failed : (status : Status) (before after : Option Bytes) (text : Bytes) (opening : Opening)
      → opening.next ≡ Fails → WritesAt status opening.next → TellsAs status before after text plays.Fails
      → status ≡ statuses.StartFault
  pub stopped : (status : Status) (before after : Option Bytes) (text : Bytes) (opening : Opening)
      → opening.next ≡ Stops → WritesAt status opening.next → TellsAs status before after text plays.Stops
      → (status ≡ statuses.NoMemory) ⊎ (status ≡ statuses.ReadFault)

module _ {D : Type 0} (tells : Type 0) (sight : D → Sight) (told : tells) (asked : Asked) (status : Status)
    (unread before after : Option Bytes) (home left : ℕ → Option D) (here there : Outside) (old new : AllCounts)
    (ran : ServiceRanOver tells sight asked status unread before after home left here there old new)
    (begins : stage_of ran.served.happened.early ran.served.happened.directory ≡ Begins)
    (can : CanServe sight (world ran.served.happened) home) (none : NoFaults old new)
    (laws : HadLaws tells sight (world ran.served.happened) home)
    (serves : (form : Form) → ran.served.happened.form ≡ Some form → ran.served.happened.course.opening.next ≡ NoMore
    → (status ≡ statuses.NoMemory) ⊎ ServesAll asked status before after here ran.served.happened) where
  abbrev happened : Happened
  happened = ran.served.happened

  abbrev Goal : Type 0
  Goal = (status ≡ statuses.NoMemory) ⊎ ServesWhole asked status before after here happened

  at : HasBegun asked status before after tells (disks_at tells sight home) (disks_at tells sight left) here there
      old.devices.disks new.devices.disks happened.setting happened.course happened.form
  at = subst (IsAt asked status before after tells (disks_at tells sight home) (disks_at tells sight left) here there
      old.devices.disks new.devices.disks happened) begins ran.served.is_at

  -- no disk failed as it was looked at
  unlooked_not : (text : Bytes) → TellsAs status before after text plays.Fails → ⊥
  unlooked_not text told_so = by_status status refl told_so
    where
      by_status : (s : Status) → status ≡ s → TellsAs s before after text plays.Fails → ⊥
      by_status statuses.Done e tell = let x = tell.0 in cc
      by_status statuses.Usage e tell = let x = tell.0 in cc
      by_status statuses.Refused e tell = let x = tell.0 in cc
      by_status statuses.ReadFault e tell = let x = tell.0 in cc
      by_status statuses.WriteFault e tell = write_not status old new e ran.blame none
      by_status statuses.NoMemory e tell = let x = tell.0 in cc
      by_status statuses.StartFault e tell = start_not status old new e ran.blame none
      by_status statuses.NotEmpty e tell = let x = tell.0 in cc
      by_status statuses.NotFit e tell = let x = tell.0 in cc
      by_status statuses.ClockFault e tell = let x = tell.0 in cc
      by_status statuses.DoorFault e tell = let x = tell.0 in cc
      by_status statuses.InputTooLong e tell = let x = tell.0 in cc
      by_status statuses.DiskFault e tell = let x = tell.0 in cc
      by_status statuses.Changed e tell = let x = tell.0 in cc

  module _ (form : Form) (is : happened.form ≡ Some form)
      (journals : HasJournals asked status before after tells (disks_at tells sight home) (disks_at tells sight left) here
      there old.devices.disks new.devices.disks happened.setting happened.course form) where
    abbrev Goes : Next → Type 0
    Goes = GoesOn asked status before after tells (disks_at tells sight home) (disks_at tells sight left) here there
        old.devices.disks new.devices.disks happened.setting happened.course form

    all_had : happened.course.opening.next ≡ NoMore → Goal
    all_had all = elim (serves form is all) [
      | inl lacks ↦ inl lacks
      | inr whole ↦ inr (record { form = form; is_form = is; had = all; serves = whole })
    ]

    abbrev Text : Bytes
    Text = plays.finish_text (providers_in happened.setting)
        (finish_at happened.course.holds (next_of happened.course.opening) happened.course.opening.next)

    -- a disk came to nothing
    tells_next : (next : Next) → happened.course.opening.next ≡ next → (finish : plays.Finish)
        → finish_at happened.course.holds (next_of happened.course.opening) next ≡ finish
        → ServesNone asked status before after tells (disks_at tells sight home) (disks_at tells sight left) here there
        old.devices.disks new.devices.disks happened.setting happened.course form
        → (text : Bytes) × TellsAs status before after text finish
    tells_next next came finish is goes = (
      Text,
      subst (λ (f : plays.Finish). TellsAs status before after Text f)
          (ap (finish_at happened.course.holds (next_of happened.course.opening)) came ∙ is) goes.told,
    )

    by_next : (happened.course.opening.next ≡ NoMore) ⊎ (happened.course.opening.next ≡ Fails)
        ⊎ (happened.course.opening.next ≡ Stops) → Goal
    by_next (inl all) = all_had all
    by_next (inr (inl failed)) =
        let so = tells_next Fails failed plays.Fails refl (subst Goes failed journals.goes_on) in
        absurd (start_not status old new
        (laws.failed status before after so.0 happened.course.opening failed journals.writes so.1) ran.blame none)
    by_next (inr (inr stopped)) =
        let so = tells_next Stops stopped plays.Stops refl (subst Goes stopped journals.goes_on) in
        elim (laws.stopped status before after so.0 happened.course.opening stopped journals.writes so.1) [
          | inl lacks ↦ inl lacks
          | inr failed ↦ absurd (read_not status old new failed ran.blame none)
        ]

  by_form : (form : Option Form) → happened.form ≡ form
      → HasBegun asked status before after tells (disks_at tells sight home) (disks_at tells sight left) here there
      old.devices.disks new.devices.disks happened.setting happened.course form → Goal
  by_form None is begun = absurd (unlooked_not [] begun.told)
  by_form (Some form) is begun =
      by_next form is begun.1 (laws.had form happened.course.opening begun.1.opening
      (can_begin tells sight told (world happened) home can form begun.0))

  pub completes : Goal
  completes = by_form happened.form refl at
