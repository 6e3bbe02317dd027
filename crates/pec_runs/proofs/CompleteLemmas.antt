-- Journals are had where no device fails and memory suffices.
use Rattle.std.proofs.Common.{◌≡◌, ℕ, ◌<◌, ◌⊎◌, inl, inr, length, refl, ap, sym, subst, ◌∙◌, arith, Option}
use Rattle.std.specs.Prelude.{◌-◌, ◌^◌}
use Rattle.pec_types.specs.Bytes.{Bytes}
use Rattle.pec_outside.specs.DiskModel.{Sight}
use Rattle.pec_outside.specs.Flow.{HasRisen}
use Rattle.pec_ledger.specs.Trade.{Trade}
use Rattle.pec_runs.specs.Complete.{CanBegin}
use Rattle.pec_runs.specs.Happened.{Asked, Begun, Happened, Stage, by_next, outcome_at, outcome_of, providers_in, stage_of}
use Rattle.pec_runs.specs.Openings.{Fails, Form, Holds, IsNext, IsOpening, Next, NoMore, Opening, Resume, Run, Stops, Unfits, disks_at, next_of}
use Rattle.pec_runs.specs.Plays.{Finish}
use Rattle.pec_runs.specs.Plays as plays
use Rattle.pec_runs.specs.Ran.{Blames, Counts, RanOver, TellsAs, WritesAt, world}
use Rattle.pec_runs.specs.ScriptLines.{Script}
use Rattle.pec_runs.specs.Statuses.{Status}
use Rattle.pec_runs.specs.Statuses as statuses
use Rattle.pec_runs.specs.Transcripts.{NoFaults, StoodStill}
use Rattle.pec_runs.proofs.RunLemmas.{has_begun}

-- ---- what came of the next disk

abbrev Comes : Next → Type 0
Comes next = (next ≡ NoMore) ⊎ (next ≡ Fails) ⊎ (next ≡ Stops)

run_not : Run ≡ Resume → ⊥
run_not e = cc

resume_not : Resume ≡ Run → ⊥
resume_not e = cc

module _ {D : Type 0} (tells : Type 0) (sight : D → Sight) (told : tells) (trade : Trade) (home : ℕ → Option D) where
  comes : (form : Form) (number : ℕ) (next : Next) → IsNext trade (disks_at tells sight home) form number next
      → CanBegin sight trade home form → Comes next
  comes form number NoMore is can = inl refl
  comes form number Fails is can = inr (inl refl)
  comes form number Stops is can = inr (inr refl)
  comes Run number Holds is can =
      let blank = can number is.2 in
      let some = is.1 (sight blank.disk).seen (told, (blank.disk, blank.is, refl)) in
      let none : length (sight blank.disk).seen ≡ 0 = ap length blank.empty in absurd (omega (arith, some, none))
  comes Resume number Holds is can = absurd (resume_not is.0)
  comes Run number (Unfits unfit) is can = absurd (run_not is.0)
  comes Resume number (Unfits unfit) is can =
      let own = can number is.2 in
      absurd (is.3 (sight own.disk).seen (told, (own.disk, own.is, refl)) own.entries own.own own.journal)

  pub journals_had : (form : Form) (opening : Opening) → IsOpening trade (disks_at tells sight home) form opening
      → CanBegin sight trade home form → Comes opening.next
  journals_had form opening is can = comes form (next_of opening) opening.next is.next can

-- ---- what its status is

write_lines : (next : Next) → next ≡ Fails → WritesAt statuses.WriteFault next → ⊥
write_lines Fails e writes = writes refl
write_lines NoMore e writes = cc
write_lines Holds e writes = cc
write_lines (Unfits unfit) e writes = cc
write_lines Stops e writes = cc

stop_lines : (next : Next) → next ≡ Stops → WritesAt statuses.WriteFault next → ⊥
stop_lines Stops e writes = writes refl
stop_lines NoMore e writes = cc
stop_lines Holds e writes = cc
stop_lines (Unfits unfit) e writes = cc
stop_lines Fails e writes = cc

pub fails_so : (status : Status) (before after : Option Bytes) (text : Bytes) (next : Next) → next ≡ Fails
    → WritesAt status next → TellsAs status before after text plays.Fails → status ≡ statuses.StartFault
fails_so statuses.Done before after text next e writes told = let x = told.0 in cc
fails_so statuses.Usage before after text next e writes told = let x = told.0 in cc
fails_so statuses.Refused before after text next e writes told = let x = told.0 in cc
fails_so statuses.ReadFault before after text next e writes told = let x = told.0 in cc
fails_so statuses.WriteFault before after text next e writes told = absurd (write_lines next e writes)
fails_so statuses.NoMemory before after text next e writes told = let x = told.0 in cc
fails_so statuses.StartFault before after text next e writes told = refl
fails_so statuses.NotEmpty before after text next e writes told = let x = told.0 in cc
fails_so statuses.NotFit before after text next e writes told = let x = told.0 in cc
fails_so statuses.ClockFault before after text next e writes told = let x = told.0 in cc
fails_so statuses.DoorFault before after text next e writes told = let x = told.0 in cc
fails_so statuses.InputTooLong before after text next e writes told = let x = told.0 in cc
fails_so statuses.DiskFault before after text next e writes told = let x = told.0 in cc
fails_so statuses.Changed before after text next e writes told = let x = told.0 in cc

pub stops_so : (status : Status) (before after : Option Bytes) (text : Bytes) (next : Next) → next ≡ Stops
    → WritesAt status next → TellsAs status before after text plays.Stops
    → (status ≡ statuses.NoMemory) ⊎ (status ≡ statuses.ReadFault)
stops_so statuses.Done before after text next e writes told = let x = told.0 in cc
stops_so statuses.Usage before after text next e writes told = let x = told.0 in cc
stops_so statuses.Refused before after text next e writes told = let x = told.0 in cc
stops_so statuses.ReadFault before after text next e writes told = inr refl
stops_so statuses.WriteFault before after text next e writes told = absurd (stop_lines next e writes)
stops_so statuses.NoMemory before after text next e writes told = inl refl
stops_so statuses.StartFault before after text next e writes told = let x = told.0 in cc
stops_so statuses.NotEmpty before after text next e writes told = let x = told.0 in cc
stops_so statuses.NotFit before after text next e writes told = let x = told.0 in cc
stops_so statuses.ClockFault before after text next e writes told = let x = told.0 in cc
stops_so statuses.DoorFault before after text next e writes told = let x = told.0 in cc
stops_so statuses.InputTooLong before after text next e writes told = let x = told.0 in cc
stops_so statuses.DiskFault before after text next e writes told = let x = told.0 in cc
stops_so statuses.Changed before after text next e writes told = let x = told.0 in cc

-- ---- a run

still_not : (before now : ℕ) → StoodStill before now → HasRisen before now → ⊥
still_not before now still risen =
    let same : now ≡ before = still.0 in
    let small : now < 2 ^ 64 - 1 = still.1 in
    let up : before < now = risen (omega (arith, same, small)) in omega (arith, same, up)

start_not : (status : Status) (old new : Counts) → status ≡ statuses.StartFault → Blames status old new
    → NoFaults old new → ⊥
start_not status old new is blame none = by_blame (subst (λ (s : Status). Blames s old new) is blame)
  where
    by_blame : HasRisen old.depot new.depot ⊎ ((provider : ℕ) × HasRisen (old.disks provider) (new.disks provider)) → ⊥
    by_blame (inl risen) = still_not old.depot new.depot none.depot risen
    by_blame (inr risen) = still_not (old.disks risen.0) (new.disks risen.0) (none.disks risen.0) risen.1

read_not : (status : Status) (old new : Counts) → status ≡ statuses.ReadFault → Blames status old new
    → NoFaults old new → ⊥
read_not status old new is blame none =
    still_not old.source new.source none.source (subst (λ (s : Status). Blames s old new) is blame)

module _ {D : Type 0} (tells : Type 0) (sight : D → Sight) (told : tells) (asked : Asked) (status : Status)
    (unread before after : Option Bytes) (home left : ℕ → Option D) (old new : Counts)
    (ran : RanOver tells sight asked status unread before after home left old new) (form : Form) (script : Script)
    (begun : stage_of asked ran.happened.hands ran.happened.early ran.happened.parts ≡ Begun form script)
    (none : NoFaults old new) where
  abbrev happened : Happened
  happened = ran.happened

  abbrev At : Next → Finish
  At next = (by_next (world happened) happened.screens happened.opening happened.lucks happened.rest script next).finish

  finish_is : (outcome_of asked happened).finish ≡ At happened.opening.next
  unfolding outcome_of
  finish_is = ap (λ (s : Stage). (outcome_at happened s).finish) begun

  abbrev Text : Bytes
  Text = plays.outcome_text (providers_in happened.setting) (outcome_of asked happened)

  -- what was told of it, with this finish
  tells_as : (finish : Finish) → (outcome_of asked happened).finish ≡ finish → (finish ≡ plays.Strays → ⊥)
      → (text : Bytes) × TellsAs status before after text finish
  tells_as finish is not_astray = elim ran.told [
    | inl told ↦ (Text, subst (λ (f : Finish). TellsAs status before after Text f) is told)
    | inr more ↦ absurd (not_astray (sym is ∙ more.strays))
  ]

  fails_not : plays.Fails ≡ plays.Strays → ⊥
  fails_not e = cc

  stops_not : plays.Stops ≡ plays.Strays → ⊥
  stops_not e = cc

  pub has_journals : CanBegin sight (world happened) home form
      → (status ≡ statuses.NoMemory) ⊎ (happened.opening.next ≡ NoMore)
  has_journals can =
      let had = has_begun asked status unread before after tells _ _ old new ran form script begun in
      by_next_disk (journals_had tells sight told (world happened) home form happened.opening had.opening can) had.writes
    where
      by_next_disk : Comes happened.opening.next → WritesAt status happened.opening.next
          → (status ≡ statuses.NoMemory) ⊎ (happened.opening.next ≡ NoMore)
      by_next_disk (inl all) writes = inr all
      by_next_disk (inr (inl failed)) writes =
          let so = tells_as plays.Fails (finish_is ∙ ap At failed) fails_not in
          absurd (start_not status old new (fails_so status before after so.0 happened.opening.next failed writes so.1)
          ran.blame none)
      by_next_disk (inr (inr stopped)) writes =
          let so = tells_as plays.Stops (finish_is ∙ ap At stopped) stops_not in
          by_status (stops_so status before after so.0 happened.opening.next stopped writes so.1)
        where
          by_status : (status ≡ statuses.NoMemory) ⊎ (status ≡ statuses.ReadFault)
              → (status ≡ statuses.NoMemory) ⊎ (happened.opening.next ≡ NoMore)
          by_status (inl lacks) = inl lacks
          by_status (inr failed) = absurd (read_not status old new failed ran.blame none)
