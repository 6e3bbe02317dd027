-- A run that serves, where it begins and has its journals.
use Rattle.std.proofs.Common.{◌≡◌, ◌≢◌, ℕ, ◌+◌, ◌<◌, ◌≤◌, ◌⊎◌, inl, inr, Bool, true, false, List, ◌∷◌, ◌++◌, nat_lt, refl, ap, subst, ◌∙◌, arith, length, take}
use Rattle.std.proofs.Common.{Option, Some, Result, Ok, Err}
use Rattle.std.specs.Prelude.{◌↔◌, if◌then◌else◌}
use Rattle.pec_types.specs.Bytes.{Bytes}
use Rattle.pec_outside.specs.Flow.{HasRisen, followed_by}
use Rattle.pec_directory.specs.Directory.{Provider}
use Rattle.pec_input.specs.Directory.{Refusal, directory_in}
use Rattle.pec_input.specs.declared.opening.TheConstants.{LONGEST_DIRECTORY}
use Rattle.pec_journal.specs.JournalFile.{HasNoEntry, IsBroken, front, header, open_gate}
use Rattle.pec_ledger.specs.TradeLaws.{IsTrade}
use Rattle.pec_runs.specs.Endings as ends
use Rattle.pec_runs.specs.Openings.{Disks, Form, NoMore}
use Rattle.pec_runs.specs.Statuses.{Status}
use Rattle.pec_runs.specs.Statuses as statuses
use Rattle.pec_runs.specs.Transcripts.{StoodStill}
use Rattle.pec_service.specs.Runs.{AllCounts, Asked, Begins, Blames, GoesOn, Halts, HasBegun, HasJournals, HasServed, IsAt, NoFaults, Outside, Over, Serves, ServesAll, TellsService, by_directory, first_place, stage_of, status_at, world}
use Rattle.pec_service.specs.Services.{AllServed, Ending, EndsSo, Halted, NoConnection, NoMoment, service_text}
use Rattle.pec_service.specs.Connections.{Connection}

-- ---- stages

-- a run that begins has a directory
pub has_directory : (early : Bool) (directory : Bytes) → stage_of early directory ≡ Begins
    → (providers : List Provider) × (directory_in directory ≡ Ok providers)
unfolding stage_of
has_directory true directory e = absurd (halts e)
  where
    halts : Halts ≡ Begins → ⊥
    halts x = cc
has_directory false directory e = so (nat_lt LONGEST_DIRECTORY (length directory)) (directory_in directory) refl e
  where
    so : (long : Bool) (told : Result (List Provider) Refusal) → directory_in directory ≡ told
        → (if long then Over ends.LongDirectory else by_directory told) ≡ Begins
        → (providers : List Provider) × (directory_in directory ≡ Ok providers)
    so true told is x = cc
    so false (Err fault) is x = cc
    so false (Ok providers) is x = (providers, is)

module _ (asked : Asked) (status : Status) (unread before after : Option Bytes) (tells : Type 0) (old_disks new_disks : Disks)
    (here there : Outside) (from upto : ℕ → ℕ)
    (ran : HasServed asked status unread before after tells old_disks new_disks here there from upto) (form : Form)
    (begins : stage_of ran.happened.early ran.happened.directory ≡ Begins) (is_form : ran.happened.form ≡ Some form)
  where
    pub is_world : IsTrade (world ran.happened)
    is_world =
        let had = has_directory ran.happened.early ran.happened.directory begins
        in (ran.setting begins had.0 had.1).world

    pub has_journals : HasJournals asked status before after tells old_disks new_disks here there from upto ran.happened.setting
        ran.happened.course form
    has_journals =
        let at = subst (IsAt asked status before after tells old_disks new_disks here there from upto ran.happened) begins ran.is_at
        in (subst (HasBegun asked status before after tells old_disks new_disks here there from upto ran.happened.setting
        ran.happened.course) is_form at).1

    pub serves_on : ran.happened.course.opening.next ≡ NoMore
        → Serves asked status before after tells old_disks new_disks here there from upto ran.happened.setting ran.happened.course form
    serves_on at_hand =
        subst (GoesOn asked status before after tells old_disks new_disks here there from upto ran.happened.setting ran.happened.course
        form) at_hand has_journals.goes_on

-- ---- runs without faults

not_risen : (before now : ℕ) → HasRisen before now → StoodStill before now → ⊥
not_risen before now risen still =
    let same = still.0 in let small = still.1 in let x : before < now = risen (omega (arith, same, small)) in omega
    (arith, same, x)

-- a status that blames no device is that of the service's end
blames_none : (status : Status) (old new : AllCounts) → NoFaults old new → Blames status old new
    → (before after : Option Bytes) (text : Bytes) (ending : Ending) → TellsService status before after text ending
    → (status ≡ statuses.NoMemory) ⊎ ((status ≡ statuses.Done) × (ending ≡ AllServed) × (after ≡ followed_by before text))
blames_none statuses.Done old new none blames before after text ending told = inr (refl, so ending told.0, told.1)
  where
    so : (e : Ending) → status_at e ≡ Some statuses.Done → e ≡ AllServed
    so AllServed x = refl
    so NoConnection x = cc
    so NoMoment x = cc
    so Halted x = cc
blames_none statuses.Usage old new none blames before after text ending told = absurd (so ending told.0)
  where
    so : (e : Ending) → status_at e ≡ Some statuses.Usage → ⊥
    so AllServed x = cc
    so NoConnection x = cc
    so NoMoment x = cc
    so Halted x = cc
blames_none statuses.Refused old new none blames before after text ending told = absurd (so ending told.0)
  where
    so : (e : Ending) → status_at e ≡ Some statuses.Refused → ⊥
    so AllServed x = cc
    so NoConnection x = cc
    so NoMoment x = cc
    so Halted x = cc
blames_none statuses.ReadFault old new none blames before after text ending told =
    absurd (not_risen old.devices.source new.devices.source blames none.devices.source)
blames_none statuses.WriteFault old new none blames before after text ending told =
    absurd (not_risen old.devices.sink new.devices.sink blames none.devices.sink)
blames_none statuses.NoMemory old new none blames before after text ending told = inl refl
blames_none statuses.StartFault old new none (inl risen) before after text ending told =
    absurd (not_risen old.devices.depot new.devices.depot risen none.devices.depot)
blames_none statuses.StartFault old new none (inr risen) before after text ending told =
    absurd (not_risen (old.devices.disks risen.0) (new.devices.disks risen.0) risen.1 (none.devices.disks risen.0))
blames_none statuses.NotEmpty old new none blames before after text ending told = absurd (so ending told.0)
  where
    so : (e : Ending) → status_at e ≡ Some statuses.NotEmpty → ⊥
    so AllServed x = cc
    so NoConnection x = cc
    so NoMoment x = cc
    so Halted x = cc
blames_none statuses.NotFit old new none blames before after text ending told = absurd (so ending told.0)
  where
    so : (e : Ending) → status_at e ≡ Some statuses.NotFit → ⊥
    so AllServed x = cc
    so NoConnection x = cc
    so NoMoment x = cc
    so Halted x = cc
blames_none statuses.ClockFault old new none blames before after text ending told =
    absurd (not_risen old.clock new.clock blames none.clock)
blames_none statuses.DoorFault old new none blames before after text ending told =
    absurd (not_risen old.door new.door blames none.door)
blames_none statuses.DiskFault old new none blames before after text ending told =
    absurd (not_risen (old.devices.disks blames.0) (new.devices.disks blames.0) blames.1 (none.devices.disks blames.0))
blames_none statuses.Changed old new none blames before after text ending told = absurd (so ending told.0)
  where
    so : (e : Ending) → status_at e ≡ Some statuses.Changed → ⊥
    so AllServed x = cc
    so NoConnection x = cc
    so NoMoment x = cc
    so Halted x = cc
blames_none statuses.InputTooLong old new none blames before after text ending told = absurd (so ending told.0)
  where
    so : (e : Ending) → status_at e ≡ Some statuses.InputTooLong → ⊥
    so AllServed x = cc
    so NoConnection x = cc
    so NoMoment x = cc
    so Halted x = cc

all_by : (wanted served : ℕ) (ending : Ending) (part : Option Connection) → ending ≡ AllServed
    → EndsSo wanted served ending part → served ≡ wanted
all_by wanted served ending part e ends = (subst (λ (x : Ending). EndsSo wanted served x part) e ends).0

module _ (asked : Asked) (status : Status) (unread before after : Option Bytes) (tells : Type 0) (old_disks new_disks : Disks)
    (here there : Outside) (old new : AllCounts)
    (ran : HasServed asked status unread before after tells old_disks new_disks here there old.devices.disks new.devices.disks)
    (form : Form) (begins : stage_of ran.happened.early ran.happened.directory ≡ Begins)
    (is_form : ran.happened.form ≡ Some form) (at_hand : ran.happened.course.opening.next ≡ NoMore)
    (none : NoFaults old new) (blames : Blames status old new) where
  pub serves_all : (status ≡ statuses.NoMemory) ⊎ ServesAll asked status before after here ran.happened
  serves_all =
      let serves = serves_on asked status unread before after tells old_disks new_disks here there old.devices.disks
      new.devices.disks ran form begins is_form at_hand
      in by_end serves (blames_none status old new none blames before after _ _ serves.told)
    where
      by_end : (serves : Serves asked status before after tells old_disks new_disks here there old.devices.disks new.devices.disks
          ran.happened.setting ran.happened.course form)
          → (status ≡ statuses.NoMemory) ⊎ ((status ≡ statuses.Done)
          × (ran.happened.course.service.ending ≡ AllServed)
          × (after ≡ followed_by before (service_text (world ran.happened) ran.happened.setting.kept
          (first_place (world ran.happened) asked.screens ran.happened.course.opening.journals serves.counts here)
          ran.happened.course.service)))
          → (status ≡ statuses.NoMemory) ⊎ ServesAll asked status before after here ran.happened
      by_end serves (inl e) = inl e
      by_end serves (inr x) = inr (record {
        done = x.0;
        all = all_by asked.wanted (length ran.happened.course.service.whole) ran.happened.course.service.ending
            ran.happened.course.service.part x.1 serves.is.ends;
        counts = serves.counts;
        written = x.2;
      })

-- ---- heads

header_in : (entries : List Bytes) (more : Bytes) → take (length header) (front entries ++ more) ≡ header
header_in entries more = refl

header_alone : (entries : List Bytes) → take (length header) (front entries) ≡ header
header_alone entries = refl

past_head : (entries : List Bytes) → 8 ≤ length (front entries)
past_head entries = omega arith

pub refused_at_head : (bytes : Bytes) (place : ℕ) → IsBroken bytes place
    → (place ≡ 0) ↔ (take (length header) bytes ≢ header)
refused_at_head bytes place (inl other) = (λ e. other.1, λ differs. other.0)
refused_at_head bytes place (inr broken) = by_stop broken.0 broken.1.stops
  where
    by_stop : (entries : List Bytes) → ((bytes ≡ front entries) × (place ≡ length bytes))
        ⊎ ((rest : Bytes) × (bytes ≡ front entries ++ open_gate ∷ rest) × HasNoEntry rest
        × (place ≡ length (front entries) + 1)) → (place ≡ 0) ↔ (take (length header) bytes ≢ header)
    by_stop entries (inl ends) = (
      λ e. let far = past_head entries in let size = ap (λ (b : Bytes). length b) ends.0 in let at = ends.1 in absurd (omega (arith, far, size, at, e)),
      λ differs. absurd (differs (ap (take (length header)) ends.0 ∙ header_alone entries)),
    )
    by_stop entries (inr stop) = (
      λ e. let at = stop.3 in absurd (omega (arith, at, e)),
      λ differs. absurd (differs (ap (take (length header)) stop.1 ∙ header_in entries (open_gate ∷ stop.0))),
    )
