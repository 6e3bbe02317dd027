-- A run that writes an extract of logs: what its status blames, and how it ends before its journals are read.
use Rattle.std.proofs.Common.{◌≡◌, ℕ, ◌≤◌, Bool, true, false, List, [], length, refl, subst, sym, arith, Option, Result, Ok, Err}
use Rattle.std.specs.Prelude.{IfErr, IfSome}
use Rattle.pec_types.specs.Bytes.{Bytes}
use Rattle.pec_outside.specs.DiskModel.{Sight}
use Rattle.pec_outside.specs.Flow.{HasRisen}
use Rattle.pec_directory.specs.Directory.{Kept, Provider, providers_of}
use Rattle.pec_input.specs.Directory.{directory_in}
use Rattle.pec_input.specs.declared.opening.TheConstants.{LONGEST_DIRECTORY}
use Rattle.pec_ledger.specs.Network.{chosen}
use Rattle.pec_ledger.specs.Trade.{Trade}
use Rattle.pec_seal.specs.Seals.{Seals}
use Rattle.pec_extract.specs.Logs.{IsChangedIn, LogsTell}
use Rattle.pec_dossier.specs.Extracts.{ExtractsNone, GoesOn, HasOpened, IsAt, Range, TellsHeader, finish_at}
use Rattle.pec_runs.specs.Endings.{End, end_text}
use Rattle.pec_runs.specs.Happened.{IsSetting, Setting, trade_in}
use Rattle.pec_runs.specs.Openings.{AreLeft, AreUntouched, Form, IsOpening, Next, NoMore, Holds, Unfits, Fails, Stops}
use Rattle.pec_runs.specs.Openings.{Opening, Resume, disks_at, next_of, opened_all}
use Rattle.pec_runs.specs.Plays.{Finish, finish_text}
use Rattle.pec_runs.specs.Plays as plays
use Rattle.pec_runs.specs.Ran.{Blames, Counts, TellsAs, WritesAt}
use Rattle.pec_runs.specs.Statuses.{Status}
use Rattle.pec_runs.specs.Statuses as statuses
use Rattle.pec_runs.specs.Through.{AreHadFrom}
use Rattle.pec_service.specs.Runs.{Over, stage_of}
use Rattle.pec_service.specs.Runs as service
use Rattle.pec_top.specs.Blaming.{BlamesRefusal, HaveDisksRisen}
use Rattle.pec_top.specs.Extracting.{DevicesGo, LogRanSo, devices_of, header_text, text_within}
use Rattle.pec_top.specs.Opened.{Finishes, IsUnopened}
use Rattle.pec_top.specs.Opened as unopened
use Rattle.pec_top.specs.Shown.{result_shown}
use Rattle.pec_top.specs.declared.ending.End.{End as Last}
use Rattle.pec_top.specs.declared.ending.End.TheVariants as lasts
use Rattle.pec_top.specs.declared.ending.Stop.{Stop}
use Rattle.pec_top.specs.declared.ending.Stop.TheVariants as stops
use Rattle.pec_top.specs.declared.forms.Form.TheVariants as forms
use Rattle.pec_top.specs.declared.opening.Journals.TheVariants as journals
use Rattle.pec_top.specs.declared.opening.Refusal.{Refusal as Shut}
use Rattle.pec_top.specs.declared.opening.Refusal.TheVariants as refusals
use Rattle.pec_top.proofs.ExportingLemmas.{Had, had_over, had_read, had_stopped}
use Rattle.pec_top.proofs.HostingLemmas.{text_there}
use Rattle.pec_top.proofs.RunningLemmas.{nobody}
use Rattle.pec_top.proofs.TopLemmas.{blames_end}

-- ---- what a status blames

pub log_blames : (status : Status) (header : Bytes) (before after : Option Bytes) (old new : Counts)
    → TellsHeader status header before after → (status ≡ statuses.WriteFault → HasRisen old.sink new.sink)
    → (status ≡ statuses.DiskFault → (provider : ℕ) × HasRisen (old.disks provider) (new.disks provider))
    → Blames status old new
log_blames statuses.Done header before after old new headed sink disk = tt
log_blames statuses.WriteFault header before after old new headed sink disk = sink refl
log_blames statuses.NoMemory header before after old new headed sink disk = tt
log_blames statuses.DiskFault header before after old new headed sink disk = disk refl
log_blames statuses.Changed header before after old new headed sink disk = tt
log_blames statuses.Usage header before after old new headed sink disk = absurd headed
log_blames statuses.Refused header before after old new headed sink disk = absurd headed
log_blames statuses.ReadFault header before after old new headed sink disk = absurd headed
log_blames statuses.StartFault header before after old new headed sink disk = absurd headed
log_blames statuses.NotEmpty header before after old new headed sink disk = absurd headed
log_blames statuses.NotFit header before after old new headed sink disk = absurd headed
log_blames statuses.ClockFault header before after old new headed sink disk = absurd headed
log_blames statuses.DoorFault header before after old new headed sink disk = absurd headed
log_blames statuses.InputTooLong header before after old new headed sink disk = absurd headed

-- ---- runs that are over

-- a run that ended or was stopped tells no entry as changed
pub never_changed : (run : Result Last Stop) → result_shown run ≡ statuses.Changed → ⊥
never_changed (Ok lasts.Done) e = cc
never_changed (Ok lasts.Usage) e = cc
never_changed (Ok lasts.Refused) e = cc
never_changed (Ok lasts.NotEmpty) e = cc
never_changed (Ok lasts.NotFit) e = cc
never_changed (Ok lasts.TooLong) e = cc
never_changed (Err stops.NoMemory) e = cc
never_changed (Err stops.ReadFault) e = cc
never_changed (Err stops.WriteFault) e = cc
never_changed (Err stops.StartFault) e = cc
never_changed (Err stops.ClockFault) e = cc
never_changed (Err stops.DoorFault) e = cc

abbrev no_opening : Opening
no_opening = record { journals = []; next = Stops }

-- how a run finishes whose disk came to this, as an extract says it and as a service does
same_finish : (number : ℕ) (next : Next) → (next ≡ NoMore → ⊥)
    → service.finish_at false number next ≡ finish_at number next
same_finish number NoMore some = absurd (some refl)
same_finish number Holds some = refl
same_finish number (Unfits unfit) some = refl
same_finish number Fails some = refl
same_finish number Stops some = refl

module _ {D : Type 0} (tells : Type 0) (sight : D → Sight) (faults : D → ℕ) (range : Range) (status : Status)
    (unread before after : Option Bytes) (home left : ℕ → Option D) (from upto : ℕ → ℕ) where
  abbrev Ran : Type 0
  Ran = LogRanSo tells sight faults range status unread before after home left from upto

  abbrev At : Setting → Opening → Had → Type 0
  At = IsAt text_within header_text tells sight faults range status before after home left from upto

  abbrev Goes : Setting → Opening → Next → Type 0
  Goes = GoesOn text_within header_text tells sight faults range status before after home left from upto

  abbrev None_ : Setting → Finish → Type 0
  None_ = ExtractsNone text_within header_text tells sight faults range status before after home left from upto

  goes_next : (setting : Setting) (opening : Opening) (next : Next) → (next ≡ NoMore → ⊥)
      → None_ setting (finish_at (next_of opening) next) → Goes setting opening next
  goes_next setting opening NoMore some none = absurd (some refl)
  goes_next setting opening Holds some none = none
  goes_next setting opening (Unfits unfit) some none = none
  goes_next setting opening Fails some none = none
  goes_next setting opening Stops some none = none

  module _ (unchanged : status ≡ statuses.Changed → ⊥) where
    module _ (untouched_ : AreUntouched (disks_at tells sight home) (disks_at tells sight left))
        (had : (trade : Trade) → AreHadFrom sight tells Resume trade home left) where
      -- It was stopped before a disk was asked for.
      pub log_stopped : TellsAs status before after [] plays.Stops → Ran
      log_stopped told =
          let text = text_there unread
          in record {
            so = record {
              bytes = text.0;
              early = true;
              setting = nobody;
              opening = no_opening;
              input = text.1;
              is_at = subst (At nobody no_opening) (sym (had_stopped text.0))
                  (record { told = told; disks = untouched_; had = had });
            };
            changed = λ both is. absurd (unchanged is);
            unchanged = λ both is whole me within. absurd (omega (arith, within));
          }

      -- The input is too long, or is refused.
      pub log_over : (bytes : Bytes) → IfSome unread (λ text. bytes ≡ text) → (end : End) → stage_of false bytes ≡ Over end
          → TellsAs status before after (end_text [] end) (plays.Ends end) → Ran
      log_over bytes input end stage told = record {
        so = record {
          bytes = bytes;
          early = false;
          setting = nobody;
          opening = no_opening;
          input = input;
          is_at = subst (At nobody no_opening) (sym (had_over bytes end stage))
              (record { told = told; disks = untouched_; had = had });
        };
        changed = λ both is. absurd (unchanged is);
        unchanged = λ both is whole me within. absurd (omega (arith, within));
      }

  module _ (bytes : Bytes) (input : IfSome unread (λ text. bytes ≡ text)) (short : length bytes ≤ LONGEST_DIRECTORY)
      (kept : List Kept) (reads : directory_in bytes ≡ Ok (providers_of kept)) where
    -- Journals were opened, all or some.
    pub log_opened : (seals : Seals) (opening : Opening)
        → IsSetting (providers_of kept) (record { kept = kept; seals = seals })
        → HasOpened text_within header_text tells sight faults range status before after home left from upto
        (record { kept = kept; seals = seals }) opening
        → (tells → status ≡ statuses.Changed
        → (number : ℕ) × IsChangedIn (trade_in (record { kept = kept; seals = seals })) opening.journals number)
        → (tells → status ≡ statuses.Done → opening.next ≡ NoMore
        → LogsTell (trade_in (record { kept = kept; seals = seals })) range.from range.upto opening.journals)
        → Ran
    log_opened seals opening is_setting has changed none_is = record {
      so = record {
        bytes = bytes;
        early = false;
        setting = record { kept = kept; seals = seals };
        opening = opening;
        input = input;
        is_at = subst (At (record { kept = kept; seals = seals }) opening)
            (sym (had_read bytes short (providers_of kept) reads)) (is_setting, has);
      };
      changed = changed;
      unchanged = none_is;
    }

    -- Not all journals could be opened.
    pub log_unopened : (status ≡ statuses.Changed → ⊥) → (refusal : Shut)
        → ((providers : List Provider) (finish : Finish) → Finishes providers refusal finish
        → TellsAs status before after (finish_text providers finish) finish)
        → ((providers : List Provider) (holds : Bool) (number : ℕ) (next : Next)
        → Finishes providers refusal (service.finish_at holds number next) → WritesAt status next)
        → IsUnopened (journals.As forms.Resume) [] kept (disks_at tells sight home) (disks_at tells sight left)
        (λ form trade. AreHadFrom sight tells form trade home left) refusal
        → Ran
    log_unopened unchanged refusal told lines (unopened.Halted none untouched_ went) =
        log_stopped unchanged untouched_ went
        (told [] plays.Stops (subst (λ (r : Shut). Finishes [] r plays.Stops) (sym none) refl))
    log_unopened unchanged refusal told lines (unopened.Unlooked seals chosen failed is_setting untouched_ went) =
        absurd (never_chosen chosen)
      where
        never_chosen : journals.As forms.Resume ≡ journals.Chosen → ⊥
        never_chosen e = cc
    log_unopened unchanged refusal told lines (unopened.Refused seals at) =
        let setting : Setting = record { kept = kept; seals = seals }
        in let number = next_of at.opening
        in let finish = finish_at number at.opening.next
        in let finishes : Finishes (providers_of kept) refusal finish =
        subst (Finishes (providers_of kept) refusal) (same_finish number at.opening.next at.some)
        (subst (λ (holds : Bool). Finishes (providers_of kept) refusal
        (service.finish_at holds number at.opening.next)) at.may_hold at.finishes)
        in let none : None_ setting finish = record {
          told = told (providers_of kept) finish finishes;
          had = subst (λ (f : Form). AreHadFrom sight tells f (trade_in setting) home left) at.is_form at.went;
        }
        in log_opened seals at.opening at.is_setting (record {
          is = subst (λ (f : Form). IsOpening (trade_in setting) (disks_at tells sight home) f at.opening) at.is_form
              at.is_opening;
          writes = lines (providers_of kept) at.holds number at.opening.next at.finishes;
          goes_on = goes_next setting at.opening at.opening.next at.some none;
          disks = subst (λ (f : Form). AreLeft (disks_at tells sight home) (disks_at tells sight left) f at.opening
              (opened_all (trade_in setting) [] at.opening.journals)) at.is_form at.left;
        }) (λ both is. absurd (unchanged is)) (λ both is whole. absurd (at.some whole))

-- ---- counts of a run that was refused

pub refused_go : (refusal : Shut) (result : Result Last Stop) (sink_old sink_new depot_old depot_new : ℕ)
    (last now : ℕ → ℕ) → IfErr result (BlamesRefusal refusal sink_old sink_new)
    → (refusal ≡ refusals.StartFault → HaveDisksRisen depot_old depot_new last now) → sink_old ≤ sink_new
    → depot_old ≤ depot_new → ((k : ℕ) → last k ≤ now k)
    → DevicesGo (result_shown result) (devices_of 0 sink_old depot_old last) (devices_of 0 sink_new depot_new now)
refused_go refusal result sink_old sink_new depot_old depot_new last now blame disks sink depot rose = (
  so result blame,
  record { source = omega arith; sink = sink; depot = depot; disks = rose },
)
  where
    so : (told : Result Last Stop) → IfErr told (BlamesRefusal refusal sink_old sink_new)
        → Blames (result_shown told) (devices_of 0 sink_old depot_old last) (devices_of 0 sink_new depot_new now)
    so (Ok end) blame = blames_end end (devices_of 0 sink_old depot_old last) (devices_of 0 sink_new depot_new now)
    so (Err stops.NoMemory) blame = tt
    so (Err stops.ReadFault) blame = absurd blame
    so (Err stops.WriteFault) blame = blame
    so (Err stops.StartFault) blame = disks blame
    so (Err stops.ClockFault) blame = absurd blame
    so (Err stops.DoorFault) blame = absurd blame
