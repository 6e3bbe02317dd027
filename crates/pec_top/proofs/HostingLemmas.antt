-- A run that serves, at each of its stages; and which device its status blames.
use Rattle.std.proofs.Common.{◌≡◌, ℕ, ◌+◌, ◌<◌, ◌≤◌, Bool, true, false, List, [], refl, ap, sym, subst, ◌∙◌, arith, length}
use Rattle.std.proofs.Common.{replicate, Option, Some, None, Result, Ok, Err}
use Rattle.std.specs.Prelude.{IfErr, IfSome, IsErrOf, if◌then◌else◌}
use Rattle.std.proofs.lemmas.Bool.{le-ltb, lt-ltb}
use Rattle.std.proofs.lemmas.List.{length-replicate}
use Rattle.pec_types.specs.Bytes.{Bytes}
use Rattle.pec_outside.specs.Flow.{HasRisen}
use Rattle.pec_directory.specs.Directory.{Provider}
use Rattle.pec_input.specs.Directory.{Refusal, directory_in}
use Rattle.pec_input.specs.declared.opening.TheConstants.{LONGEST_DIRECTORY}
use Rattle.pec_runs.specs.Endings.{End, end_text}
use Rattle.pec_runs.specs.Endings as ends
use Rattle.pec_runs.specs.Happened.{IsSetting, Setting, providers_in, trade_in}
use Rattle.pec_runs.specs.Openings.{AreUntouched, Disks, Form, Next, NoMore, Holds, Unfits, Fails, Stops}
use Rattle.pec_runs.specs.Plays as plays
use Rattle.pec_runs.specs.Ran.{TellsAs}
use Rattle.pec_runs.specs.Statuses.{Status}
use Rattle.pec_service.specs.Runs.{AllCounts, Asked, Begins, Blames, Course, GoesOn, Halts, Happened, HasJournals, HasServed}
use Rattle.pec_service.specs.Runs.{IsAt, IsChosen, Outside, Over, ServesNone, TellsService, by_directory, stage_of}
use Rattle.pec_service.specs.Runs.{status_at}
use Rattle.pec_service.specs.Services.{Halted}
use Rattle.pec_service.specs.Services as services
use Rattle.pec_serving.specs.Serving.{AreWritten, ending_of}
use Rattle.pec_serving.specs.declared.serving.Ending.{Ending}
use Rattle.pec_serving.specs.declared.serving.Ending.TheVariants as endings
use Rattle.pec_top.specs.Blaming.{BlamesDevices, BlamesRefusal, HaveDisksRisen}
use Rattle.pec_top.specs.Hosting.{CountsGo, counts_of, ended_as}
use Rattle.pec_top.specs.Shown.{end_shown, result_shown}
use Rattle.pec_top.specs.declared.ending.End.{End as Last}
use Rattle.pec_top.specs.declared.ending.End.TheVariants as lasts
use Rattle.pec_top.specs.declared.ending.Stop.{Stop}
use Rattle.pec_top.specs.declared.ending.Stop.TheVariants as stops
use Rattle.pec_top.specs.declared.opening.Refusal.{Refusal as Shut}
use Rattle.pec_top.specs.declared.opening.Refusal.TheVariants as refusals
use Rattle.pec_top.proofs.RunningLemmas.{nobody, same_ok}

-- ---- how a service ended

pub told_as : (ending : Ending) (before after : Option Bytes) (text : Bytes) (e : services.Ending) → e ≡ ending_of ending
    → AreWritten ending before after text → TellsService (ended_as ending) before after text e
told_as endings.AllServed before after text e is written = (ap status_at is, written)
told_as endings.NoConnection before after text e is written = (ap status_at is, written)
told_as endings.NoMoment before after text e is written = (ap status_at is, written)
told_as endings.NoMemory before after text e is written = (is, written)
told_as endings.WriteFault before after text e is written = (is, written)

pub blames_ended : (ending : Ending) (old new : AllCounts) → (ending ≡ endings.NoMoment → HasRisen old.clock new.clock)
    → (ending ≡ endings.NoConnection → HasRisen old.door new.door)
    → (ending ≡ endings.WriteFault → HasRisen old.devices.sink new.devices.sink) → Blames (ended_as ending) old new
blames_ended endings.AllServed old new clock door sink = tt
blames_ended endings.NoConnection old new clock door sink = door refl
blames_ended endings.NoMoment old new clock door sink = clock refl
blames_ended endings.NoMemory old new clock door sink = tt
blames_ended endings.WriteFault old new clock door sink = sink refl

-- ---- a run that was refused

-- a run that ended blames nothing
ended_blames : (end : Last) (old new : AllCounts) → Blames (end_shown end) old new
ended_blames lasts.Done old new = tt
ended_blames lasts.Usage old new = tt
ended_blames lasts.Refused old new = tt
ended_blames lasts.NotEmpty old new = tt
ended_blames lasts.NotFit old new = tt
ended_blames lasts.TooLong old new = tt

pub refused_counts : (refusal : Shut) (result : Result Last Stop) (sink_old sink_new depot_old depot_new : ℕ)
    (last left : ℕ → ℕ) (clock door : ℕ) → IfErr result (BlamesRefusal refusal sink_old sink_new)
    → (refusal ≡ refusals.StartFault → HaveDisksRisen depot_old depot_new last left) → sink_old ≤ sink_new
    → depot_old ≤ depot_new → ((k : ℕ) → last k ≤ left k)
    → CountsGo (result_shown result) (counts_of 0 sink_old depot_old last clock door)
    (counts_of 0 sink_new depot_new left clock door)
refused_counts refusal result sink_old sink_new depot_old depot_new last left clock door blame disks sink depot rose = (
  so result blame,
  record {
    devices = record { source = omega arith; sink = sink; depot = depot; disks = rose };
    clock = omega arith;
    door = omega arith;
  },
)
  where
    so : (told : Result Last Stop) → IfErr told (BlamesRefusal refusal sink_old sink_new)
        → Blames (result_shown told) (counts_of 0 sink_old depot_old last clock door)
        (counts_of 0 sink_new depot_new left clock door)
    so (Ok end) blame = ended_blames end (counts_of 0 sink_old depot_old last clock door)
        (counts_of 0 sink_new depot_new left clock door)
    so (Err stops.NoMemory) blame = tt
    so (Err stops.ReadFault) blame = absurd blame
    so (Err stops.WriteFault) blame = blame
    so (Err stops.StartFault) blame = disks blame
    so (Err stops.ClockFault) blame = absurd blame
    so (Err stops.DoorFault) blame = absurd blame

abbrev stopped : Stop → Result Last Stop
stopped stop = Err stop

same_stop : (a b : Stop) → stopped a ≡ stopped b → a ≡ b
same_stop a b e = cc

-- the same of a run that plays a script, which asks no clock and no door
pub refused_devices : (refusal : Shut) (result : Result Last Stop) (source sink_old sink_new : ℕ)
    → IfErr result (BlamesRefusal refusal sink_old sink_new) → sink_old ≤ sink_new
    → BlamesDevices result source source sink_old sink_new
refused_devices refusal result source sink_old sink_new blame sink =
    (λ e. read result e blame, (λ e. wrote result e blame, (omega arith, sink)))
  where
    read : (told : Result Last Stop) → IsErrOf told stops.ReadFault → IfErr told (BlamesRefusal refusal sink_old sink_new)
        → HasRisen source source
    read (Ok end) e blame = cc
    read (Err stop) e blame =
        absurd (subst (BlamesRefusal refusal sink_old sink_new) (same_stop stop stops.ReadFault e) blame)

    wrote : (told : Result Last Stop) → IsErrOf told stops.WriteFault → IfErr told (BlamesRefusal refusal sink_old sink_new)
        → HasRisen sink_old sink_new
    wrote (Ok end) e blame = cc
    wrote (Err stop) e blame = subst (BlamesRefusal refusal sink_old sink_new) (same_stop stop stops.WriteFault e) blame

pub refused_start : (refusal : Shut) (result : Result Last Stop) (sink_old sink_new : ℕ)
    → IfErr result (BlamesRefusal refusal sink_old sink_new) → IsErrOf result stops.StartFault
    → refusal ≡ refusals.StartFault
refused_start refusal (Ok end) sink_old sink_new blame e = cc
refused_start refusal (Err stop) sink_old sink_new blame e =
    subst (BlamesRefusal refusal sink_old sink_new) (same_stop stop stops.StartFault e) blame

-- ---- stages

pub stage_halts : (directory : Bytes) → stage_of true directory ≡ Halts
unfolding stage_of
stage_halts directory = refl

pub stage_long : (directory : Bytes) → LONGEST_DIRECTORY < length directory
    → stage_of false directory ≡ Over ends.LongDirectory
unfolding stage_of
stage_long directory long =
    ap (λ (t : Bool). if t then Over ends.LongDirectory else by_directory (directory_in directory))
    (lt-ltb LONGEST_DIRECTORY (length directory) long)

pub stage_read : (directory : Bytes) → length directory ≤ LONGEST_DIRECTORY
    → (told : Result (List Provider) Refusal) → directory_in directory ≡ told
    → stage_of false directory ≡ by_directory told
unfolding stage_of
stage_read directory short told reads =
    ap (λ (t : Bool). if t then Over ends.LongDirectory else by_directory (directory_in directory))
    (le-ltb LONGEST_DIRECTORY (length directory) short)
    ∙ ap by_directory reads

pub over_not : (end : End) → Over end ≡ Begins → ⊥
over_not end e = cc

pub halts_not : Halts ≡ Begins → ⊥
halts_not e = cc

-- an input, as far as it is told
pub text_there : (unread : Option Bytes) → (directory : Bytes) × IfSome unread (λ text. directory ≡ text)
text_there None = ([], tt)
text_there (Some text) = (text, refl)

abbrev no_course : Course
no_course = record {
  opening = record { journals = []; next = Stops };
  holds = false;
  service = record { whole = []; part = None; ending = Halted };
}

-- ---- the run at its stages

module _ (asked : Asked) (status : Status) (unread before after : Option Bytes) (tells : Type 0) (old new : Disks)
    (here there : Outside) (from upto : ℕ → ℕ) where
  module _ (untouched_ : AreUntouched old new) (same : there ≡ here) where
    -- It is over.
    unfoldable pub served_over : (directory : Bytes) (end : End) → stage_of false directory ≡ Over end
        → IfSome unread (λ text. directory ≡ text) → TellsAs status before after (end_text [] end) (plays.Ends end)
        → HasServed asked status unread before after tells old new here there from upto
    served_over directory end stage input told =
        let happened : Happened = record {
          directory = directory;
          early = false;
          setting = nobody;
          form = None;
          course = no_course;
        }
        in record {
          happened = happened;
          input = input;
          setting = λ begins. absurd (over_not end (sym stage ∙ begins));
          is_at = subst (IsAt asked status before after tells old new here there from upto happened) (sym stage)
              (record { told = told; disks = untouched_; outside = same });
        }

    -- It was halted before a disk was asked for.
    unfoldable pub served_halted : TellsAs status before after [] plays.Stops
        → HasServed asked status unread before after tells old new here there from upto
    served_halted told =
        let text = text_there unread
        in let happened : Happened = record {
          directory = text.0;
          early = true;
          setting = nobody;
          form = None;
          course = no_course;
        }
        in let stage = stage_halts text.0
        in record {
          happened = happened;
          input = text.1;
          setting = λ begins. absurd (halts_not (sym stage ∙ begins));
          is_at = subst (IsAt asked status before after tells old new here there from upto happened) (sym stage)
              (record { told = told; disks = untouched_; outside = same });
        }

  module _ (bytes : Bytes) (short : length bytes ≤ LONGEST_DIRECTORY) (setting : Setting)
      (reads : directory_in bytes ≡ Ok (providers_in setting)) (is_setting : IsSetting (providers_in setting) setting)
      (input : IfSome unread (λ text. bytes ≡ text)) where
    unfoldable pub begun_with : (form : Option Form) (course : Course)
        → IsAt asked status before after tells old new here there from upto
        (record { directory = bytes; early = false; setting = setting; form = form; course = course }) Begins
        → HasServed asked status unread before after tells old new here there from upto
    begun_with form course at =
        let happened : Happened = record {
          directory = bytes;
          early = false;
          setting = setting;
          form = form;
          course = course;
        }
        in let stage : stage_of false bytes ≡ Begins = stage_read bytes short (Ok (providers_in setting)) reads
        in record {
          happened = happened;
          input = input;
          setting = λ begins providers read.
              let same = same_ok (directory_in bytes) (providers_in setting) providers reads read
              in subst (λ (p : List Provider). IsSetting p setting) same is_setting;
          is_at = subst (IsAt asked status before after tells old new here there from upto happened) (sym stage) at;
        }

    -- A disk couldn't be looked at.
    unfoldable pub served_unlooked : AreUntouched old new → there ≡ here → TellsAs status before after [] plays.Fails
        → HasServed asked status unread before after tells old new here there from upto
    served_unlooked untouched_ same told =
        begun_with None no_course (record { told = told; disks = untouched_; outside = same })

    -- The disks were looked at.
    unfoldable pub served_begun : (form : Form) (course : Course) → IsChosen old (trade_in setting).providers form
        → HasJournals asked status before after tells old new here there from upto setting course form
        → HasServed asked status unread before after tells old new here there from upto
    served_begun form course chosen journals = begun_with (Some form) course (chosen, journals)

-- A run that was to serve and whose journals can't all be had: nobody is let in.
pub goes_next : (asked : Asked) (status : Status) (before after : Option Bytes) (tells : Type 0) (old new : Disks)
    (here : Outside) (from upto : ℕ → ℕ) (setting : Setting) (course : Course) (form : Form) (next : Next) → (next ≡ NoMore → ⊥)
    → ServesNone asked status before after tells old new here here from upto setting course form
    → GoesOn asked status before after tells old new here here from upto setting course form next
goes_next asked status before after tells old new here from upto setting course form NoMore some none = absurd (some refl)
goes_next asked status before after tells old new here from upto setting course form Holds some none = none
goes_next asked status before after tells old new here from upto setting course form (Unfits unfit) some none = none
goes_next asked status before after tells old new here from upto setting course form Fails some none = none
goes_next asked status before after tells old new here from upto setting course form Stops some none = none

-- an input that is too long for a directory
pub long_text : (most : ℕ) (unread : Option Bytes) → IfSome unread (λ text. most < length text)
    → (directory : Bytes) × IfSome unread (λ text. directory ≡ text) × (most < length directory)
long_text most None long =
    let zero : ℕ = 0
    in let bytes : Bytes = replicate (most + 1) zero
    in let size : length bytes ≡ most + 1 = length-replicate (most + 1) zero
    in (bytes, tt, omega (arith, size))
long_text most (Some text) long = (text, refl, long)

pub same_text : (unread : Option Bytes) (bytes items : Bytes) → bytes ≡ items → IfSome unread (λ text. text ≡ items)
    → IfSome unread (λ text. bytes ≡ text)
same_text None bytes items e is = tt
same_text (Some text) bytes items e is = e ∙ sym is
