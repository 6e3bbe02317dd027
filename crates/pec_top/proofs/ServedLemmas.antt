-- Runs that serve, at each of their stages, with what their disks went through: as `HasServedOver`.
use Rattle.std.proofs.Common.{◌≡◌, ℕ, ◌≤◌, Bool, false, List, [], refl, sym, subst, ◌∙◌, length, Option, Some, None, Ok}
use Rattle.std.specs.Prelude.{IfSome}
use Rattle.std.proofs.lemmas.List.{length-map}
use Rattle.std.proofs.lemmas.Option.{none-some, same_Some}
use Rattle.pec_types.specs.Bytes.{Bytes}
use Rattle.pec_outside.specs.DiskModel.{Sight}
use Rattle.pec_directory.specs.Directory.{Kept, Provider, providers_of}
use Rattle.pec_input.specs.Directory.{directory_in}
use Rattle.pec_input.specs.declared.opening.TheConstants.{LONGEST_DIRECTORY}
use Rattle.pec_ledger.specs.Trade.{Trade}
use Rattle.pec_runs.specs.Endings.{End, end_text}
use Rattle.pec_runs.specs.Happened.{IsSetting, Setting, providers_in, trade_in}
use Rattle.pec_runs.specs.Openings.{AreUntouched, Form, Next, NoMore, Resume, disks_at, next_of}
use Rattle.pec_runs.specs.Plays.{Finish, finish_text}
use Rattle.pec_runs.specs.Plays as plays
use Rattle.pec_runs.specs.Ran.{TellsAs, WritesAt}
use Rattle.pec_runs.specs.Statuses.{Status}
use Rattle.pec_runs.specs.Through.{AreHadFrom}
use Rattle.pec_service.specs.Runs.{Asked, Begins, Course, Happened, HasJournals, IsChosen, Outside, Over, ServesNone}
use Rattle.pec_service.specs.Runs.{finish_at, stage_of, world}
use Rattle.pec_service.specs.Services.{Halted}
use Rattle.pec_service.specs.Through.{DisksWent, ServesThrough}
use Rattle.pec_top.specs.Hosting.{HasServedOver}
use Rattle.pec_top.specs.Opened.{Finishes, IsUnopened}
use Rattle.pec_top.specs.Opened as opened
use Rattle.pec_top.specs.declared.opening.Journals.TheVariants as journals
use Rattle.pec_top.specs.declared.opening.Refusal.{Refusal as Shut}
use Rattle.pec_top.proofs.HostingLemmas.{begun_with, goes_next, halts_not, over_not, served_begun, served_halted, served_over}
use Rattle.pec_top.proofs.HostingLemmas.{served_unlooked, stage_halts, stage_read}

module _ {D : Type 0} (tells : Type 0) (sight : D → Sight) (faults : D → ℕ) (home left : ℕ → Option D) (from upto : ℕ → ℕ)
    (asked : Asked) (happened : Happened) where
  -- It doesn't begin.
  went_unasked : (stage_of happened.early happened.directory ≡ Begins → ⊥)
      → AreHadFrom sight tells Resume (world happened) home left → DisksWent tells sight faults home left from upto asked happened
  went_unasked none had = record {
    unasked = λ same. had;
    unlooked = λ begins is. absurd (none begins);
    stopped = λ begins form is some. absurd (none begins);
    served = λ begins form is all. absurd (none begins);
  }

  module _ (begins : stage_of happened.early happened.directory ≡ Begins) where
    -- A disk couldn't be looked at.
    went_unlooked : happened.form ≡ None → AreHadFrom sight tells Resume (world happened) home left
        → DisksWent tells sight faults home left from upto asked happened
    went_unlooked none had = record {
      unasked = λ not. absurd (not begins);
      unlooked = λ again is. had;
      stopped = λ again form is some. absurd (none-some form (sym none ∙ is));
      served = λ again form is all. absurd (none-some form (sym none ∙ is));
    }

    module _ (form : Form) (chosen : happened.form ≡ Some form) where
      -- Not all journals are had.
      went_stopped : (happened.course.opening.next ≡ NoMore → ⊥) → AreHadFrom sight tells form (world happened) home left
          → DisksWent tells sight faults home left from upto asked happened
      went_stopped some had = record {
        unasked = λ not. absurd (not begins);
        unlooked = λ again none. absurd (none-some form (sym none ∙ chosen));
        stopped = λ again way is more.
            subst (λ (f : Form). AreHadFrom sight tells f (world happened) home left)
            (same_Some form way (sym chosen ∙ is)) had;
        served = λ again way is all. absurd (some all);
      }

      -- Connections are served.
      went_served : happened.course.opening.next ≡ NoMore
          → ServesThrough tells sight faults home left from upto (world happened) form asked.screens happened.course
          → DisksWent tells sight faults home left from upto asked happened
      went_served all moves = record {
        unasked = λ not. absurd (not begins);
        unlooked = λ again none. absurd (none-some form (sym none ∙ chosen));
        stopped = λ again way is some. absurd (some all);
        served = λ again way is more.
            subst (λ (f : Form). ServesThrough tells sight faults home left from upto (world happened) f
            asked.screens happened.course) (same_Some form way (sym chosen ∙ is)) moves;
      }

module _ (asked : Asked) (status : Status) (unread before after : Option Bytes) {D : Type 0} (tells : Type 0)
    (sight : D → Sight) (faults : D → ℕ) (home left : ℕ → Option D) (here there : Outside) (from upto : ℕ → ℕ) where
  module _ (untouched_ : AreUntouched (disks_at tells sight home) (disks_at tells sight left)) (same : there ≡ here)
      (had : (trade : Trade) → AreHadFrom sight tells Resume trade home left) where
    pub over_through : (directory : Bytes) (end : End) → stage_of false directory ≡ Over end
        → IfSome unread (λ text. directory ≡ text) → TellsAs status before after (end_text [] end) (plays.Ends end)
        → HasServedOver tells sight faults asked status unread before after home left here there from upto
    unfolding served_over
    over_through directory end stage input told =
        let so = served_over asked status unread before after tells (disks_at tells sight home) (disks_at tells sight left)
        here there from upto untouched_ same directory end stage input told in
        record {
          so = so;
          through = went_unasked tells sight faults home left from upto asked so.happened
              (λ begins. over_not end (sym stage ∙ begins)) (had (world so.happened));
        }

    pub halted_through : TellsAs status before after [] plays.Stops
        → HasServedOver tells sight faults asked status unread before after home left here there from upto
    unfolding served_halted
    halted_through told =
        let so = served_halted asked status unread before after tells (disks_at tells sight home) (disks_at tells sight left)
        here there from upto untouched_ same told in
        record {
          so = so;
          through = went_unasked tells sight faults home left from upto asked so.happened
              (λ begins. halts_not (sym (stage_halts so.happened.directory) ∙ begins)) (had (world so.happened));
        }

  module _ (bytes : Bytes) (short : length bytes ≤ LONGEST_DIRECTORY) (setting : Setting)
      (reads : directory_in bytes ≡ Ok (providers_in setting)) (is_setting : IsSetting (providers_in setting) setting)
      (input : IfSome unread (λ text. bytes ≡ text)) where
    begins_so : stage_of false bytes ≡ Begins
    begins_so = stage_read bytes short (Ok (providers_in setting)) reads

    pub unlooked_through : AreUntouched (disks_at tells sight home) (disks_at tells sight left) → there ≡ here
        → TellsAs status before after [] plays.Fails → ((trade : Trade) → AreHadFrom sight tells Resume trade home left)
        → HasServedOver tells sight faults asked status unread before after home left here there from upto
    unfolding served_unlooked begun_with
    unlooked_through untouched_ same told had =
        let so = served_unlooked asked status unread before after tells (disks_at tells sight home)
        (disks_at tells sight left) here there from upto bytes short setting reads is_setting input untouched_ same told in
        record {
          so = so;
          through = went_unlooked tells sight faults home left from upto asked so.happened begins_so refl (had (world so.happened));
        }

    module _ (form : Form) (course : Course) (chosen : IsChosen (disks_at tells sight home) (trade_in setting).providers form)
        (had_journals : HasJournals asked status before after tells (disks_at tells sight home) (disks_at tells sight left)
        here there from upto setting course form) where
      pub stopped_through : (course.opening.next ≡ NoMore → ⊥) → AreHadFrom sight tells form (trade_in setting) home left
          → HasServedOver tells sight faults asked status unread before after home left here there from upto
      unfolding served_begun begun_with
      stopped_through some had =
          let so = served_begun asked status unread before after tells (disks_at tells sight home)
          (disks_at tells sight left) here there from upto bytes short setting reads is_setting input form course chosen had_journals in
          record {
            so = so;
            through = went_stopped tells sight faults home left from upto asked so.happened begins_so form refl some had;
          }

      pub served_through : course.opening.next ≡ NoMore
          → ServesThrough tells sight faults home left from upto (trade_in setting) form asked.screens course
          → HasServedOver tells sight faults asked status unread before after home left here there from upto
      unfolding served_begun begun_with
      served_through all moves =
          let so = served_begun asked status unread before after tells (disks_at tells sight home)
          (disks_at tells sight left) here there from upto bytes short setting reads is_setting input form course chosen had_journals in
          record {
            so = so;
            through = went_served tells sight faults home left from upto asked so.happened begins_so form refl all moves;
          }

pub unopened_through : (asked : Asked) (status : Status) (unread before after : Option Bytes) {D : Type 0} (tells : Type 0)
    (sight : D → Sight) (faults : D → ℕ) (home left : ℕ → Option D) (here : Outside)
    (from upto : ℕ → ℕ) (bytes : Bytes) → length bytes ≤ LONGEST_DIRECTORY → (kept : List Kept)
    → directory_in bytes ≡ Ok (providers_of kept) → IfSome unread (λ text. bytes ≡ text) → (refusal : Shut)
    → ((providers : List Provider) (finish : Finish) → Finishes providers refusal finish
    → TellsAs status before after (finish_text providers finish) finish)
    → ((providers : List Provider) (holds : Bool) (number : ℕ) (next : Next)
    → Finishes providers refusal (finish_at holds number next) → WritesAt status next)
    → IsUnopened journals.Chosen asked.screens kept (disks_at tells sight home) (disks_at tells sight left)
    (λ form trade. AreHadFrom sight tells form trade home left) refusal
    → HasServedOver tells sight faults asked status unread before after home left here here from upto
unopened_through asked status unread before after tells sight faults home left here from upto bytes short kept reads input refusal
    told lines (opened.Halted none untouched went) =
    halted_through asked status unread before after tells sight faults home left here here from upto untouched refl went
    (told [] plays.Stops (subst (λ (r : Shut). Finishes [] r plays.Stops) (sym none) refl))
unopened_through asked status unread before after tells sight faults home left here from upto bytes short kept reads input refusal
    told lines (opened.Unlooked seals chosen failed is_setting untouched went) =
    unlooked_through asked status unread before after tells sight faults home left here here from upto bytes short
    (record { kept = kept; seals = seals }) reads is_setting input untouched refl
    (told [] plays.Fails (subst (λ (r : Shut). Finishes [] r plays.Fails) (sym failed) refl)) went
unopened_through asked status unread before after tells sight faults home left here from upto bytes short kept reads input refusal
    told lines (opened.Refused seals at) =
    let old = disks_at tells sight home
    in let new = disks_at tells sight left
    in let setting : Setting = record { kept = kept; seals = seals }
    in let course : Course = record {
      opening = at.opening;
      holds = at.holds;
      service = record { whole = []; part = None; ending = Halted };
    }
    in let none : ServesNone asked status before after tells old new here here from upto setting course at.form = record {
      told = told (providers_of kept) (finish_at at.holds (next_of at.opening) at.opening.next) at.finishes;
      outside = refl;
      disks = at.left;
    }
    in let many = length-map kept (λ (one : Kept). one.provider)
    in let chosen = subst (λ (count : ℕ). IsChosen old count at.form) (sym many) at.is_form
    in stopped_through asked status unread before after tells sight faults home left here here from upto bytes short setting reads
    at.is_setting input at.form course chosen (record {
      opening = at.is_opening;
      looked_at = at.may_hold;
      writes = lines (providers_of kept) at.holds (next_of at.opening) at.opening.next at.finishes;
      goes_on = goes_next asked status before after tells old new here from upto setting course at.form at.opening.next
          at.some none;
    }) at.some at.went
