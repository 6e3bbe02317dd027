-- Runs that are over, that were halted, and that began: as `RanSo`.
use Rattle.std.proofs.Common.{◌≡◌, ℕ, ◌<◌, ◌≤◌, Bool, true, false, List, [], inl, refl, ap, sym, subst, ◌∙◌, length}
use Rattle.std.proofs.Common.{Option, Some, None, Result, Ok}
use Rattle.std.specs.Prelude.{IfSome, if◌then◌else◌}
use Rattle.std.proofs.lemmas.Bool.{le-ltb, lt-ltb}
use Rattle.std.proofs.lemmas.Option.{same_Some}
use Rattle.pec_types.specs.Bytes.{Bytes}
use Rattle.pec_outside.specs.DiskModel.{Sight}
use Rattle.pec_directory.specs.Directory.{Provider}
use Rattle.pec_input.specs.Directory.{Refusal, directory_in}
use Rattle.pec_input.specs.Opening.{parts_left}
use Rattle.pec_input.specs.Parts.{Parts}
use Rattle.pec_input.specs.declared.opening.TheConstants.{LONGEST_DIRECTORY}
use Rattle.pec_ledger.specs.Network.{Site}
use Rattle.pec_seal.specs.Hmac.{hmac_seals}
use Rattle.pec_runs.specs.Reading.{AreLinesLeft}
use Rattle.pec_runs.specs.Endings.{End, end_text}
use Rattle.pec_runs.specs.Endings as ends
use Rattle.pec_runs.specs.Happened.{Asked, Begun, Halted, Happened, IsSetting, Over, Setting, Stage, by_directory, by_form}
use Rattle.pec_runs.specs.Happened.{by_next, by_script, outcome_at, outcome_of, providers_in, stage_of, trade_in}
use Rattle.pec_serving.specs.OfNetworks.{IsUnchanged}
use Rattle.pec_runs.specs.Openings.{AreLeft, AreUntouched, Disks, Form, IsOpening, IsUntouched, Next, NoMore, Holds, Unfits, Fails}
use Rattle.pec_runs.specs.Openings.{Stops, Opening, disks_at, form_in}
use Rattle.pec_serving.specs.OfNetworks.{Luck}
use Rattle.pec_runs.specs.Plays.{Outcome, Rest, Stopped}
use Rattle.pec_runs.specs.Plays as plays
use Rattle.pec_runs.specs.Ran.{Blames, Counts, IsAt, IsInput, LeavesOff, NoneFell, PlaysOn, Ran, Tells, TellsAs, WritesAt}
use Rattle.pec_runs.specs.Ran.{command_in_hand}
use Rattle.pec_runs.specs.ScriptLines.{Hands, Script, script_of}
use Rattle.pec_runs.specs.Statuses.{Status}
use Rattle.pec_top.specs.Running.{RanSo, disk_counts, parts_behind}

-- ---- disks that nobody asked for

module _ {D : Type 0} (tells : Type 0) (sight : D → Sight) (old new : ℕ → Option D) where
  -- what is at a provider's place now is an unchanged disk
  pub untouched_by : (k : ℕ) (was : Bytes) (before : (disks_at tells sight old).reads k was)
      → ((now : D) → new k ≡ Some now → IsUnchanged (sight before.1.0) (sight now))
      → IsUntouched (disks_at tells sight old) (disks_at tells sight new) k was
  untouched_by k was before unchanged = record {
    reads = λ bytes now. sym now.1.2 ∙ ((unchanged now.1.0 now.1.1).seen ∙ before.1.2);
    crash = λ image leaves.
        (before.0, (before.1.0, before.1.1, (unchanged leaves.1.0 leaves.1.1).crash image leaves.1.2));
  }

  -- or the same one
  pub untouched_same : (k : ℕ) (was : Bytes) → (disks_at tells sight old).reads k was
      → ((disks_at tells sight old).reads k was → new k ≡ old k)
      → IsUntouched (disks_at tells sight old) (disks_at tells sight new) k was
  untouched_same k was before same = untouched_by k was before (λ now is.
      subst (λ (d : D). IsUnchanged (sight before.1.0) (sight d))
      (same_Some before.1.0 now (sym before.1.1 ∙ (sym (same before) ∙ is)))
      (record { seen = refl; crash = λ image leaves. leaves }))

pub untouched : {D : Type 0} (tells : Type 0) (sight : D → Sight) (home : ℕ → Option D)
    → AreUntouched (disks_at tells sight home) (disks_at tells sight home)
untouched tells sight home = λ k was before. untouched_same tells sight home home k was before (λ told. refl)

-- ---- inputs

-- what is left to read has its parts, whether it tells them or not
pub parts_there : (unread : Option Bytes) → (parts : Parts) × IsInput unread parts
parts_there None = (record { directory = []; script = None }, tt)
parts_there (Some text) = (_, refl)

-- ---- a run without its disks

abbrev pub nobody : Setting
nobody = record { kept = []; seals = hmac_seals [] [] }

-- no line found a spare at hand
abbrev pub no_hands : Hands
no_hands = λ line. None

abbrev nothing : Asked → Parts → Bool → Happened
nothing asked parts early = record {
  parts = parts;
  early = early;
  setting = nobody;
  screens = asked.screens;
  spares = asked.spares;
  hands = no_hands;
  opening = record { journals = []; next = Stops };
  lucks = [];
  rest = Stopped;
}

pub over_not_begun : (end : End) (form : Form) (script : Script) → Over end ≡ Begun form script → ⊥
over_not_begun end form script e = cc

pub halted_not_begun : (form : Form) (script : Script) → Halted ≡ Begun form script → ⊥
halted_not_begun form script e = cc

module _ (asked : Asked) (unread before after : Option Bytes) (tells : Type 0) (old new : Disks)
    (from upto : ℕ → ℕ) (untouched_ : AreUntouched old new) where
  -- It is over.
  unfoldable pub ran_over : (parts : Parts) (early : Bool) (end : End) (status : Status)
      → stage_of asked no_hands early parts ≡ Over end → IsInput unread parts
      → TellsAs status before after (end_text [] end) (plays.Ends end)
      → RanSo asked status unread before after tells old new from upto
  unfolding outcome_of
  ran_over parts early end status stage input told = record {
    happened = nothing asked parts early;
    given = record { screens = refl; spares = refl };
    input = input;
    setting = λ form script begun. absurd (over_not_begun end form script (sym stage ∙ begun));
    told = inl (subst
        (λ (s : Stage). TellsAs status before after (plays.outcome_text [] (outcome_at (nothing asked parts early) s))
        (outcome_at (nothing asked parts early) s).finish) (sym stage) told);
    is_at = subst (λ (s : Stage). IsAt tells old new (disk_counts from) (disk_counts upto)
        (nothing asked parts early)
        status
        asked s) (sym stage) untouched_;
  }

  -- It was halted before a disk was asked for, and nothing was written.
  unfoldable pub ran_halted : (form : Form) (status : Status) → form_in asked.words ≡ Some form
      → TellsAs status before after [] plays.Stops → RanSo asked status unread before after tells old new from upto
  unfolding outcome_of stage_of
  ran_halted form status is told =
      let parts = parts_there unread
      in let stage : stage_of asked no_hands true parts.0 ≡ Halted = ap (by_form no_hands true parts.0) is
      in record {
        happened = nothing asked parts.0 true;
        given = record { screens = refl; spares = refl };
        input = parts.1;
        setting = λ f script begun. absurd (halted_not_begun f script (sym stage ∙ begun));
        told = inl (subst
            (λ (s : Stage). TellsAs status before after (plays.outcome_text [] (outcome_at (nothing asked parts.0 true) s))
            (outcome_at (nothing asked parts.0 true) s).finish) (sym stage) told);
        is_at = subst (λ (s : Stage). IsAt tells old new (disk_counts from) (disk_counts upto)
            (nothing asked parts.0 true) status asked s) (sym stage) untouched_;
      }

-- ---- stages

pub stage_usage : (asked : Asked) (hands : Hands) (early : Bool) (parts : Parts) → form_in asked.words ≡ None
    → stage_of asked hands early parts ≡ Over ends.Usage
unfolding stage_of
stage_usage asked hands false parts is = ap (by_form hands false parts) is
stage_usage asked hands true parts is = ap (by_form hands true parts) is

module _ (asked : Asked) (hands : Hands) (form : Form) (parts : Parts) (is : form_in asked.words ≡ Some form) where
  pub stage_long : LONGEST_DIRECTORY < length parts.directory → stage_of asked hands false parts ≡ Over ends.LongDirectory
  unfolding stage_of
  stage_long long =
      ap (by_form hands false parts) is
      ∙ ap (λ (t : Bool). if t then Over ends.LongDirectory else by_script hands form parts.directory parts.script)
      (lt-ltb LONGEST_DIRECTORY (length parts.directory) long)

  stage_short : length parts.directory ≤ LONGEST_DIRECTORY
      → stage_of asked hands false parts ≡ by_script hands form parts.directory parts.script
  unfolding stage_of
  stage_short short =
      ap (by_form hands false parts) is
      ∙ ap (λ (t : Bool). if t then Over ends.LongDirectory else by_script hands form parts.directory parts.script)
      (le-ltb LONGEST_DIRECTORY (length parts.directory) short)

  pub stage_unmarked : length parts.directory ≤ LONGEST_DIRECTORY → parts.script ≡ None
      → stage_of asked hands false parts ≡ Over ends.NoScript
  stage_unmarked short none = stage_short short ∙ ap (by_script hands form parts.directory) none

  pub stage_read : length parts.directory ≤ LONGEST_DIRECTORY → (lines : List Bytes) → parts.script ≡ Some lines
      → (told : Result (List Provider) Refusal) → directory_in parts.directory ≡ told
      → stage_of asked hands false parts ≡ by_directory hands form lines told
  stage_read short lines some told reads =
      stage_short short ∙ (ap (by_script hands form parts.directory) some ∙ ap (by_directory hands form lines) reads)

-- the parts of an input whose directory was read
pub parts_are : (unread behind : Option Bytes) (bytes : Bytes) (lines : List Bytes)
    → parts_left unread ≡ parts_behind bytes behind → AreLinesLeft behind lines
    → IsInput unread (record { directory = bytes; script = Some lines })
parts_are unread None bytes lines e left =
    subst (λ (p : Option Parts). IfSome p (λ told. read_parts bytes lines ≡ told)) (sym e) tt
  where
    read_parts : Bytes → List Bytes → Parts
    read_parts bytes lines = record { directory = bytes; script = Some lines }
parts_are unread (Some text) bytes lines e left =
    subst (λ (p : Option Parts). IfSome p (λ told. read_parts bytes lines ≡ told)) (sym e)
    (ap (λ (l : List Bytes). read_parts bytes l) left)
  where
    read_parts : Bytes → List Bytes → Parts
    read_parts bytes lines = record { directory = bytes; script = Some lines }

pub same_ok : (told : Result (List Provider) Refusal) (a b : List Provider) → told ≡ Ok a → told ≡ Ok b → a ≡ b
same_ok told a b e f = cc

-- ---- a run that begins

module _ (asked : Asked) (form : Form) (is : form_in asked.words ≡ Some form) (bytes : Bytes)
    (short : length bytes ≤ LONGEST_DIRECTORY) (setting : Setting)
    (reads : directory_in bytes ≡ Ok (providers_in setting)) (is_setting : IsSetting (providers_in setting) setting)
    (hands : Hands) (lines : List Bytes) (opening : Opening) (lucks : List Luck) (rest : Rest) where
  abbrev parts_had : Parts
  parts_had = record { directory = bytes; script = Some lines }

  abbrev happened_so : Happened
  happened_so = record {
    parts = parts_had;
    early = false;
    setting = setting;
    screens = asked.screens;
    spares = asked.spares;
    hands = hands;
    opening = opening;
    lucks = lucks;
    rest = rest;
  }

  abbrev script_had : Script
  script_had = script_of hands (providers_in setting) 1 lines

  abbrev outcome_had : Outcome
  outcome_had = by_next (trade_in setting) asked.screens opening lucks rest script_had opening.next

  pub begun_so : stage_of asked hands false parts_had ≡ Begun form script_had
  begun_so = stage_read asked hands form parts_had is short lines refl (Ok (providers_in setting)) reads

  pub outcome_so : outcome_of asked happened_so ≡ outcome_had
  unfolding outcome_of
  outcome_so = ap (outcome_at happened_so) begun_so

  unfoldable pub ran_begun : (status : Status) (unread behind before after : Option Bytes) (tells : Type 0) (old new : Disks)
      (from upto : ℕ → ℕ)
      (left : List Site) → parts_left unread ≡ parts_behind bytes behind → AreLinesLeft behind lines
      → IsOpening (trade_in setting) old form opening → WritesAt status opening.next
      → PlaysOn tells old new (disk_counts from) (disk_counts upto) happened_so script_had opening.next
      → LeavesOff (trade_in setting) outcome_had.after (command_in_hand status opening.next rest lucks script_had)
      left
      → AreLeft old new form opening left → Tells (providers_in setting) status before after outcome_had
      → RanSo asked status unread before after tells old new from upto
  ran_begun status unread behind before after tells old new from upto left input lines_left opens writes plays leaves disks
      told = record {
        happened = happened_so;
        given = record { screens = refl; spares = refl };
        input = parts_are unread behind bytes lines input lines_left;
        setting = λ f script begun providers read.
            let same = same_ok (directory_in bytes) (providers_in setting) providers reads read
            in subst (λ (p : List Provider). IsSetting p setting) same is_setting;
        told = subst (Tells (providers_in setting) status before after) (sym outcome_so) told;
        is_at = subst (λ (s : Stage). IsAt tells old new (disk_counts from) (disk_counts upto) happened_so status
            asked
            s) (sym begun_so) (record {
              opening = opens;
              writes = writes;
              plays = plays;
              left = left;
              leaves_off = subst
                  (λ (o : Outcome). LeavesOff (trade_in setting) o.after
                  (command_in_hand status opening.next rest lucks script_had) left) (sym outcome_so) leaves;
              disks = disks;
            });
      }

-- ---- the whole run

unfoldable pub ran_whole : (asked : Asked) (status : Status) (unread before after : Option Bytes) (tells : Type 0)
    (old_disks new_disks : Disks) (old new : Counts) → Blames status old new → NoneFell old new
    → RanSo asked status unread before after tells old_disks new_disks old.disks new.disks
    → Ran asked status unread before after tells old_disks new_disks old new
ran_whole asked status unread before after tells old_disks new_disks old new blames fell so = record {
  happened = so.happened;
  given = so.given;
  input = so.input;
  setting = so.setting;
  told = so.told;
  blame = blames;
  counts = fell;
  is_at = at_stage (stage_of asked so.happened.hands so.happened.early so.happened.parts) so.is_at;
}
  where
    at_stage : (stage : Stage)
        → IsAt tells old_disks new_disks (disk_counts old.disks) (disk_counts new.disks) so.happened status asked
        stage
        → IsAt tells old_disks new_disks old new so.happened status asked stage
    at_stage (Over end) is = is
    at_stage Halted is = is
    at_stage (Begun form script) is = record {
      opening = is.opening;
      writes = is.writes;
      plays = plays_on so.happened.opening.next is.plays;
      left = is.left;
      leaves_off = is.leaves_off;
      disks = is.disks;
    }
      where
        plays_on : (next : Next)
            → PlaysOn tells old_disks new_disks (disk_counts old.disks) (disk_counts new.disks) so.happened script
            next
            → PlaysOn tells old_disks new_disks old new so.happened script next
        plays_on NoMore is = is
        plays_on Holds is = is
        plays_on (Unfits unfit) is = is
        plays_on Fails is = is
        plays_on Stops is = is
