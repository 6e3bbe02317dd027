-- A run without faults is a run.
use Rattle.std.proofs.Common.{◌≡◌, inl, List, false, refl, ap, sym, subst, arith, Option, Some, Ok}
use Rattle.pec_types.specs.Bytes.{Bytes}
use Rattle.pec_outside.specs.Flow.{followed_by}
use Rattle.pec_directory.specs.Directory.{Provider}
use Rattle.pec_records.specs.declared.entries.Entry.{Entry}
use Rattle.pec_ledger.specs.Network.{Site}
use Rattle.pec_ledger.specs.Trade.{Trade}
use Rattle.pec_plays.specs.Commands.{Luck}
use Rattle.pec_plays.specs.Possible.{quiet_lucks}
use Rattle.pec_runs.specs.Endings.{End}
use Rattle.pec_runs.specs.Endings as ends
use Rattle.pec_input.specs.Directory.{directory_in}
use Rattle.pec_runs.specs.Happened.{Asked, Begun, Happened, IsSetting, Setting, Stage, outcome_at, outcome_of}
use Rattle.pec_runs.specs.Happened.{providers_in, stage_of, trade_in}
use Rattle.pec_input.specs.Lines.{raw_lines}
use Rattle.pec_input.specs.Parts.{parts_of}
use Rattle.pec_runs.specs.Openings.{AreLeft, Disks, Form, IsOpening, NoMore, opened_all}
use Rattle.pec_runs.specs.Plays.{AllHanded, Ends, Finish, Outcome, ToTheEnd, outcome_from, outcome_text}
use Rattle.pec_runs.specs.Ran.{Behind, Blames, Counts, IsAt, NoneFell, Ran, TellsAs}
use Rattle.pec_runs.specs.ScriptLines.{Hands, Script}
use Rattle.pec_runs.specs.Statuses.{status_of}
use Rattle.pec_runs.proofs.TranscriptLemmas.{QuietThere, at_end_all, quiet_plays}

-- an end that was written whole
pub tells_end : (end : End) (before : Option Bytes) (text : Bytes)
    → TellsAs (status_of end) before (followed_by before text) text (Ends end)
tells_end ends.Done before text = (refl, refl)
tells_end ends.Usage before text = (refl, refl)
tells_end ends.LongDirectory before text = (refl, refl)
tells_end ends.NoScript before text = (refl, refl)
tells_end (ends.DirectoryRefused fault) before text = (refl, refl)
tells_end (ends.NotEmpty provider) before text = (refl, refl)
tells_end (ends.NotFit provider unfit) before text = (refl, refl)
tells_end (ends.LongLine number) before text = (refl, refl)
tells_end ends.LongScript before text = (refl, refl)
tells_end (ends.LineRefused number fault) before text = (refl, refl)

blames_none : (end : End) (old new : Counts) → Blames (status_of end) old new
blames_none ends.Done old new = tt
blames_none ends.Usage old new = tt
blames_none ends.LongDirectory old new = tt
blames_none ends.NoScript old new = tt
blames_none (ends.DirectoryRefused fault) old new = tt
blames_none (ends.NotEmpty provider) old new = tt
blames_none (ends.NotFit provider unfit) old new = tt
blames_none (ends.LongLine number) old new = tt
blames_none ends.LongScript old new = tt
blames_none (ends.LineRefused number fault) old new = tt

none_fell : (counts : Counts) → NoneFell counts counts
none_fell counts = record { source = omega arith; sink = omega arith; depot = omega arith; disks = λ p. omega arith }

module _ (there : QuietThere) (tells : Type 0) (old_disks new_disks : Disks) (counts : Counts) (asked : Asked)
    (text : Bytes)
    (setting : Setting) (hands : Hands) (form : Form) (written : Script) (journals : List (List Entry)) (before : Option Bytes)
    (begun : stage_of asked hands false (parts_of (raw_lines text)) ≡ Begun form written)
    (handed : AllHanded (trade_in setting)
    (quiet_lucks (trade_in setting) (opened_all (trade_in setting) asked.screens journals) written.commands)
    asked.spares (opened_all (trade_in setting) asked.screens journals) written.commands)
    (is_setting : (providers : List Provider) → directory_in (parts_of (raw_lines text)).directory ≡ Ok providers
    → IsSetting providers setting)
    (opens : IsOpening (trade_in setting) old_disks form (record { journals = journals; next = NoMore })) where
  abbrev trade : Trade
  trade = trade_in setting

  abbrev start : List Site
  start = opened_all trade asked.screens journals

  abbrev lucks : List Luck
  lucks = quiet_lucks trade start written.commands

  abbrev outcome : Outcome
  outcome = outcome_from trade lucks ToTheEnd start written

  abbrev happened : Happened
  happened = record {
    parts = parts_of (raw_lines text);
    early = false;
    setting = setting;
    screens = asked.screens;
    spares = asked.spares;
    hands = hands;
    opening = record { journals = journals; next = NoMore };
    lucks = lucks;
    rest = ToTheEnd;
  }

  played_so : outcome_of asked happened ≡ outcome
  unfolding outcome_of
  played_so = ap (outcome_at happened) begun

  finish_is : outcome.finish ≡ Ends written.end
  finish_is = at_end_all lucks written.commands written.end (there trade start written.commands).1

  pub quiet_ran : AreLeft old_disks new_disks form (record { journals = journals; next = NoMore }) outcome.after
      → Ran asked (status_of written.end) (Some text) before
      (followed_by before (outcome_text (providers_in setting) outcome)) tells
      old_disks new_disks counts counts
  quiet_ran left = record {
    happened = happened;
    given = record { screens = refl; spares = refl };
    input = refl;
    setting = λ form written begun. is_setting;
    told = inl (subst
        (λ (o : Outcome). TellsAs (status_of written.end) before
        (followed_by before (outcome_text (providers_in setting) outcome))
        (outcome_text (providers_in setting) o) o.finish) (sym played_so)
        (subst (λ (f : Finish). TellsAs (status_of written.end) before
        (followed_by before (outcome_text (providers_in setting) outcome))
        (outcome_text (providers_in setting) outcome) f) (sym finish_is)
        (tells_end written.end before (outcome_text (providers_in setting) outcome))));
    blame = blames_none written.end counts counts;
    counts = none_fell counts;
    is_at = subst (λ (stage : Stage). IsAt tells old_disks new_disks counts counts happened (status_of written.end)
        asked stage) (sym begun)
        (record {
          opening = opens;
          writes = λ failed. tt;
          plays = quiet_plays there trade tells asked.spares start counts.disks written handed;
          left = outcome.after;
          leaves_off = Behind (sym (ap (λ (o : Outcome). o.after) played_so));
          disks = left;
        });
  }
