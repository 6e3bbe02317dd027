-- A run that writes its directory as another text, by what it had of its input.
use Rattle.std.proofs.Common.{◌≡◌, ◌≤◌, Bool, true, false, List, [], length, nat_lt, refl, ap, subst, sym, ◌∙◌, Option, Result, Ok, Err}
use Rattle.std.specs.Prelude.{IfSome, if◌then◌else◌}
use Rattle.std.proofs.lemmas.Bool.{le-ltb}
use Rattle.pec_types.specs.Bytes.{Bytes}
use Rattle.pec_directory.specs.Directory.{Provider}
use Rattle.pec_input.specs.Directory.{Refusal, directory_in}
use Rattle.pec_input.specs.declared.opening.TheConstants.{LONGEST_DIRECTORY}
use Rattle.pec_runs.specs.Endings.{End, end_text}
use Rattle.pec_runs.specs.Endings as ends
use Rattle.pec_runs.specs.Plays.{Finish}
use Rattle.pec_runs.specs.Plays as plays
use Rattle.pec_runs.specs.Ran.{TellsAs}
use Rattle.pec_runs.specs.Statuses.{Status}
use Rattle.pec_dossier.specs.Exports.{Exported, by_reading, export_finish, exported_text, providers_had}
use Rattle.pec_service.specs.Runs.{Begins, Over, by_directory, stage_of}
use Rattle.pec_top.proofs.HostingLemmas.{text_there}

abbrev pub Had : Type 0
Had = Result (List Provider) Finish

abbrev ended : Finish → Had
ended finish = Err finish

abbrev was_read : List Provider → Result (List Provider) Refusal
was_read providers = Ok providers

pub had_stopped : (bytes : Bytes) → providers_had true bytes ≡ ended plays.Stops
unfolding providers_had
had_stopped bytes = refl

pub had_read : (bytes : Bytes) → length bytes ≤ LONGEST_DIRECTORY → (providers : List Provider)
    → directory_in bytes ≡ was_read providers → providers_had false bytes ≡ by_reading (was_read providers)
unfolding providers_had
had_read bytes short providers reads =
    ap (λ (t : Bool). if t then ended (plays.Ends ends.LongDirectory) else by_reading (directory_in bytes))
    (le-ltb LONGEST_DIRECTORY (length bytes) short)
    ∙ ap by_reading reads

-- where a run that serves is over so is this one
pub had_over : (bytes : Bytes) (end : End) → stage_of false bytes ≡ Over end
    → providers_had false bytes ≡ ended (plays.Ends end)
unfolding stage_of providers_had
had_over bytes end = so (nat_lt LONGEST_DIRECTORY (length bytes)) (directory_in bytes)
  where
    same_end : (one : End) → Over one ≡ Over end → one ≡ end
    same_end one e = cc

    begins_not : Begins ≡ Over end → ⊥
    begins_not e = cc

    so : (long : Bool) (read : Result (List Provider) Refusal)
        → (if long then Over ends.LongDirectory else by_directory read) ≡ Over end
        → (if long then ended (plays.Ends ends.LongDirectory) else by_reading read) ≡ ended (plays.Ends end)
    so true read e = ap (λ (one : End). ended (plays.Ends one)) (same_end ends.LongDirectory e)
    so false (Err why) e = ap (λ (one : End). ended (plays.Ends one)) (same_end (ends.DirectoryRefused why) e)
    so false (Ok providers) e = absurd (begins_not e)

module _ (text_of : List Provider → Bytes) (status : Status) (unread before after : Option Bytes) where
  abbrev Told : Had → Type 0
  Told had = TellsAs status before after (exported_text text_of had) (export_finish had)

  -- It was stopped before anything was to be written.
  pub exported_stopped : TellsAs status before after [] plays.Stops → Exported text_of status unread before after
  exported_stopped told =
      let text = text_there unread
      in record { bytes = text.0; early = true; input = text.1; told = subst Told (sym (had_stopped text.0)) told }

  module _ (bytes : Bytes) (input : IfSome unread (λ text. bytes ≡ text)) where
    -- The input is too long, or is refused.
    pub exported_over : (end : End) → stage_of false bytes ≡ Over end
        → TellsAs status before after (end_text [] end) (plays.Ends end) → Exported text_of status unread before after
    exported_over end stage told =
        record { bytes = bytes; early = false; input = input; told = subst Told (sym (had_over bytes end stage)) told }

    -- The input is the directory of these providers.
    pub exported_whole : length bytes ≤ LONGEST_DIRECTORY → (providers : List Provider)
        → directory_in bytes ≡ was_read providers → TellsAs status before after (text_of providers) (plays.Ends ends.Done)
        → Exported text_of status unread before after
    exported_whole short providers reads told = record {
      bytes = bytes;
      early = false;
      input = input;
      told = subst Told (sym (had_read bytes short providers reads)) told;
    }
