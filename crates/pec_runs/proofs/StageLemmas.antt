-- A run that begins has its words, its directory and its script.
use Rattle.std.proofs.Common.{◌≡◌, List, Bool, true, false, length, refl, ap, sym, ◌∙◌, nat_lt, Option, Some, None, Result, Ok, Err}
use Rattle.std.specs.Prelude.{if◌then◌else◌}
use Rattle.pec_types.specs.Bytes.{Bytes}
use Rattle.pec_directory.specs.Directory.{Provider}
use Rattle.pec_runs.specs.Endings as ends
use Rattle.pec_input.specs.Directory.{Refusal, directory_in}
use Rattle.pec_input.specs.declared.opening.TheConstants.{LONGEST_DIRECTORY}
use Rattle.pec_runs.specs.Happened.{Asked, Over, Begun, by_directory, by_form, by_script, stage_of}
use Rattle.pec_input.specs.Parts.{Parts}
use Rattle.pec_runs.specs.Openings.{Form, form_in}
use Rattle.pec_runs.specs.ScriptLines.{Hands, Script, script_of}

-- what a run that begins has
pub record HasAll (asked : Asked) (hands : Hands) (early : Bool) (parts : Parts) (form : Form) (script : Script) : Type 0 where
  pub words_are : form_in asked.words ≡ Some form
  pub late : early ≡ false
  pub short : nat_lt LONGEST_DIRECTORY (length parts.directory) ≡ false
  pub providers : List Provider
  pub lines : List Bytes
  pub directory : directory_in parts.directory ≡ Ok providers
  pub lines_are : parts.script ≡ Some lines
  pub script_is : script ≡ script_of hands providers 1 lines

same_form : (a b : Form) (x y : Script) → Begun a x ≡ Begun b y → a ≡ b
same_form a b x y e = cc

pub same_script : (a b : Form) (x y : Script) → Begun a x ≡ Begun b y → x ≡ y
same_script a b x y e = cc

module _ (asked : Asked) (hands : Hands) (early : Bool) (parts : Parts) (form : Form) (script : Script) where
  by_read : (wanted : Form) (lines : List Bytes) (told : Result (List Provider) Refusal)
      → form_in asked.words ≡ Some wanted → early ≡ false
      → nat_lt LONGEST_DIRECTORY (length parts.directory) ≡ false → parts.script ≡ Some lines
      → directory_in parts.directory ≡ told
      → by_directory hands wanted lines told ≡ Begun form script → HasAll asked hands early parts form script
  by_read wanted lines (Err fault) w l s c d e = cc
  by_read wanted lines (Ok providers) w l s c d e = record {
    words_are = w ∙ ap (λ (f : Form). Some f) (same_form wanted form (script_of hands providers 1 lines) script e);
    late = l;
    short = s;
    providers = providers;
    lines = lines;
    directory = d;
    lines_are = c;
    script_is = sym (same_script wanted form (script_of hands providers 1 lines) script e);
  }

  by_lines : (wanted : Form) (found : Option (List Bytes)) → form_in asked.words ≡ Some wanted → early ≡ false
      → nat_lt LONGEST_DIRECTORY (length parts.directory) ≡ false → parts.script ≡ found
      → by_script hands wanted parts.directory found ≡ Begun form script → HasAll asked hands early parts form script
  by_lines wanted None w l s c e = cc
  by_lines wanted (Some lines) w l s c e = by_read wanted lines (directory_in parts.directory) w l s c refl e

  by_length : (wanted : Form) (long : Bool) → form_in asked.words ≡ Some wanted → early ≡ false
      → nat_lt LONGEST_DIRECTORY (length parts.directory) ≡ long
      → (if long then Over ends.LongDirectory else by_script hands wanted parts.directory parts.script) ≡ Begun form script
      → HasAll asked hands early parts form script
  by_length wanted true w l s e = cc
  by_length wanted false w l s e = by_lines wanted parts.script w l s refl e

  by_words : (soon : Bool) (found : Option Form) → early ≡ soon → form_in asked.words ≡ found
      → by_form hands soon parts found ≡ Begun form script
      → HasAll asked hands early parts form script
  by_words true None l w e = cc
  by_words false None l w e = cc
  by_words true (Some wanted) l w e = cc
  by_words false (Some wanted) l w e = by_length wanted (nat_lt LONGEST_DIRECTORY (length parts.directory)) w l refl e

  pub has_all : stage_of asked hands early parts ≡ Begun form script → HasAll asked hands early parts form script
  unfolding stage_of
  has_all e = by_words early (form_in asked.words) refl refl e
