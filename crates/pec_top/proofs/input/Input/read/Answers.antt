-- What was found in front of the script.
use Rattle.std.proofs.Common.{◌∙◌, refl, subst, sym}
use Rattle.pec_outside.specs.Flow.{behind}
use Rattle.pec_input.specs.Opening.{Opens, parts_left}
use Rattle.pec_input.specs.declared.opening.TheConstants.{LONGEST_DIRECTORY}
use Rattle.pec_input.specs.declared.opening.Opening.{Opening}
use Rattle.pec_runs.specs.Endings as ends
use Rattle.pec_top.proofs.InputLemmas.{long_parts, read_of, unmarked_parts}
use Rattle.pec_top.proofs.RunningLemmas.{stage_long, stage_unmarked}
use Rattle.pec_top.proofs.SaidLemmas.{long_directory_text, no_script_text}
use Rattle.pec_top.proofs.input.Input.read.Goals as goal

pub returns-in_ok-text-in-TooLong-clause-read : goal.returns-in_ok-text-in-TooLong-clause-read
returns-in_ok-text-in-TooLong-clause-read g c =
    let unread = behind c.args.buffer.now (g.S.Stream.left c.args.source.now) in
    let opens = subst (λ (opening : Opening). Opens opening unread (behind c.read_directory.new.buffer
    (g.S.Stream.left c.read_directory.new.source))) c.in-TooLong.is c.in_ok-read_directory.ensures.opens in
    let parts = long_parts LONGEST_DIRECTORY (parts_left unread) opens in
    record {
      end = ends.LongDirectory;
      parts = parts.parts;
      input = parts.input;
      stage = λ asked hands form is. stage_long asked hands form parts.parts is parts.long;
      text_is = λ providers. c.in_ok-text-in-TooLong.ensures ∙ sym (long_directory_text providers);
      shown = refl;
    }

pub returns-in_ok-text-in-NoScript-clause-read : goal.returns-in_ok-text-in-NoScript-clause-read
returns-in_ok-text-in-NoScript-clause-read g c =
    let unread = behind c.args.buffer.now (g.S.Stream.left c.args.source.now) in
    let opens = subst (λ (opening : Opening). Opens opening unread (behind c.read_directory.new.buffer
    (g.S.Stream.left c.read_directory.new.source))) c.in-NoScript.is c.in_ok-read_directory.ensures.opens in
    let parts = unmarked_parts LONGEST_DIRECTORY (parts_left unread) opens in
    record {
      end = ends.NoScript;
      parts = parts.parts;
      input = parts.input;
      stage = λ asked hands form is. stage_unmarked asked hands form parts.parts is parts.short parts.none;
      text_is = λ providers. c.in_ok-text-in-NoScript.ensures ∙ sym (no_script_text providers);
      shown = refl;
    }

pub returns-in_ok-input-in-Script-clause-read : goal.returns-in_ok-input-in-Script-clause-read
returns-in_ok-input-in-Script-clause-read g c =
    let unread = behind c.args.buffer.now (g.S.Stream.left c.args.source.now) in
    let rest = behind c.read_directory.new.buffer (g.S.Stream.left c.read_directory.new.source) in
    let opens = subst (λ (opening : Opening). Opens opening unread rest) c.in-Script.is c.in_ok-read_directory.ensures.opens in
    read_of unread rest c.in-Script.bytes.items opens.0 opens.1 c.in_ok-input-in-Script.input
    (rw c.deref.ensures.value at c.in_ok-input-in-Script.ensures.read)
