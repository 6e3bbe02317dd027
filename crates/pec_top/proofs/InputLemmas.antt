-- What is left to read, before and behind the directory.
use Rattle.std.proofs.Common.{◌≡◌, ℕ, ◌+◌, ◌<◌, ◌≤◌, [], length, replicate, Option, Some, None, Result, Ok, Err, refl, ap, sym, ◌∙◌, arith}
use Rattle.std.specs.Prelude.{IfOk, IfSome}
use Rattle.std.proofs.lemmas.List.{length-append, length-replicate, nil_from_length}
use Rattle.pec_types.specs.Bytes.{Bytes}
use Rattle.pec_outside.specs.Flow.{behind, followed_by}
use Rattle.pec_input.specs.Finding.{IsAtEnd}
use Rattle.pec_input.specs.Opening.{parts_left}
use Rattle.pec_input.specs.Parts.{Parts}
use Rattle.pec_input.specs.declared.opening.TheConstants.{LONGEST_DIRECTORY}
use Rattle.pec_input.specs.declared.buffers.InputFault.{InputFault}
use Rattle.pec_input.specs.declared.buffers.InputFault.TheVariants as faults
use Rattle.pec_runs.specs.Endings as ends
use Rattle.pec_runs.specs.Plays as plays
use Rattle.pec_runs.specs.Ran.{TellsAs}
use Rattle.pec_top.specs.Inputs.{IsDirectoryRead, IsInputRead, IsWholeRead}
use Rattle.pec_top.specs.Running.{parts_behind}
use Rattle.pec_top.specs.Shown.{end_shown, stop_of, stop_shown}
use Rattle.pec_top.specs.declared.ending.End.{End}
use Rattle.pec_top.specs.declared.ending.End.TheVariants as lasts
use Rattle.pec_top.specs.declared.ending.Stop.{Stop}
use Rattle.pec_top.specs.declared.input.Input.{Input}
use Rattle.pec_top.specs.declared.input.Input.TheVariants as input
use Rattle.pec_top.proofs.HostingLemmas.{same_text}
use Rattle.pec_top.proofs.HostingLemmas as services
use Rattle.pec_top.proofs.LineReadLemmas.{lines_there}
use Rattle.pec_top.proofs.RunningLemmas.{parts_are, stage_read}
use Rattle.pec_top.proofs.SaidLemmas.{refused_directory}

pub behind_nothing : (unread : Option Bytes) → behind [] unread ≡ unread
behind_nothing None = refl
behind_nothing (Some text) = refl

pub at_end_behind : (front : Bytes) (unread : Option Bytes) → IsAtEnd (behind front unread) → IsAtEnd unread
at_end_behind front None end = tt
at_end_behind front (Some text) end =
    nil_from_length text (let size = length-append front text in let none = ap (λ (b : Bytes). length b) end in omega
    (arith, size, none))

pub all_read_behind : (result : Result End Stop) (front : Bytes) (unread : Option Bytes)
    → IfOk result (λ end. end ≡ lasts.Done → IsAtEnd (behind front unread))
    → IfOk result (λ end. end ≡ lasts.Done → IsAtEnd unread)
all_read_behind (Ok end) front unread read = λ done. at_end_behind front unread (read done)
all_read_behind (Err stop) front unread read = tt

-- a directory that is too long
pub record LongParts (most : ℕ) (told : Option Parts) : Type 0 where
  pub parts : Parts
  pub input : IfSome told (λ other. parts ≡ other)
  pub long : most < length parts.directory

pub long_parts : (most : ℕ) (told : Option Parts) → IfSome told (λ parts. most < length parts.directory)
    → LongParts most told
long_parts most None found =
    let zero : ℕ = 0
    in let bytes : Bytes = replicate (most + 1) zero
    in let size : length bytes ≡ most + 1 = length-replicate (most + 1) zero
    in record { parts = record { directory = bytes; script = None }; input = tt; long = omega (arith, size) }
long_parts most (Some parts) found = record { parts = parts; input = refl; long = found }

-- one without its end
pub record UnmarkedParts (most : ℕ) (told : Option Parts) : Type 0 where
  pub parts : Parts
  pub input : IfSome told (λ other. parts ≡ other)
  pub short : length parts.directory ≤ most
  pub none : parts.script ≡ None

pub unmarked_parts : (most : ℕ) (told : Option Parts)
    → IfSome told (λ parts. (length parts.directory ≤ most) × (parts.script ≡ None)) → UnmarkedParts most told
unmarked_parts most None found =
    record { parts = record { directory = []; script = None }; input = tt; short = omega arith; none = refl }
unmarked_parts most (Some parts) found =
    record { parts = parts; input = refl; short = found.0; none = found.1 }

-- what the bytes in front of a script come to, in the words of a run
pub read_of : (unread behind : Option Bytes) (bytes : Bytes) → length bytes ≤ LONGEST_DIRECTORY
    → parts_left unread ≡ parts_behind bytes behind → (what : Input) → IsDirectoryRead bytes what
    → IsInputRead unread behind what
read_of unread behind bytes short parts (input.Opens directory) reads =
    record { bytes = bytes; short = short; reads = reads; parts = parts }
read_of unread behind bytes short parts (input.Ends text last) refused =
    let lines = lines_there behind
    in let read : Parts = record { directory = bytes; script = Some lines.0 }
    in record {
      end = ends.DirectoryRefused refused.0;
      parts = read;
      input = parts_are unread behind bytes lines.0 parts lines.1;
      stage = λ asked hands form is. stage_read asked hands form read is short lines.0 refl (Err refused.0) refused.1;
      text_is = λ providers. refused.2 ∙ sym (refused_directory providers refused.0);
      shown = ap end_shown refused.3;
    }

-- what the bytes of a whole input come to, in the words of a run that serves
pub whole_of : (unread left : Option Bytes) (bytes : Bytes) → length bytes ≤ LONGEST_DIRECTORY
    → IfSome unread (λ text. text ≡ bytes) → IsAtEnd left → (what : Input) → IsDirectoryRead bytes what
    → IsWholeRead unread left what
whole_of unread left bytes short all end (input.Opens directory) reads = record {
  bytes = bytes;
  short = short;
  reads = reads;
  input = same_text unread bytes bytes refl all;
  at_end = end;
}
whole_of unread left bytes short all end (input.Ends text last) refused = record {
  end = ends.DirectoryRefused refused.0;
  bytes = bytes;
  input = same_text unread bytes bytes refl all;
  stage = services.stage_read bytes short (Err refused.0) refused.1;
  text_is = λ providers. refused.2 ∙ sym (refused_directory providers refused.0);
  shown = ap end_shown refused.3;
}

-- an input that isn't read on stops the run
pub input_stops : (fault : InputFault) (before after : Option Bytes) (text : Bytes) → after ≡ followed_by before text
    → TellsAs (stop_shown (stop_of fault)) before after text plays.Stops
input_stops faults.NoMemory before after text held = (refl, held)
input_stops faults.ReadFault before after text held = (refl, held)
