-- What reading the directory of an input gives: `Opens`. This project's profile.
use Rattle.std.specs.Prelude.{◌≡◌, ◌<◌, ◌≤◌, length, Option, Some, None, option_map, IfSome}
use Rattle.pec_types.specs.Bytes.{Bytes}
use Rattle.pec_input.specs.Finding.{lines_left}
use Rattle.pec_input.specs.Lines.{raw_lines}
use Rattle.pec_input.specs.Parts.{Parts, parts_of}
use Rattle.pec_input.specs.declared.opening.Opening.{Opening}
use Rattle.pec_input.specs.declared.opening.Opening.TheVariants.{Script, NoScript, TooLong}
use Rattle.pec_input.specs.declared.opening.TheConstants.{LONGEST_DIRECTORY}

-- the parts of what is left to read
abbrev pub parts_left : Option Bytes → Option Parts
parts_left left = option_map parts_of (lines_left left)

-- From what was left to read before to what is left after: the directory was taken with the mark, and the script is
-- left; no line is the mark; or the directory is longer than it may be.
abbrev pub Opens : Opening → Option Bytes → Option Bytes → Type 0
Opens (Script directory) before after = (length directory.items ≤ LONGEST_DIRECTORY)
    × (parts_left before
    ≡ option_map (λ rest. record { directory = directory.items; script = Some (raw_lines rest) }) after)
Opens NoScript before after =
    IfSome (parts_left before) (λ parts. (length parts.directory ≤ LONGEST_DIRECTORY) × (parts.script ≡ None))
Opens TooLong before after = IfSome (parts_left before) (λ parts. LONGEST_DIRECTORY < length parts.directory)
