-- What reading an input to its end gives, where all of it is a directory: `IsWhole`. This project's profile.
use Rattle.std.specs.Prelude.{◌≡◌, ◌<◌, ◌≤◌, length, Option, IfSome}
use Rattle.pec_types.specs.Bytes.{Bytes}
use Rattle.pec_input.specs.Finding.{IsAtEnd}
use Rattle.pec_input.specs.declared.opening.TheConstants.{LONGEST_DIRECTORY}
use Rattle.pec_input.specs.declared.whole.Whole.{Whole}
use Rattle.pec_input.specs.declared.whole.Whole.TheVariants.{All, TooLong}

-- From what was left to read before and after: all of it was read, and nothing is left; or there is more than a directory
-- may have.
abbrev pub IsWhole : Whole → Option Bytes → Option Bytes → Type 0
IsWhole (All bytes) before after =
    (length bytes.items ≤ LONGEST_DIRECTORY) × IfSome before (λ text. text ≡ bytes.items) × IsAtEnd after
IsWhole TooLong before after = IfSome before (λ text. LONGEST_DIRECTORY < length text)
