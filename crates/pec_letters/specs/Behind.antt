-- What is seen behind a head: of a text with this head the same as `view` of `SeenReading`.
use Rattle.std.specs.Prelude.{List, Result}
use Rattle.pec_types.specs.Results.{◌>>=◌}
use Rattle.pec_types.specs.declared.disputes.LetterFault.{LetterFault}
use Rattle.pec_directory.specs.Directory.{Provider}
use Rattle.pec_letter_parts.specs.Letters.{Headed}
use Rattle.pec_letter_parts.specs.LettersReading.{letter_in}
use Rattle.pec_letters.specs.Seen.{Seen, seen_of}

unfoldable pub view_in : List Provider → Headed → Result Seen LetterFault
view_in providers read = letter_in read >>= seen_of providers
