-- The same as in `Seen`, as a function of the bytes: `view`.
use Rattle.std.specs.Prelude.{List, Result}
use Rattle.pec_types.specs.Bytes.{Bytes}
use Rattle.pec_types.specs.Results.{◌>>=◌}
use Rattle.pec_types.specs.declared.disputes.LetterFault.{LetterFault}
use Rattle.pec_directory.specs.Directory.{Provider}
use Rattle.pec_seal.specs.Seals.{Seals}
use Rattle.pec_letter_parts.specs.LettersReading.{letter_of}
use Rattle.pec_letters.specs.Seen.{Seen, seen_of}

-- What is seen of a text that is an envelope, or why it is none.
unfoldable pub view : Seals → List Provider → Bytes → Result Seen LetterFault
view seals providers text = letter_of seals text >>= seen_of providers
