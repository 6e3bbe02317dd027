-- The same as in `Seen`, as a function of the bytes: `view`.
use Rattle.std.specs.Prelude.{List, Option, Some, None, Result}
use Rattle.pec_types.specs.Bytes.{Bytes}
use Rattle.pec_types.specs.Results.{◌>>=◌}
use Rattle.pec_types.specs.declared.disputes.LetterFault.{LetterFault}
use Rattle.pec_directory.specs.Directory.{Provider}
use Rattle.pec_seal.specs.Seals.{Seals}
use Rattle.pec_letter_parts.specs.Letters.{Headed}
use Rattle.pec_letter_parts.specs.LettersReading.{headed_of, letter_in}
use Rattle.pec_receipts.specs.Seen.{acknowledged, reply_of, seen_of}
use Rattle.pec_receipts.specs.declared.reading.ReceiptView.{ReceiptView}

abbrev pub seen_by : List Provider → Headed → Option Bytes → Result ReceiptView LetterFault
seen_by providers read None = letter_in read >>= seen_of providers
seen_by providers read (Some value) = acknowledged providers read value

-- what is seen behind a head
unfoldable pub seen_in : List Provider → Headed → Result ReceiptView LetterFault
seen_in providers read = seen_by providers read (reply_of read)

-- What is seen of a text that is a receipt, a notice or an acknowledgement, or why it is none.
unfoldable pub view : Seals → List Provider → Bytes → Result ReceiptView LetterFault
view seals providers text = headed_of seals text >>= seen_in providers
