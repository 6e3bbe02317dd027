-- What is seen of a text is told exactly by the functions.
use Rattle.std.proofs.Common.{List, Option, Some, None}
use Rattle.pec_types.specs.Answers.{TellsExactly}
use Rattle.pec_types.specs.Bytes.{Bytes}
use Rattle.pec_directory.specs.Directory.{Provider}
use Rattle.pec_seal.specs.Seals.{Seals}
use Rattle.pec_letter_parts.specs.Letters.{Headed, IsHeaded, IsLetterIn, IsUnheaded, IsUnreadIn}
use Rattle.pec_letter_parts.specs.LettersReading.{headed_of, letter_in}
use Rattle.pec_letter_parts.specs.Told.{itself_told, table_told, then_told}
use Rattle.pec_receipts.specs.Seen.{IsSeen, IsSeenBy, IsUnseen, IsUnseenBy, acknowledged, reply_of, seen_of}
use Rattle.pec_receipts.specs.SeenReading.{seen_by, seen_in, view}

-- what the law of heads says: the letter behind one is told exactly
abbrev pub Letters : Type 0
Letters = (read : Headed) → TellsExactly (IsLetterIn read) (IsUnreadIn read) (letter_in read)

by_told : Letters → (providers : List Provider) (read : Headed) (reply : Option Bytes)
    → TellsExactly (IsSeenBy providers read reply) (IsUnseenBy providers read reply) (seen_by providers read reply)
by_told letters providers read None =
    table_told (IsLetterIn read) (IsUnreadIn read) (seen_of providers) (letter_in read) (letters read)
by_told letters providers read (Some value) = itself_told (acknowledged providers read value)

in_told : Letters → (providers : List Provider) (read : Headed)
    → TellsExactly (IsSeenBy providers read (reply_of read)) (IsUnseenBy providers read (reply_of read)) (seen_in providers read)
unfolding seen_in
in_told letters providers read = by_told letters providers read (reply_of read)

-- The function tells exactly what is seen of a text.
pub seen_told : (seals : Seals) (text : Bytes) → TellsExactly (IsHeaded seals text) (IsUnheaded seals text) (headed_of seals text) → Letters
    → (providers : List Provider) → TellsExactly (IsSeen seals providers text) (IsUnseen seals providers text) (view seals providers text)
unfolding view
seen_told seals text heads letters providers =
    then_told (IsHeaded seals text) (IsUnheaded seals text) (λ read seen. IsSeenBy providers read (reply_of read) seen)
    (λ read fault. IsUnseenBy providers read (reply_of read) fault) (headed_of seals text) (seen_in providers) heads
    (λ read. in_told letters providers read)
