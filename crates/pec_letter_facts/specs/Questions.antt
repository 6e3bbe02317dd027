-- What every reader of certified letters asks of a letter that was read, question by question. A reader's table of faults is a
-- chain of `known` and `claim` over these and its own.
use Rattle.std.specs.Prelude.{ℕ, List, Bool, true, false, not, ◌&&◌, ◌||◌, ◌==◌, Option, Some, None, codes, if◌then◌else◌, slice_get}
use Rattle.std.specs.List.{list_all}
use Rattle.std.specs.Str.{bytes_eq}
use Rattle.pec_types.specs.Bytes.{Bytes}
use Rattle.pec_types.specs.Message.{Id}
use Rattle.pec_types.specs.Words.{wish_word}
use Rattle.pec_types.specs.declared.messages.Wish.{Wish}
use Rattle.pec_heads.specs.FactsOfHeads.{first_value}
use Rattle.pec_heads.specs.Heads.{NamedValue}
use Rattle.pec_cert.specs.HeaderDate.{header_date_of}
use Rattle.pec_cert.specs.declared.certificates.CertRecipient.{CertRecipient}
use Rattle.pec_directory.specs.Directory.{Provider, home_of, is_certified, is_number}
use Rattle.pec_directory.specs.Ids.{id_of}
use Rattle.pec_letter_parts.specs.Headings.{angled, marking_name}
use Rattle.pec_letter_parts.specs.Letters.{Letter, is_value}
use Rattle.pec_letter_parts.specs.declared.headings.Marking.{Marking}
use Rattle.pec_letter_parts.specs.declared.headings.Marking.TheVariants.{Transport, Receipt, Reply}

-- the first field of this name has this value
unfoldable pub is_first : Bytes → Bytes → List NamedValue → Bool
is_first name wanted head = is_value wanted (first_value name head)

-- ---- what a letter is

-- this marking, where its field is there, or else a later one
abbrev pub marked_or : Marking → Option Bytes → Option (Marking × Bytes) → Option (Marking × Bytes)
marked_or marking (Some kind) later = Some (marking, kind)
marked_or marking None later = later

-- What a head says its letter is: an acknowledgement wherever it has that field, or else a receipt, or else an envelope.
unfoldable pub marking_of : List NamedValue → Option (Marking × Bytes)
marking_of head =
    marked_or Reply (first_value (marking_name Reply) head)
    (marked_or Receipt (first_value (marking_name Receipt) head)
    (marked_or Transport (first_value (marking_name Transport) head) None))

-- ---- identifier

-- The message that a letter is about: its certified name is that of a message of the directory's providers, and a field of the
-- head, of the name that is given, is that name in angle brackets.
unfoldable pub id_named : List Provider → Bytes → Letter → Option Id
id_named providers field letter =
    if is_first field (angled letter.cert.id) letter.head then id_of providers letter.cert.id else None

-- ---- sealer

-- there is a provider, and this is its name
abbrev pub is_called : Bytes → Option Provider → Bool
is_called name None = false
is_called name (Some provider) = bytes_eq name provider.name

-- The provider that sealed the letter is the one that it certifies as its issuer.
unfoldable pub is_sealed_by_issuer : List Provider → Letter → Bool
is_sealed_by_issuer providers letter = is_called letter.cert.provider (slice_get providers letter.sealer)

-- ---- sender

-- The certified sender is at home at the provider of the message.
unfoldable pub is_from_home : List Provider → Id → Letter → Bool
is_from_home providers id letter = is_number id.provider (home_of providers letter.cert.sender)

-- ---- recipients

-- the recipient's type is the one that the directory gives its address
abbrev pub is_typed : List Provider → CertRecipient → Bool
is_typed providers recipient =
    if recipient.certified then is_certified providers recipient.address else not (is_certified providers recipient.address)

-- Each certified recipient has its right type.
unfoldable pub are_typed : List Provider → Letter → Bool
are_typed providers letter = list_all (is_typed providers) letter.cert.recipients

-- ---- wish

-- the head has the word of this wish
unfoldable pub is_wish_marked : Wish → List NamedValue → Bool
is_wish_marked wish head = is_first (codes "X-TipoRicevuta") (wish_word wish) head

-- ---- moment

-- The date of the head is that of the certified stamp.
unfoldable pub is_dated : Letter → Bool
is_dated letter = is_first (codes "Date") (header_date_of letter.cert.stamp) letter.head
