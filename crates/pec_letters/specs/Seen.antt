-- What is seen in a text that is an envelope: the table of faults, row by row (`seen_of`), and what it means that a text is seen as
-- an envelope or isn't (`IsSeen` and `IsUnseen`, at the end).
use Rattle.std.specs.Prelude.{◌≡◌, ◌⊎◌, ℕ, List, [], ◌∷◌, ◌++◌, Bool, true, false, ◌&&◌, ◌==◌, map, length, if◌then◌else◌, Option, Some, None, Result, Ok, Err, codes}
use Rattle.std.specs.Option.{is_none, option_and_then, option_map}
use Rattle.std.specs.Result.{result_ok}
use Rattle.std.specs.Str.{bytes_eq}
use Rattle.pec_types.specs.Bytes.{Bytes, Path}
use Rattle.pec_types.specs.Message.{Id}
use Rattle.pec_types.specs.Results.{◌>>=◌}
use Rattle.pec_types.specs.Words.{wish_word}
use Rattle.pec_types.specs.declared.disputes.Disputed.TheVariants as disputed
use Rattle.pec_types.specs.declared.disputes.LetterFault.{LetterFault}
use Rattle.pec_types.specs.declared.disputes.LetterFault.TheVariants.{NotThis, Disagree}
use Rattle.pec_types.specs.declared.messages.Facts.{Facts}
use Rattle.pec_types.specs.declared.messages.Wish.{Wish}
use Rattle.pec_heads.specs.BoundedFacts.{addresses_of}
use Rattle.pec_heads.specs.FactsReading.{facts_of, listed}
use Rattle.pec_heads.specs.HeadReading.{read_of}
use Rattle.pec_heads.specs.Heads.{NamedValue, values_of}
use Rattle.pec_cert.specs.declared.certificates.CertData.{CertData}
use Rattle.pec_cert.specs.declared.certificates.CertError.{CertError}
use Rattle.pec_cert.specs.declared.certificates.CertError.TheVariants as errors
use Rattle.pec_cert.specs.declared.certificates.CertKind.{CertKind}
use Rattle.pec_cert.specs.declared.certificates.CertKind.TheVariants as kinds
use Rattle.pec_cert.specs.declared.certificates.CertRecipient.{CertRecipient}
use Rattle.pec_directory.specs.Directory.{Provider}
use Rattle.pec_seal.specs.Seals.{Seals}
use Rattle.pec_letter_parts.specs.Asking.{claim, known}
use Rattle.pec_letter_parts.specs.Contents.{message_name}
use Rattle.pec_letter_parts.specs.Letters.{IsLetter, IsUnread, Letter, body_of}
use Rattle.pec_letter_parts.specs.declared.headings.Marking.{Marking}
use Rattle.pec_letter_parts.specs.declared.headings.Marking.TheVariants as markings
use Rattle.pec_letter_facts.specs.Questions.{are_typed, id_named, is_dated, is_from_home, is_sealed_by_issuer, is_wish_marked, marking_of}
use Rattle.pec_letters.specs.Envelopes.{envelope_word}

-- What is seen of an envelope: the message, when it was accepted, the facts of its head, and the message as it was handed in.
pub record Seen : Type 0 where
  pub id : Id
  pub moment : ℕ
  pub facts : Facts
  pub original : Bytes

-- ---- NotThis

abbrev pub is_transport : Marking → Bool
is_transport markings.Transport = true
is_transport markings.Receipt = false
is_transport markings.Reply = false

-- a head says that it is an envelope's
abbrev pub is_marked : Option (Marking × Bytes) → Bool
is_marked None = false
is_marked (Some marked) = is_transport marked.0 && bytes_eq marked.1 envelope_word

abbrev pub is_envelope_kind : CertKind → Bool
is_envelope_kind kinds.Acceptance = false
is_envelope_kind kinds.NonAcceptance = false
is_envelope_kind kinds.Charge = false
is_envelope_kind kinds.Delivery = false
is_envelope_kind kinds.Envelope = true
is_envelope_kind kinds.DeliveryError = false
is_envelope_kind kinds.DelayNotice = false
is_envelope_kind kinds.VirusDetection = false

abbrev pub is_no_error : CertError → Bool
is_no_error errors.Nothing = true
is_no_error errors.NoRecipient = false
is_no_error errors.NoDomain = false
is_no_error errors.Virus = false
is_no_error errors.Other = false

-- the certificate is an envelope's: of its kind, without an error
abbrev pub certifies_envelope : CertData → Bool
certifies_envelope cert = (is_envelope_kind cert.kind && is_no_error cert.error) && is_none cert.detail

-- Head and certificate are together those of an envelope.
unfoldable pub is_envelope : Letter → Bool
is_envelope letter = is_marked (marking_of letter.head) && certifies_envelope letter.cert

-- ---- Sealer

-- The provider of the message sealed the letter, under its own name.
unfoldable pub is_sealed_at_home : List Provider → Id → Letter → Bool
is_sealed_at_home providers id letter = is_sealed_by_issuer providers letter && letter.sealer == id.provider

-- ---- Sender

-- the facts of a head, where it was read
abbrev pub facts_read : Option (List NamedValue × ℕ) → Option Facts
facts_read (Some read) = facts_of read.0
facts_read None = None

-- the facts, where this is the sender
abbrev pub with_sender : Bytes → Option Facts → Option Facts
with_sender sender None = None
with_sender sender (Some facts) = if bytes_eq facts.sender sender then Some facts else None

-- The facts of the original, where it has any and the certified sender.
unfoldable pub facts_in : Bytes → Letter → Option Facts
facts_in original letter = with_sender letter.cert.sender (facts_read (result_ok (read_of original)))

-- ---- Recipient

-- the two are the same addresses in the same order
abbrev pub is_path : Path → Path → Bool
is_path [] [] = true
is_path [] (other ∷ others) = false
is_path (address ∷ addresses) [] = false
is_path (address ∷ addresses) (other ∷ others) = bytes_eq address other && is_path addresses others

-- the addresses that the fields of a name list: none where there is no such field
unfoldable pub addresses_in : Bytes → List NamedValue → Option Path
addresses_in name head = if length (values_of name head) == 0 then Some [] else listed name head

-- all addresses of `To`, and then all of `Cc`, where both are lists
unfoldable pub named_in : List NamedValue → Option Path
named_in head =
    option_and_then (λ (to : Path). option_map (λ (copies : Path). to ++ copies) (addresses_in (codes "Cc") head))
    (addresses_in (codes "To") head)

-- there is a path, and it is this one
abbrev pub is_named_path : Path → Option Path → Bool
is_named_path wanted None = false
is_named_path wanted (Some path) = is_path path wanted

-- The certified recipients have their right types and are those of the facts, and so are the addresses of `To` and `Cc`; and
-- nobody is certified to have received the message.
unfoldable pub are_recipients : List Provider → Facts → Letter → Bool
are_recipients providers facts letter =
    ((are_typed providers letter && is_none letter.cert.delivered)
    && is_path (map (λ (r : CertRecipient). r.address) letter.cert.recipients) (addresses_of facts.recipients))
    && is_named_path (addresses_of facts.recipients) (named_in letter.head)

-- ---- Wish

-- there is a wish, and it is this one
abbrev pub is_wish : Wish → Option Wish → Bool
is_wish wanted None = false
is_wish wanted (Some wish) = bytes_eq (wish_word wish) (wish_word wanted)

-- The certified wish is that of the head and that of the original.
unfoldable pub is_wished : Facts → Letter → Bool
is_wished facts letter = is_wish facts.wish letter.cert.wish && is_wish_marked facts.wish letter.head

-- ---- Moment

-- what is seen, where the date of the head is that of the certified stamp
abbrev pub dated : Letter → Seen → Result Seen LetterFault
dated letter seen = do
  date ← claim (is_dated letter) (Disagree disputed.Moment)
  Ok seen

-- ---- the table

-- What is seen of a letter that was read, or the fault of the first row that applies.
unfoldable pub seen_of : List Provider → Letter → Result Seen LetterFault
seen_of providers letter = do
  kind ← claim (is_envelope letter) NotThis
  original ← known (body_of message_name letter.parts) NotThis
  id ← known (id_named providers (codes "Message-ID") letter) (Disagree disputed.Identifier)
  sealer ← claim (is_sealed_at_home providers id letter) (Disagree disputed.Sealer)
  home ← claim (is_from_home providers id letter) (Disagree disputed.Sender)
  facts ← known (facts_in original letter) (Disagree disputed.Sender)
  recipients ← claim (are_recipients providers facts letter) (Disagree disputed.Recipient)
  wish ← claim (is_wished facts letter) (Disagree disputed.Wish)
  dated letter (record { id = id; moment = letter.cert.stamp.moment; facts = facts; original = original })

-- The text is seen as this envelope.
abbrev pub IsSeen : Seals → List Provider → Bytes → Seen → Type 0
IsSeen seals providers text seen = (letter : Letter) × (IsLetter seals text letter × (seen_of providers letter ≡ Ok seen))

-- The text is seen as no envelope: no letter is read of it, or a row of the table applies to the letter, and this one is the first.
abbrev pub IsUnseen : Seals → List Provider → Bytes → LetterFault → Type 0
IsUnseen seals providers text fault =
    IsUnread seals text fault ⊎ ((letter : Letter) × (IsLetter seals text letter × (seen_of providers letter ≡ Err fault)))
