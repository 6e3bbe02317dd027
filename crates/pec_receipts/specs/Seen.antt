-- What is seen in a text that is a receipt, a notice or an acknowledgement: the table of faults, row by row (`seen_of` for what certifies
-- something, `acknowledged` for an acknowledgement), and what it means that a text is seen as one or isn't (`IsSeen` and `IsUnseen`, at
-- the end).
use Rattle.std.specs.Prelude.{◌≡◌, ◌⊎◌, ℕ, ◌-◌, ◌==◌, nat_le, List, ◌++◌, Bool, true, false, ◌&&◌, ◌||◌, if◌then◌else◌, length, take, drop, find, slice_index, Option, Some, None, Result, Ok, Err, codes}
use Rattle.std.specs.List.{list_any}
use Rattle.std.specs.Option.{is_none, option_and_then, option_map}
use Rattle.std.specs.Str.{bytes_eq}
use Rattle.pec_types.specs.AddressReading.{address_of}
use Rattle.pec_types.specs.Bytes.{Bytes, after_front}
use Rattle.pec_types.specs.Message.{Id}
use Rattle.pec_types.specs.Results.{◌>>=◌}
use Rattle.pec_types.specs.declared.disputes.Disputed.TheVariants as disputed
use Rattle.pec_types.specs.declared.disputes.LetterFault.{LetterFault}
use Rattle.pec_types.specs.declared.disputes.LetterFault.TheVariants.{NotThis, Disagree}
use Rattle.pec_types.specs.declared.messages.Wish.{Wish}
use Rattle.pec_kinds.specs.declared.receipts.Kind.{Kind}
use Rattle.pec_kinds.specs.declared.receipts.Kind.TheVariants.{Ack}
use Rattle.pec_heads.specs.FactsOfHeads.{first_value}
use Rattle.pec_heads.specs.Heads.{NamedValue}
use Rattle.pec_cert.specs.HeaderDateReading.{header_stamp_of}
use Rattle.pec_cert.specs.Stamp.{Instant}
use Rattle.pec_cert.specs.declared.certificates.CertError.{CertError}
use Rattle.pec_cert.specs.declared.certificates.CertError.TheVariants as errors
use Rattle.pec_cert.specs.declared.certificates.CertKind.{CertKind}
use Rattle.pec_cert.specs.declared.certificates.CertKind.TheVariants as certs
use Rattle.pec_cert.specs.declared.certificates.CertRecipient.{CertRecipient}
use Rattle.pec_directory.specs.Directory.{Provider}
use Rattle.pec_directory.specs.Ids.{id_of}
use Rattle.pec_seal.specs.Seals.{Seals}
use Rattle.pec_letter_parts.specs.Asking.{claim, known, readable}
use Rattle.pec_letter_parts.specs.Headings.{marking_name}
use Rattle.pec_letter_parts.specs.Letters.{Headed, IsHeaded, IsLetterIn, IsUnheaded, IsUnreadIn, Letter}
use Rattle.pec_letter_parts.specs.declared.headings.Marking.{Marking}
use Rattle.pec_letter_parts.specs.declared.headings.Marking.TheVariants as markings
use Rattle.pec_letter_facts.specs.Questions.{are_typed, id_named, is_dated, is_from_home, is_sealed_by_issuer, is_wish_marked, marking_of}
use Rattle.pec_receipts.specs.Kinds.{Row, Said, all_kinds, row_of}
use Rattle.pec_receipts.specs.declared.kinds.About.{About}
use Rattle.pec_receipts.specs.declared.kinds.About.TheVariants as about
use Rattle.pec_receipts.specs.declared.reading.ReceiptView.{ReceiptView}
use Rattle.pec_receipts.specs.declared.receipts.Receipt.{Receipt}

-- ---- NotThis

abbrev pub is_receipted : Marking → Bool
is_receipted markings.Transport = false
is_receipted markings.Receipt = true
is_receipted markings.Reply = false

-- a head says that it is a receipt's, by this word
abbrev pub is_marked : Bytes → Option (Marking × Bytes) → Bool
is_marked word None = false
is_marked word (Some marked) = is_receipted marked.0 && bytes_eq marked.1 word

-- kinds and errors by numbers of their own, by which they are compared
abbrev pub kind_number : CertKind → ℕ
kind_number certs.Acceptance = 0
kind_number certs.NonAcceptance = 1
kind_number certs.Charge = 2
kind_number certs.Delivery = 3
kind_number certs.Envelope = 4
kind_number certs.DeliveryError = 5
kind_number certs.DelayNotice = 6
kind_number certs.VirusDetection = 7

abbrev pub error_number : CertError → ℕ
error_number errors.Nothing = 0
error_number errors.NoRecipient = 1
error_number errors.NoDomain = 2
error_number errors.Virus = 3
error_number errors.Other = 4

abbrev pub is_detail : Option Bytes → Option Bytes → Bool
is_detail None None = true
is_detail None (Some detail) = false
is_detail (Some wanted) None = false
is_detail (Some wanted) (Some detail) = bytes_eq detail wanted

-- the word of the head, the kind, the error and its words are those of a row
unfoldable pub says : Letter → Option Said → Bool
says letter None = false
says letter (Some said) =
    is_marked said.word (marking_of letter.head) && kind_number letter.cert.kind == kind_number said.kind
    && error_number letter.cert.error == error_number said.error && is_detail said.detail letter.cert.detail

abbrev pub is_of : Letter → Kind → Bool
is_of letter kind = says letter (row_of kind).said

-- The kind of which a letter is.
unfoldable pub kind_of : Letter → Option Kind
kind_of letter = find (is_of letter) all_kinds

-- ---- Sealer

-- The provider that sealed the letter is its issuer, and that of the message where no other may compose the kind.
unfoldable pub is_sealed : List Provider → Id → Row → Letter → Bool
is_sealed providers id row letter = is_sealed_by_issuer providers letter && (row.elsewhere || letter.sealer == id.provider)

-- ---- Recipient

abbrev pub is_certified_one : Bytes → CertRecipient → Bool
is_certified_one address recipient = recipient.certified && bytes_eq recipient.address address

-- there is an address, and it is that of one of the certified ones
abbrev pub is_one : List CertRecipient → Option Bytes → Bool
is_one recipients None = false
is_one recipients (Some address) = list_any (is_certified_one address) recipients

-- `consegna` is there exactly where the kind names a recipient, and is one of the certified ones
unfoldable pub is_delivered : About → List CertRecipient → Option Bytes → Bool
is_delivered about.Message recipients delivered = is_none delivered
is_delivered about.Provider recipients delivered = is_none delivered
is_delivered about.Recipient recipients delivered = is_one recipients delivered

-- The recipients have their right types, and the one that the letter is about is one of them.
unfoldable pub are_recipients : List Provider → Row → Letter → Bool
are_recipients providers row letter =
    are_typed providers letter && is_delivered row.about letter.cert.recipients letter.cert.delivered

-- ---- Wish

-- a wish is certified exactly where the kind has one, and is that of the head where the kind has it there
unfoldable pub is_wished : Option Said → Option Wish → List NamedValue → Bool
is_wished None wish head = true
is_wished (Some said) None head = if said.wish then false else true
is_wished (Some said) (Some wish) head = if said.wish then (if said.delivers then is_wish_marked wish head else true) else false

-- ---- the table

-- What is seen of a letter that was read, or the fault of the first row that applies.
unfoldable pub seen_of : List Provider → Letter → Result ReceiptView LetterFault
seen_of providers letter = do
  kind ← known (kind_of letter) NotThis
  id ← known (id_named providers (codes "X-Riferimento-Message-ID") letter) (Disagree disputed.Identifier)
  sealer ← claim (is_sealed providers id (row_of kind) letter) (Disagree disputed.Sealer)
  sender ← claim (is_from_home providers id letter) (Disagree disputed.Sender)
  recipients ← claim (are_recipients providers (row_of kind) letter) (Disagree disputed.Recipient)
  wish ← claim (is_wished (row_of kind).said letter.cert.wish letter.head) (Disagree disputed.Wish)
  date ← claim (is_dated letter) (Disagree disputed.Moment)
  Ok (record { kind = kind; id = id; by = letter.sealer; moment = letter.cert.stamp.moment; recipient = letter.cert.delivered })

-- ---- acknowledgements

-- what stands between `<` and `>`
unfoldable pub unangled : Bytes → Option Bytes
unangled value =
    if nat_le 2 (length value) && slice_index value 0 == 60 && slice_index value (length value - 1) == 62
    then Some (take (length value - 2) (drop 1 value))
    else None

-- the name of the message, in angle brackets
unfoldable pub name_acknowledged : List NamedValue → Option Bytes
name_acknowledged head = option_and_then unangled (first_value (codes "X-Riferimento-Message-ID") head)

-- the moment that the head's date shows
unfoldable pub moment_acknowledged : List NamedValue → Option ℕ
moment_acknowledged head =
    option_map (λ (stamp : Instant). stamp.moment) (option_and_then header_stamp_of (first_value (codes "Date") head))

-- What is seen of an acknowledgement with this value: it has no parts, and the head says everything.
unfoldable pub acknowledged : List Provider → Headed → Bytes → Result ReceiptView LetterFault
acknowledged providers read value = do
  name ← known (name_acknowledged read.head) (Disagree disputed.Identifier)
  id ← known (id_of providers name) (Disagree disputed.Identifier)
  rest ← known (after_front (name ++ codes " ") value) (Disagree disputed.Recipient)
  recipient ← readable (address_of rest) (Disagree disputed.Recipient)
  moment ← known (moment_acknowledged read.head) (Disagree disputed.Moment)
  Ok (record { kind = Ack; id = id; by = read.sealer; moment = moment; recipient = Some recipient })

-- ---- texts

-- the value by which a head says that it is an acknowledgement's
abbrev pub reply_of : Headed → Option Bytes
reply_of read = first_value (marking_name markings.Reply) read.head

abbrev pub IsSeenBy : List Provider → Headed → Option Bytes → ReceiptView → Type 0
IsSeenBy providers read None seen = (letter : Letter) × (IsLetterIn read letter × (seen_of providers letter ≡ Ok seen))
IsSeenBy providers read (Some value) seen = acknowledged providers read value ≡ Ok seen

abbrev pub IsUnseenBy : List Provider → Headed → Option Bytes → LetterFault → Type 0
IsUnseenBy providers read None fault =
    IsUnreadIn read fault ⊎ ((letter : Letter) × (IsLetterIn read letter × (seen_of providers letter ≡ Err fault)))
IsUnseenBy providers read (Some value) fault = acknowledged providers read value ≡ Err fault

-- The text is seen as this receipt.
abbrev pub IsSeen : Seals → List Provider → Bytes → ReceiptView → Type 0
IsSeen seals providers text seen =
    (read : Headed) × (IsHeaded seals text read × IsSeenBy providers read (reply_of read) seen)

-- The text is seen as none: no head is read of it, or no letter is, or a row of the table applies, and it is the first.
abbrev pub IsUnseen : Seals → List Provider → Bytes → LetterFault → Type 0
IsUnseen seals providers text fault =
    IsUnheaded seals text fault
    ⊎ ((read : Headed) × (IsHeaded seals text read × IsUnseenBy providers read (reply_of read) fault))

-- what is seen of a receipt that says this
abbrev pub seen_again : Receipt → ReceiptView
seen_again r = record { kind = r.kind; id = r.id; by = r.by; moment = r.moment; recipient = r.recipient }
