-- What is seen of a receipt that was composed is what it was composed of.
use Rattle.std.proofs.Common.{◌≡◌, ℕ, ◌<◌, ◌≤◌, ◌^◌, List, [], ◌∷◌, length, position, slice_get, Option, None, Some, option_map, Result, Ok, refl, ap, sym, ◌∙◌, subst, arith}
use Rattle.std.proofs.lemmas.List.Quantifiers.{position-Some}
use Rattle.std.proofs.lemmas.Option.{slice_get-map}
use Rattle.std.specs.Option.{IfSome, option_and_then}
use Rattle.pec_types.specs.Address.{IsLowerAddress}
use Rattle.pec_types.specs.Answers.{TellsExactly}
use Rattle.pec_types.specs.Bytes.{Bytes}
use Rattle.pec_types.specs.Message.{Id}
use Rattle.pec_types.specs.Results.{◌>>=◌}
use Rattle.pec_types.specs.Text.{AllPrintable}
use Rattle.pec_types.specs.declared.disputes.LetterFault.{LetterFault}
use Rattle.pec_types.specs.declared.messages.Recipient.{Recipient}
use Rattle.pec_types.specs.declared.messages.TheConstants.{MESSAGES}
use Rattle.pec_types.specs.declared.receipts.Kind.{Kind}
use Rattle.pec_types.specs.declared.moments.TheConstants.{END_OF_TIME}
use Rattle.pec_heads.specs.FactsOfHeads.{first_value}
use Rattle.pec_cert.specs.Certificate.{IsCert}
use Rattle.pec_cert.specs.Stamp.{IsStamp}
use Rattle.pec_cert.specs.Zone.{stamp_of}
use Rattle.pec_cert.specs.declared.certificates.CertData.{CertData}
use Rattle.pec_directory.specs.Directory.{Kept, Provider, first_domain, providers_of}
use Rattle.pec_directory.specs.Fields.{service_at}
use Rattle.pec_directory.specs.Lawful.{IsLawful}
use Rattle.pec_seal.specs.Seals.{Seals}
use Rattle.pec_letter_parts.specs.Contents.{Contents, parts_of}
use Rattle.pec_letter_parts.specs.Headings.{Heading, marking_name}
use Rattle.pec_letter_parts.specs.Letters.{Headed, IsHeaded, IsLetter, IsLetterIn, IsUnheaded, IsUnreadIn, Letter}
use Rattle.pec_letter_parts.specs.LettersReading.{headed_of, letter_in}
use Rattle.pec_letter_parts.specs.Sealing.{IsLetterText}
use Rattle.pec_letter_parts.specs.declared.headings.Marking.TheVariants as markings
use Rattle.pec_letter_facts.specs.Certifying.{ArePrintable, name_of}
use Rattle.pec_letter_facts.specs.Questions.{marking_of}
use Rattle.pec_letter_facts.specs.ReadBack.{CanBeHeaded, IsReadBack, IsSubject, IsWholeLine}
use Rattle.pec_receipts.proofs.AgainLemmas.{Known, Passing, none_acknowledged, seen_back}
use Rattle.pec_receipts.proofs.CauseLemmas.{HavePlaces}
use Rattle.pec_receipts.proofs.StandLemmas.{Values, WordStands, addressee_lower, heading_stands, row_stands, word_stands}
use Rattle.pec_receipts.specs.Kinds.{Row, Said, row_of}
use Rattle.pec_receipts.specs.Receipts.{CanBeGiven, IsCertifying, IsReceipt, IsReceiptBy, has_address, marked_wish, message_in, place_among, receipt_certificate, receipt_contents, receipt_heading}
use Rattle.pec_receipts.specs.Seen.{reply_of, seen_again, seen_of}
use Rattle.pec_receipts.specs.SeenReading.{seen_by, seen_in, view}
use Rattle.pec_receipts.specs.declared.reading.ReceiptView.{ReceiptView}
use Rattle.pec_receipts.specs.declared.receipts.Receipt.{Receipt}

-- what the laws of the crates below say
pub record Laws (seals : Seals) : Type 0 where
  pub values : Values
  pub named : (providers : List Provider) (id : Id) → IsLawful providers → id.provider < length providers → AllPrintable (name_of providers id)
  pub short : (providers : List Provider) (id : Id) → IsLawful providers → id.provider < length providers → length (name_of providers id) ≤ 248
  pub service : (providers : List Provider) (provider : ℕ) → IsLawful providers → provider < length providers → IsLowerAddress (service_at (first_domain providers provider))
  pub clock : (issuer : Kept) (moment : ℕ) → moment < END_OF_TIME → IsStamp (stamp_of issuer.zone moment)
  pub back : (seals : Seals) (provider : ℕ) (heading : Heading) (contents : Contents) (cert : CertData) (certificate text : Bytes)
      → CanBeHeaded heading → contents.certificate ≡ Some certificate → IsCert cert certificate → IsLetterText seals provider heading (parts_of contents) text
      → (letter : Letter) × (IsLetter seals text letter × IsReadBack provider heading contents.message cert letter)
  pub heads : (text : Bytes) → TellsExactly (IsHeaded seals text) (IsUnheaded seals text) (headed_of seals text)
  pub letters : (read : Headed) → TellsExactly (IsLetterIn read) (IsUnreadIn read) (letter_in read)
  pub places : HavePlaces
  pub passing : (providers : List Provider) → IsLawful providers → Passing providers

-- ---- places

place_below : (address : Bytes) (all : List Recipient) → length all < 2 ^ 64 → (found : Option ℕ) → position (has_address address) all ≡ found
    → IfSome found (λ k. k < 2 ^ 64)
place_below address all few None e = tt
place_below address [] few (Some k) e = absurd cc
place_below address (r ∷ all) few (Some k) e =
    let below : k < length (r ∷ all) = (position-Some (has_address address) (r ∷ all) k r e).0 in omega arith

pub place_small : (all : List Recipient) (recipient : Option Bytes) → length all < 2 ^ 64 → IfSome (option_and_then (place_among all) recipient) (λ k. k < 2 ^ 64)
unfolding place_among
place_small all None few = tt
place_small all (Some address) few = place_below address all few (position (has_address address) all) refl

-- ---- subjects

pub subject_right : (subject : Option Bytes) → IfSome subject AllPrintable → IfSome subject (λ s. length s ≤ 900) → IfSome subject IsSubject
subject_right None p s = tt
subject_right (Some subject) p s = record { printable = p; short = s }

-- ---- providers

-- the provider that is kept at a number is the directory's
provider_at : (kept : List Kept) (n : ℕ) (issuer : Kept) → slice_get kept n ≡ Some issuer → slice_get (providers_of kept) n ≡ Some issuer.provider
provider_at kept n issuer e = slice_get-map (λ (one : Kept). one.provider) kept n ∙ ap (option_map (λ (one : Kept). one.provider)) e

-- ---- texts

-- a letter that passes the table is what is seen of its text
seen_through : (seals : Seals) → Laws seals → (providers : List Provider) (text : Bytes) (letter : Letter) (word : Bytes) (seen : ReceiptView)
    → IsLetter seals text letter → marking_of letter.head ≡ Some (markings.Receipt, word) → seen_of providers letter ≡ Ok seen
    → view seals providers text ≡ Ok seen
unfolding view seen_in
seen_through seals laws providers text letter word seen is marked e =
    let read = is.0
    in let head : first_value (marking_name markings.Reply) letter.head ≡ None = none_acknowledged letter.head markings.Receipt word refl marked
    in let reply : reply_of read ≡ None = ap (first_value (marking_name markings.Reply)) (sym is.1.1.head_is) ∙ head
    in ap (λ (r : Result Headed LetterFault). r >>= seen_in providers) (((laws.heads text).value read).1 is.1.0)
    ∙ ap (seen_by providers read) reply
    ∙ ap (λ (r : Result Letter LetterFault). r >>= seen_of providers) (((laws.letters read).value letter).1 is.1.1) ∙ e

pub moment_same : (issuer : Kept) (moment : ℕ) → (stamp_of issuer.zone moment).moment ≡ moment
unfolding stamp_of
moment_same issuer moment = refl

word_of : (kind : Kind) (said : Said) → (row_of kind).said ≡ Some said → IsWholeLine said.word
word_of kind said e = subst WordStands e (word_stands kind)

by_said : (seals : Seals) (kept : List Kept) (r : Receipt) (original text : Bytes) (row : Row) (found : Option Said) (said : Said) → found ≡ Some said
    → IsReceiptBy seals kept r original row found text → IsCertifying seals kept r original row said text
by_said seals kept r original text row found said e is = subst (λ s. IsReceiptBy seals kept r original row s text) e is

-- What is seen of a receipt that certifies something is what it was composed of.
pub certified_is_seen : (seals : Seals) → Laws seals → (kept : List Kept) (r : Receipt) (said : Said) (original text : Bytes)
    → IsLawful (providers_of kept) → CanBeGiven (providers_of kept) r → ArePrintable r.facts → r.id.number < MESSAGES → r.moment < END_OF_TIME
    → length r.facts.recipients < 2 ^ 64 → (row_of r.kind).said ≡ Some said → IsReceipt seals kept r original text
    → view seals (providers_of kept) text ≡ Ok (seen_again r)
unfolding receipt_heading
certified_is_seen seals laws kept r said original text lawful given facts below before few says is =
    let providers = providers_of kept
    in let row = row_of r.kind
    in let it : IsCertifying seals kept r original row said text = by_said seals kept r original text row row.said said says is
    in let issuer = it.issuer
    in let stamp = stamp_of issuer.zone r.moment
    in let made = it.composed
    in let sixteen : length providers ≤ 16 = lawful.few
    in let stands : CanBeHeaded (receipt_heading providers r stamp row said) =
    heading_stands laws.values providers r stamp row markings.Receipt said.word said.flagged (marked_wish r said) (word_of r.kind said says)
    (row_stands r.kind) (laws.named providers r.id lawful given.provider_is) (laws.short providers r.id lawful given.provider_is)
    (laws.service providers r.by lawful given.by_is) (omega (arith, given.provider_is)) (place_small r.facts.recipients r.recipient few)
    (laws.clock issuer r.moment before) (addressee_lower providers r row.to lawful facts)
    (subject_right r.facts.subject facts.subject given.subject)
    in let back = laws.back seals r.by (receipt_heading providers r stamp row said)
    (receipt_contents providers issuer.provider.name r stamp row said original made.certificate)
    (receipt_certificate providers issuer.provider.name r stamp row said) made.certificate text stands refl made.certificate_is made.text_is
    in let known : Known providers r issuer.provider = record {
      within = given.provider_is;
      below = below;
      issuer_is = provider_at kept r.by issuer it.issuer_is;
      home = given.home;
      named = given.named;
      own = given.own;
    }
    in seen_through seals laws providers text back.0 said.word (seen_again r) back.1.0 back.1.1.found.marking
    (seen_back laws.places providers r issuer.provider stamp said (message_in r said original) back.0 (laws.passing providers lawful) known says
    (moment_same issuer r.moment) back.1.1)
