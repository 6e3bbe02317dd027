-- What is seen of an acknowledgement that was composed is what it was composed of: its head says everything.
use Rattle.std.proofs.Common.{◌≡◌, ℕ, zero, suc, ◌+◌, ◌-◌, ◌<◌, ◌≤◌, ◌^◌, ◌==◌, Bool, true, false, ◌&&◌, cond, nat_le, List, [], ◌∷◌, ◌++◌, map, length, take, drop, get_or, slice_index, Option, None, Some, option_map, Result, Ok, codes, refl, ap, sym, ◌∙◌, subst, arith, append_assoc, length-append}
use Rattle.std.proofs.Math.Seq.{drop-append_seam, get_or-append_seam, take-append_seam}
use Rattle.std.proofs.lemmas.Bool.{le-leb}
use Rattle.std.proofs.lemmas.List.{append-nil}
use Rattle.std.proofs.lemmas.List.Quantifiers.{position-Some}
use Rattle.std.proofs.lemmas.Option.{same_Some}
use Rattle.std.specs.Cmp.Lexicographic.{bytes_decides}
use Rattle.std.specs.List.{AllByRecursion, concat}
use Rattle.std.specs.Option.{option_and_then}
use Rattle.std.specs.Str.{bytes_eq}
use Rattle.pec_types.specs.Address.{IsAddressFault, IsLowerAddress, IsReadAs}
use Rattle.pec_types.specs.AddressReading.{address_of}
use Rattle.pec_types.specs.Answers.{TellsExactly}
use Rattle.pec_types.specs.Bytes.{Bytes, Path, after_front}
use Rattle.pec_types.specs.Message.{Id}
use Rattle.pec_types.specs.Results.{◌>>=◌}
use Rattle.pec_types.specs.Text.{AllPrintable}
use Rattle.pec_types.specs.Words.{id_text}
use Rattle.pec_types.specs.declared.disputes.LetterFault.{LetterFault}
use Rattle.pec_types.specs.declared.messages.Recipient.{Recipient}
use Rattle.pec_types.specs.declared.messages.TheConstants.{MESSAGES}
use Rattle.pec_types.specs.declared.moments.TheConstants.{END_OF_TIME}
use Rattle.pec_kinds.specs.declared.receipts.Kind.{Kind}
use Rattle.pec_kinds.specs.declared.receipts.Kind.TheVariants as kinds
use Rattle.pec_heads.specs.Bytes.{IsTrimmed, begins_blank, ends_blank, trimmed}
use Rattle.pec_heads.specs.FactsOfHeads.{first_value}
use Rattle.pec_heads.specs.Heads.{IsHead, NamedValue}
use Rattle.pec_heads.specs.WrittenHeads.{AllStand, Written, addresses_text, head_text, list_field, shown, with_head}
use Rattle.pec_cert.specs.HeaderDate.{header_date_of}
use Rattle.pec_cert.specs.HeaderDateReading.{header_stamp_of}
use Rattle.pec_cert.specs.Stamp.{Instant, IsStamp}
use Rattle.pec_cert.specs.Zone.{stamp_of}
use Rattle.pec_directory.specs.Directory.{Kept, Provider, first_domain, providers_of}
use Rattle.pec_directory.specs.Fields.{service_at}
use Rattle.pec_directory.specs.Ids.{id_of}
use Rattle.pec_directory.specs.Lawful.{IsLawful}
use Rattle.pec_seal.specs.Seals.{Seals}
use Rattle.pec_letter_parts.specs.Headings.{Heading, angled, heading_fields, marking_name}
use Rattle.pec_letter_parts.specs.Letters.{Headed, IsHeaded, IsUnheaded}
use Rattle.pec_letter_parts.specs.LettersReading.{headed_of}
use Rattle.pec_letter_parts.specs.declared.headings.Marking.{Marking}
use Rattle.pec_letter_parts.specs.declared.headings.Marking.TheVariants as markings
use Rattle.pec_letter_facts.specs.Certifying.{ArePrintable, name_of}
use Rattle.pec_letter_facts.specs.Questions.{marked_or, marking_of}
use Rattle.pec_letter_facts.specs.ReadBack.{CanBeHeaded, IsFound, IsWholeLine}
use Rattle.pec_receipts.proofs.AgainLemmas.{is_reply}
use Rattle.pec_receipts.proofs.LawLemmas.{moment_same, place_small, subject_right}
use Rattle.pec_receipts.proofs.StandLemmas.{Values, addressee_lower, heading_stands, row_stands}
use Rattle.pec_receipts.specs.Kinds.{row_of}
use Rattle.pec_receipts.specs.Receipts.{CanBeGiven, IsAcknowledging, IsNamed, IsReceipt, IsReceiptBy, ack_body, ack_heading, ack_value, has_address, or_nothing, place_among}
use Rattle.pec_receipts.specs.Seen.{acknowledged, moment_acknowledged, name_acknowledged, reply_of, seen_again, unangled}
use Rattle.pec_receipts.specs.SeenReading.{seen_by, seen_in, view}
use Rattle.pec_receipts.specs.declared.kinds.About.TheVariants as about
use Rattle.pec_receipts.specs.declared.reading.ReceiptView.{ReceiptView}
use Rattle.pec_receipts.specs.declared.receipts.Receipt.{Receipt}

-- what the laws of the crates below say
pub record AckLaws (seals : Seals) : Type 0 where
  pub values : Values
  pub named : (providers : List Provider) (id : Id) → IsLawful providers → id.provider < length providers → AllPrintable (name_of providers id)
  pub short : (providers : List Provider) (id : Id) → IsLawful providers → id.provider < length providers → length (name_of providers id) ≤ 248
  pub service : (providers : List Provider) (provider : ℕ) → IsLawful providers → provider < length providers → IsLowerAddress (service_at (first_domain providers provider))
  pub clock : (issuer : Kept) (moment : ℕ) → moment < END_OF_TIME → IsStamp (stamp_of issuer.zone moment)
  pub heads : (text : Bytes) → TellsExactly (IsHeaded seals text) (IsUnheaded seals text) (headed_of seals text)
  pub heading : (heading : Heading) → CanBeHeaded heading → AllStand (heading_fields heading) × IsFound heading (map shown (heading_fields heading))
  pub written : (fields : List Written) (body : Bytes) → AllStand fields → IsHead (with_head fields body) (map shown fields) (length (head_text fields) + 2)
  pub listed : (name : Bytes) (addresses : Path) → AllByRecursion IsLowerAddress addresses
      → shown (list_field name addresses) ≡ record { name = name; value = addresses_text addresses }
  pub cut : (bytes : Bytes) → IsTrimmed bytes (trimmed bytes)
  pub told : (text : Bytes) → TellsExactly (IsReadAs text) (IsAddressFault text) (address_of text)
  pub names : (providers : List Provider) (id : Id) → IsLawful providers → id.provider < length providers → id.number < MESSAGES → id_of providers (name_of providers id) ≡ Some id
  pub dated : (stamp : Instant) → IsStamp stamp → header_stamp_of (header_date_of stamp) ≡ Some stamp

pick : (test : Bool) (found : Bytes) → test ≡ true → cond test (Some found) None ≡ Some found
pick true found e = refl
pick false found e = absurd cc

-- ---- the name of the message

unangled_is : (name : Bytes) → unangled (angled name) ≡ Some name
unfolding unangled
unangled_is name =
    let value = angled name
    in let long : length value ≡ length name + 2 = omega (arith, length-append name (codes ">"))
    in let enough : nat_le 2 (length value) ≡ true = le-leb 2 (length value) (omega (arith, long))
    in let place : length value - 1 ≡ length (60 ∷ name) = omega (arith, long)
    in let last : (slice_index value (length value - 1) == 62) ≡ true =
    ap (λ n. slice_index value n == 62) place ∙ ap (λ b. b == 62) (get_or-append_seam (60 ∷ name) 62 [] 0)
    in let right : (nat_le 2 (length value) && slice_index value 0 == 60 && slice_index value (length value - 1) == 62) ≡ true = rw (enough, last) refl
    in let inner : length value - 2 ≡ length name = omega (arith, long)
    in pick (nat_le 2 (length value) && slice_index value 0 == 60 && slice_index value (length value - 1) == 62) (take (length value - 2) (drop 1 value)) right
    ∙ ap (λ n. Some (take n (drop 1 value))) inner ∙ ap Some (take-append_seam name (codes ">"))

name_right : (head : List NamedValue) (name : Bytes) → first_value (codes "X-Riferimento-Message-ID") head ≡ Some (angled name) → name_acknowledged head ≡ Some name
unfolding name_acknowledged
name_right head name e = ap (option_and_then unangled) e ∙ unangled_is name

-- ---- the value

after_is : (front back : Bytes) → after_front front (front ++ back) ≡ Some back
unfolding after_front
after_is front back =
    let same : bytes_eq (take (length front) (front ++ back)) front ≡ true = (bytes_decides (take (length front) (front ++ back)) front).1 (take-append_seam front back)
    in pick (bytes_eq (take (length front) (front ++ back)) front) (drop (length front) (front ++ back)) same ∙ ap Some (drop-append_seam front back)

value_parts : (name address : Bytes) → concat (name ∷ codes " " ∷ address ∷ []) ≡ (name ++ codes " ") ++ address
value_parts name address = ap (λ x. name ++ (codes " " ++ x)) (append-nil address) ∙ sym (append_assoc name (codes " ") address)

value_is : (providers : List Provider) (r : Receipt) (address : Bytes) → r.recipient ≡ Some address
    → ack_value providers r ≡ (name_of providers r.id ++ codes " ") ++ address
unfolding ack_value
value_is providers r address e =
    ap (λ a. concat (name_of providers r.id ∷ codes " " ∷ or_nothing a ∷ [])) e ∙ value_parts (name_of providers r.id) address

ends_behind : (a : Bytes) (c : ℕ) (cs : Bytes) → ends_blank (a ++ c ∷ cs) ≡ ends_blank (c ∷ cs)
ends_behind [] c cs = refl
ends_behind (x ∷ []) c cs = refl
ends_behind (x ∷ y ∷ a) c cs = ends_behind (y ∷ a) c cs

name_begins : (domain rest : Bytes) (number : ℕ) → begins_blank (id_text domain number ++ rest) ≡ false
unfolding id_text
name_begins domain rest number = refl

-- ---- the recipient

lower_at : (address : Bytes) (all : List Recipient) (place : ℕ) (d : Recipient) → AllByRecursion (λ (r : Recipient). IsLowerAddress r.address) all
    → place < length all → has_address address (get_or all place d) ≡ true → IsLowerAddress address
lower_at address [] place d lower below e = absurd (omega arith)
lower_at address (r ∷ all) zero d lower below e = subst IsLowerAddress ((bytes_decides r.address address).0 e) lower.0
lower_at address (r ∷ all) (suc place) d lower below e = lower_at address all place d lower.1 (omega arith) e

lower_among : (address : Bytes) (all : List Recipient) (place : ℕ) → AllByRecursion (λ (r : Recipient). IsLowerAddress r.address) all
    → place_among all address ≡ Some place → IsLowerAddress address
unfolding place_among
lower_among address [] place lower e = absurd cc
lower_among address (r ∷ all) place lower e =
    let found = position-Some (has_address address) (r ∷ all) place r e
    in lower_at address (r ∷ all) place r lower found.0 found.1

-- the recipient that is named, an address in lower case
pub named_one : (providers : List Provider) (r : Receipt) (recipient : Option Bytes) → AllByRecursion (λ (one : Recipient). IsLowerAddress one.address) r.facts.recipients
    → r.recipient ≡ recipient → IsNamed providers r about.Recipient recipient → (address : Bytes) × ((r.recipient ≡ Some address) × IsLowerAddress address)
named_one providers r None lower e named = absurd named
named_one providers r (Some address) lower e named = (address, (e, lower_among address r.facts.recipients named.1.0 lower named.1.1))

module _ (seals : Seals) (laws : AckLaws seals) where
  -- an address is read of a field as it is written, so no blank ends it
  address_ends : (front address : Bytes) → IsLowerAddress address → ends_blank (front ++ address) ≡ false
  address_ends front address lower =
      let whole : trimmed (address ++ []) ≡ address = ap (λ (v : NamedValue). v.value) (laws.listed (codes "To") (address ∷ []) (lower, tt))
      in let ends : ends_blank (trimmed (address ++ [])) ≡ false = (laws.cut (address ++ [])).ends
      in let parts : address ≡ lower.address.local ++ 64 ∷ lower.address.domain = lower.address.parts
      in ap (λ a. ends_blank (front ++ a)) parts ∙ ap ends_blank (sym (append_assoc front lower.address.local (64 ∷ lower.address.domain)))
      ∙ ends_behind (front ++ lower.address.local) 64 lower.address.domain ∙ sym (ends_behind lower.address.local 64 lower.address.domain)
      ∙ ap ends_blank (sym parts) ∙ ap ends_blank (sym whole) ∙ ends

  value_whole : (providers : List Provider) (r : Receipt) (address : Bytes) → r.recipient ≡ Some address → IsLowerAddress address
      → AllPrintable (name_of providers r.id) → length (name_of providers r.id) ≤ 248 → IsWholeLine (ack_value providers r)
  value_whole providers r address e lower printable short =
      let name = name_of providers r.id
      in let shows : AllPrintable address × (length address ≤ 254) = laws.values.address address lower
      in subst IsWholeLine (sym (value_is providers r address e))
      (laws.values.text ((name ++ codes " ") ++ address) (record {
        printable = laws.values.joined (name ++ codes " ") address (laws.values.joined name (codes " ") printable refl) shows.0;
        some = omega (arith, length-append (name ++ codes " ") address, length-append name (codes " "));
        short = omega (arith, short, shows.1, length-append (name ++ codes " ") address, length-append name (codes " "));
        begins = ap begins_blank (append_assoc name (codes " ") address) ∙ name_begins (first_domain providers r.id.provider) (codes " " ++ address) r.id.number;
        ends = address_ends (name ++ codes " ") address lower;
      }))

  address_right : (address : Bytes) → IsLowerAddress address → address_of address ≡ Ok address
  address_right address lower = ((laws.told address).value address).1 (lower.address, sym lower.lower)

-- ---- the moment

moment_right : (head : List NamedValue) (stamp : Instant) → first_value (codes "Date") head ≡ Some (header_date_of stamp)
    → header_stamp_of (header_date_of stamp) ≡ Some stamp → moment_acknowledged head ≡ Some stamp.moment
unfolding moment_acknowledged
moment_right head stamp e f =
    ap (λ v. option_map (λ (s : Instant). s.moment) (option_and_then header_stamp_of v)) e ∙ ap (option_map (λ (s : Instant). s.moment)) f

-- ---- the table

acknowledged_right : (providers : List Provider) (read : Headed) (value name rest address : Bytes) (id : Id) (moment : ℕ) → name_acknowledged read.head ≡ Some name
    → id_of providers name ≡ Some id → after_front (name ++ codes " ") value ≡ Some rest → address_of rest ≡ Ok address
    → moment_acknowledged read.head ≡ Some moment
    → acknowledged providers read value ≡ Ok (record { kind = kinds.Ack; id = id; by = read.sealer; moment = moment; recipient = Some address })
unfolding acknowledged
acknowledged_right providers read value name rest address id moment a b c d e = rw (a, b, c, d, e) refl

-- ---- the marking

reply_in : (reply receipt transport : Option Bytes) (word : Bytes)
    → marked_or markings.Reply reply (marked_or markings.Receipt receipt (marked_or markings.Transport transport None)) ≡ Some (markings.Reply, word)
    → reply ≡ Some word
reply_in (Some value) receipt transport word e = ap (λ (x : Marking × Bytes). Some x.1) (same_Some (markings.Reply, value) (markings.Reply, word) e)
reply_in None (Some kind) transport word e =
    let never : false ≡ true = ap (λ (x : Marking × Bytes). is_reply x.0) (same_Some (markings.Receipt, kind) (markings.Reply, word) e)
    in absurd cc
reply_in None None (Some kind) word e =
    let never : false ≡ true = ap (λ (x : Marking × Bytes). is_reply x.0) (same_Some (markings.Transport, kind) (markings.Reply, word) e)
    in absurd cc
reply_in None None None word e = absurd cc

replied : (head : List NamedValue) (word : Bytes) → marking_of head ≡ Some (markings.Reply, word) → first_value (marking_name markings.Reply) head ≡ Some word
unfolding marking_of
replied head word e =
    reply_in (first_value (marking_name markings.Reply) head) (first_value (marking_name markings.Receipt) head)
    (first_value (marking_name markings.Transport) head) word e

-- ---- texts

about_ack : (kind : Kind) → kind ≡ kinds.Ack → (row_of kind).about ≡ about.Recipient
unfolding row_of
about_ack kind e = ap (λ k. (row_of k).about) e

said_ack : (kind : Kind) → kind ≡ kinds.Ack → (row_of kind).said ≡ None
unfolding row_of
said_ack kind e = ap (λ k. (row_of k).said) e

abbrev as_seen : ReceiptView → Result ReceiptView LetterFault
as_seen seen = Ok seen

-- an acknowledgement that passes the table is what is seen of its text
through : (seals : Seals) → AckLaws seals → (providers : List Provider) (text : Bytes) (read : Headed) (value : Bytes) (seen : ReceiptView)
    → IsHeaded seals text read → reply_of read ≡ Some value → acknowledged providers read value ≡ Ok seen → view seals providers text ≡ Ok seen
unfolding view seen_in
through seals laws providers text read value seen headed reply e =
    ap (λ (given : Result Headed LetterFault). given >>= seen_in providers) (((laws.heads text).value read).1 headed)
    ∙ ap (seen_by providers read) reply ∙ e

said_again : (r : Receipt) (moment : ℕ) (address : Bytes) → moment ≡ r.moment → r.kind ≡ kinds.Ack → r.recipient ≡ Some address
    → as_seen (record { kind = kinds.Ack; id = r.id; by = r.by; moment = moment; recipient = Some address }) ≡ Ok (seen_again r)
said_again r moment address m k a =
    ap (λ x. as_seen (record { kind = kinds.Ack; id = r.id; by = r.by; moment = x; recipient = Some address })) m
    ∙ ap (λ x. as_seen (record { kind = x; id = r.id; by = r.by; moment = r.moment; recipient = Some address })) (sym k)
    ∙ ap (λ x. as_seen (record { kind = r.kind; id = r.id; by = r.by; moment = r.moment; recipient = x })) (sym a)

-- What is seen of an acknowledgement is what it was composed of.
pub acknowledged_is_seen : (seals : Seals) → AckLaws seals → (kept : List Kept) (r : Receipt) (original text : Bytes)
    → IsLawful (providers_of kept) → CanBeGiven (providers_of kept) r → ArePrintable r.facts → r.id.number < MESSAGES → r.moment < END_OF_TIME
    → length r.facts.recipients < 2 ^ 64 → r.kind ≡ kinds.Ack → IsReceipt seals kept r original text
    → view seals (providers_of kept) text ≡ Ok (seen_again r)
unfolding ack_heading
acknowledged_is_seen seals laws kept r original text lawful given facts below before few is_ack is =
    let providers = providers_of kept
    in let row = row_of r.kind
    in let it : IsAcknowledging seals kept r row text = subst (λ s. IsReceiptBy seals kept r original row s text) (said_ack r.kind is_ack) is
    in let issuer = it.issuer
    in let stamp = stamp_of issuer.zone r.moment
    in let name = name_of providers r.id
    in let sixteen : length providers ≤ 16 = lawful.few
    in let one = named_one providers r r.recipient facts.recipients refl (subst (λ a. IsNamed providers r a r.recipient) (about_ack r.kind is_ack) given.named)
    in let address = one.0
    in let named = laws.named providers r.id lawful given.provider_is
    in let short = laws.short providers r.id lawful given.provider_is
    in let clock : IsStamp stamp = laws.clock issuer r.moment before
    in let value = ack_value providers r
    in let heading = ack_heading providers r stamp row
    in let stands : CanBeHeaded heading =
    heading_stands laws.values providers r stamp row markings.Reply value false None (value_whole seals laws providers r address one.1.0 one.1.1 named short)
    (row_stands r.kind) named short (laws.service providers r.by lawful given.by_is) (omega (arith, given.provider_is))
    (place_small r.facts.recipients r.recipient few) clock (addressee_lower providers r row.to lawful facts)
    (subject_right r.facts.subject facts.subject given.subject)
    in let fields = heading_fields heading
    in let found = laws.heading heading stands
    in let bytes = with_head fields ack_body
    in let read : Headed = record { sealer = r.by; head = map shown fields; body = drop (length (head_text fields) + 2) bytes }
    in let headed : IsHeaded seals text read = record {
      bytes = bytes;
      place = length (head_text fields) + 2;
      opens = it.text_is;
      head_is = laws.written fields ack_body found.0;
      body_is = refl;
    }
    in let reply : reply_of read ≡ Some value = replied read.head value found.1.marking
    in let rest : after_front (name ++ codes " ") value ≡ Some address =
    ap (after_front (name ++ codes " ")) (value_is providers r address one.1.0) ∙ after_is (name ++ codes " ") address
    in let seen : acknowledged providers read value ≡ Ok (record { kind = kinds.Ack; id = r.id; by = r.by; moment = stamp.moment; recipient = Some address }) =
    acknowledged_right providers read value name address address r.id stamp.moment (name_right read.head name found.1.reference)
    (laws.names providers r.id lawful given.provider_is below) rest (address_right seals laws address one.1.1)
    (moment_right read.head stamp found.1.date (laws.dated stamp clock))
    in through seals laws providers text read value (seen_again r) headed reply
    (seen ∙ said_again r stamp.moment address (moment_same issuer r.moment) is_ack one.1.0)
