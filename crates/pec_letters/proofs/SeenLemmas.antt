-- The envelope that was composed passes the table, and an anomaly certifies nothing.
use Rattle.std.proofs.Common.{◌≡◌, ℕ, ◌<◌, ◌==◌, Bool, true, false, ◌&&◌, cond, List, [], ◌∷◌, ◌++◌, map, length, slice_get, Option, None, Some, option_map, Result, Ok, Err, codes, eq-eqb, refl, ap, sym, ◌∙◌, subst, arith, inr, ◌↔◌}
use Rattle.std.proofs.lemmas.Bool.{and_from}
use Rattle.std.proofs.lemmas.List.{map-append}
use Rattle.std.specs.Cmp.Lexicographic.{bytes_decides}
use Rattle.std.specs.List.{AllByRecursion, join_with_byte}
use Rattle.std.specs.Option.{is_none, option_and_then}
use Rattle.std.specs.Result.{result_ok}
use Rattle.std.specs.Str.{bytes_eq}
use Rattle.pec_types.specs.Address.{IsLowerAddress}
use Rattle.pec_types.specs.Bytes.{Bytes, Path, comma}
use Rattle.pec_types.specs.Message.{Id}
use Rattle.pec_types.specs.Words.{wish_word}
use Rattle.pec_types.specs.declared.messages.Class.{Class}
use Rattle.pec_types.specs.declared.messages.Class.TheVariants.{Primary, Copy}
use Rattle.pec_types.specs.declared.messages.Facts.{Facts}
use Rattle.pec_types.specs.declared.messages.Recipient.{Recipient}
use Rattle.pec_types.specs.declared.messages.TheConstants.{MESSAGES}
use Rattle.pec_types.specs.declared.messages.Wish.{Wish}
use Rattle.pec_heads.specs.BoundedFacts.{AreBounded, addresses_of, addresses_where, is_copy, is_primary}
use Rattle.pec_heads.specs.FactsOfHeads.{first_value, recipient}
use Rattle.pec_heads.specs.FactsReading.{facts_of, listed}
use Rattle.pec_heads.specs.HeadReading.{read_of}
use Rattle.pec_heads.specs.Heads.{NamedValue, values_of}
use Rattle.pec_heads.specs.ListReading.{list_of}
use Rattle.pec_heads.specs.WrittenHeads.{addresses_text}
use Rattle.pec_heads.specs.declared.faults.HeadFault.{HeadFault}
use Rattle.pec_cert.specs.HeaderDate.{header_date_of}
use Rattle.pec_cert.specs.Stamp.{Instant}
use Rattle.pec_cert.specs.declared.certificates.CertData.{CertData}
use Rattle.pec_cert.specs.declared.certificates.CertRecipient.{CertRecipient}
use Rattle.pec_directory.specs.Directory.{Provider, home_of}
use Rattle.pec_directory.specs.Lawful.{IsLawful}
use Rattle.pec_letter_parts.specs.Contents.{message_name}
use Rattle.pec_letter_parts.specs.Headings.{angled}
use Rattle.pec_letter_parts.specs.Letters.{Letter, body_of}
use Rattle.pec_letter_parts.specs.declared.headings.Marking.{Marking}
use Rattle.pec_letter_parts.specs.declared.headings.Marking.TheVariants.{Transport}
use Rattle.pec_letter_facts.specs.Certifying.{certificate_of, name_of, typed}
use Rattle.pec_letter_facts.specs.Questions.{are_typed, id_named, is_dated, is_from_home, is_sealed_by_issuer, is_wish_marked, marking_of}
use Rattle.pec_letter_facts.specs.ReadBack.{IsReadBack, listed_values}
use Rattle.pec_letters.specs.Envelopes.{envelope_certificate, envelope_heading, envelope_word}
use Rattle.pec_letters.specs.Seen.{Seen, addresses_in, are_recipients, certifies_envelope, dated, facts_in, facts_read, is_envelope, is_marked, is_named_path, is_path, is_sealed_at_home, is_wish, is_wished, named_in, seen_of, with_sender}

same_text : (text : Bytes) → bytes_eq text text ≡ true
same_text text = (bytes_decides text text).1 refl

-- ---- the table

-- the last row stands behind all others
pub passes_to_date : (providers : List Provider) (letter : Letter) (original : Bytes) (id : Id) (facts : Facts)
    → is_envelope letter ≡ true → body_of message_name letter.parts ≡ Some original → id_named providers (codes "Message-ID") letter ≡ Some id
    → is_sealed_at_home providers id letter ≡ true → is_from_home providers id letter ≡ true → facts_in original letter ≡ Some facts
    → are_recipients providers facts letter ≡ true → is_wished facts letter ≡ true
    → seen_of providers letter ≡ dated letter (record { id = id; moment = letter.cert.stamp.moment; facts = facts; original = original })
unfolding seen_of
passes_to_date providers letter original id facts a b c d e f g h = rw (a, b, c, d, e, f, g, h) refl

dated_right : (letter : Letter) (seen : Seen) → is_dated letter ≡ true → dated letter seen ≡ Ok seen
dated_right letter seen i = rw i refl

-- ---- the questions of envelopes

marked : (letter : Letter) (cert : CertData) → letter.cert ≡ cert → marking_of letter.head ≡ Some (Transport, envelope_word) → certifies_envelope cert ≡ true → is_envelope letter ≡ true
unfolding is_envelope
marked letter cert same e certifies = ap (λ (m : Option (Marking × Bytes)). is_marked m && certifies_envelope letter.cert) e ∙ ap certifies_envelope same ∙ certifies

sealed_at_home : (providers : List Provider) (id : Id) (letter : Letter) → is_sealed_by_issuer providers letter ≡ true → letter.sealer ≡ id.provider → is_sealed_at_home providers id letter ≡ true
unfolding is_sealed_at_home
sealed_at_home providers id letter e same = and_from (is_sealed_by_issuer providers letter) (letter.sealer == id.provider) e (eq-eqb letter.sealer id.provider same)

facts_found : (original : Bytes) (fields : List NamedValue) (place : ℕ) (facts : Facts) (letter : Letter)
    → read_of original ≡ Ok (fields, place) → facts_of fields ≡ Some facts → letter.cert.sender ≡ facts.sender → facts_in original letter ≡ Some facts
unfolding facts_in
facts_found original fields place facts letter e f same =
    ap (λ (r : Result (List NamedValue × ℕ) HeadFault). with_sender letter.cert.sender (facts_read (result_ok r))) e
    ∙ ap (with_sender letter.cert.sender) f
    ∙ ap (λ (sender : Bytes). cond (bytes_eq facts.sender sender) (Some facts) None) same
    ∙ ap (λ (t : Bool). cond t (Some facts) None) (same_text facts.sender)

same_path : (path : Path) → is_path path path ≡ true
same_path [] = refl
same_path (address ∷ path) = and_from (bytes_eq address address) (is_path path path) (same_text address) (same_path path)

certified_path : (providers : List Provider) (all : List Recipient) → map (λ (r : CertRecipient). r.address) (map (typed providers) all) ≡ addresses_of all
certified_path providers [] = refl
certified_path providers (r ∷ all) = ap (λ (path : Path). r.address ∷ path) (certified_path providers all)

class_path : (class : Class) (path : Path) → addresses_of (map (recipient class) path) ≡ path
class_path class [] = refl
class_path class (address ∷ path) = ap (λ (rest : Path). address ∷ rest) (class_path class path)

in_order : (all : List Recipient) → all ≡ map (recipient Primary) (addresses_where is_primary all) ++ map (recipient Copy) (addresses_where is_copy all)
    → addresses_of all ≡ addresses_where is_primary all ++ addresses_where is_copy all
in_order all e =
    let p = addresses_where is_primary all
    in let c = addresses_where is_copy all
    in ap addresses_of e ∙ map-append (λ (r : Recipient). r.address) (map (recipient Primary) p) (map (recipient Copy) c)
    ∙ ap (λ (path : Path). path ++ addresses_of (map (recipient Copy) c)) (class_path Primary p) ∙ ap (λ (path : Path). p ++ path) (class_path Copy c)

-- what the laws of lists say of addresses that are joined
abbrev pub Again : Type 0
Again = (path : Path) → 0 < length path → AllByRecursion IsLowerAddress path → list_of (addresses_text path) ≡ Ok path

listed_again : Again → (name : Bytes) (head : List NamedValue) (path : Path) → AllByRecursion IsLowerAddress path → values_of name head ≡ listed_values path → addresses_in name head ≡ Some path
unfolding addresses_in
listed_again again name head [] lower e = ap (λ (values : List Bytes). cond (length values == 0) (Some []) (result_ok (list_of (join_with_byte comma values)))) e
listed_again again name head (address ∷ path) lower e =
    ap (λ (values : List Bytes). cond (length values == 0) (Some []) (result_ok (list_of (join_with_byte comma values)))) e
    ∙ ap result_ok (again (address ∷ path) (omega arith) lower)

named_again : (head : List NamedValue) (to copies : Path) → addresses_in (codes "To") head ≡ Some to → addresses_in (codes "Cc") head ≡ Some copies → named_in head ≡ Some (to ++ copies)
unfolding named_in
named_again head to copies e f =
    ap (option_and_then (λ (t : Path). option_map (λ (c : Path). t ++ c) (addresses_in (codes "Cc") head))) e ∙ ap (option_map (λ (c : Path). to ++ c)) f

lower_where : (test : Recipient → Bool) (all : List Recipient) → AllByRecursion (λ (r : Recipient). IsLowerAddress r.address) all → AllByRecursion IsLowerAddress (addresses_where test all)
lower_where test [] h = tt
lower_where test (r ∷ all) h = kept (test r) r.address (addresses_where test all) h.0 (lower_where test all h.1)
  where
    kept : (t : Bool) (address : Bytes) (rest : Path) → IsLowerAddress address → AllByRecursion IsLowerAddress rest → AllByRecursion IsLowerAddress (cond t (address ∷ rest) rest)
    kept true address rest a b = (a, b)
    kept false address rest a b = b

recipients_found : (providers : List Provider) (facts : Facts) (letter : Letter) → are_typed providers letter ≡ true → is_none letter.cert.delivered ≡ true
    → letter.cert.recipients ≡ map (typed providers) facts.recipients → named_in letter.head ≡ Some (addresses_of facts.recipients) → are_recipients providers facts letter ≡ true
unfolding are_recipients
recipients_found providers facts letter typed_right none same named =
    let path = addresses_of facts.recipients
    in let certified = map (λ (r : CertRecipient). r.address) letter.cert.recipients
    in and_from ((are_typed providers letter && is_none letter.cert.delivered) && is_path certified path) (is_named_path path (named_in letter.head))
    (and_from (are_typed providers letter && is_none letter.cert.delivered) (is_path certified path)
    (and_from (are_typed providers letter) (is_none letter.cert.delivered) typed_right none)
    (ap (λ (p : Path). is_path p path) (ap (map (λ (r : CertRecipient). r.address)) same ∙ certified_path providers facts.recipients) ∙ same_path path))
    (ap (is_named_path path) named ∙ same_path path)

wish_found : (facts : Facts) (letter : Letter) → letter.cert.wish ≡ Some facts.wish → is_wish_marked facts.wish letter.head ≡ true → is_wished facts letter ≡ true
unfolding is_wished
wish_found facts letter e m = and_from (is_wish facts.wish letter.cert.wish) (is_wish_marked facts.wish letter.head) (ap (is_wish facts.wish) e ∙ same_text (wish_word facts.wish)) m

-- ---- what was composed

-- what the law of questions says
pub record Passing (providers : List Provider) : Type 0 where
  pub id : (id : Id) (field : Bytes) (letter : Letter) → id.provider < length providers → id.number < MESSAGES → letter.cert.id ≡ name_of providers id
      → first_value field letter.head ≡ Some (angled (name_of providers id)) → id_named providers field letter ≡ Some id
  pub issuer : (issuer : Provider) (letter : Letter) → slice_get providers letter.sealer ≡ Some issuer → letter.cert.provider ≡ issuer.name → is_sealed_by_issuer providers letter ≡ true
  pub home : (id : Id) (letter : Letter) → home_of providers letter.cert.sender ≡ Some id.provider → is_from_home providers id letter ≡ true
  pub types : (recipients : List Recipient) (letter : Letter) → letter.cert.recipients ≡ map (typed providers) recipients → are_typed providers letter ≡ true
  pub wish : (wish : Wish) (head : List NamedValue) → first_value (codes "X-TipoRicevuta") head ≡ Some (wish_word wish) → is_wish_marked wish head ≡ true
  pub dated : (letter : Letter) → first_value (codes "Date") letter.head ≡ Some (header_date_of letter.cert.stamp) → is_dated letter ≡ true

-- what is known of a message whose envelope was composed
pub record Known (providers : List Provider) (issuer : Provider) (id : Id) (facts : Facts) (original : Bytes) : Type 0 where
  pub within : id.provider < length providers
  pub below : id.number < MESSAGES
  pub issuer_is : slice_get providers id.provider ≡ Some issuer
  pub home : home_of providers facts.sender ≡ Some id.provider
  pub fields : List NamedValue
  pub place : ℕ
  pub read : read_of original ≡ Ok (fields, place)
  pub facts_are : facts_of fields ≡ Some facts
  pub bounded : AreBounded facts
  pub order : facts.recipients ≡ map (recipient Primary) (addresses_where is_primary facts.recipients) ++ map (recipient Copy) (addresses_where is_copy facts.recipients)

pub seen_back : (providers : List Provider) (issuer : Provider) (id : Id) (stamp : Instant) (facts : Facts) (original : Bytes) (letter : Letter)
    → Passing providers → Again → Known providers issuer id facts original
    → IsReadBack id.provider (envelope_heading providers id stamp facts) (Some original) (envelope_certificate providers issuer.name id stamp facts) letter
    → seen_of providers letter ≡ Ok (record { id = id; moment = stamp.moment; facts = facts; original = original })
unfolding certificate_of envelope_heading
seen_back providers issuer id stamp facts original letter passing again known back =
    let cert = envelope_certificate providers issuer.name id stamp facts
    in let same : letter.cert ≡ cert = back.cert_is
    in let to = addresses_where is_primary facts.recipients
    in let copies = addresses_where is_copy facts.recipients
    in let named : named_in letter.head ≡ Some (addresses_of facts.recipients) =
    named_again letter.head to copies
    (listed_again again (codes "To") letter.head to (lower_where is_primary facts.recipients known.bounded.recipients) back.found.to)
    (listed_again again (codes "Cc") letter.head copies (lower_where is_copy facts.recipients known.bounded.recipients) back.found.copies)
    ∙ ap (λ (path : Path). Some path) (sym (in_order facts.recipients known.order))
    in let typed_are : letter.cert.recipients ≡ map (typed providers) facts.recipients = ap (λ (c : CertData). c.recipients) same
    in let stamped : letter.cert.stamp ≡ stamp = ap (λ (c : CertData). c.stamp) same
    in passes_to_date providers letter original id facts
    (marked letter cert same back.found.marking refl)
    back.message_is
    (passing.id id (codes "Message-ID") letter known.within known.below (ap (λ (c : CertData). c.id) same) back.found.name)
    (sealed_at_home providers id letter
    (passing.issuer issuer letter (ap (slice_get providers) back.sealer ∙ known.issuer_is) (ap (λ (c : CertData). c.provider) same)) back.sealer)
    (passing.home id letter (ap (λ (c : CertData). home_of providers c.sender) same ∙ known.home))
    (facts_found original known.fields known.place facts letter known.read known.facts_are (ap (λ (c : CertData). c.sender) same))
    (recipients_found providers facts letter (passing.types facts.recipients letter typed_are) (ap (λ (c : CertData). is_none c.delivered) same) typed_are named)
    (wish_found facts letter (ap (λ (c : CertData). c.wish) same) (passing.wish facts.wish letter.head back.found.wish))
    ∙ dated_right letter (record { id = id; moment = letter.cert.stamp.moment; facts = facts; original = original })
    (passing.dated letter (back.found.date ∙ ap (λ (s : Instant). Some (header_date_of s)) (sym stamped)))
    ∙ ap (λ (s : Instant). Ok (record { id = id; moment = s.moment; facts = facts; original = original })) stamped
