-- The envelope of a message that was sent is there, is seen as that, and names the message's recipients.
use Rattle.std.proofs.Common.{◌≡◌, ℕ, ◌<◌, ◌≤◌, ◌^◌, Bool, true, false, cond, List, [], ◌∷◌, ◌++◌, length, slice_get, Option, None, Some, Result, Ok, codes, refl, ap, sym, ◌∙◌, subst, arith, length-append}
use Rattle.std.specs.Prelude.{IsSome, is_some, unwrap_or}
use Rattle.std.specs.List.{AllByRecursion}
use Rattle.std.specs.Option.{IfSome}
use Rattle.pec_types.specs.Address.{IsLowerAddress}
use Rattle.pec_types.specs.Answers.{TellsExactly}
use Rattle.pec_types.specs.Bytes.{Bytes, Path}
use Rattle.pec_types.specs.Message.{Id}
use Rattle.pec_types.specs.Text.{AllPrintable}
use Rattle.pec_types.specs.declared.messages.Facts.{Facts}
use Rattle.pec_types.specs.declared.messages.Recipient.{Recipient}
use Rattle.pec_types.specs.declared.messages.TheConstants.{MESSAGES}
use Rattle.pec_types.specs.declared.moments.TheConstants.{END_OF_TIME}
use Rattle.pec_heads.specs.Bytes.{trimmed}
use Rattle.pec_heads.specs.BoundedFacts.{AreBounded, IsShortText, addresses_where, is_copy, is_primary}
use Rattle.pec_heads.specs.BoundedFacts as bounded_facts
use Rattle.pec_heads.specs.Heads.{values_of}
use Rattle.pec_bodies.specs.Composing.{bytes_of}
use Rattle.pec_cert.specs.Certificate.{IsCert}
use Rattle.pec_cert.specs.CertificateReading.{cert_text}
use Rattle.pec_cert.specs.Stamp.{Instant, IsStamp}
use Rattle.pec_cert.specs.Zone.{stamp_of}
use Rattle.pec_cert.specs.declared.certificates.CertData.{CertData}
use Rattle.pec_directory.specs.Directory.{Kept, Provider, first_domain, providers_of}
use Rattle.pec_directory.specs.Fields.{service_at}
use Rattle.pec_directory.specs.Lawful.{IsLawful}
use Rattle.pec_seal.specs.Opening.{opened_of}
use Rattle.pec_seal.specs.Seals.{Seals, sealed}
use Rattle.pec_letter_parts.specs.Contents.{Contents, parts_of}
use Rattle.pec_letter_parts.specs.Headings.{Heading, angled}
use Rattle.pec_letter_parts.specs.Letters.{IsLetter, IsUnread, Letter}
use Rattle.pec_letter_parts.specs.LettersReading.{letter_of}
use Rattle.pec_letter_parts.specs.Sealing.{IsLetterText}
use Rattle.pec_letter_facts.specs.Certifying.{name_of, told_text, with_subject}
use Rattle.pec_letter_facts.specs.ReadBack.{CanBeHeaded, IsReadBack, IsShortLine, IsSubject, IsWholeLine, listed_values}
use Rattle.pec_letters.specs.Envelopes.{IsEnvelope, envelope_certificate, envelope_contents, envelope_heading, envelope_parts, envelope_phrase, envelope_prefix, envelope_report, envelope_text, on_behalf}
use Rattle.pec_letters.specs.Fitting.{Fits, HasFacts, IsSentFrom}
use Rattle.pec_letters.specs.Seen.{Seen as EnvelopeSeen, named_in}
use Rattle.pec_letters.specs.SeenReading.{view as envelope_view}
use Rattle.pec_ledger.specs.Lookups.{addresses_of}
use Rattle.pec_ledger.specs.OfDirectory.{facts_in, named_by, recipients_named}
use Rattle.pec_ledger.specs.Trade.{SeenEnvelope}
use Rattle.pec_trade.specs.Texts.{envelope_bytes, seen_in}
use Rattle.pec_trade.proofs.DirectoryLemmas.{issuer_at, name_short, named_by as name_is, sealed_name_short}
use Rattle.pec_trade.proofs.GivingLemmas.{envelope_so}
use Rattle.pec_trade.proofs.NamedLemmas.{Lines, has_to, named_are, recipients_are, seal_line, sealed_fields}
use Rattle.pec_trade.proofs.SeenLemmas.{Views, as_envelope, facts_are, the_envelope}
use Rattle.pec_trade.proofs.SentLemmas.{Sent}
use Rattle.pec_trade.proofs.SizeLemmas.{parts_small}
use Rattle.pec_trade.proofs.TextLemmas.{Texts, certificate_small, text_of_people}

-- what the law of values says
pub record Values : Type 0 where
  pub angled_is : (name : Bytes) → AllPrintable name → length name ≤ 900 → IsShortLine (angled name)
  pub text : (text : Bytes) → IsShortText text → IsWholeLine text
  pub subject : (prefix : Bytes) (subject : Option Bytes) → AllPrintable prefix → length prefix ≤ 70 → IfSome subject IsSubject → IsShortLine (with_subject prefix subject)
  pub address : (address : Bytes) → IsLowerAddress address → AllPrintable address × (length address ≤ 254)
  pub joined : (front back : Bytes) → AllPrintable front → AllPrintable back → AllPrintable (front ++ back)
  pub named : (providers : List Provider) (id : Id) → IsLawful providers → id.provider < length providers → AllPrintable (name_of providers id)
  pub service : (providers : List Provider) (provider : ℕ) → IsLawful providers → provider < length providers → IsLowerAddress (service_at (first_domain providers provider))

subject_is : (subject : Option Bytes) → IfSome subject IsShortText → IfSome subject IsSubject
subject_is None h = tt
subject_is (Some subject) h = record { printable = h.printable; short = h.short }

pub lower_where : (passes : Recipient → Bool) (all : List Recipient) → AllByRecursion (λ (r : Recipient). IsLowerAddress r.address) all → AllByRecursion IsLowerAddress (addresses_where passes all)
lower_where passes [] h = tt
lower_where passes (r ∷ all) h = kept (passes r) r.address (addresses_where passes all) h.0 (lower_where passes all h.1)
  where
    kept : (t : Bool) (address : Bytes) (rest : Path) → IsLowerAddress address → AllByRecursion IsLowerAddress rest → AllByRecursion IsLowerAddress (cond t (address ∷ rest) rest)
    kept true address rest a b = (a, b)
    kept false address rest a b = b

listed_some : (path : Path) → 0 < length path → 0 < length (listed_values path)
listed_some [] some = some
listed_some (address ∷ path) some = omega arith

module _ (values : Values) where
  whole_text : (text : Option Bytes) → IfSome text IsShortText → IfSome text IsWholeLine
  whole_text None h = tt
  whole_text (Some text) h = values.text text h

  from_line : (sender service : Bytes) → IsLowerAddress sender → IsLowerAddress service → IsShortLine (on_behalf sender service)
  from_line sender service a b =
      let p : AllPrintable sender × (length sender ≤ 254) = values.address sender a
      in let q : AllPrintable service × (length service ≤ 254) = values.address service b
      in record {
        printable =
            values.joined (codes "\"Per conto di: ") (sender ++ (codes "\" <" ++ (service ++ codes ">"))) refl
            (values.joined sender (codes "\" <" ++ (service ++ codes ">")) p.0
            (values.joined (codes "\" <") (service ++ codes ">") refl (values.joined service (codes ">") q.0 refl)));
        short = omega (arith, p.1, q.1, length-append sender (codes "\" <" ++ (service ++ codes ">")), length-append service (codes ">"));
      }

  -- The heading of an envelope may stand.
  envelope_headed : (providers : List Provider) (id : Id) (stamp : Instant) (facts : Facts)
      → AllPrintable (name_of providers id) → length (name_of providers id) ≤ 248 → IsLowerAddress (service_at (first_domain providers id.provider))
      → IsStamp stamp → AreBounded facts → CanBeHeaded (envelope_heading providers id stamp facts)
  unfolding envelope_heading trimmed
  envelope_headed providers id stamp facts named short service is bounded = record {
    kind = record { line = record { printable = refl; short = omega arith }; whole = refl };
    name = values.angled_is (name_of providers id) named (omega arith);
    reference = whole_text facts.reference bounded.reference;
    stamp = is;
    from = from_line facts.sender (service_at (first_domain providers id.provider)) bounded.sender service;
    reply = (values.text facts.reply bounded.reply).line;
    to = lower_where is_primary facts.recipients bounded.recipients;
    copies = lower_where is_copy facts.recipients bounded.recipients;
    subject = values.subject envelope_prefix facts.subject refl (omega arith) (subject_is facts.subject bounded.subject);
  }

-- what the laws of envelopes say of a sealer
pub record Envelopes (seals : Seals) : Type 0 where
  pub texts : Texts
  pub values : Values
  pub lines : Lines
  pub views : Views seals
  pub text : (kept : List Kept) (id : Id) (moment : ℕ) (facts : Facts) (original text : Bytes) → IsLawful (providers_of kept) → HasFacts original facts
      → IsSentFrom (providers_of kept) id facts → moment < END_OF_TIME → envelope_text seals kept id moment facts original ≡ Some text
      → IsEnvelope seals kept id moment facts original text
  pub there : (kept : List Kept) (id : Id) (moment : ℕ) (facts : Facts) (original : Bytes) (issuer : Kept) → slice_get kept id.provider ≡ Some issuer
      → IsSome (seals.name_of id.provider) → bytes_of (envelope_parts (providers_of kept) id moment facts original issuer) < 2 ^ 64
      → (text : Bytes) × (envelope_text seals kept id moment facts original ≡ Some text)
  pub seen : (kept : List Kept) (id : Id) (moment : ℕ) (facts : Facts) (original text : Bytes) → IsLawful (providers_of kept) → HasFacts original facts
      → IsSentFrom (providers_of kept) id facts → id.number < MESSAGES → moment < END_OF_TIME → IsEnvelope seals kept id moment facts original text
      → envelope_view seals (providers_of kept) text ≡ Ok (record { id = id; moment = moment; facts = facts; original = original })
  pub names : (providers : List Provider) (text : Bytes) (seen : EnvelopeSeen) → envelope_view seals providers text ≡ Ok seen
      → (letter : Letter) × (IsLetter seals text letter × (named_in letter.head ≡ Some (bounded_facts.addresses_of seen.facts.recipients)))
  pub letters : (text : Bytes) → TellsExactly (IsLetter seals text) (IsUnread seals text) (letter_of seals text)
  pub back : (heading : Heading) (contents : Contents) (provider : ℕ) (cert : CertData) (certificate text : Bytes) → CanBeHeaded heading
      → contents.certificate ≡ Some certificate → IsCert cert certificate → IsLetterText seals provider heading (parts_of contents) text
      → (letter : Letter) × (IsLetter seals text letter × IsReadBack provider heading contents.message cert letter)
  pub opens : (provider : ℕ) (bytes text : Bytes) → sealed seals provider bytes ≡ Some text → opened_of seals text ≡ Ok (provider, bytes)
  pub numbers : (provider : ℕ) (name : Bytes) → seals.number_of name ≡ Some provider → seals.name_of provider ≡ Some name

one_ok : {X E : Type 0} (r : Result X E) (x y : X) → r ≡ Ok x → r ≡ Ok y → x ≡ y
one_ok r x y a b = cc

module _ (seals : Seals) (laws : Envelopes seals) (kept : List Kept) (lawful : IsLawful (providers_of kept)) (fits : Fits seals (providers_of kept)) where
  -- ---- the text

  -- The envelope of a message that was sent.
  pub record Composed (id : Id) (moment : ℕ) (facts : Facts) (original : Bytes) : Type 0 where
    pub text : Bytes
    pub there : envelope_text seals kept id moment facts original ≡ Some text
    pub is : IsEnvelope seals kept id moment facts original text
    pub given : envelope_bytes kept seals id moment original ≡ text

  pub composed : (id : Id) (moment : ℕ) (facts : Facts) (original : Bytes) → Sent kept id original facts → moment < END_OF_TIME → Composed id moment facts original
  composed id moment facts original sent before =
      let providers = providers_of kept
      in let issuer = issuer_at kept id.provider sent.within
      in let name = issuer.issuer.provider.name
      in let stamp = stamp_of issuer.issuer.zone moment
      in let short = name_short providers id.provider issuer.issuer.provider lawful issuer.there
      in let named : IsSome (seals.name_of id.provider) = ap is_some (name_is seals providers id.provider issuer.issuer.provider fits issuer.there)
      in let certificate = cert_text (envelope_certificate providers name id stamp facts)
      in let small = parts_small (told_text providers id stamp facts envelope_phrase) certificate (Some original)
      (text_of_people laws.texts providers id stamp facts envelope_phrase lawful sent.within sent.small (omega arith))
      (certificate_small laws.texts providers name id stamp facts (envelope_report facts.wish) lawful sent.within short sent.small tt (omega arith) tt)
      (omega (arith, sent.fits))
      in let found = laws.there kept id moment facts original issuer.issuer issuer.is named small
      in record {
        text = found.0;
        there = found.1;
        is = laws.text kept id moment facts original found.0 lawful sent.has (record { home = sent.home }) before found.1;
        given = envelope_so kept seals id moment facts original found.0 sent.are sent.home found.1;
      }

  view_of : (id : Id) (moment : ℕ) (facts : Facts) (original : Bytes) → Sent kept id original facts → moment < END_OF_TIME → (made : Composed id moment facts original)
      → envelope_view seals (providers_of kept) made.text ≡ Ok (record { id = id; moment = moment; facts = facts; original = original })
  view_of id moment facts original sent before made =
      laws.seen kept id moment facts original made.text lawful sent.has (record { home = sent.home }) sent.below before made.is

  -- is seen as that
  pub seen_again : (id : Id) (moment : ℕ) (facts : Facts) (original : Bytes) → Sent kept id original facts → moment < END_OF_TIME
      → seen_in seals (providers_of kept) (envelope_bytes kept seals id moment original) ≡ Some (SeenEnvelope id moment original)
  seen_again id moment facts original sent before =
      let made = composed id moment facts original sent before
      in ap (seen_in seals (providers_of kept)) made.given
      ∙ as_envelope seals (providers_of kept) made.text (record { id = id; moment = moment; facts = facts; original = original })
      (view_of id moment facts original sent before made)

  -- ---- its recipients

  -- the fields of a sealed text are those of its letter, behind one more
  named_in_letter : (text : Bytes) (letter : Letter) → IsLetter seals text letter → recipients_named text ≡ unwrap_or (named_by letter.head) []
  named_in_letter text letter is =
      let read = is.0
      in let headed = is.1.0
      in let line = seal_line seals text read.sealer headed.bytes (laws.opens read.sealer headed.bytes text headed.opens)
      in let short = sealed_name_short seals (providers_of kept) read.sealer line.name fits lawful (laws.numbers read.sealer line.name line.named)
      in recipients_are text line.seal read.head (sealed_fields laws.lines seals text read.sealer headed.bytes read.head headed.place line short headed.head_is)
      ∙ ap (λ fields. unwrap_or (named_by fields) []) (sym is.1.1.head_is)

  names_with : (text : Bytes) (letter : Letter) (path : Path) → IsLetter seals text letter → named_in letter.head ≡ Some path → 0 < length (values_of (codes "To") letter.head)
      → recipients_named text ≡ path
  names_with text letter path is named some =
      named_in_letter text letter is ∙ ap (λ (o : Option Path). unwrap_or o []) (named_are letter.head path named some)

  -- An envelope that is seen names its recipients where it names any.
  pub seen_names : (text : Bytes) (id : Id) (moment : ℕ) (original : Bytes) → seen_in seals (providers_of kept) text ≡ Some (SeenEnvelope id moment original)
      → 0 < length (recipients_named text) → (facts : Facts) × ((facts_in original ≡ Some facts) × (recipients_named text ≡ addresses_of facts))
  seen_names text id moment original e some =
      let it = the_envelope seals (providers_of kept) text laws.views id moment original e
      in let facts = it.seen.facts
      in let found = laws.names (providers_of kept) text it.seen it.is
      in let to = has_to found.0.head (omega (arith, some, ap length (named_in_letter text found.0 found.1.0)))
      in (
        facts,
        (
          ap facts_in (sym it.original_is) ∙ facts_are it.seen.original it.letter facts it.has_passed.facts,
          names_with text found.0 (addresses_of facts) found.1.0 found.1.1 to,
        ),
      )

  -- The head of a message's envelope names the message's recipients.
  pub recipients_again : (id : Id) (moment : ℕ) (facts : Facts) (original : Bytes) → Sent kept id original facts → moment < END_OF_TIME
      → 0 < length (addresses_where is_primary facts.recipients) → recipients_named (envelope_bytes kept seals id moment original) ≡ addresses_of facts
  unfolding envelope_heading
  recipients_again id moment facts original sent before some =
      let providers = providers_of kept
      in let made = composed id moment facts original sent before
      in let issuer = made.is.issuer
      in let stamp = stamp_of issuer.zone moment
      in let heading = envelope_heading providers id stamp facts
      in let headed = envelope_headed laws.values providers id stamp facts (laws.values.named providers id lawful sent.within) (laws.texts.named providers id lawful sent.within)
      (laws.values.service providers id.provider lawful sent.within) (laws.texts.clock issuer moment before) sent.bounded
      in let back = laws.back heading (envelope_contents providers id stamp facts original made.is.certificate) id.provider
      (envelope_certificate providers issuer.provider.name id stamp facts) made.is.certificate made.text headed refl made.is.certificate_is made.is.text_is
      in let found = laws.names providers made.text _ (view_of id moment facts original sent before made)
      in let same : back.0 ≡ found.0 = one_ok (letter_of seals made.text) back.0 found.0 (((laws.letters made.text).value back.0).1 back.1.0)
      (((laws.letters made.text).value found.0).1 found.1.0)
      in let to : 0 < length (values_of (codes "To") found.0.head) =
      subst (λ (l : Letter). 0 < length (values_of (codes "To") l.head)) same
      (subst (λ (values : List Bytes). 0 < length values) (sym back.1.1.found.to) (listed_some (addresses_where is_primary facts.recipients) some))
      in ap recipients_named made.given ∙ names_with made.text found.0 (addresses_of facts) found.1.0 found.1.1 to
