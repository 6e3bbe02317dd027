-- The letters of a message that was sent are short enough for a frame.
use Rattle.std.proofs.Common.{◌≡◌, ℕ, ◌<◌, ◌≤◌, Bool, true, false, cond, List, [], ◌∷◌, ◌++◌, length, map, slice_get, Option, None, Some, Ok, option_map, codes, refl, ap, sym, ◌∙◌, subst, arith, length-append}
use Rattle.std.specs.Prelude.{IsSome, filter, is_some, unwrap_or}
use Rattle.std.specs.Fmt.{decimal}
use Rattle.std.specs.List.{AllByRecursion}
use Rattle.std.specs.Option.{IfSome, option_and_then}
use Rattle.std.proofs.lemmas.Fmt.{length-decimal-le}
use Rattle.std.proofs.lemmas.List.{length-map}
use Rattle.std.proofs.lemmas.List.Quantifiers.{position-Some}
use Rattle.std.proofs.lemmas.Option.{none-some}
use Rattle.pec_types.specs.Address.{IsLowerAddress}
use Rattle.pec_types.specs.Bytes.{Bytes, Path}
use Rattle.pec_types.specs.Message.{Id}
use Rattle.pec_types.specs.Words.{seven_digits}
use Rattle.pec_types.specs.declared.messages.Class.TheVariants as classes
use Rattle.pec_types.specs.declared.messages.Facts.{Facts}
use Rattle.pec_types.specs.declared.messages.Recipient.{Recipient}
use Rattle.pec_types.specs.declared.messages.Wish.{Wish}
use Rattle.pec_types.specs.declared.moments.TheConstants.{END_OF_TIME}
use Rattle.pec_types.specs.declared.receipts.Kind.{Kind}
use Rattle.pec_types.specs.declared.receipts.Kind.TheVariants as kinds
use Rattle.pec_heads.specs.BoundedFacts.{addresses_where, is_copy, is_primary}
use Rattle.pec_cert.specs.CertificateReading.{cert_text}
use Rattle.pec_cert.specs.Stamp.{Instant}
use Rattle.pec_cert.specs.Zone.{stamp_of}
use Rattle.pec_directory.specs.Directory.{Kept, Provider, first_domain, home_of, providers_of}
use Rattle.pec_directory.specs.Fields.{service_at}
use Rattle.pec_directory.specs.Lawful.{IsLawful}
use Rattle.pec_frames.specs.Frames.{frame_text}
use Rattle.pec_seal.specs.Opening.{opened_of}
use Rattle.pec_seal.specs.Seals.{Seals, sealed}
use Rattle.pec_letter_facts.specs.Certifying.{name_of, told_text}
use Rattle.pec_letter_parts.specs.Contents.{parts_of}
use Rattle.pec_letter_parts.specs.declared.headings.Marking.{Marking}
use Rattle.pec_letter_parts.specs.declared.headings.Marking.TheVariants as markings
use Rattle.pec_letters.specs.Envelopes.{envelope_certificate, envelope_heading, envelope_phrase, envelope_prefix, envelope_report, envelope_text, text_by as envelope_by}
use Rattle.pec_letters.specs.Fitting.{Fits}
use Rattle.pec_receipts.specs.Kinds.{Said, row_of}
use Rattle.pec_receipts.specs.Receipts.{ack_body, ack_heading, ack_value, addressee_of, alone, has_address, heading_by, marked_wish, message_in, or_nothing, phrase_of, place_among, place_of, place_text, receipt_certificate, receipt_heading, receipt_name, receipt_text, receipts_at, text_by}
use Rattle.pec_receipts.specs.declared.receipts.Receipt.{Receipt}
use Rattle.pec_ledger.specs.Lookups.{addresses_of, at_home, is_home}
use Rattle.pec_ledger.specs.Trade.{Receipt as Stated, Trade}
use Rattle.pec_ledger.specs.TradeLaws.{CanBeComposed, IsSent, LettersCanBePut}
use Rattle.pec_trade.specs.Texts.{envelope_bytes, frame_along, given, receipt_bytes}
use Rattle.pec_trade.specs.TradeOf.{trade_of}
use Rattle.pec_trade.proofs.DirectoryLemmas.{issuer_at, name_short, next_at, provider_at, sealed_name_short}
use Rattle.pec_trade.proofs.EnvelopeLemmas.{Envelopes, Values, composed as envelope_composed, lower_where}
use Rattle.pec_trade.proofs.FrameLemmas.{Told, made}
use Rattle.pec_trade.proofs.LengthLemmas.{AreShortOnes, IsShortHeading, bare_small, frame_small, letter_small, parts_within, three_parts}
use Rattle.pec_trade.proofs.PathLemmas.{then_some}
use Rattle.pec_trade.proofs.ReceiptLemmas.{Receipts, composed as receipt_composed, lower_named, named_or_not}
use Rattle.pec_trade.proofs.SentLemmas.{Sending, Sent, sent_as}
use Rattle.pec_trade.proofs.SizeLemmas.{sized, subject_small}
use Rattle.pec_trade.proofs.TextLemmas.{AreSmall, IsRight, Right, Stands, Texts, cert_of_receipt, certificate_small, longer, message_small, phrase_small, recipient_small, row_right, text_of_people}

-- ---- addresses

short_ones : Texts → (path : Path) → AllByRecursion IsLowerAddress path → AreShortOnes path
short_ones texts [] lower = tt
short_ones texts (address ∷ path) lower = ((texts.address address lower.0).1, short_ones texts path lower.1)

where_fewer : (passes : Recipient → Bool) (all : List Recipient) → length (addresses_where passes all) ≤ length all
where_fewer passes [] = omega arith
where_fewer passes (r ∷ all) = by (passes r) (where_fewer passes all)
  where
    by : (t : Bool) → length (addresses_where passes all) ≤ length all → length (cond t (r.address ∷ addresses_where passes all) (addresses_where passes all)) ≤ length (r ∷ all)
    by true l = omega (arith, l)
    by false l = omega (arith, l)

-- the address for receipts of a provider is one in lower case
pub receipts_lower : (providers : List Provider) (n : ℕ) → IsLawful providers → AllByRecursion IsLowerAddress (alone (receipts_at providers n))
unfolding receipts_at
receipts_lower providers n lawful = by (slice_get providers n) refl
  where
    by : (found : Option Provider) → slice_get providers n ≡ found → AllByRecursion IsLowerAddress (alone (option_map (λ (p : Provider). p.receipts) found))
    by None e = tt
    by (Some p) e = ((next_at [] providers n p lawful.each e).1.receipts, tt)

alone_short : (address : Option Bytes) → length (alone address) ≤ 1
alone_short None = omega arith
alone_short (Some address) = omega arith

home_lower : (providers : List Provider) → IsLawful providers → (home : Option ℕ) → AllByRecursion IsLowerAddress (alone (option_and_then (receipts_at providers) home))
home_lower providers lawful None = tt
home_lower providers lawful (Some n) = receipts_lower providers n lawful

-- whoever gets a receipt has an address in lower case
addressee_lower : (providers : List Provider) (r : Receipt) (kind : Kind) → IsLawful providers → IsLowerAddress r.facts.sender
    → AllByRecursion IsLowerAddress (alone (addressee_of providers r (row_of kind).to))
unfolding addressee_of row_of
addressee_lower providers r kinds.Acceptance lawful sender = (sender, tt)
addressee_lower providers r (kinds.NonAcceptance cause) lawful sender = (sender, tt)
addressee_lower providers r kinds.Charge lawful sender = receipts_lower providers r.id.provider lawful
addressee_lower providers r kinds.Delivery lawful sender = (sender, tt)
addressee_lower providers r (kinds.DeliveryError refusal) lawful sender = (sender, tt)
addressee_lower providers r kinds.VirusFound lawful sender = receipts_lower providers r.id.provider lawful
addressee_lower providers r kinds.Warning lawful sender = (sender, tt)
addressee_lower providers r kinds.Notice lawful sender = (sender, tt)
addressee_lower providers r kinds.LateNotice lawful sender = (sender, tt)
addressee_lower providers r kinds.Ack lawful sender = home_lower providers lawful (option_and_then (home_of providers) r.recipient)

-- ---- names of receipts

row_small : (kind : Kind) → (length (row_of kind).tag ≤ 10) × (length (row_of kind).prefix ≤ 100)
unfolding row_of
row_small kinds.Acceptance = (omega arith, omega arith)
row_small (kinds.NonAcceptance cause) = (omega arith, omega arith)
row_small kinds.Charge = (omega arith, omega arith)
row_small kinds.Delivery = (omega arith, omega arith)
row_small (kinds.DeliveryError refusal) = (omega arith, omega arith)
row_small kinds.VirusFound = (omega arith, omega arith)
row_small kinds.Warning = (omega arith, omega arith)
row_small kinds.Notice = (omega arith, omega arith)
row_small kinds.LateNotice = (omega arith, omega arith)
row_small kinds.Ack = (omega arith, omega arith)

place_in : (all : List Recipient) (address : Bytes) (found : Option ℕ) → place_among all address ≡ found → length all ≤ 1000 → IfSome found (λ place. place < 1000)
unfolding place_among
place_in all address None e few = tt
place_in all address (Some place) e few =
    let within = (position-Some (has_address address) all place (record { address = []; class = classes.Primary }) e).0 in omega (arith, few, within)

place_below : (all : List Recipient) (named : Option Bytes) → length all ≤ 1000 → IfSome (option_and_then (place_among all) named) (λ place. place < 1000)
place_below all None few = tt
place_below all (Some address) few = place_in all address (place_among all address) refl few

place_small : (place : Option ℕ) → IfSome place (λ n. n < 1000) → length (place_text place) ≤ 21
place_small None below = omega arith
place_small (Some place) below = omega (arith, length-decimal-le 20 place (omega arith) (omega (arith, below)) (omega (arith, below)))

seven_long : (number : ℕ) → length (seven_digits number) ≡ 7
unfolding seven_digits
seven_long number = refl

named_short : (tag : Bytes) (id : Id) (place : Option ℕ) (domain : Bytes) → length tag ≤ 10 → id.provider < 1000 → IfSome place (λ n. n < 1000) → length domain ≤ 254
    → length (receipt_name tag id place domain) ≤ 900
unfolding receipt_name
named_short tag id place domain t p k d =
    omega (
      arith,
      sized (tag ∷ codes "." ∷ decimal id.provider ∷ codes "." ∷ seven_digits id.number ∷ place_text place ∷ codes "@" ∷ []) (domain ++ []),
      length-append domain [],
      t,
      length-decimal-le 20 id.provider (omega arith) (omega (arith, p)) (omega (arith, p)),
      seven_long id.number,
      place_small place k,
      d,
    )

-- ---- paths

filter_lower : (test : Bytes → Bool) (path : Path) → AllByRecursion IsLowerAddress path → AllByRecursion IsLowerAddress (filter test path)
filter_lower test [] lower = tt
filter_lower test (a ∷ path) lower = by (test a) (filter_lower test path lower.1)
  where
    by : (t : Bool) → AllByRecursion IsLowerAddress (filter test path) → AllByRecursion IsLowerAddress (cond t (a ∷ filter test path) (filter test path))
    by true rest = (lower.0, rest)
    by false rest = rest

filter_fewer : (test : Bytes → Bool) (path : Path) → length (filter test path) ≤ length path
filter_fewer test [] = omega arith
filter_fewer test (a ∷ path) = by (test a) (filter_fewer test path)
  where
    by : (t : Bool) → length (filter test path) ≤ length path → length (cond t (a ∷ filter test path) (filter test path)) ≤ length (a ∷ path)
    by true l = omega (arith, l)
    by false l = omega (arith, l)

addresses_lower : (all : List Recipient) → AllByRecursion (λ (r : Recipient). IsLowerAddress r.address) all → AllByRecursion IsLowerAddress (map (λ (r : Recipient). r.address) all)
addresses_lower [] lower = tt
addresses_lower (r ∷ all) lower = (lower.0, addresses_lower all lower.1)

-- what the laws say of letters, of values and of a sealer
pub record Putting (seals : Seals) : Type 0 where
  pub envelopes : Envelopes seals
  pub receipts : Receipts seals
  pub told : Told
  pub sending : Sending

module _ (seals : Seals) (laws : Putting seals) (kept : List Kept) (lawful : IsLawful (providers_of kept)) (fits : Fits seals (providers_of kept)) where
  abbrev texts : Texts
  texts = laws.envelopes.texts

  abbrev values : Values
  values = laws.envelopes.values

  abbrev providers : List Provider
  providers = providers_of kept

  abbrev opens : (provider : ℕ) (bytes text : Bytes) → sealed seals provider bytes ≡ Some text → opened_of seals text ≡ Ok (provider, bytes)
  opens = laws.envelopes.opens

  named : (provider : ℕ) (name : Bytes) → seals.number_of name ≡ Some provider → length name ≤ 32
  named provider name e = sealed_name_short seals providers provider name fits lawful (laws.envelopes.numbers provider name e)

  domain_small : (n : ℕ) → n < length providers → length (service_at (first_domain providers n)) ≤ 254
  domain_small n within = (values.address (service_at (first_domain providers n)) (values.service providers n lawful within)).1

  -- ---- envelopes

  envelope_headed : (id : Id) (stamp : Instant) (facts : Facts) → AreSmall facts → id.provider < length providers → IsShortHeading (envelope_heading providers id stamp facts) 2000
  unfolding envelope_heading
  envelope_headed id stamp facts small within =
      let service = service_at (first_domain providers id.provider)
      in record {
        kind = omega arith;
        name = omega (arith, texts.named providers id lawful within);
        reference = longer facts.reference small.reference;
        from =
            omega (
              arith,
              length-append facts.sender (codes "\" <" ++ (service ++ codes ">")),
              length-append service (codes ">"),
              (texts.address facts.sender small.printable.sender).1,
              domain_small id.provider within,
            );
        reply = omega (arith, small.reply);
        to = short_ones texts _ (lower_where is_primary facts.recipients small.printable.recipients);
        copies = short_ones texts _ (lower_where is_copy facts.recipients small.printable.recipients);
        few = omega (arith, where_fewer is_primary facts.recipients, where_fewer is_copy facts.recipients, small.few);
        subject = omega (arith, subject_small envelope_prefix facts.subject (longer facts.subject small.subject));
      }

  envelope_short : (id : Id) (moment : ℕ) (facts : Facts) (original text : Bytes) → Sent kept id original facts → envelope_text seals kept id moment facts original ≡ Some text
      → length text ≤ 37000000
  unfolding envelope_text
  envelope_short id moment facts original text sent e =
      let found = then_some (slice_get kept id.provider) (envelope_by seals providers id moment facts original) text e
      in let issuer = found.0
      in let stamp = stamp_of issuer.zone moment
      in let name = issuer.provider.name
      in let short = name_short providers id.provider issuer.provider lawful (provider_at kept id.provider issuer found.1.0)
      in let certificate = cert_text (envelope_certificate providers name id stamp facts)
      in let told = told_text providers id stamp facts envelope_phrase
      in let all = parts_of (record { text = told; message = Some original; certificate = Some certificate })
      in let heading = envelope_heading providers id stamp facts
      in let is = (texts.letters seals id.provider heading all text).0 found.1.1
      in omega (
        arith,
        letter_small seals opens named id.provider heading 2000 all text (envelope_headed id stamp facts sent.small sent.within) (three_parts told certificate (Some original)) is,
        parts_within told certificate (Some original) 31457280
            (text_of_people texts providers id stamp facts envelope_phrase lawful sent.within sent.small (omega arith))
            (certificate_small texts providers name id stamp facts (envelope_report facts.wish) lawful sent.within short sent.small tt (omega arith) tt) sent.fits,
      )

  -- ---- receipts

  module _ (r : Receipt) (stands : Stands texts kept r) (small : AreSmall r.facts) (by : r.by < length providers) where
    receipt_headed : (stamp : Instant) (marking : Marking) (word : Bytes) (flagged : Bool) (wish : Option Wish) → length word ≤ 1000
        → IsShortHeading (heading_by providers r stamp (row_of r.kind) marking word flagged wish) 1
    receipt_headed stamp marking word flagged wish short =
        let row = row_small r.kind
        in let domain = domain_small r.by by
        in let address = addressee_of providers r (row_of r.kind).to
        in record {
          kind = short;
          name =
              let long = named_short (row_of r.kind).tag r.id (place_of r) (first_domain providers r.by) row.0 (let few = lawful.few in let within = stands.within in omega (arith, few, within))
              (place_below r.facts.recipients r.recipient small.few)
              (omega (arith, domain, length-append (codes "posta-certificata@") (first_domain providers r.by)))
              in omega (arith, long);
          reference = omega (arith, texts.named providers r.id lawful stands.within, length-append (name_of providers r.id) (codes ">"));
          from = omega (arith, domain);
          reply = tt;
          to = short_ones texts (alone address) (addressee_lower providers r r.kind lawful small.printable.sender);
          copies = tt;
          few = omega (arith, alone_short address);
          subject = omega (arith, row.1, subject_small (row_of r.kind).prefix r.facts.subject (longer r.facts.subject small.subject));
        }

    ack_headed : (stamp : Instant) → IsShortHeading (ack_heading providers r stamp (row_of r.kind)) 1
    unfolding ack_heading ack_value
    ack_headed stamp =
        receipt_headed stamp markings.Reply (ack_value providers r) false None
        (omega (
          arith,
          sized (name_of providers r.id ∷ codes " " ∷ []) (or_nothing r.recipient ++ []),
          length-append (or_nothing r.recipient) [],
          texts.named providers r.id lawful stands.within,
          recipient_small texts r.recipient stands.named,
        ))

    said_headed : (stamp : Instant) (said : Said) → Right said → IsShortHeading (receipt_heading providers r stamp (row_of r.kind) said) 1
    unfolding receipt_heading
    said_headed stamp said right = receipt_headed stamp markings.Receipt said.word said.flagged (marked_wish r said) (omega (arith, right.word))

    said_short : (original text : Bytes) → length original ≤ 31457280 → (found : Option Said) → IsRight found → (issuer : Kept) → slice_get kept r.by ≡ Some issuer
        → text_by seals providers r original (row_of r.kind) found issuer ≡ Some text → length text ≤ 47000000
    said_short original text fits None right issuer there e =
        let stamp = stamp_of issuer.zone r.moment
        in omega (arith, bare_small seals opens named r.by (ack_heading providers r stamp (row_of r.kind)) 1 ack_body text (ack_headed stamp) e)
    said_short original text fits (Some said) right issuer there e =
        let row = row_of r.kind
        in let stamp = stamp_of issuer.zone r.moment
        in let name = issuer.provider.name
        in let short = name_short providers r.by issuer.provider lawful (provider_at kept r.by issuer there)
        in let certificate = cert_text (receipt_certificate providers name r stamp row said)
        in let told = told_text providers r.id stamp r.facts (phrase_of name r row said)
        in let message = message_in r said original
        in let all = parts_of (record { text = told; message = message; certificate = Some certificate })
        in let heading = receipt_heading providers r stamp row said
        in let is = (texts.letters seals r.by heading all text).0 e
        in omega (
          arith,
          letter_small seals opens named r.by heading 1 all text (said_headed stamp said right) (three_parts told certificate message) is,
          parts_within told certificate message 41943040
              (text_of_people texts providers r.id stamp r.facts (phrase_of name r row said) lawful stands.within small (phrase_small texts name r said short stands.named right))
              (cert_of_receipt texts providers name r stamp said lawful stands.within short small stands.named right) (message_small texts r said original fits),
        )

    receipt_short : (original text : Bytes) → length original ≤ 31457280 → receipt_text seals kept r original ≡ Some text → length text ≤ 47000000
    unfolding receipt_text
    receipt_short original text fits e =
        let found = then_some (slice_get kept r.by) (text_by seals providers r original (row_of r.kind) (row_of r.kind).said) text e
        in said_short original text fits (row_of r.kind).said (row_right texts r.kind) found.0 found.1.0 found.1.1

  -- ---- frames

  put : (path : Path) (message : Bytes) → 0 < length path → length path ≤ 1000 → AllByRecursion IsLowerAddress path → length message ≤ 47000000 → IsSome (frame_along path message)
  put path message some few lower short =
      ap is_some ((made laws.told path message (frame_text path message)).1 (
        record {
          some = some;
          few = few;
          lower = lower;
          short = omega (arith, frame_small path message (short_ones texts path lower), few, short);
        },
        refl,
      ))

  abbrev trade : Trade
  trade = trade_of kept seals

  put_envelope : (id : Id) (moment : ℕ) (original : Bytes) (sent : IsSent trade id original) → moment < END_OF_TIME → (to : ℕ)
      → 0 < length (at_home trade to (addresses_of sent.facts)) → IsSome (frame_along (at_home trade to (addresses_of sent.facts)) (envelope_bytes kept seals id moment original))
  put_envelope id moment original sent before to some =
      let facts = sent.facts
      in let is = sent_as laws.sending kept seals lawful id original sent
      in let found = envelope_composed seals laws.envelopes kept lawful fits id moment facts original is before
      in let test = λ (address : Bytes). is_home to (trade.home address)
      in let path = at_home trade to (addresses_of facts)
      in subst (λ (text : Bytes). IsSome (frame_along path text)) (sym found.given)
      (put path found.text some
      (let few = filter_fewer test (addresses_of facts) in let all = is.small.few in let same = length-map facts.recipients (λ (r : Recipient). r.address) in omega (arith, few, all, same))
      (filter_lower test (addresses_of facts) (addresses_lower facts.recipients is.small.printable.recipients))
      (let short = envelope_short id moment facts original found.text is found.there in omega (arith, short)))

  -- a receipt, along the path of one address
  put_receipt : (receipt : Stated) (original : Bytes) (can : CanBeComposed trade receipt original) (address : Bytes) → IsLowerAddress address
      → IsSome (frame_along (address ∷ []) (receipt_bytes kept seals receipt original))
  put_receipt receipt original can address lower =
      let facts = can.sent.facts
      in let is = sent_as laws.sending kept seals lawful receipt.id original can.sent
      in let found = receipt_composed seals laws.receipts kept lawful fits receipt original can is
      in let r = given receipt facts
      in let stands : Stands texts kept r = record {
        lawful = lawful;
        within = is.within;
        printable = is.small.printable;
        some = is.small.some;
        named = lower_named kept seals receipt facts is.small.printable (named_or_not kept seals receipt facts receipt.kind can.kind);
        before = can.in_range;
      }
      in subst (λ (text : Bytes). IsSome (frame_along (address ∷ []) text)) (sym found.bytes)
      (put (address ∷ []) found.text (omega arith) (omega arith) (lower, tt) (receipt_short r stands is.small can.by original found.text is.fits found.there))

  receipts_of : (n : ℕ) (found : Option Provider) → slice_get providers n ≡ found → n < length providers → IsLowerAddress (unwrap_or (option_map (λ (p : Provider). p.receipts) found) [])
  receipts_of n None e within = absurd (none-some _ (sym e ∙ (issuer_at kept n within).there))
  receipts_of n (Some p) e within = (next_at [] providers n p lawful.each e).1.receipts

  receipts_there : (n : ℕ) → n < length providers → IsLowerAddress (trade.receipts n)
  unfolding receipts_at
  receipts_there n within = receipts_of n (slice_get providers n) refl within

  pub can_be_put : LettersCanBePut trade
  can_be_put = record {
    envelopes = put_envelope;
    to_senders = λ receipt original can.
        put_receipt receipt original can can.sent.facts.sender (sent_as laws.sending kept seals lawful receipt.id original can.sent).small.printable.sender;
    to_providers = λ receipt original can provider within. put_receipt receipt original can (trade.receipts provider) (receipts_there provider within);
  }
