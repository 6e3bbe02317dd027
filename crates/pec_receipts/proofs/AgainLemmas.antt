-- What was composed is seen again: each row of the table is passed.
use Rattle.std.proofs.Common.{◌≡◌, ℕ, zero, suc, ◌<◌, ◌==◌, Bool, true, false, ◌&&◌, ◌||◌, cond, List, [], ◌∷◌, map, find, position, length, get_or, arith, slice_get, Option, None, Some, option_map, Ok, Err, codes, eq-eqb, refl, ap, sym, ◌∙◌, subst}
use Rattle.std.proofs.lemmas.Bool.{and_from}
use Rattle.std.proofs.lemmas.List.Quantifiers.{position-Some}
use Rattle.std.proofs.lemmas.Option.{same_Some}
use Rattle.std.specs.Cmp.Lexicographic.{bytes_decides}
use Rattle.std.specs.List.{list_any}
use Rattle.std.specs.Str.{bytes_eq}
use Rattle.pec_types.specs.Bytes.{Bytes}
use Rattle.pec_types.specs.Message.{Id}
use Rattle.pec_types.specs.Words.{wish_word}
use Rattle.pec_types.specs.declared.disputes.LetterFault.TheVariants.{NotThis}
use Rattle.pec_types.specs.declared.messages.Cause.{Cause}
use Rattle.pec_types.specs.declared.messages.Recipient.{Recipient}
use Rattle.pec_types.specs.declared.messages.Refusal.TheVariants as refusals
use Rattle.pec_types.specs.declared.messages.TheConstants.{MESSAGES}
use Rattle.pec_types.specs.declared.messages.Wish.{Wish}
use Rattle.pec_types.specs.declared.receipts.Kind.{Kind}
use Rattle.pec_types.specs.declared.receipts.Kind.TheVariants as kinds
use Rattle.pec_heads.specs.FactsOfHeads.{first_value}
use Rattle.pec_heads.specs.Heads.{NamedValue}
use Rattle.pec_cert.specs.HeaderDate.{header_date_of}
use Rattle.pec_cert.specs.Stamp.{Instant}
use Rattle.pec_cert.specs.declared.certificates.CertData.{CertData}
use Rattle.pec_cert.specs.declared.certificates.CertError.{CertError}
use Rattle.pec_cert.specs.declared.certificates.CertKind.{CertKind}
use Rattle.pec_directory.specs.Directory.{Provider, home_of, is_certified}
use Rattle.pec_letter_parts.specs.Headings.{angled, marking_name}
use Rattle.pec_letter_parts.specs.Letters.{Letter}
use Rattle.pec_letter_parts.specs.declared.headings.Marking.{Marking}
use Rattle.pec_letter_parts.specs.declared.headings.Marking.TheVariants as markings
use Rattle.pec_letter_facts.specs.Certifying.{certificate_of, name_of, typed}
use Rattle.pec_letter_facts.specs.Questions.{are_typed, id_named, is_dated, is_from_home, is_sealed_by_issuer, is_wish_marked, marked_or, marking_of}
use Rattle.pec_letter_facts.specs.ReadBack.{IsReadBack}
use Rattle.pec_receipts.proofs.CauseLemmas.{HavePlaces, each_cause}
use Rattle.pec_receipts.specs.Kinds.{Row, Said, all_kinds, row_of}
use Rattle.pec_receipts.specs.Receipts.{IsNamed, delivered_to, has_address, marked_wish, place_among, receipt_certificate, receipt_heading, report_of}
use Rattle.pec_receipts.specs.Seen.{are_recipients, error_number, is_certified_one, is_delivered, is_detail, is_marked, is_sealed, is_wished, kind_number, kind_of, says, seen_again, seen_of}
use Rattle.pec_receipts.specs.declared.kinds.About.{About}
use Rattle.pec_receipts.specs.declared.kinds.About.TheVariants as about
use Rattle.pec_receipts.specs.declared.receipts.Receipt.{Receipt}

same_text : (text : Bytes) → bytes_eq text text ≡ true
same_text text = (bytes_decides text text).1 refl

-- ---- the kind

-- the question of a row, of what it looks at
abbrev says_of : Option (Marking × Bytes) → CertKind → CertError → Option Bytes → Option Said → Bool
says_of marked kind error detail None = false
says_of marked kind error detail (Some said) =
    is_marked said.word marked && kind_number kind == kind_number said.kind && error_number error == error_number said.error
    && is_detail said.detail detail

abbrev first_of : Option (Marking × Bytes) → CertKind → CertError → Option Bytes → Option Kind
first_of marked kind error detail = find (λ (k : Kind). says_of marked kind error detail (row_of k).said) all_kinds

-- what a row says is asked of itself
abbrev own_kind : Option Said → Option Kind
own_kind None = None
own_kind (Some said) = first_of (Some (markings.Receipt, said.word)) said.kind said.error said.detail

abbrev Certifies : Option Said → Type 0
Certifies None = ⊥
Certifies (Some said) = Unit {0}

kind_closed : HavePlaces → (kind : Kind) → Certifies (row_of kind).said → own_kind (row_of kind).said ≡ Some kind
unfolding row_of
kind_closed places kinds.Acceptance c = refl
kind_closed places (kinds.NonAcceptance cause) c =
    each_cause places (λ (one : Cause). own_kind (row_of (kinds.NonAcceptance one)).said) (λ (one : Cause). Some (kinds.NonAcceptance one))
    refl cause
kind_closed places kinds.Charge c = refl
kind_closed places kinds.Delivery c = refl
kind_closed places (kinds.DeliveryError refusals.NoMailbox) c = refl
kind_closed places (kinds.DeliveryError refusals.MailboxFull) c = refl
kind_closed places (kinds.DeliveryError refusals.Virus) c = refl
kind_closed places kinds.VirusFound c = refl
kind_closed places kinds.Warning c = refl
kind_closed places kinds.Notice c = refl
kind_closed places kinds.LateNotice c = refl
kind_closed places kinds.Ack c = absurd c

kind_found : HavePlaces → (kind : Kind) (said : Said) (letter : Letter) → (row_of kind).said ≡ Some said
    → marking_of letter.head ≡ Some (markings.Receipt, said.word) → letter.cert.kind ≡ said.kind → letter.cert.error ≡ said.error
    → letter.cert.detail ≡ said.detail → kind_of letter ≡ Some kind
unfolding kind_of says row_of
kind_found places kind said letter e m k f d =
    ap (λ x. first_of x letter.cert.kind letter.cert.error letter.cert.detail) m
    ∙ ap (λ x. first_of (Some (markings.Receipt, said.word)) x letter.cert.error letter.cert.detail) k
    ∙ ap (λ x. first_of (Some (markings.Receipt, said.word)) said.kind x letter.cert.detail) f
    ∙ ap (λ x. first_of (Some (markings.Receipt, said.word)) said.kind said.error x) d
    ∙ ap own_kind (sym e) ∙ kind_closed places kind (subst Certifies (sym e) tt)

-- ---- sealer

elsewhere_or : (elsewhere : Bool) (sealer provider : ℕ) → (elsewhere ≡ false → sealer ≡ provider) → (elsewhere || sealer == provider) ≡ true
elsewhere_or true sealer provider own = refl
elsewhere_or false sealer provider own = eq-eqb sealer provider (own refl)

sealed_right : (providers : List Provider) (id : Id) (row : Row) (letter : Letter) → is_sealed_by_issuer providers letter ≡ true
    → (row.elsewhere ≡ false → letter.sealer ≡ id.provider) → is_sealed providers id row letter ≡ true
unfolding is_sealed
sealed_right providers id row letter issuer own =
    and_from (is_sealed_by_issuer providers letter) (row.elsewhere || letter.sealer == id.provider) issuer
    (elsewhere_or row.elsewhere letter.sealer id.provider own)

-- ---- recipient

or_true : (b : Bool) → (b || true) ≡ true
or_true true = refl
or_true false = refl

one_at : (providers : List Provider) (address : Bytes) (all : List Recipient) (place : ℕ) (d : Recipient) → is_certified providers address ≡ true
    → place < length all → has_address address (get_or all place d) ≡ true → list_any (is_certified_one address) (map (typed providers) all) ≡ true
one_at providers address [] place d certified below e = absurd (omega arith)
one_at providers address (r ∷ all) zero d certified below e =
    let is : r.address ≡ address = (bytes_decides r.address address).0 e
    in let here : (is_certified providers r.address && bytes_eq r.address address) ≡ true =
    and_from (is_certified providers r.address) (bytes_eq r.address address) (ap (is_certified providers) is ∙ certified) e
    in ap (λ b. b || list_any (is_certified_one address) (map (typed providers) all)) here
one_at providers address (r ∷ all) (suc place) d certified below e =
    ap (λ b. (is_certified providers r.address && bytes_eq r.address address) || b) (one_at providers address all place d certified (omega arith) e)
    ∙ or_true (is_certified providers r.address && bytes_eq r.address address)

one_found : (providers : List Provider) (address : Bytes) (all : List Recipient) (place : ℕ) → is_certified providers address ≡ true
    → position (has_address address) all ≡ Some place → list_any (is_certified_one address) (map (typed providers) all) ≡ true
one_found providers address [] place certified e = absurd cc
one_found providers address (r ∷ all) place certified e =
    let found = position-Some (has_address address) (r ∷ all) place r e
    in one_at providers address (r ∷ all) place r certified found.0 found.1

delivered_right : (providers : List Provider) (r : Receipt) (what : About) (recipient : Option Bytes) → r.recipient ≡ recipient → IsNamed providers r what recipient
    → is_delivered what (map (typed providers) r.facts.recipients) (delivered_to r what) ≡ true
unfolding is_delivered place_among
delivered_right providers r about.Message recipient e named = refl
delivered_right providers r about.Provider recipient e named = refl
delivered_right providers r about.Recipient None e named = absurd named
delivered_right providers r about.Recipient (Some address) e named =
    subst (λ d. is_delivered about.Recipient (map (typed providers) r.facts.recipients) d ≡ true) (sym e)
    (one_found providers address r.facts.recipients named.1.0 named.0 named.1.1)

-- the recipient that is certified is the one that the receipt names
delivered_same : (providers : List Provider) (r : Receipt) (what : About) (recipient : Option Bytes) → r.recipient ≡ recipient → IsNamed providers r what recipient
    → delivered_to r what ≡ r.recipient
delivered_same providers r about.Message recipient e named = sym named ∙ sym e
delivered_same providers r about.Provider recipient e named = sym named ∙ sym e
delivered_same providers r about.Recipient recipient e named = refl

recipients_right : (providers : List Provider) (r : Receipt) (row : Row) (letter : Letter) → are_typed providers letter ≡ true
    → letter.cert.recipients ≡ map (typed providers) r.facts.recipients → letter.cert.delivered ≡ delivered_to r row.about
    → IsNamed providers r row.about r.recipient → are_recipients providers row letter ≡ true
unfolding are_recipients
recipients_right providers r row letter types same delivered named =
    and_from (are_typed providers letter) (is_delivered row.about letter.cert.recipients letter.cert.delivered) types
    (ap (λ rs. is_delivered row.about rs letter.cert.delivered) same
    ∙ ap (is_delivered row.about (map (typed providers) r.facts.recipients)) delivered
    ∙ delivered_right providers r row.about r.recipient refl named)

-- ---- wish

wish_right : (said : Said) (asked : Wish) (head : List NamedValue) (certified delivers : Bool) → said.wish ≡ certified → said.delivers ≡ delivers
    → (delivers ≡ true → is_wish_marked asked head ≡ true)
    → is_wished (Some said) (cond certified (Some asked) None) head ≡ true
unfolding is_wished
wish_right said asked head false delivers e f marked = rw e refl
wish_right said asked head true false e f marked = rw (e, f) refl
wish_right said asked head true true e f marked = rw (e, f) (marked refl)

-- ---- the table

passes : (providers : List Provider) (kind : Kind) (id : Id) (letter : Letter) → kind_of letter ≡ Some kind
    → id_named providers (codes "X-Riferimento-Message-ID") letter ≡ Some id → is_sealed providers id (row_of kind) letter ≡ true
    → is_from_home providers id letter ≡ true → are_recipients providers (row_of kind) letter ≡ true
    → is_wished (row_of kind).said letter.cert.wish letter.head ≡ true → is_dated letter ≡ true
    → seen_of providers letter
    ≡ Ok (record { kind = kind; id = id; by = letter.sealer; moment = letter.cert.stamp.moment; recipient = letter.cert.delivered })
unfolding seen_of
passes providers kind id letter a b c d e f g = rw (a, b, c, d, e, f, g) refl

-- what the law of questions says
pub record Passing (providers : List Provider) : Type 0 where
  pub id : (id : Id) (field : Bytes) (letter : Letter) → id.provider < length providers → id.number < MESSAGES → letter.cert.id ≡ name_of providers id
      → first_value field letter.head ≡ Some (angled (name_of providers id)) → id_named providers field letter ≡ Some id
  pub issuer : (issuer : Provider) (letter : Letter) → slice_get providers letter.sealer ≡ Some issuer → letter.cert.provider ≡ issuer.name → is_sealed_by_issuer providers letter ≡ true
  pub home : (id : Id) (letter : Letter) → home_of providers letter.cert.sender ≡ Some id.provider → is_from_home providers id letter ≡ true
  pub types : (recipients : List Recipient) (letter : Letter) → letter.cert.recipients ≡ map (typed providers) recipients → are_typed providers letter ≡ true
  pub wish : (wish : Wish) (head : List NamedValue) → first_value (codes "X-TipoRicevuta") head ≡ Some (wish_word wish) → is_wish_marked wish head ≡ true
  pub dated : (letter : Letter) → first_value (codes "Date") letter.head ≡ Some (header_date_of letter.cert.stamp) → is_dated letter ≡ true

-- what is known of a receipt that was composed
pub record Known (providers : List Provider) (r : Receipt) (issuer : Provider) : Type 0 where
  pub within : r.id.provider < length providers
  pub below : r.id.number < MESSAGES
  pub issuer_is : slice_get providers r.by ≡ Some issuer
  pub home : home_of providers r.facts.sender ≡ Some r.id.provider
  pub named : IsNamed providers r (row_of r.kind).about r.recipient
  pub own : (row_of r.kind).elsewhere ≡ false → r.by ≡ r.id.provider

marked_again : (r : Receipt) (said : Said) (head : List NamedValue) → (passing : (wish : Wish) → first_value (codes "X-TipoRicevuta") head ≡ Some (wish_word wish) → is_wish_marked wish head ≡ true)
    → first_value (codes "X-TipoRicevuta") head ≡ option_map wish_word (marked_wish r said) → said.delivers ≡ true → is_wish_marked r.facts.wish head ≡ true
marked_again r said head passing found delivers =
    passing r.facts.wish (found ∙ ap (λ b. option_map wish_word (cond b (Some r.facts.wish) None)) delivers)

-- The letter that was composed is seen as what was composed.
pub seen_back : HavePlaces → (providers : List Provider) (r : Receipt) (issuer : Provider) (stamp : Instant) (said : Said) (message : Option Bytes) (letter : Letter)
    → Passing providers → Known providers r issuer → (row_of r.kind).said ≡ Some said → stamp.moment ≡ r.moment
    → IsReadBack r.by (receipt_heading providers r stamp (row_of r.kind) said) message (receipt_certificate providers issuer.name r stamp (row_of r.kind) said) letter
    → seen_of providers letter ≡ Ok (seen_again r)
unfolding certificate_of receipt_heading report_of
seen_back places providers r issuer stamp said message letter passing known says stamped back =
    let row = row_of r.kind
    in let cert = receipt_certificate providers issuer.name r stamp row said
    in let same : letter.cert ≡ cert = back.cert_is
    in let types : letter.cert.recipients ≡ map (typed providers) r.facts.recipients = ap (λ (c : CertData). c.recipients) same
    in let delivered : letter.cert.delivered ≡ delivered_to r row.about = ap (λ (c : CertData). c.delivered) same
    in let wished : letter.cert.wish ≡ cond said.wish (Some r.facts.wish) None = ap (λ (c : CertData). c.wish) same
    in let right : is_wished (Some said) letter.cert.wish letter.head ≡ true =
    ap (λ w. is_wished (Some said) w letter.head) wished
    ∙ wish_right said r.facts.wish letter.head said.wish said.delivers refl refl
    (marked_again r said letter.head (λ wish e. passing.wish wish letter.head e) back.found.wish)
    in passes providers r.kind r.id letter
    (kind_found places r.kind said letter says back.found.marking (ap (λ (c : CertData). c.kind) same) (ap (λ (c : CertData). c.error) same)
    (ap (λ (c : CertData). c.detail) same))
    (passing.id r.id (codes "X-Riferimento-Message-ID") letter known.within known.below (ap (λ (c : CertData). c.id) same) back.found.reference)
    (sealed_right providers r.id row letter
    (passing.issuer issuer letter (ap (slice_get providers) back.sealer ∙ known.issuer_is) (ap (λ (c : CertData). c.provider) same))
    (λ own. back.sealer ∙ known.own own))
    (passing.home r.id letter (ap (λ (c : CertData). home_of providers c.sender) same ∙ known.home))
    (recipients_right providers r row letter (passing.types r.facts.recipients letter types) types delivered known.named)
    (ap (λ s. is_wished s letter.cert.wish letter.head) says ∙ right)
    (passing.dated letter (back.found.date ∙ ap (λ (c : CertData). Some (header_date_of c.stamp)) (sym same)))
    ∙ ap (λ b. Ok (record { kind = r.kind; id = r.id; by = b; moment = letter.cert.stamp.moment; recipient = letter.cert.delivered })) back.sealer
    ∙ ap (λ m. Ok (record { kind = r.kind; id = r.id; by = r.by; moment = m; recipient = letter.cert.delivered })) (ap (λ (c : CertData). c.stamp.moment) same ∙ stamped)
    ∙ ap (λ d. Ok (record { kind = r.kind; id = r.id; by = r.by; moment = r.moment; recipient = d })) (delivered ∙ delivered_same providers r row.about r.recipient refl known.named)

-- ---- no reply

abbrev pub is_reply : Marking → Bool
is_reply markings.Transport = false
is_reply markings.Receipt = false
is_reply markings.Reply = true

no_reply : (marking : Marking) (word : Bytes) (reply : Option Bytes) (later : Option (Marking × Bytes)) → is_reply marking ≡ false
    → marked_or markings.Reply reply later ≡ Some (marking, word) → reply ≡ None
no_reply marking word None later other e = refl
no_reply marking word (Some value) later other e =
    let same : markings.Reply ≡ marking = ap (λ (x : Marking × Bytes). x.0) (same_Some (markings.Reply, value) (marking, word) e)
    in let never : true ≡ false = ap is_reply same ∙ other
    in absurd cc

-- the head of another letter has no field of an acknowledgement
pub none_acknowledged : (head : List NamedValue) (marking : Marking) (word : Bytes) → is_reply marking ≡ false → marking_of head ≡ Some (marking, word)
    → first_value (marking_name markings.Reply) head ≡ None
unfolding marking_of
none_acknowledged head marking word other e = no_reply marking word (first_value (marking_name markings.Reply) head) _ other e

-- ---- no kind

-- what is asked of a head that doesn't say that it is a receipt's has no kind
pub no_kind : (letter : Letter) (word : Bytes) → marking_of letter.head ≡ Some (markings.Transport, word) → kind_of letter ≡ None
unfolding kind_of says row_of
no_kind letter word e = ap (λ x. first_of x letter.cert.kind letter.cert.error letter.cert.detail) e

pub unseen : (providers : List Provider) (letter : Letter) → kind_of letter ≡ None → seen_of providers letter ≡ Err NotThis
unfolding seen_of
unseen providers letter e = rw e refl

-- ---- each kind

-- what certifies nothing is an acknowledgement
pub none_said : (kind : Kind) → (row_of kind).said ≡ None → kind ≡ kinds.Ack
unfolding row_of
none_said kinds.Acceptance e = absurd cc
none_said (kinds.NonAcceptance cause) e = absurd cc
none_said kinds.Charge e = absurd cc
none_said kinds.Delivery e = absurd cc
none_said (kinds.DeliveryError refusal) e = absurd cc
none_said kinds.VirusFound e = absurd cc
none_said kinds.Warning e = absurd cc
none_said kinds.Notice e = absurd cc
none_said kinds.LateNotice e = absurd cc
none_said kinds.Ack e = refl
