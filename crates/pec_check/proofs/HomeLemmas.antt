-- A receipt that tells what became of a message at its recipient's provider names a recipient who has a home.
use Rattle.std.proofs.Common.{◌≡◌, ℕ, List, [], ◌∷◌, ◌++◌, Bool, true, false, not, ◌||◌, Option, None, Some, Result, Ok, Err, inl, inr, refl, ap, sym, subst, ◌∙◌, codes, cond}
use Rattle.std.specs.Prelude.{is_some}
use Rattle.std.specs.List.{list_all, list_any}
use Rattle.std.specs.Str.{bytes_eq}
use Rattle.std.proofs.lemmas.Bool.{and_parts, cases_Bool}
use Rattle.std.proofs.lemmas.Slice.Eq.{bytes_eq-Decides}
use Rattle.pec_types.specs.AddressReading.{address_of}
use Rattle.pec_types.specs.Bytes.{Bytes, after_front}
use Rattle.pec_types.specs.Message.{Id}
use Rattle.pec_types.specs.Results.{◌>>=◌}
use Rattle.pec_types.specs.declared.disputes.Disputed.TheVariants as disputed
use Rattle.pec_types.specs.declared.disputes.LetterFault.{LetterFault}
use Rattle.pec_types.specs.declared.disputes.LetterFault.TheVariants.{Disagree, NotThis}
use Rattle.pec_types.specs.declared.messages.Refusal.TheVariants as refusals
use Rattle.pec_types.specs.declared.receipts.Kind.{Kind}
use Rattle.pec_types.specs.declared.receipts.Kind.TheVariants as kinds
use Rattle.pec_cert.specs.declared.certificates.CertRecipient.{CertRecipient}
use Rattle.pec_directory.specs.Directory.{Provider, home_of, is_certified}
use Rattle.pec_directory.specs.Ids.{id_of}
use Rattle.pec_seal.specs.Seals.{Seals}
use Rattle.pec_letter_parts.specs.Asking.{claim, known, readable}
use Rattle.pec_letter_parts.specs.Letters.{Headed, Letter}
use Rattle.pec_letter_parts.specs.LettersReading.{headed_of, letter_in}
use Rattle.pec_letter_parts.specs.Told.{ok_is}
use Rattle.pec_letter_facts.specs.Questions.{are_typed, id_named, is_dated, is_from_home, is_typed}
use Rattle.pec_receipts.specs.Kinds.{row_of}
use Rattle.pec_receipts.specs.Seen.{acknowledged, are_recipients, is_certified_one, is_delivered, is_one, is_sealed, is_wished, kind_of, moment_acknowledged, name_acknowledged, reply_of, seen_of}
use Rattle.pec_receipts.specs.SeenReading.{seen_by, seen_in, view}
use Rattle.pec_receipts.specs.declared.reading.ReceiptView.{ReceiptView}
use Rattle.pec_check.specs.Genuine.{IsHome, sealing_of}
use Rattle.pec_check.specs.declared.sealing.Sealing.TheVariants.{Anyone, RecipientsHome}

-- ---- rows of a table that were passed

passed : {X Y E : Type 0} (r : Result X E) (next : X → Result Y E) (y : Y) → (r >>= next) ≡ Ok y → (x : X) × ((r ≡ Ok x) × (next x ≡ Ok y))
passed (Ok x) next y e = (x, (refl, e))
passed (Err fault) next y e = absurd (cc e)

knew : {X Y E : Type 0} (o : Option X) (fault : E) (next : X → Result Y E) (y : Y) → (known o fault >>= next) ≡ Ok y
    → (x : X) × ((o ≡ Some x) × (next x ≡ Ok y))
knew (Some x) fault next y e = (x, (refl, e))
knew None fault next y e = absurd (cc e)

claimed : {Y E : Type 0} (b : Bool) (fault : E) (next : Result Y E) (y : Y) → (claim b fault >>= λ passes. next) ≡ Ok y
    → (b ≡ true) × (next ≡ Ok y)
claimed true fault next y e = (refl, e)
claimed false fault next y e = absurd (cc e)

-- an answer is what is seen
abbrev Shows : Result ReceiptView LetterFault → ReceiptView → Type 0
Shows r seen = r ≡ Ok seen

same_view : (view seen : ReceiptView) → Shows (Ok view) seen → view ≡ seen
same_view view seen e = ok_is (Ok view) view seen refl e

same_kind : (view seen : ReceiptView) → Shows (Ok view) seen → view.kind ≡ seen.kind
same_kind view seen e = ap (λ (v : ReceiptView). v.kind) (same_view view seen e)

-- ---- letters

module _ (providers : List Provider) (letter : Letter) where
  abbrev as_seen : Kind → Id → ReceiptView
  as_seen kind id = record { kind = kind; id = id; by = letter.sealer; moment = letter.cert.stamp.moment; recipient = letter.cert.delivered }

  abbrev on_date : Kind → Id → Result ReceiptView LetterFault
  on_date kind id = claim (is_dated letter) (Disagree disputed.Moment) >>= λ date. Ok (as_seen kind id)

  abbrev on_wish : Kind → Id → Result ReceiptView LetterFault
  on_wish kind id = claim (is_wished (row_of kind).said letter.cert.wish letter.head) (Disagree disputed.Wish) >>= λ wish. on_date kind id

  abbrev on_recipients : Kind → Id → Result ReceiptView LetterFault
  on_recipients kind id = claim (are_recipients providers (row_of kind) letter) (Disagree disputed.Recipient) >>= λ recipients. on_wish kind id

  abbrev on_sender : Kind → Id → Result ReceiptView LetterFault
  on_sender kind id = claim (is_from_home providers id letter) (Disagree disputed.Sender) >>= λ sender. on_recipients kind id

  abbrev on_sealer : Kind → Id → Result ReceiptView LetterFault
  on_sealer kind id = claim (is_sealed providers id (row_of kind) letter) (Disagree disputed.Sealer) >>= λ sealer. on_sender kind id

  abbrev on_id : Kind → Result ReceiptView LetterFault
  on_id kind = known (id_named providers (codes "X-Riferimento-Message-ID") letter) (Disagree disputed.Identifier) >>= λ id. on_sealer kind id

  -- the recipients of a letter that is seen are those of its kind
  recipients_passed : (seen : ReceiptView) → seen_of providers letter ≡ Ok seen
      → (are_recipients providers (row_of seen.kind) letter ≡ true) × (letter.cert.delivered ≡ seen.recipient)
  unfolding seen_of
  recipients_passed seen e =
      let k = knew (kind_of letter) NotThis on_id seen e
      in let i = knew (id_named providers (codes "X-Riferimento-Message-ID") letter) (Disagree disputed.Identifier) (on_sealer k.0) seen k.1.1
      in let s = claimed (is_sealed providers i.0 (row_of k.0) letter) (Disagree disputed.Sealer) (on_sender k.0 i.0) seen i.1.1
      in let h = claimed (is_from_home providers i.0 letter) (Disagree disputed.Sender) (on_recipients k.0 i.0) seen s.1
      in let r = claimed (are_recipients providers (row_of k.0) letter) (Disagree disputed.Recipient) (on_wish k.0 i.0) seen h.1
      in let w = claimed (is_wished (row_of k.0).said letter.cert.wish letter.head) (Disagree disputed.Wish) (on_date k.0 i.0) seen r.1
      in let d = claimed (is_dated letter) (Disagree disputed.Moment) (Ok (as_seen k.0 i.0)) seen w.1
      in let same : as_seen k.0 i.0 ≡ seen = same_view (as_seen k.0 i.0) seen d.1
      in subst (λ (v : ReceiptView). (are_recipients providers (row_of v.kind) letter ≡ true) × (letter.cert.delivered ≡ v.recipient)) same (r.0, refl)

  some_home : (home : Option ℕ) → is_some home ≡ true → (provider : ℕ) × (home ≡ Some provider)
  some_home None e = absurd (cc e)
  some_home (Some provider) e = (provider, refl)

  -- a recipient that is certified and has its right type is at home somewhere
  at_home : (address : Bytes) (recipients : List CertRecipient) → list_all (is_typed providers) recipients ≡ true
      → list_any (is_certified_one address) recipients ≡ true → (provider : ℕ) × (home_of providers address ≡ Some provider)
  at_home address [] typed among = absurd (cc among)
  at_home address (recipient ∷ more) typed among =
      elim (cases_Bool (is_certified_one address recipient)) [
        | inl here ↦
            let one = and_parts recipient.certified (bytes_eq recipient.address address) here
            in let right = (and_parts (is_typed providers recipient) (list_all (is_typed providers) more) typed).0
            in let certified : is_certified providers recipient.address ≡ true =
            sym (ap (λ (b : Bool). cond b (is_certified providers recipient.address) (not (is_certified providers recipient.address))) one.0) ∙ right
            in some_home (home_of providers address)
            (subst (λ (a : Bytes). is_certified providers a ≡ true) ((bytes_eq-Decides recipient.address address).0 one.1) certified)
        | inr other ↦
            at_home address more (and_parts (is_typed providers recipient) (list_all (is_typed providers) more) typed).1
            (sym (ap (λ (b : Bool). b || list_any (is_certified_one address) more) other) ∙ among)
      ]

  -- where exactly one recipient is to be named, it is at home somewhere
  one_home : (delivered : Option Bytes) → list_all (is_typed providers) letter.cert.recipients ≡ true
      → is_one letter.cert.recipients delivered ≡ true → (provider : ℕ) × IsHome providers delivered provider
  one_home None typed one = absurd (cc one)
  one_home (Some address) typed one = at_home address letter.cert.recipients typed one

  delivered_home : (kind : Kind) → sealing_of kind ≡ RecipientsHome → are_recipients providers (row_of kind) letter ≡ true
      → (provider : ℕ) × IsHome providers letter.cert.delivered provider
  unfolding are_recipients are_typed is_delivered row_of
  delivered_home kinds.Acceptance s e = absurd (cc s)
  delivered_home (kinds.NonAcceptance cause) s e = absurd (cc s)
  delivered_home kinds.Charge s e = absurd (cc s)
  delivered_home kinds.Delivery s e =
      let p = and_parts (list_all (is_typed providers) letter.cert.recipients) (is_one letter.cert.recipients letter.cert.delivered) e
      in one_home letter.cert.delivered p.0 p.1
  delivered_home (kinds.DeliveryError refusals.NoMailbox) s e =
      let p = and_parts (list_all (is_typed providers) letter.cert.recipients) (is_one letter.cert.recipients letter.cert.delivered) e
      in one_home letter.cert.delivered p.0 p.1
  delivered_home (kinds.DeliveryError refusals.MailboxFull) s e =
      let p = and_parts (list_all (is_typed providers) letter.cert.recipients) (is_one letter.cert.recipients letter.cert.delivered) e
      in one_home letter.cert.delivered p.0 p.1
  delivered_home (kinds.DeliveryError refusals.Virus) s e = absurd (cc s)
  delivered_home kinds.VirusFound s e =
      let p = and_parts (list_all (is_typed providers) letter.cert.recipients) (is_one letter.cert.recipients letter.cert.delivered) e
      in one_home letter.cert.delivered p.0 p.1
  delivered_home kinds.Warning s e = absurd (cc s)
  delivered_home kinds.Notice s e = absurd (cc s)
  delivered_home kinds.LateNotice s e = absurd (cc s)
  delivered_home kinds.Ack s e = absurd (cc s)

  letter_home : (seen : ReceiptView) → seen_of providers letter ≡ Ok seen → sealing_of seen.kind ≡ RecipientsHome
      → (provider : ℕ) × IsHome providers seen.recipient provider
  letter_home seen e s =
      let r = recipients_passed seen e
      in subst (λ (o : Option Bytes). (provider : ℕ) × IsHome providers o provider) r.1 (delivered_home seen.kind s r.0)

-- ---- acknowledgements

module _ (providers : List Provider) (read : Headed) where
  abbrev acked : Id → Bytes → ℕ → ReceiptView
  acked id recipient moment = record { kind = kinds.Ack; id = id; by = read.sealer; moment = moment; recipient = Some recipient }

  abbrev on_moment : Id → Bytes → Result ReceiptView LetterFault
  on_moment id recipient = known (moment_acknowledged read.head) (Disagree disputed.Moment) >>= λ moment. Ok (acked id recipient moment)

  abbrev on_recipient : Id → Bytes → Result ReceiptView LetterFault
  on_recipient id rest = readable (address_of rest) (Disagree disputed.Recipient) >>= on_moment id

  abbrev on_rest : Bytes → Bytes → Id → Result ReceiptView LetterFault
  on_rest value name id = known (after_front (name ++ codes " ") value) (Disagree disputed.Recipient) >>= on_recipient id

  abbrev on_name : Bytes → Bytes → Result ReceiptView LetterFault
  on_name value name = known (id_of providers name) (Disagree disputed.Identifier) >>= on_rest value name

  -- an acknowledgement is of its kind
  ack_kind : (value : Bytes) (seen : ReceiptView) → acknowledged providers read value ≡ Ok seen → kinds.Ack ≡ seen.kind
  unfolding acknowledged
  ack_kind value seen e =
      let n = knew (name_acknowledged read.head) (Disagree disputed.Identifier) (on_name value) seen e
      in let i = knew (id_of providers n.0) (Disagree disputed.Identifier) (on_rest value n.0) seen n.1.1
      in let r = knew (after_front (n.0 ++ codes " ") value) (Disagree disputed.Recipient) (on_recipient i.0) seen i.1.1
      in let a = passed (readable (address_of r.0) (Disagree disputed.Recipient)) (on_moment i.0) seen r.1.1
      in let m = knew (moment_acknowledged read.head) (Disagree disputed.Moment) (λ moment. Ok (acked i.0 a.0 moment)) seen a.1.1
      in same_kind (acked i.0 a.0 m.0) seen m.1.1

-- ---- texts

by_home : (providers : List Provider) (read : Headed) (reply : Option Bytes) (seen : ReceiptView) → seen_by providers read reply ≡ Ok seen
    → sealing_of seen.kind ≡ RecipientsHome → (provider : ℕ) × IsHome providers seen.recipient provider
by_home providers read None seen e s =
    let p = passed (letter_in read) (seen_of providers) seen e in letter_home providers p.0 seen p.1.1 s
by_home providers read (Some value) seen e s =
    absurd (not_anyone (ap sealing_of (ack_kind providers read value seen e) ∙ s))
  where
    not_anyone : Anyone ≡ RecipientsHome → ⊥
    not_anyone e = cc e

-- What is seen as a receipt that the recipient's provider has to seal names a recipient with a home.
pub home_named : (seals : Seals) (providers : List Provider) (text : Bytes) (seen : ReceiptView) → view seals providers text ≡ Ok seen
    → sealing_of seen.kind ≡ RecipientsHome → (provider : ℕ) × IsHome providers seen.recipient provider
unfolding view seen_in
home_named seals providers text seen e s =
    let p = passed (headed_of seals text) (seen_in providers) seen e in by_home providers p.0 (reply_of p.0) seen p.1.1 s
