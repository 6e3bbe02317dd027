-- The test says which receipts can be given, and no text that is composed is empty.
use Rattle.std.proofs.Common.{◌≡◌, ◌↔◌, ℕ, ◌<◌, ◌≤◌, ◌^◌, ◌==◌, nat_lt, Bool, true, false, ◌&&◌, ◌||◌, cond, List, [], length, slice_get, Option, None, Some, option_map, refl, ap, sym, ◌∙◌, subst, arith}
use Rattle.std.specs.Prelude.{is_some}
use Rattle.std.specs.List.{AllByRecursion, list_all}
use Rattle.std.specs.Option.{IfSome, option_and_then}
use Rattle.std.proofs.lemmas.Bool.{and_from, and_parts, eqb-false, eqb-true, false≢true, leb-true, le-leb, lt-ltb, ltb-true}
use Rattle.std.proofs.lemmas.Option.{none-some, same_Some, slice_get_within}
use Rattle.pec_types.specs.Address.{IsLowerAddress}
use Rattle.pec_types.specs.Bytes.{Bytes, Path}
use Rattle.pec_types.specs.Message.{Id}
use Rattle.pec_types.specs.declared.messages.Cause.{Cause}
use Rattle.pec_types.specs.declared.messages.Facts.{Facts}
use Rattle.pec_types.specs.declared.receipts.Kind.{Kind}
use Rattle.pec_types.specs.declared.receipts.Kind.TheVariants as kinds
use Rattle.pec_cert.specs.ValueTests.{is_lower}
use Rattle.pec_directory.specs.Directory.{Kept, Provider, home_of, is_certified, is_number, providers_of}
use Rattle.pec_seal.specs.Seals.{Seals, line_text, sealed}
use Rattle.pec_letter_parts.specs.Headings.{Heading}
use Rattle.pec_letter_parts.specs.Sealing.{IsLetterText, letter_text}
use Rattle.pec_letters.specs.Anomalies.{IsAnomaly, anomaly_text}
use Rattle.pec_letters.specs.Envelopes.{envelope_text, text_by as envelope_by}
use Rattle.pec_receipts.specs.Kinds.{Said, row_of}
use Rattle.pec_receipts.specs.Receipts.{CanBeGiven, IsNamed, place_among, receipt_text, text_by}
use Rattle.pec_receipts.specs.declared.receipts.Receipt.{Receipt}
use Rattle.pec_ledger.specs.OfDirectory.{facts_in}
use Rattle.pec_ledger.specs.Trade.{Receipt as Stated}
use Rattle.pec_trade.specs.Giving.{can_be_given, is_named_so, is_short, names_one}
use Rattle.pec_trade.specs.Texts.{anomaly_bytes, envelope_bytes, envelope_from, given, given_text, or_none, receipt_bytes, refusal, refusal_bytes}
use Rattle.pec_trade.proofs.DirectoryLemmas.{home_within}
use Rattle.pec_trade.proofs.FrameLemmas.{Told, path_again, path_lower}
use Rattle.pec_trade.proofs.PathLemmas.{then_some}

-- ---- parts of the test

number_is : (number : ℕ) (found : Option ℕ) → is_number number found ≡ true → found ≡ Some number
number_is number None e = absurd (false≢true e)
number_is number (Some other) e = ap (λ (n : ℕ). Some n) (eqb-true other number e)

equal_number : (n : ℕ) → (n == n) ≡ true
equal_number n = by (n == n) refl
  where
    by : (t : Bool) → (n == n) ≡ t → t ≡ true
    by true e = refl
    by false e = absurd (eqb-false n n e refl)

pub number_again : (number : ℕ) (found : Option ℕ) → found ≡ Some number → is_number number found ≡ true
number_again number found e = ap (is_number number) e ∙ equal_number number

short_is : (subject : Option Bytes) → is_short subject ≡ true → IfSome subject (λ text. length text ≤ 900)
short_is None e = tt
short_is (Some subject) e = leb-true (length subject) 900 e

short_again : (subject : Option Bytes) → IfSome subject (λ text. length text ≤ 900) → is_short subject ≡ true
short_again None short = refl
short_again (Some subject) short = le-leb (length subject) 900 short

own_is : (elsewhere : Bool) (by provider : ℕ) → (elsewhere || by == provider) ≡ true → elsewhere ≡ false → by ≡ provider
own_is true by provider e f = absurd (false≢true (sym f))
own_is false by provider e f = eqb-true by provider e

own_again : (elsewhere : Bool) (by provider : ℕ) → (elsewhere ≡ false → by ≡ provider) → (elsewhere || by == provider) ≡ true
own_again true by provider own = refl
own_again false by provider own = ap (λ (n : ℕ). by == n) (sym (own refl)) ∙ equal_number by

found_is : {X : Type 0} (o : Option X) → is_some o ≡ true → (x : X) × (o ≡ Some x)
found_is None e = absurd (false≢true e)
found_is (Some x) e = (x, refl)

module _ (providers : List Provider) (r : Receipt) where
  abbrev Named : Kind → Option Bytes → Type 0
  Named kind recipient = IsNamed providers r (row_of kind).about recipient

  abbrev tested : Kind → Option Bytes → Bool
  tested kind recipient = is_named_so providers r.facts.recipients (names_one kind) recipient

  none_so : (recipient : Option Bytes) → is_named_so providers r.facts.recipients false recipient ≡ true → recipient ≡ None
  none_so None e = refl
  none_so (Some address) e = absurd (false≢true e)

  one_so : (address : Bytes) → (is_certified providers address && is_some (place_among r.facts.recipients address)) ≡ true
      → (is_certified providers address ≡ true) × ((place : ℕ) × (place_among r.facts.recipients address ≡ Some place))
  one_so address e =
      let parts = and_parts (is_certified providers address) (is_some (place_among r.facts.recipients address)) e
      in (parts.0, found_is (place_among r.facts.recipients address) parts.1)

  named_is : (kind : Kind) (recipient : Option Bytes) → tested kind recipient ≡ true → Named kind recipient
  unfolding row_of
  named_is kinds.Acceptance recipient e = none_so recipient e
  named_is (kinds.NonAcceptance cause) recipient e = none_so recipient e
  named_is kinds.Charge recipient e = none_so recipient e
  named_is kinds.Delivery None e = absurd (false≢true e)
  named_is kinds.Delivery (Some address) e = one_so address e
  named_is (kinds.DeliveryError refusal) None e = absurd (false≢true e)
  named_is (kinds.DeliveryError refusal) (Some address) e = one_so address e
  named_is kinds.VirusFound None e = absurd (false≢true e)
  named_is kinds.VirusFound (Some address) e = one_so address e
  named_is kinds.Warning None e = absurd (false≢true e)
  named_is kinds.Warning (Some address) e = one_so address e
  named_is kinds.Notice None e = absurd (false≢true e)
  named_is kinds.Notice (Some address) e = one_so address e
  named_is kinds.LateNotice None e = absurd (false≢true e)
  named_is kinds.LateNotice (Some address) e = one_so address e
  named_is kinds.Ack None e = absurd (false≢true e)
  named_is kinds.Ack (Some address) e = one_so address e

  none_again : (recipient : Option Bytes) → recipient ≡ None → is_named_so providers r.facts.recipients false recipient ≡ true
  none_again recipient e = ap (is_named_so providers r.facts.recipients false) e

  one_again : (address : Bytes) → (is_certified providers address ≡ true) × ((place : ℕ) × (place_among r.facts.recipients address ≡ Some place))
      → (is_certified providers address && is_some (place_among r.facts.recipients address)) ≡ true
  one_again address is = and_from (is_certified providers address) (is_some (place_among r.facts.recipients address)) is.0 (ap is_some is.1.1)

  named_again : (kind : Kind) (recipient : Option Bytes) → Named kind recipient → tested kind recipient ≡ true
  unfolding row_of
  named_again kinds.Acceptance recipient is = none_again recipient is
  named_again (kinds.NonAcceptance cause) recipient is = none_again recipient is
  named_again kinds.Charge recipient is = none_again recipient is
  named_again kinds.Delivery None is = absurd is
  named_again kinds.Delivery (Some address) is = one_again address is
  named_again (kinds.DeliveryError refusal) None is = absurd is
  named_again (kinds.DeliveryError refusal) (Some address) is = one_again address is
  named_again kinds.VirusFound None is = absurd is
  named_again kinds.VirusFound (Some address) is = one_again address is
  named_again kinds.Warning None is = absurd is
  named_again kinds.Warning (Some address) is = one_again address is
  named_again kinds.Notice None is = absurd is
  named_again kinds.Notice (Some address) is = one_again address is
  named_again kinds.LateNotice None is = absurd is
  named_again kinds.LateNotice (Some address) is = one_again address is
  named_again kinds.Ack None is = absurd is
  named_again kinds.Ack (Some address) is = one_again address is

  abbrev place_test : Bool
  place_test = nat_lt r.by (length providers) && ((row_of r.kind).elsewhere || r.by == r.id.provider)

  abbrev home_test : Bool
  home_test = is_number r.id.provider (home_of providers r.facts.sender)

  abbrev facts_test : Bool
  facts_test = nat_lt 0 (length r.facts.recipients) && is_short r.facts.subject

  can_be : can_be_given providers r ≡ true → CanBeGiven providers r
  unfolding can_be_given
  can_be e =
      let halves = and_parts (place_test && home_test) (facts_test && tested r.kind r.recipient) e
      in let first = and_parts place_test home_test halves.0
      in let place = and_parts (nat_lt r.by (length providers)) ((row_of r.kind).elsewhere || r.by == r.id.provider) first.0
      in let second = and_parts facts_test (tested r.kind r.recipient) halves.1
      in let facts = and_parts (nat_lt 0 (length r.facts.recipients)) (is_short r.facts.subject) second.0
      in let home = number_is r.id.provider (home_of providers r.facts.sender) first.1
      in record {
        by_is = ltb-true r.by (length providers) place.0;
        provider_is = home_within providers r.facts.sender r.id.provider home;
        home = home;
        recipients = ltb-true 0 (length r.facts.recipients) facts.0;
        subject = short_is r.facts.subject facts.1;
        named = named_is r.kind r.recipient second.1;
        own = own_is (row_of r.kind).elsewhere r.by r.id.provider place.1;
      }

  pub can_again : CanBeGiven providers r → can_be_given providers r ≡ true
  unfolding can_be_given
  can_again can =
      and_from (place_test && home_test) (facts_test && tested r.kind r.recipient)
      (and_from place_test home_test
      (and_from (nat_lt r.by (length providers)) ((row_of r.kind).elsewhere || r.by == r.id.provider) (lt-ltb r.by (length providers) can.by_is)
      (own_again (row_of r.kind).elsewhere r.by r.id.provider can.own))
      (number_again r.id.provider (home_of providers r.facts.sender) can.home))
      (and_from facts_test (tested r.kind r.recipient)
      (and_from (nat_lt 0 (length r.facts.recipients)) (is_short r.facts.subject) (lt-ltb 0 (length r.facts.recipients) can.recipients)
      (short_again r.facts.subject can.subject))
      (named_again r.kind r.recipient can.named))

  -- The test is true exactly of what can be given.
  pub can_is : (can_be_given providers r ≡ true) ↔ CanBeGiven providers r
  can_is = (can_be, can_again)

-- ---- no text is empty

sealed_some : (seals : Seals) (provider : ℕ) (bytes text : Bytes) → sealed seals provider bytes ≡ Some text → 0 < length text
sealed_some seals provider bytes text e = by (seals.name_of provider) e
  where
    by : (found : Option Bytes) → option_map (λ (name : Bytes). line_text (record { name = name; tag = seals.tag_of provider bytes; bytes = bytes })) found ≡ Some text
        → 0 < length text
    by None f = absurd (none-some text f)
    by (Some name) f =
        subst (λ (t : Bytes). 0 < length t) (same_Some (line_text (record { name = name; tag = seals.tag_of provider bytes; bytes = bytes })) text f) (omega arith)

-- what the law of letters as texts says
abbrev pub Letters : Type 0
Letters = (seals : Seals) (provider : ℕ) (heading : Heading) (parts : List Bytes) (text : Bytes)
    → (letter_text seals provider heading parts ≡ Some text) ↔ IsLetterText seals provider heading parts text

letter_some : Letters → (seals : Seals) (provider : ℕ) (heading : Heading) (parts : List Bytes) (text : Bytes) → letter_text seals provider heading parts ≡ Some text
    → 0 < length text
letter_some letters seals provider heading parts text e =
    sealed_some seals provider _ text ((letters seals provider heading parts text).0 e).text_is

pub envelope_some : Letters → (seals : Seals) (kept : List Kept) (id : Id) (moment : ℕ) (facts : Facts) (original text : Bytes)
    → envelope_text seals kept id moment facts original ≡ Some text → 0 < length text
unfolding envelope_text
envelope_some letters seals kept id moment facts original text e =
    letter_some letters seals id.provider _ _ text
    (then_some (slice_get kept id.provider) (envelope_by seals (providers_of kept) id moment facts original) text e).1.1

receipt_some_by : Letters → (seals : Seals) (kept : List Kept) (r : Receipt) (original text : Bytes) (found : Option Said)
    → option_and_then (text_by seals (providers_of kept) r original (row_of r.kind) found) (slice_get kept r.by) ≡ Some text → 0 < length text
receipt_some_by letters seals kept r original text None e =
    sealed_some seals r.by _ text (then_some (slice_get kept r.by) (text_by seals (providers_of kept) r original (row_of r.kind) None) text e).1.1
receipt_some_by letters seals kept r original text (Some said) e =
    letter_some letters seals r.by _ _ text
    (then_some (slice_get kept r.by) (text_by seals (providers_of kept) r original (row_of r.kind) (Some said)) text e).1.1

pub receipt_some : Letters → (seals : Seals) (kept : List Kept) (r : Receipt) (original text : Bytes) → receipt_text seals kept r original ≡ Some text → 0 < length text
unfolding receipt_text
receipt_some letters seals kept r original text e = receipt_some_by letters seals kept r original text (row_of r.kind).said e

pub anomaly_some : (seals : Seals) (kept : List Kept) (provider number moment : ℕ) (message text : Bytes) → IsAnomaly seals kept provider number moment message text
    → 0 < length text
anomaly_some seals kept provider number moment message text is = sealed_some seals provider _ text is.text_is.text_is

-- ---- texts of the trade

module _ (kept : List Kept) (seals : Seals) where
  -- An envelope that is composed is the trade's, and there is no other.
  pub envelope_so : (id : Id) (moment : ℕ) (facts : Facts) (original text : Bytes) → facts_in original ≡ Some facts
      → home_of (providers_of kept) facts.sender ≡ Some id.provider → envelope_text seals kept id moment facts original ≡ Some text
      → envelope_bytes kept seals id moment original ≡ text
  unfolding envelope_bytes
  envelope_so id moment facts original text are home there =
      ap (λ (o : Option Facts). or_none (option_and_then (envelope_from kept seals id moment original) o)) are
      ∙ ap (λ (t : Bool). or_none (cond t (envelope_text seals kept id moment facts original) None))
      (number_again id.provider (home_of (providers_of kept) facts.sender) home)
      ∙ ap or_none there

  no_envelope_by : (id : Id) (moment : ℕ) (original : Bytes) (facts : Facts) (t : Bool) → is_number id.provider (home_of (providers_of kept) facts.sender) ≡ t
      → (home_of (providers_of kept) facts.sender ≡ Some id.provider → ⊥) → or_none (cond t (envelope_text seals kept id moment facts original) None) ≡ []
  no_envelope_by id moment original facts true e none = absurd (none (number_is id.provider (home_of (providers_of kept) facts.sender) e))
  no_envelope_by id moment original facts false e none = refl

  pub no_envelope : (id : Id) (moment : ℕ) (original : Bytes)
      → ((facts : Facts) → facts_in original ≡ Some facts → home_of (providers_of kept) facts.sender ≡ Some id.provider → ⊥)
      → envelope_bytes kept seals id moment original ≡ []
  unfolding envelope_bytes
  no_envelope id moment original none = by (facts_in original) refl
    where
      by : (found : Option Facts) → facts_in original ≡ found → or_none (option_and_then (envelope_from kept seals id moment original) found) ≡ []
      by None e = refl
      by (Some facts) e =
          no_envelope_by id moment original facts (is_number id.provider (home_of (providers_of kept) facts.sender)) refl (none facts e)

  -- So with a receipt that a provider may give.
  pub given_so : (r : Receipt) (original text : Bytes) → CanBeGiven (providers_of kept) r → receipt_text seals kept r original ≡ Some text
      → given_text kept seals r original ≡ Some text
  given_so r original text can there =
      ap (λ (t : Bool). cond t (receipt_text seals kept r original) None) (can_again (providers_of kept) r can) ∙ there

  not_given_by : (r : Receipt) (original : Bytes) (t : Bool) → can_be_given (providers_of kept) r ≡ t → (CanBeGiven (providers_of kept) r → ⊥)
      → cond t (receipt_text seals kept r original) None ≡ None
  not_given_by r original true e none = absurd (none ((can_is (providers_of kept) r).0 e))
  not_given_by r original false e none = refl

  pub not_given : (r : Receipt) (original : Bytes) → (CanBeGiven (providers_of kept) r → ⊥) → given_text kept seals r original ≡ None
  not_given r original none = not_given_by r original (can_be_given (providers_of kept) r) refl none

  pub receipt_so : (receipt : Stated) (facts : Facts) (original text : Bytes) → facts_in original ≡ Some facts → CanBeGiven (providers_of kept) (given receipt facts)
      → receipt_text seals kept (given receipt facts) original ≡ Some text → receipt_bytes kept seals receipt original ≡ text
  unfolding receipt_bytes
  receipt_so receipt facts original text are can there =
      ap (λ (o : Option Facts). or_none (option_and_then (λ (f : Facts). given_text kept seals (given receipt f) original) o)) are
      ∙ ap or_none (given_so (given receipt facts) original text can there)

  pub no_receipt : (receipt : Stated) (original : Bytes) → ((facts : Facts) → facts_in original ≡ Some facts → CanBeGiven (providers_of kept) (given receipt facts) → ⊥)
      → receipt_bytes kept seals receipt original ≡ []
  unfolding receipt_bytes
  no_receipt receipt original none = by (facts_in original) refl
    where
      by : (found : Option Facts) → facts_in original ≡ found
          → or_none (option_and_then (λ (f : Facts). given_text kept seals (given receipt f) original) found) ≡ []
      by None e = refl
      by (Some facts) e = ap or_none (not_given (given receipt facts) original (none facts e))

  pub refusal_so : Told → (id : Id) (moment : ℕ) (account : Bytes) (cause : Cause) (path : Path) (message text : Bytes) → AllByRecursion IsLowerAddress path
      → CanBeGiven (providers_of kept) (refusal id moment account cause path message)
      → receipt_text seals kept (refusal id moment account cause path message) message ≡ Some text → refusal_bytes kept seals id moment account cause path message ≡ text
  unfolding refusal_bytes
  refusal_so told id moment account cause path message text lower can there =
      ap (λ (t : Bool). cond t (or_none (given_text kept seals (refusal id moment account cause path message) message)) []) (path_again told path lower)
      ∙ ap or_none (given_so (refusal id moment account cause path message) message text can there)

  pub no_refusal : Told → (id : Id) (moment : ℕ) (account : Bytes) (cause : Cause) (path : Path) (message : Bytes)
      → (AllByRecursion IsLowerAddress path → CanBeGiven (providers_of kept) (refusal id moment account cause path message) → ⊥)
      → refusal_bytes kept seals id moment account cause path message ≡ []
  unfolding refusal_bytes
  no_refusal told id moment account cause path message none = by (list_all is_lower path) refl
    where
      by : (t : Bool) → list_all is_lower path ≡ t → cond t (or_none (given_text kept seals (refusal id moment account cause path message) message)) [] ≡ []
      by true e = ap or_none (not_given (refusal id moment account cause path message) message (none (path_lower told path e)))
      by false e = refl

  pub anomaly_so : (provider entry moment : ℕ) (message text : Bytes) → entry < 2 ^ 64 → anomaly_text seals kept provider entry moment message ≡ Some text
      → anomaly_bytes kept seals provider entry moment message ≡ text
  unfolding anomaly_bytes
  anomaly_so provider entry moment message text small there =
      ap (λ (t : Bool). cond t (or_none (anomaly_text seals kept provider entry moment message)) []) (lt-ltb entry (2 ^ 64) small) ∙ ap or_none there

  no_provider : (provider entry moment : ℕ) (message : Bytes) (found : Option Kept) → slice_get kept provider ≡ found → (provider < length kept → ⊥)
      → anomaly_text seals kept provider entry moment message ≡ None
  unfolding anomaly_text
  no_provider provider entry moment message (Some one) e none = absurd (none (slice_get_within kept provider one e))
  no_provider provider entry moment message None e none = rw e refl

  pub no_anomaly : (provider entry moment : ℕ) (message : Bytes) → (entry < 2 ^ 64 → provider < length kept → ⊥)
      → anomaly_bytes kept seals provider entry moment message ≡ []
  unfolding anomaly_bytes
  no_anomaly provider entry moment message none = by (nat_lt entry (2 ^ 64)) refl
    where
      by : (t : Bool) → nat_lt entry (2 ^ 64) ≡ t → cond t (or_none (anomaly_text seals kept provider entry moment message)) [] ≡ []
      by true e = ap or_none (no_provider provider entry moment message (slice_get kept provider) refl (none (ltb-true entry (2 ^ 64) e)))
      by false e = refl
