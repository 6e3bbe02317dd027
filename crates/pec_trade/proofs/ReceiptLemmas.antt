-- A receipt that can be composed is there, and is seen as what it was composed of.
use Rattle.std.proofs.Common.{◌≡◌, zero, suc, ◌<◌, ◌^◌, false, List, [], ◌∷◌, ◌⊎◌, inl, inr, length, map, Option, None, Some, Ok, ap, sym, ◌∙◌, subst, arith}
use Rattle.std.specs.Prelude.{Contains}
use Rattle.std.specs.List.{AllByRecursion}
use Rattle.std.specs.Option.{IfSome}
use Rattle.std.proofs.lemmas.Bool.{false≢true}
use Rattle.pec_types.specs.Address.{IsLowerAddress}
use Rattle.pec_types.specs.Bytes.{Bytes}
use Rattle.pec_types.specs.declared.messages.Facts.{Facts}
use Rattle.pec_types.specs.declared.messages.Recipient.{Recipient}
use Rattle.pec_types.specs.declared.messages.TheConstants.{MESSAGES}
use Rattle.pec_types.specs.declared.moments.TheConstants.{END_OF_TIME}
use Rattle.pec_types.specs.declared.receipts.Kind.{Kind}
use Rattle.pec_types.specs.declared.receipts.Kind.TheVariants as kinds
use Rattle.pec_directory.specs.Directory.{Kept, providers_of}
use Rattle.pec_directory.specs.Lawful.{IsLawful}
use Rattle.pec_seal.specs.Seals.{Seals}
use Rattle.pec_letter_facts.specs.Certifying.{ArePrintable}
use Rattle.pec_letters.specs.Fitting.{Fits}
use Rattle.pec_receipts.specs.Kinds.{row_of}
use Rattle.pec_receipts.specs.Receipts.{CanBeGiven, IsNamed, IsReceipt, receipt_text}
use Rattle.pec_receipts.specs.Seen.{seen_again}
use Rattle.pec_receipts.specs.SeenReading.{view as receipt_view}
use Rattle.pec_receipts.specs.declared.receipts.Receipt.{Receipt as Given}
use Rattle.pec_ledger.specs.Trade.{Receipt, SeenReceipt}
use Rattle.pec_ledger.specs.TradeLaws.{CanBeComposed, IsOfKind, Names}
use Rattle.pec_trade.specs.Texts.{given, receipt_bytes, seen_in}
use Rattle.pec_trade.specs.TradeOf.{trade_of}
use Rattle.pec_trade.proofs.DirectoryLemmas.{issuer_at, name_short, named_by as name_is, provider_at}
use Rattle.pec_trade.proofs.GivingLemmas.{receipt_so}
use Rattle.pec_trade.proofs.PathLemmas.{placed}
use Rattle.pec_trade.proofs.SeenLemmas.{Views, as_receipt}
use Rattle.pec_trade.proofs.SentLemmas.{Sent}
use Rattle.pec_trade.proofs.TextLemmas.{Stands, Texts, receipt_is, receipt_there}

-- what the laws of receipts say of a sealer
pub record Receipts (seals : Seals) : Type 0 where
  pub texts : Texts
  pub views : Views seals
  pub seen : (kept : List Kept) (r : Given) (original text : Bytes) → IsLawful (providers_of kept) → CanBeGiven (providers_of kept) r → ArePrintable r.facts
      → r.id.number < MESSAGES → r.moment < END_OF_TIME → length r.facts.recipients < 2 ^ 64 → IsReceipt seals kept r original text
      → receipt_view seals (providers_of kept) text ≡ Ok (seen_again r)

-- ---- recipients

lower_among : (all : List Recipient) (a : Bytes) → AllByRecursion (λ (r : Recipient). IsLowerAddress r.address) all → Contains (map (λ (r : Recipient). r.address) all) a
    → IsLowerAddress a
lower_among [] a lower (k, within, is) = absurd (omega arith)
lower_among (r ∷ all) a lower (zero, within, is) = subst IsLowerAddress is lower.0
lower_among (r ∷ all) a lower (suc k, within, is) = lower_among all a lower.1 (k, omega arith, is)

module _ (kept : List Kept) (seals : Seals) (receipt : Receipt) (facts : Facts) where
  abbrev pub OfKind : Kind → Type 0
  OfKind kind = IsOfKind (trade_of kept seals) facts kind receipt

  -- the recipient that is named, if one is
  abbrev pub Named : Type 0
  Named = (receipt.recipient ≡ None) ⊎ Names (trade_of kept seals) facts receipt.recipient

  pub named_or_not : (kind : Kind) → OfKind kind → Named
  named_or_not kinds.Acceptance of = inl of.1
  named_or_not (kinds.NonAcceptance cause) of = absurd of
  named_or_not kinds.Charge of = inl of
  named_or_not kinds.Delivery of = inr of
  named_or_not (kinds.DeliveryError refusal) of = inr of
  named_or_not kinds.VirusFound of = inr of
  named_or_not kinds.Warning of = inr of.1
  named_or_not kinds.Notice of = inr of.1
  named_or_not kinds.LateNotice of = inr of.1
  named_or_not kinds.Ack of = inr of

  pub lower_named : ArePrintable facts → Named → IfSome receipt.recipient IsLowerAddress
  lower_named printable (inl none) = subst (λ (o : Option Bytes). IfSome o IsLowerAddress) (sym none) tt
  lower_named printable (inr names) =
      subst (λ (o : Option Bytes). IfSome o IsLowerAddress) (sym names.is) (lower_among facts.recipients names.address printable.recipients names.among)

  -- the same in the words of receipts
  abbrev IsNamedIn : Kind → Type 0
  IsNamedIn kind = IsNamed (providers_of kept) (given receipt facts) (row_of kind).about receipt.recipient

  named_with : (kind : Kind) (names : Names (trade_of kept seals) facts receipt.recipient)
      → IsNamed (providers_of kept) (given receipt facts) (row_of kind).about (Some names.address) → IsNamedIn kind
  named_with kind names so = subst (λ (o : Option Bytes). IsNamed (providers_of kept) (given receipt facts) (row_of kind).about o) (sym names.is) so

  is_named : (kind : Kind) → OfKind kind → IsNamedIn kind
  unfolding row_of
  is_named kinds.Acceptance of = of.1
  is_named (kinds.NonAcceptance cause) of = absurd of
  is_named kinds.Charge of = of
  is_named kinds.Delivery of = named_with kinds.Delivery of (of.home, placed of.address facts.recipients of.among)
  is_named (kinds.DeliveryError refusal) of = named_with (kinds.DeliveryError refusal) of (of.home, placed of.address facts.recipients of.among)
  is_named kinds.VirusFound of = named_with kinds.VirusFound of (of.home, placed of.address facts.recipients of.among)
  is_named kinds.Warning of = named_with kinds.Warning of.1 (of.1.home, placed of.1.address facts.recipients of.1.among)
  is_named kinds.Notice of = named_with kinds.Notice of.1 (of.1.home, placed of.1.address facts.recipients of.1.among)
  is_named kinds.LateNotice of = named_with kinds.LateNotice of.1 (of.1.home, placed of.1.address facts.recipients of.1.among)
  is_named kinds.Ack of = named_with kinds.Ack of (of.home, placed of.address facts.recipients of.among)

  is_own : (kind : Kind) → OfKind kind → (row_of kind).elsewhere ≡ false → receipt.by ≡ receipt.id.provider
  unfolding row_of
  is_own kinds.Acceptance of e = of.0
  is_own (kinds.NonAcceptance cause) of e = absurd of
  is_own kinds.Charge of e = absurd (false≢true (sym e))
  is_own kinds.Delivery of e = absurd (false≢true (sym e))
  is_own (kinds.DeliveryError refusal) of e = absurd (false≢true (sym e))
  is_own kinds.VirusFound of e = absurd (false≢true (sym e))
  is_own kinds.Warning of e = of.0
  is_own kinds.Notice of e = of.0
  is_own kinds.LateNotice of e = of.0
  is_own kinds.Ack of e = absurd (false≢true (sym e))

module _ (seals : Seals) (laws : Receipts seals) (kept : List Kept) (lawful : IsLawful (providers_of kept)) (fits : Fits seals (providers_of kept)) where
  -- The receipt on a message that was sent.
  pub record Composed (receipt : Receipt) (facts : Facts) (original : Bytes) : Type 0 where
    pub text : Bytes
    pub there : receipt_text seals kept (given receipt facts) original ≡ Some text
    pub is : IsReceipt seals kept (given receipt facts) original text
    pub can : CanBeGiven (providers_of kept) (given receipt facts)
    pub bytes : receipt_bytes kept seals receipt original ≡ text

  pub composed : (receipt : Receipt) (original : Bytes) (can : CanBeComposed (trade_of kept seals) receipt original) → Sent kept receipt.id original can.sent.facts
      → Composed receipt can.sent.facts original
  composed receipt original can sent =
      let providers = providers_of kept
      in let facts = can.sent.facts
      in let r = given receipt facts
      in let issuer = issuer_at kept receipt.by can.by
      in let name = issuer.issuer.provider.name
      in let stands : Stands laws.texts kept r = record {
        lawful = lawful;
        within = sent.within;
        printable = sent.small.printable;
        some = sent.small.some;
        named = lower_named kept seals receipt facts sent.small.printable (named_or_not kept seals receipt facts receipt.kind can.kind);
        before = can.in_range;
      }
      in let found = receipt_there laws.texts seals kept r original issuer stands sent.small sent.fits (name_short providers receipt.by issuer.issuer.provider lawful issuer.there)
      (name_is seals providers receipt.by issuer.issuer.provider fits issuer.there)
      in let may : CanBeGiven providers r = record {
        by_is = can.by;
        provider_is = sent.within;
        home = sent.home;
        recipients = sent.small.some;
        subject = sent.small.subject;
        named = is_named kept seals receipt facts receipt.kind can.kind;
        own = is_own kept seals receipt facts receipt.kind can.kind;
      }
      in record {
        text = found.0;
        there = found.1;
        is = receipt_is laws.texts seals kept r original found.0 stands (provider_at kept receipt.by) found.1;
        can = may;
        bytes = receipt_so kept seals receipt facts original found.0 sent.are may found.1;
      }

  -- is seen as what it was composed of
  pub seen_as : (receipt : Receipt) (original : Bytes) (can : CanBeComposed (trade_of kept seals) receipt original) → Sent kept receipt.id original can.sent.facts
      → seen_in seals (providers_of kept) (receipt_bytes kept seals receipt original) ≡ Some (SeenReceipt receipt)
  seen_as receipt original can sent =
      let made = composed receipt original can sent
      in let r = given receipt can.sent.facts
      in ap (seen_in seals (providers_of kept)) made.bytes
      ∙ as_receipt seals (providers_of kept) made.text laws.views (seen_again r)
      (laws.seen kept r original made.text lawful made.can sent.small.printable sent.below can.in_range (omega (arith, sent.small.few)) made.is)
