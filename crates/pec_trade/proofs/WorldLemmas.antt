-- Two lists of what is kept of one directory are one world, where each zone is by its provider's rule.
use Rattle.std.proofs.Common.{◌≡◌, ◌∙◌, ℕ, zero, suc, List, [], ◌∷◌, length, nat_lt, Option, Some, None, refl, ap, sym, subst}
use Rattle.std.proofs.Math.Path.{fun_ext}
use Rattle.std.specs.Prelude.{◌^◌, if◌then◌else◌, is_some, slice_get, unwrap_or}
use Rattle.std.specs.List.{list_all}
use Rattle.std.specs.Result.{result_ok}
use Rattle.pec_types.specs.Bytes.{Bytes, Path}
use Rattle.pec_types.specs.Message.{Id}
use Rattle.pec_types.specs.Options.{◌>>=◌}
use Rattle.pec_types.specs.declared.messages.Cause.{Cause}
use Rattle.pec_types.specs.declared.messages.Facts.{Facts}
use Rattle.pec_heads.specs.WrittenHeads.{with_head}
use Rattle.pec_cert.specs.CertificateReading.{cert_text}
use Rattle.pec_cert.specs.ValueTests.{is_lower}
use Rattle.pec_cert.specs.Stamp.{Instant}
use Rattle.pec_cert.specs.Zone.{IsRule, stamp_of}
use Rattle.pec_directory.specs.Canonical.{digest_of}
use Rattle.pec_directory.specs.Directory.{Kept, Provider, first_of, home_of, is_account_of, is_number, providers_of}
use Rattle.pec_directory.specs.Zones.{AreByRule}
use Rattle.pec_seal.specs.Opening.{opened_of}
use Rattle.pec_seal.specs.Seals.{Seals, sealed}
use Rattle.pec_letter_parts.specs.Contents.{parts_of}
use Rattle.pec_letter_parts.specs.Headings.{heading_fields}
use Rattle.pec_letter_parts.specs.Sealing.{letter_text}
use Rattle.pec_letters.specs.Anomalies.{anomaly_contents, anomaly_heading, anomaly_text}
use Rattle.pec_letters.specs.Envelopes.{envelope_certificate, envelope_contents, envelope_heading, envelope_text, text_by as envelope_by}
use Rattle.pec_receipts.specs.Kinds.{Row, Said, row_of}
use Rattle.pec_receipts.specs.Receipts.{ack_body, ack_heading, receipt_certificate, receipt_contents, receipt_heading, receipt_text, receipts_at, text_by as receipt_by}
use Rattle.pec_receipts.specs.declared.receipts.Receipt.{Receipt as Given}
use Rattle.pec_ledger.specs.OfDirectory.{facts_in, quota_of, recipients_named}
use Rattle.pec_ledger.specs.Trade.{Receipt, Trade}
use Rattle.pec_trade.specs.Giving.{can_be_given}
use Rattle.pec_trade.specs.Texts.{anomaly_bytes, envelope_bytes, envelope_from, frame_along, given, given_text, or_none, receipt_bytes, refusal, refusal_bytes, seen_in, unframed_of}
use Rattle.pec_trade.specs.TradeOf.{cause_at, trade_of}

-- what the law of zones says
abbrev pub OneClock : Type 0
OneClock = (text : Bytes) (one other : Kept) → IsRule text one.zone → IsRule text other.zone → (moment : ℕ)
    → stamp_of one.zone moment ≡ stamp_of other.zone moment

-- ---- what is kept of a provider

-- one provider, by clocks that show the same
record SameKept (one other : Kept) : Type 0 where
  provider : one.provider ≡ other.provider
  clock : (moment : ℕ) → stamp_of one.zone moment ≡ stamp_of other.zone moment

abbrev SameAt : Option Kept → Option Kept → Type 0
SameAt None None = Unit {0}
SameAt (Some one) (Some other) = SameKept one other
SameAt _ _ = ⊥

same_head : (x y : Provider) (xs ys : List Provider) → x ∷ xs ≡ y ∷ ys → x ≡ y
same_head x y xs ys e = cc

same_tail : (x y : Provider) (xs ys : List Provider) → x ∷ xs ≡ y ∷ ys → xs ≡ ys
same_tail x y xs ys e = cc

none_some : (x : Provider) (xs : List Provider) → [] ≡ x ∷ xs → ⊥
none_some x xs e = cc

same_kept : OneClock → (one other : Kept) → one.provider ≡ other.provider → IsRule one.provider.rule one.zone
    → IsRule other.provider.rule other.zone → SameKept one other
same_kept clock one other same by_rule other_by_rule = record {
  provider = same;
  clock = clock one.provider.rule one other by_rule
      (subst (λ (p : Provider). IsRule p.rule other.zone) (sym same) other_by_rule);
}

-- at each place
same_at : OneClock → (kept others : List Kept) → AreByRule kept → AreByRule others → providers_of kept ≡ providers_of others
    → (n : ℕ) → SameAt (slice_get kept n) (slice_get others n)
same_at clock [] [] by_rule others_by_rule same n = tt
same_at clock [] (other ∷ others) by_rule others_by_rule same n =
    absurd (none_some other.provider (providers_of others) same)
same_at clock (one ∷ kept) [] by_rule others_by_rule same n =
    absurd (none_some one.provider (providers_of kept) (sym same))
same_at clock (one ∷ kept) (other ∷ others) by_rule others_by_rule same zero =
    same_kept clock one other (same_head one.provider other.provider (providers_of kept) (providers_of others) same)
    by_rule.0 others_by_rule.0
same_at clock (one ∷ kept) (other ∷ others) by_rule others_by_rule same (suc n) =
    same_at clock kept others by_rule.1 others_by_rule.1
    (same_tail one.provider other.provider (providers_of kept) (providers_of others) same) n

-- ---- texts

-- what is made of a provider and of a stamp by its clock
made_same : (make : Provider → Instant → Option Bytes) (moment : ℕ) (one other : Option Kept) → SameAt one other
    → (one >>= λ (kept : Kept). make kept.provider (stamp_of kept.zone moment))
    ≡ (other >>= λ (kept : Kept). make kept.provider (stamp_of kept.zone moment))
made_same make moment None None same = refl
made_same make moment None (Some other) same = absurd same
made_same make moment (Some one) None same = absurd same
made_same make moment (Some one) (Some other) same =
    ap (λ (p : Provider). make p (stamp_of one.zone moment)) same.provider
    ∙ ap (make other.provider) (same.clock moment)

module _ (seals : Seals) (kept others : List Kept) (same : providers_of kept ≡ providers_of others)
    (at : (n : ℕ) → SameAt (slice_get kept n) (slice_get others n)) where
  envelope_same : (id : Id) (moment : ℕ) (facts : Facts) (original : Bytes)
      → envelope_text seals kept id moment facts original ≡ envelope_text seals others id moment facts original
  unfolding envelope_text
  envelope_same id moment facts original =
      let providers = providers_of kept
      in made_same (λ p stamp.
      letter_text seals id.provider (envelope_heading providers id stamp facts)
      (parts_of (envelope_contents providers id stamp facts original
      (cert_text (envelope_certificate providers p.name id stamp facts)))))
      moment (slice_get kept id.provider) (slice_get others id.provider) (at id.provider)
      ∙ ap (λ (ps : List Provider). slice_get others id.provider >>= envelope_by seals ps id moment facts original) same

  receipt_made : (r : Given) (original : Bytes) (row : Row) (said : Option Said)
      → (slice_get kept r.by >>= receipt_by seals (providers_of kept) r original row said)
      ≡ (slice_get others r.by >>= receipt_by seals (providers_of kept) r original row said)
  receipt_made r original row None =
      made_same (λ p stamp.
      sealed seals r.by (with_head (heading_fields (ack_heading (providers_of kept) r stamp row)) ack_body))
      r.moment (slice_get kept r.by) (slice_get others r.by) (at r.by)
  receipt_made r original row (Some said) =
      let providers = providers_of kept
      in made_same (λ p stamp.
      letter_text seals r.by (receipt_heading providers r stamp row said)
      (parts_of (receipt_contents providers p.name r stamp row said original
      (cert_text (receipt_certificate providers p.name r stamp row said)))))
      r.moment (slice_get kept r.by) (slice_get others r.by) (at r.by)

  receipt_same : (r : Given) (original : Bytes) → receipt_text seals kept r original ≡ receipt_text seals others r original
  unfolding receipt_text
  receipt_same r original =
      receipt_made r original (row_of r.kind) (row_of r.kind).said
      ∙ ap (λ (ps : List Provider). slice_get others r.by >>= receipt_by seals ps r original (row_of r.kind) (row_of r.kind).said)
      same

  anomaly_same : (provider number moment : ℕ) (message : Bytes)
      → anomaly_text seals kept provider number moment message ≡ anomaly_text seals others provider number moment message
  unfolding anomaly_text
  anomaly_same provider number moment message =
      made_same (λ p stamp.
      letter_text seals provider (anomaly_heading (first_of p.domains) number stamp message)
      (parts_of (anomaly_contents stamp message)))
      moment (slice_get kept provider) (slice_get others provider) (at provider)

  -- ---- by what the ledger knows

  from_same : (id : Id) (moment : ℕ) (original : Bytes) (facts : Facts)
      → envelope_from kept seals id moment original facts ≡ envelope_from others seals id moment original facts
  from_same id moment original facts =
      ap (λ (ps : List Provider). if is_number id.provider (home_of ps facts.sender)
      then envelope_text seals kept id moment facts original else None) same
      ∙ ap (λ (text : Option Bytes). if is_number id.provider (home_of (providers_of others) facts.sender)
      then text else None) (envelope_same id moment facts original)

  envelope_bytes_same : (id : Id) (moment : ℕ) (original : Bytes)
      → envelope_bytes kept seals id moment original ≡ envelope_bytes others seals id moment original
  unfolding envelope_bytes
  envelope_bytes_same id moment original =
      ap (λ (f : Facts → Option Bytes). or_none (facts_in original >>= f)) (fun_ext (from_same id moment original))

  given_same : (r : Given) (original : Bytes) → given_text kept seals r original ≡ given_text others seals r original
  given_same r original =
      ap (λ (ps : List Provider). if can_be_given ps r then receipt_text seals kept r original else None) same
      ∙ ap (λ (text : Option Bytes). if can_be_given (providers_of others) r then text else None)
      (receipt_same r original)

  receipt_bytes_same : (r : Receipt) (original : Bytes)
      → receipt_bytes kept seals r original ≡ receipt_bytes others seals r original
  unfolding receipt_bytes
  receipt_bytes_same r original =
      ap (λ (f : Facts → Option Bytes). or_none (facts_in original >>= f))
      (fun_ext (λ facts. given_same (given r facts) original))

  refusal_bytes_same : (id : Id) (moment : ℕ) (account : Bytes) (cause : Cause) (path : Path) (message : Bytes)
      → refusal_bytes kept seals id moment account cause path message
      ≡ refusal_bytes others seals id moment account cause path message
  unfolding refusal_bytes
  refusal_bytes_same id moment account cause path message =
      ap (λ (text : Option Bytes). if list_all is_lower path then or_none text else [])
      (given_same (refusal id moment account cause path message) message)

  anomaly_bytes_same : (provider number moment : ℕ) (message : Bytes)
      → anomaly_bytes kept seals provider number moment message ≡ anomaly_bytes others seals provider number moment message
  unfolding anomaly_bytes
  anomaly_bytes_same provider number moment message =
      ap (λ (text : Option Bytes). if nat_lt number (2 ^ 64) then or_none text else [])
      (anomaly_same provider number moment message)

-- ---- the world

-- the world of these providers, with these texts
abbrev world_with : List Provider → Seals → (Id → ℕ → Bytes → Bytes) → (Receipt → Bytes → Bytes)
    → (Id → ℕ → Bytes → Cause → Path → Bytes → Bytes) → (ℕ → ℕ → ℕ → Bytes → Bytes) → Trade
world_with providers seals envelope receipt refused anomaly = record {
  providers = length providers;
  digest = digest_of providers;
  home = home_of providers;
  is_account = is_account_of providers;
  quota = quota_of providers;
  receipts = λ provider. unwrap_or (receipts_at providers provider) [];
  facts = facts_in;
  envelope_recipients = recipients_named;
  cause = cause_at providers;
  unframed = unframed_of;
  framed = frame_along;
  opens = λ message. is_some (result_ok (opened_of seals message));
  view = seen_in seals providers;
  envelope_text = envelope;
  receipt_text = receipt;
  refusal_text = refused;
  anomaly_text = anomaly;
}

pub one_world : OneClock → (kept others : List Kept) (seals : Seals) → AreByRule kept → AreByRule others
    → providers_of kept ≡ providers_of others → trade_of kept seals ≡ trade_of others seals
one_world clock kept others seals by_rule others_by_rule same =
    let at : (n : ℕ) → SameAt (slice_get kept n) (slice_get others n)
    = same_at clock kept others by_rule others_by_rule same
    in let envelopes : envelope_bytes kept seals ≡ envelope_bytes others seals
    = fun_ext (λ id. fun_ext (λ moment. fun_ext (envelope_bytes_same seals kept others same at id moment)))
    in let receipts : receipt_bytes kept seals ≡ receipt_bytes others seals
    = fun_ext (λ r. fun_ext (receipt_bytes_same seals kept others same at r))
    in let refusals : refusal_bytes kept seals ≡ refusal_bytes others seals
    = fun_ext (λ id. fun_ext (λ moment. fun_ext (λ account. fun_ext (λ cause. fun_ext (λ path.
    fun_ext (refusal_bytes_same seals kept others same at id moment account cause path))))))
    in let anomalies : anomaly_bytes kept seals ≡ anomaly_bytes others seals
    = fun_ext (λ provider. fun_ext (λ number. fun_ext (λ moment.
    fun_ext (anomaly_bytes_same seals kept others same at provider number moment))))
    in ap (λ (ps : List Provider). world_with ps seals (envelope_bytes kept seals) (receipt_bytes kept seals)
    (refusal_bytes kept seals) (anomaly_bytes kept seals)) same
    ∙ (ap (λ (f : Id → ℕ → Bytes → Bytes). world_with (providers_of others) seals f (receipt_bytes kept seals)
    (refusal_bytes kept seals) (anomaly_bytes kept seals)) envelopes
    ∙ (ap (λ (f : Receipt → Bytes → Bytes). world_with (providers_of others) seals (envelope_bytes others seals) f
    (refusal_bytes kept seals) (anomaly_bytes kept seals)) receipts
    ∙ (ap (λ (f : Id → ℕ → Bytes → Cause → Path → Bytes → Bytes). world_with (providers_of others) seals
    (envelope_bytes others seals) (receipt_bytes others seals) f (anomaly_bytes kept seals)) refusals
    ∙ ap (λ (f : ℕ → ℕ → ℕ → Bytes → Bytes). world_with (providers_of others) seals
    (envelope_bytes others seals) (receipt_bytes others seals) (refusal_bytes others seals) f) anomalies)))
