-- What genuine letters attest is decided so, where each is the text of a licensed letter or of an item.
use Rattle.std.proofs.Common.{◌≡◌, ◌⊎◌, ℕ, inl, inr, List, [], ◌∷◌, map, Option, None, Some, Ok, Err, refl, ap, sym, subst, ◌∙◌}
use Rattle.std.specs.Prelude.{All}
use Rattle.std.specs.List.{cons_option, filter_map}
use Rattle.std.specs.Result.{result_ok}
use Rattle.std.proofs.lemmas.List.Elements.{All-cons, All-head, All-nil, All-tail}
use Rattle.std.proofs.lemmas.Option.{none-some, same_Some}
use Rattle.pec_types.specs.Bytes.{Bytes}
use Rattle.pec_types.specs.Message.{Id}
use Rattle.pec_types.specs.declared.messages.Decision.{Decision}
use Rattle.pec_types.specs.declared.messages.Decision.TheVariants.{Placed, Refused}
use Rattle.pec_types.specs.declared.messages.Refusal.{Refusal}
use Rattle.pec_types.specs.declared.messages.Refusal.TheVariants as refusals
use Rattle.pec_types.specs.declared.receipts.Kind.{Kind}
use Rattle.pec_types.specs.declared.receipts.Kind.TheVariants as kinds
use Rattle.pec_directory.specs.Directory.{Kept, Provider, providers_of}
use Rattle.pec_seal.specs.Seals.{Seals}
use Rattle.pec_ledger.specs.Ledger.{Fit, IsDecidedSo, IsOutcomeText, Journals}
use Rattle.pec_ledger.specs.Lookups.{outcome_kind}
use Rattle.pec_ledger.specs.Network.{IsGenuineText}
use Rattle.pec_ledger.specs.Pairs.{pair_of}
use Rattle.pec_ledger.specs.Trade.{Receipt, SeenReceipt, Trade}
use Rattle.pec_ledger.specs.TradeLaws.{IsTrade}
use Rattle.pec_receipts.specs.declared.reading.ReceiptView.{ReceiptView}
use Rattle.pec_trade.specs.TradeOf.{trade_of}
use Rattle.pec_check.specs.Findings.{Attested, attested_by, attests, decision_told}
use Rattle.pec_check.specs.Genuine.{receipt_report}
use Rattle.pec_check.specs.GenuineReading.{report_of}
use Rattle.pec_check.specs.declared.reports.Report.{Report}
use Rattle.pec_check.specs.declared.reports.SavedKind.TheVariants as saved
use Rattle.pec_letter_parts.specs.Letters.{Headed}
use Rattle.pec_runs.specs.Happened.{IsSetting, Setting, trade_in}
use Rattle.pec_dossier.specs.Checks.{all_told, seals_of}
use Rattle.pec_dossier.specs.Conflicts.{TellsTheDecision, findings_in}
use Rattle.pec_dossier.specs.Tallies.{reports_in, tally_of}
use Rattle.pec_dossier.specs.Texts.{Told}
use Rattle.pec_dossier.proofs.AgreementLemmas.{IsTold, none_conflicts}
use Rattle.pec_dossier.proofs.ReportLemmas.{report_is}

-- a kind that tells a decision is that of the letter on it, or of the delivery error of a virus
abbrev IsKindOn : Kind → Decision → Type 0
IsKindOn kind decision =
    (kind ≡ outcome_kind decision) ⊎ ((kind ≡ kinds.DeliveryError refusals.Virus) × (Refused refusals.Virus ≡ decision))

error_so : (refusal : Refusal) → IsKindOn (kinds.DeliveryError refusal) (Refused refusal)
error_so refusals.NoMailbox = inl refl
error_so refusals.MailboxFull = inl refl
error_so refusals.Virus = inr (refl, refl)

kind_so : (kind : Kind) (decision : Decision) → decision_told (saved.Receipt kind) ≡ Some decision
    → IsKindOn kind decision
kind_so kinds.Acceptance decision e = absurd (none-some decision e)
kind_so (kinds.NonAcceptance cause) decision e = absurd (none-some decision e)
kind_so kinds.Charge decision e = absurd (none-some decision e)
kind_so kinds.Delivery decision e = subst (IsKindOn kinds.Delivery) (same_Some Placed decision e) (inl refl)
kind_so (kinds.DeliveryError refusal) decision e =
    subst (IsKindOn (kinds.DeliveryError refusal)) (same_Some (Refused refusal) decision e) (error_so refusal)
kind_so kinds.VirusFound decision e =
    subst (IsKindOn kinds.VirusFound) (same_Some (Refused refusals.Virus) decision e) (inl refl)
kind_so kinds.Warning decision e = absurd (none-some decision e)
kind_so kinds.Notice decision e = absurd (none-some decision e)
kind_so kinds.LateNotice decision e = absurd (none-some decision e)
kind_so kinds.Ack decision e = absurd (none-some decision e)

-- what is attested names a recipient, and a decision
record Named (id : Id) (recipient : Option Bytes) (decision : Option Decision) (one : Attested) : Type 0 where
  pub address : Bytes
  pub names : recipient ≡ Some address
  pub tells : decision ≡ Some one.decision
  pub id_is : one.pair.id ≡ id
  pub recipient_is : one.pair.recipient ≡ address

named_so : (id : Id) (recipient : Option Bytes) (decision : Option Decision) (one : Attested)
    → attests id recipient decision ≡ Some one → Named id recipient decision one
named_so id None decision one e = absurd (none-some one e)
named_so id (Some address) None one e = absurd (none-some one e)
named_so id (Some address) (Some decision) one e =
    let told : Attested = record { pair = record { id = id; recipient = address }; decision = decision }
    in let same : told ≡ one = cc
    in subst (Named id (Some address) (Some decision)) same (record {
      address = address;
      names = refl;
      tells = refl;
      id_is = refl;
      recipient_is = refl;
    })

receipt_named : (read : Headed) (seen : ReceiptView) (one : Attested)
    → attested_by (receipt_report read seen) ≡ Some one
    → Named seen.id seen.recipient (decision_told (saved.Receipt seen.kind)) one
unfolding attested_by
receipt_named read seen one e = named_so seen.id seen.recipient (decision_told (saved.Receipt seen.kind)) one e

-- what the ledger says of genuine texts that are seen as outcome receipts, or as the delivery error of a virus
pub record LearnedSo : Type 0 where
  pub learned : (trade : Trade) (journals : Journals) → Fit trade journals → IsTrade trade
      → (bytes : Bytes) → IsGenuineText trade journals bytes
      → (receipt : Receipt) → trade.view bytes ≡ Some (SeenReceipt receipt)
      → (decision : Decision) → receipt.kind ≡ outcome_kind decision
      → (recipient : Bytes) → receipt.recipient ≡ Some recipient
      → IsOutcomeText trade journals (pair_of receipt.id recipient) bytes
      × IsDecidedSo trade journals (pair_of receipt.id recipient) decision receipt.moment
  pub viruses : (trade : Trade) (journals : Journals) → Fit trade journals → IsTrade trade
      → (bytes : Bytes) → IsGenuineText trade journals bytes
      → (receipt : Receipt) → trade.view bytes ≡ Some (SeenReceipt receipt)
      → receipt.kind ≡ kinds.DeliveryError refusals.Virus
      → (recipient : Bytes) → receipt.recipient ≡ Some recipient
      → (moment : ℕ) × IsDecidedSo trade journals (pair_of receipt.id recipient) (Refused refusals.Virus) moment

-- so whichever of them tells a decision, its pair is decided so
decided_so : LearnedSo → (trade : Trade) (journals : Journals) → Fit trade journals → IsTrade trade
    → (bytes : Bytes) → IsGenuineText trade journals bytes
    → (receipt : Receipt) → trade.view bytes ≡ Some (SeenReceipt receipt)
    → (decision : Decision) → IsKindOn receipt.kind decision
    → (recipient : Bytes) → receipt.recipient ≡ Some recipient
    → (moment : ℕ) × IsDecidedSo trade journals (pair_of receipt.id recipient) decision moment
decided_so so trade journals fit lawful bytes genuine receipt there decision (inl kind) recipient names = (
  receipt.moment,
  (so.learned trade journals fit lawful bytes genuine receipt there decision kind recipient names).1,
)
decided_so so trade journals fit lawful bytes genuine receipt there decision (inr virus) recipient names =
    let told = so.viruses trade journals fit lawful bytes genuine receipt there virus.0 recipient names
    in (
      told.0,
      subst (λ (d : Decision). IsDecidedSo trade journals (pair_of receipt.id recipient) d told.0) virus.1 told.1,
    )

module _ (learned : LearnedSo) (kept : List Kept) (seals : Seals) (lawful : IsTrade (trade_of kept seals))
    (journals : Journals) (fit : Fit (trade_of kept seals) journals) where
  abbrev trade : Trade
  trade = trade_of kept seals

  abbrev report_in : Bytes → Told
  report_in text = report_of seals (providers_of kept) text

  told_so : (text : Bytes) → IsGenuineText trade journals text → (report : Report) (one : Attested)
      → report_in text ≡ Ok report → attested_by report ≡ Some one → IsTold trade journals one
  told_so text genuine report one e attests_so =
      let of = report_is seals (providers_of kept) text report one e attests_so
      in let here = receipt_named of.read of.seen one (sym (ap attested_by of.is) ∙ attests_so)
      in let so = decided_so learned trade journals fit lawful text genuine _ of.there one.decision
      (kind_so of.seen.kind one.decision here.tells) here.address here.names
      in let decided = subst (λ (recipient : Bytes). IsDecidedSo trade journals (pair_of of.seen.id recipient)
      one.decision so.0) (sym here.recipient_is) so.1
      in record {
        moment = so.0;
        decided = subst (λ (id : Id). IsDecidedSo trade journals (pair_of id one.pair.recipient) one.decision so.0)
            (sym here.id_is) decided;
      }

  abbrev attested_in : List Bytes → List Attested
  attested_in texts = filter_map attested_by (reports_in (map report_in texts))

  all_told_so : (texts : List Bytes) → All (IsGenuineText trade journals) texts
      → All (IsTold trade journals) (attested_in texts)
  all_told_so [] genuine = All-nil (IsTold trade journals)
  all_told_so (text ∷ texts) genuine =
      by (report_in text) refl (all_told_so texts (All-tail (IsGenuineText trade journals) text texts genuine))
    where
      here : IsGenuineText trade journals text
      here = All-head (IsGenuineText trade journals) text texts genuine

      attested : (report : Report) → report_in text ≡ Ok report → (o : Option Attested) → attested_by report ≡ o
          → All (IsTold trade journals) (attested_in texts)
          → All (IsTold trade journals) (cons_option o (attested_in texts))
      attested report e None f rest = rest
      attested report e (Some one) f rest =
          All-cons (IsTold trade journals) one (attested_in texts) (told_so text here report one e f) rest

      by : (told : Told) → report_in text ≡ told → All (IsTold trade journals) (attested_in texts)
          → All (IsTold trade journals)
          (filter_map attested_by (cons_option (result_ok told) (reports_in (map report_in texts))))
      by (Ok report) e rest = attested report e (attested_by report) refl rest
      by (Err fault) e rest = rest

  pub never_conflict : (texts : List Bytes) → All (IsGenuineText trade journals) texts
      → All (TellsTheDecision trade journals) (findings_in seals (providers_of kept) texts)
  never_conflict texts genuine = none_conflicts trade journals (attested_in texts) (all_told_so texts genuine)

-- so with a dossier that a run of the program checks
pub never_told : LearnedSo → (providers : List Provider) (setting : Setting) → IsSetting providers setting
    → (journals : Journals) → Fit (trade_in setting) journals
    → (texts : List Bytes) → All (IsGenuineText (trade_in setting) journals) texts
    → All (TellsTheDecision (trade_in setting) journals) (tally_of (all_told providers texts)).findings
unfolding tally_of
never_told learned providers setting is journals fit texts genuine =
    let here = never_conflict learned setting.kept setting.seals is.world journals fit texts genuine
    in let with_seals = subst (λ (s : Seals). All (TellsTheDecision (trade_in setting) journals)
    (findings_in s (providers_of setting.kept) texts)) is.seals here
    in subst (λ (ps : List Provider). All (TellsTheDecision (trade_in setting) journals)
    (findings_in (seals_of providers) ps texts)) is.kept with_seals
