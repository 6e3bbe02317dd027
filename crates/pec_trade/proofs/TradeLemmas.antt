-- The world of a directory and a sealer meets all that the ledger asks.
use Rattle.std.proofs.Common.{◌≡◌, ◌↔◌, ℕ, ◌<◌, List, false, length, None, Some, refl, ap, sym, subst}
use Rattle.std.proofs.lemmas.Option.{none-some, same_Some}
use Rattle.pec_types.specs.Bytes.{Bytes, Path}
use Rattle.pec_types.specs.Message.{Id}
use Rattle.pec_types.specs.declared.messages.Cause.{Cause}
use Rattle.pec_types.specs.declared.messages.Facts.{Facts}
use Rattle.pec_directory.specs.Directory.{Kept, Provider, providers_of}
use Rattle.pec_directory.specs.Ids.{Names, id_of}
use Rattle.pec_directory.specs.Lawful.{IsLawful}
use Rattle.pec_seal.specs.Seals.{Seals}
use Rattle.pec_letters.specs.Fitting.{Fits}
use Rattle.pec_points.specs.Admission.{IsAccepted, IsCause}
use Rattle.pec_points.specs.AdmissionReading.{admission_of}
use Rattle.pec_points.specs.Case.{Case, case_at}
use Rattle.pec_points.specs.declared.admission.Admission.{Admission}
use Rattle.pec_points.specs.declared.admission.Admission.TheVariants.{Accepted, Not}
use Rattle.pec_ledger.specs.Trade.{SeenEnvelope}
use Rattle.pec_ledger.specs.TradeLaws.{IsTrade}
use Rattle.pec_trade.specs.Texts.{seen_in}
use Rattle.pec_trade.specs.TradeOf.{cause_at, cause_in, trade_of}
use Rattle.pec_trade.proofs.AdmissionLemmas.{Admits, admitted}
use Rattle.pec_trade.proofs.DirectoryLemmas.{account_is_home, home_within}
use Rattle.pec_trade.proofs.EnvelopeLemmas.{Envelopes, recipients_again, seen_again}
use Rattle.pec_trade.proofs.FactsLemmas.{recipients_differ, recipients_in}
use Rattle.pec_trade.proofs.FrameLemmas.{Frames, framed_back}
use Rattle.pec_trade.proofs.NoticeLemmas.{Notices, anomaly_unseen, refusal_seen as refusal_is_seen}
use Rattle.pec_trade.proofs.ReceiptLemmas.{Receipts, seen_as}
use Rattle.pec_trade.proofs.SeenLemmas.{id_is, nothing_seen, opens, the_envelope}
use Rattle.pec_trade.proofs.SentLemmas.{Sending, sent_as}

-- what the laws of all parts say of a sealer
pub record Parts (seals : Seals) : Type 0 where
  pub sending : Sending
  pub frames : Frames
  pub envelopes : Envelopes seals
  pub receipts : Receipts seals
  pub notices : Notices seals
  pub ids : (providers : List Provider) (text : Bytes) (id : Id) → IsLawful providers → id_of providers text ≡ Some id → Names providers text id

module _ (seals : Seals) (parts : Parts seals) (kept : List Kept) (lawful : IsLawful (providers_of kept)) (fits : Fits seals (providers_of kept)) where
  -- an envelope is one of a provider's
  envelope_within : (text : Bytes) (id : Id) (moment : ℕ) (original : Bytes) → seen_in seals (providers_of kept) text ≡ Some (SeenEnvelope id moment original)
      → id.provider < length (providers_of kept)
  envelope_within text id moment original e =
      let it = the_envelope seals (providers_of kept) text parts.envelopes.views id moment original e
      in subst (λ (i : Id). i.provider < length (providers_of kept)) it.id_is
      (parts.ids (providers_of kept) it.letter.cert.id it.seen.id lawful (id_is (providers_of kept) _ it.letter it.seen.id it.has_passed.id)).provider

  pub is_trade : IsTrade (trade_of kept seals)
  is_trade =
      let heads = parts.sending.heads
      in record {
        homes = home_within (providers_of kept);
        accounts = account_is_home (providers_of kept);
        recipients_differ = recipients_differ heads;
        admitted = λ provider sender path message e.
            let is = admitted heads parts.sending.admits (providers_of kept) provider sender path message e
            in (is.facts, is.are, is.sender_is, is.own, is.no_more);
        envelope_seen = λ id moment original sent before.
            seen_again seals parts.envelopes kept lawful fits id moment sent.facts original (sent_as parts.sending kept seals lawful id original sent) before;
        envelope_names = λ id moment original sent before.
            let it = sent_as parts.sending kept seals lawful id original sent
            in recipients_again seals parts.envelopes kept lawful fits id moment sent.facts original it before (recipients_in heads original sent.facts it.has).some;
        envelope_of = envelope_within;
        receipt_seen = λ receipt original can.
            seen_as seals parts.receipts kept lawful fits receipt original can (sent_as parts.sending kept seals lawful receipt.id original can.sent);
        refusal_seen = refusal_is_seen seals parts.notices kept lawful;
        anomaly_seen = λ provider entry moment message within before. anomaly_unseen seals parts.notices kept lawful provider entry moment message before;
        nothing_seen = nothing_seen seals (providers_of kept);
        seen_opens = opens seals (providers_of kept);
        frames = framed_back parts.frames;
      }

-- ---- what the parts say

not_is : (answer : Admission) (cause : Cause) → cause_in answer ≡ Some cause → answer ≡ Not cause
not_is (Accepted facts) cause e = absurd (none-some cause e)
not_is (Not other) cause e = ap Not (same_Some other cause e)

accepted_is : (answer : Admission) → cause_in answer ≡ None → (facts : Facts) × (answer ≡ Accepted facts)
accepted_is (Accepted facts) e = (facts, refl)
accepted_is (Not cause) e = absurd (none-some cause (sym e))

pub refused_so : ((case : Case) (cause : Cause) → (admission_of case ≡ Not cause) ↔ IsCause case cause)
    → (providers : List Provider) (provider : ℕ) (account : Bytes) (path : Path) (message : Bytes) (cause : Cause)
    → (cause_at providers provider account path message ≡ Some cause) ↔ IsCause (case_at providers provider account path message false) cause
unfolding cause_at
refused_so law providers provider account path message cause =
    let case = case_at providers provider account path message false
    in ((λ e. (law case cause).0 (not_is (admission_of case) cause e)), (λ is. ap cause_in ((law case cause).1 is)))

pub accepted_so : Admits → (providers : List Provider) (provider : ℕ) (account : Bytes) (path : Path) (message : Bytes)
    → (cause_at providers provider account path message ≡ None) ↔ ((facts : Facts) × IsAccepted (case_at providers provider account path message false) facts)
unfolding cause_at
accepted_so law providers provider account path message =
    let case = case_at providers provider account path message false
    in (
      (λ e. let found = accepted_is (admission_of case) e in (found.0, (law case found.0).0 found.1)),
      (λ is. ap cause_in ((law case is.0).1 is.1)),
    )
