-- The world of the ledger as this project has it: `trade_of`, of a directory and a sealer. RFC 6109, within this
-- project's profile.
use Rattle.std.specs.Prelude.{ℕ, false, List, [], Option, None, Some, length, is_some, unwrap_or}
use Rattle.std.specs.Result.{result_ok}
use Rattle.pec_types.specs.Bytes.{Bytes, Path}
use Rattle.pec_types.specs.declared.messages.Cause.{Cause}
use Rattle.pec_directory.specs.Canonical.{digest_of}
use Rattle.pec_directory.specs.Directory.{Kept, Provider, home_of, is_account_of, providers_of}
use Rattle.pec_seal.specs.Opening.{opened_of}
use Rattle.pec_seal.specs.Seals.{Seals}
use Rattle.pec_receipts.specs.Receipts.{receipts_at}
use Rattle.pec_points.specs.AdmissionReading.{admission_of}
use Rattle.pec_points.specs.Case.{case_at}
use Rattle.pec_points.specs.declared.admission.Admission.{Admission}
use Rattle.pec_points.specs.declared.admission.Admission.TheVariants.{Accepted, Not}
use Rattle.pec_ledger.specs.OfDirectory.{facts_in, quota_of, recipients_named}
use Rattle.pec_ledger.specs.Trade.{Trade}
use Rattle.pec_trade.specs.Texts.{anomaly_bytes, envelope_bytes, frame_along, receipt_bytes, refusal_bytes, seen_in, unframed_of}

-- the cause of an answer that has one
abbrev pub cause_in : Admission → Option Cause
cause_in (Accepted facts) = None
cause_in (Not cause) = Some cause

-- why the access point of a provider doesn't take a message in which no screen finds a rule
unfoldable pub cause_at : List Provider → ℕ → Bytes → Path → Bytes → Option Cause
cause_at providers provider account path message =
    cause_in (admission_of (case_at providers provider account path message false))

-- The world of a directory and of those who seal for its providers.
abbrev pub trade_of : List Kept → Seals → Trade
trade_of kept seals = record {
  providers = length (providers_of kept);
  digest = digest_of (providers_of kept);
  home = home_of (providers_of kept);
  is_account = is_account_of (providers_of kept);
  quota = quota_of (providers_of kept);
  receipts = λ provider. unwrap_or (receipts_at (providers_of kept) provider) [];
  facts = facts_in;
  envelope_recipients = recipients_named;
  cause = cause_at (providers_of kept);
  unframed = unframed_of;
  framed = frame_along;
  opens = λ message. is_some (result_ok (opened_of seals message));
  view = seen_in seals (providers_of kept);
  envelope_text = envelope_bytes kept seals;
  receipt_text = receipt_bytes kept seals;
  refusal_text = refusal_bytes kept seals;
  anomaly_text = anomaly_bytes kept seals;
}
