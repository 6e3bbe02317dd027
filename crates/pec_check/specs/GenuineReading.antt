-- The same as in `Genuine`, as a function of the bytes that the code follows: `report_of`.
use Rattle.std.specs.Prelude.{ℕ, ◌==◌, List, Bool, true, false, if◌then◌else◌, Option, Some, None, Result, Ok, Err}
use Rattle.std.specs.Option.{option_and_then}
use Rattle.pec_types.specs.Bytes.{Bytes}
use Rattle.pec_types.specs.Results.{◌>>=◌}
use Rattle.pec_types.specs.declared.disputes.LetterFault.{LetterFault}
use Rattle.pec_directory.specs.Directory.{Provider, home_of}
use Rattle.pec_seal.specs.Seals.{Seals}
use Rattle.pec_letter_parts.specs.Letters.{Headed}
use Rattle.pec_letter_parts.specs.LettersReading.{headed_of}
use Rattle.pec_letters.specs.Seen.{Seen as EnvelopeSeen}
use Rattle.pec_letters.specs.SeenReading.{view as envelope_view}
use Rattle.pec_receipts.specs.SeenReading.{view as receipt_view}
use Rattle.pec_receipts.specs.declared.reading.ReceiptView.{ReceiptView}
use Rattle.pec_check.specs.Genuine.{envelope_report, is_for_envelope, receipt_report, sealing_of}
use Rattle.pec_check.specs.declared.checking.CheckFault.{CheckFault}
use Rattle.pec_check.specs.declared.checking.CheckFault.TheVariants.{Letter, WrongProvider}
use Rattle.pec_check.specs.declared.reports.Report.{Report}
use Rattle.pec_check.specs.declared.sealing.Sealing.{Sealing}
use Rattle.pec_check.specs.declared.sealing.Sealing.TheVariants.{Anyone, RecipientsHome, MessagesProvider}

-- the fault of a letter, as one of a saved message
abbrev pub of_letter : {X : Type 0} → Result X LetterFault → Result X CheckFault
of_letter (Ok value) = Ok value
of_letter (Err fault) = Err (Letter fault)

abbrev pub sealer_by : List Provider → ReceiptView → Sealing → Option ℕ
sealer_by providers seen Anyone = None
sealer_by providers seen RecipientsHome = option_and_then (home_of providers) seen.recipient
sealer_by providers seen MessagesProvider = Some seen.id.provider

-- the provider that has to seal a receipt, where one has to
unfoldable pub sealer_of : List Provider → ReceiptView → Option ℕ
sealer_of providers seen = sealer_by providers seen (sealing_of seen.kind)

-- the report, where the provider that had to seal it did
abbrev pub sealed_rightly : Option ℕ → ℕ → Report → Result Report CheckFault
sealed_rightly None by report = Ok report
sealed_rightly (Some provider) by report = if provider == by then Ok report else Err (WrongProvider provider)

abbrev pub envelope_told : Headed → EnvelopeSeen → Result Report CheckFault
envelope_told read seen = Ok (envelope_report read seen)

abbrev pub receipt_told : List Provider → Headed → ReceiptView → Result Report CheckFault
receipt_told providers read seen = sealed_rightly (sealer_of providers seen) seen.by (receipt_report read seen)

module _ (seals : Seals) (providers : List Provider) (text : Bytes) where
  -- what a text that opened with this head says, as an envelope or as a receipt
  abbrev pub said : Headed → Bool → Result Report CheckFault
  said read true = of_letter (envelope_view seals providers text) >>= envelope_told read
  said read false = of_letter (receipt_view seals providers text) >>= receipt_told providers read

  -- What a text says that is a genuine letter, or why it is none.
  unfoldable pub report_of : Result Report CheckFault
  report_of = of_letter (headed_of seals text) >>= λ (read : Headed). said read (is_for_envelope read)
