-- What is seen in a message, by the head that was read of it.
use Rattle.std.proofs.Common.{◌≡◌, List, None, Some, Result, Ok, Err, refl, ap, sym}
use Rattle.std.specs.Prelude.{option_map}
use Rattle.std.specs.Result.{result_ok}
use Rattle.std.proofs.lemmas.Option.{none-some, same_Some}
use Rattle.pec_types.specs.Bytes.{Bytes}
use Rattle.pec_types.specs.Message.{Id}
use Rattle.pec_types.specs.Results.{◌>>=◌}
use Rattle.pec_types.specs.declared.disputes.LetterFault.{LetterFault}
use Rattle.pec_directory.specs.Directory.{Provider}
use Rattle.pec_seal.specs.Seals.{Seals}
use Rattle.pec_letter_parts.specs.Letters.{Headed}
use Rattle.pec_letter_parts.specs.LettersReading.{headed_of, letter_in, letter_of}
use Rattle.pec_letters.specs.Seen.{Seen, seen_of}
use Rattle.pec_letters.specs.SeenReading.{view as envelope_view}
use Rattle.pec_receipts.specs.SeenReading.{seen_in as receipt_in, view as receipt_view}
use Rattle.pec_receipts.specs.declared.reading.ReceiptView.{ReceiptView}
use Rattle.pec_trade.specs.Texts.{or_receipt, seen_in}
use Rattle.pec_reception.specs.Views.{sight_of}
use Rattle.pec_reception.specs.declared.sights.Sight.TheVariants as sights

-- the head that was read
pub head_is : (read : Headed) (r : Result Headed LetterFault) → Some read ≡ result_ok r → r ≡ Ok read
head_is read (Ok other) e = ap Ok (sym (same_Some read other e))
head_is read (Err fault) e = absurd (none-some read (sym e))

by_receipt : (envelope : Result Seen LetterFault) (receipt : Result ReceiptView LetterFault) → result_ok envelope ≡ None
    → option_map (λ (view : ReceiptView). sights.Receipt view) (result_ok receipt) ≡ option_map sight_of (or_receipt envelope receipt)
by_receipt (Ok seen) receipt e = absurd (none-some seen (sym e))
by_receipt (Err fault) (Ok seen) e = refl
by_receipt (Err fault) (Err other) e = refl

by_envelope : (envelope : Result Seen LetterFault) (receipt : Result ReceiptView LetterFault) (id : Id)
    → Some id ≡ option_map (λ (seen : Seen). seen.id) (result_ok envelope)
    → Some (sights.Envelope id) ≡ option_map sight_of (or_receipt envelope receipt)
by_envelope (Ok seen) receipt id e = ap (λ (i : Id). Some (sights.Envelope i)) (same_Some id seen.id e)
by_envelope (Err fault) receipt id e = absurd (none-some id (sym e))

no_id : (envelope : Result Seen LetterFault) → None ≡ option_map (λ (seen : Seen). seen.id) (result_ok envelope)
    → result_ok envelope ≡ None
no_id (Ok seen) e = absurd (none-some seen.id e)
no_id (Err fault) e = refl

module _ (seals : Seals) (providers : List Provider) (message : Bytes) where
  by_head : (head : Result Headed LetterFault) → None ≡ result_ok head
      → None ≡ option_map sight_of (or_receipt ((head >>= letter_in) >>= seen_of providers) (head >>= receipt_in providers))
  by_head (Ok read) e = absurd (none-some read e)
  by_head (Err fault) e = refl

  -- nothing is seen in what has no head
  pub nothing_read : None ≡ result_ok (headed_of seals message) → None ≡ option_map sight_of (seen_in seals providers message)
  unfolding seen_in envelope_view receipt_view letter_of
  nothing_read e = by_head (headed_of seals message) e

  pub an_envelope_read : (id : Id)
      → Some id ≡ option_map (λ (seen : Seen). seen.id) (result_ok (envelope_view seals providers message))
      → Some (sights.Envelope id) ≡ option_map sight_of (seen_in seals providers message)
  unfolding seen_in
  an_envelope_read id e = by_envelope (envelope_view seals providers message) (receipt_view seals providers message) id e

  -- what is no envelope is seen as the receipt that it is
  pub no_envelope_read : result_ok (envelope_view seals providers message) ≡ None
      → option_map (λ (view : ReceiptView). sights.Receipt view) (result_ok (receipt_view seals providers message))
      ≡ option_map sight_of (seen_in seals providers message)
  unfolding seen_in
  no_envelope_read e = by_receipt (envelope_view seals providers message) (receipt_view seals providers message) e

  pub no_id_read : None ≡ option_map (λ (seen : Seen). seen.id) (result_ok (envelope_view seals providers message))
      → option_map (λ (view : ReceiptView). sights.Receipt view) (result_ok (receipt_view seals providers message))
      ≡ option_map sight_of (seen_in seals providers message)
  no_id_read e = no_envelope_read (no_id (envelope_view seals providers message) e)
