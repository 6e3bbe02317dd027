-- The original in what is seen, where that is an envelope of a message.
use Rattle.std.proofs.Common.{◌≡◌, List, None, Some, Result, Ok, Err, refl, ap, sym}
use Rattle.std.specs.Prelude.{if◌then◌else◌}
use Rattle.std.specs.Result.{result_ok}
use Rattle.std.proofs.lemmas.Option.{none-some, same_Some}
use Rattle.pec_types.specs.Bytes.{Bytes}
use Rattle.pec_types.specs.Message.{Id}
use Rattle.pec_types.specs.declared.disputes.LetterFault.{LetterFault}
use Rattle.pec_directory.specs.Directory.{Provider}
use Rattle.pec_seal.specs.Seals.{Seals}
use Rattle.pec_letters.specs.Seen.{Seen}
use Rattle.pec_letters.specs.SeenReading.{view}
use Rattle.pec_receipts.specs.SeenReading.{view as receipt_view}
use Rattle.pec_receipts.specs.declared.reading.ReceiptView.{ReceiptView}
use Rattle.pec_ledger.specs.Pairs.{same_id}
use Rattle.pec_plays.specs.Frames.{original_in}
use Rattle.pec_trade.specs.Texts.{or_receipt, seen_in}

of_receipt : (id : Id) (fault : LetterFault) (receipt : Result ReceiptView LetterFault) → None
    ≡ original_in id (or_receipt (Err fault) receipt)
of_receipt id fault (Ok seen) = refl
of_receipt id fault (Err other) = refl

of_none : (id : Id) (envelope : Result Seen LetterFault) (receipt : Result ReceiptView LetterFault) → None
    ≡ result_ok envelope
    → None ≡ original_in id (or_receipt envelope receipt)
of_none id (Ok seen) receipt e = absurd (none-some seen e)
of_none id (Err fault) receipt e = of_receipt id fault receipt

of_some : (id : Id) (seen : Seen) (envelope : Result Seen LetterFault) (receipt : Result ReceiptView LetterFault)
    → Some seen ≡ result_ok envelope
    → (if same_id id seen.id then Some seen.original else None) ≡ original_in id (or_receipt envelope receipt)
of_some id seen (Ok other) receipt e = ap (λ (s : Seen). if same_id id s.id then Some s.original else None) (same_Some
    seen other e)
of_some id seen (Err fault) receipt e = absurd (none-some seen (sym e))

module _ (seals : Seals) (providers : List Provider) (text : Bytes) (id : Id) where
  pub unseen : None ≡ result_ok (view seals providers text) → None ≡ original_in id (seen_in seals providers text)
  unfolding seen_in
  unseen e = of_none id (view seals providers text) (receipt_view seals providers text) e

  pub original_of : (seen : Seen) → Some seen ≡ result_ok (view seals providers text)
      → (if same_id id seen.id then Some seen.original else None) ≡ original_in id (seen_in seals providers text)
  unfolding seen_in
  original_of seen e = of_some id seen (view seals providers text) (receipt_view seals providers text) e
