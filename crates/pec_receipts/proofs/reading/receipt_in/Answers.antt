-- What is seen behind the head is what is seen of the text.
use Rattle.std.proofs.Common.{◌≡◌, List, Result, Ok, ap, subst, sym}
use Rattle.pec_types.specs.Answers.{OrNoMemory}
use Rattle.pec_types.specs.Bytes.{Bytes}
use Rattle.pec_types.specs.Results.{◌>>=◌}
use Rattle.pec_types.specs.declared.disputes.LetterFault.{LetterFault}
use Rattle.pec_types.specs.declared.disputes.LetterFault.TheVariants.{NoMemory}
use Rattle.pec_directory.specs.Directory.{Provider, providers_of}
use Rattle.pec_seal.specs.Seals.{Seals}
use Rattle.pec_letter_parts.specs.Letters.{Headed}
use Rattle.pec_letter_parts.specs.LettersReading.{headed_of}
use Rattle.pec_letter_parts.specs.Views.{headed_shown}
use Rattle.pec_receipts.specs.SeenReading.{seen_in, view}
use Rattle.pec_receipts.specs.declared.reading.ReceiptView.{ReceiptView}
use Rattle.pec_receipts.proofs.reading.receipt_in.Goals as goal

behind_head : (seals : Seals) (providers : List Provider) (text : Bytes) (read : Headed) → headed_of seals text ≡ Ok read
    → view seals providers text ≡ seen_in providers read
unfolding view
behind_head seals providers text read e = ap (λ (r : Result Headed LetterFault). r >>= seen_in providers) e

pub returns : goal.returns
returns c = record {
  exact = λ seals text read.
      subst (λ (given : Result ReceiptView LetterFault). OrNoMemory NoMemory c.see_in.result given)
      (sym (behind_head seals (providers_of c.args.directory.now) text (headed_shown c.args.headed) read))
      c.see_in.ensures;
}
