-- The contents are those that were made.
use Rattle.std.proofs.Common.{Some, ap, subst, ◌∙◌}
use Rattle.std.specs.Option.{option_map}
use Rattle.pec_directory.specs.Directory.{providers_of}
use Rattle.pec_letter_parts.specs.Contents.{parts_of}
use Rattle.pec_letter_parts.specs.Sealing.{IsLetterText}
use Rattle.pec_letter_facts.specs.Certifying.{told_text}
use Rattle.pec_receipts.proofs.ComposeLemmas.{same_contents}
use Rattle.pec_receipts.specs.Receipts.{message_in, phrase_of, receipt_heading}
use Rattle.pec_receipts.specs.Views.{row_shown, said_shown}
use Rattle.pec_receipts.proofs.composing.certify_by.Goals as goal

pub returns : goal.returns
returns g c =
    let providers = providers_of c.args.directory.now
    in let row = row_shown c.args.row.now
    in let said = said_shown c.args.said.now
    in let r = c.args.receipt.now
    in record {
      certificate = c.in_ok-certificate.certificate.items;
      certificate_is = c.in_ok-certificate.ensures;
      text_is =
          subst
          (λ contents.
          IsLetterText (g.S.Sealer.seals c.args.sealer.now) r.by (receipt_heading providers r c.args.stamp row said) (parts_of contents)
          c.in_ok-text.text.items)
          (same_contents c.as_slice.result.now
          (told_text providers r.id c.args.stamp r.facts (phrase_of c.args.issuer.now r row said))
          (option_map (λ bytes. bytes.now) c.bytes.result) (message_in r said c.args.original.now)
          (Some c.as_slice-2.result.now) (Some c.in_ok-certificate.certificate.items)
          (c.as_slice.ensures.value ∙ c.in_ok-told.ensures) (c.bytes.ensures ∙ c.in_ok-shown.ensures)
          (ap Some c.as_slice-2.ensures.value))
          c.in_ok-text.ensures;
    }
