-- The head and the line are sealed, on the clock of the issuer.
use Rattle.std.proofs.Common.{Some, ◌≡◌, ◌++◌, codes, sym, ap, subst, ◌∙◌}
use Rattle.pec_cert.specs.Stamp.{Instant}
use Rattle.pec_cert.specs.Zone.{stamp_of}
use Rattle.pec_directory.specs.Directory.{providers_of}
use Rattle.pec_heads.specs.WrittenHeads.{head_text, with_head}
use Rattle.pec_letter_parts.specs.Headings.{heading_fields}
use Rattle.pec_seal.specs.Seals.{sealed}
use Rattle.pec_receipts.specs.Receipts.{ack_body, ack_heading}
use Rattle.pec_receipts.specs.Views.{row_shown}
use Rattle.pec_receipts.proofs.composing.acknowledge.Goals as goal

pub returns : goal.returns
returns g c =
    let providers = providers_of c.args.directory.now
    in let r = c.args.receipt.now
    in let fields = λ (stamp : Instant). heading_fields (ack_heading providers r stamp (row_shown c.args.row.now))
    in let put : c.put_ack_head.new.out.items ≡ head_text (fields c.stamp-stamp.result) =
    c.in_ok-put_ack_head.ensures ∙ ap (λ text. text ++ head_text (fields c.stamp-stamp.result)) c.in_ok-letter.ensures.items
    in let letter : c.as_slice.result.now ≡ with_head (fields c.stamp-stamp.result) ack_body =
    c.as_slice.ensures.value ∙ c.in_ok-extend_from_slice.ensures.items ∙ ap (λ text. text ++ codes "\r\nricevuto\r\n") put
    in record {
      issuer = c.in-Some.issuer.now;
      issuer_is = sym c.in-Some.ensures;
      text_is =
          subst
          (λ stamp. sealed (g.S.Sealer.seals c.args.sealer.now) r.by (with_head (fields stamp) ack_body) ≡ Some c.in_ok-text.text.items)
          (c.stamp-stamp.ensures ∙ ap (λ zone. stamp_of zone r.moment) c.zone.ensures.zone)
          (ap (λ bytes. sealed (g.S.Sealer.seals c.args.sealer.now) r.by bytes) (sym letter) ∙ c.in_ok-text.ensures.text);
    }
