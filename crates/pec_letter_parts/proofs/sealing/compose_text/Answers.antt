-- What is sealed is the head with the number that was found, and the parts under its boundary.
use Rattle.std.proofs.Common.{◌≡◌, ◌∷◌, [], ◌++◌, ap, refl, sym, ◌∙◌}
use Rattle.pec_types.specs.Bytes.{carriage_return, line_feed}
use Rattle.pec_heads.specs.WrittenHeads.{with_head}
use Rattle.pec_bodies.specs.Composing.{boundary_number, joined_parts}
use Rattle.pec_seal.specs.Seals.{sealed}
use Rattle.pec_letter_parts.proofs.PutLemmas.{put_letter}
use Rattle.pec_letter_parts.specs.Contents.{parts_of}
use Rattle.pec_letter_parts.specs.Headings.{heading_fields, letter_fields, multipart_fields}
use Rattle.pec_letter_parts.specs.Views.{contents_shown, heading_shown}
use Rattle.pec_letter_parts.proofs.sealing.compose_text.Goals as goal

pub returns : goal.returns
returns g c =
    let h = heading_shown c.args.heading.now
    in let parts = parts_of (contents_shown c.args.contents.now)
    in let n = c.in_ok-number.number
    in let body = joined_parts (boundary_number n) parts
    in let letter : c.put_body.new.out.items ≡ with_head (letter_fields h n) body =
    put_letter c.in_ok-letter.letter.items c.put_heading.new.out.items c.put_multipart.new.out.items c.end_head.new.out.items c.put_body.new.out.items
    (heading_fields h) (multipart_fields n) (carriage_return ∷ line_feed ∷ []) body
    c.in_ok-letter.ensures.items c.in_ok-put_heading.ensures c.in_ok-put_multipart.ensures c.in_ok-end_head.ensures
    (c.in_ok-put_body.ensures ∙ ap (λ boundary. c.end_head.new.out.items ++ joined_parts boundary parts) (c.as_slice.ensures.value ∙ c.in_ok-boundary.ensures))
    in record {
      number = n;
      body = body;
      composed = record { number = c.in_ok-number.ensures; body_is = refl };
      text_is = ap (sealed (g.S.Sealer.seals c.args.sealer.now) c.args.provider) (sym (c.as_slice-2.ensures.value ∙ letter)) ∙ c.in_ok-text.ensures.text;
    }
