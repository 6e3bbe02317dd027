-- Both fields are put.
use Rattle.std.proofs.Common.{◌++◌, ap, codes, ◌∙◌}
use Rattle.pec_heads.specs.WrittenHeads.{field, field_text}
use Rattle.pec_bodies.specs.Composing.{composed_type}
use Rattle.pec_letter_parts.proofs.PutLemmas.{put_fields}
use Rattle.pec_letter_parts.specs.Headings.{multipart_fields}
use Rattle.pec_letter_parts.proofs.headings.put_multipart.Goals as goal

pub returns : goal.returns
unfolding multipart_fields
returns c =
    put_fields c.args.out.now.items c.put_field.new.out.items c.put_field-2.new.out.items
    (field (codes "MIME-Version") (codes "1.0")) (field (codes "Content-Type") (composed_type c.args.number))
    c.in_ok-put_field.ensures
    (c.in_ok-put_field-2.ensures ∙ ap (λ value. c.put_field.new.out.items ++ field_text (field (codes "Content-Type") value)) (c.as_slice.ensures.value ∙ c.in_ok-value.ensures))
