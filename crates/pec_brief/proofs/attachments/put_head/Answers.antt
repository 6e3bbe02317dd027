-- Two fields and the end of the head, put one after another.
use Rattle.std.proofs.Common.{[], ◌∷◌}
use Rattle.pec_types.specs.Bytes.{carriage_return, line_feed}
use Rattle.pec_heads.specs.WrittenHeads.{field_text}
use Rattle.pec_brief.specs.Attachments.{disposition_field, type_field}
use Rattle.pec_brief.proofs.PutLemmas.{head_put}
use Rattle.pec_brief.proofs.attachments.put_head.Goals as goal

pub returns : goal.returns
returns c =
    head_put c.args.out.now.items (field_text (type_field c.args.name.now)) (field_text (disposition_field c.args.name.now))
    (carriage_return ∷ line_feed ∷ []) c.put_type.new.out.items c.put_disposition.new.out.items c.end_head.new.out.items
    c.in_ok-put_type.ensures c.in_ok-put_disposition.ensures c.in_ok-end_head.ensures
