-- The groups of fields are put one behind another.
use Rattle.std.proofs.Common.{codes}
use Rattle.pec_heads.specs.WrittenHeads.{field}
use Rattle.pec_letter_parts.proofs.PutLemmas.{put_groups}
use Rattle.pec_letter_parts.specs.Headings.{heading_fields, marks_of, names_of, parties_of}
use Rattle.pec_letter_parts.specs.Views.{heading_shown}
use Rattle.pec_letter_parts.proofs.headings.put_heading.Goals as goal

pub returns : goal.returns
unfolding heading_fields
returns c =
    let h = heading_shown c.args.heading.now
    in put_groups c.args.out.now.items c.put_marks.new.out.items c.put_names.new.out.items c.put_parties.new.out.items c.put_field.new.out.items
    (marks_of h) (names_of h) (parties_of h) (field (codes "Subject") h.subject)
    c.in_ok-put_marks.ensures c.in_ok-put_names.ensures c.in_ok-put_parties.ensures c.in_ok-put_field.ensures
