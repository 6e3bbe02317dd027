-- The parts are put one behind another, and what closes them.
use Rattle.std.proofs.Common.{◌∷◌, [], ◌++◌, Some}
use Rattle.pec_types.specs.Bytes.{hyphen}
use Rattle.pec_heads.specs.Lines.{ended_line}
use Rattle.pec_bodies.specs.Composing.{delimited}
use Rattle.pec_bodies.specs.Marks.{dashed}
use Rattle.pec_letter_parts.proofs.PutLemmas.{put_parts}
use Rattle.pec_letter_parts.specs.Contents.{optional_part, parts_of}
use Rattle.pec_letter_parts.specs.Views.{contents_shown}
use Rattle.pec_letter_parts.specs.declared.contents.PartKind.TheVariants.{Text, Message, Certificate}
use Rattle.pec_letter_parts.proofs.sealing.put_body.Goals as goal

pub returns : goal.returns
unfolding parts_of
returns c =
    let contents = contents_shown c.args.contents.now
    in let boundary = c.args.boundary.now
    in put_parts c.args.out.now.items c.put_part.new.out.items c.put_part-2.new.out.items c.put_part-3.new.out.items c.put_closing.new.out.items
    (delimited boundary) (optional_part Text (Some contents.text)) (optional_part Message contents.message) (optional_part Certificate contents.certificate)
    (ended_line (dashed boundary ++ hyphen ∷ hyphen ∷ []))
    c.in_ok-put_part.ensures c.in_ok-put_part-2.ensures c.in_ok-put_part-3.ensures c.in_ok-put_closing.ensures
