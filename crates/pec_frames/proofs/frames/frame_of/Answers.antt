-- The frame is read as the path that it was made of.
use Rattle.std.proofs.Common.{◌≡◌, ◌≤◌, subst, sym, arith, rules, length}
use Rattle.std.proofs.lemmas.Grind.{common_steps}
use Rattle.pec_types.specs.Bytes.{Bytes}
use Rattle.pec_frames.specs.Frames.{IsFrame, frame_text, message_at, path_line}
use Rattle.pec_frames.specs.declared.TheConstants.{FRAME_LIMIT}
use Rattle.pec_frames.proofs.frames.frame_of.Goals as goal

pub returns-clause-frame : goal.returns-clause-frame
returns-clause-frame c =
    let text : c.of-2.result ≡ frame_text c.args.path.now c.args.message.now = first_of (search rules, grind (arith, common_steps)) in
    let short : length c.of-2.result ≤ FRAME_LIMIT = first_of (search rules, grind (arith, common_steps)) in
    subst (λ (t : Bytes). IsFrame t c.args.path.now (message_at (path_line c.args.path.now))) (sym text)
    (c.a_frame_is_read_as_it_was_made.ensures.path c.args.path.now c.args.message.now (record {
      some = c.requires.some;
      few = c.requires.few;
      lower = c.in_ok-line.ensures.lower;
      short = subst (λ (t : Bytes). length t ≤ FRAME_LIMIT) text short;
    }))
