-- What was made is the frame, and one that would be too long can't be made.
use Rattle.std.proofs.Common.{arith, ap, Err}
use Rattle.pec_outgoing.proofs.FramingLemmas.{framed_so, not_framed}
use Rattle.pec_outgoing.proofs.framing.in_frame_along.Goals as goal

pub returns-in-Ok : goal.returns-in-Ok
returns-in-Ok g c =
    framed_so c.a_trade_says_what_its_parts_say.ensures.frames c.what_is_read_is_in_lower_case.ensures
    c.args.desk.now.house.now.directory.now
    (g.S.Sealer.seals c.args.desk.now.house.now.sealer.now) c.args.path.now c.args.text.now c.in-Ok.frame _ c.requires.some
    c.requires.few c.in-Ok.ensures.text
    c.in-Ok.ensures.frame c.in-Ok.ensures.short

pub returns-in-Err-TooLong : goal.returns-in-Err-TooLong
returns-in-Err-TooLong g c =
    not_framed c.a_trade_says_what_its_parts_say.ensures.frames c.args.desk.now.house.now.directory.now (g.S.Sealer.seals
    c.args.desk.now.house.now.sealer.now)
    c.args.path.now c.args.text.now
    (λ has. let long = c.in-Err-TooLong.ensures.too_long (ap Err c.in-Err-TooLong.field-0-is) in let short = has.short
    in omega (arith, long, short))
