use Rattle.std.proofs.Common.{◌≡◌, length, arith}
use Rattle.pec_outside.proofs.ReplyLemmas.{put_so}
use Rattle.pec_outside.proofs.replies.Replies.put.Goals as goal

pub returns : goal.returns
returns c =
    let inside = c.self.inside in
    let same : length inside.texts.items ≡ length inside.raised.items = omega (arith, inside.texts.ok.0, inside.raised.ok.0, c.self.invariant.beside) in
    put_so _ _ _ _ _ _ _ _ same c.self.view_is c.push_reserved.ensures.items c.push_reserved-2.ensures.items
