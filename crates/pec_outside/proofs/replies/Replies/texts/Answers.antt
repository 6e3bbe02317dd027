use Rattle.std.proofs.Common.{◌≡◌, length, map, sym, ap, ◌∙◌, arith}
use Rattle.pec_outside.specs.Doors.{RepliesState, Reply}
use Rattle.pec_outside.proofs.ReplyLemmas.{texts_of}
use Rattle.pec_outside.proofs.replies.Replies.texts.Goals as goal

pub returns : goal.returns
returns c =
    let inside = c.self.inside in
    let same : length inside.texts.items ≡ length inside.raised.items = omega (arith, inside.texts.ok.0, inside.raised.ok.0, c.self.invariant.beside) in
    c.as_slice.ensures.value ∙ sym (texts_of inside.texts.items inside.raised.items same)
    ∙ ap (λ (s : RepliesState). map (λ (reply : Reply). reply.text) s.all) c.self.view_is
