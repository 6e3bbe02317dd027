-- The number that the pieces leave free is the one that the parts do.
use Rattle.std.proofs.Common.{map, ap, subst, ◌∙◌}
use Rattle.pec_bodies.specs.Composing.{IsLeastFree}
use Rattle.pec_letter_parts.proofs.PieceLemmas.{free_alike}
use Rattle.pec_letter_parts.specs.Views.{contents_shown}
use Rattle.pec_letter_parts.proofs.sealing.number_of.Goals as goal

pub returns : goal.returns
returns c =
    free_alike c.lines_have_their_size.ensures.several (contents_shown c.args.contents.now) c.in_ok-number.number
    (subst (λ pieces. IsLeastFree pieces c.in_ok-number.number) (ap (map (λ piece. piece.now)) c.as_slice.ensures.value ∙ c.in_ok-pieces.ensures) c.in_ok-number.ensures)
