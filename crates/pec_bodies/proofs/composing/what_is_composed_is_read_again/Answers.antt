-- The law of composing, from the lemmas and the laws of lines.
use Rattle.pec_bodies.proofs.ComposeLaws.{read_again}
use Rattle.pec_bodies.proofs.composing.what_is_composed_is_read_again.Goals as goal

pub returns : goal.returns
returns c =
    let law = c.lines_are_the_text.ensures
    in let sizes = c.lines_have_their_size.ensures
    in read_again
    (record {
      next_returned = law.next_returned;
      several = law.several;
      lines_have_none = λ text. (law.whole text).lines_have_none;
      behind = law.behind;
      piece = law.piece;
      returned = law.returned;
    })
    (record { several = sizes.several; text = sizes.text })
