-- Reception by the table: from the lemmas, and from the law that a frame has one reception.
use Rattle.std.proofs.Common.{ap, ◌∙◌}
use Rattle.pec_points.specs.declared.reception.Reception.{Reception}
use Rattle.pec_plays.specs.TableSight.{arrived_at, done_by}
use Rattle.pec_plays.proofs.SightLemmas.{done_by_table}
use Rattle.pec_plays.proofs.reception.reception_is_the_table.Goals as goal

pub returns : goal.returns
returns c = λ trade provider now journal frame framed u reception is.
    done_by_table trade provider now journal frame framed u
    ∙ ap (λ (r : Reception). done_by trade provider now journal framed r (arrived_at trade provider journal framed).letter)
    ((c.a_frame_has_one_reception.ensures.function provider (arrived_at trade provider journal framed) reception).1 is)
