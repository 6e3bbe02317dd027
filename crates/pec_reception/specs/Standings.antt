-- How a letter stands that came, by the answer of the table of reception.
use Rattle.pec_points.specs.declared.reception.Arrived.{Arrived}
use Rattle.pec_points.specs.declared.reception.Reception.{Reception}
use Rattle.pec_points.specs.declared.reception.Reception.TheVariants.{Take, Charge, Outcome, Ack, Repeat, Anomaly, Drop}
use Rattle.pec_reception.specs.declared.standing.Standing.{Standing}
use Rattle.pec_reception.specs.declared.standing.Standing.TheVariants.{New, Known, Foreign}

abbrev pub standing_of : Reception → Standing
standing_of Take = New
standing_of Charge = New
standing_of Outcome = New
standing_of Ack = New
standing_of Repeat = Known
standing_of Anomaly = Foreign
standing_of Drop = Foreign

-- what is seen before anybody asks which accounts have room
abbrev pub unasked : Arrived → Arrived
unasked arrived = record arrived { accounts_with_room = 0 }
