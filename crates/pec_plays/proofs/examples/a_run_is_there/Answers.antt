-- A run that meets the premises: its rows are computed, and it is Sound by the laws.
use Rattle.std.proofs.Common.{◌≡◌, List, refl, arith, Some}
use Rattle.std.proofs.lemmas.Option.{none-some}
use Rattle.pec_types.specs.Bytes.{Bytes}
use Rattle.pec_types.specs.LimitsReading.{due_of}
use Rattle.pec_records.specs.Entry.{number_16, number_32, number_64}
use Rattle.pec_ledger.specs.Boxes.{boxes_of}
use Rattle.pec_ledger.specs.Due.{due_letters}
use Rattle.pec_ledger.specs.Network.{at_start}
use Rattle.pec_ledger.specs.Own.{decision_at}
use Rattle.pec_ledger.specs.SmallWorld.{small}
use Rattle.pec_ledger.specs.Steps.{half, size_of, step}
use Rattle.pec_plays.specs.Commands.{played}
use Rattle.pec_screen.specs.VerdictReading.{finds, rule_in}
use Rattle.pec_plays.specs.Decisions.{decide, decision_on, found_in_taken, undecided}
use Rattle.pec_plays.specs.Examples.{calmly, no_screens, to_the_end}
use Rattle.pec_plays.specs.Frames.{due_frames, frame_of}
use Rattle.pec_plays.specs.Reception.{arrive}
use Rattle.pec_plays.specs.Rounds.{rounded, turns_of}
use Rattle.pec_plays.specs.Scripts.{AllUnforged, put_instead}
use Rattle.pec_plays.specs.Steps.{has_no_room}
use Rattle.pec_plays.specs.Turns.{Whole, turned}
use Rattle.pec_plays.proofs.examples.a_run_is_there.Goals as goal

no_other : {X : Type 0} (out : List (List Bytes)) → put_instead Whole ≡ Some out → X
no_other out e = absurd (none-some out e)

may_come : AllUnforged small (calmly to_the_end) (at_start small no_screens) to_the_end
may_come = (
  (omega arith, omega arith, omega arith),
  (
    (omega arith, λ p out l e. no_other out e),
    (
      (omega arith, λ p out l e. no_other out e),
      (
        (omega arith, λ p out l e. no_other out e),
        ((omega arith, λ p out l e. no_other out e), ((omega arith, λ p out l e. no_other out e), (tt, (tt, (tt, tt))))),
      ),
    ),
  ),
)

pub returns : goal.returns
unfolding due_of boxes_of number_16 number_32 number_64 due_letters at_start decision_at half size_of step played decide undecided due_frames frame_of arrive rounded turns_of has_no_room turned finds rule_in decision_on found_in_taken
returns c = record {
  unforged = may_come;
  sound = c.a_network_stays_sound.ensures.ends small c.a_world_is_there.ensures (calmly to_the_end) (at_start small no_screens) to_the_end
      (c.soundness.ensures.start small no_screens) may_come;
  rows = refl;
  waiting = refl;
  owed = refl;
}
