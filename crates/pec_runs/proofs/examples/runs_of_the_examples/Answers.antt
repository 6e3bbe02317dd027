-- The runs are computed, and the headline holds by its law.
use Rattle.std.proofs.Common.{zero, suc, refl}
use Rattle.pec_types.specs.LimitsReading.{due_of}
use Rattle.pec_records.specs.Entry.{number_16, number_32, number_64}
use Rattle.pec_ledger.specs.Books.{archive_lines, book, mailbox_lines}
use Rattle.pec_ledger.specs.Boxes.{boxes_of}
use Rattle.pec_ledger.specs.Due.{due_letters}
use Rattle.pec_ledger.specs.Items.{item_text}
use Rattle.pec_ledger.specs.Network.{at_start}
use Rattle.pec_ledger.specs.Own.{decision_at}
use Rattle.pec_ledger.specs.SmallWorld.{small}
use Rattle.pec_ledger.specs.Steps.{half, size_of, step}
use Rattle.pec_screen.specs.VerdictReading.{finds, rule_in}
use Rattle.pec_plays.specs.Commands.{played}
use Rattle.pec_plays.specs.Decisions.{decide, decision_on, found_in_taken, undecided}
use Rattle.pec_plays.specs.Examples.{calmly, no_screens, to_the_end}
use Rattle.pec_plays.specs.Frames.{due_frames, frame_of}
use Rattle.pec_plays.specs.Possible.{NoneInterrupted}
use Rattle.pec_plays.specs.Reception.{arrive}
use Rattle.pec_plays.specs.Rounds.{rounded, turns_of}
use Rattle.pec_plays.specs.Steps.{has_no_room}
use Rattle.pec_plays.specs.Turns.{turned}
use Rattle.pec_runs.proofs.examples.runs_of_the_examples.Goals as goal

none_at_start : NoneInterrupted (at_start small no_screens)
unfolding at_start
none_at_start zero = refl
none_at_start (suc zero) = refl
none_at_start (suc (suc provider)) = refl

pub returns : goal.returns
unfolding due_of boxes_of number_16 number_32 number_64 archive_lines book mailbox_lines due_letters item_text at_start decision_at half size_of step played decide undecided due_frames frame_of arrive rounded turns_of has_no_room turned finds rule_in decision_on found_in_taken
returns g c = record {
  faulty = refl;
  faults = refl;
  looked = refl;
  unfinished = refl;
  no_frame_first = refl;
  at_rest = (refl, (refl, tt));
  headline = c.the_books_belong_to_the_ledger.ensures small c.a_world_is_there.ensures (calmly to_the_end)
      (at_start small no_screens) to_the_end
      (c.soundness.ensures.start small no_screens) none_at_start c.a_run_is_there.ensures.unforged;
}
