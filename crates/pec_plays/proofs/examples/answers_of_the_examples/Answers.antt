-- The answers are computed.
use Rattle.std.proofs.Common.{refl}
use Rattle.pec_types.specs.LimitsReading.{due_of}
use Rattle.pec_records.specs.Entry.{number_16, number_32, number_64}
use Rattle.pec_ledger.specs.Books.{archive_lines, book, mailbox_lines}
use Rattle.pec_ledger.specs.Boxes.{boxes_of}
use Rattle.pec_ledger.specs.Due.{due_letters}
use Rattle.pec_ledger.specs.Items.{item_text}
use Rattle.pec_ledger.specs.Network.{at_start}
use Rattle.pec_ledger.specs.Own.{decision_at}
use Rattle.pec_ledger.specs.Steps.{half, size_of, step}
use Rattle.pec_plays.specs.Commands.{played}
use Rattle.pec_screen.specs.VerdictReading.{finds, rule_in}
use Rattle.pec_plays.specs.Decisions.{decide, decision_on, found_in_taken, undecided}
use Rattle.pec_plays.specs.Frames.{due_frames, frame_of}
use Rattle.pec_plays.specs.Reception.{arrive}
use Rattle.pec_plays.specs.Rounds.{rounded, turns_of}
use Rattle.pec_plays.specs.Steps.{has_no_room}
use Rattle.pec_plays.specs.Turns.{turned}
use Rattle.pec_plays.proofs.examples.answers_of_the_examples.Goals as goal

pub returns : goal.returns
unfolding due_of boxes_of number_16 number_32 number_64 archive_lines book mailbox_lines due_letters item_text at_start decision_at half size_of step played decide undecided due_frames frame_of arrive rounded turns_of has_no_room turned finds rule_in decision_on found_in_taken
returns c = record { to_the_end = refl; out_of_order = refl; no_such_place = refl; from_outside = refl; fault_forgotten = refl; fault_found = refl; read_failed = refl; look_failed = refl; unread_decision = refl; unwelcome = refl; put_away = refl }
