-- The books are computed.
use Rattle.std.proofs.Common.{refl}
use Rattle.pec_ledger.specs.Books.{archive_lines, book, mailbox_lines}
use Rattle.pec_ledger.specs.Boxes.{boxes_of}
use Rattle.pec_ledger.specs.Own.{decision_at}
use Rattle.pec_ledger.specs.Steps.{half, step}
use Rattle.pec_types.specs.LimitsReading.{due_of}
use Rattle.pec_ledger.proofs.examples.books_of_the_examples.Goals as goal

pub returns : goal.returns
unfolding archive_lines book boxes_of mailbox_lines decision_at half step due_of
returns c = record {
  two_recipients = refl;
  nobody_there = refl;
  nobody_receipts = refl;
  late_delivery = refl;
  late_receipts = refl;
  late_envelope = refl;
  warned = refl;
  room_for_one = refl;
  room_beside_a_receipt = refl;
  room_for_first = refl;
  no_account = refl;
  room_again = refl;
  emptied = refl;
  vault = refl;
  next_item = refl;
  same_vault = refl;
  virus_book = refl;
  virus_receipts = refl;
  virus_kept_out = refl;
}
