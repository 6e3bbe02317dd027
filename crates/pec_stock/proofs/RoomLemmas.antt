-- What was appended was within a journal's limit.
use Rattle.std.proofs.Common.{ℕ, ◌+◌, ◌≤◌, length, arith}
use Rattle.pec_journal.specs.JournalFile.{framing}
use Rattle.pec_journal.specs.declared.journal.TheConstants.{JOURNAL_LIMIT}
use Rattle.pec_records.specs.Entry.{entry_text}
use Rattle.pec_records.specs.declared.entries.Entry.{Entry}
use Rattle.pec_ledger.specs.Steps.{size_of}
use Rattle.pec_plays.specs.Steps.{longest_journal}

pub within_limit : (end : ℕ) (entry : Entry) → end + size_of entry ≤ longest_journal
    → end + framing + length (entry_text entry) ≤ JOURNAL_LIMIT
unfolding size_of
within_limit end entry fits = omega (arith, fits)
