use Rattle.std.proofs.Common.{length, sym, ap, ◌∙◌, subst, rules}
use Rattle.pec_journal.specs.JournalFile.{front, places_of, IsFile}
use Rattle.pec_journal.proofs.OneListLemmas.{one_list, broken_is_no_file}
use Rattle.pec_journal.proofs.journal.Journal.reopen.Goals as goal

pub returns-in-Ok-clause-list : goal.returns-in-Ok-clause-list
returns-in-Ok-clause-list g c tells entries file =
    let read = c.in-Ok.ensures.opened tells in
    let same = one_list read.0 entries _ read.1 file in
    let seen = (c.read_file.ensures.stays tells).seen in (
      record {
        file = rw c.over.ensures (subst (IsFile entries) (sym seen) file);
        durable = rw c.over.ensures (c.in-Ok.ensures.durable tells);
        ends = rw c.over.ensures (read.3 ∙ ap (λ es. length (front es)) same);
      },
      read.2 ∙ ap places_of same,
    )

pub returns-in-Err-clause-refused : goal.returns-in-Err-clause-refused
returns-in-Err-clause-refused g c tells entries file place is =
    broken_is_no_file _ place entries (c.in-Err.ensures.not_a_journal tells place (search rules)) file
