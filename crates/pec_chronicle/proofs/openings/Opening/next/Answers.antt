use Rattle.std.proofs.Common.{map, rules}
use Rattle.pec_records.specs.Entry.{entry_text}
use Rattle.pec_chronicle.proofs.ReadingLemmas.{no_stop}
use Rattle.pec_chronicle.proofs.openings.Opening.next.Goals as goal

pub returns-in_err-entry-in-Some-clause-bad_entry : goal.returns-in_err-entry-in-Some-clause-bad_entry
returns-in_err-entry-in-Some-clause-bad_entry g c tells texts so_far number is =
    c.in_err-entry-in-Some.ensures.bad_entry tells texts so_far number (search rules)

pub returns-in_err-entry-in-Some-clause-refused : goal.returns-in_err-entry-in-Some-clause-refused
returns-in_err-entry-in-Some-clause-refused g c tells list opens number is =
    let stop = c.in_err-entry-in-Some.ensures.bad_entry tells (map entry_text list) opens.reads number (search rules) in
    no_stop c.args.self.now.read list stop.bad stop.more stop.is opens.written stop.none
