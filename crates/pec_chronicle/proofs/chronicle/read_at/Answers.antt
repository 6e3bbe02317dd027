use Rattle.pec_records.specs.Entry.{IsEntry}
use Rattle.pec_chronicle.proofs.ReadingLemmas.{no_both}
use Rattle.pec_chronicle.proofs.chronicle.read_at.Goals as goal

pub returns-in-Ok-clause-is : goal.returns-in-Ok-clause-is
returns-in-Ok-clause-is g c tells texts text file stands =
    rw (c.in_ok-bytes.ensures.entry tells texts text file stands) at (rw c.deref.ensures.value at c.in-Ok.ensures.reads.value)

pub returns-in-Err-Syntax-clause-changed : goal.returns-in-Err-Syntax-clause-changed
returns-in-Err-Syntax-clause-changed g c tells texts text file stands is entry isnt =
    let there : IsEntry entry c.deref.result.now = rw (c.deref.ensures.value, c.in_ok-bytes.ensures.entry tells texts text file stands) isnt in
    no_both entry c.in-Err-Syntax.field-0 (c.in-Err-Syntax.ensures.reads.only entry there (λ same. cc (c.in-Err-Syntax.field-0-is)))
