use Rattle.std.proofs.Common.{sym}
use Rattle.pec_chronicle.proofs.openings.read_entry.Goals as goal

pub returns-in-Ok-clause-is : goal.returns-in-Ok-clause-is
returns-in-Ok-clause-is g c tells texts text file stands =
    rw (c.in_ok-bytes.ensures.entry tells texts text file stands) at c.in-Ok.ensures.is

pub returns-in-Err-Syntax-clause-bad_entry : goal.returns-in-Err-Syntax-clause-bad_entry
returns-in-Err-Syntax-clause-bad_entry g c tells texts text file stands bad is =
    let bytes = c.in_ok-bytes.ensures.entry tells texts text file stands in
    let none = c.in-Err-Syntax.ensures.none (λ same. cc (c.in-Err-Syntax.field-0-is)) in (
      cc,
      λ entry isnt. none entry (rw (sym bytes) at isnt),
    )
