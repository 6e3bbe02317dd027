-- What is ASCII is UTF-8.
use Rattle.std.proofs.lemmas.Str.{IsUtf8-from_ascii}
use Rattle.pec_http_head.proofs.patterns.ascii.Goals as goal

pub unreachable-requires : goal.unreachable-requires
unreachable-requires c =
    let ascii = rw c.if-not-is_ascii.false at c.is_ascii.ensures.cases in
    c.in-Err.ensures.cases.0 (IsUtf8-from_ascii c.args.text.now ascii)
