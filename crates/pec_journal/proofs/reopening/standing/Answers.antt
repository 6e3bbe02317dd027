use Rattle.std.proofs.Common.{◌≡◌, ◌<◌, ℕ, get_or, length, arith}
use Rattle.pec_journal.proofs.ReopeningLemmas.{whole_entry}
use Rattle.pec_journal.proofs.reopening.standing.Goals as goal

pub returns-clause-holds : goal.returns-clause-holds
returns-clause-holds c tail taken left =
    let five : length c.args.bytes.now ≡ 5 = omega (arith, c.requires, c.if-bytes-lt-FRAMING.false) in
    let small : (i : ℕ) → get_or c.args.bytes.now i 0 < 256 = λ i. (c.type_inv.bytes i).fits in
    whole_entry c.args.bytes.now tail c.from_be_bytes-length.result five small c.if-bytes-ne-OPEN_GATE.false c.from_be_bytes-length.ensures taken
    (omega (arith, left, c.from.ensures, c.if-left-from.false)) c.from_be_bytes-length.type_inv
