use Rattle.std.proofs.Common.{sym, arith}
use Rattle.std.proofs.lemmas.Option.{slice_get_within}
use Rattle.pec_shelf.proofs.owing.push_envelope_of.Goals as goal

pub invariant_of-id : goal.invariant_of-id
invariant_of-id c =
    let within = slice_get_within c.args.outbox.now.messages c.args.number c.in-Some.row.now (sym c.in-Some.ensures) in
    omega (arith, within, c.requires)
