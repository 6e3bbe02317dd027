use Rattle.std.proofs.lemmas.List.{take_rest}
use Rattle.pec_grammar.specs.Reading.{standing}
use Rattle.pec_cert.proofs.Runs.{run_ends, run_printable}
use Rattle.pec_cert.proofs.markup.text.Goals as goal

pub printable-requires : goal.printable-requires
printable-requires c = rw c.plain_front-front.ensures.value (run_printable c.args.at.rest.now)

pub returns : goal.returns
returns c =
    rw (c.in_ok-text.ensures, c.tried.ensures, take_rest c.args.at.rest.now c.plain_front-front.result, c.plain_front-front.ensures.value)
    (run_ends (standing c.args.at) c.in-Err.stop.rest.now
    (rw (take_rest c.args.at.rest.now c.plain_front-front.result, c.plain_front-front.ensures.value) at c.in-Err.ensures))
