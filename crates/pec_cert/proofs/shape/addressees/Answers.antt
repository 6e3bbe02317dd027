use Rattle.std.proofs.Common.{subst}
use Rattle.pec_grammar.specs.Reading.{standing, Fails}
use Rattle.pec_grammar.proofs.Repeats.{goes_on, ends_here, shrinks}
use Rattle.pec_cert.specs.LinesReading.{addressee_at}
use Rattle.pec_cert.proofs.PartLemmas.{addressee, addressee_lawful, addressee_has_byte}
use Rattle.pec_cert.proofs.shape.addressees.Goals as goal

pub returns-in-Err-Stop : goal.returns-in-Err-Stop
returns-in-Err-Stop c =
    let stopped = subst (λ e. Fails e (addressee_at (standing c.others.at))) c.in-Err-Stop.field-0-is c.in-Err-Stop.ensures in
    rw (c.of.ensures, c.tried.ensures, c.in-Err-Stop.stop-is) (ends_here addressee_at c.others.all.items (standing c.others.at) _ _ c.others.invariant stopped)

pub others-smaller : goal.others-smaller
others-smaller c = shrinks addressee addressee_lawful addressee_has_byte (standing c.others.at) (standing c.in-Ok.taken.1) c.in-Ok.taken.0 c.in-Ok.ensures

pub others-preserved : goal.others-preserved
others-preserved c =
    let less = shrinks addressee addressee_lawful addressee_has_byte (standing c.others.at) (standing c.in-Ok.taken.1) c.in-Ok.taken.0 c.in-Ok.ensures in
    rw c.in_ok-push-2.ensures.items
    (goes_on addressee_at c.others.all.items (standing c.others.at) (standing c.in-Ok.taken.1) c.in-Ok.taken.0 _ c.others.invariant c.in-Ok.ensures less)
