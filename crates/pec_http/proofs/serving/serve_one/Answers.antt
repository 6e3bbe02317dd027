use Rattle.std.proofs.Common.{arith}
use Rattle.pec_http.proofs.ServingLemmas.{not_read, risen_before, stop_served}
use Rattle.pec_http.proofs.serving.serve_one.Goals as goal

pub returns-in_default : goal.returns-in_default
returns-in_default g c = record {
  serves = stop_served _ _ _ _ _ _ c.in-Err.stop _ _ c.exchange.ensures.kept (record { same = c.in-Err.ensures.same; rested = c.in-Err.ensures.rested }) c.in_default.not-ReadFault c.in-Err.ensures.stop c.refuse.ensures.sends;
  read_fault = λ e. absurd (not_read _ _ _ _ _ c.refuse.ensures.sends.2 e);
  write_fault = λ e. risen_before _ _ _ c.exchange.ensures.later c.refuse.ensures.later (c.refuse.ensures.cause e);
  later = omega (arith, c.exchange.ensures.later, c.refuse.ensures.later);
}
