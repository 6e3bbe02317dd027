-- A directory is refused, or taken.
use Rattle.std.proofs.Common.{◌∙◌, ap, refl, sym}
use Rattle.pec_input.specs.Directory.{opened_shown}
use Rattle.pec_top.proofs.input.Input.of.Goals as goal

pub returns-in_ok-text-in-Refused-clause-read : goal.returns-in_ok-text-in-Refused-clause-read
returns-in_ok-text-in-Refused-clause-read c = (
  c.in-Refused.fault,
  sym c.in_ok-fault.ensures ∙ ap opened_shown c.in-Refused.is,
  c.in_ok-text-in-Refused.ensures,
  refl,
)

pub returns-in-Opens-clause-read : goal.returns-in-Opens-clause-read
returns-in-Opens-clause-read c = sym c.in_ok-fault.ensures ∙ ap opened_shown c.in-Opens.is
