-- No part so far has the name, so that the first one is among those that are left.
use Rattle.std.proofs.Common.{◌≡◌, drop, find}
use Rattle.pec_letter_parts.specs.Letters.{has_name}
use Rattle.pec_letter_parts.proofs.letters.body_of.Given as goal

abbrev pub invariant-loop-i : goal.invariant-loop-i
invariant-loop-i l = find (has_name l.name) (drop l.i l.parts) ≡ find (has_name l.name) l.parts
