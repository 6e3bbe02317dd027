use Rattle.std.proofs.Common.{◌≡◌, ◌++◌, take}
use Rattle.std.specs.List.{flat_map}
use Rattle.pec_shelf.specs.Still.{envelope_in}
use Rattle.pec_shelf.proofs.owing.push_envelopes.Given as goal

abbrev pub invariant-loop-number : goal.invariant-loop-number
invariant-loop-number l = l.letters.items ≡ l.fn.letters.items ++ flat_map (envelope_in l.outbox.me l.shelf.half l.to l.outbox.messages) (take l.number-index l.numbers)
