use Rattle.std.proofs.Common.{arith}
use Rattle.pec_network.proofs.crashing.put_back.Goals as goal

pub insert-requires : goal.insert-requires
insert-requires g c = c.requires.place

pub unreachable-requires : goal.unreachable-requires
unreachable-requires g c = let full = c.in-Err.ensures.full in let room = c.requires.room in omega arith

pub unreachable-unreachable : goal.unreachable-unreachable
unreachable-unreachable g c = c.unreachable.result

pub returns : goal.returns
returns g c = c.in-Ok.ensures.items
