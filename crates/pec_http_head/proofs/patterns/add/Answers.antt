-- A pattern that no other is in the way of is added.
use Rattle.pec_http_head.proofs.RouterLemmas.{inserted, memory_alone}
use Rattle.pec_http_head.proofs.patterns.add.Goals as goal

pub unreachable-requires : goal.unreachable-requires
unreachable-requires c = memory_alone c.args.pattern.now c.args.asked c.args.router.now c.insert.new.self c.requires.pattern c.in-Err.error c.in_default-error.not-OutOfMemory c.requires.free c.in-Err.ensures

pub returns-in_default : goal.returns-in_default
returns-in_default c = inserted c.args.pattern.now c.args.asked c.args.router.now c.insert.new.self c.requires.pattern c.in_default.field-0 c.in_default.ensures
