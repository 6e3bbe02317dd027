use Rattle.std.proofs.Common.{ap, Err}
use Rattle.pec_types.specs.declared.turns.ProviderFault.{ProviderFault}
use Rattle.pec_provider.specs.OfTrades.{world_at}
use Rattle.pec_network.proofs.EndLemmas.{disk_early, put_all, put_none, told_all, told_none, unchanged_none, unchanged_put}
use Rattle.pec_network.proofs.turns.whole.Goals as goal

pub returns-in-Ok-clause-puts : goal.returns-in-Ok-clause-puts
returns-in-Ok-clause-puts g c =
    put_all _ _ _ _ _ c.args.events.items c.args.house.now.me c.in-Ok.out.items c.all_put.result c.in-Ok.ensures.out
    c.all_put.ensures.out c.all_put.ensures.turn

pub returns-in-Ok-clause-turn : goal.returns-in-Ok-clause-turn
returns-in-Ok-clause-turn g c =
    told_all c.args.house.now.me c.args.events.items c.in-Ok.out.items c.all_put.result c.all_put.ensures.out
    c.all_put.ensures.turn

pub returns-in-Ok-clause-unchanged : goal.returns-in-Ok-clause-unchanged
returns-in-Ok-clause-unchanged g c = λ stood.
    unchanged_put (world_at c.args.house.now) c.args.provider.now.chronicle.entries c.args.house.now.me
    c.args.events.items _ c.all_put.result c.all_put.ensures.turn

pub returns-in-Err-clause-unchanged : goal.returns-in-Err-clause-unchanged
returns-in-Err-clause-unchanged g c = λ stood.
    unchanged_none (world_at c.args.house.now) c.args.provider.now.chronicle.entries c.args.house.now.me
    c.args.events.items c.in-Err.fault c.cut_off.result c.cut_off.ensures.turn (c.in-Err.ensures.unchanged stood)

pub returns-in-Err-clause-puts : goal.returns-in-Err-clause-puts
returns-in-Err-clause-puts g c =
    put_none _ _ _ _ _ c.args.events.items c.args.house.now.me c.in-Err.fault c.cut_off.result
    c.in-Err.ensures.failed c.cut_off.ensures.other c.cut_off.ensures.out c.cut_off.ensures.turn

pub returns-in-Err-clause-turn : goal.returns-in-Err-clause-turn
returns-in-Err-clause-turn g c =
    told_none c.args.house.now.me c.args.events.items c.in-Err.fault c.cut_off.result c.cut_off.ensures.out
    c.cut_off.ensures.turn

pub returns-in-Err-clause-disk_fault : goal.returns-in-Err-clause-disk_fault
returns-in-Err-clause-disk_fault g c =
    disk_early c.args.house.now.me c.args.events.items c.in-Err.fault c.cut_off.result c.cut_off.ensures.turn
    (λ is. c.in-Err.ensures.disk_fault (ap (λ (f : ProviderFault). Err f) is))
