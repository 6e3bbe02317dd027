use Rattle.std.proofs.Common.{subst, sym}
use Rattle.std.specs.Prelude.{IfOk}
use Rattle.pec_chronicle.specs.Chronicle.{Stands}
use Rattle.pec_provider.specs.OfTrades.{world_at}
use Rattle.pec_provider.specs.Provider.{ProviderState, desk_of, site_of}
use Rattle.pec_network.specs.Turning.{CarriesFrames, Took, room_in, turn_of}
use Rattle.pec_network.specs.declared.turns.Taken.{Taken}
use Rattle.pec_rows.specs.Rows.{waits}
use Rattle.pec_network.proofs.turns.take_turn.Goals as goal

pub returns-clause-took : goal.returns-clause-took
returns-clause-took g c =
    subst (λ (p : ProviderState g.row.D.Denot). IfOk c.turn-taken.result (λ (taken : Taken). Took
    (g.D.Disk.tells × Stands g.D.Disk.sight c.args.provider.now.chronicle) (world_at c.args.house.now)
    c.args.house.now.me c.args.moment (room_in c.args.rooms.now)
    (site_of (desk_of c.args.provider.now) (g.J.Judge.patterns c.args.judge.now) (waits c.args.takers.now))
    (turn_of (site_of (desk_of p) (g.J.Judge.patterns c.args.judge.now) (waits c.turn-taken.new.takers)) taken.turn
    taken.out)))
    (sym c.end_turn.ensures) c.turn-taken.ensures.took

pub returns-clause-carries : goal.returns-clause-carries
returns-clause-carries g c =
    subst (λ (p : ProviderState g.row.D.Denot). g.D.Disk.tells
    → CarriesFrames (world_at c.args.house.now)
    c.args.house.now.me c.args.moment g.D.Disk.sight c.args.provider.now.chronicle (waits c.args.takers.now) p.chronicle
    (waits c.turn-taken.new.takers))
    (sym c.end_turn.ensures) c.turn-taken.ensures.carries
