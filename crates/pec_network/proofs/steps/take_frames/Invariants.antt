use Rattle.std.proofs.Common.{◌≡◌, ◌≤◌, List, length}
use Rattle.pec_plays.specs.Turns.{frames_in}
use Rattle.pec_provider.specs.OfTrades.{world_at}
use Rattle.pec_chronicle.specs.Chronicle.{Stands}
use Rattle.pec_provider.specs.Provider.{RunsIn, desk_of}
use Rattle.pec_provider.specs.Working.{IsAtWork}
use Rattle.pec_network.specs.Turning.{CarriesFrames, Leads}
use Rattle.pec_rows.specs.Rows.{knowns, waits}
use Rattle.pec_screen.specs.Verdicts.{Patterns}
use Rattle.pec_network.proofs.steps.take_frames.Given as goal

abbrev pub invariant-loop : goal.invariant-loop
invariant-loop g l =
    let trade = world_at l.house in
    record {
      leads : (screens : List Patterns)
          → Leads (g.D.Disk.tells × Stands g.D.Disk.sight l.fn.provider.chronicle) trade l.house.me l.moment screens
          (desk_of l.fn.provider) (waits l.fn.takers) l.fn.events.items
          (desk_of l.provider) (waits l.takers) l.events.items;
      works : IsAtWork trade l.house.me l.moment (desk_of l.provider);
      runs : RunsIn l.house l.provider;
      links : length (waits l.takers) ≡ length (waits l.fn.takers);
      kept : knowns l.takers ≡ knowns l.fn.takers;
      carries : g.D.Disk.tells → CarriesFrames trade l.house.me l.moment g.D.Disk.sight l.fn.provider.chronicle
          (waits l.fn.takers) l.provider.chronicle (waits l.takers);
      stands : g.D.Disk.tells → Stands g.D.Disk.sight l.fn.provider.chronicle
          → Stands g.D.Disk.sight l.provider.chronicle;
      later : g.D.Counted.faults l.fn.provider.chronicle.disk ≤ g.D.Counted.faults l.provider.chronicle.disk;
    }

abbrev pub decreases-loop : goal.decreases-loop
decreases-loop g l = length (frames_in (waits l.takers))
