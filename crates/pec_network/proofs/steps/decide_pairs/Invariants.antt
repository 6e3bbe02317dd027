use Rattle.std.proofs.Common.{◌≡◌, ◌≤◌, [], length}
use Rattle.pec_ledger.specs.Ledger.{Journals}
use Rattle.pec_plays.specs.Decisions.{undecided}
use Rattle.pec_plays.specs.Turns.{frames_in}
use Rattle.pec_provider.specs.OfTrades.{world_at}
use Rattle.pec_chronicle.specs.Carrying.{CarriesOn}
use Rattle.pec_chronicle.specs.Chronicle.{Stands}
use Rattle.pec_provider.specs.Following.{MayFollow}
use Rattle.pec_provider.specs.Provider.{RunsIn, desk_of}
use Rattle.pec_provider.specs.Working.{IsAtWork}
use Rattle.pec_network.specs.Looking.{LookAlike}
use Rattle.pec_network.specs.Turning.{Leads, Waiting}
use Rattle.pec_network.proofs.steps.decide_pairs.Given as goal

abbrev pub invariant-loop : goal.invariant-loop
invariant-loop g l =
    let trade = world_at l.house in
    record {
      leads : (left : Waiting) → frames_in left ≡ []
          → Leads (g.D.Disk.tells × Stands g.D.Disk.sight l.fn.provider.chronicle) trade l.house.me l.moment
          (g.J.Judge.patterns l.fn.judge) (desk_of l.fn.provider) left l.fn.events.items
          (desk_of l.provider) left l.events.items;
      works : IsAtWork trade l.house.me l.moment (desk_of l.provider);
      patterns : g.J.Judge.patterns l.judge ≡ g.J.Judge.patterns l.fn.judge;
      looked : LookAlike (g.J.Judge.seen l.fn.judge) (g.J.Judge.seen l.judge);
      runs : RunsIn l.house l.provider;
      carries : g.D.Disk.tells → (journals : Journals)
          → CarriesOn g.D.Disk.sight (MayFollow trade journals l.house.me) l.fn.provider.chronicle l.provider.chronicle;
      later : g.D.Counted.faults l.fn.provider.chronicle.disk ≤ g.D.Counted.faults l.provider.chronicle.disk;
    }

abbrev pub decreases-loop : goal.decreases-loop
decreases-loop g l =
    length (undecided (world_at l.house) l.house.me
    l.provider.chronicle.entries)
