use Rattle.std.proofs.Common.{◌<◌, ◌≤◌, [], List, ℕ, length, get_or, subst, sym}
use Rattle.std.proofs.lemmas.List.{length-map}
use Rattle.std.proofs.lemmas.Option.{none-some, same_Some}
use Rattle.pec_types.specs.Bytes.{Bytes}
use Rattle.pec_directory.specs.Directory.{Kept}
use Rattle.pec_link.specs.Ends.{Putting}
use Rattle.pec_provider.specs.Provider.{desk_of, site_of}
use Rattle.pec_chronicle.specs.Chronicle.{Stands}
use Rattle.pec_rows.specs.Rows.{ArePut, waits}
use Rattle.pec_provider.specs.OfTrades.{world_at}
use Rattle.pec_network.specs.Turning.{Took, room_in, turn_of}
use Rattle.pec_network.proofs.WorkLemmas.{can_put, nothing_put}
use Rattle.pec_network.proofs.working.work.Goals as goal

pub put_all-requires : goal.put_all-requires
put_all-requires g c =
    let slot = c.args.slot.now in
    let house = c.args.house.now in
    let turn = turn_of (site_of (desk_of c.take_turn-taken.new.provider) (g.J.Judge.patterns slot.judge) (waits c.take_turn-taken.new.takers)) c.in-Ok.field-0.turn c.in-Ok.field-0.out in
    can_put _ (world_at house) house.me c.args.moment c.as_slice.result.now (site_of (desk_of slot.provider) (g.J.Judge.patterns slot.judge) (waits slot.takers)) turn
    c.into_vec.result.items slot.putters (length-map house.directory.now (λ (one : Kept). one.provider)) c.requires.putters
    c.in-Ok.ensures.took c.into_vec.ensures c.in-Ok.ensures.fit
    (subst (λ (rooms : List ℕ). (to : ℕ) (other : Putting) → to < length slot.putters → room_in rooms to ≤ (get_or slot.putters to other).free)
    (sym c.as_slice.ensures) c.requires.free)

pub returns-in-Ok : goal.returns-in-Ok
returns-in-Ok g c =
    let slot = c.args.slot.now in
    let house = c.args.house.now in
    let turn = turn_of (site_of (desk_of c.take_turn-taken.new.provider) (g.J.Judge.patterns slot.judge) (waits c.take_turn-taken.new.takers)) c.in-Ok.field-0.turn c.in-Ok.field-0.out in
    record {
      out = c.in-Ok.field-0.out;
      turn = λ other e.
          rw (← same_Some c.in-Ok.field-0.turn other e) (record {
            took = subst (λ (rooms : List ℕ). Took (g.D.Disk.tells × Stands g.D.Disk.sight slot.provider.chronicle)
                (world_at house) house.me c.args.moment (room_in rooms)
                (site_of (desk_of slot.provider) (g.J.Judge.patterns slot.judge) (waits slot.takers)) turn) c.as_slice.ensures c.in-Ok.ensures.took;
            told = c.in-Ok.ensures.told;
            memory = c.in-Ok.ensures.memory;
            fit = subst (λ (rooms : List ℕ). (to : ℕ) → length (get_or c.in-Ok.field-0.out to []) ≤ room_in rooms to) c.as_slice.ensures
                c.in-Ok.ensures.fit;
            disk_fault = c.in-Ok.ensures.disk_fault;
          });
      short = λ e. absurd (none-some c.in-Ok.field-0.turn (sym e));
      puts = subst (λ (out : List (List Bytes)). ArePut slot.putters out c.put_all.new.self) c.into_vec.ensures c.put_all.ensures;
      frames = c.in-Ok.ensures.kept;
      runs = c.in-Ok.ensures.runs;
      judged = c.in-Ok.ensures.patterns;
      looked = c.in-Ok.ensures.looked;
      nothing_owed = c.in-Ok.ensures.nothing_owed;
      links = c.in-Ok.ensures.links;
      carries = c.in-Ok.ensures.carries;
      stands = c.in-Ok.ensures.stands;
      later = c.in-Ok.ensures.later;
    }

pub returns-in-Err : goal.returns-in-Err
returns-in-Err g c = record {
  out = [];
  turn = λ turn e. absurd (none-some turn e);
  short = λ e. c.in-Err.ensures.short;
  puts = nothing_put c.args.slot.now.putters;
  frames = c.in-Err.ensures.kept;
  runs = c.in-Err.ensures.runs;
  judged = c.in-Err.ensures.patterns;
  looked = c.in-Err.ensures.looked;
  nothing_owed = c.in-Err.ensures.nothing_owed;
  links = c.in-Err.ensures.links;
  carries = c.in-Err.ensures.carries;
  stands = c.in-Err.ensures.stands;
  later = c.in-Err.ensures.later;
}
