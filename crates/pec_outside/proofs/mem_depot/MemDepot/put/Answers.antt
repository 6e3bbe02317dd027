use Rattle.std.proofs.Common.{◌<◌, List, map, length, ap, ◌∙◌, rules}
use Rattle.std.specs.List.{slice_index_or}
use Rattle.pec_outside.specs.declared.mem_depot.Standing.{Standing}
use Rattle.pec_outside.specs.DepotSlots.{slot_of}
use Rattle.pec_outside.specs.Depots.{DepotState, out}
use Rattle.pec_outside.proofs.DepotLemmas.{set_here, set_elsewhere}
use Rattle.pec_outside.proofs.mem_depot.MemDepot.put.Goals as goal

pub returns-clause-replaced : goal.returns-clause-replaced
returns-clause-replaced c =
    let slots = c.self.inside.slots in
    let within : c.args.at < length slots = search rules in
    record {
      here = ap (λ (l : List Standing). slice_index_or (map slot_of l) c.args.at (out 0)) c.put_at.ensures.after ∙ set_here slots c.args.at c.args.next within;
      elsewhere = λ k other.
          ap (λ (l : List Standing). slice_index_or (map slot_of l) k (out 0)) c.put_at.ensures.after
          ∙ set_elsewhere slots c.args.at c.args.next k other
          ∙ ap (λ (d : DepotState). slice_index_or d.slots k (out 0)) c.self.view_is;
      failing = ap (λ (d : DepotState). d.failing) c.self.view_is;
      kept = ap (λ (d : DepotState). d.kept) c.self.view_is;
      crashes = ap (λ (d : DepotState). d.crashes) c.self.view_is;
    }
