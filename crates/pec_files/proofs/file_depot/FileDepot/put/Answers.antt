use Rattle.std.proofs.Common.{◌<◌, List, map, length, ap, ◌∙◌, rules}
use Rattle.std.specs.List.{slice_index_or}
use Rattle.pec_files.specs.declared.file_depot.Standing.{Standing}
use Rattle.pec_files.specs.Folders.{FolderState, out}
use Rattle.pec_files.specs.Standings.{slot_of}
use Rattle.pec_files.proofs.PlaceLemmas.{set_here, set_elsewhere}
use Rattle.pec_files.proofs.file_depot.FileDepot.put.Goals as goal

pub returns-clause-replaced : goal.returns-clause-replaced
returns-clause-replaced g c =
    let slots = c.self.inside.slots in
    let within : c.args.at < length slots = search rules in
    record {
      here =
          ap (λ (l : List Standing). slice_index_or (map slot_of l) c.args.at (out 0)) c.put_at.ensures.after
          ∙ set_here slots c.args.at c.args.next within;
      elsewhere = λ k other.
          ap (λ (l : List Standing). slice_index_or (map slot_of l) k (out 0)) c.put_at.ensures.after
          ∙ set_elsewhere slots c.args.at c.args.next k other
          ∙ ap (λ (d : FolderState). slice_index_or d.slots k (out 0)) c.self.view_is;
      folder = ap (λ (d : FolderState). d.folder) c.self.view_is;
      faults = ap (λ (d : FolderState). d.faults) c.self.view_is;
    }
