-- What was read of the path and the parts that are left are together all of it.
use Rattle.std.proofs.Common.{◌≡◌, [], option_map}
use Rattle.std.specs.List.{slice_split}
use Rattle.pec_types.specs.Bytes.{comma}
use Rattle.pec_words.specs.Cuts.{is_at, parts_behind, size_left}
use Rattle.pec_words.specs.Paths.{path_with}
use Rattle.pec_words.proofs.paths.read_path.Given as goal

abbrev pub invariant-loop-rest : goal.invariant-loop-rest
invariant-loop-rest l =
    path_with l.path.items (parts_behind comma (option_map (λ text. text.now) l.rest)) ≡ path_with [] (slice_split (is_at comma) l.text)

abbrev pub decreases-loop-rest : goal.decreases-loop-rest
decreases-loop-rest l = size_left (option_map (λ text. text.now) l.rest)
