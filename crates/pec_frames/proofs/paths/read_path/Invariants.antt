-- What was read of the path and the entries that are left are together all of them.
use Rattle.std.proofs.Common.{◌≡◌, ◌+◌, [], length}
use Rattle.std.specs.List.{slice_split}
use Rattle.std.specs.Option.{option_map}
use Rattle.pec_frames.specs.Entries.{entries_behind, size_left}
use Rattle.pec_frames.specs.FramesReading.{entries_from, is_comma}
use Rattle.pec_frames.proofs.paths.read_path.Given as goal

abbrev pub invariant-loop-rest : goal.invariant-loop-rest
invariant-loop-rest l =
    (entries_from l.place l.addresses.items (entries_behind (option_map (λ text. text.now) l.rest)) ≡ entries_from l.start [] (slice_split is_comma l.line))
    × (l.place + size_left (option_map (λ text. text.now) l.rest) ≡ l.start + length l.line + 1)

abbrev pub decreases-loop-rest : goal.decreases-loop-rest
decreases-loop-rest l = size_left (option_map (λ text. text.now) l.rest)
