-- The records that were read and those of the lines that are left are together all of them.
use Rattle.std.proofs.Common.{◌≡◌, [], option_map}
use Rattle.std.specs.List.{list_any, slice_split}
use Rattle.pec_ldif.specs.Records.{is_parting, is_provider}
use Rattle.pec_ldif.specs.RecordsReading.{entries_from, groups_behind, lines_left}
use Rattle.pec_ldif.proofs.reading.read_entries.Given as goal

abbrev pub invariant-loop-rest : goal.invariant-loop-rest
invariant-loop-rest l =
    (entries_from l.draft.entries.items (groups_behind (option_map (λ lines. lines.now) l.rest)) ≡ entries_from [] (slice_split is_parting l.lines))
    × (l.draft.has_provider ≡ list_any is_provider l.draft.entries.items)

abbrev pub decreases-loop-rest : goal.decreases-loop-rest
decreases-loop-rest l = lines_left (option_map (λ lines. lines.now) l.rest)
