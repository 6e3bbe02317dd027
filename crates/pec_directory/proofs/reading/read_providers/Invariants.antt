use Rattle.std.proofs.Common.{◌≡◌, [], length, drop}
use Rattle.toml.specs.View.{items_view}
use Rattle.pec_directory.specs.Drafts.{IsRead, read_so_far}
use Rattle.pec_directory.specs.Walk.{providers_from}
use Rattle.pec_directory.proofs.reading.read_providers.Given as goal

abbrev pub invariant-loop-value : goal.invariant-loop-value
invariant-loop-value l = record {
  all : providers_from (read_so_far l.draft) (items_view (drop l.value-index l.values)) ≡ providers_from [] (items_view l.values);
  read : IsRead l.draft l.places;
  count : length l.draft.providers.items ≡ l.value-index;
}
