use Rattle.std.proofs.Common.{◌≡◌, ◌++◌, drop, option_map}
use Rattle.toml.specs.View.{items_view}
use Rattle.pec_directory.specs.Fields.{domains_of}
use Rattle.pec_directory.proofs.fields.read_domains.Given as goal

abbrev pub invariant-loop-value : goal.invariant-loop-value
invariant-loop-value l = domains_of (items_view l.items) ≡ option_map (λ rest. l.all.items ++ rest) (domains_of (items_view (drop l.value-index l.items)))
