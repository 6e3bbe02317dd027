use Rattle.std.proofs.Common.{◌≡◌, ◌+◌, ◌≤◌, [], length, drop}
use Rattle.toml.specs.View.{items_view}
use Rattle.pec_directory.specs.Drafts.{read_so_far}
use Rattle.pec_directory.specs.Indexes.{HasAccounts}
use Rattle.pec_directory.specs.Views.{fields_shown}
use Rattle.pec_directory.specs.Walk.{accounts_from, most_accounts}
use Rattle.pec_directory.proofs.members.read_accounts.Given as goal

abbrev pub invariant-loop-value : goal.invariant-loop-value
invariant-loop-value l = record {
  read : accounts_from (read_so_far l.draft) (fields_shown l.fields) l.all.items (items_view (drop l.value-index l.values))
      ≡ accounts_from (read_so_far l.draft) (fields_shown l.fields) [] (items_view l.values);
  places : HasAccounts l.places (read_so_far l.draft) l.all.items;
  few : l.draft.accounts + length l.all.items ≤ most_accounts;
}
