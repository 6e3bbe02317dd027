use Rattle.std.proofs.Common.{◌≡◌, ◌+◌, ◌++◌, ◌∷◌, [], true, length, sym, ap, ◌∙◌, arith, rules}
use Rattle.pec_directory.specs.Drafts.{read_so_far}
use Rattle.pec_directory.specs.Views.{fields_shown}
use Rattle.pec_directory.specs.Walk.{with_accounts}
use Rattle.pec_directory.proofs.KeepingLemmas.{counted_more, deeds_more, spots_more}
use Rattle.pec_directory.proofs.settling.settle.Goals as goal

pub returns-clause-read : goal.returns-clause-read
returns-clause-read c =
    let earlier = read_so_far c.args.draft.now in
    let provider = with_accounts (fields_shown c.args.fields) c.in_ok-accounts.accounts.items in
    let claimed : c.in_ok-claim.field-0 ≡ true = search rules in
    let all : read_so_far c.keep.new.draft ≡ earlier ++ provider ∷ [] = rw c.in_ok-claim.ensures.providers at c.in_ok-keep.ensures.kept in
    let counted = counted_more earlier provider in
    let count : c.keep.new.draft.accounts ≡ c.args.draft.now.accounts + length c.in_ok-accounts.accounts.items =
    c.in_ok-keep.ensures.count ∙ ap (λ n. n + length c.in_ok-accounts.accounts.items) c.in_ok-claim.ensures.accounts in
    record {
      homes = rw (c.in_ok-keep.ensures.homes, all) (deeds_more _ earlier provider (rw (← c.as_slice-2.ensures.value) (c.in_ok-claim.ensures.homes claimed).0));
      spots = rw all (spots_more _ earlier provider (rw c.in_ok-claim.ensures.providers at c.in_ok-accounts.ensures.accounts));
      count = rw all (count ∙ ap (λ n. n + length c.in_ok-accounts.accounts.items) c.requires.read.count ∙ sym counted);
      few = omega (arith, count, c.in_ok-claim.ensures.accounts, c.in_ok-accounts.ensures.few);
      zones = c.in_ok-keep.ensures.zones (rw c.in_ok-claim.ensures.providers c.requires.read.zones);
    }
