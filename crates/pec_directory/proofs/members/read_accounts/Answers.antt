use Rattle.std.proofs.Common.{◌∷◌, [], length, ap, ◌∙◌, arith, length-append}
use Rattle.pec_directory.specs.Drafts.{read_so_far}
use Rattle.pec_directory.specs.Views.{fields_shown}
use Rattle.pec_directory.proofs.StepLemmas.{accounts_step}
use Rattle.pec_directory.proofs.members.read_accounts.Goals as goal

pub loop-value-preserved : goal.loop-value-preserved
loop-value-preserved c =
    rw c.in_ok-push.ensures.items
    record {
      read =
          accounts_step (read_so_far c.args.draft.now) (fields_shown c.args.fields.now) c.loop-value.all.items c.args.values.now c.loop-value.value-index c.value-item.result c.in_ok-account.account
          c.loop-value-test.true c.value-item.is (rw c.as_slice.ensures.value at c.in_ok-account.ensures.answer)
          ∙ c.loop-value.invariant.read;
      places = rw c.as_slice.ensures.value at c.in_ok-account.ensures.accounts;
      few = omega (arith, length-append c.loop-value.all.items (c.in_ok-account.account ∷ []), ap length c.as_slice.ensures.value, c.in_ok-account.ensures.few);
    }
