-- Each address is looked at once.
use Rattle.std.proofs.Common.{arith, subst, sym}
use Rattle.pec_types.specs.Bytes.{Path}
use Rattle.pec_ledger.specs.Lookups.{has_room}
use Rattle.pec_reception.proofs.AccountLemmas.{FindsAll, finds_all, found_all, found_next}
use Rattle.pec_reception.proofs.others.accounts_with_room.Goals as goal

pub loop-address-init : goal.loop-address-init
loop-address-init c = record {
  all = λ trade. λ of.
      let room = has_room trade c.args.shelf.now.me c.args.shelf.now.half
      in subst (λ (found : Path). FindsAll room c.args.path.now found c.args.path.now)
      (sym c.new-accounts.ensures.items) (finds_all room c.args.path.now);
  few = omega (arith, c.new-accounts.ensures.items);
}

pub loop-address-preserved : goal.loop-address-preserved
loop-address-preserved c = record {
  all = λ trade. λ of.
      found_next (has_room trade c.args.shelf.now.me c.args.shelf.now.half) c.args.path.now
      c.loop-address.accounts.items c.add.new.accounts.items
      c.loop-address.address-index c.address-item.result c.loop-address-test.true c.address-item.is
      (c.in_ok-add.ensures.accounts trade of)
      (c.loop-address.invariant.all trade of);
  few = omega (arith, c.in_ok-add.ensures.few);
}

pub returns-clause-accounts : goal.returns-clause-accounts
returns-clause-accounts c = λ trade. λ of.
    found_all (has_room trade c.args.shelf.now.me c.args.shelf.now.half) c.args.path.now c.loop-address.accounts.items
    c.loop-address.address-index
    c.loop-address-test.false (c.loop-address.invariant.all trade of)
