use Rattle.std.proofs.Common.{◌++◌, List, length, sym, ap, ◌∙◌, arith}
use Rattle.std.specs.List.{range_with_len}
use Rattle.pec_ledger.specs.Half.{Fate, Taken}
use Rattle.pec_shelf.specs.Sides.{Received}
use Rattle.pec_shelf.proofs.StillLemmas.{heard_more}
use Rattle.pec_shelf.proofs.UndecidedLemmas.{taken_more}
use Rattle.pec_shelf.proofs.inbox.Inbox.append.Goals as goal

pub invariant_of-self : goal.invariant_of-self
invariant_of-self c = record {
  taken = omega arith;
  decided = omega arith;
  acked = omega arith;
  places = omega arith;
  outcomes = omega arith;
  undecided = taken_more c.self.inside.taken.rows c.args.rows.taken.items c.append.new.self.rows c.self.inside.decided.rows c.args.rows.decided.items c.append-2.new.self.rows
      c.self.inside.undecided.places c.add.new.self.places c.count_taken-taken.result c.self.invariant.undecided c.append.ensures.rows c.append-2.ensures.rows
      (c.add.ensures.places ∙ ap (λ (rows : List Taken). c.self.inside.undecided.places ++ range_with_len c.count_taken-taken.result (length rows)) c.as_slice-ids.ensures.value)
      (c.count_taken-taken.ensures.value ∙ sym (ap (λ (v : Received). length v.taken) c.self.view_is));
  unheard = heard_more c.self.inside.decided.rows c.args.rows.decided.items c.append-2.new.self.rows c.self.inside.acked.rows c.args.rows.acked.items c.append-3.new.self.rows
      c.self.inside.unheard.places c.add-2.new.self.places c.count_decided-decided.result c.self.invariant.unheard c.append-2.ensures.rows c.append-3.ensures.rows
      (c.add-2.ensures.places ∙ ap (λ (rows : List Fate). c.self.inside.unheard.places ++ range_with_len c.count_decided-decided.result (length rows)) c.as_slice-fates.ensures.value)
      (c.count_decided-decided.ensures.value ∙ sym (ap (λ (v : Received). length v.decided) c.self.view_is));
}
