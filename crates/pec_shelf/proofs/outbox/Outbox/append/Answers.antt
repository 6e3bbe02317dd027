use Rattle.std.proofs.Common.{◌++◌, List, length, ap, ◌∙◌, arith}
use Rattle.std.specs.List.{range_with_len}
use Rattle.pec_shelf.specs.Sides.{Kept}
use Rattle.pec_shelf.proofs.StillLemmas.{answered_more}
use Rattle.pec_shelf.proofs.outbox.Outbox.append.Goals as goal

pub invariant_of-self : goal.invariant_of-self
invariant_of-self c = record {
  messages = omega arith;
  charged = omega arith;
  marks = omega arith;
  known = omega arith;
  places = omega arith;
  unanswered = answered_more c.self.inside.me c.self.inside.messages.rows c.args.rows.messages.items c.append.new.self.rows c.self.inside.charged.rows c.args.rows.charged.items
      c.append-2.new.self.rows c.self.inside.known.rows c.args.rows.known.items c.append-4.new.self.rows c.self.inside.unanswered.places c.add.new.self.places c.len-first.result
      c.self.invariant.unanswered c.append.ensures.rows c.append-2.ensures.rows c.append-4.ensures.rows
      (c.add.ensures.places ∙ ap (λ (rows : List Kept). c.self.inside.unanswered.places ++ range_with_len c.len-first.result (length rows)) c.as_slice-count.ensures.value)
      c.len-first.ensures.value;
}
