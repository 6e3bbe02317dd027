-- From the last addressee on.
use Rattle.std.proofs.Common.{◌≤◌, List, length, sym, subst, ◌∙◌}
use Rattle.pec_types.specs.Bytes.{Bytes}
use Rattle.pec_link.specs.Ends.{Putting}
use Rattle.pec_rows.proofs.RowLemmas.{IsFar, all_put, far_begun, far_more, frees}
use Rattle.pec_rows.proofs.rows.Putters.put_all.Goals as goal

pub loop-frames-init : goal.loop-frames-init
loop-frames-init c =
    subst (λ (now : List Putting). IsFar c.args.self.now c.args.out.items now c.args.out.items) (sym c.self.view_is)
    (far_begun c.args.self.now c.args.out.items)

pub put_each-requires : goal.put_each-requires
put_each-requires c =
    subst (λ (l : List Bytes). length l ≤ c.index_mut.result.now.free) (sym c.into_vec.ensures)
    (frees c.args.self.now c.loop-frames.self-inside.ends.items c.args.out.items c.loop-frames.out.items c.pop.new.self.items c.in-Some.frames
    c.len.result c.index_mut.result.now c.requires c.loop-frames.invariant c.in-Some.ensures.items (c.len.ensures ∙ c.pop.new.self.ok.0)
    c.index_mut.ensures.value)

pub loop-frames-preserved : goal.loop-frames-preserved
loop-frames-preserved c =
    far_more c.args.self.now c.loop-frames.self-inside.ends.items c.args.out.items c.loop-frames.out.items c.pop.new.self.items c.in-Some.frames
    c.len.result c.index_mut.result.now c.requires c.loop-frames.invariant c.in-Some.ensures.items (c.len.ensures ∙ c.pop.new.self.ok.0)
    c.index_mut.ensures.value c.put_each.new.putter c.into_vec.result.items c.into_vec.ensures c.put_each.ensures.ring c.put_each.ensures.put

pub returns : goal.returns
returns c =
    all_put c.args.self.now c.loop-frames.self-inside.ends.items c.args.out.items c.loop-frames.out.items c.loop-frames.invariant
    (sym c.loop-frames.out.ok.0 ∙ c.in_default.ensures.cases.0)
