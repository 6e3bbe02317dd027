use Rattle.std.proofs.Common.{◌≡◌, ◌<◌, length, sym, ◌∙◌, ap, inl, inr, arith}
use Rattle.pec_input.proofs.FindingLemmas.{long_found, nothing_left, whole_found}
use Rattle.pec_input.proofs.PieceLemmas.{moved_read, moved_none, moved_ended, moved_more, read_on, where_more, where_none}
use Rattle.pec_input.proofs.buffers.next_line.Goals as goal

pub returns-then-not-branch-clause-found : goal.returns-then-not-branch-clause-found
returns-then-not-branch-clause-found g c =
    let none = where_none _ _ _ c.if-not-branch.true c.in_ok-refill.ensures.more in
    whole_found c.args.most _ c.deref.result.now c.pieces.line.items _ _ c.found_in.ensures c.deref.ensures.value
    (read_on _ _ _ c.pieces.line.items c.pieces.invariant.read c.in_ok-refill.ensures.read)
    (inr (c.pieces.invariant.none, nothing_left c.refill.new.buffer _ none.0 none.1))

pub returns-then-branch-clause-read : goal.returns-then-branch-clause-read
returns-then-branch-clause-read g c =
    moved_read _ _ _ c.pieces.line.items _ c.pieces.buffer c.refill.new.buffer _ c.pieces.invariant.read
    c.in_ok-refill.ensures.read c.in_ok-move_line.ensures.line c.in_ok-move_line.ensures.rest

pub returns-then-branch-clause-found : goal.returns-then-branch-clause-found
returns-then-branch-clause-found g c =
    whole_found c.args.most _ c.deref-then-branch.result.now c.move_line.new.line.items _ _
    c.found_in-then-branch.ensures c.deref-then-branch.ensures.value
    (moved_read _ _ _ c.pieces.line.items _ c.pieces.buffer c.refill.new.buffer _ c.pieces.invariant.read
    c.in_ok-refill.ensures.read c.in_ok-move_line.ensures.line c.in_ok-move_line.ensures.rest)
    (inl (moved_ended c.pieces.line.items _ c.refill.new.buffer c.pieces.invariant.none c.in_ok-move_line.ensures.line
    (sym c.if-branch.true ∙ c.in_ok-move_line.ensures.ended)))

pub returns-clause-found : goal.returns-clause-found
returns-clause-found g c =
    let size : length c.as_slice.result.now ≡ length c.pieces.line.items =
    ap (λ bytes. length bytes) c.as_slice.ensures.value in
    long_found c.args.most c.pieces.line.items _ _ c.pieces.invariant.read c.pieces.invariant.none (omega arith)

pub pieces-smaller : goal.pieces-smaller
pieces-smaller g c =
    let some : 0 < length c.refill.new.buffer = where_more _ _ _ c.if-not-branch.false c.in_ok-refill.ensures.more in
    let size : length c.as_slice.result.now ≡ length c.pieces.line.items =
    ap (λ bytes. length bytes) c.as_slice.ensures.value in
    let more : length c.pieces.line.items < length c.move_line.new.line.items =
    moved_more c.pieces.line.items _ c.refill.new.buffer some c.in_ok-move_line.ensures.line in
    omega arith

pub pieces-preserved : goal.pieces-preserved
pieces-preserved g c = record {
  read =
      moved_read _ _ _ c.pieces.line.items _ c.pieces.buffer c.refill.new.buffer _ c.pieces.invariant.read
      c.in_ok-refill.ensures.read c.in_ok-move_line.ensures.line c.in_ok-move_line.ensures.rest;
  none =
      moved_none c.pieces.line.items _ c.refill.new.buffer c.pieces.invariant.none c.in_ok-move_line.ensures.line
      (sym c.if-branch.false ∙ c.in_ok-move_line.ensures.ended);
  later = omega (arith, c.pieces.invariant.later, c.in_ok-refill.ensures.later);
}
