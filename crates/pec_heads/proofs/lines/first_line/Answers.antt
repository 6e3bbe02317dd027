-- The first line feed parts the first line from the others.
use Rattle.std.proofs.Common.{sym}
use Rattle.std.proofs.lemmas.List.{take_rest}
use Rattle.pec_heads.proofs.LineLemmas.{lines_at, lines_none, piece_at, piece_none}
use Rattle.pec_heads.proofs.lines.first_line.Goals as goal

pub returns-in_err-at-clause-none : goal.returns-in_err-at-clause-none
returns-in_err-at-clause-none c = rw c.from_residual.ensures (lines_none c.args.text.now (sym c.in_err-at.ensures.value))

pub returns-in_err-at-clause-piece : goal.returns-in_err-at-clause-piece
returns-in_err-at-clause-piece c = rw c.from_residual.ensures (piece_none c.args.text.now (sym c.in_err-at.ensures.value))

pub returns-clause-first : goal.returns-clause-first
returns-clause-first c = rw take_rest (lines_at c.args.text.now c.in_ok-at.at (sym c.in_ok-at.ensures.value))

pub returns-clause-last : goal.returns-clause-last
returns-clause-last c = rw take_rest (piece_at c.args.text.now c.in_ok-at.at (sym c.in_ok-at.ensures.value) c.in_ok-at.ensures.below)
