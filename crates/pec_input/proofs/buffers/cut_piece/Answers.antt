use Rattle.std.proofs.Common.{sym, ◌∙◌}
use Rattle.std.proofs.Math.Seq.{drop-length}
use Rattle.pec_input.proofs.PieceLemmas.{feed_at, no_feed}
use Rattle.pec_input.proofs.buffers.cut_piece.Goals as goal

pub returns-in-Some-clause-piece : goal.returns-in-Some-clause-piece
returns-in-Some-clause-piece c = (feed_at c.args.bytes.now _ c.in-Some.ensures).piece

pub returns-in-Some-clause-rest : goal.returns-in-Some-clause-rest
returns-in-Some-clause-rest c = (feed_at c.args.bytes.now _ c.in-Some.ensures).rest

pub returns-in-Some-clause-ended : goal.returns-in-Some-clause-ended
returns-in-Some-clause-ended c = sym (feed_at c.args.bytes.now _ c.in-Some.ensures).feed

pub returns-in-None-clause-piece : goal.returns-in-None-clause-piece
returns-in-None-clause-piece c = sym (no_feed c.args.bytes.now c.in-None.ensures).piece

pub returns-in-None-clause-rest : goal.returns-in-None-clause-rest
returns-in-None-clause-rest c =
    drop-length c.args.bytes.now ∙ sym (no_feed c.args.bytes.now c.in-None.ensures).rest

pub returns-in-None-clause-ended : goal.returns-in-None-clause-ended
returns-in-None-clause-ended c = sym (no_feed c.args.bytes.now c.in-None.ensures).feed
