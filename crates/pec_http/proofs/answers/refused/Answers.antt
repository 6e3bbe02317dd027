use Rattle.pec_http.specs.Replies.{stop_reply}
use Rattle.pec_http.proofs.ReplyLemmas.{composed_as}
use Rattle.pec_http.proofs.answers.refused.Goals as goal
use Rattle.pec_http.specs.declared.statuses.Kind.TheVariants as kinds

pub returns-clause-ok : goal.returns-clause-ok
returns-clause-ok c = composed_as c.composed.result (stop_reply c.args.stop) c.status_of.result kinds.Plain c.line_of.result.now
    c.composed.ensures.ok c.status_of.ensures.status c.status_of.ensures.kind c.line_of.ensures
