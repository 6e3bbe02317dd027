use Rattle.std.proofs.Common.{sym, ap, ◌∙◌}
use Rattle.pec_http.specs.Asking.{question_of}
use Rattle.pec_http.proofs.rows.a_request_asks_one_thing.Goals as goal

pub returns : goal.returns
returns c = λ pass input asked other h k.
    h.asks ∙ (ap (λ seen. question_of pass seen) (c.a_request_is_seen_in_one_way.ensures.seen input h.seen k.seen h.sees k.sees) ∙ sym k.asks)
