-- Replies by their parts.
use Rattle.std.proofs.Common.{◌≡◌, Result, IfOk, ap, subst, ◌∙◌}
use Rattle.pec_types.specs.Bytes.{Bytes}
use Rattle.pec_http.specs.Replies.{Reply}
use Rattle.pec_http.specs.Writing.{IsReply}
use Rattle.pec_http.specs.declared.replies.Reply.{Reply as Written}
use Rattle.pec_http.specs.declared.statuses.Kind.{Kind}
use Rattle.pec_http.specs.declared.statuses.Status.{Status}
use Rattle.pec_http.specs.declared.stops.Stop.{Stop}

abbrev made : Status → Kind → Bytes → Reply
made status kind body = record { status = status; kind = kind; body = body }

-- what was composed of a reply's parts is that reply
pub composed_as : (answer : Result Written Stop) (reply : Reply) (status : Status) (kind : Kind) (body : Bytes)
    → IfOk answer (λ written. IsReply written (record { status = status; kind = kind; body = body }))
    → status ≡ reply.status → kind ≡ reply.kind → body ≡ reply.body → IfOk answer (λ written. IsReply written reply)
composed_as answer reply status kind body composed same_status same_kind same_body =
    let same : made status kind body ≡ reply =
    ap (λ s. made s kind body) same_status ∙ (ap (λ k. made reply.status k body) same_kind ∙ ap (λ b. made reply.status reply.kind b) same_body)
    in let P : Reply → Type 0 = λ r. IfOk answer (λ written. IsReply written r)
    in subst P same composed
