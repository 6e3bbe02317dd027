-- Phrases of statuses are short.
use Rattle.std.proofs.Common.{◌≡◌, ℕ, ◌≤◌, List, [], length, Option, unwrap_or, ap, ◌∙◌, lit≤}
use Rattle.http.specs.StatusCode.{reason_phrase}
use Rattle.pec_http.specs.Statuses.{number_of, phrase_of}
use Rattle.pec_http.specs.declared.statuses.Status.{Status}
use Rattle.pec_http.specs.declared.statuses.Status.TheVariants as statuses

pub phrase_short : (status : Status) → length (phrase_of status) ≤ 31
unfolding phrase_of
phrase_short statuses.Ok = lit≤ tt
phrase_short statuses.Created = lit≤ tt
phrase_short statuses.BadRequest = lit≤ tt
phrase_short statuses.Unauthorized = lit≤ tt
phrase_short statuses.Forbidden = lit≤ tt
phrase_short statuses.NotFound = lit≤ tt
phrase_short statuses.MethodNotAllowed = lit≤ tt
phrase_short statuses.Conflict = lit≤ tt
phrase_short statuses.LengthRequired = lit≤ tt
phrase_short statuses.PayloadTooLarge = lit≤ tt
phrase_short statuses.UnprocessableEntity = lit≤ tt
phrase_short statuses.RequestHeaderFieldsTooLarge = lit≤ tt
phrase_short statuses.InternalServerError = lit≤ tt
phrase_short statuses.ServiceUnavailable = lit≤ tt
phrase_short statuses.InsufficientStorage = lit≤ tt

-- what is known of a phrase by its code
pub phrase_by : (status : Status) (code : ℕ) (found : Option (List ℕ)) → code ≡ number_of status → found ≡ reason_phrase code
    → unwrap_or found [] ≡ phrase_of status
unfolding phrase_of
phrase_by status code found e f = ap (λ o. unwrap_or o []) (f ∙ ap reason_phrase e)
