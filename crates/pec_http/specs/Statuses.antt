-- Statuses, their canonical phrases as `http` has them, and media types.
use Rattle.std.specs.Prelude.{ℕ, [], codes, unwrap_or}
use Rattle.http.specs.StatusCode.{reason_phrase}
use Rattle.pec_types.specs.Bytes.{Bytes}
use Rattle.pec_http.specs.declared.statuses.Status.{Status}
use Rattle.pec_http.specs.declared.statuses.Status.TheVariants as statuses
use Rattle.pec_http.specs.declared.statuses.Kind.{Kind}
use Rattle.pec_http.specs.declared.statuses.Kind.TheVariants as kinds

abbrev pub number_of : Status → ℕ
number_of statuses.Ok = 200
number_of statuses.Created = 201
number_of statuses.BadRequest = 400
number_of statuses.Unauthorized = 401
number_of statuses.Forbidden = 403
number_of statuses.NotFound = 404
number_of statuses.MethodNotAllowed = 405
number_of statuses.Conflict = 409
number_of statuses.LengthRequired = 411
number_of statuses.PayloadTooLarge = 413
number_of statuses.UnprocessableEntity = 422
number_of statuses.RequestHeaderFieldsTooLarge = 431
number_of statuses.InternalServerError = 500
number_of statuses.ServiceUnavailable = 503
number_of statuses.InsufficientStorage = 507

-- The canonical phrase of a status.
unfoldable pub phrase_of : Status → Bytes
phrase_of status = unwrap_or (reason_phrase (number_of status)) []

abbrev pub kind_text : Kind → Bytes
kind_text kinds.Plain = codes "text/plain"
kind_text kinds.Message = codes "message/rfc822"
