-- The rows by tests. `Rows` says what they mean.
use Rattle.std.specs.Prelude.{ℕ, nat_lt, Bool, true, false, not, ◌&&◌, length, Option, Some, None}
use Rattle.std.specs.Option.{is_none}
use Rattle.std.specs.Str.{bytes_eq}
use Rattle.pec_types.specs.Bytes.{Bytes}
use Rattle.pec_http_head.specs.Fields.{key_of, length_of, path_of}
use Rattle.pec_http_head.specs.Requests as requests
use Rattle.pec_http_head.specs.Requests.{Request, Seen}
use Rattle.pec_http_head.specs.Routes.{method_of, route_of}
use Rattle.pec_http_head.specs.declared.routes.Call.{Call}
use Rattle.pec_http_head.specs.declared.routes.Call.TheVariants as calls
use Rattle.pec_http_head.specs.declared.routes.Route.{Route}
use Rattle.pec_http.specs.Rows.{Case, pass_in}
use Rattle.pec_http.specs.declared.passes.Pass.{Pass}
use Rattle.pec_http.specs.declared.passes.Pass.TheVariants as passes
use Rattle.pec_http.specs.declared.stops.Stop.{Stop}
use Rattle.pec_http.specs.declared.stops.Stop.TheVariants.{LargeHead, BadHead, NoRoute, OtherMethod, NoAccount, NoKey, WrongKey, NoLength, NoPath, TooLarge, CutBody}

abbrev pub is_large : Seen → Bool
is_large requests.LargeHead = true
is_large _ = false

abbrev pub has_no_head : Seen → Bool
has_no_head requests.NoHead = true
has_no_head _ = false

abbrev pub with_head : (Request → Bytes → Bool) → Seen → Bool
with_head test (requests.Head request behind) = test request behind
with_head test _ = false

abbrev pub of_route : (Route → Bool) → Option Route → Bool
of_route test None = false
of_route test (Some route) = test route

abbrev pub with_route : (Request → Bytes → Route → Bool) → Seen → Bool
with_route test seen = with_head (λ request behind. of_route (test request behind) (route_of request.target)) seen

abbrev pub is_no_address : Pass → Bool
is_no_address passes.NoAddress = true
is_no_address _ = false

abbrev pub is_wrong_key : Pass → Bool
is_wrong_key passes.WrongKey = true
is_wrong_key _ = false

abbrev pub is_submission : Call → Bool
is_submission calls.Submit = true
is_submission _ = false

abbrev pub is_over : Pass → Option ℕ → Bool
is_over (passes.Admitted limit) (Some declared) = nat_lt limit declared
is_over _ _ = false

abbrev pub is_cut : Bytes → Option ℕ → Bool
is_cut behind None = false
is_cut behind (Some declared) = nat_lt (length behind) declared

-- Whether a row applies.
abbrev pub applies : Case → Stop → Bool
applies case LargeHead = is_large case.seen
applies case BadHead = has_no_head case.seen
applies case NoRoute = with_head (λ request behind. is_none (route_of request.target)) case.seen
applies case OtherMethod = with_route (λ request behind route. not (bytes_eq request.method (method_of route.call))) case.seen
applies case NoAccount = with_route (λ request behind route. is_no_address (pass_in case request route)) case.seen
applies case NoKey = with_route (λ request behind route. is_none (key_of request)) case.seen
applies case WrongKey = with_route (λ request behind route. is_wrong_key (pass_in case request route)) case.seen
applies case NoLength = with_route (λ request behind route. is_submission route.call && is_none (length_of request)) case.seen
applies case NoPath = with_route (λ request behind route. is_submission route.call && is_none (path_of request)) case.seen
applies case TooLarge = with_route (λ request behind route. is_submission route.call && is_over (pass_in case request route) (length_of request)) case.seen
applies case CutBody = with_route (λ request behind route. is_submission route.call && is_cut behind (length_of request)) case.seen
applies case _ = false
