-- The rows that stop a request before the desk is asked, 1 to 11, in their order: `IsStop` and `IsQuestion`, at the end.
-- Each row says when it applies; the answer is that of the first row that does. This project's profile.
use Rattle.std.specs.Prelude.{◌≡◌, ◌≢◌, ℕ, ◌<◌, List, [], ◌∷◌, length, Option, Some, None, unwrap_or}
use Rattle.pec_types.specs.Bytes.{Bytes}
use Rattle.pec_types.specs.Tables.{IsFirst, NoneApplies}
use Rattle.pec_http_head.specs.Fields.{key_of, length_of, path_of}
use Rattle.pec_http_head.specs.Requests as requests
use Rattle.pec_http_head.specs.Requests.{Request, Seen}
use Rattle.pec_http_head.specs.Routes.{method_of, route_of}
use Rattle.pec_http_head.specs.declared.routes.Call.TheVariants as calls
use Rattle.pec_http_head.specs.declared.routes.Route.{Route}
use Rattle.pec_http.specs.declared.passes.Pass.{Pass}
use Rattle.pec_http.specs.declared.passes.Pass.TheVariants as passes
use Rattle.pec_http.specs.declared.stops.Stop.{Stop}
use Rattle.pec_http.specs.declared.stops.Stop.TheVariants.{LargeHead, BadHead, NoRoute, OtherMethod, NoAccount, NoKey, WrongKey, NoLength, NoPath, TooLarge, CutBody}

-- What the rows look at: what is seen of a request, and what the desk says of an address and a key.
pub record Case : Type 0 where
  pub seen : Seen
  pub pass : Bytes → Bytes → Pass

-- ---- words on a case

-- The request has a head, and this holds of it and of what stands behind it.
pub record WithHead (case : Case) (Holds : Request → Bytes → Type 0) : Type 0 where
  pub request : Request
  pub behind : Bytes
  pub is : case.seen ≡ requests.Head request behind
  pub holds : Holds request behind

-- The request's target has a route, and this holds of it.
pub record OnRoute (request : Request) (Holds : Route → Type 0) : Type 0 where
  pub route : Route
  pub is : route_of request.target ≡ Some route
  pub holds : Holds route

-- The request has a head and a route, and this holds of these.
abbrev pub WithRoute : Case → (Request → Bytes → Route → Type 0) → Type 0
WithRoute case Holds = WithHead case (λ request behind. OnRoute request (λ route. Holds request behind route))

-- What the desk says of the route's address and of the request's key, which is empty where it has none.
abbrev pub pass_in : Case → Request → Route → Pass
pass_in case request route = case.pass route.address (unwrap_or (key_of request) [])

-- The request is a submission, and this holds of it.
abbrev pub WithSubmission : Case → (Request → Bytes → Route → Type 0) → Type 0
WithSubmission case Holds = WithRoute case (λ request behind route. (route.call ≡ calls.Submit) × Holds request behind route)

-- The declared length is over the limit of the account's provider.
pub record IsOver (pass : Pass) (declared : Option ℕ) : Type 0 where
  pub limit : ℕ
  pub bytes : ℕ
  pub admitted : pass ≡ passes.Admitted limit
  pub declares : declared ≡ Some bytes
  pub over : limit < bytes

-- Fewer bytes stand behind the head than are declared.
pub record IsCut (behind : Bytes) (declared : Option ℕ) : Type 0 where
  pub bytes : ℕ
  pub declares : declared ≡ Some bytes
  pub short : length behind < bytes

-- ---- the table

-- The rows in their order.
abbrev pub rows : List Stop
rows = LargeHead ∷ BadHead ∷ NoRoute ∷ OtherMethod ∷ NoAccount ∷ NoKey ∷ WrongKey ∷ NoLength ∷ NoPath ∷ TooLarge ∷ CutBody ∷ []

-- When a row applies to a case. A stop that has no row never does.
abbrev pub Applies : Case → Stop → Type 0
Applies case LargeHead = case.seen ≡ requests.LargeHead
Applies case BadHead = case.seen ≡ requests.NoHead
Applies case NoRoute = WithHead case (λ request behind. route_of request.target ≡ None)
Applies case OtherMethod = WithRoute case (λ request behind route. request.method ≢ method_of route.call)
Applies case NoAccount = WithRoute case (λ request behind route. pass_in case request route ≡ passes.NoAddress)
Applies case NoKey = WithRoute case (λ request behind route. key_of request ≡ None)
Applies case WrongKey = WithRoute case (λ request behind route. pass_in case request route ≡ passes.WrongKey)
Applies case NoLength = WithSubmission case (λ request behind route. length_of request ≡ None)
Applies case NoPath = WithSubmission case (λ request behind route. path_of request ≡ None)
Applies case TooLarge = WithSubmission case (λ request behind route. IsOver (pass_in case request route) (length_of request))
Applies case CutBody = WithSubmission case (λ request behind route. IsCut behind (length_of request))
Applies case _ = ⊥

-- The request is stopped, for this reason: its row is the first that applies.
abbrev pub IsStop : Case → Stop → Type 0
IsStop case stop = IsFirst (Applies case) rows stop

-- It isn't stopped: no row applies.
abbrev pub IsPutToDesk : Case → Type 0
IsPutToDesk case = NoneApplies (Applies case) rows
