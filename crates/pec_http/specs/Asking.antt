-- What a request asks of a desk: `Asks`, at the end, and why it isn't put to the desk, rows 1 to 11 of `Rows`. This
-- project's profile.
use Rattle.std.specs.Prelude.{◌≡◌, ℕ, ◌<◌, ◌≤◌, nat_lt, Bool, true, [], length, take, Option, Some, None, unwrap_or, Result, Ok, Err, ⊤, if◌then◌else◌}
use Rattle.std.specs.Str.{bytes_eq}
use Rattle.pec_types.specs.Bytes.{Bytes, Path}
use Rattle.pec_types.specs.Results.{◌>>=◌}
use Rattle.pec_http_head.specs.Fields.{key_of, length_of, path_of}
use Rattle.pec_http_head.specs.Requests.{ReadsHead, Request, Seen, LargeHead, NoHead, Head, Sees}
use Rattle.pec_http_head.specs.Routes.{method_of, route_of}
use Rattle.pec_http_head.specs.declared.routes.Call.{Call}
use Rattle.pec_http_head.specs.declared.routes.Call.TheVariants as calls
use Rattle.pec_http_head.specs.declared.routes.Route.{Route}
use Rattle.pec_http.specs.declared.passes.Pass.{Pass}
use Rattle.pec_http.specs.declared.passes.Pass.TheVariants as passes
use Rattle.pec_http.specs.declared.demands.Demand.{Demand}
use Rattle.pec_http.specs.declared.demands.Demand.TheVariants as demands
use Rattle.pec_http.specs.declared.demands.Look.{Look}
use Rattle.pec_http.specs.declared.demands.Look.TheVariants as looks
use Rattle.pec_http.specs.declared.stops.Stop.{Stop}
use Rattle.pec_http.specs.declared.stops.Stop.TheVariants as stops

-- ---- what a head asks

-- The limit of an account, by its key and by what the desk says of it.
abbrev pub admitted_of : Option Bytes → Pass → Result ℕ Stop
admitted_of key passes.NoAddress = Err stops.NoAccount
admitted_of None passes.WrongKey = Err stops.NoKey
admitted_of None (passes.Admitted limit) = Err stops.NoKey
admitted_of (Some key) passes.WrongKey = Err stops.WrongKey
admitted_of (Some key) (passes.Admitted limit) = Ok limit

abbrev pub within_limit : Bytes → Path → ℕ → ℕ → Result Demand Stop
within_limit address path length limit = if nat_lt limit length then Err stops.TooLarge else Ok (demands.Submit address path length)

abbrev pub with_path : Bytes → Option Path → ℕ → ℕ → Result Demand Stop
with_path address None length limit = Err stops.NoPath
with_path address (Some path) length limit = within_limit address path length limit

abbrev pub with_length : Bytes → Option ℕ → Option Path → ℕ → Result Demand Stop
with_length address None path limit = Err stops.NoLength
with_length address (Some length) path limit = with_path address path length limit

-- A submission, within the limit.
abbrev pub measured : Request → Bytes → ℕ → Result Demand Stop
measured request address limit = with_length address (length_of request) (path_of request) limit

abbrev pub called_by : Request → Bytes → Call → ℕ → Result Demand Stop
called_by request address calls.Submit limit = measured request address limit
called_by request address calls.Book limit = Ok (demands.Look address looks.Book)
called_by request address calls.Items limit = Ok (demands.Look address looks.Items)
called_by request address (calls.Item place) limit = Ok (demands.Look address (looks.Item place))

-- What a route asks in the name of its account, by the key and by what the desk says of both.
abbrev pub keyed : Request → Route → Option Bytes → Pass → Result Demand Stop
keyed request route key pass = admitted_of key pass >>= λ limit. called_by request route.address route.call limit

abbrev pub routed : (Bytes → Bytes → Pass) → Request → Option Route → Result Demand Stop
routed pass request None = Err stops.NoRoute
routed pass request (Some route) =
    if bytes_eq request.method (method_of route.call)
    then keyed request route (key_of request) (pass route.address (unwrap_or (key_of request) []))
    else Err stops.OtherMethod

-- What a head asks, where the desk says this of addresses and keys. Without a key the desk is asked with an empty one,
-- for what it says of the address alone.
unfoldable pub demand_of : (Bytes → Bytes → Pass) → Request → Result Demand Stop
demand_of pass request = routed pass request (route_of request.target)

-- The same, where a head was found.
abbrev pub demand_in : (Bytes → Bytes → Pass) → Option Request → Result Demand Stop
demand_in pass None = Err stops.BadHead
demand_in pass (Some request) = demand_of pass request

-- The bytes as a whole are a head that asks so, or none.
pub record Demands (pass : Bytes → Bytes → Pass) (text : Bytes) (asked : Result Demand Stop) : Type 0 where
  pub found : Option Request
  pub reads : ReadsHead text found
  pub asks : asked ≡ demand_in pass found

-- A demand in the name of an account, with a path and a length that a desk takes.
abbrev pub IsFit : (Bytes → Bool) → Demand → Type 0
IsFit is_account (demands.Submit address path length_) =
    (is_account address ≡ true) × (0 < length path) × (length path ≤ 1000) × (length_ ≤ 31457280)
IsFit is_account (demands.Look address _) = is_account address ≡ true

-- Nothing was read in vain: what a head asks has no such stop.
abbrev pub IsNoRead : Stop → Type 0
IsNoRead stops.ReadFault = ⊥
IsNoRead _ = ⊤

-- ---- what a request asks

-- A question that is put to the desk.
pub data Question : Type 0 where
  Submit : Bytes → Path → Bytes → Question
  See : Bytes → Look → Question

-- What is asked where this stands behind the head: a submission's message is a front of it. Nothing else has a body.
abbrev pub asked_with : Bytes → Demand → Result Question Stop
asked_with behind (demands.Submit address path length_) =
    if nat_lt (length behind) length_ then Err stops.CutBody else Ok (Submit address path (take length_ behind))
asked_with behind (demands.Look address what) = Ok (See address what)

-- What is asked by what is seen of a request.
abbrev pub question_of : (Bytes → Bytes → Pass) → Seen → Result Question Stop
question_of pass LargeHead = Err stops.LargeHead
question_of pass NoHead = Err stops.BadHead
question_of pass (Head request behind) = demand_of pass request >>= asked_with behind

-- The bytes of a request ask this of a desk that says this of addresses and keys; or it isn't put to the desk, for this
-- reason.
pub record Asks (pass : Bytes → Bytes → Pass) (input : Bytes) (asked : Result Question Stop) : Type 0 where
  pub seen : Seen
  pub sees : Sees input seen
  pub asks : asked ≡ question_of pass seen
