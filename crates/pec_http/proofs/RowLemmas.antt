-- The tests decide the rows, so a request is stopped by the first row that applies.
use Rattle.std.proofs.Common.{◌≡◌, ◌≢◌, ℕ, nat_lt, Bool, true, false, not, ◌&&◌, ◌↔◌, [], length, Option, Some, None, Result, Ok, Err, IsOk, Decides, refl, sym, ap, subst, ◌∙◌}
use Rattle.std.proofs.lemmas.Bool.Decides.{Decides-and, Decides-ltb}
use Rattle.std.proofs.lemmas.Option.{none-some}
use Rattle.std.proofs.lemmas.Slice.Eq.{bytes_eq-Decides}
use Rattle.std.specs.List.{find}
use Rattle.std.specs.Option.{is_none}
use Rattle.std.specs.Str.{bytes_eq}
use Rattle.pec_types.specs.Bytes.{Bytes, Path}
use Rattle.pec_types.specs.Tables.{first_again, first_is, none_again, none_is}
use Rattle.pec_http_head.specs.Fields.{key_of, length_of, path_of}
use Rattle.pec_http_head.specs.Requests as requests
use Rattle.pec_http_head.specs.Requests.{Request, Seen}
use Rattle.pec_http_head.specs.Routes.{method_of, route_of}
use Rattle.pec_http_head.specs.declared.routes.Call.{Call}
use Rattle.pec_http_head.specs.declared.routes.Call.TheVariants as calls
use Rattle.pec_http_head.specs.declared.routes.Route.{Route}
use Rattle.pec_http.specs.Asking.{Question, demand_of, question_of}
use Rattle.pec_http.specs.Rows.{Case, WithHead, OnRoute, IsCut, IsOver, IsPutToDesk, IsStop, Applies, pass_in, rows}
use Rattle.pec_http.specs.RowTests.{applies, has_no_head, is_cut, is_large, is_no_address, is_over, is_submission, is_wrong_key, of_route, with_head, with_route}
use Rattle.pec_http.specs.declared.passes.Pass.{Pass}
use Rattle.pec_http.specs.declared.passes.Pass.TheVariants as passes
use Rattle.pec_http.specs.declared.stops.Stop.{Stop}
use Rattle.pec_http.specs.declared.stops.Stop.TheVariants.{LargeHead, BadHead, NoRoute, OtherMethod, NoAccount, NoKey, WrongKey, NoLength, NoPath, TooLarge, CutBody, NoMemory, ReadFault}

-- ---- rows of heads and routes

head_by : (case : Case) (test : Request → Bytes → Bool) (Holds : Request → Bytes → Type 0) → ((request : Request) (behind : Bytes) → Decides (test request behind) (Holds request behind))
    → (seen : Seen) → case.seen ≡ seen → Decides (with_head test seen) (WithHead case Holds)
head_by case test Holds each (requests.Head request behind) e = (
  λ t. record { request = request; behind = behind; is = e; holds = (each request behind).0 t },
  λ h.
      let same : requests.Head h.request h.behind ≡ requests.Head request behind = sym h.is ∙ e in
      let first : h.request ≡ request = cc in
      let second : h.behind ≡ behind = cc in
      let P : Request → Type 0 = λ r. Holds r h.behind in
      let Q : Bytes → Type 0 = λ b. Holds request b in
      (each request behind).1 (subst Q second (subst P first h.holds)),
)
head_by case test Holds each requests.LargeHead e = (λ t. absurd cc, λ h. absurd (let f : requests.LargeHead ≡ requests.Head h.request h.behind = sym e ∙ h.is in cc))
head_by case test Holds each requests.NoHead e = (λ t. absurd cc, λ h. absurd (let f : requests.NoHead ≡ requests.Head h.request h.behind = sym e ∙ h.is in cc))

route_by : (request : Request) (test : Route → Bool) (Holds : Route → Type 0) → ((route : Route) → Decides (test route) (Holds route))
    → (found : Option Route) → route_of request.target ≡ found → Decides (of_route test found) (OnRoute request Holds)
route_by request test Holds each None e = (λ t. absurd cc, λ h. absurd (let f : None ≡ Some h.route = sym e ∙ h.is in cc))
route_by request test Holds each (Some route) e = (
  λ t. record { route = route; is = e; holds = (each route).0 t },
  λ h.
      let same : Some h.route ≡ Some route = sym h.is ∙ e in
      let first : h.route ≡ route = cc in
      (each route).1 (subst Holds first h.holds),
)

on_route : (case : Case) (test : Request → Bytes → Route → Bool) (Holds : Request → Bytes → Route → Type 0)
    → ((request : Request) (behind : Bytes) (route : Route) → Decides (test request behind route) (Holds request behind route))
    → Decides (with_route test case.seen) (WithHead case (λ request behind. OnRoute request (λ route. Holds request behind route)))
on_route case test Holds each = head_by case (λ request behind. of_route (test request behind) (route_of request.target))
    (λ request behind. OnRoute request (λ route. Holds request behind route))
    (λ request behind. route_by request (test request behind) (Holds request behind) (each request behind) (route_of request.target) refl)
    case.seen refl

-- ---- tests

large : (seen : Seen) → Decides (is_large seen) (seen ≡ requests.LargeHead)
large requests.LargeHead = (λ t. refl, λ h. refl)
large requests.NoHead = (λ t. absurd cc, λ h. absurd cc)
large (requests.Head request behind) = (λ t. absurd cc, λ h. absurd cc)

no_head : (seen : Seen) → Decides (has_no_head seen) (seen ≡ requests.NoHead)
no_head requests.LargeHead = (λ t. absurd cc, λ h. absurd cc)
no_head requests.NoHead = (λ t. refl, λ h. refl)
no_head (requests.Head request behind) = (λ t. absurd cc, λ h. absurd cc)

none_there : {A : Type 0} (found : Option A) → Decides (is_none found) (found ≡ None)
none_there None = (λ t. refl, λ h. refl)
none_there (Some a) = (λ t. absurd cc, λ h. absurd cc)

no_address : (pass : Pass) → Decides (is_no_address pass) (pass ≡ passes.NoAddress)
no_address passes.NoAddress = (λ t. refl, λ h. refl)
no_address passes.WrongKey = (λ t. absurd cc, λ h. absurd cc)
no_address (passes.Admitted limit) = (λ t. absurd cc, λ h. absurd cc)

wrong_key : (pass : Pass) → Decides (is_wrong_key pass) (pass ≡ passes.WrongKey)
wrong_key passes.NoAddress = (λ t. absurd cc, λ h. absurd cc)
wrong_key passes.WrongKey = (λ t. refl, λ h. refl)
wrong_key (passes.Admitted limit) = (λ t. absurd cc, λ h. absurd cc)

submits : (call : Call) → Decides (is_submission call) (call ≡ calls.Submit)
submits calls.Submit = (λ t. refl, λ h. refl)
submits calls.Book = (λ t. absurd cc, λ h. absurd cc)
submits calls.Items = (λ t. absurd cc, λ h. absurd cc)
submits (calls.Item place) = (λ t. absurd cc, λ h. absurd cc)

over : (pass : Pass) (declared : Option ℕ) → Decides (is_over pass declared) (IsOver pass declared)
over (passes.Admitted limit) (Some bytes) = (
  λ t. record { limit = limit; bytes = bytes; admitted = refl; declares = refl; over = (Decides-ltb limit bytes).0 t },
  λ h.
      let first : limit ≡ h.limit = (let a = h.admitted in cc) in
      let second : bytes ≡ h.bytes = (let d = h.declares in cc) in
      (Decides-ltb limit bytes).1 (rw (first, second) h.over),
)
over (passes.Admitted limit) None = (λ t. absurd cc, λ h. absurd (let d = h.declares in cc))
over passes.NoAddress declared = (λ t. absurd cc, λ h. absurd (let a = h.admitted in cc))
over passes.WrongKey declared = (λ t. absurd cc, λ h. absurd (let a = h.admitted in cc))

cut : (behind : Bytes) (declared : Option ℕ) → Decides (is_cut behind declared) (IsCut behind declared)
cut behind None = (λ t. absurd cc, λ h. absurd (let d = h.declares in cc))
cut behind (Some bytes) = (
  λ t. record { bytes = bytes; declares = refl; short = (Decides-ltb (length behind) bytes).0 t },
  λ h. let second : bytes ≡ h.bytes = (let d = h.declares in cc) in (Decides-ltb (length behind) bytes).1 (rw second h.short),
)

turned : {P : Type 0} (t : Bool) → Decides t P → Decides (not t) (P → ⊥)
turned true d = (λ e. absurd cc, λ n. absurd (n (d.0 refl)))
turned false d = (λ e p. absurd (let f = d.1 p in cc), λ n. refl)

differs : (bytes others : Bytes) → Decides (not (bytes_eq bytes others)) (bytes ≢ others)
differs bytes others = turned (bytes_eq bytes others) (bytes_eq-Decides bytes others)

-- ---- the rows

each_row : (case : Case) (stop : Stop) → Decides (applies case stop) (Applies case stop)
each_row case LargeHead = large case.seen
each_row case BadHead = no_head case.seen
each_row case NoRoute = head_by case (λ request behind. is_none (route_of request.target)) (λ request behind. route_of request.target ≡ None)
    (λ request behind. none_there (route_of request.target)) case.seen refl
each_row case OtherMethod = on_route case (λ request behind route. not (bytes_eq request.method (method_of route.call)))
    (λ request behind route. request.method ≢ method_of route.call) (λ request behind route. differs request.method (method_of route.call))
each_row case NoAccount = on_route case (λ request behind route. is_no_address (pass_in case request route))
    (λ request behind route. pass_in case request route ≡ passes.NoAddress) (λ request behind route. no_address (pass_in case request route))
each_row case NoKey = on_route case (λ request behind route. is_none (key_of request))
    (λ request behind route. key_of request ≡ None) (λ request behind route. none_there (key_of request))
each_row case WrongKey = on_route case (λ request behind route. is_wrong_key (pass_in case request route))
    (λ request behind route. pass_in case request route ≡ passes.WrongKey) (λ request behind route. wrong_key (pass_in case request route))
each_row case NoLength = on_route case (λ request behind route. is_submission route.call && is_none (length_of request))
    (λ request behind route. (route.call ≡ calls.Submit) × (length_of request ≡ None))
    (λ request behind route. Decides-and (is_submission route.call) (is_none (length_of request)) (submits route.call) (none_there (length_of request)))
each_row case NoPath = on_route case (λ request behind route. is_submission route.call && is_none (path_of request))
    (λ request behind route. (route.call ≡ calls.Submit) × (path_of request ≡ None))
    (λ request behind route. Decides-and (is_submission route.call) (is_none (path_of request)) (submits route.call) (none_there (path_of request)))
each_row case TooLarge = on_route case (λ request behind route. is_submission route.call && is_over (pass_in case request route) (length_of request))
    (λ request behind route. (route.call ≡ calls.Submit) × IsOver (pass_in case request route) (length_of request))
    (λ request behind route. Decides-and (is_submission route.call) (is_over (pass_in case request route) (length_of request)) (submits route.call) (over (pass_in case request route) (length_of request)))
each_row case CutBody = on_route case (λ request behind route. is_submission route.call && is_cut behind (length_of request))
    (λ request behind route. (route.call ≡ calls.Submit) × IsCut behind (length_of request))
    (λ request behind route. Decides-and (is_submission route.call) (is_cut behind (length_of request)) (submits route.call) (cut behind (length_of request)))
each_row case NoMemory = (λ t. absurd cc, λ h. absurd h)
each_row case ReadFault = (λ t. absurd cc, λ h. absurd h)

-- ---- what is asked follows the rows

-- the stop of an answer that has one
abbrev stop_in : Result Question Stop → Option Stop
stop_in (Err stop) = Some stop
stop_in (Ok question) = None

-- the row that is found is the stop of what is asked
abbrev Agrees : Case → Seen → Type 0
Agrees case seen = find (applies case) rows ≡ stop_in (question_of case.pass seen)

agree_cut : (case : Case) (request : Request) (behind : Bytes) (route : Route) (key : Bytes) (limit : ℕ) (bytes : ℕ) (path : Path) (found : Bool) → case.seen ≡ requests.Head request behind → route_of request.target ≡ Some route → bytes_eq request.method (method_of route.call) ≡ true → key_of request ≡ Some key → case.pass route.address key ≡ passes.Admitted limit → route.call ≡ calls.Submit → length_of request ≡ Some bytes → path_of request ≡ Some path → nat_lt limit bytes ≡ false → nat_lt (length behind) bytes ≡ found → Agrees case (requests.Head request behind)
unfolding demand_of
agree_cut case request behind route key limit bytes path true e r m k p c l q o x = rw (e, r, m, k, p, c, l, q, o, x) refl
agree_cut case request behind route key limit bytes path false e r m k p c l q o x = rw (e, r, m, k, p, c, l, q, o, x) refl

agree_over : (case : Case) (request : Request) (behind : Bytes) (route : Route) (key : Bytes) (limit : ℕ) (bytes : ℕ) (path : Path) (found : Bool) → case.seen ≡ requests.Head request behind → route_of request.target ≡ Some route → bytes_eq request.method (method_of route.call) ≡ true → key_of request ≡ Some key → case.pass route.address key ≡ passes.Admitted limit → route.call ≡ calls.Submit → length_of request ≡ Some bytes → path_of request ≡ Some path → nat_lt limit bytes ≡ found → Agrees case (requests.Head request behind)
unfolding demand_of
agree_over case request behind route key limit bytes path true e r m k p c l q x = rw (e, r, m, k, p, c, l, q, x) refl
agree_over case request behind route key limit bytes path false e r m k p c l q x = agree_cut case request behind route key limit bytes path (nat_lt (length behind) bytes) e r m k p c l q x refl

agree_path : (case : Case) (request : Request) (behind : Bytes) (route : Route) (key : Bytes) (limit : ℕ) (bytes : ℕ) (found : Option Path) → case.seen ≡ requests.Head request behind → route_of request.target ≡ Some route → bytes_eq request.method (method_of route.call) ≡ true → key_of request ≡ Some key → case.pass route.address key ≡ passes.Admitted limit → route.call ≡ calls.Submit → length_of request ≡ Some bytes → path_of request ≡ found → Agrees case (requests.Head request behind)
unfolding demand_of
agree_path case request behind route key limit bytes None e r m k p c l x = rw (e, r, m, k, p, c, l, x) refl
agree_path case request behind route key limit bytes (Some path) e r m k p c l x = agree_over case request behind route key limit bytes path (nat_lt limit bytes) e r m k p c l x refl

agree_length : (case : Case) (request : Request) (behind : Bytes) (route : Route) (key : Bytes) (limit : ℕ) (found : Option ℕ) → case.seen ≡ requests.Head request behind → route_of request.target ≡ Some route → bytes_eq request.method (method_of route.call) ≡ true → key_of request ≡ Some key → case.pass route.address key ≡ passes.Admitted limit → route.call ≡ calls.Submit → length_of request ≡ found → Agrees case (requests.Head request behind)
unfolding demand_of
agree_length case request behind route key limit None e r m k p c x = rw (e, r, m, k, p, c, x) refl
agree_length case request behind route key limit (Some bytes) e r m k p c x = agree_path case request behind route key limit bytes (path_of request) e r m k p c x refl

agree_call : (case : Case) (request : Request) (behind : Bytes) (route : Route) (key : Bytes) (limit : ℕ) (found : Call) → case.seen ≡ requests.Head request behind → route_of request.target ≡ Some route → bytes_eq request.method (method_of route.call) ≡ true → key_of request ≡ Some key → case.pass route.address key ≡ passes.Admitted limit → route.call ≡ found → Agrees case (requests.Head request behind)
unfolding demand_of
agree_call case request behind route key limit calls.Submit e r m k p x = agree_length case request behind route key limit (length_of request) e r m k p x refl
agree_call case request behind route key limit calls.Book e r m k p x = rw (e, r, m, k, p, x) refl
agree_call case request behind route key limit calls.Items e r m k p x = rw (e, r, m, k, p, x) refl
agree_call case request behind route key limit (calls.Item place) e r m k p x = rw (e, r, m, k, p, x) refl

agree_pass : (case : Case) (request : Request) (behind : Bytes) (route : Route) (key : Bytes) (found : Pass) → case.seen ≡ requests.Head request behind → route_of request.target ≡ Some route → bytes_eq request.method (method_of route.call) ≡ true → key_of request ≡ Some key → case.pass route.address key ≡ found → Agrees case (requests.Head request behind)
unfolding demand_of
agree_pass case request behind route key passes.NoAddress e r m k x = rw (e, r, m, k, x) refl
agree_pass case request behind route key passes.WrongKey e r m k x = rw (e, r, m, k, x) refl
agree_pass case request behind route key (passes.Admitted limit) e r m k x = agree_call case request behind route key limit route.call e r m k x refl

agree_keyless : (case : Case) (request : Request) (behind : Bytes) (route : Route) (found : Pass) → case.seen ≡ requests.Head request behind → route_of request.target ≡ Some route → bytes_eq request.method (method_of route.call) ≡ true → key_of request ≡ None → case.pass route.address [] ≡ found → Agrees case (requests.Head request behind)
unfolding demand_of
agree_keyless case request behind route passes.NoAddress e r m k x = rw (e, r, m, k, x) refl
agree_keyless case request behind route passes.WrongKey e r m k x = rw (e, r, m, k, x) refl
agree_keyless case request behind route (passes.Admitted limit) e r m k x = rw (e, r, m, k, x) refl

agree_key : (case : Case) (request : Request) (behind : Bytes) (route : Route) (found : Option Bytes) → case.seen ≡ requests.Head request behind → route_of request.target ≡ Some route → bytes_eq request.method (method_of route.call) ≡ true → key_of request ≡ found → Agrees case (requests.Head request behind)
unfolding demand_of
agree_key case request behind route None e r m x = agree_keyless case request behind route (case.pass route.address []) e r m x refl
agree_key case request behind route (Some key) e r m x = agree_pass case request behind route key (case.pass route.address key) e r m x refl

agree_method : (case : Case) (request : Request) (behind : Bytes) (route : Route) (found : Bool) → case.seen ≡ requests.Head request behind → route_of request.target ≡ Some route → bytes_eq request.method (method_of route.call) ≡ found → Agrees case (requests.Head request behind)
unfolding demand_of
agree_method case request behind route false e r x = rw (e, r, x) refl
agree_method case request behind route true e r x = agree_key case request behind route (key_of request) e r x refl

agree_route : (case : Case) (request : Request) (behind : Bytes) (found : Option Route) → case.seen ≡ requests.Head request behind → route_of request.target ≡ found → Agrees case (requests.Head request behind)
unfolding demand_of
agree_route case request behind None e x = rw (e, x) refl
agree_route case request behind (Some route) e x = agree_method case request behind route (bytes_eq request.method (method_of route.call)) e x refl

agree : (case : Case) (seen : Seen) → case.seen ≡ seen → Agrees case seen
agree case requests.LargeHead e = rw e refl
agree case requests.NoHead e = rw e refl
agree case (requests.Head request behind) e = agree_route case request behind (route_of request.target) e refl

-- ---- the law

err_of : (asked : Result Question Stop) (stop : Stop) → stop_in asked ≡ Some stop → asked ≡ Err stop
err_of (Err other) stop e = (let same : other ≡ stop = cc in ap (λ s. Err s) same)
err_of (Ok question) stop e = absurd (none-some stop e)

ok_of : (asked : Result Question Stop) → stop_in asked ≡ None → IsOk asked
ok_of (Err other) e = absurd (none-some other (sym e))
ok_of (Ok question) e = refl

none_of : (asked : Result Question Stop) → IsOk asked → stop_in asked ≡ None
none_of (Err other) ok = absurd cc
none_of (Ok question) ok = refl

pub stopped : (case : Case) (stop : Stop) → (question_of case.pass case.seen ≡ Err stop) ↔ IsStop case stop
stopped case stop = (
  λ e. first_is (applies case) (Applies case) (each_row case) rows stop (agree case case.seen refl ∙ ap stop_in e),
  λ first. err_of (question_of case.pass case.seen) stop (sym (agree case case.seen refl) ∙ first_again (applies case) (Applies case) (each_row case) rows stop first),
)

pub put : (case : Case) → IsOk (question_of case.pass case.seen) ↔ IsPutToDesk case
put case = (
  λ ok. none_is (applies case) (Applies case) (each_row case) rows (agree case case.seen refl ∙ none_of (question_of case.pass case.seen) ok),
  λ none. ok_of (question_of case.pass case.seen) (sym (agree case case.seen refl) ∙ none_again (applies case) (Applies case) (each_row case) rows none),
)
