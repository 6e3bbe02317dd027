-- What a request asks, by what was read of it.
use Rattle.std.proofs.Common.{◌≡◌, ◌≢◌, ℕ, ◌+◌, ◌<◌, ◌≤◌, ◌++◌, nat_lt, length, take, drop, true, false, Option, None, Some, Result, Ok, Err, IfOk, IfErr, ◌⊎◌, inl, inr, refl, sym, ap, subst, ◌∙◌, arith, length-append, length-drop, append_assoc}
use Rattle.std.proofs.lemmas.Bool.Decides.{nat_tests}
use Rattle.std.proofs.lemmas.List.{take-append-le, drop-append-le}
use Rattle.pec_outside.specs.Flow.{HasRisen, behind}
use Rattle.pec_types.specs.Answers.{seen_as}
use Rattle.pec_types.specs.Bytes.{Bytes, Path}
use Rattle.pec_types.specs.Results.{◌>>=◌}
use Rattle.pec_http_head.specs.Cuts.{WholeCut, Ends, TooLarge, Short, cut_of}
use Rattle.pec_http_head.specs.Requests.{ReadsHead, Request, Seen, LargeHead, NoHead, SeesCut, seen_behind}
use Rattle.pec_http.specs.Asking.{Asks, Demands, Question, Submit, See, asked_with, demand_in, question_of}
use Rattle.pec_http.specs.Input.{IsInput, StopsBody, StopsHead, TakesMore}
use Rattle.pec_http.specs.Desks.{Answers, IsLookFault}
use Rattle.pec_http.specs.Replies.{Reply, fault_reply, memory_reply, reply_text, shown_reply, stop_reply}
use Rattle.pec_http.specs.Serving.{HasRested, HasRestedOver, IsAnswerOrLack, MayShow, RestsBehind, Sends, Serves, Shows, StopsFor, Submits, kind_of}
use Rattle.pec_http.specs.declared.serving.Served.{Served}
use Rattle.pec_http.specs.declared.serving.Served.TheVariants.{Answered, ReadFault, WriteFault}
use Rattle.pec_http.specs.declared.statuses.Kind.TheVariants.{Message}
use Rattle.pec_http.specs.declared.statuses.Status.{Status}
use Rattle.pec_http.specs.declared.statuses.Status.TheVariants as statuses
use Rattle.pec_http.specs.Writing.{Exchanges, IsReply}
use Rattle.pec_types.specs.declared.turns.ProviderFault.{ProviderFault}
use Rattle.pec_types.specs.declared.turns.ProviderFault.TheVariants as faults
use Rattle.pec_http.specs.declared.replies.Reply.{Reply as Written}
use Rattle.pec_http.specs.declared.demands.Look.{Look}
use Rattle.pec_http.specs.declared.demands.Look.TheVariants as looks
use Rattle.pec_http.specs.declared.demands.Demand.{Demand}
use Rattle.pec_http.specs.declared.demands.Demand.TheVariants as demands
use Rattle.pec_http.specs.declared.passes.Pass.{Pass}
use Rattle.pec_http.specs.declared.stops.Stop.{Stop}
use Rattle.pec_http.specs.declared.stops.Stop.TheVariants as stops
use Rattle.pec_http.proofs.InputLemmas.{input_known, rest_of}

-- ---- heads that end nowhere

asks_cut : (pass : Bytes → Bytes → Pass) (input : Bytes) (cut : WholeCut) (seen : Seen) → cut_of input ≡ cut → SeesCut input cut seen
    → Asks pass input (question_of pass seen)
asks_cut pass input cut seen e sees = record {
  seen = seen;
  sees = let P : WholeCut → Type 0 = λ c. SeesCut input c seen in subst P (sym e) sees;
  asks = refl;
}

pub head_stops : (pass : Bytes → Bytes → Pass) (left : Option Bytes) (stop : Stop) → StopsHead left stop → StopsFor pass left stop
head_stops pass left stops.LargeHead h a b = (h.0, h.1, asks_cut pass h.0 TooLarge LargeHead h.2 refl)
head_stops pass left stops.BadHead h a b = (h.0, h.1, asks_cut pass h.0 Short NoHead h.2 refl)
head_stops pass left stops.NoMemory h a b = absurd (a refl)
head_stops pass left stops.ReadFault h a b = absurd (b refl)
head_stops pass left stops.NoRoute h a b = absurd h
head_stops pass left stops.OtherMethod h a b = absurd h
head_stops pass left stops.NoAccount h a b = absurd h
head_stops pass left stops.NoKey h a b = absurd h
head_stops pass left stops.WrongKey h a b = absurd h
head_stops pass left stops.NoLength h a b = absurd h
head_stops pass left stops.NoPath h a b = absurd h
head_stops pass left stops.TooLarge h a b = absurd h
head_stops pass left stops.CutBody h a b = absurd h

-- ---- heads that end

-- a head that ends at a place came, whatever comes behind
pub record HeadCame (left left_then : Option Bytes) (came : Bytes) (end : ℕ) : Type 0 where
  pub taken : left ≡ behind came left_then
  pub cut : (more : Bytes) → cut_of (came ++ more) ≡ Ends end
  pub within : end ≤ length came

demand_seen : (pass : Bytes → Bytes → Pass) (found : Option Request) (rest : Bytes) → (demand_in pass found >>= asked_with rest) ≡ question_of pass (seen_behind rest found)
demand_seen pass None rest = refl
demand_seen pass (Some request) rest = refl

-- what the head asks, the request asks
pub asks_so : (pass : Bytes → Bytes → Pass) (came more : Bytes) (end : ℕ) (asked : Result Demand Stop) → cut_of (came ++ more) ≡ Ends end → end ≤ length came
    → Demands pass (take end came) asked → Asks pass (came ++ more) (asked >>= asked_with (drop end (came ++ more)))
asks_so pass came more end asked cut within demands =
    let seen : Seen = seen_behind (drop end (came ++ more)) demands.found in
    let front : take end (came ++ more) ≡ take end came = take-append-le end came more within in
    let reads : ReadsHead (take end (came ++ more)) demands.found = (let P : Bytes → Type 0 = λ t. ReadsHead t demands.found in subst P (sym front) demands.reads) in
    record {
      seen = seen;
      sees = (let P : WholeCut → Type 0 = λ c. SeesCut (came ++ more) c seen in subst P (sym cut) (demands.found, reads, refl));
      asks = ap (λ a. a >>= asked_with (drop end (came ++ more))) demands.asks ∙ demand_seen pass demands.found (drop end (came ++ more));
    }

pub demand_stops : (pass : Bytes → Bytes → Pass) (left left_then : Option Bytes) (came : Bytes) (end : ℕ) (stop : Stop) → HeadCame left left_then came end
    → (stop ≢ stops.NoMemory → Demands pass (take end came) (Err stop)) → StopsFor pass left stop
demand_stops pass left left_then came end stop head demands a b =
    let rest = rest_of left_then in
    (came ++ rest.0, input_known left left_then came rest.0 head.taken rest.1, asks_so pass came rest.0 end (Err stop) (head.cut rest.0) head.within (demands a))

-- ---- what the desk shows

shown_so : (answer : Result Written Stop) (P : Reply → Type 0) (reply : Reply) → P reply → IfOk answer (λ written. IsReply written reply)
    → IfOk answer (λ written. (shown : Reply) × (P shown) × IsReply written shown)
shown_so (Ok written) P reply p is = (reply, p, is)
shown_so (Err stop) P reply p is = record {}

-- for a look at a book or at a mailbox no disk fails
no_disk : {X : Type 0} (seen : X → Bytes) (said : Result X ProviderFault) → IfErr said IsLookFault → seen_as seen said ≡ Err faults.DiskFault → ⊥
no_disk seen (Ok value) looks e = absurd cc
no_disk seen (Err fault) looks e =
    let P : Result Bytes ProviderFault → Type 0 = λ r. IfErr r IsLookFault in subst P e looks

pub seen_so : {Desk X : Type 0} (answers : Answers Desk) (desk : Desk) (address : Bytes) (look known : Look) (seen : X → Bytes) (said : Result X ProviderFault)
    (answer : Result Written Stop) → look ≡ known → MayShow answers desk address known (seen_as seen said) desk → IfErr said IsLookFault
    → IfOk answer (λ written. IsReply written (shown_reply (kind_of known) (seen_as seen said)))
    → IfOk answer (λ written. (shown : Reply) × (Shows answers desk address look desk shown) × IsReply written shown)
seen_so answers desk address look known seen said answer is may looks shown =
    let P : Look → Type 0 = λ l. MayShow answers desk address l (seen_as seen said) desk in
    let Q : Look → Type 0 = λ l. IfOk answer (λ written. IsReply written (shown_reply (kind_of l) (seen_as seen said))) in
    shown_so answer (λ reply. Shows answers desk address look desk reply) (shown_reply (kind_of look) (seen_as seen said))
    (record { said = seen_as seen said; may_say = subst P (sym is) may; cause = λ e. absurd (no_disk seen said looks e); answer = refl }) (subst Q (sym is) shown)

rests_behind : {Desk : Type 0} (answers : Answers Desk) (desk : Desk) (address : Bytes) (look : Look) → RestsBehind answers desk address look desk
rests_behind answers desk address looks.Book = refl
rests_behind answers desk address looks.Items = refl
rests_behind answers desk address (looks.Item place) = inl refl

-- what failed for a look at which no item was shown left the desk as it is
pub rested_so : {Desk : Type 0} (answers : Answers Desk) (desk : Desk) (address : Bytes) (look : Look) (answer : Result Written Stop)
    → IfErr answer (λ stop. RestsBehind answers desk address look desk)
rested_so answers desk address _ (Ok written) = record {}
rested_so answers desk address look (Err stop) = rests_behind answers desk address look

-- an item is shown
pub item_shown : {Desk : Type 0} (answers : Answers Desk) (before after : Desk) (address : Bytes) (place : ℕ) (bytes : Bytes) (written : Written)
    → answers.item before address place (Ok bytes) after → IsReply written (record { status = statuses.Ok; kind = Message; body = bytes })
    → (shown : Reply) × (Shows answers before address (looks.Item place) after shown) × IsReply written shown
item_shown answers before after address place bytes written may is =
    (record { status = statuses.Ok; kind = Message; body = bytes }, record { said = Ok bytes; may_say = may; cause = λ e. absurd cc; answer = refl }, is)

-- the fault is the same, whatever would have been answered without it
fault_same : {X : Type 0} (fault known : ProviderFault) → (let wrong : Result X ProviderFault = Err fault in wrong ≡ Err known) → fault ≡ known
fault_same {X} fault known e = cc

-- an item is refused
pub item_refused : {Desk X : Type 0} (answers : Answers Desk) (before after : Desk) (address : Bytes) (place : ℕ) (fault : ProviderFault) (written : Written)
    → answers.item before address place (Err fault) after
    → ((let said : Result X ProviderFault = Err fault in said ≡ Err faults.DiskFault) → HasRisen (answers.faults before address) (answers.faults after address))
    → IsReply written (fault_reply fault) → (shown : Reply) × (Shows answers before address (looks.Item place) after shown) × IsReply written shown
item_refused answers before after address place fault written may cause is =
    (fault_reply fault, record { said = Err fault; may_say = may; cause = λ e. cause (ap (λ f. Err f) (fault_same fault faults.DiskFault e)); answer = refl }, is)

-- ---- bodies

whole : (n length_ : ℕ) → length_ ≤ n → nat_lt n length_ ≡ false
whole n length_ enough = grind (arith, nat_tests)

short : (n length_ : ℕ) → n < length_ → nat_lt n length_ ≡ true
short n length_ less = grind (arith, nat_tests)

-- the body that came is that of the request
pub body_asked : (came more : Bytes) (end until length_ : ℕ) (address : Bytes) (path : Path) → until ≡ end + length_ → until ≤ length came
    → asked_with (drop end (came ++ more)) (demands.Submit address path length_) ≡ Ok (Submit address path (take length_ (drop end came)))
body_asked came more end until length_ address path until_is enough =
    let within : end ≤ length came = omega arith in
    let room : length_ ≤ length (drop end came) = simp length-drop (omega arith) in
    let parts : drop end (came ++ more) ≡ drop end came ++ more = drop-append-le end came more within in
    let front : take length_ (drop end came ++ more) ≡ take length_ (drop end came) = take-append-le length_ (drop end came) more room in
    let some : length_ ≤ length (drop end came ++ more) = simp length-append (omega arith) in
    rw (parts, whole (length (drop end came ++ more)) length_ some, front) refl

-- a body that ends too soon
pub body_cut : (came rest : Bytes) (end until length_ : ℕ) (address : Bytes) (path : Path) → until ≡ end + length_ → length (came ++ rest) < until → end ≤ length came
    → asked_with (drop end (came ++ rest)) (demands.Submit address path length_) ≡ Err stops.CutBody
body_cut came rest end until length_ address path until_is cut within =
    let few : length (drop end (came ++ rest)) < length_ = simp length-drop (omega (arith, length-append came rest)) in
    rw (short (length (drop end (came ++ rest))) length_ few) refl

pub body_stops : (pass : Bytes → Bytes → Pass) (left left_then : Option Bytes) (came : Bytes) (end until length_ : ℕ) (address : Bytes) (path : Path) (stop : Stop)
    → HeadCame left left_then came end → Demands pass (take end came) (Ok (demands.Submit address path length_)) → until ≡ end + length_
    → StopsBody left_then came until stop → StopsFor pass left stop
body_stops pass left left_then came end until length_ address path stops.CutBody head asking until_is h a b =
    let asked = body_cut came h.0 end until length_ address path until_is h.2 head.within in
    let asks = asks_so pass came h.0 end (Ok (demands.Submit address path length_)) (head.cut h.0) head.within asking in
    (came ++ h.0, input_known left left_then came h.0 head.taken h.1, let P : Result Question Stop → Type 0 = λ q. Asks pass (came ++ h.0) q in subst P asked asks)
body_stops pass left left_then came end until length_ address path stops.NoMemory head asking until_is h a b = absurd (a refl)
body_stops pass left left_then came end until length_ address path stops.ReadFault head asking until_is h a b = absurd (b refl)
body_stops pass left left_then came end until length_ address path _ head asking until_is h a b = absurd h

-- ---- whole exchanges

-- an account looks, and is answered
pub look_answered : {Desk : Type 0} (answers : Answers Desk) (left left_then : Option Bytes) (came : Bytes) (end : ℕ) (before after : Desk) (address : Bytes) (look : Look)
    (written : Written) → HeadCame left left_then came end → Demands (answers.pass before) (take end came) (Ok (demands.Look address look))
    → ((shown : Reply) × (Shows answers before address look after shown) × IsReply written shown) → Exchanges answers left before after written
look_answered answers left left_then came end before after address look written head asking shown =
    let rest = rest_of left_then in
    record {
      input = came ++ rest.0;
      is_input = input_known left left_then came rest.0 head.taken rest.1;
      reply = shown.0;
      is_answer = record {
        asked = Ok (See address look);
        asks = asks_so (answers.pass before) came rest.0 end (Ok (demands.Look address look)) (head.cut rest.0) head.within asking;
        answered = shown.1;
      };
      is_written = shown.2;
    }

-- where the desk is as it was, whatever was asked
pub rests_over : {Desk X : Type 0} (answers : Answers Desk) (left : Option Bytes) (before after : Desk) (answer : Result X Stop) → after ≡ before
    → IfErr answer (λ stop. HasRestedOver answers left before after)
rests_over answers left before after (Ok written) same = record {}
rests_over answers left before after (Err stop) same = let rest = rest_of left in (rest.0, rest.1, inl same)

rested_by : {Desk : Type 0} (answers : Answers Desk) (before after : Desk) (input address : Bytes) (look : Look) → Asks (answers.pass before) input (Ok (See address look))
    → RestsBehind answers before address look after → HasRested answers before input after
rested_by answers before after input address looks.Book asks same = inl same
rested_by answers before after input address looks.Items asks same = inl same
rested_by answers before after input address (looks.Item place) asks (inl same) = inl same
rested_by answers before after input address (looks.Item place) asks (inr shown) =
    inr (record { address = address; place = place; asks = asks; bytes = shown.0; shown = shown.1 })

-- an account looks, and memory runs out
pub look_rested : {Desk X : Type 0} (answers : Answers Desk) (left left_then : Option Bytes) (came : Bytes) (end : ℕ) (before after : Desk) (address : Bytes) (look : Look)
    (answer : Result X Stop) → HeadCame left left_then came end → Demands (answers.pass before) (take end came) (Ok (demands.Look address look))
    → RestsBehind answers before address look after → IfErr answer (λ stop. HasRestedOver answers left before after)
look_rested answers left left_then came end before after address _ (Ok written) head asking rests = record {}
look_rested answers left left_then came end before after address look (Err stop) head asking rests =
    let rest = rest_of left_then in
    let input : Bytes = came ++ rest.0 in (
      input,
      input_known left left_then came rest.0 head.taken rest.1,
      rested_by answers before after input address look (asks_so (answers.pass before) came rest.0 end (Ok (demands.Look address look)) (head.cut rest.0) head.within asking) rests,
    )

-- an account submits, and is answered
pub submission_answered : {Desk : Type 0} (answers : Answers Desk) (left left_then left_last : Option Bytes) (came all : Bytes) (end length_ : ℕ) (before after : Desk)
    (address : Bytes) (path path_said : Path) (message : Bytes) (written : Written) → HeadCame left left_then came end
    → Demands (answers.pass before) (take end came) (Ok (demands.Submit address path length_))
    → TakesMore left_then came left_last all → end + length_ ≤ length all → path_said ≡ path → message ≡ take length_ (drop end all)
    → ((shown : Reply) × (Submits answers before address path_said message after shown) × IsReply written shown) → Exchanges answers left before after written
submission_answered answers left left_then left_last came all end length_ before after address path path_said message written head asking more enough path_is message_is shown =
    let rest = rest_of left_last in
    let input : Bytes = came ++ (more.piece ++ rest.0) in
    let asks = asks_so (answers.pass before) came (more.piece ++ rest.0) end (Ok (demands.Submit address path length_)) (head.cut (more.piece ++ rest.0)) head.within asking in
    let same : came ++ (more.piece ++ rest.0) ≡ all ++ rest.0 = sym (append_assoc came more.piece rest.0) ∙ ap (λ front. front ++ rest.0) (sym more.put) in
    let asked : asked_with (drop end (came ++ (more.piece ++ rest.0))) (demands.Submit address path length_) ≡ Ok (Submit address path_said message) =
    ap (λ text. asked_with (drop end text) (demands.Submit address path length_)) same
    ∙ (body_asked all rest.0 end (end + length_) length_ address path refl enough
    ∙ (ap (λ m. Ok (Submit address path m)) (sym message_is) ∙ ap (λ p. Ok (Submit address p message)) (sym path_is))) in
    record {
      input = input;
      is_input = input_known left left_then came (more.piece ++ rest.0) head.taken (input_known left_then left_last more.piece rest.0 more.taken rest.1);
      reply = shown.0;
      is_answer = record {
        asked = Ok (Submit address path_said message);
        asks = (let P : Result Question Stop → Type 0 = λ q. Asks (answers.pass before) input q in subst P asked asks);
        answered = shown.1;
      };
      is_written = shown.2;
    }

-- the same demand, of the same bytes
pub demands_so : (pass : Bytes → Bytes → Pass) (text text_is : Bytes) (asked asked_is : Result Demand Stop) → text ≡ text_is → asked ≡ asked_is
    → Demands pass text asked → Demands pass text_is asked_is
demands_so pass text text_is asked asked_is e f h =
    let P : Bytes → Type 0 = λ t. Demands pass t asked in
    let Q : Result Demand Stop → Type 0 = λ a. Demands pass text_is a in
    subst Q f (subst P e h)

-- ---- calls

-- a request that isn't put to the desk leaves it as it is, and so does want of memory, but that an item may have been read
pub record RestsAt {Desk : Type 0} (answers : Answers Desk) (left : Option Bytes) (before after : Desk) (stop : Stop) : Type 0 where
  pub same : stop ≢ stops.NoMemory → after ≡ before
  pub rested : HasRestedOver answers left before after

refused : {Desk : Type 0} (answers : Answers Desk) (left : Option Bytes) (before after : Desk) (stop : Stop) (reply : Reply) → RestsAt answers left before after stop → stop ≢ stops.NoMemory
    → stop ≢ stops.ReadFault → StopsFor (answers.pass before) left stop → reply ≡ stop_reply stop
    → (input : Bytes) × IsInput left input × IsAnswerOrLack answers before input after reply
refused answers left before after stop reply rests no_lack no_read stopped is =
    let why = stopped no_lack no_read in
    (why.0, why.1, inl (record { asked = Err stop; asks = why.2; answered = record { same = rests.same no_lack; is = is } }))

lacking : {Desk : Type 0} (answers : Answers Desk) (left : Option Bytes) (before after : Desk) (reply : Reply) → HasRestedOver answers left before after → reply ≡ memory_reply
    → (input : Bytes) × IsInput left input × IsAnswerOrLack answers before input after reply
lacking answers left before after reply rested is = (rested.0, rested.1, inr (is, rested.2))

stop_answered : {Desk : Type 0} (answers : Answers Desk) (left : Option Bytes) (before after : Desk) (stop : Stop) (reply : Reply) → RestsAt answers left before after stop
    → stop ≢ stops.ReadFault → StopsFor (answers.pass before) left stop → reply ≡ stop_reply stop
    → (input : Bytes) × IsInput left input × IsAnswerOrLack answers before input after reply
stop_answered answers left before after stops.NoMemory reply rests no_read stopped is = lacking answers left before after reply rests.rested is
stop_answered answers left before after stops.ReadFault reply rests no_read stopped is = absurd (no_read refl)
stop_answered answers left before after stops.LargeHead reply rests no_read stopped is = refused answers left before after stops.LargeHead reply rests (λ e. absurd cc) no_read stopped is
stop_answered answers left before after stops.BadHead reply rests no_read stopped is = refused answers left before after stops.BadHead reply rests (λ e. absurd cc) no_read stopped is
stop_answered answers left before after stops.NoRoute reply rests no_read stopped is = refused answers left before after stops.NoRoute reply rests (λ e. absurd cc) no_read stopped is
stop_answered answers left before after stops.OtherMethod reply rests no_read stopped is = refused answers left before after stops.OtherMethod reply rests (λ e. absurd cc) no_read stopped is
stop_answered answers left before after stops.NoAccount reply rests no_read stopped is = refused answers left before after stops.NoAccount reply rests (λ e. absurd cc) no_read stopped is
stop_answered answers left before after stops.NoKey reply rests no_read stopped is = refused answers left before after stops.NoKey reply rests (λ e. absurd cc) no_read stopped is
stop_answered answers left before after stops.WrongKey reply rests no_read stopped is = refused answers left before after stops.WrongKey reply rests (λ e. absurd cc) no_read stopped is
stop_answered answers left before after stops.NoLength reply rests no_read stopped is = refused answers left before after stops.NoLength reply rests (λ e. absurd cc) no_read stopped is
stop_answered answers left before after stops.NoPath reply rests no_read stopped is = refused answers left before after stops.NoPath reply rests (λ e. absurd cc) no_read stopped is
stop_answered answers left before after stops.TooLarge reply rests no_read stopped is = refused answers left before after stops.TooLarge reply rests (λ e. absurd cc) no_read stopped is
stop_answered answers left before after stops.CutBody reply rests no_read stopped is = refused answers left before after stops.CutBody reply rests (λ e. absurd cc) no_read stopped is

stop_or_lack : {Desk : Type 0} (answers : Answers Desk) (left : Option Bytes) (before after : Desk) (stop : Stop) (reply : Reply) → RestsAt answers left before after stop
    → stop ≢ stops.ReadFault → StopsFor (answers.pass before) left stop → (reply ≡ stop_reply stop) ⊎ (reply ≡ memory_reply)
    → (input : Bytes) × IsInput left input × IsAnswerOrLack answers before input after reply
stop_or_lack answers left before after stop reply rests no_read stopped (inl is) = stop_answered answers left before after stop reply rests no_read stopped is
stop_or_lack answers left before after stop reply rests no_read stopped (inr is) = lacking answers left before after reply rests.rested is

replies : {Desk : Type 0} (answers : Answers Desk) (left held : Option Bytes) (before after : Desk) (held_then : Option Bytes) (served : Served) (reply : Reply)
    → ((input : Bytes) × IsInput left input × IsAnswerOrLack answers before input after reply) → Sends held held_then served reply.status (reply_text reply)
    → Serves answers left held before after held_then served
replies answers left held before after held_then (Answered code) reply answer sends = record { input = answer.0; is_input = answer.1; reply = reply; is_answer = answer.2; sends = sends }
replies answers left held before after held_then WriteFault reply answer sends = record { input = answer.0; is_input = answer.1; reply = reply; is_answer = answer.2; sends = sends }
replies answers left held before after held_then ReadFault reply answer sends = absurd sends

-- a request that isn't put to the desk is served; reading it left what the connection held
pub stop_served : {Desk : Type 0} (answers : Answers Desk) (left held held_read : Option Bytes) (before after : Desk) (stop : Stop) (held_then : Option Bytes) (served : Served)
    → held_read ≡ held → RestsAt answers left before after stop → stop ≢ stops.ReadFault → StopsFor (answers.pass before) left stop
    → ((reply : Reply) × ((reply ≡ stop_reply stop) ⊎ (reply ≡ memory_reply)) × Sends held_read held_then served reply.status (reply_text reply))
    → Serves answers left held before after held_then served
stop_served answers left held held_read before after stop held_then served kept rests no_read stopped answered =
    let P : Option Bytes → Type 0 = λ h. Sends h held_then served answered.0.status (reply_text answered.0) in
    replies answers left held before after held_then served answered.0 (stop_or_lack answers left before after stop answered.0 rests no_read stopped answered.1)
    (subst P kept answered.2)

-- one that is put to the desk is served
pub exchange_served : {Desk : Type 0} (answers : Answers Desk) (left held held_read : Option Bytes) (before after : Desk) (written : Written) (held_then : Option Bytes) (served : Served)
    → held_read ≡ held → Exchanges answers left before after written → Sends held_read held_then served written.status written.text.items
    → Serves answers left held before after held_then served
exchange_served answers left held held_read before after written held_then served kept exchange sends =
    let O : Option Bytes → Type 0 = λ h. Sends h held_then served written.status written.text.items in
    let P : Status → Type 0 = λ s. Sends held held_then served s written.text.items in
    let Q : Bytes → Type 0 = λ t. Sends held held_then served exchange.reply.status t in
    replies answers left held before after held_then served exchange.reply (exchange.input, exchange.is_input, inl exchange.is_answer)
    (subst Q exchange.is_written.text (subst P exchange.is_written.status (subst O kept sends)))

-- who sends doesn't read
pub not_read : (held held_then : Option Bytes) (served : Served) (status : Status) (text : Bytes) → Sends held held_then served status text → served ≡ ReadFault → ⊥
not_read held held_then (Answered code) status text sends e = absurd cc
not_read held held_then WriteFault status text sends e = absurd cc
not_read held held_then ReadFault status text sends e = sends

-- a count that rose later has risen
pub risen_before : (a b c : ℕ) → a ≤ b → b ≤ c → HasRisen b c → HasRisen a c
risen_before a b c ab bc risen below = grind (arith, risen)
