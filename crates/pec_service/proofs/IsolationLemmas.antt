-- What the caller of a connection is answered is its own, unless a device fails.
use Rattle.std.proofs.Common.{◌≡◌, ◌≢◌, inl, inr, ℕ, ◌+◌, ◌-◌, ◌^◌, ◌≤◌, Bool, List, [], ◌∷◌, ◌++◌, refl, ap, sym, ◌∙◌, subst, Option, Some, None, Result, Ok, Err, arith}
use Rattle.std.specs.Prelude.{◌⊎◌, if◌then◌else◌}
use Rattle.std.specs.List.{AllByRecursion}
use Rattle.std.specs.Option.{option_map}
use Rattle.std.proofs.lemmas.Bool.{cases_lt, eq-eqb}
use Rattle.std.proofs.lemmas.Option.{none-some}
use Rattle.pec_types.specs.Bytes.{Bytes, Path}
use Rattle.pec_types.specs.declared.turns.ProviderFault.{ProviderFault}
use Rattle.pec_types.specs.declared.turns.ProviderFault.TheVariants as faults
use Rattle.pec_types.specs.declared.turns.Submitted.{Submitted}
use Rattle.pec_outside.specs.Flow.{HasRisen}
use Rattle.pec_directory.specs.Directory.{Kept, Provider, account_home, first_domain, providers_of}
use Rattle.pec_seal.specs.Seals.{Seals}
use Rattle.pec_ledger.specs.Network.{Site}
use Rattle.pec_ledger.specs.Trade.{Trade}
use Rattle.pec_plays.specs.Commands.{Answer, Command, Refuses, Show, Submit, played}
use Rattle.pec_plays.specs.Possible.{MayMeet}
use Rattle.pec_runs.specs.OfTrades.{trade_of}
use Rattle.pec_runs.specs.Plays.{RoseBy, ShowsItsOwn, faults_at_home, faults_by}
use Rattle.pec_http.specs.Asking.{Asks, Question, See, Submit as Submission}
use Rattle.pec_http.specs.Replies.{Reply, shown_reply, stop_reply, submitted_reply}
use Rattle.pec_http.specs.Serving.{kind_of}
use Rattle.pec_http.specs.declared.demands.Look.{Look}
use Rattle.pec_http.specs.declared.demands.Look.TheVariants as looks
use Rattle.pec_http.specs.declared.passes.Pass.{Pass}
use Rattle.pec_http.specs.declared.stops.Stop.{Stop}
use Rattle.pec_service.specs.Calls.{AreCalls, Call, State, answer_of, commands_of, lucks_of, state_behind}
use Rattle.pec_service.specs.Connections.{Answering, AsksSo, Connection, Hearing, IsConnection, IsHeardSo, Place, handed_by, handed_in, heard_from, item_from, said_in, seen_in}
use Rattle.pec_service.specs.Connections as connections
use Rattle.pec_service.specs.Isolation.{GaveItsOwn, IsDeviceReply, IsOwn, answered, answering_of, asking_share, own_answer}
use Rattle.pec_service.specs.Own.{Share, reply_to, said_by, share_at, shown_in, shown_with, submission_reply}
use Rattle.pec_service.specs.Passes.{pass_of}
use Rattle.pec_service.specs.Services.{AreConnections, place_behind}
use Rattle.pec_service.proofs.CallLemmas.{calls_shown}
use Rattle.pec_service.specs.ShareLaws.{Says, ShowsSo, home_is, look_home, look_is, submission_is}

-- a request asks one thing
abbrev pub AsksOne : Type 0
AsksOne = (pass : Bytes → Bytes → Pass) (input : Bytes) (asked other : Result Question Stop)
    → Asks pass input asked → Asks pass input other → asked ≡ other

-- ---- how it was heard

abbrev or_else : {X : Type 0} → X → Option X → X
or_else d None = d
or_else d (Some x) = x

some_is : {X : Type 0} (x y : X) → Some x ≡ Some y → x ≡ y
some_is {X} x y e = ap (λ (o : Option X). or_else x o) e

module _ (kept : List Kept) (input : Bytes) (answering : Answering) where
  asks_so : (hearing : Hearing) → answering_of hearing ≡ Some answering → IsHeardSo kept input hearing
      → AsksSo kept input answering
  asks_so connections.Unheard is so = absurd (none-some answering is)
  asks_so (connections.Heard other) is so = subst (AsksSo kept input) (some_is other answering is) so
  asks_so (connections.Broken other) is so = subst (AsksSo kept input) (some_is other answering is) so

module _ (moment : ℕ) (answering : Answering) where
  handed_so : (hearing : Hearing) → answering_of hearing ≡ Some answering
      → handed_in moment hearing ≡ handed_by moment answering
  handed_so connections.Unheard is = absurd (none-some answering is)
  handed_so (connections.Heard other) is = ap (handed_by moment) (some_is other answering is)
  handed_so (connections.Broken other) is = ap (handed_by moment) (some_is other answering is)

-- the first of some commands
abbrev first_or : Command → List Command → Command
first_or other [] = other
first_or other (command ∷ commands) = command

-- ---- counts of faults

-- a count that rose by one, and never fell since, has risen
rose_one : (rose_by a b c : ℕ) → rose_by ≡ 1 → RoseBy rose_by a b → b ≤ c → HasRisen a c
rose_one rose_by a b c is rose later = λ small. elim (cases_lt b (2 ^ 64 - 1)) [
  | inl less ↦ (let x : a + rose_by ≤ b = rose.1 less in omega (arith, x, is, later))
  | inr most ↦ omega (arith, most, later, small)
]

never_falls : (trade : Trade) (tells : Type 0) (here : State) (calls : List Call) → AreCalls trade tells here calls
    → (provider : ℕ)
    → here.counts provider ≤ (state_behind here calls).counts provider
never_falls trade tells here [] are provider = omega arith
never_falls trade tells here (call ∷ calls) are provider =
    let rose = (are.0.counts provider).0
    in let more = never_falls trade tells call.behind calls are.1 provider in omega arith

-- ---- all of it

module _ (tells : Type 0) (kept : List Kept) (seals : Seals) (here : Place) (connection : Connection) where
  abbrev trade : Trade
  trade = trade_of kept seals

  abbrev providers : List Provider
  providers = providers_of kept

  abbrev sites : List Site
  sites = here.network.sites

  abbrev IsIts : Result Question Stop → Reply → Type 0
  IsIts asked reply = IsOwn kept seals here connection asked reply

  module _ (number : ℕ) (address : Bytes) (path : Path) (message : Bytes)
      (home : account_home providers address ≡ Some number) where
    abbrev command : Command
    command = Submit number connection.moment address path message

    abbrev question : Result Question Stop
    question = Ok (Submission address path message)

    abbrev said : Result Submitted ProviderFault
    said = said_by providers connection.moment number (share_at trade sites address number).figures
        (share_at trade sites address number).patterns address path message

    abbrev reply_by : Result Submitted ProviderFault → Reply
    reply_by heard = submitted_reply (first_domain providers number) heard

    own_is : own_answer kept seals here connection question ≡ reply_by said
    own_is =
        ap (λ (found : Option ℕ). submission_reply providers connection.moment
        (option_map (share_at trade sites address) found) address path message) home

    told_once : (told : Command) (answer : Answer) → told ≡ command → answer ≡ Refuses faults.DiskFault
        → faults_by trade number told answer ≡ 1
    told_once told answer same fault =
        ap (λ (c : Command). faults_by trade number c answer) same
        ∙ ap (λ (a : Answer). faults_by trade number command a) fault
        ∙ ap (λ (b : Bool). if b then 1 else 0) (eq-eqb number number refl)

    by_call : (call : Call) → call.command ≡ command
        → RoseBy (faults_by trade number call.command (answer_of trade sites call)) (here.network.counts number) (call.behind.counts number)
        → call.behind.counts number ≤ connection.behind.network.counts number
        → Says said (answer_of trade sites call) → IsIts question (reply_by (said_in (answer_of trade sites call)))
    by_call call is rose later says = elim says [
      | inl same ↦ inl (ap reply_by same ∙ sym own_is)
      | inr fault ↦ inr (inr (inl (
        number,
        home,
        ap (λ (a : Answer). reply_by (said_in a)) fault,
        rose_one (faults_by trade number call.command (answer_of trade sites call)) (here.network.counts number)
            (call.behind.counts number) (connection.behind.network.counts number)
            (told_once call.command (answer_of trade sites call) is fault) rose later,
      )))
    ]

    by_handed : (calls clock : List Call) → commands_of calls ≡ command ∷ []
        → AreCalls trade tells here.network (calls ++ clock)
        → (state_behind here.network (calls ++ clock)).counts number ≤ connection.behind.network.counts number
        → IsIts question (reply_by (heard_from trade kept sites calls))
    by_handed [] clock is are later = cc
    by_handed (call ∷ calls) clock is are later =
        by_call call (ap (first_or command) is) (are.0.counts number)
        (let k = never_falls trade tells call.behind (calls ++ clock) are.1 number in omega arith)
        (subst (λ (c : Command). Says said (played trade call.luck sites c).answer) (sym (ap (first_or command) is))
        (submission_is kept seals sites address number home connection.moment path message call.luck))

  -- a look at an item
  module _ (address : Bytes) (place : ℕ) where
    abbrev look : Command
    look = Show address place

    abbrev item_question : Result Question Stop
    item_question = Ok (See address (looks.Item place))

    abbrev look_reply : Result Bytes ProviderFault → Reply
    look_reply seen = shown_reply (kind_of (looks.Item place)) seen

    abbrev look_says : Result Bytes ProviderFault
    look_says = shown_with providers (option_map (share_at trade sites address) (account_home providers address))
        (looks.Item place)

    look_once : (number : ℕ) → account_home providers address ≡ Some number → (told : Command) (answer : Answer)
        → told ≡ look → answer ≡ Refuses faults.DiskFault → faults_by trade number told answer ≡ 1
    look_once number home told answer same fault =
        ap (λ (c : Command). faults_by trade number c answer) same
        ∙ ap (λ (a : Answer). faults_by trade number look a) fault
        ∙ ap (λ (h : Option ℕ). faults_at_home number h (Refuses faults.DiskFault)) (home_is kept seals address number home)
        ∙ ap (λ (b : Bool). if b then 1 else 0) (eq-eqb number number refl)

    look_call : (call : Call) → call.command ≡ look
        → ((p : ℕ) → RoseBy (faults_by trade p call.command (answer_of trade sites call)) (here.network.counts p)
        (call.behind.counts p))
        → ((p : ℕ) → call.behind.counts p ≤ connection.behind.network.counts p)
        → ((fault : ProviderFault) → answer_of trade sites call ≡ Refuses fault → fault ≢ faults.NoAccount
        → (number : ℕ) × (account_home providers address ≡ Some number))
        → ShowsSo look_says (answer_of trade sites call)
        → IsIts item_question (look_reply (seen_in (answer_of trade sites call)))
    look_call call is rose later somewhere (inl same) = inl (ap look_reply same)
    look_call call is rose later somewhere (inr (inl fault)) =
        let home = somewhere faults.DiskFault fault (λ e. cc)
        in inr (inr (inl (
          home.0,
          home.1,
          ap (λ (a : Answer). look_reply (seen_in a)) fault,
          rose_one (faults_by trade home.0 call.command (answer_of trade sites call)) (here.network.counts home.0)
              (call.behind.counts home.0) (connection.behind.network.counts home.0)
              (look_once home.0 home.1 call.command (answer_of trade sites call) is fault) (rose home.0) (later home.0),
        )))
    look_call call is rose later somewhere (inr (inr changed)) =
        inr (inr (inr (changed.0, changed.1, ap (λ (a : Answer). look_reply (seen_in a)) changed.2)))

    by_looked : (calls clock : List Call) → commands_of calls ≡ look ∷ [] → AllByRecursion ShowsItsOwn (lucks_of calls)
        → AreCalls trade tells here.network (calls ++ clock)
        → ((p : ℕ) → (state_behind here.network (calls ++ clock)).counts p ≤ connection.behind.network.counts p)
        → IsIts item_question (look_reply (item_from trade kept sites calls))
    by_looked [] clock is gave are later = cc
    by_looked (call ∷ calls) clock is gave are later =
        let same = ap (first_or look) is
        in let may = subst (λ (c : Command). MayMeet trade call.luck sites c) same are.0.meet
        in look_call call same are.0.counts
        (λ p. let k = never_falls trade tells call.behind (calls ++ clock) are.1 p in let l = later p in omega (arith, k, l))
        (λ fault told other. look_home kept seals sites address place call.luck gave.0 may fault
        (sym (ap (λ (c : Command). (played trade call.luck sites c).answer) same) ∙ told) other)
        (subst (λ (c : Command). ShowsSo look_says (played trade call.luck sites c).answer) (sym same)
        (look_is kept seals sites address place call.luck gave.0 may))

  module _ (is : IsConnection trade tells kept here connection) (one : AsksOne)
      (asked : Result Question Stop) (asks : Asks (pass_of kept) connection.input asked)
      (gave : GaveItsOwn asked connection) where
    -- it asks what it was heard to ask
    is_asked : (other : Result Question Stop) → Asks (pass_of kept) connection.input other → other ≡ asked
    is_asked other so = one (pass_of kept) connection.input other asked so asks

    -- a look at a book, or at a list of items
    by_shown : (address : Bytes) (looked : Look) → Asks (pass_of kept) connection.input (Ok (See address looked))
        → IsIts asked (shown_reply (kind_of looked) (shown_in trade providers sites address looked))
    by_shown address looked so =
        subst (λ (a : Result Question Stop).
        IsIts a (shown_reply (kind_of looked) (shown_in trade providers sites address looked)))
        (is_asked (Ok (See address looked)) so)
        (inl refl)

    by_answering : (answering : Answering) → AsksSo kept connection.input answering
        → commands_of connection.handed ≡ handed_by connection.moment answering
        → IsIts asked (answered kept seals here connection answering)
    by_answering connections.Lacks so hands = inr (inl refl)
    by_answering (connections.Stops stop) so hands =
        subst (λ (a : Result Question Stop). IsIts a (stop_reply stop)) (is_asked (Err stop) so) (inl refl)
    by_answering (connections.Sees address looks.Book) so hands = by_shown address looks.Book so
    by_answering (connections.Sees address looks.Items) so hands = by_shown address looks.Items so
    by_answering (connections.Sees address (looks.Item place)) so hands =
        let same = is_asked (Ok (See address (looks.Item place))) so
        in subst (λ (a : Result Question Stop).
        IsIts a (shown_reply (kind_of (looks.Item place)) (item_from trade kept sites connection.handed))) same
        (by_looked address place connection.handed connection.clock hands
        (subst (λ (a : Result Question Stop). GaveItsOwn a connection) (sym same) gave) is.calls is.later)
    by_answering (connections.HandsIn number address path message) so hands =
        subst (λ (a : Result Question Stop).
        IsIts a (submitted_reply (first_domain providers number) (heard_from trade kept sites connection.handed)))
        (is_asked (Ok (Submission address path message)) so.0)
        (by_handed number address path message so.1 connection.handed connection.clock hands is.calls (is.later number))

    pub own : (answering : Answering) → answering_of connection.hearing ≡ Some answering
        → IsIts asked (answered kept seals here connection answering)
    own answering heard =
        by_answering answering (asks_so kept connection.input answering connection.hearing heard is.heard)
        (is.hands ∙ handed_so connection.moment answering connection.hearing heard)

-- ---- two of them

module _ (tells : Type 0) (kept : List Kept) (seals keys : Seals) (here there : Place) (one other : Connection) (asks_one : AsksOne) where
  pub apart : IsConnection (trade_of kept seals) tells kept here one
      → IsConnection (trade_of kept keys) tells kept there other
      → one.moment ≡ other.moment → one.input ≡ other.input
      → (asked : Result Question Stop) → Asks (pass_of kept) one.input asked
      → GaveItsOwn asked one → GaveItsOwn asked other
      → asking_share kept seals here.network.sites asked ≡ asking_share kept keys there.network.sites asked
      → (answering again : Answering) → answering_of one.hearing ≡ Some answering → answering_of other.hearing ≡ Some again
      → (answered kept seals here one answering ≡ answered kept keys there other again)
      ⊎ IsDeviceReply kept here one asked (answered kept seals here one answering)
      ⊎ IsDeviceReply kept there other asked (answered kept keys there other again)
  apart is be at input asked asks gave gives same answering again heard hears =
      elim (own tells kept seals here one is asks_one asked asks gave answering heard) [
        | inl first ↦ elim (own tells kept keys there other be asks_one asked
            (subst (λ (i : Bytes). Asks (pass_of kept) i asked) input asks) gives again hears) [
              | inl second ↦ inl (first
                  ∙ ap (λ (m : ℕ). reply_to (providers_of kept) m (asking_share kept seals here.network.sites asked) asked) at
                  ∙ ap (λ (share : Option Share). reply_to (providers_of kept) other.moment share asked) same
                  ∙ sym second)
              | inr fault ↦ inr (inr fault)
            ]
        | inr fault ↦ inr (inl fault)
      ]

-- ---- those of a service

-- a connection among others is one, from the place behind those before it
pub connection_at : (trade : Trade) (tells : Type 0) (kept : List Kept) (here : Place)
    (front rest : List Connection) (connection : Connection)
    → AreConnections trade tells kept here (front ++ connection ∷ rest)
    → IsConnection trade tells kept (place_behind here front) connection
connection_at trade tells kept here [] rest connection are = are.0
connection_at trade tells kept here (one ∷ front) rest connection are =
    connection_at trade tells kept one.behind front rest connection are.1

-- where disks tell what they hold, a look at an item was shown the item's own bytes
pub gave_own : (trade : Trade) (tells : Type 0) (kept : List Kept) (here : Place) (connection : Connection)
    → tells → IsConnection trade tells kept here connection → (asked : Result Question Stop)
    → GaveItsOwn asked connection
gave_own trade tells kept here connection told is (Ok (Submission address path message)) = tt
gave_own trade tells kept here connection told is (Ok (See address looks.Book)) = tt
gave_own trade tells kept here connection told is (Ok (See address looks.Items)) = tt
gave_own trade tells kept here connection told is (Ok (See address (looks.Item place))) =
    calls_shown trade tells told here.network connection.handed connection.clock is.calls
gave_own trade tells kept here connection told is (Err stop) = tt
