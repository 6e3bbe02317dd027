-- What became of a connection at the desk, from what `serve_one` says of it.
use Rattle.std.proofs.Common.{◌≡◌, inl, inr, ℕ, ◌<◌, ◌≤◌, Bool, true, false, List, [], ◌∷◌, length, refl, ap, sym, subst, ◌∙◌, arith, Option, Some, None, Result, Ok, Err}
use Rattle.std.specs.Prelude.{◌⊎◌, IfSome, IsErrOf, if◌then◌else◌, nat_lt, unwrap_or}
use Rattle.pec_types.specs.Bytes.{Bytes, Path}
use Rattle.pec_types.specs.declared.turns.ProviderFault.{ProviderFault}
use Rattle.pec_types.specs.declared.turns.ProviderFault.TheVariants as faults
use Rattle.pec_types.specs.declared.turns.Submitted.{Submitted}
use Rattle.pec_types.specs.declared.messages.Cause.{Cause}
use Rattle.pec_types.specs.declared.messages.TheConstants.{MESSAGES}
use Rattle.pec_outside.specs.DiskModel.{Sight}
use Rattle.pec_outside.specs.Flow.{WrotePart, followed_by}
use Rattle.pec_directory.specs.Directory.{first_domain, providers_of}
use Rattle.pec_seal.specs.Seals.{Seals}
use Rattle.pec_ledger.specs.Network.{Site, journal_at, site_at}
use Rattle.pec_ledger.specs.Pairs.{id_of}
use Rattle.pec_ledger.specs.Trade.{Trade}
use Rattle.pec_plays.specs.Commands.{Answer, Command, Luck, Played, Refuses, Show, Shown, Submit, Submits, answers, appended, entry_by, finds_at, messages_at, played, screened_cause, told_by}
use Rattle.pec_plays.specs.Commands as plays
use Rattle.pec_plays.specs.Possible.{GaveWhatWasKept, IsOfRead}
use Rattle.pec_plays.specs.Steps.{has_no_room}
use Rattle.pec_plays.specs.Turns.{last_of}
use Rattle.pec_playing.specs.OfNetworks.{AllStand, HasRisenAt, IsPlayed, NetworkState, NoneFalls, ProviderState, luck_of, world_of}
use Rattle.pec_http.specs.Asking.{Asks, Question, See}
use Rattle.pec_http.specs.Asking as asking
use Rattle.pec_http.specs.Desks.{Answers}
use Rattle.pec_http.specs.Input.{IsInput}
use Rattle.pec_http.specs.Replies.{Reply, memory_reply, reply_text, shown_reply, submitted_reply}
use Rattle.pec_http.specs.Serving.{HasRested, IsAnswer, IsAnswered, Sends, Serves, kind_of}
use Rattle.pec_http.specs.Serving as serving
use Rattle.pec_http.specs.Statuses.{number_of}
use Rattle.pec_http.specs.declared.demands.Look.TheVariants as looks
use Rattle.pec_http.specs.declared.serving.Served.{Served}
use Rattle.pec_http.specs.declared.serving.Served.TheVariants as served
use Rattle.pec_http.specs.declared.stops.Stop.{Stop}
use Rattle.pec_service.specs.OfRuns.{HasMemory, IsUnchanged, RoseBy, faults_at, faults_at_home}
use Rattle.pec_desk.specs.Desks.{DeskState, HandsIn, LooksAt, answers_of, domain_at}
use Rattle.pec_desk.specs.OfNetworks.{IsReadSo, luck_of_read}
use Rattle.pec_service.specs.Passes.{pass_of}
use Rattle.pec_service.specs.Own.{IsFaultOf, reply_to}
use Rattle.pec_service.specs.ShareLaws.{home_is}
use Rattle.pec_desk.specs.Shares.{ReadsItsOwn, asking_share}
use Rattle.pec_playing.specs.Playing.{counts_in}
use Rattle.pec_service.specs.Calls.{AreCalls, Call, IsCall, State, commands_of, state_behind}
use Rattle.pec_service.specs.Connections.{Answering, AsksSo, Hearing, IsHeardSo, answered_by, handed_by, handed_in, said_in, seen_in}
use Rattle.pec_service.specs.Connections as connections
use Rattle.pec_serving.specs.Hearing.{Hears, IsServed}
use Rattle.pec_serving.specs.Playing.{state_of}

-- ---- what an account asks of a provider, as a command

-- what a call told, as an answer
abbrev pub told : {X : Type 0} → (X → Answer) → Result X ProviderFault → Answer
told tells (Ok value) = tells value
told tells (Err fault) = Refuses fault

-- A command was played, and told so. Only a disk that gives back other bytes than it took shows these.
pub record Called (play : Luck → Played) (new : List Site) (shown_so : Option Bytes) (answer_is : Answer) : Type 0 where
  pub luck : Luck
  pub may : IfSome luck.read IsOfRead
  pub kept : GaveWhatWasKept luck
  pub shown : luck.shown ≡ shown_so
  pub answer : (play luck).answer ≡ answer_is
  pub after : new ≡ (play luck).after

module _ (play : Luck → Played) (old new : List Site) where
  played_as : (fails : Bool) (answer_is : Answer) → play (luck_of fails) ≡ record { answer = answer_is; after = new }
      → Called play new None answer_is
  played_as fails answer_is is = record {
    luck = luck_of fails;
    may = tt;
    kept = λ provider. tt;
    shown = refl;
    answer = ap (λ (p : Played). p.answer) is;
    after = sym (ap (λ (p : Played). p.after) is);
  }

  refused_as : (fault : ProviderFault) → (play (luck_of false) ≡ answers old (Refuses fault)) × (new ≡ old)
      → Called play new None (Refuses fault)
  refused_as fault is = record {
    luck = luck_of false;
    may = tt;
    kept = λ provider. tt;
    shown = refl;
    answer = ap (λ (p : Played). p.answer) is.0;
    after = is.1 ∙ sym (ap (λ (p : Played). p.after) is.0);
  }

  -- It was played, or memory ran out and nothing changed.
  pub called_or : (said : Result Submitted ProviderFault) → IsPlayed Submits play old new said
      → Called play new None (told Submits said) ⊎ ((said ≡ Err faults.NoMemory) × (new ≡ old))
  called_or (Ok submitted) is = inl (played_as false (Submits submitted) is)
  called_or (Err faults.NoMemory) is = inr (refl, is)
  called_or (Err faults.DiskFault) is = inl (played_as true (Refuses faults.DiskFault) is)
  called_or (Err faults.Down) is = inl (refused_as faults.Down is)
  called_or (Err (faults.ClockBack last)) is = inl (refused_as (faults.ClockBack last) is)
  called_or (Err faults.NoAccount) is = inl (refused_as faults.NoAccount is)
  called_or (Err faults.Full) is = inl (refused_as faults.Full is)
  called_or (Err faults.NoItem) is = inl (refused_as faults.NoItem is)
  called_or (Err faults.JournalFull) is = inl (refused_as faults.JournalFull is)
  called_or (Err faults.OldJournal) is = inl (refused_as faults.OldJournal is)
  called_or (Err faults.NoNeed) is = inl (refused_as faults.NoNeed is)
  called_or (Err (faults.Changed number)) is = inl (refused_as (faults.Changed number) is)

  module _ (shown_so : Option Bytes) where
    -- the read failed
    unread_as : (fault : ProviderFault) → IsOfRead fault
        → play (luck_of_read (Some fault) shown_so) ≡ record { answer = Refuses fault; after = new }
        → Called play new shown_so (Refuses fault)
    unread_as fault may is = record {
      luck = luck_of_read (Some fault) shown_so;
      may = may;
      kept = λ provider. tt;
      shown = refl;
      answer = ap (λ (p : Played). p.answer) is;
      after = sym (ap (λ (p : Played). p.after) is);
    }

    -- nothing changed
    looked_as : (answer_is : Answer) → (play (luck_of_read None shown_so) ≡ answers old answer_is) × (new ≡ old)
        → Called play new shown_so answer_is
    looked_as answer_is is = record {
      luck = luck_of_read None shown_so;
      may = tt;
      kept = λ provider. tt;
      shown = refl;
      answer = ap (λ (p : Played). p.answer) is.0;
      after = is.1 ∙ sym (ap (λ (p : Played). p.after) is.0);
    }

    pub looked_or : (said : Result Bytes ProviderFault)
        → IsReadSo Shown (λ read. play (luck_of_read read shown_so)) old new said
        → Called play new shown_so (told Shown said) ⊎ ((said ≡ Err faults.NoMemory) × (new ≡ old))
    looked_or (Ok bytes) is = inl (looked_as (Shown bytes) is)
    looked_or (Err faults.NoMemory) is = inr (refl, is)
    looked_or (Err faults.DiskFault) is = inl (unread_as faults.DiskFault tt is)
    looked_or (Err (faults.Changed number)) is = inl (unread_as (faults.Changed number) tt is)
    looked_or (Err faults.Down) is = inl (looked_as (Refuses faults.Down) is)
    looked_or (Err (faults.ClockBack last)) is = inl (looked_as (Refuses (faults.ClockBack last)) is)
    looked_or (Err faults.NoAccount) is = inl (looked_as (Refuses faults.NoAccount) is)
    looked_or (Err faults.Full) is = inl (looked_as (Refuses faults.Full) is)
    looked_or (Err faults.NoItem) is = inl (looked_as (Refuses faults.NoItem) is)
    looked_or (Err faults.JournalFull) is = inl (looked_as (Refuses faults.JournalFull) is)
    looked_or (Err faults.OldJournal) is = inl (looked_as (Refuses faults.OldJournal) is)
    looked_or (Err faults.NoNeed) is = inl (looked_as (Refuses faults.NoNeed) is)

submitted_memory : (said : Result Submitted ProviderFault) → HasMemory (told Submits said)
submitted_memory (Ok submitted) = tt
submitted_memory (Err fault) = tt

submitted_back : (said : Result Submitted ProviderFault) → said_in (told Submits said) ≡ said
submitted_back (Ok submitted) = refl
submitted_back (Err fault) = refl

shown_memory : (said : Result Bytes ProviderFault) → HasMemory (told Shown said)
shown_memory (Ok bytes) = tt
shown_memory (Err fault) = tt

shown_back : (said : Result Bytes ProviderFault) → seen_in (told Shown said) ≡ said
shown_back (Ok bytes) = refl
shown_back (Err fault) = refl

-- ---- no entry is told as changed

-- what isn't told as changed
unchanged_shown : (said : Result Bytes ProviderFault) → ((number : ℕ) → IsErrOf said (faults.Changed number) → ⊥)
    → IsUnchanged (told Shown said)
unchanged_shown (Ok bytes) never = tt
unchanged_shown (Err (faults.Changed number)) never = absurd (never number refl)
unchanged_shown (Err faults.NoMemory) never = refl
unchanged_shown (Err faults.DiskFault) never = refl
unchanged_shown (Err faults.Down) never = refl
unchanged_shown (Err (faults.ClockBack last)) never = refl
unchanged_shown (Err faults.NoAccount) never = refl
unchanged_shown (Err faults.Full) never = refl
unchanged_shown (Err faults.NoItem) never = refl
unchanged_shown (Err faults.JournalFull) never = refl
unchanged_shown (Err faults.OldJournal) never = refl
unchanged_shown (Err faults.NoNeed) never = refl

-- a submission reads nothing
unchanged_by : (account works back few full : Bool) (state : List Site) (last : ℕ) (done : Played) → IsUnchanged done.answer
    → IsUnchanged (if account
    then (if works then (if back then answers state (Refuses (faults.ClockBack last))
    else (if few then (if full then answers state (Refuses faults.JournalFull) else done)
    else answers state (Refuses faults.Full)))
    else answers state (Refuses faults.Down))
    else answers state (Refuses faults.NoAccount)).answer
unchanged_by true true true few full state last done same = refl
unchanged_by true true false true true state last done same = refl
unchanged_by true true false true false state last done same = same
unchanged_by true true false false full state last done same = refl
unchanged_by true false back few full state last done same = refl
unchanged_by false works back few full state last done same = refl

module _ (trade : Trade) (luck : Luck) (state : List Site) (number moment : ℕ) (address : Bytes) (path : Path)
    (message : Bytes) where
  abbrev appended_by : (fails : Bool) (cause : Option Cause) → Played
  appended_by fails cause = appended fails state number (entry_by cause moment address path message)
      (Submits (told_by cause (id_of number (messages_at trade state number))))

  unchanged_appended : (fails : Bool) (cause : Option Cause) → IsUnchanged (appended_by fails cause).answer
  unchanged_appended true cause = refl
  unchanged_appended false cause = tt

  unchanged_handed : IsUnchanged (played trade luck state (Submit number moment address path message)).answer
  unfolding played
  unchanged_handed =
      let cause : Option Cause =
      screened_cause (finds_at state number message) (trade.cause number address path message)
      in unchanged_by (trade.is_account number address) (site_at state number).up
      (nat_lt moment (last_of trade number (journal_at state number))) (nat_lt (messages_at trade state number) MESSAGES)
      (has_no_room trade number (journal_at state number) (entry_by cause moment address path message)) state
      (last_of trade number (journal_at state number)) (appended_by luck.fails cause)
      (unchanged_appended luck.fails cause)

-- ---- a connection

-- what is known of counts of faults, and of what an account is answered
pub record Counted {D : Type 0} (count : D → ℕ) : Type 0 where
  pub refused : (old new : List (ProviderState D)) → length new ≡ length old → (elsewhere : ℕ → ℕ)
      → NoneFalls count old new → (asked : ℕ) → asked < length old → (fault : ProviderFault)
      → (fault ≡ faults.DiskFault → HasRisenAt count asked old new) → (number : ℕ)
      → RoseBy (faults_at number asked (Refuses fault)) (counts_in count old elsewhere number)
      (counts_in count new elsewhere number)
  pub later : (old new : List (ProviderState D)) → length new ≡ length old → (elsewhere : ℕ → ℕ)
      → NoneFalls count old new → (number : ℕ)
      → counts_in count old elsewhere number ≤ counts_in count new elsewhere number

abbrev pub OwnAnswers : {D S : Type 0} → (D → Sight) → Type 0 → Answers (DeskState D S) → (S → Seals) → Type 0
OwnAnswers {D} {S} sight tells desk_answers seals = (desk after : DeskState D S) (input : Bytes) (reply : Reply)
    → IsAnswer desk_answers desk input after reply
    → (asked : Result Question Stop) → Asks (pass_of desk.network.kept) input asked → ReadsItsOwn sight tells desk asked
    → (reply ≡ reply_to (providers_of desk.network.kept) desk.moment (asking_share seals desk asked) asked)
    ⊎ IsFaultOf asked reply

module _ {D S : Type 0} (sight : D → Sight) (count : D → ℕ) (tells : Type 0) (seals : S → Seals) (counted : Counted count)
    (own : OwnAnswers sight tells (answers_of sight count tells seals) seals) (network : NetworkState D S) (moment : ℕ)
    (after : DeskState D S) (elsewhere : ℕ → ℕ) (many : length after.network.providers ≡ length network.providers)
    (whole : length network.providers ≡ length network.kept) where
  abbrev desk_answers : Answers (DeskState D S)
  desk_answers = answers_of sight count tells seals

  abbrev desk : DeskState D S
  desk = record { network = network; moment = moment }

  abbrev trade : Trade
  trade = world_of seals network

  -- what is read is what was kept
  abbrev Stood : Type 0
  Stood = tells × AllStand sight network.providers

  abbrev here : State
  here = state_of count elsewhere network

  abbrev there : State
  there = state_of count elsewhere after.network

  -- what a request came to
  pub record Comes (input : Bytes) (reply : Reply) : Type 0 where
    pub answering : Answering
    pub handed : List Call
    pub asks : AsksSo network.kept input answering
    pub hands : commands_of handed ≡ handed_by moment answering
    pub calls : AreCalls trade Stood here handed
    pub state : there.sites ≡ (state_behind here handed).sites
    pub later : (provider : ℕ) → (state_behind here handed).counts provider ≤ there.counts provider
    pub reply_is : reply ≡ answered_by trade network.kept here.sites handed answering

  unchanged : after ≡ desk → there ≡ here
  unchanged same = ap (λ (d : DeskState D S). state_of count elsewhere d.network) same

  -- nothing was handed in
  idle : (input : Bytes) (reply : Reply) (answering : Answering) → AsksSo network.kept input answering
      → [] ≡ handed_by moment answering → there.sites ≡ here.sites
      → ((provider : ℕ) → here.counts provider ≤ there.counts provider)
      → reply ≡ answered_by trade network.kept here.sites [] answering → Comes input reply
  idle input reply answering asks none same rose is = record {
    answering = answering;
    handed = [];
    asks = asks;
    hands = none;
    calls = tt;
    state = same;
    later = rose;
    reply_is = is;
  }

  rests : (input : Bytes) (reply : Reply) (answering : Answering) → AsksSo network.kept input answering
      → [] ≡ handed_by moment answering → after ≡ desk
      → reply ≡ answered_by trade network.kept here.sites [] answering → Comes input reply
  rests input reply answering asks none same is =
      idle input reply answering asks none (ap (λ (s : State). s.sites) (unchanged same))
      (λ provider. let e : there.counts provider ≡ here.counts provider = ap (λ (s : State). s.counts provider) (unchanged same)
      in omega (arith, e)) is

  -- the count of the provider's disk rose where its fault is told
  rose : {X : Type 0} (tells_so : X → Answer) → ((provider asked : ℕ) (value : X) → faults_at provider asked (tells_so value) ≡ 0)
      → NoneFalls count network.providers after.network.providers → (number : ℕ) → number < length network.kept
      → (said : Result X ProviderFault)
      → (IsErrOf said faults.DiskFault → HasRisenAt count number network.providers after.network.providers)
      → (provider : ℕ) → RoseBy (faults_at provider number (told tells_so said)) (here.counts provider) (there.counts provider)
  rose tells_so calm falls number within (Ok value) risen provider =
      let l = counted.later network.providers after.network.providers many elsewhere falls provider
      in let e = calm provider number value
      in (l, λ low. omega (arith, l, e))
  rose {X} tells_so calm falls number within (Err fault) risen provider =
      counted.refused network.providers after.network.providers many elsewhere falls number (omega (arith, within, whole)) fault
      (λ is. risen (ap (λ (f : ProviderFault). (let r : Result X ProviderFault = Err f in r)) is)) provider

  -- a message was handed in
  module _ (input : Bytes) (reply : Reply) (address : Bytes) (path : Path) (message : Bytes)
      (asks : Asks (pass_of network.kept) input (Ok (asking.Submit address path message)))
      (submits : serving.Submits desk_answers desk address path message after reply) where
    abbrev handed_in_so : HandsIn sight count tells seals desk address path message submits.said after
    handed_in_so = submits.may_say

    abbrev number : ℕ
    number = handed_in_so.number

    abbrev command : Command
    command = Submit number moment address path message

    abbrev play : Luck → Played
    play luck = played trade luck here.sites command

    reply_to_said : reply ≡ submitted_reply (first_domain (providers_of network.kept) number) submits.said
    reply_to_said =
        submits.answer
        ∙ ap (λ (home : Option ℕ). submitted_reply (domain_at (providers_of network.kept) home) submits.said) handed_in_so.home

    module _ (called : Called play there.sites None (told Submits submits.said)) where
      abbrev call : Call
      call = record { command = command; luck = called.luck; behind = there }

      is_call : IsCall trade Stood here call
      is_call = record {
        meet = tt;
        memory = subst HasMemory (sym called.answer) (submitted_memory submits.said);
        counts = λ provider.
            subst (λ (a : Answer). RoseBy (faults_at provider number a) (here.counts provider) (there.counts provider))
            (sym called.answer) (rose Submits (λ p asked value. refl) handed_in_so.concerns.later number handed_in_so.within
            submits.said handed_in_so.concerns.disk_fault provider);
        state = called.after;
        kept = λ stood. called.kept;
        shown = λ stood. called.shown;
        unchanged = λ stood is_trade sound. unchanged_handed trade called.luck here.sites number moment address path message;
      }

      stored : Comes input reply
      stored = record {
        answering = connections.HandsIn number address path message;
        handed = call ∷ [];
        asks = (asks, handed_in_so.home, handed_in_so.path.0, handed_in_so.path.1);
        hands = refl;
        calls = (is_call, tt);
        state = refl;
        later = λ provider. omega arith;
        reply_is = reply_to_said
            ∙ ap (λ (said : Result Submitted ProviderFault).
            submitted_reply (first_domain (providers_of network.kept) number) said)
            (sym (submitted_back submits.said) ∙ ap said_in (sym called.answer));
      }

    handed_comes : Comes input reply
    handed_comes = elim (called_or play here.sites there.sites submits.said handed_in_so.plays) [
      | inl called ↦ stored called
      | inr lack ↦ idle input reply connections.Lacks tt refl lack.1
          (λ provider. counted.later network.providers after.network.providers many elsewhere handed_in_so.concerns.later provider)
          (reply_to_said ∙ ap (λ (said : Result Submitted ProviderFault).
          submitted_reply (first_domain (providers_of network.kept) number) said) lack.0)
    ]

  -- an item was looked at
  module _ (input : Bytes) (reply : Reply) (address : Bytes) (place : ℕ)
      (asks : Asks (pass_of network.kept) input (Ok (See address (looks.Item place)))) (said : Result Bytes ProviderFault)
      (looked : LooksAt sight count tells seals desk address place said after)
      (answer : reply ≡ shown_reply (kind_of (looks.Item place)) said) where
    abbrev look : Luck → Played
    look luck = played trade luck here.sites (Show address place)

    at_home : plays.account_home trade address (trade.home address) ≡ Some looked.number
    at_home = home_is network.kept (seals network.sealer) address looked.number looked.home

    module _ (called : Called look there.sites looked.reads.shown (told Shown said)) where
      abbrev look_call : Call
      look_call = record { command = Show address place; luck = called.luck; behind = there }

      look_rose : (provider : ℕ) → RoseBy (faults_at provider looked.number (told Shown said)) (here.counts provider)
          (there.counts provider)
      look_rose provider = rose Shown (λ p asked value. refl) looked.concerns.later looked.number looked.within said
          looked.concerns.disk_fault provider

      is_look : IsCall trade Stood here look_call
      is_look = record {
        meet = called.may;
        memory = subst HasMemory (sym called.answer) (shown_memory said);
        counts = λ provider.
            subst (λ (h : Option ℕ). RoseBy (faults_at_home provider h (look called.luck).answer) (here.counts provider)
            (there.counts provider)) (sym at_home)
            (subst (λ (a : Answer). RoseBy (faults_at provider looked.number a) (here.counts provider) (there.counts provider))
            (sym called.answer) (look_rose provider));
        state = called.after;
        kept = λ stood. called.kept;
        shown = λ stood. called.shown ∙ looked.reads.kept stood;
        unchanged = λ stood is_trade sound. subst IsUnchanged (sym called.answer)
            (unchanged_shown said (looked.reads.unchanged stood));
      }

      seen : Comes input reply
      seen = record {
        answering = connections.Sees address (looks.Item place);
        handed = look_call ∷ [];
        asks = asks;
        hands = refl;
        calls = (is_look, tt);
        state = refl;
        later = λ provider. omega arith;
        reply_is = answer ∙ ap (λ (r : Result Bytes ProviderFault). shown_reply (kind_of (looks.Item place)) r)
            (sym (shown_back said) ∙ ap seen_in (sym called.answer));
      }

    looked_comes : Comes input reply
    looked_comes = elim (looked_or look here.sites there.sites looked.reads.shown said looked.reads.is) [
      | inl called ↦ seen called
      | inr lack ↦ idle input reply connections.Lacks tt refl lack.1
          (λ provider. counted.later network.providers after.network.providers many elsewhere looked.concerns.later provider)
          (answer ∙ ap (λ (r : Result Bytes ProviderFault). shown_reply (kind_of (looks.Item place)) r) lack.0)
    ]

  answered : (input : Bytes) (reply : Reply) (asked : Result Question Stop) → Asks (pass_of network.kept) input asked
      → IsAnswer desk_answers desk input after reply → IsAnswered desk_answers desk asked after reply → Comes input reply
  answered input reply (Err stop) asks whole stays = rests input reply (connections.Stops stop) asks refl stays.same stays.is
  answered input reply (Ok (asking.Submit address path message)) asks whole submits =
      handed_comes input reply address path message asks submits
  answered input reply (Ok (See address looks.Book)) asks whole shows =
      elim (own desk after input reply whole (Ok (See address looks.Book)) asks tt) [
        | inl is ↦ rests input reply (connections.Sees address looks.Book) asks refl shows.may_say.1
            is
        | inr lack ↦ rests input reply connections.Lacks tt refl shows.may_say.1 lack
      ]
  answered input reply (Ok (See address looks.Items)) asks whole shows =
      elim (own desk after input reply whole (Ok (See address looks.Items)) asks tt) [
        | inl is ↦ rests input reply (connections.Sees address looks.Items) asks refl shows.may_say.1
            is
        | inr lack ↦ rests input reply connections.Lacks tt refl shows.may_say.1 lack
      ]
  answered input reply (Ok (See address (looks.Item place))) asks whole shows =
      looked_comes input reply address place asks shows.said shows.may_say shows.answer

  -- memory ran out
  lacks : (input : Bytes) (reply : Reply) → reply ≡ memory_reply → HasRested desk_answers desk input after → Comes input reply
  lacks input reply is (inl same) = rests input reply connections.Lacks tt refl same is
  lacks input reply is (inr read) =
      idle input reply connections.Lacks tt refl read.shown.reads.is.1
      (λ provider. counted.later network.providers after.network.providers many elsewhere read.shown.concerns.later provider) is

  comes : (input : Bytes) (reply : Reply) → serving.IsAnswerOrLack desk_answers desk input after reply → Comes input reply
  comes input reply (inl answer) = answered input reply answer.asked answer.asks answer answer.answered
  comes input reply (inr lack) = lacks input reply lack.0 lack.1

  -- ---- what was written

  heard_so : (left held held_then : Option Bytes) (told_status : Served) (input : Bytes) → IsInput left input
      → (hearing : Hearing) (reply : Reply) (come : Comes input reply)
      → IsHeardSo network.kept input hearing → commands_of come.handed ≡ handed_in moment hearing
      → IsServed trade network.kept here.sites come.handed hearing held held_then told_status
      → Hears trade Stood network.kept moment here there left held held_then told_status
  heard_so left held held_then told_status input is_input hearing reply come heard hands is = record {
    input = input;
    is_input = is_input;
    hearing = hearing;
    handed = come.handed;
    heard = heard;
    hands = hands;
    calls = come.calls;
    state = come.state;
    later = come.later;
    served = is;
  }

  any_input : (left : Option Bytes) → IsInput left (unwrap_or left [])
  any_input None = tt
  any_input (Some told_bytes) = refl

  replies_hear : (left held held_then : Option Bytes) (code : ℕ) (input : Bytes) (reply : Reply) → IsInput left input
      → (come : Comes input reply) → Sends held held_then (served.Answered code) reply.status (reply_text reply)
      → Hears trade Stood network.kept moment here there left held held_then (served.Answered code)
  replies_hear left held held_then code input reply is_input come sends =
      heard_so left held held_then (served.Answered code) input is_input (connections.Heard come.answering) reply come
      come.asks come.hands (
        ap served.Answered (sends.0 ∙ ap (λ (r : Reply). number_of r.status) come.reply_is),
        sends.1 ∙ ap (λ (r : Reply). followed_by held (reply_text r)) come.reply_is,
      )

  breaks_hear : (left held held_then : Option Bytes) (input : Bytes) (reply : Reply) → IsInput left input
      → (come : Comes input reply) → Sends held held_then served.WriteFault reply.status (reply_text reply)
      → Hears trade Stood network.kept moment here there left held held_then served.WriteFault
  breaks_hear left held held_then input reply is_input come sends =
      heard_so left held held_then served.WriteFault input is_input (connections.Broken come.answering) reply come
      come.asks come.hands (refl, subst (λ (r : Reply). WrotePart held held_then (reply_text r)) come.reply_is sends)

  pub serves_hear : (left held held_then : Option Bytes) (told_status : Served)
      → Serves desk_answers left held desk after held_then told_status
      → Hears trade Stood network.kept moment here there left held held_then told_status
  serves_hear left held held_then (served.Answered code) replies =
      replies_hear left held held_then code replies.input replies.reply replies.is_input
      (comes replies.input replies.reply replies.is_answer) replies.sends
  serves_hear left held held_then served.WriteFault replies =
      breaks_hear left held held_then replies.input replies.reply replies.is_input
      (comes replies.input replies.reply replies.is_answer) replies.sends
  serves_hear left held held_then served.ReadFault rest = record {
    input = unwrap_or left [];
    is_input = any_input left;
    hearing = connections.Unheard;
    handed = [];
    heard = tt;
    hands = refl;
    calls = tt;
    state = ap (λ (s : State). s.sites) (unchanged rest.same);
    later = λ provider. (let e : there.counts provider ≡ here.counts provider =
        ap (λ (s : State). s.counts provider) (unchanged rest.same) in omega (arith, e));
    served = (refl, rest.unwritten);
  }

-- ---- a desk as it was opened

pub opened_is : {D S : Type 0} (desk : DeskState D S) (network : NetworkState D S) (moment : ℕ)
    → desk.network ≡ network → desk.moment ≡ moment → desk ≡ record { network = network; moment = moment }
opened_is {D} {S} desk network moment same_network same_moment =
    ap (λ (n : NetworkState D S). (let d : DeskState D S = record { network = n; moment = desk.moment } in d)) same_network
    ∙ ap (λ (m : ℕ). (let d : DeskState D S = record { network = network; moment = m } in d)) same_moment
