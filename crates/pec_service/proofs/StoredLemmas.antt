-- What is played of a message that is handed in, or of a look at an item, never answers want of memory.
use Rattle.std.proofs.Common.{◌≡◌, ℕ, Bool, true, false, List, [], ◌∷◌, ◌++◌, ap, sym, subst, ◌∙◌, Option, Some, None, Result, Err}
use Rattle.std.specs.Prelude.{IfSome, if◌then◌else◌, nat_lt, slice_get}
use Rattle.std.specs.Option.{unwrap_or}
use Rattle.std.proofs.lemmas.Option.{none-some}
use Rattle.pec_types.specs.Bytes.{Bytes, Path}
use Rattle.pec_types.specs.declared.messages.TheConstants.{MESSAGES}
use Rattle.pec_types.specs.declared.turns.ProviderFault.{ProviderFault}
use Rattle.pec_types.specs.declared.turns.ProviderFault.TheVariants as faults
use Rattle.pec_types.specs.declared.turns.Submitted.{Submitted}
use Rattle.pec_directory.specs.Directory.{Kept}
use Rattle.pec_ledger.specs.Half.{Half, Posted}
use Rattle.pec_ledger.specs.Items.{item_text}
use Rattle.pec_ledger.specs.Lookups.{mailbox}
use Rattle.pec_ledger.specs.Network.{Site, journal_at, site_at}
use Rattle.pec_ledger.specs.Steps.{half}
use Rattle.pec_ledger.specs.Trade.{Trade}
use Rattle.pec_plays.specs.Commands.{Command, Luck, Played, Refuses, Show, Submit, Submits, account_home, answers, appended, asked, entry_by, finds_at, messages_at, played}
use Rattle.pec_plays.specs.Commands.{read_back, screened_cause, shown, shown_bytes, told_by}
use Rattle.pec_plays.specs.Possible.{IsOfRead, MayMeet}
use Rattle.pec_plays.specs.Steps.{has_no_room}
use Rattle.pec_plays.specs.Turns.{last_of}
use Rattle.pec_ledger.specs.Pairs.{id_of}
use Rattle.pec_http.specs.declared.demands.Look.TheVariants as looks
use Rattle.pec_service.specs.Calls.{AreCalls, Call, commands_of}
use Rattle.pec_service.specs.Connections.{Answering, Connection, Hearing, IsConnection, Place, handed_by, handed_in, heard_from}
use Rattle.pec_service.specs.Connections.{item_from, said_in, seen_in}
use Rattle.pec_service.specs.Connections as connections
use Rattle.pec_service.specs.Isolation.{answering_of}

-- the first of some commands
abbrev first_or : Command → List Command → Command
first_or other [] = other
first_or other (command ∷ commands) = command

-- it isn't want of memory
abbrev IsSaid : Result Submitted ProviderFault → Type 0
IsSaid (Err faults.NoMemory) = ⊥
IsSaid _ = Unit {0}

abbrev Tells : Played → Type 0
Tells p = IsSaid (said_in p.answer)

tells_if : (b : Bool) (x y : Played) → Tells x → Tells y → Tells (if b then x else y)
tells_if true x y one other = one
tells_if false x y one other = other

module _ (trade : Trade) (luck : Luck) (sites : List Site) (number moment : ℕ) (address : Bytes) (path : Path) (message : Bytes) where
  abbrev found : Bool
  found = finds_at sites number message

  appends : (fails : Bool) (entry : _) (submitted : Submitted) → Tells (appended fails sites number entry (Submits submitted))
  appends true entry submitted = tt
  appends false entry submitted = tt

  pub submission_tells : Tells (played trade luck sites (Submit number moment address path message))
  unfolding played
  submission_tells =
      tells_if (trade.is_account number address) _ _
      (tells_if (site_at sites number).up _ _
      (tells_if (nat_lt moment (last_of trade number (journal_at sites number))) _ _ tt
      (tells_if (nat_lt (messages_at trade sites number) MESSAGES) _ _
      (tells_if (has_no_room trade number (journal_at sites number)
      (entry_by (screened_cause found (trade.cause number address path message)) moment address path message)) _ _ tt
      (appends luck.fails (entry_by (screened_cause found (trade.cause number address path message)) moment address path message)
      (told_by (screened_cause found (trade.cause number address path message)) (id_of number (messages_at trade sites number)))))
      tt)) tt) tt

-- ---- a look at an item

-- it isn't want of memory
abbrev IsSeen : Result Bytes ProviderFault → Type 0
IsSeen (Err faults.NoMemory) = ⊥
IsSeen _ = Unit {0}

abbrev Sees : Played → Type 0
Sees p = IsSeen (seen_in p.answer)

sees_if : (b : Bool) (x y : Played) → Sees x → Sees y → Sees (if b then x else y)
sees_if true x y one other = one
sees_if false x y one other = other

module _ (trade : Trade) (luck : Luck) (sites : List Site) (may : IfSome luck.read IsOfRead) where
  read_sees : (number : ℕ) (bytes : Bytes) (read : Option ProviderFault) → IfSome read IsOfRead
      → Sees (read_back read bytes sites number)
  read_sees number bytes None of = tt
  read_sees number bytes (Some faults.DiskFault) of = tt
  read_sees number bytes (Some faults.NoMemory) of = of
  read_sees number bytes (Some faults.Down) of = tt
  read_sees number bytes (Some (faults.ClockBack last)) of = tt
  read_sees number bytes (Some faults.NoAccount) of = tt
  read_sees number bytes (Some faults.Full) of = tt
  read_sees number bytes (Some faults.NoItem) of = tt
  read_sees number bytes (Some faults.JournalFull) of = tt
  read_sees number bytes (Some faults.OldJournal) of = tt
  read_sees number bytes (Some faults.NoNeed) of = tt
  read_sees number bytes (Some (faults.Changed entry)) of = tt

  bytes_see : (number : ℕ) (text : Option Bytes) → Sees (shown_bytes luck sites number text)
  bytes_see number None = tt
  bytes_see number (Some bytes) = read_sees number (unwrap_or luck.shown bytes) luck.read may

  posted_sees : (number : ℕ) (posted : Option Posted) → Sees (shown trade luck sites number posted)
  posted_sees number None = tt
  posted_sees number (Some posted) = bytes_see number (item_text trade number (journal_at sites number) posted)

  asked_sees : (show : ℕ → Half → Played) → ((number : ℕ) (half : Half) → Sees (show number half)) → (home : Option ℕ)
      → Sees (asked sites show trade home)
  asked_sees show each None = tt
  asked_sees show each (Some number) =
      sees_if (site_at sites number).up (show number (half trade number (journal_at sites number)))
      (answers sites (Refuses faults.Down)) (each number _) tt

  pub look_sees : (address : Bytes) (place : ℕ) → Sees (played trade luck sites (Show address place))
  unfolding played
  look_sees address place =
      asked_sees (λ number half. shown trade luck sites number (slice_get (mailbox half address) place))
      (λ number half. posted_sees number (slice_get (mailbox half address) place))
      (account_home trade address (trade.home address))

-- ---- a connection

or_else : Answering → Option Answering → Answering
or_else other None = other
or_else other (Some answering) = answering

module _ (moment : ℕ) (answering : Answering) where
  handed_so : (hearing : Hearing) → answering_of hearing ≡ Some answering
      → handed_in moment hearing ≡ handed_by moment answering
  unfolding or_else
  handed_so connections.Unheard is = absurd (none-some answering is)
  handed_so (connections.Heard other) is = ap (handed_by moment) (ap (or_else other) is)
  handed_so (connections.Broken other) is = ap (handed_by moment) (ap (or_else other) is)

module _ (trade : Trade) (tells : Type 0) (kept : List Kept) (here : Place) (connection : Connection)
    (is : IsConnection trade tells kept here connection) where
  abbrev sites : List Site
  sites = here.network.sites

  not_said : (said : Result Submitted ProviderFault) → IsSaid said → said ≡ Err faults.NoMemory → ⊥
  not_said said is_said lack = subst IsSaid lack is_said

  not_seen : (seen : Result Bytes ProviderFault) → IsSeen seen → seen ≡ Err faults.NoMemory → ⊥
  not_seen seen is_seen lack = subst IsSeen lack is_seen

  module _ (number : ℕ) (address : Bytes) (path : Path) (message : Bytes) where
    abbrev submission : Command
    submission = Submit number connection.moment address path message

    said_by : (calls : List Call) → commands_of calls ≡ submission ∷ [] → IsSaid (heard_from trade kept sites calls)
    said_by [] e = cc
    said_by (call ∷ calls) e =
        subst (λ (c : Command). Tells (played trade call.luck sites c)) (sym (ap (first_or submission) e))
        (submission_tells trade call.luck sites number connection.moment address path message)

    pub stored_is_said : answering_of connection.hearing ≡ Some (connections.HandsIn number address path message)
        → heard_from trade kept sites connection.handed ≡ Err faults.NoMemory → ⊥
    stored_is_said heard lack =
        not_said (heard_from trade kept sites connection.handed)
        (said_by connection.handed
        (is.hands ∙ handed_so connection.moment (connections.HandsIn number address path message) connection.hearing heard))
        lack

  module _ (address : Bytes) (place : ℕ) where
    seen_by : (calls clock : List Call) → commands_of calls ≡ Show address place ∷ []
        → AreCalls trade tells here.network (calls ++ clock) → IsSeen (item_from trade kept sites calls)
    seen_by [] clock e are = cc
    seen_by (call ∷ calls) clock e are =
        let same = ap (first_or (Show address place)) e
        in subst (λ (c : Command). Sees (played trade call.luck sites c)) (sym same)
        (look_sees trade call.luck sites (subst (λ (c : Command). MayMeet trade call.luck sites c) same are.0.meet)
        address place)

    pub shown_is_seen : answering_of connection.hearing ≡ Some (connections.Sees address (looks.Item place))
        → item_from trade kept sites connection.handed ≡ Err faults.NoMemory → ⊥
    shown_is_seen heard lack =
        not_seen (item_from trade kept sites connection.handed)
        (seen_by connection.handed connection.clock
        (is.hands ∙ handed_so connection.moment (connections.Sees address (looks.Item place)) connection.hearing heard)
        is.calls) lack
