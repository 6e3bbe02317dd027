-- What a network answers in the name of an account is what its share says.
use Rattle.std.proofs.Common.{◌≡◌, inl, inr, ℕ, ◌+◌, ◌==◌, Bool, true, false, List, length, refl, ap, sym, ◌∙◌, subst, Option, Some, None, Result, Ok, Err}
use Rattle.std.specs.Prelude.{◌⊎◌, IfErr, if◌then◌else◌, nat_lt}
use Rattle.std.proofs.lemmas.Bool.{eq-eqb}
use Rattle.std.proofs.lemmas.Option.{none-some}
use Rattle.pec_types.specs.Answers.{seen_as}
use Rattle.pec_types.specs.Bytes.{Bytes, Path}
use Rattle.pec_types.specs.declared.mailboxes.ItemLine.{ItemLine}
use Rattle.pec_types.specs.declared.messages.BookLine.{BookLine}
use Rattle.pec_types.specs.declared.messages.TheConstants.{MESSAGES}
use Rattle.pec_types.specs.declared.turns.ProviderFault.{ProviderFault}
use Rattle.pec_types.specs.declared.turns.ProviderFault.TheVariants as faults
use Rattle.pec_types.specs.declared.turns.Submitted.{Submitted}
use Rattle.pec_directory.specs.Directory.{Kept, account_home, is_account_of, is_number, providers_of}
use Rattle.pec_records.specs.declared.entries.Entry.{Entry}
use Rattle.pec_seal.specs.Seals.{Seals}
use Rattle.pec_ledger.specs.Books.{book, mailbox_lines}
use Rattle.pec_ledger.specs.Half.{Half}
use Rattle.pec_ledger.specs.Network.{Site, journal_at, site_at}
use Rattle.pec_ledger.specs.Steps.{half, size_of}
use Rattle.pec_ledger.specs.Trade.{Trade}
use Rattle.pec_plays.specs.Commands.{Answer, Book, Items, Lines, Luck, Mailbox, Played, Refuses, Shown, Submit, Submits, answers, asked, played, shown}
use Rattle.pec_plays.specs.Commands as plays
use Rattle.pec_plays.specs.Steps.{has_no_room, longest_journal}
use Rattle.pec_service.specs.OfTrades.{trade_of}
use Rattle.pec_network.specs.OfProviders.{luck_of}
use Rattle.pec_network.specs.Playing.{IsPlayed}
use Rattle.pec_http.specs.Desks.{IsLookFault, IsSubmitFault}
use Rattle.pec_http.specs.declared.demands.Look.{Look}
use Rattle.pec_http.specs.declared.demands.Look.TheVariants as looks
use Rattle.pec_script.specs.Texts.{book_text, items_text}
use Rattle.pec_desk.specs.Desks.{IsSeen, items_shown, lines_shown}
use Rattle.pec_service.specs.Own.{Share, entry_for, numbered, said_by, share_at, shown_to}

-- ---- answers, and what they tell

-- what a call told, as an answer
abbrev pub told : {X : Type 0} → (X → Answer) → Result X ProviderFault → Answer
told tells (Ok x) = tells x
told tells (Err fault) = Refuses fault

-- An answer tells one thing, and no refusal does.
pub record Tells {X : Type 0} (tells : X → Answer) : Type 0 where
  pub inverse : Answer → Option X
  pub back : (x : X) → inverse (tells x) ≡ Some x
  pub refused : (fault : ProviderFault) → inverse (Refuses fault) ≡ None

-- the refusal that an answer is
abbrev fault_in : Answer → Option ProviderFault
fault_in (Refuses fault) = Some fault
fault_in _ = None

abbrev or_else : {X : Type 0} → X → Option X → X
or_else d None = d
or_else d (Some x) = x

some_is : {X : Type 0} (x y : X) → Some x ≡ Some y → x ≡ y
some_is {X} x y e = ap (λ (o : Option X). or_else x o) e

refusal_is : (one other : ProviderFault) → Refuses one ≡ Refuses other → one ≡ other
refusal_is one other e = some_is one other (ap fault_in e)

module _ {X : Type 0} (tells : X → Answer) (tell : Tells tells) where
  one_is : (x y : X) → tells x ≡ tells y → x ≡ y
  one_is x y e = some_is x y (sym (tell.back x) ∙ ap tell.inverse e ∙ tell.back y)

  never : (x : X) (fault : ProviderFault) → tells x ≡ Refuses fault → ⊥
  never x fault e = none-some x (sym (tell.refused fault) ∙ sym (ap tell.inverse e) ∙ tell.back x)

  -- two things that are told alike are one
  pub told_once : (one other : Result X ProviderFault) → told tells one ≡ told tells other → one ≡ other
  told_once (Ok x) (Ok y) e = ap (λ (z : X). (let r : Result X ProviderFault = Ok z in r)) (one_is x y e)
  told_once (Ok x) (Err g) e = absurd (never x g e)
  told_once (Err f) (Ok y) e = absurd (never y f (sym e))
  told_once (Err f) (Err g) e = ap (λ (h : ProviderFault). (let r : Result X ProviderFault = Err h in r)) (refusal_is f g e)

abbrev lines_in : Answer → Option (List BookLine)
lines_in (Lines lines) = Some lines
lines_in _ = None

pub lines_tell : Tells lines_shown
lines_tell = record { inverse = lines_in; back = λ x. refl; refused = λ fault. refl }

abbrev items_in : Answer → Option (List ItemLine)
items_in (Items lines) = Some lines
items_in _ = None

pub items_tell : Tells items_shown
items_tell = record { inverse = items_in; back = λ x. refl; refused = λ fault. refl }

abbrev bytes_in : Answer → Option Bytes
bytes_in (Shown bytes) = Some bytes
bytes_in _ = None

pub bytes_tell : Tells Shown
bytes_tell = record { inverse = bytes_in; back = λ x. refl; refused = λ fault. refl }

abbrev submitted_shown : Submitted → Answer
submitted_shown submitted = Submits submitted

abbrev submitted_in : Answer → Option Submitted
submitted_in (Submits submitted) = Some submitted
submitted_in _ = None

pub submitted_tell : Tells submitted_shown
submitted_tell = record { inverse = submitted_in; back = λ x. refl; refused = λ fault. refl }

-- ---- what is seen

-- What is seen of an answer that tells this is this, or memory ran out.
module _ {X : Type 0} (tells : X → Answer) (tell : Tells tells) (text : X → Bytes) (state : List Site) (asked : Played)
    (said : Result X ProviderFault) (is : asked.answer ≡ told tells said) where
  seen_ok : (bytes : Bytes) (what : X) → asked ≡ answers state (tells what) → bytes ≡ text what
      → Ok bytes ≡ seen_as text said
  seen_ok bytes what answer written =
      ap (λ (b : Bytes). (let r : Result Bytes ProviderFault = Ok b in r)) written
      ∙ ap (λ (r : Result X ProviderFault). seen_as text r)
      (told_once tells tell (Ok what) said (sym (ap (λ (p : Played). p.answer) answer) ∙ is))

  seen_err : (fault : ProviderFault) → asked ≡ answers state (Refuses fault) → Err fault ≡ seen_as text said
  seen_err fault answer =
      ap (λ (r : Result X ProviderFault). seen_as text r)
      (told_once tells tell (Err fault) said (sym (ap (λ (p : Played). p.answer) answer) ∙ is))

  pub seen_is : (seen : Result Bytes ProviderFault) → IsSeen tells text asked state seen
      → (seen ≡ Err faults.NoMemory) ⊎ (seen ≡ seen_as text said)
  seen_is (Ok bytes) shows = inr (seen_ok bytes shows.what shows.answer shows.is)
  seen_is (Err faults.NoMemory) shows = inl refl
  seen_is (Err faults.DiskFault) shows = inr (seen_err faults.DiskFault shows)
  seen_is (Err faults.Down) shows = inr (seen_err faults.Down shows)
  seen_is (Err (faults.ClockBack last)) shows = inr (seen_err (faults.ClockBack last) shows)
  seen_is (Err faults.NoAccount) shows = inr (seen_err faults.NoAccount shows)
  seen_is (Err faults.Full) shows = inr (seen_err faults.Full shows)
  seen_is (Err faults.NoItem) shows = inr (seen_err faults.NoItem shows)
  seen_is (Err faults.JournalFull) shows = inr (seen_err faults.JournalFull shows)
  seen_is (Err faults.OldJournal) shows = inr (seen_err faults.OldJournal shows)
  seen_is (Err faults.NoNeed) shows = inr (seen_err faults.NoNeed shows)
  seen_is (Err (faults.Changed entry)) shows = inr (seen_err (faults.Changed entry) shows)

-- ---- an account

same_number : (n : ℕ) → (n == n) ≡ true
same_number n = eq-eqb n n refl

module _ (found : Bool) (home : Option ℕ) (number : ℕ) where
  home_found : (if found then home else None) ≡ Some number → home ≡ Some number
  home_found e = elim found as (λ b. (if b then home else None) ≡ Some number → home ≡ Some number) [
    | true ↦ λ h. h
    | false ↦ λ h. absurd (none-some number h)
  ] e

if_answer : (b : Bool) (x y : Played) → (if b then x else y).answer ≡ (if b then x.answer else y.answer)
if_answer true x y = refl
if_answer false x y = refl

told_if : {X : Type 0} (tells : X → Answer) (b : Bool) (x y : Result X ProviderFault)
    → (if b then told tells x else told tells y) ≡ told tells (if b then x else y)
told_if tells true x y = refl
told_if tells false x y = refl

seen_if : {X Y : Type 0} (seen : X → Y) (b : Bool) (x y : Result X ProviderFault)
    → seen_as seen (if b then x else y) ≡ (if b then seen_as seen x else seen_as seen y)
seen_if seen true x y = refl
seen_if seen false x y = refl

module _ (kept : List Kept) (seals : Seals) (state : List Site) (address : Bytes)
    (number : ℕ) (home : account_home (providers_of kept) address ≡ Some number) where
  abbrev trade : Trade
  trade = trade_of kept seals

  abbrev journal : List Entry
  journal = journal_at state number

  abbrev ledger : Half
  ledger = half trade number journal

  abbrev share : Share
  share = share_at trade state address number

  abbrev up : Bool
  up = (site_at state number).up

  pub at_home : trade.home address ≡ Some number
  unfolding account_home
  at_home = home_found _ _ _ home

  is_ours : trade.is_account number address ≡ true
  unfolding is_account_of
  is_ours = ap (is_number number) home ∙ same_number number

  -- what is asked in the name of the account is shown by its provider, or refused as that is down
  asked_is : (show : ℕ → Half → Played)
      → asked state show trade (plays.account_home trade address (trade.home address))
      ≡ (if up then show number ledger else answers state (Refuses faults.Down))
  asked_is show =
      ap (λ (h : Option ℕ). asked state show trade (plays.account_home trade address h)) at_home
      ∙ ap (λ (b : Bool). asked state show trade (if b then Some number else None)) is_ours

  shows_so : {X : Type 0} (tells : X → Answer) (show : ℕ → Half → Played) (said : Result X ProviderFault)
      → (show number ledger).answer ≡ told tells said
      → (asked state show trade (plays.account_home trade address (trade.home address))).answer
      ≡ told tells (if up then said else Err faults.Down)
  shows_so tells show said is =
      ap (λ (p : Played). p.answer) (asked_is show)
      ∙ if_answer up (show number ledger) (answers state (Refuses faults.Down))
      ∙ ap (λ (a : Answer). if up then a else Refuses faults.Down) is
      ∙ told_if tells up said (Err faults.Down)

  abbrev rows_said : Result (List BookLine) ProviderFault
  rows_said = if up then Ok (book trade number ledger address) else Err faults.Down

  abbrev lines_said : Result (List ItemLine) ProviderFault
  lines_said = if up then Ok (mailbox_lines ledger address) else Err faults.Down

  book_told : (luck : Luck) → (played trade luck state (Book address)).answer ≡ told lines_shown rows_said
  unfolding played
  book_told luck =
      shows_so lines_shown (λ provider half. answers state (Lines (book trade provider half address)))
      (Ok (book trade number ledger address)) refl

  mailbox_told : (luck : Luck) → (played trade luck state (Mailbox address)).answer ≡ told items_shown lines_said
  unfolding played
  mailbox_told luck =
      shows_so items_shown (λ provider half. answers state (Items (mailbox_lines half address)))
      (Ok (mailbox_lines ledger address)) refl

  -- ---- what it looks at

  abbrev IsOwn : Look → Result Bytes ProviderFault → Type 0
  IsOwn looked seen = (seen ≡ Err faults.NoMemory) ⊎ (seen ≡ shown_to (providers_of kept) share looked)

  own_or : (looked : Look) (seen shown : Result Bytes ProviderFault) → shown ≡ shown_to (providers_of kept) share looked
      → (seen ≡ Err faults.NoMemory) ⊎ (seen ≡ shown) → IsOwn looked seen
  own_or looked seen shown is found = elim found [ inl lack ↦ inl lack | inr same ↦ inr (same ∙ is) ]

  pub book_is : (luck : Luck) (seen : Result Bytes ProviderFault)
      → IsSeen lines_shown (book_text (providers_of kept)) (played trade luck state (Book address)) state seen
      → IsOwn looks.Book seen
  book_is luck seen shows =
      own_or looks.Book seen (seen_as (book_text (providers_of kept)) rows_said)
      (seen_if (book_text (providers_of kept)) up (Ok (book trade number ledger address)) (Err faults.Down))
      (seen_is lines_shown lines_tell (book_text (providers_of kept)) state (played trade luck state (Book address)) rows_said
      (book_told luck) seen shows)

  pub items_is : (luck : Luck) (seen : Result Bytes ProviderFault)
      → IsSeen items_shown (items_text (providers_of kept)) (played trade luck state (Mailbox address)) state seen
      → IsOwn looks.Items seen
  items_is luck seen shows =
      own_or looks.Items seen (seen_as (items_text (providers_of kept)) lines_said)
      (seen_if (items_text (providers_of kept)) up (Ok (mailbox_lines ledger address)) (Err faults.Down))
      (seen_is items_shown items_tell (items_text (providers_of kept)) state (played trade luck state (Mailbox address)) lines_said
      (mailbox_told luck) seen shows)

  -- ---- what it hands in

  module _ (moment : ℕ) (path : Path) (message : Bytes) where
    abbrev said : Result Submitted ProviderFault
    said = said_by (providers_of kept) moment number share.figures share.patterns address path message

    abbrev entry : Entry
    entry = entry_for (providers_of kept) number share.patterns moment address path message

    abbrev done : Submitted
    done = numbered (providers_of kept) number share.patterns share.figures.messages address path message

    by_tests : (account works back few full : Bool) (last : ℕ) (after : List Site) → account ≡ true
        → (if account
        then (if works then (if back then answers state (Refuses (faults.ClockBack last))
        else (if few then (if full then answers state (Refuses faults.JournalFull)
        else (let p : Played = record { answer = Submits done; after = after } in p))
        else answers state (Refuses faults.Full)))
        else answers state (Refuses faults.Down))
        else answers state (Refuses faults.NoAccount)).answer
        ≡ told submitted_shown (if works then (if back then Err (faults.ClockBack last)
        else (if few then (if full then Err faults.JournalFull else Ok done) else Err faults.Full))
        else Err faults.Down)
    by_tests true true true few full last after e = refl
    by_tests true true false true true last after e = refl
    by_tests true true false true false last after e = refl
    by_tests true true false false full last after e = refl
    by_tests true false back few full last after e = refl
    by_tests false works back few full last after e = absurd (cc)

    abbrev handed : Luck → Played
    handed luck = played trade luck state (Submit number moment address path message)

    pub submit_told : (handed (luck_of false)).answer ≡ told submitted_shown said
    unfolding played has_no_room
    submit_told =
        by_tests (trade.is_account number address) up (nat_lt moment ledger.last) (nat_lt (length ledger.messages) MESSAGES)
        (nat_lt longest_journal (ledger.end + size_of entry)) ledger.last
        (plays.with_site state number (plays.with_entry (site_at state number) entry)) is_ours

    submitted_err : (fault : ProviderFault) (after : List Site)
        → (handed (luck_of false) ≡ answers state (Refuses fault)) × (after ≡ state) → Err fault ≡ said
    submitted_err fault after is =
        told_once submitted_shown submitted_tell (Err fault) said
        (sym (ap (λ (p : Played). p.answer) is.0) ∙ submit_told)

    -- what the provider said is what its figures say, but for want of memory and a fault of its disk
    pub submission_is : (after : List Site) (heard : Result Submitted ProviderFault)
        → IsPlayed Submits (λ luck. handed luck) state after heard
        → (heard ≡ said) ⊎ (heard ≡ Err faults.NoMemory) ⊎ (heard ≡ Err faults.DiskFault)
    submission_is after (Ok submitted) is =
        inl (told_once submitted_shown submitted_tell (Ok submitted) said
        (sym (ap (λ (p : Played). p.answer) is) ∙ submit_told))
    submission_is after (Err faults.NoMemory) is = inr (inl refl)
    submission_is after (Err faults.DiskFault) is = inr (inr refl)
    submission_is after (Err faults.Down) is = inl (submitted_err faults.Down after is)
    submission_is after (Err (faults.ClockBack last)) is = inl (submitted_err (faults.ClockBack last) after is)
    submission_is after (Err faults.NoAccount) is = inl (submitted_err faults.NoAccount after is)
    submission_is after (Err faults.Full) is = inl (submitted_err faults.Full after is)
    submission_is after (Err faults.NoItem) is = inl (submitted_err faults.NoItem after is)
    submission_is after (Err faults.JournalFull) is = inl (submitted_err faults.JournalFull after is)
    submission_is after (Err faults.OldJournal) is = inl (submitted_err faults.OldJournal after is)
    submission_is after (Err faults.NoNeed) is = inl (submitted_err faults.NoNeed after is)
    submission_is after (Err (faults.Changed number)) is = inl (submitted_err (faults.Changed number) after is)

    said_refuses : (works back few full : Bool) (last : ℕ)
        → IfErr (if works then (if back then Err (faults.ClockBack last)
        else (if few then (if full then Err faults.JournalFull else Ok done) else Err faults.Full))
        else Err faults.Down) IsSubmitFault
    said_refuses true true few full last = tt
    said_refuses true false true true last = tt
    said_refuses true false true false last = tt
    said_refuses true false false full last = tt
    said_refuses false back few full last = tt

    pub submission_refuses : (after : List Site) (heard : Result Submitted ProviderFault)
        → IsPlayed Submits (λ luck. handed luck) state after heard
        → IfErr heard IsSubmitFault
    submission_refuses after heard is = elim (submission_is after heard is) [
      | inl own ↦ subst (λ (r : Result Submitted ProviderFault). IfErr r IsSubmitFault) (sym own)
          (said_refuses up (nat_lt moment ledger.last) (nat_lt (length ledger.messages) MESSAGES)
          (nat_lt longest_journal (ledger.end + size_of entry)) ledger.last)
      | inr fault ↦ elim fault [
        | inl lack ↦ subst (λ (r : Result Submitted ProviderFault). IfErr r IsSubmitFault) (sym lack) tt
        | inr disk ↦ subst (λ (r : Result Submitted ProviderFault). IfErr r IsSubmitFault) (sym disk) tt
      ]
    ]

  -- ---- what isn't shown

  open_refuses : (works : Bool) (bytes : Bytes) → IfErr (if works then Ok bytes else Err faults.Down) IsLookFault
  open_refuses true bytes = tt
  open_refuses false bytes = tt

  refuses_by : (Fault : ProviderFault → Type 0) (looked : Look) (seen : Result Bytes ProviderFault) → Fault faults.NoMemory
      → IfErr (shown_to (providers_of kept) share looked) Fault → IsOwn looked seen → IfErr seen Fault
  refuses_by Fault looked seen lacks shown own = elim own [
    | inl lack ↦ subst (λ (r : Result Bytes ProviderFault). IfErr r Fault) (sym lack) lacks
    | inr same ↦ subst (λ (r : Result Bytes ProviderFault). IfErr r Fault) (sym same) shown
  ]

  pub book_refuses : (luck : Luck) (seen : Result Bytes ProviderFault)
      → IsSeen lines_shown (book_text (providers_of kept)) (played trade luck state (Book address)) state seen
      → IfErr seen IsLookFault
  book_refuses luck seen shows =
      refuses_by IsLookFault looks.Book seen tt (open_refuses up (book_text (providers_of kept) share.own.rows))
      (book_is luck seen shows)

  pub items_refuse : (luck : Luck) (seen : Result Bytes ProviderFault)
      → IsSeen items_shown (items_text (providers_of kept)) (played trade luck state (Mailbox address)) state seen
      → IfErr seen IsLookFault
  items_refuse luck seen shows =
      refuses_by IsLookFault looks.Items seen tt (open_refuses up (items_text (providers_of kept) share.own.lines))
      (items_is luck seen shows)

-- ---- an address that is no account

module _ (kept : List Kept) (seals : Seals) (state : List Site) (address : Bytes)
    (none : account_home (providers_of kept) address ≡ None) where
  abbrev nobody : Trade
  nobody = trade_of kept seals

  not_there : (number : ℕ) → nobody.is_account number address ≡ false
  unfolding is_account_of
  not_there number = rw none refl

  nowhere : (home : Option ℕ) → plays.account_home nobody address home ≡ None
  nowhere None = refl
  nowhere (Some number) = rw (not_there number) refl

  refused_is : {X : Type 0} (tells : X → Answer) (show : ℕ → Half → Played)
      → (asked state show nobody (plays.account_home nobody address (nobody.home address))).answer
      ≡ told {X = X} tells (Err faults.NoAccount)
  refused_is tells show =
      ap (λ (home : Option ℕ). (asked state show nobody home).answer) (nowhere (nobody.home address))

  abbrev IsNobodys : Result Bytes ProviderFault → Type 0
  IsNobodys seen = (seen ≡ Err faults.NoMemory) ⊎ (seen ≡ Err faults.NoAccount)

  pub book_of_nobody : (luck : Luck) (seen : Result Bytes ProviderFault)
      → IsSeen lines_shown (book_text (providers_of kept)) (played nobody luck state (Book address)) state seen
      → IsNobodys seen
  unfolding played
  book_of_nobody luck seen shows =
      seen_is lines_shown lines_tell (book_text (providers_of kept)) state (played nobody luck state (Book address))
      (Err faults.NoAccount)
      (refused_is lines_shown (λ provider half. answers state (Lines (book nobody provider half address)))) seen shows

  pub items_of_nobody : (luck : Luck) (seen : Result Bytes ProviderFault)
      → IsSeen items_shown (items_text (providers_of kept)) (played nobody luck state (Mailbox address)) state seen
      → IsNobodys seen
  unfolding played
  items_of_nobody luck seen shows =
      seen_is items_shown items_tell (items_text (providers_of kept)) state (played nobody luck state (Mailbox address))
      (Err faults.NoAccount)
      (refused_is items_shown (λ provider half. answers state (Items (mailbox_lines half address)))) seen shows
