-- What a provider says to a submission of its account, and to a look at an item, is what the account's share says,
-- unless the disk fails, or, of an item, gives back another entry. Each declaration here is a law.
use Rattle.std.proofs.Common.{◌≡◌, ◌≢◌, inl, inr, ℕ, ◌+◌, ◌==◌, Bool, true, false, List, length, refl, ap, sym, ◌∙◌, subst, Option, Some, None, Result, Ok, Err}
use Rattle.std.specs.Prelude.{◌⊎◌, IfSome, if◌then◌else◌, nat_lt, slice_get}
use Rattle.std.specs.Option.{option_and_then, option_map, unwrap_or}
use Rattle.std.proofs.lemmas.Bool.{eq-eqb}
use Rattle.std.proofs.lemmas.Option.{none-some, slice_get-map}
use Rattle.pec_types.specs.Bytes.{Bytes, Path}
use Rattle.pec_types.specs.declared.messages.TheConstants.{MESSAGES}
use Rattle.pec_types.specs.declared.turns.ProviderFault.{ProviderFault}
use Rattle.pec_types.specs.declared.turns.ProviderFault.TheVariants as faults
use Rattle.pec_types.specs.declared.turns.Submitted.{Submitted}
use Rattle.pec_directory.specs.Directory.{Kept, account_home, is_account_of, is_number, providers_of}
use Rattle.pec_records.specs.declared.entries.Entry.{Entry}
use Rattle.pec_screen.specs.Verdicts.{Patterns}
use Rattle.pec_seal.specs.Seals.{Seals}
use Rattle.pec_ledger.specs.Half.{Half, Posted}
use Rattle.pec_ledger.specs.Items.{item_text}
use Rattle.pec_ledger.specs.Lookups.{mailbox}
use Rattle.pec_ledger.specs.Network.{Site, journal_at, site_at}
use Rattle.pec_ledger.specs.Steps.{half, size_of}
use Rattle.pec_ledger.specs.Trade.{Trade}
use Rattle.pec_plays.specs.Commands.{Answer, Luck, Played, Refuses, Show, Submit, Submits, answers, appended, asked, played, read_back, shown, shown_bytes}
use Rattle.pec_plays.specs.Commands as plays
use Rattle.pec_plays.specs.Possible.{IsOfRead}
use Rattle.pec_plays.specs.Steps.{has_no_room, longest_journal}
use Rattle.pec_http.specs.declared.demands.Look.TheVariants as looks
use Rattle.pec_runs.specs.OfTrades.{trade_of}
use Rattle.pec_runs.specs.Plays.{ShowsItsOwn, is_change}
use Rattle.pec_service.specs.Connections.{said_in, seen_in}
use Rattle.pec_service.specs.Own.{Share, entry_for, numbered, said_by, share_at, shown_with, text_or_none}

same_number : (n : ℕ) → (n == n) ≡ true
same_number n = eq-eqb n n refl

-- an answer says this, or tells the fault of a disk
abbrev pub Says : Result Submitted ProviderFault → Answer → Type 0
Says said answer = (said_in answer ≡ said) ⊎ (answer ≡ Refuses faults.DiskFault)

module _ (kept : List Kept) (seals : Seals) (state : List Site) (address : Bytes)
    (number : ℕ) (home : account_home (providers_of kept) address ≡ Some number) (moment : ℕ) (path : Path)
    (message : Bytes) (luck : Luck) where
  abbrev trade : Trade
  trade = trade_of kept seals

  abbrev ledger : Half
  ledger = half trade number (journal_at state number)

  abbrev patterns : List Patterns
  patterns = (site_at state number).screens

  abbrev share : Share
  share = share_at trade state address number

  is_ours : trade.is_account number address ≡ true
  unfolding is_account_of
  is_ours = ap (is_number number) home ∙ same_number number

  abbrev said : Result Submitted ProviderFault
  said = said_by (providers_of kept) moment number share.figures patterns address path message

  abbrev entry : Entry
  entry = entry_for (providers_of kept) number patterns moment address path message

  abbrev done : Submitted
  done = numbered (providers_of kept) number patterns share.figures.messages address path message

  by_tests : (account works back few full fails : Bool) (last : ℕ) → account ≡ true
      → Says (if works then (if back then Err (faults.ClockBack last)
      else (if few then (if full then Err faults.JournalFull else Ok done) else Err faults.Full))
      else Err faults.Down)
      (if account
      then (if works then (if back then answers state (Refuses (faults.ClockBack last))
      else (if few then (if full then answers state (Refuses faults.JournalFull)
      else appended fails state number entry (Submits done))
      else answers state (Refuses faults.Full)))
      else answers state (Refuses faults.Down))
      else answers state (Refuses faults.NoAccount)).answer
  by_tests true true true few full fails last e = inl refl
  by_tests true true false true true fails last e = inl refl
  by_tests true true false true false true last e = inr refl
  by_tests true true false true false false last e = inl refl
  by_tests true true false false full fails last e = inl refl
  by_tests true false back few full fails last e = inl refl
  by_tests false works back few full fails last e = absurd (cc)

  pub submission_is : Says said (played trade luck state (Submit number moment address path message)).answer
  unfolding played has_no_room
  submission_is =
      by_tests (trade.is_account number address) (site_at state number).up (nat_lt moment ledger.last)
      (nat_lt (length ledger.messages) MESSAGES) (nat_lt longest_journal (ledger.end + size_of entry)) luck.fails
      ledger.last is_ours

-- ---- looks at items

-- the refusal that an answer is
abbrev refusal_in : Answer → ProviderFault
refusal_in (Refuses fault) = fault
refusal_in _ = faults.NoMemory

refusal_is : (one other : ProviderFault) → Refuses one ≡ Refuses other → other ≡ one
refusal_is one other e = ap refusal_in (sym e)

-- an answer shows this, or refuses so, or tells the fault of a disk, or an entry that changed
abbrev pub ShowsSo : Result Bytes ProviderFault → Answer → Type 0
ShowsSo said answer =
    (seen_in answer ≡ said) ⊎ (answer ≡ Refuses faults.DiskFault)
    ⊎ ((fault : ProviderFault) × (is_change (Some fault) ≡ true) × (answer ≡ Refuses fault))

home_found : (found : Bool) (home : Option ℕ) (number : ℕ) → (if found then home else None) ≡ Some number
    → home ≡ Some number
home_found true home number e = e
home_found false home number e = absurd (none-some number e)

module _ (kept : List Kept) (seals : Seals) (address : Bytes) where
  -- the account's provider, as a command finds it
  pub home_is : (number : ℕ) → account_home (providers_of kept) address ≡ Some number
      → plays.account_home (trade_of kept seals) address ((trade_of kept seals).home address) ≡ Some number
  unfolding account_home is_account_of
  home_is number home =
      ap (λ (h : Option ℕ). plays.account_home (trade_of kept seals) address h) (home_found _ _ number home)
      ∙ ap (λ (b : Bool). if b then Some number else None) (ap (is_number number) home ∙ same_number number)

  pub no_home : account_home (providers_of kept) address ≡ None
      → plays.account_home (trade_of kept seals) address ((trade_of kept seals).home address) ≡ None
  unfolding is_account_of
  no_home none = by_home ((trade_of kept seals).home address)
    where
      by_home : (home : Option ℕ) → plays.account_home (trade_of kept seals) address home ≡ None
      by_home None = refl
      by_home (Some number) = ap (λ (b : Bool). if b then Some number else None) (ap (is_number number) none)

module _ (kept : List Kept) (seals : Seals) (state : List Site) (address : Bytes)
    (place : ℕ) (luck : Luck) (own : ShowsItsOwn luck) (may : IfSome luck.read IsOfRead) where
  abbrev look_said : Result Bytes ProviderFault
  look_said = shown_with (providers_of kept)
      (option_map (share_at (trade_of kept seals) state address) (account_home (providers_of kept) address))
      (looks.Item place)

  abbrev look_with : ℕ → Half → Played
  look_with number half = shown (trade_of kept seals) luck state number (slice_get (mailbox half address) place)

  read_so : (number : ℕ) (bytes : Bytes) (read : Option ProviderFault) → IfSome read IsOfRead
      → ShowsSo (Ok bytes) (read_back read bytes state number).answer
  read_so number bytes None of = inl refl
  read_so number bytes (Some faults.DiskFault) of = inr (inl refl)
  read_so number bytes (Some faults.NoMemory) of = absurd of
  read_so number bytes (Some faults.Down) of = absurd of
  read_so number bytes (Some (faults.ClockBack last)) of = absurd of
  read_so number bytes (Some faults.NoAccount) of = absurd of
  read_so number bytes (Some faults.Full) of = absurd of
  read_so number bytes (Some faults.NoItem) of = absurd of
  read_so number bytes (Some faults.JournalFull) of = absurd of
  read_so number bytes (Some (faults.Changed entry)) of = inr (inr (faults.Changed entry, refl, refl))
  read_so number bytes (Some faults.OldJournal) of = absurd of
  read_so number bytes (Some faults.NoNeed) of = absurd of

  bytes_so : (number : ℕ) (text : Option Bytes)
      → ShowsSo (text_or_none text) (shown_bytes luck state number text).answer
  bytes_so number None = inl refl
  bytes_so number (Some bytes) =
      subst (λ (s : Option Bytes). ShowsSo (Ok bytes) (read_back luck.read (unwrap_or s bytes) state number).answer)
      (sym own) (read_so number bytes luck.read may)

  posted_so : (number : ℕ) (posted : Option Posted)
      → ShowsSo
      (text_or_none (option_and_then (item_text (trade_of kept seals) number (journal_at state number)) posted))
      (shown (trade_of kept seals) luck state number posted).answer
  posted_so number None = inl refl
  posted_so number (Some posted) =
      bytes_so number (item_text (trade_of kept seals) number (journal_at state number) posted)

  module _ (number : ℕ) where
    abbrev entries : List Entry
    entries = journal_at state number

    abbrev kept_half : Half
    kept_half = half (trade_of kept seals) number entries

    through : (posted : Option Posted) → option_and_then (λ (text : Option Bytes). text)
        (option_map (λ (one : Posted). item_text (trade_of kept seals) number entries one) posted)
        ≡ option_and_then (item_text (trade_of kept seals) number entries) posted
    through None = refl
    through (Some posted) = refl

    text_at : option_and_then (λ (text : Option Bytes). text)
        (slice_get (share_at (trade_of kept seals) state address number).own.texts place)
        ≡ option_and_then (item_text (trade_of kept seals) number entries) (slice_get (mailbox kept_half address) place)
    text_at =
        ap (λ (o : Option (Option Bytes)). option_and_then (λ (text : Option Bytes). text) o)
        (slice_get-map (λ (posted : Posted). item_text (trade_of kept seals) number entries posted)
        (mailbox kept_half address) place)
        ∙ through (slice_get (mailbox kept_half address) place)

    by_up : (up : Bool)
        → ShowsSo (if up then text_or_none (option_and_then (λ (text : Option Bytes). text)
        (slice_get (share_at (trade_of kept seals) state address number).own.texts place)) else Err faults.Down)
        (if up then look_with number kept_half else answers state (Refuses faults.Down)).answer
    by_up true =
        subst (λ (text : Option Bytes). ShowsSo (text_or_none text) (look_with number kept_half).answer) (sym text_at)
        (posted_so number (slice_get (mailbox kept_half address) place))
    by_up false = inl refl

    at_home : account_home (providers_of kept) address ≡ Some number
        → ShowsSo look_said (played (trade_of kept seals) luck state (Show address place)).answer
    unfolding played
    at_home home =
        subst (λ (h : Option ℕ). ShowsSo look_said (asked state look_with (trade_of kept seals) h).answer)
        (sym (home_is kept seals address number home))
        (subst (λ (h : Option ℕ). ShowsSo (shown_with (providers_of kept)
        (option_map (share_at (trade_of kept seals) state address) h) (looks.Item place))
        (asked state look_with (trade_of kept seals) (Some number)).answer) (sym home) (by_up (site_at state number).up))

  nowhere : account_home (providers_of kept) address ≡ None
      → ShowsSo look_said (played (trade_of kept seals) luck state (Show address place)).answer
  unfolding played
  nowhere none =
      subst (λ (h : Option ℕ). ShowsSo look_said (asked state look_with (trade_of kept seals) h).answer)
      (sym (no_home kept seals address none))
      (subst (λ (h : Option ℕ). ShowsSo (shown_with (providers_of kept)
      (option_map (share_at (trade_of kept seals) state address) h) (looks.Item place))
      (Refuses faults.NoAccount)) (sym none) (inl refl))

  pub look_is : ShowsSo look_said (played (trade_of kept seals) luck state (Show address place)).answer
  look_is = by_home (account_home (providers_of kept) address) refl
    where
      by_home : (home : Option ℕ) → account_home (providers_of kept) address ≡ home
          → ShowsSo look_said (played (trade_of kept seals) luck state (Show address place)).answer
      by_home None e = nowhere e
      by_home (Some number) e = at_home number e

  -- of whoever has no provider no fault is told
  pub look_home : (fault : ProviderFault)
      → (played (trade_of kept seals) luck state (Show address place)).answer ≡ Refuses fault
      → fault ≢ faults.NoAccount → (number : ℕ) × (account_home (providers_of kept) address ≡ Some number)
  unfolding played
  look_home fault told other = by_home (account_home (providers_of kept) address) refl
    where
      by_home : (home : Option ℕ) → account_home (providers_of kept) address ≡ home
          → (number : ℕ) × (account_home (providers_of kept) address ≡ Some number)
      by_home (Some number) e = (number, e)
      by_home None e = absurd (other (refusal_is faults.NoAccount fault
          (sym (ap (λ (h : Option ℕ). (asked state look_with (trade_of kept seals) h).answer)
          (no_home kept seals address e)) ∙ told)))
