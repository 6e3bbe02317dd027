-- What is asked of the provider of an account: a look at an item, for which an entry is read, which may fail; and an item
-- that is archived.
use Rattle.std.proofs.Common.{◌≡◌, ℕ, ◌<◌, Bool, true, false, inl, inr, List, length, refl, ap, sym, subst, ◌∙◌, arith}
use Rattle.std.proofs.Common.{Global, Vec, Option, None, Some, Result, Ok, Err}
use Rattle.std.specs.Prelude.{IfSome, IsErr, if◌then◌else◌, slice_get}
use Rattle.std.specs.Option.{unwrap_or}
use Rattle.std.proofs.lemmas.Bool.{cases_lt}
use Rattle.std.proofs.Math.ListN.{get_or-eq_default}
use Rattle.pec_types.specs.Bytes.{Bytes}
use Rattle.pec_types.specs.declared.faults.NoMemory.{NoMemory}
use Rattle.pec_types.specs.declared.turns.ProviderFault.{ProviderFault}
use Rattle.pec_types.specs.declared.turns.ProviderFault.TheVariants as faults
use Rattle.pec_outside.specs.DiskModel.{Sight}
use Rattle.pec_directory.specs.Directory.{Provider, providers_of}
use Rattle.pec_ledger.specs.Half.{Half}
use Rattle.pec_ledger.specs.Lookups.{archive, mailbox}
use Rattle.pec_ledger.specs.Network.{Site, empty_site, is_up, journal_at, site_at}
use Rattle.pec_ledger.specs.Steps.{half}
use Rattle.pec_ledger.specs.Trade.{Trade}
use Rattle.pec_plays.specs.Commands.{Answer, Archive, Archived, Command, Luck, Played, Refuses, Show, Shown, VaultShow, account_home, answers, archived}
use Rattle.pec_plays.specs.Commands.{asked, played, shown}
use Rattle.pec_plays.specs.Possible.{IsOfRead, MayMeet}
use Rattle.pec_seal.specs.Seals.{Seals}
use Rattle.pec_network.specs.Carrying.{AllStand}
use Rattle.pec_network.specs.Changing.{HasRisenAt}
use Rattle.pec_network.specs.Network.{NetworkState, sites, world_of}
use Rattle.pec_network.specs.OfProviders.{luck_of}
use Rattle.pec_network.specs.Playing.{IsPlayed, IsReadOver, luck_of_read}
use Rattle.pec_script.specs.Texts.{fault_text, item_text}
use Rattle.pec_script.specs.Texts as texts
use Rattle.pec_script.specs.declared.answers.Answer.TheVariants as lines
use Rattle.pec_runs.specs.AnswerLines.{answer_text}
use Rattle.pec_runs.specs.Plays.{HasMemory, IsUnchanged, RoseBy, faults_at, faults_at_home, faults_by}
use Rattle.pec_runs.specs.Ran.{Behind, LeavesOff}
use Rattle.pec_playing.specs.Doing.{Does, Keeps}
use Rattle.pec_playing.specs.Playing.{counts_in}
use Rattle.pec_playing.specs.Saying.{IsRefusal}
use Rattle.pec_playing.proofs.AskLemmas.{any_left, refusal_line, refused_so}
use Rattle.pec_playing.proofs.CountLemmas.{counts_of_refusal, counts_stay}
use Rattle.pec_playing.proofs.PlayLemmas.{does_say, does_stop, left_so, none_read, played_so}
use Rattle.pec_playing.proofs.RoundLemmas.{sites_count}

archived_line : (providers : List Provider) → answer_text providers Archived ≡ texts.answer_text lines.Archived
unfolding answer_text
archived_line providers = refl

shown_line : (providers : List Provider) (bytes : Bytes) → answer_text providers (Shown bytes) ≡ item_text bytes
unfolding answer_text
shown_line providers bytes = refl

-- ---- who is asked

-- where it is up it is one of the providers
up_within : (state : List Site) (number : ℕ) → is_up state number ≡ true → number < length state
up_within state number up = elim (cases_lt number (length state)) [
  | inl below ↦ below
  | inr past ↦
      let gone : site_at state number ≡ empty_site = get_or-eq_default state empty_site past in
      let down : is_up state number ≡ false = ap (λ (site : Site). site.up) gone in
      absurd cc
]

up_by : (state : List Site) (up : Bool) (done : Played)
    → (if up then done else answers state (Refuses faults.Down)).answer ≡ Refuses faults.DiskFault → up ≡ true
up_by state true done told = refl
up_by state false done told = absurd cc

-- it is up where a fault of its disk is told
asked_is_up : (trade : Trade) (state : List Site) (address : Bytes) (look : ℕ → Half → Played) (number : ℕ)
    → account_home trade address (trade.home address) ≡ Some number
    → (asked state look trade (account_home trade address (trade.home address))).answer ≡ Refuses faults.DiskFault
    → is_up state number ≡ true
asked_is_up trade state address look number home told =
    up_by state (is_up state number) (look number (half trade number (journal_at state number)))
    (subst (λ (found : Option ℕ). (asked state look trade found).answer ≡ Refuses faults.DiskFault) home told)

archived_is_up : (trade : Trade) (luck : Luck) (state : List Site) (address : Bytes) (moment place number : ℕ)
    → account_home trade address (trade.home address) ≡ Some number
    → (archived trade luck state (account_home trade address (trade.home address)) moment address place).answer
    ≡ Refuses faults.DiskFault
    → is_up state number ≡ true
archived_is_up trade luck state address moment place number home told =
    up_by state (is_up state number) _
    (subst (λ (found : Option ℕ). (archived trade luck state found moment address place).answer ≡ Refuses faults.DiskFault)
    home told)

-- A command is asked of the provider of an account: it meets each luck whose read fails as reads do, a fault of a disk
-- that is told is of that provider's, and it is told only where the provider is up.
pub record IsAtHome (trade : Trade) (command : Command) (address : Bytes) : Type 0 where
  pub meets : (luck : Luck) (state : List Site) → IfSome luck.read IsOfRead → MayMeet trade luck state command
  pub blames : (number : ℕ) (answer : Answer)
      → faults_by trade number command answer
      ≡ faults_at_home number (account_home trade address (trade.home address)) answer
  pub is_up : (luck : Luck) (state : List Site) (number : ℕ)
      → account_home trade address (trade.home address) ≡ Some number
      → (played trade luck state command).answer ≡ Refuses faults.DiskFault → is_up state number ≡ true

pub show_at_home : (trade : Trade) (address : Bytes) (place : ℕ) → IsAtHome trade (Show address place) address
unfolding played
show_at_home trade address place = record {
  meets = λ luck state of. of;
  blames = λ number answer. refl;
  is_up = λ luck state number home told.
      asked_is_up trade state address
      (λ (provider : ℕ) (half : Half). shown trade luck state provider (slice_get (mailbox half address) place)) number home
      told;
}

pub vault_at_home : (trade : Trade) (address : Bytes) (place : ℕ) → IsAtHome trade (VaultShow address place) address
unfolding played
vault_at_home trade address place = record {
  meets = λ luck state of. of;
  blames = λ number answer. refl;
  is_up = λ luck state number home told.
      asked_is_up trade state address
      (λ (provider : ℕ) (half : Half). shown trade luck state provider (slice_get (archive half address) place)) number home
      told;
}

pub archive_at_home : (trade : Trade) (address : Bytes) (moment place : ℕ)
    → IsAtHome trade (Archive address moment place) address
unfolding played
archive_at_home trade address moment place = record {
  meets = λ luck state of. tt;
  blames = λ number answer. refl;
  is_up = λ luck state number home told. archived_is_up trade luck state address moment place number home told;
}

home_by : (account : Bool) (provider number : ℕ) → (if account then Some provider else None) ≡ Some number
    → provider ≡ number
home_by true provider number e = cc
home_by false provider number e = absurd cc

-- the provider of an account is where its address is at home
its_home : (trade : Trade) (address : Bytes) (home : Option ℕ) (number : ℕ)
    → account_home trade address home ≡ Some number → unwrap_or home 0 ≡ number
its_home trade address None number e = absurd cc
its_home trade address (Some provider) number e = home_by (trade.is_account provider address) provider number e

-- ---- faults that are told

none_at_home : (number : ℕ) (home : Option ℕ) (answer : Answer)
    → ((asked : ℕ) → faults_at number asked answer ≡ 0) → faults_at_home number home answer ≡ 0
none_at_home number None answer none = refl
none_at_home number (Some asked) answer none = none asked

-- ---- a look

module _ {D S : Type 0} (sight : D → Sight) (count : D → ℕ) (disks : Type 0) (seals : S → Seals)
    (command : Command) (address : Bytes) (old new : NetworkState D S) (of : IsAtHome (world_of seals old) command address)
    (keeps : Keeps sight count disks old new) where
  abbrev trade : Trade
  trade = world_of seals old

  abbrev Stood : Type 0
  Stood = disks × AllStand sight old.providers

  abbrev Looks : Result (Vec ℕ Global) ProviderFault → Type 0
  Looks outcome =
      IsReadOver Stood seals (λ (bytes : Vec ℕ Global). Shown bytes.items) command old new outcome

  abbrev Done : Result (Vec ℕ Global) NoMemory → Type 0
  Done result = Does sight count disks trade command old new result

  abbrev Counts : (ℕ → ℕ) → Answer → Type 0
  Counts elsewhere answer =
      (number : ℕ) → RoseBy (faults_by trade number command answer)
      (counts_in count old.providers elsewhere number) (counts_in count new.providers elsewhere number)

  abbrev PlaysTo : Luck → Answer → Type 0
  PlaysTo luck answer =
      played trade luck (sites old) command ≡ record { answer = answer; after = sites new }

  no_counts : (answer : Answer) → ((number asked : ℕ) → faults_at number asked answer ≡ 0) → (elsewhere : ℕ → ℕ)
      → Counts elsewhere answer
  no_counts answer none elsewhere number =
      counts_stay count old.providers new.providers keeps.many elsewhere keeps.later number
      (faults_by trade number command answer)
      (of.blames number answer
      ∙ none_at_home number (account_home trade address (trade.home address)) answer (none number))

  counts_at : (luck : Luck) → PlaysTo luck (Refuses faults.DiskFault)
      → HasRisenAt count (unwrap_or (trade.home address) 0) old.providers new.providers → (elsewhere : ℕ → ℕ)
      → (number : ℕ) (home : Option ℕ) → account_home trade address (trade.home address) ≡ home
      → RoseBy (faults_at_home number home (Refuses faults.DiskFault))
      (counts_in count old.providers elsewhere number) (counts_in count new.providers elsewhere number)
  counts_at luck is rose elsewhere number None none =
      counts_stay count old.providers new.providers keeps.many elsewhere keeps.later number 0 refl
  counts_at luck is rose elsewhere number (Some asked) home =
      let up = of.is_up luck (sites old) asked home (ap (λ (p : Played). p.answer) is) in
      let within : asked < length old.providers =
      omega (arith, up_within (sites old) asked up, sites_count old.providers old.screens old.waiting) in
      counts_of_refusal count old.providers new.providers keeps.many elsewhere keeps.later asked within faults.DiskFault
      (λ e. subst (λ (n : ℕ). HasRisenAt count n old.providers new.providers)
      (its_home trade address (trade.home address) asked home) rose) number

  -- it was played so, and told so
  says : (read : Option ProviderFault) (outcome : Result (Vec ℕ Global) ProviderFault) (is : Looks outcome)
      (answer : Answer) (line : Bytes) → PlaysTo (luck_of_read read is.shown) answer
      → MayMeet trade (luck_of_read read is.shown) (sites old) command → HasMemory answer
      → ((elsewhere : ℕ → ℕ) → Counts elsewhere answer) → (Stood → IsUnchanged answer)
      → answer_text (providers_of old.kept) answer ≡ line
      → (text : Vec ℕ Global) → text.items ≡ line → Done (Ok text)
  says read outcome is answer line plays meet memory counts unchanged its text written =
      does_say sight count disks trade command old new keeps text (λ elsewhere.
      played_so Stood trade (sites old) command (providers_of old.kept)
      (counts_in count old.providers elsewhere) (counts_in count new.providers elsewhere)
      (luck_of_read read is.shown) answer (sites new) text.items plays meet memory (counts elsewhere)
      (record {
        kept = λ stood provider. tt;
        shown = is.kept;
        unchanged = λ stood world sound. subst (λ (p : Played). IsUnchanged p.answer) (sym plays) (unchanged stood);
      })
      (written ∙ sym its))

  stays : (luck : Luck) (answer : Answer)
      → played trade luck (sites old) command ≡ answers (sites old) answer → sites new ≡ sites old
      → PlaysTo luck answer
  stays luck answer is same =
      is ∙ ap (λ (s : List Site). (let p : Played = record { answer = answer; after = s } in p)) (sym same)

  pub look_says : (bytes : Vec ℕ Global) → Looks (Ok bytes) → (text : Vec ℕ Global)
      → text.items ≡ item_text bytes.items → Done (Ok text)
  look_says bytes is text written =
      says None (Ok bytes) is (Shown bytes.items) (item_text bytes.items)
      (stays (luck_of_read None is.shown) (Shown bytes.items) is.is.0 is.is.1)
      (of.meets (luck_of_read None is.shown) (sites old) tt) tt
      (no_counts (Shown bytes.items) (λ number asked. refl)) (λ stood. tt)
      (shown_line (providers_of old.kept) bytes.items) text written

  -- a refusal by which nothing was read
  refuses : (fault : ProviderFault) (is : Looks (Err fault))
      → played trade (luck_of_read None is.shown) (sites old) command ≡ answers (sites old) (Refuses fault)
      → sites new ≡ sites old → ((number asked : ℕ) → faults_at number asked (Refuses fault) ≡ 0)
      → IsUnchanged (Refuses fault) → (text : Vec ℕ Global) → text.items ≡ fault_text fault → Done (Ok text)
  refuses fault is plays same none unchanged text written =
      says None (Err fault) is (Refuses fault) (fault_text fault)
      (stays (luck_of_read None is.shown) (Refuses fault) plays same)
      (of.meets (luck_of_read None is.shown) (sites old) tt) tt (no_counts (Refuses fault) none)
      (λ stood. unchanged) (refusal_line (providers_of old.kept) fault) text written

  pub look_refuses : (fault : ProviderFault) → Looks (Err fault)
      → (fault ≡ faults.DiskFault
      → HasRisenAt count (unwrap_or (trade.home address) 0) old.providers new.providers)
      → (text : Vec ℕ Global) → IsRefusal fault text.items → Done (Ok text)
  look_refuses faults.DiskFault is rose text written =
      let luck = luck_of_read (Some faults.DiskFault) is.shown in
      says (Some faults.DiskFault) (Err faults.DiskFault) is (Refuses faults.DiskFault) (fault_text faults.DiskFault)
      is.is (of.meets luck (sites old) tt) tt
      (λ elsewhere number. subst (λ (n : ℕ). RoseBy n (counts_in count old.providers elsewhere number)
      (counts_in count new.providers elsewhere number))
      (sym (of.blames number (Refuses faults.DiskFault)))
      (counts_at luck is.is (rose refl) elsewhere number (account_home trade address (trade.home address)) refl))
      (λ stood. refl) (refusal_line (providers_of old.kept) faults.DiskFault) text written
  look_refuses (faults.Changed entry) is rose text written =
      says (Some (faults.Changed entry)) (Err (faults.Changed entry)) is (Refuses (faults.Changed entry))
      (fault_text (faults.Changed entry)) is.is
      (of.meets (luck_of_read (Some (faults.Changed entry)) is.shown) (sites old) tt) tt
      (no_counts (Refuses (faults.Changed entry)) (λ number asked. refl))
      (λ stood. absurd (is.unchanged stood entry refl))
      (refusal_line (providers_of old.kept) (faults.Changed entry)) text written
  look_refuses faults.Down is rose text written =
      refuses faults.Down is is.is.0 is.is.1 (λ number asked. refl) refl text written
  look_refuses (faults.ClockBack last) is rose text written =
      refuses (faults.ClockBack last) is is.is.0 is.is.1 (λ number asked. refl) refl text written
  look_refuses faults.NoAccount is rose text written =
      refuses faults.NoAccount is is.is.0 is.is.1 (λ number asked. refl) refl text written
  look_refuses faults.Full is rose text written =
      refuses faults.Full is is.is.0 is.is.1 (λ number asked. refl) refl text written
  look_refuses faults.NoItem is rose text written =
      refuses faults.NoItem is is.is.0 is.is.1 (λ number asked. refl) refl text written
  look_refuses faults.JournalFull is rose text written =
      refuses faults.JournalFull is is.is.0 is.is.1 (λ number asked. refl) refl text written
  look_refuses faults.OldJournal is rose text written =
      refuses faults.OldJournal is is.is.0 is.is.1 (λ number asked. refl) refl text written
  look_refuses faults.NoNeed is rose text written =
      refuses faults.NoNeed is is.is.0 is.is.1 (λ number asked. refl) refl text written
  look_refuses faults.NoMemory is rose text written = absurd written

  -- whatever was answered
  left_by : (outcome : Result (Vec ℕ Global) ProviderFault) → Looks outcome
      → LeavesOff trade (sites old) (Some command) (sites new)
  left_by (Ok bytes) is = Behind is.is.1
  left_by (Err faults.DiskFault) is =
      left_so trade (sites old) command (luck_of_read (Some faults.DiskFault) is.shown)
      (Refuses faults.DiskFault) (sites new) is.is
  left_by (Err (faults.Changed entry)) is =
      left_so trade (sites old) command (luck_of_read (Some (faults.Changed entry)) is.shown)
      (Refuses (faults.Changed entry)) (sites new) is.is
  left_by (Err faults.Down) is = Behind is.is.1
  left_by (Err (faults.ClockBack last)) is = Behind is.is.1
  left_by (Err faults.NoAccount) is = Behind is.is.1
  left_by (Err faults.Full) is = Behind is.is.1
  left_by (Err faults.NoItem) is = Behind is.is.1
  left_by (Err faults.JournalFull) is = Behind is.is.1
  left_by (Err faults.OldJournal) is = Behind is.is.1
  left_by (Err faults.NoNeed) is = Behind is.is.1
  left_by (Err faults.NoMemory) is = Behind is.is

  pub look_stops : (outcome : Result (Vec ℕ Global) ProviderFault) → Looks outcome
      → (result : Result (Vec ℕ Global) NoMemory) → IsErr result → Done result
  look_stops outcome is result failed =
      does_stop sight count disks trade command old new keeps result failed (left_by outcome is)

  -- ---- an item that is archived

  abbrev Archives : Result (Unit {0}) ProviderFault → Type 0
  Archives outcome =
      IsPlayed (λ (done : Unit {0}). Archived) (λ (luck : Luck). played trade luck (sites old) command) (sites old)
      (sites new) outcome

  module _ (meets : (luck : Luck) → MayMeet trade luck (sites old) command)
      (never : (luck : Luck) → IsUnchanged (played trade luck (sites old) command).answer) where
    pub archive_says : (x : Unit {0}) → Archives (Ok x) → (text : Vec ℕ Global)
        → text.items ≡ texts.answer_text lines.Archived → Done (Ok text)
    archive_says x is text written =
        does_say sight count disks trade command old new keeps text (λ elsewhere.
        played_so Stood trade (sites old) command (providers_of old.kept) (counts_in count old.providers elsewhere)
        (counts_in count new.providers elsewhere) (luck_of false) Archived (sites new) text.items is
        (meets (luck_of false)) tt (no_counts Archived (λ number asked. refl) elsewhere)
        (none_read Stood trade (sites old) command false (never (luck_of false)))
        (written ∙ sym (archived_line (providers_of old.kept))))

    counts_of : (fault : ProviderFault) → Archives (Err fault)
        → (fault ≡ faults.DiskFault → HasRisenAt count (unwrap_or (trade.home address) 0) old.providers new.providers)
        → (elsewhere : ℕ → ℕ) → Counts elsewhere (Refuses fault)
    counts_of faults.DiskFault is rose elsewhere = λ number.
        subst (λ (n : ℕ). RoseBy n (counts_in count old.providers elsewhere number)
        (counts_in count new.providers elsewhere number)) (sym (of.blames number (Refuses faults.DiskFault)))
        (counts_at (luck_of true) is (rose refl) elsewhere number (account_home trade address (trade.home address)) refl)
    counts_of faults.Down is rose elsewhere = no_counts (Refuses faults.Down) (λ number asked. refl) elsewhere
    counts_of (faults.ClockBack last) is rose elsewhere =
        no_counts (Refuses (faults.ClockBack last)) (λ number asked. refl) elsewhere
    counts_of faults.NoAccount is rose elsewhere = no_counts (Refuses faults.NoAccount) (λ number asked. refl) elsewhere
    counts_of faults.Full is rose elsewhere = no_counts (Refuses faults.Full) (λ number asked. refl) elsewhere
    counts_of faults.NoItem is rose elsewhere = no_counts (Refuses faults.NoItem) (λ number asked. refl) elsewhere
    counts_of faults.JournalFull is rose elsewhere = no_counts (Refuses faults.JournalFull) (λ number asked. refl) elsewhere
    counts_of faults.OldJournal is rose elsewhere = no_counts (Refuses faults.OldJournal) (λ number asked. refl) elsewhere
    counts_of faults.NoNeed is rose elsewhere = no_counts (Refuses faults.NoNeed) (λ number asked. refl) elsewhere
    counts_of (faults.Changed entry) is rose elsewhere =
        no_counts (Refuses (faults.Changed entry)) (λ number asked. refl) elsewhere
    counts_of faults.NoMemory is rose elsewhere = no_counts (Refuses faults.NoMemory) (λ number asked. refl) elsewhere

    pub archive_refuses : (fault : ProviderFault) → Archives (Err fault)
        → (fault ≡ faults.DiskFault → HasRisenAt count (unwrap_or (trade.home address) 0) old.providers new.providers)
        → (text : Vec ℕ Global) → IsRefusal fault text.items → Done (Ok text)
    archive_refuses fault is rose text written =
        does_say sight count disks trade command old new keeps text (λ elsewhere.
        refused_so Stood trade (sites old) (sites new) command
        meets never (providers_of old.kept)
        (counts_in count old.providers elsewhere) (counts_in count new.providers elsewhere)
        (λ (done : Unit {0}). Archived) fault text.items (counts_of fault is rose elsewhere) is written)

    pub archive_stops : (outcome : Result (Unit {0}) ProviderFault) → Archives outcome
        → (result : Result (Vec ℕ Global) NoMemory) → IsErr result → Done result
    archive_stops outcome is result failed =
        does_stop sight count disks trade command old new keeps result failed
        (any_left (λ (done : Unit {0}). Archived) trade (sites old) (sites new) command outcome is)
