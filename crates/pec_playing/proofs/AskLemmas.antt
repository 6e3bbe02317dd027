-- Commands that one provider answers: submissions, clock calls, books and mailboxes.
use Rattle.std.proofs.Common.{◌≡◌, ℕ, ◌<◌, Bool, true, false, List, length, refl, ap, sym, subst, ◌∙◌, Global, Vec, Some}
use Rattle.std.proofs.Common.{Result, Ok, Err}
use Rattle.std.specs.Prelude.{IsErr}
use Rattle.pec_outside.specs.DiskModel.{Sight}
use Rattle.pec_types.specs.Bytes.{Bytes}
use Rattle.pec_types.specs.declared.faults.NoMemory.{NoMemory}
use Rattle.pec_types.specs.declared.mailboxes.ItemLine.{ItemLine}
use Rattle.pec_types.specs.declared.mailboxes.Mark.{Mark}
use Rattle.pec_types.specs.declared.messages.BookLine.{BookLine}
use Rattle.pec_types.specs.declared.turns.ProviderFault.{ProviderFault}
use Rattle.pec_types.specs.declared.turns.ProviderFault.TheVariants as faults
use Rattle.pec_types.specs.declared.turns.Submitted.{Submitted}
use Rattle.pec_directory.specs.Directory.{Provider, providers_of}
use Rattle.pec_ledger.specs.Network.{Site}
use Rattle.pec_ledger.specs.Trade.{Trade}
use Rattle.pec_plays.specs.Commands.{Answer, Book, Command, Items, Lines, Luck, Mailbox, Marks, Played, Refuses}
use Rattle.pec_plays.specs.Commands.{Submit, Submits, Tick, Upgrade, Upgraded, Vault, Vaults, answers, played}
use Rattle.pec_plays.specs.Possible.{MayMeet}
use Rattle.pec_network.specs.OfProviders.{luck_of}
use Rattle.pec_network.specs.Carrying.{AllStand}
use Rattle.pec_network.specs.Changing.{HasRisenAt}
use Rattle.pec_network.specs.Network.{NetworkState, sites}
use Rattle.pec_network.specs.Playing.{IsPlayed, IsShown}
use Rattle.pec_script.specs.Texts.{book_text, fault_text, items_text, marks_text, submitted_text, vault_text}
use Rattle.pec_script.specs.Texts as texts
use Rattle.pec_script.specs.declared.answers.Answer.TheVariants as written_answers
use Rattle.pec_runs.specs.AnswerLines.{answer_text}
use Rattle.pec_runs.specs.Plays.{HasMemory, IsUnchanged, RoseBy, faults_at, faults_by}
use Rattle.pec_runs.specs.Ran.{LeavesOff, Behind}
use Rattle.pec_playing.specs.Doing.{Does, Keeps}
use Rattle.pec_playing.specs.Playing.{IsPlayedSo, counts_in}
use Rattle.pec_playing.specs.Saying.{IsRefusal}
use Rattle.pec_playing.proofs.ChangeLemmas.{book_unchanged, mailbox_unchanged, submit_unchanged, tick_unchanged}
use Rattle.pec_playing.proofs.ChangeLemmas.{upgrade_unchanged, vault_unchanged}
use Rattle.pec_playing.proofs.CountLemmas.{counts_of_refusal, counts_stay}
use Rattle.pec_playing.proofs.KeptLemmas.{keeps_all}
use Rattle.pec_playing.proofs.PlayLemmas.{IsFree, does_say, does_stop, left_so, none_read, played_so}

-- the line of a refusal is that of the answer
pub refusal_line : (providers : List Provider) (fault : ProviderFault) → answer_text providers
    (Refuses fault) ≡ fault_text fault
unfolding answer_text
refusal_line providers fault = refl

-- ---- one command, with the counts of faults that it meets

module _ (Stood : Type 0) (trade : Trade) (state after : List Site) (command : Command)
    (meets : (luck : Luck) → MayMeet trade luck state command)
    (never : (luck : Luck) → IsUnchanged (played trade luck state command).answer)
    (providers : List Provider) (from upto : ℕ → ℕ) where
  abbrev Comes : Bytes → Type 0
  Comes text = IsPlayedSo Stood trade providers state from upto command text after

  abbrev Counts : Answer → Type 0
  Counts answer = (provider : ℕ) → RoseBy (faults_by trade provider command answer) (from provider) (upto provider)

  refuses : (fails : Bool) (fault : ProviderFault) (text : Bytes) → Counts (Refuses fault)
      → played trade (luck_of fails) state command ≡ record { answer = Refuses fault; after = after }
      → text ≡ fault_text fault → Comes text
  refuses fails fault text counts is written =
      played_so Stood trade state command providers from upto (luck_of fails) (Refuses fault) after text is
      (meets (luck_of fails)) tt counts (none_read Stood trade state command fails (never (luck_of fails)))
      (written ∙ sym (refusal_line providers fault))

  unchanged : (fault : ProviderFault) (text : Bytes) → Counts (Refuses fault)
      → played trade (luck_of false) state command ≡ answers state (Refuses fault) → after ≡ state
      → text ≡ fault_text fault → Comes text
  unchanged fault text counts is same written =
      refuses false fault text counts
      (is ∙ ap (λ (s : List Site). (let p : Played = record { answer = Refuses fault; after = s } in p)) (sym same))
      written

  -- a refusal of a command that may change the state
  pub refused_so : {X : Type 0} (tells : X → Answer) (fault : ProviderFault) (text : Bytes) → Counts (Refuses fault)
      → IsPlayed {X = X} tells (λ (luck : Luck). played trade luck state command) state after (Err fault)
      → IsRefusal fault text → Comes text
  refused_so tells faults.DiskFault text counts is written =
      refuses true faults.DiskFault text counts is written
  refused_so tells faults.Down text counts is written =
      unchanged faults.Down text counts is.0 is.1 written
  refused_so tells (faults.ClockBack last) text counts is written =
      unchanged (faults.ClockBack last) text counts is.0 is.1 written
  refused_so tells faults.NoAccount text counts is written =
      unchanged faults.NoAccount text counts is.0 is.1 written
  refused_so tells faults.Full text counts is written =
      unchanged faults.Full text counts is.0 is.1 written
  refused_so tells faults.NoItem text counts is written =
      unchanged faults.NoItem text counts is.0 is.1 written
  refused_so tells faults.JournalFull text counts is written =
      unchanged faults.JournalFull text counts is.0 is.1 written
  refused_so tells faults.OldJournal text counts is written =
      unchanged faults.OldJournal text counts is.0 is.1 written
  refused_so tells faults.NoNeed text counts is written =
      unchanged faults.NoNeed text counts is.0 is.1 written
  refused_so tells (faults.Changed entry) text counts is written =
      unchanged (faults.Changed entry) text counts is.0 is.1 written
  refused_so tells faults.NoMemory text counts is written = absurd written

  -- a refusal of one that shows
  pub unshown_so : {X : Type 0} (tells : X → Answer) (fault : ProviderFault) (text : Bytes) → Counts (Refuses fault)
      → after ≡ state
      → IsShown {X = X} tells (played trade (luck_of false) state command) state (Err fault)
      → IsRefusal fault text → Comes text
  unshown_so tells faults.DiskFault text counts same is written =
      unchanged faults.DiskFault text counts is same written
  unshown_so tells faults.Down text counts same is written =
      unchanged faults.Down text counts is same written
  unshown_so tells (faults.ClockBack last) text counts same is written =
      unchanged (faults.ClockBack last) text counts is same written
  unshown_so tells faults.NoAccount text counts same is written =
      unchanged faults.NoAccount text counts is same written
  unshown_so tells faults.Full text counts same is written =
      unchanged faults.Full text counts is same written
  unshown_so tells faults.NoItem text counts same is written =
      unchanged faults.NoItem text counts is same written
  unshown_so tells faults.JournalFull text counts same is written =
      unchanged faults.JournalFull text counts is same written
  unshown_so tells faults.OldJournal text counts same is written =
      unchanged faults.OldJournal text counts is same written
  unshown_so tells faults.NoNeed text counts same is written =
      unchanged faults.NoNeed text counts is same written
  unshown_so tells (faults.Changed entry) text counts same is written =
      unchanged (faults.Changed entry) text counts is same written
  unshown_so tells faults.NoMemory text counts same is written = absurd written

-- whatever was answered
pub any_left : {X : Type 0} (tells : X → Answer) (trade : Trade) (state after : List Site) (command : Command)
    (outcome : Result X ProviderFault)
    → IsPlayed tells (λ (luck : Luck). played trade luck state command) state after outcome
    → LeavesOff trade state (Some command) after
any_left tells trade state after command (Ok x) is = left_so trade state command (luck_of false) (tells x) after is
any_left tells trade state after command (Err faults.DiskFault) is =
    left_so trade state command (luck_of true) (Refuses faults.DiskFault) after is
any_left tells trade state after command (Err faults.Down) is = Behind is.1
any_left tells trade state after command (Err (faults.ClockBack last)) is = Behind is.1
any_left tells trade state after command (Err faults.NoAccount) is = Behind is.1
any_left tells trade state after command (Err faults.Full) is = Behind is.1
any_left tells trade state after command (Err faults.NoItem) is = Behind is.1
any_left tells trade state after command (Err faults.JournalFull) is = Behind is.1
any_left tells trade state after command (Err faults.OldJournal) is = Behind is.1
any_left tells trade state after command (Err faults.NoNeed) is = Behind is.1
any_left tells trade state after command (Err (faults.Changed entry)) is = Behind is.1
any_left tells trade state after command (Err faults.NoMemory) is = Behind is

-- ---- a command of one provider, which may fail

-- its answers, but refusals, tell no fault of a disk, and of a refusal it is that provider that is asked; and no entry is
-- told as changed
pub record IsOfProvider (trade : Trade) (command : Command) (asked : ℕ) : Type 0 where
  pub meets : (luck : Luck) (state : List Site) → MayMeet trade luck state command
  pub blames : (provider : ℕ) (answer : Answer)
      → faults_by trade provider command answer ≡ faults_at provider asked answer
  pub unchanged : (luck : Luck) (state : List Site) → IsUnchanged (played trade luck state command).answer

-- an answer that isn't a refusal, with the text of its lines
pub record IsTold (answer : Answer) (text_of : List Provider → Bytes) : Type 0 where
  pub memory : HasMemory answer
  pub no_fault : (provider asked : ℕ) → faults_at provider asked answer ≡ 0
  pub text : (providers : List Provider) → answer_text providers answer ≡ text_of providers

module _ {D S : Type 0} (sight : D → Sight) (count : D → ℕ) (disks : Type 0) (trade : Trade) (command : Command)
    (old new : NetworkState D S) (keeps : Keeps sight count disks old new)
    (many : length new.providers ≡ length old.providers) (asked : ℕ) (within : asked < length old.providers)
    (of : IsOfProvider trade command asked) {X : Type 0} (tells : X → Answer) where
  abbrev Stood : Type 0
  Stood = disks × AllStand sight old.providers

  pub call_says : (x : X) (text_of : List Provider → Bytes) → IsTold (tells x) text_of
      → IsPlayed tells (λ (luck : Luck). played trade luck (sites old) command) (sites old) (sites new) (Ok x)
      → (text : Vec ℕ Global) → text.items ≡ text_of (providers_of old.kept)
      → Does sight count disks trade command old new (Ok text)
  call_says x text_of told is text written =
      does_say sight count disks trade command old new keeps text (λ elsewhere.
      played_so Stood trade (sites old) command (providers_of old.kept) (counts_in count old.providers elsewhere)
      (counts_in count new.providers elsewhere) (luck_of false) (tells x) (sites new) text.items is
      (of.meets (luck_of false) (sites old)) told.memory
      (λ provider. counts_stay count old.providers new.providers many elsewhere keeps.later provider
      (faults_by trade provider command (tells x)) (of.blames provider (tells x) ∙ told.no_fault provider asked))
      (none_read Stood trade (sites old) command false (of.unchanged (luck_of false) (sites old)))
      (written ∙ sym (told.text (providers_of old.kept))))

  pub call_refuses : (fault : ProviderFault) →
      (fault ≡ faults.DiskFault → HasRisenAt count asked old.providers new.providers)
      → IsPlayed {X = X} tells (λ (luck : Luck). played trade luck (sites old) command) (sites old) (sites new)
      (Err fault)
      → (text : Vec ℕ Global) → IsRefusal fault text.items
      → Does sight count disks trade command old new (Ok text)
  call_refuses fault rose is text written =
      does_say sight count disks trade command old new keeps text (λ elsewhere.
      refused_so Stood trade (sites old) (sites new) command (λ luck. of.meets luck (sites old))
      (λ luck. of.unchanged luck (sites old)) (providers_of old.kept)
      (counts_in count old.providers elsewhere) (counts_in count new.providers elsewhere) tells fault text.items
      (λ provider. subst (λ (n : ℕ). RoseBy n (counts_in count old.providers elsewhere provider)
      (counts_in count new.providers elsewhere provider))
      (sym (of.blames provider (Refuses fault)))
      (counts_of_refusal count old.providers new.providers many elsewhere keeps.later asked within fault rose provider))
      is written)

  pub call_stops : (outcome : Result X ProviderFault)
      → IsPlayed tells (λ (luck : Luck). played trade luck (sites old) command) (sites old) (sites new) outcome
      → (result : Result (Vec ℕ Global) NoMemory) → IsErr result → Does sight count disks trade command old new result
  call_stops outcome is result failed =
      does_stop sight count disks trade command old new keeps result failed
      (any_left tells trade (sites old) (sites new) command outcome is)

pub submit_of : (trade : Trade) (asked moment : ℕ) (sender : Bytes) (path : List Bytes) (message : Bytes)
    → IsOfProvider trade (Submit asked moment sender path message) asked
submit_of trade asked moment sender path message = record {
  meets = λ luck state. tt;
  blames = λ provider answer. refl;
  unchanged = λ luck state. submit_unchanged trade luck state asked moment sender path message;
}

pub tick_of : (trade : Trade) (asked moment : ℕ) → IsOfProvider trade (Tick asked moment) asked
tick_of trade asked moment = record {
  meets = λ luck state. tt;
  blames = λ provider answer. refl;
  unchanged = λ luck state. tick_unchanged trade luck state asked moment;
}

pub upgrade_of : (trade : Trade) (asked moment : ℕ) → IsOfProvider trade (Upgrade asked moment) asked
upgrade_of trade asked moment = record {
  meets = λ luck state. tt;
  blames = λ provider answer. refl;
  unchanged = λ luck state. upgrade_unchanged trade luck state asked moment;
}

pub upgraded_told : IsTold Upgraded (λ providers. texts.answer_text written_answers.Upgraded)
unfolding answer_text
upgraded_told = record { memory = tt; no_fault = λ provider asked. refl; text = λ providers. refl }

pub submitted_told : (submitted : Submitted) → IsTold (Submits submitted)
    (λ providers. submitted_text providers submitted)
unfolding answer_text
submitted_told submitted = record { memory = tt; no_fault = λ provider asked. refl; text = λ providers. refl }

pub marks_told : (marks : List Mark) → IsTold (Marks marks) (λ providers. marks_text providers marks)
unfolding answer_text
marks_told marks = record { memory = tt; no_fault = λ provider asked. refl; text = λ providers. refl }

-- ---- what accounts ask for

module _ {D S : Type 0} (sight : D → Sight) (count : D → ℕ) (disks : Type 0) (trade : Trade) (command : Command)
    (network : NetworkState D S) (of : IsFree trade command) {X : Type 0} (tells : X → Answer) where
  abbrev StoodHere : Type 0
  StoodHere = disks × AllStand sight network.providers

  no_counts : (elsewhere : ℕ → ℕ) (answer : Answer) (provider : ℕ)
      → RoseBy (faults_by trade provider command answer) (counts_in count network.providers elsewhere provider)
      (counts_in count network.providers elsewhere provider)
  no_counts elsewhere answer provider =
      counts_stay count network.providers network.providers refl elsewhere (keeps_all sight count disks network).later
      provider
      (faults_by trade provider command answer) (of.blames provider answer)

  pub ask_says : (x : X) (text_of : List Provider → Bytes) → IsTold (tells x) text_of
      → IsShown tells (played trade (luck_of false) (sites network) command) (sites network) (Ok x)
      → (text : Vec ℕ Global) → text.items ≡ text_of (providers_of network.kept)
      → Does sight count disks trade command network network (Ok text)
  ask_says x text_of told is text written =
      does_say sight count disks trade command network network (keeps_all sight count disks network) text (λ elsewhere.
      played_so StoodHere trade (sites network) command (providers_of network.kept)
      (counts_in count network.providers elsewhere)
      (counts_in count network.providers elsewhere) (luck_of false) (tells x) (sites network) text.items is
      (of.meets (luck_of false) (sites network)) told.memory (no_counts elsewhere (tells x))
      (none_read StoodHere trade (sites network) command false (of.unchanged (luck_of false) (sites network)))
      (written ∙ sym (told.text (providers_of network.kept))))

  pub ask_refuses : (fault : ProviderFault)
      → IsShown {X = X} tells (played trade (luck_of false) (sites network) command) (sites network) (Err fault)
      → (text : Vec ℕ Global) → IsRefusal fault text.items
      → Does sight count disks trade command network network (Ok text)
  ask_refuses fault is text written =
      does_say sight count disks trade command network network (keeps_all sight count disks network) text (λ elsewhere.
      unshown_so StoodHere trade (sites network) (sites network) command (λ luck. of.meets luck (sites network))
      (λ luck. of.unchanged luck (sites network)) (providers_of network.kept)
      (counts_in count network.providers elsewhere) (counts_in count network.providers elsewhere) tells fault text.items
      (no_counts elsewhere (Refuses fault)) refl is written)

  pub ask_stops : (result : Result (Vec ℕ Global) NoMemory) → IsErr result
      → Does sight count disks trade command network network result
  ask_stops result failed =
      does_stop sight count disks trade command network network (keeps_all sight count disks network) result failed
      (Behind refl)

pub book_asked : (trade : Trade) (address : Bytes) → IsFree trade (Book address)
book_asked trade address = record {
  meets = λ luck state. tt;
  blames = λ provider answer. refl;
  unchanged = λ luck state. book_unchanged trade luck state address;
}

pub mailbox_asked : (trade : Trade) (address : Bytes) → IsFree trade (Mailbox address)
mailbox_asked trade address = record {
  meets = λ luck state. tt;
  blames = λ provider answer. refl;
  unchanged = λ luck state. mailbox_unchanged trade luck state address;
}

pub vault_asked : (trade : Trade) (address : Bytes) → IsFree trade (Vault address)
vault_asked trade address = record {
  meets = λ luck state. tt;
  blames = λ provider answer. refl;
  unchanged = λ luck state. vault_unchanged trade luck state address;
}

pub vaults_told : (lines : List ItemLine) → IsTold (Vaults lines) (λ providers. vault_text providers lines)
unfolding answer_text
vaults_told lines = record { memory = tt; no_fault = λ provider asked. refl; text = λ providers. refl }

pub lines_told : (lines : List BookLine) → IsTold (Lines lines) (λ providers. book_text providers lines)
unfolding answer_text
lines_told lines = record { memory = tt; no_fault = λ provider asked. refl; text = λ providers. refl }

pub items_told : (lines : List ItemLine) → IsTold (Items lines) (λ providers. items_text providers lines)
unfolding answer_text
items_told lines = record { memory = tt; no_fault = λ provider asked. refl; text = λ providers. refl }
