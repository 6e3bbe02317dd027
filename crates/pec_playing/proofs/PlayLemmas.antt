-- A command that was played as its definition says: it is told so, and what it leaves.
use Rattle.std.proofs.Common.{◌≡◌, inl, inr, ℕ, Bool, List, refl, ap, sym, subst, ◌∙◌, Global, Vec, Some, Result, Ok, Err}
use Rattle.std.specs.Prelude.{IfOk, IsErr, OnErr}
use Rattle.std.proofs.lemmas.Bool.{false≢true}
use Rattle.pec_outside.specs.DiskModel.{Sight}
use Rattle.pec_types.specs.Bytes.{Bytes}
use Rattle.pec_types.specs.declared.faults.NoMemory.{NoMemory}
use Rattle.pec_directory.specs.Directory.{Provider, providers_of}
use Rattle.pec_ledger.specs.Network.{Site, interrupted_at, journal_at}
use Rattle.pec_ledger.specs.Trade.{Trade}
use Rattle.pec_plays.specs.Commands.{Answer, Command, Luck, Played, played}
use Rattle.pec_plays.specs.Possible.{GaveWhatWasKept, MayMeet}
use Rattle.pec_network.specs.Carrying.{AllStand}
use Rattle.pec_network.specs.Network.{NetworkState, sites}
use Rattle.pec_network.specs.OfProviders.{luck_of}
use Rattle.pec_runs.specs.AnswerLines.{answer_text}
use Rattle.pec_runs.specs.Plays.{HasMemory, IsUnchanged, MayStray, RoseBy, ShowsItsOwn, UnchangedIn, faults_by}
use Rattle.pec_runs.specs.Ran.{LeavesOff, Within}
use Rattle.pec_playing.specs.Doing.{Does, Keeps, Strange}
use Rattle.pec_playing.specs.Playing.{HasPlayed, HasStopped, IsPlayedSo, counts_in}

-- A command meets any luck, no fault of a disk is told of it, and no entry is told as changed.
pub record IsFree (trade : Trade) (command : Command) : Type 0 where
  pub meets : (luck : Luck) (state : List Site) → MayMeet trade luck state command
  pub blames : (provider : ℕ) (answer : Answer) → faults_by trade provider command answer ≡ 0
  pub unchanged : (luck : Luck) (state : List Site) → IsUnchanged (played trade luck state command).answer

-- Where disks gave back what they took, in a command no frame was put and no item shown in place of another, and no
-- entry is told as changed.
pub record GaveBack (Stood : Type 0) (trade : Trade) (state : List Site) (command : Command) (luck : Luck) : Type 0 where
  pub kept : Stood → GaveWhatWasKept luck
  pub shown : Stood → ShowsItsOwn luck
  pub unchanged : Stood → UnchangedIn trade state (played trade luck state command).answer

module _ (Stood : Type 0) (trade : Trade) (state : List Site) (command : Command) where
  -- nothing was read
  pub none_read : (fails : Bool) → IsUnchanged (played trade (luck_of fails) state command).answer
      → GaveBack Stood trade state command (luck_of fails)
  none_read fails is =
      record { kept = λ stood provider. tt; shown = λ stood. refl; unchanged = λ stood world sound. is }

  pub played_so : (providers : List Provider) (from upto : ℕ → ℕ) (luck : Luck) (answer : Answer) (after : List Site)
      (text : Bytes)
      → played trade luck state command ≡ record { answer = answer; after = after }
      → MayMeet trade luck state command → HasMemory answer
      → ((provider : ℕ) → RoseBy (faults_by trade provider command answer) (from provider) (upto provider))
      → GaveBack Stood trade state command luck
      → text ≡ answer_text providers answer
      → IsPlayedSo Stood trade providers state from upto command text after
  played_so providers from upto luck answer after text is meet memory counts gave lines = record {
    luck = luck;
    meet = meet;
    memory = subst (λ (p : Played). HasMemory p.answer) (sym is) memory;
    counts = λ provider.
        subst (λ (p : Played). RoseBy (faults_by trade provider command p.answer) (from provider) (upto provider))
        (sym is) (counts provider);
    kept = gave.kept;
    shown = gave.shown;
    unchanged = gave.unchanged;
    lines = lines ∙ ap (λ (p : Played). answer_text providers p.answer) (sym is);
    state = ap (λ (p : Played). p.after) (sym is);
  }

module _ (trade : Trade) (state : List Site) (command : Command) where
  pub left_so : (luck : Luck) (answer : Answer) (after : List Site)
      → played trade luck state command ≡ record { answer = answer; after = after }
      → LeavesOff trade state (Some command) after
  left_so luck answer after is =
      Within command luck refl (λ provider. ap (λ (p : Played). journal_at p.after provider) (sym is))
      (λ provider. ap (λ (p : Played). interrupted_at p.after provider) (sym is))

-- a call of which it is said
module _ {D S : Type 0} (sight : D → Sight) (count : D → ℕ) (tells : Type 0) (trade : Trade) (command : Command)
    (old new : NetworkState D S) (keeps : Keeps sight count tells old new) where
  pub does_say : (text : Vec ℕ Global)
      → ((elsewhere : ℕ → ℕ)
      → IsPlayedSo (tells × AllStand sight old.providers) trade (providers_of old.kept) (sites old)
      (counts_in count old.providers elsewhere) (counts_in count new.providers elsewhere) command text.items (sites new))
      → Does sight count tells trade command old new (Ok text)
  does_say text said = record { said = λ elsewhere. inl (said elsewhere); left = tt; keeps = keeps }

  pub does_stop : (result : Result (Vec ℕ Global) NoMemory) → IsErr result → LeavesOff trade (sites old) (Some command)
      (sites new)
      → Does sight count tells trade command old new result
  does_stop (Ok text) failed left = absurd (false≢true failed)
  does_stop (Err fault) failed left = record { said = λ elsewhere. tt; left = inl left; keeps = keeps }

-- a call that stands beside a depot
module _ {D S : Type 0} (sight : D → Sight) (count : D → ℕ) (home disks : Type 0) (trade : Trade) (command : Command)
    (old new : NetworkState D S) (stands : home × disks → AllStand sight old.providers) where
  strays : Strange sight disks old.providers (sites old) command → MayStray (home × disks) (sites old) (Some command)
  strays strange = record {
    untold = λ tells. strange.never tells.1 (stands tells);
    provider = strange.provider;
    restarts = ap (λ (c : Command). Some c) strange.restarts;
    down = strange.down;
  }

  -- what is told by a depot too
  told_too : (from upto : ℕ → ℕ) (text : Bytes)
      → IsPlayedSo (disks × AllStand sight old.providers) trade (providers_of old.kept) (sites old) from upto command text
      (sites new)
      → IsPlayedSo (home × disks) trade (providers_of old.kept) (sites old) from upto command text (sites new)
  told_too from upto text is = record {
    luck = is.luck;
    meet = is.meet;
    memory = is.memory;
    counts = is.counts;
    kept = λ tells. is.kept (tells.1, stands tells);
    shown = λ tells. is.shown (tells.1, stands tells);
    unchanged = λ tells. is.unchanged (tells.1, stands tells);
    lines = is.lines;
    state = is.state;
  }

  pub play_says : (result : Result (Vec ℕ Global) NoMemory) → Does sight count disks trade command old new result
      → (elsewhere : ℕ → ℕ) → IfOk result (λ text. HasPlayed (home × disks) trade (providers_of old.kept) (sites old)
      (counts_in count old.providers elsewhere) (counts_in count new.providers elsewhere) command text.items
      (sites new))
  play_says (Ok text) does elsewhere =
      elim (does.said elsewhere) [
        | inl is ↦ inl (told_too (counts_in count old.providers elsewhere) (counts_in count new.providers elsewhere) text.items is)
        | inr strange ↦ inr (strays strange)
      ]
  play_says (Err fault) does elsewhere = tt

  pub play_stops : (result : Result (Vec ℕ Global) NoMemory) → Does sight count disks trade command old new result
      → OnErr result (HasStopped (home × disks) trade (sites old) command (sites new))
  play_stops (Ok text) does = tt
  play_stops (Err fault) does = elim does.left [ inl left ↦ inl left | inr strange ↦ inr (strays strange) ]
