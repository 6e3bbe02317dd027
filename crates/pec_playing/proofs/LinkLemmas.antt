-- Commands on links.
use Rattle.std.proofs.Common.{◌≡◌, ℕ, false, List, length, refl, ap, sym, ◌∙◌, Global, Vec, Some, Result, Ok, Err}
use Rattle.std.specs.Prelude.{IsErr}
use Rattle.pec_outside.specs.DiskModel.{Sight}
use Rattle.pec_types.specs.Bytes.{Bytes}
use Rattle.pec_types.specs.declared.faults.NoMemory.{NoMemory}
use Rattle.pec_directory.specs.Directory.{Provider, providers_of}
use Rattle.pec_link.specs.declared.faults.LinkFault.{LinkFault}
use Rattle.pec_link.specs.declared.faults.LinkFault.TheVariants as link_faults
use Rattle.pec_ledger.specs.Network.{Site}
use Rattle.pec_ledger.specs.Trade.{Trade}
use Rattle.pec_plays.specs.Commands.{Answer, Command, Inject, Injected, LinkFull, Lose, Lost, Luck, NoFrame, Played}
use Rattle.pec_plays.specs.Commands.{Repeat, Repeated, Swap, Swapped, answers, played}
use Rattle.pec_network.specs.Carrying.{AllStand}
use Rattle.pec_network.specs.OfProviders.{luck_of}
use Rattle.pec_network.specs.Network.{NetworkState, sites}
use Rattle.pec_network.specs.Playing.{IsPlayedOnLink}
use Rattle.pec_script.specs.Texts as texts
use Rattle.pec_script.specs.declared.answers.Answer.{Answer as Line}
use Rattle.pec_script.specs.declared.answers.Answer.TheVariants as lines
use Rattle.pec_runs.specs.AnswerLines.{answer_text}
use Rattle.pec_runs.specs.Plays.{HasMemory, faults_by}
use Rattle.pec_runs.specs.Ran.{LeavesOff, Behind}
use Rattle.pec_playing.specs.Doing.{Does}
use Rattle.pec_playing.specs.Playing.{IsPlayedSo, counts_in}
use Rattle.pec_playing.specs.Saying.{IsLinkText}
use Rattle.pec_playing.proofs.ChangeLemmas.{inject_unchanged, lose_unchanged, repeat_unchanged, swap_unchanged}
use Rattle.pec_playing.proofs.CountLemmas.{counts_stay}
use Rattle.pec_playing.proofs.KeptLemmas.{keeps_providers}
use Rattle.pec_playing.proofs.PlayLemmas.{IsFree, does_say, does_stop, left_so, none_read, played_so}

-- An answer is done with this line.
pub record IsLine (answer : Answer) (line : Line) : Type 0 where
  pub memory : HasMemory answer
  pub text : (providers : List Provider) → answer_text providers answer ≡ texts.answer_text line

no_frame_line : IsLine NoFrame lines.NoFrame
unfolding answer_text
no_frame_line = record { memory = tt; text = λ providers. refl }

link_full_line : IsLine LinkFull lines.LinkFull
unfolding answer_text
link_full_line = record { memory = tt; text = λ providers. refl }

pub lost_line : IsLine Lost lines.Lost
unfolding answer_text
lost_line = record { memory = tt; text = λ providers. refl }

pub repeated_line : IsLine Repeated lines.Repeated
unfolding answer_text
repeated_line = record { memory = tt; text = λ providers. refl }

pub swapped_line : IsLine Swapped lines.Swapped
unfolding answer_text
swapped_line = record { memory = tt; text = λ providers. refl }

pub injected_line : IsLine Injected lines.Injected
unfolding answer_text
injected_line = record { memory = tt; text = λ providers. refl }

module _ {D S : Type 0} (sight : D → Sight) (count : D → ℕ) (tells : Type 0) (trade : Trade) (command : Command)
    (old new : NetworkState D S) (same : new ≡ record old { waiting = new.waiting }) (free : IsFree trade command)
    (done : Answer) (line : Line) (is_line : IsLine done line) where
  abbrev luck : Luck
  luck = luck_of false

  abbrev Stood : Type 0
  Stood = tells × AllStand sight old.providers

  abbrev Comes : Bytes → Type 0
  Comes text =
      (elsewhere : ℕ → ℕ) → IsPlayedSo Stood trade (providers_of old.kept) (sites old)
      (counts_in count old.providers elsewhere)
      (counts_in count new.providers elsewhere) command text (sites new)

  comes : (answer : Answer) (its : Line) → IsLine answer its → (text : Bytes)
      → played trade luck (sites old) command ≡ record { answer = answer; after = sites new }
      → text ≡ texts.answer_text its → Comes text
  comes answer its of text is written elsewhere =
      played_so Stood trade (sites old) command (providers_of old.kept) (counts_in count old.providers elsewhere)
      (counts_in count new.providers elsewhere) luck answer (sites new) text is (free.meets luck (sites old)) of.memory
      (λ provider. counts_stay count old.providers new.providers
      (ap (λ (n : NetworkState D S). length n.providers) same) elsewhere
      (keeps_providers sight count tells old new same).later provider (faults_by trade provider command answer)
      (free.blames provider answer))
      (none_read Stood trade (sites old) command false (free.unchanged luck (sites old)))
      (written ∙ sym (of.text (providers_of old.kept)))

  unchanged : (answer : Answer) → played trade luck (sites old) command ≡ answers (sites old) answer
      → sites new ≡ sites old
      → played trade luck (sites old) command ≡ record { answer = answer; after = sites new }
  unchanged answer is stays =
      is ∙ ap (λ (s : List Site). (let p : Played = record { answer = answer; after = s } in p)) (sym stays)

  by_outcome : (outcome : Result (Unit {0}) LinkFault)
      → IsPlayedOnLink done (played trade luck (sites old) command) (sites old) (sites new) outcome
      → (text : Bytes) → IsLinkText line outcome text → Comes text
  by_outcome (Ok x) is text written = comes done line is_line text is written
  by_outcome (Err link_faults.NoFrame) is text written =
      comes NoFrame lines.NoFrame no_frame_line text (unchanged NoFrame is.0 is.1) written
  by_outcome (Err link_faults.Full) is text written =
      comes LinkFull lines.LinkFull link_full_line text (unchanged LinkFull is.0 is.1) written
  by_outcome (Err link_faults.NoMemory) is text written = absurd written

  left_by : (outcome : Result (Unit {0}) LinkFault)
      → IsPlayedOnLink done (played trade luck (sites old) command) (sites old) (sites new) outcome
      → LeavesOff trade (sites old) (Some command) (sites new)
  left_by (Ok x) is = left_so trade (sites old) command luck done (sites new) is
  left_by (Err link_faults.NoFrame) is = Behind is.1
  left_by (Err link_faults.Full) is = Behind is.1
  left_by (Err link_faults.NoMemory) is = Behind is

  module _ (outcome : Result (Unit {0}) LinkFault)
      (plays : (t : Trade) (l : Luck)
      → IsPlayedOnLink done (played t l (sites old) command) (sites old) (sites new) outcome) where
    pub link_says : (text : Vec ℕ Global) → IsLinkText line outcome text.items
        → Does sight count tells trade command old new (Ok text)
    link_says text written =
        does_say sight count tells trade command old new (keeps_providers sight count tells old new same) text
        (by_outcome outcome (plays trade luck) text.items written)

    pub link_stops : (result : Result (Vec ℕ Global) NoMemory) → IsErr result
        → Does sight count tells trade command old new result
    link_stops result failed =
        does_stop sight count tells trade command old new (keeps_providers sight count tells old new same) result failed
        (left_by outcome (plays trade luck))

-- ---- the four

pub lose_free : (trade : Trade) (from to place : ℕ) → IsFree trade (Lose from to place)
lose_free trade from to place = record {
  meets = λ luck state. tt;
  blames = λ provider answer. refl;
  unchanged = λ luck state. lose_unchanged trade luck state from to place;
}

pub repeat_free : (trade : Trade) (from to place : ℕ) → IsFree trade (Repeat from to place)
repeat_free trade from to place = record {
  meets = λ luck state. tt;
  blames = λ provider answer. refl;
  unchanged = λ luck state. repeat_unchanged trade luck state from to place;
}

pub swap_free : (trade : Trade) (from to place : ℕ) → IsFree trade (Swap from to place)
swap_free trade from to place = record {
  meets = λ luck state. tt;
  blames = λ provider answer. refl;
  unchanged = λ luck state. swap_unchanged trade luck state from to place;
}

pub inject_free : (trade : Trade) (from to : ℕ) (frame : Bytes) → IsFree trade (Inject from to frame)
inject_free trade from to frame = record {
  meets = λ luck state. tt;
  blames = λ provider answer. refl;
  unchanged = λ luck state. inject_unchanged trade luck state from to frame;
}
