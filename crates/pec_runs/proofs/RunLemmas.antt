-- A run from its beginning: its state is Sound, and its commands can be said.
use Rattle.std.proofs.Common.{◌≡◌, ℕ, zero, suc, ◌<◌, ◌⊎◌, inl, inr, List, [], ◌∷◌, length, refl, ap, sym, subst, ◌∙◌, arith, Option, Some, Result, Ok}
use Rattle.std.specs.Prelude.{slice_get}
use Rattle.std.specs.List.{AllByRecursion}
use Rattle.std.proofs.lemmas.Option.{none-some, same_Some}
use Rattle.pec_types.specs.Bytes.{Bytes}
use Rattle.pec_directory.specs.Directory.{Provider}
use Rattle.pec_input.specs.Directory.{Refusal, directory_in}
use Rattle.pec_records.specs.declared.entries.Entry.{Entry}
use Rattle.pec_chronicle.specs.Chronicle.{IsJournalOf}
use Rattle.pec_ledger.specs.Ledger.{Fit}
use Rattle.pec_ledger.specs.Network.{Site, Sound, at_start, journals_in}
use Rattle.pec_ledger.specs.Trade.{Trade}
use Rattle.pec_ledger.specs.TradeLaws.{IsTrade}
use Rattle.pec_plays.specs.Commands.{Command, Luck, played}
use Rattle.pec_plays.specs.Scripts.{AllUnforged, IsUnforged, script}
use Rattle.pec_screen.specs.Verdicts.{Patterns}
use Rattle.pec_runs.specs.Happened.{Asked, Begun, Happened, IsSetting, Stage, by_next, outcome_at, outcome_of, providers_in, stage_of}
use Rattle.pec_runs.specs.Headline.{AllHonest, CanBeSaid, IsHonest}
use Rattle.pec_runs.specs.Openings.{AreLeft, Disks, Form, IsLeft, IsNext, IsOpening, Next, NoMore, Opening, Resume, Run, next_of, opened_all}
use Rattle.pec_runs.specs.Resuming.{IsFoundSo}
use Rattle.pec_runs.specs.Plays.{Outcome, Rest, Stopped, Strayed, ToTheEnd, outcome_from}
use Rattle.pec_runs.specs.Ran.{Counts, HasBegun, IsAt, Ran, beginning, command_in_hand, world}
use Rattle.pec_runs.specs.ScriptLines.{Script}
use Rattle.pec_runs.specs.Statuses.{Status}
use Rattle.pec_runs.specs.Statuses as statuses
use Rattle.pec_runs.proofs.BeginningLemmas.{by_lists, made_at_start, sound_opened}
use Rattle.pec_runs.proofs.LineLemmas.{ReadsSo, all_unforged, one_unforged, script_can}
use Rattle.pec_runs.proofs.ResumeLemmas.{FitsAnyWay, RoundsSo, left_fits, opened_fit}
use Rattle.pec_runs.proofs.StageLemmas.{HasAll, has_all}
use Rattle.pec_runs.proofs.StepLemmas.{JointStays}

-- ---- the state at the beginning

pub all_there : (trade : Trade) (disks : Disks) (form : Form) (opening : Opening)
    → IsOpening trade disks form opening → opening.next ≡ NoMore
    → next_of opening ≡ trade.providers
all_there trade disks form opening is e = subst (λ (n : Next). IsNext trade disks form (next_of opening) n) e is.next

pub sound_beginning : (trade : Trade) (disks : Disks) (screens : List (List Patterns)) (form : Form) (opening : Opening) → JointStays trade
    → ((all : ℕ → List Patterns) → Sound trade (at_start trade all))
    → IsOpening trade disks form opening → opening.next ≡ NoMore
    → (form ≡ Resume → Fit trade (journals_in opening.journals))
    → Sound trade (opened_all trade screens opening.journals)
sound_beginning trade disks screens Run opening stays start is e fit =
    subst (Sound trade) (sym (made_at_start trade screens opening.journals (all_there trade disks Run opening is e)
    (λ k j there. (is.each k j there).0))) (start (by_lists screens))
sound_beginning trade disks screens Resume opening stays start is e fit =
    sound_opened trade screens opening.journals stays (all_there trade disks Resume opening is e) (fit refl)

-- ---- commands at hand

all_at : (commands : List Command) (n : ℕ) (command : Command) → AllByRecursion CanBeSaid commands
    → slice_get commands n ≡ Some command
    → CanBeSaid command
all_at [] n command all e = absurd (none-some command e)
all_at (c ∷ commands) zero command all e = subst CanBeSaid (same_Some c command e) all.0
all_at (c ∷ commands) (suc n) command all e = all_at commands n command all.1 e

rest_can : (rest : Rest) (lucks : List Luck) (script : Script) (command : Command)
    → AllByRecursion CanBeSaid script.commands
    → command_in_hand statuses.NoMemory NoMore rest lucks script ≡ Some command → CanBeSaid command
rest_can ToTheEnd lucks script command all e = absurd (none-some command e)
rest_can Stopped lucks script command all e = all_at script.commands (length lucks) command all e
rest_can Strayed lucks script command all e = absurd (none-some command e)

hand_can : (status : Status) (rest : Rest) (lucks : List Luck) (script : Script) (command : Command)
    → AllByRecursion CanBeSaid script.commands → command_in_hand status NoMore rest lucks script ≡ Some command
    → CanBeSaid command
hand_can statuses.NoMemory rest lucks script command all e = rest_can rest lucks script command all e
hand_can statuses.Done rest lucks script command all e = absurd (none-some command e)
hand_can statuses.Usage rest lucks script command all e = absurd (none-some command e)
hand_can statuses.Refused rest lucks script command all e = absurd (none-some command e)
hand_can statuses.ReadFault rest lucks script command all e = absurd (none-some command e)
hand_can statuses.WriteFault rest lucks script command all e = absurd (none-some command e)
hand_can statuses.StartFault rest lucks script command all e = absurd (none-some command e)
hand_can statuses.NotEmpty rest lucks script command all e = absurd (none-some command e)
hand_can statuses.NotFit rest lucks script command all e = absurd (none-some command e)
hand_can statuses.ClockFault rest lucks script command all e = absurd (none-some command e)
hand_can statuses.DoorFault rest lucks script command all e = absurd (none-some command e)
hand_can statuses.DiskFault rest lucks script command all e = absurd (none-some command e)
hand_can statuses.Changed rest lucks script command all e = absurd (none-some command e)
hand_can statuses.InputTooLong rest lucks script command all e = absurd (none-some command e)

-- what is played by a run that has its journals
pub outcome_is : (asked : Asked) (happened : Happened) (form : Form) (script : Script)
    → stage_of asked happened.hands happened.early happened.parts ≡ Begun form script → happened.opening.next ≡ NoMore
    → outcome_of asked happened ≡ outcome_from (world happened) happened.lucks happened.rest (beginning happened) script
unfolding outcome_of
outcome_is asked happened form script begun at_hand =
    ap (outcome_at happened) begun
    ∙ ap (by_next (world happened) happened.screens happened.opening happened.lucks happened.rest script) at_hand

-- what the laws of plays say
pub record StaysSound (trade : Trade) : Type 0 where
  pub commands : (luck : Luck) (sites : List Site) (command : Command) → Sound trade sites
      → IsUnforged trade luck sites command
      → Sound trade (played trade luck sites command).after
  pub ends : (lucks : List Luck) (sites : List Site) (commands : List Command) → Sound trade sites
      → AllUnforged trade lucks sites commands
      → Sound trade (script trade lucks sites commands).after

-- ---- a run

module _ (asked : Asked) (status : Status) (unread before after : Option Bytes) (tells : Type 0)
    (old_disks new_disks : Disks)
    (old new : Counts) (ran : Ran asked status unread before after tells old_disks new_disks old new) (form : Form)
    (script : Script)
    (begun : stage_of asked ran.happened.hands ran.happened.early ran.happened.parts ≡ Begun form script) where
  abbrev all : HasAll asked ran.happened.hands ran.happened.early ran.happened.parts form script
  all = has_all asked ran.happened.hands ran.happened.early ran.happened.parts form script begun

  pub has_begun : HasBegun tells old_disks new_disks old new ran.happened status asked form script
  has_begun = subst (λ (s : Stage). IsAt tells old_disks new_disks old new ran.happened status asked s) begun ran.is_at

  pub is_setting : IsSetting (providers_in ran.happened.setting) ran.happened.setting
  is_setting =
      let is = ran.setting form script begun all.providers all.directory
      in subst (λ (providers : List Provider). IsSetting providers ran.happened.setting) (sym is.kept) is

  pub directory_is : directory_in ran.happened.parts.directory ≡ Ok (providers_in ran.happened.setting)
  directory_is =
      all.directory ∙ ap so (sym (ran.setting form script begun all.providers all.directory).kept)
    where
      so : List Provider → Result (List Provider) Refusal
      so providers = Ok providers

  pub is_world : IsTrade (world ran.happened)
  is_world = is_setting.world

  pub commands_can : ReadsSo → AllByRecursion CanBeSaid script.commands
  commands_can reads =
      subst (λ (s : Script). AllByRecursion CanBeSaid s.commands) (sym all.script_is)
      (script_can reads ran.happened.hands all.providers 1 all.lines)

  -- what it leaves fits
  pub fits_left : JointStays (world ran.happened) → RoundsSo (world ran.happened) → StaysSound (world ran.happened)
      → ((all : ℕ → List Patterns) → Sound (world ran.happened) (at_start (world ran.happened) all))
      → ReadsSo → ran.happened.opening.next ≡ NoMore
      → (form ≡ Resume → Fit (world ran.happened) (journals_in ran.happened.opening.journals))
      → AllHonest (world ran.happened) ran.happened.lucks (beginning ran.happened) script.commands
      → ((command : Command) → command_in_hand status ran.happened.opening.next ran.happened.rest ran.happened.lucks script
      ≡ Some command
      → IsHonest (world ran.happened) (outcome_of asked ran.happened).after command)
      → FitsAnyWay (world ran.happened) has_begun.left
  fits_left stays rounds plays start reads at_hand fit honest hand =
      let trade = world ran.happened
      in let after = (outcome_of asked ran.happened).after
      in let can = commands_can reads
      in let end : Sound trade after =
      subst (λ (o : Outcome). Sound trade o.after) (sym (outcome_is asked ran.happened form script begun at_hand))
      (plays.ends ran.happened.lucks (beginning ran.happened) script.commands
      (sound_beginning trade old_disks ran.happened.screens form ran.happened.opening stays start has_begun.opening at_hand fit)
      (all_unforged trade ran.happened.lucks (beginning ran.happened) script.commands can honest))
      in left_fits trade stays rounds after has_begun.left
      (command_in_hand status ran.happened.opening.next ran.happened.rest ran.happened.lucks script) end
      (λ luck command is puts.
      plays.commands luck after command end
      (one_unforged trade luck after command
      (hand_can status ran.happened.rest ran.happened.lucks script command can
      (subst (λ (n : Next). command_in_hand status n ran.happened.rest ran.happened.lucks script
      ≡ Some command) at_hand is))
      (hand command is) puts))
      has_begun.leaves_off

-- ---- two runs, one on the disks of the other

module _ (left_disks found : Disks) (trade other : Trade) (same : other ≡ trade) (stays : JointStays trade)
    (left : List Site)
    (fits : FitsAnyWay trade left) (old : Disks) (form : Form) (first second : Opening)
    (first_all : next_of first ≡ trade.providers)
    (second_all : next_of second ≡ other.providers) (leaves : AreLeft old left_disks form first left)
    (is : IsOpening other found Resume second) (found_so : (k : ℕ) → k < trade.providers → IsFoundSo left_disks found k)
    (one : (a b : List Entry) (bytes : Bytes) → IsJournalOf a bytes → IsJournalOf b bytes → a ≡ b) where
  as_many : length second.journals ≡ trade.providers
  as_many = second_all ∙ ap (λ (t : Trade). t.providers) same

  was_left : (k : ℕ) → k < next_of first → (bytes : Bytes)
      → (left_disks.reads k bytes) ⊎ (left_disks.may_leave k bytes) → IsLeft left k bytes
  was_left k l bytes (inl reads) = leaves.reads k l bytes reads
  was_left k l bytes (inr image) = leaves.crash k l bytes image

  pub again_fit : Fit other (journals_in second.journals)
  again_fit =
      subst (λ (t : Trade). Fit t (journals_in second.journals)) (sym same)
      (opened_fit trade stays left fits second.journals as_many one
      (λ k l.
      let so = found_so k l
      in (
        so.bytes,
        was_left k (omega (arith, first_all, l)) so.bytes so.was,
        λ j there. (is.each k j there).1 so.bytes so.is,
      )))
