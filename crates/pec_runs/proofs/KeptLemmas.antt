-- What disks that tell what they hold gave back: no forged frame is put, and no entry is told as changed.
use Rattle.std.proofs.Common.{◌≡◌, ℕ, List, [], ◌∷◌, refl, subst, Option}
use Rattle.std.specs.Prelude.{All}
use Rattle.std.proofs.lemmas.List.Elements.{All-cons, All-nil}
use Rattle.pec_types.specs.Bytes.{Bytes}
use Rattle.pec_ledger.specs.Ledger.{Fit}
use Rattle.pec_ledger.specs.Network.{Site, Sound, at_start, journals_in}
use Rattle.pec_ledger.specs.Trade.{Trade}
use Rattle.pec_ledger.specs.TradeLaws.{IsTrade}
use Rattle.pec_plays.specs.Commands.{Command, Luck, played}
use Rattle.pec_plays.specs.Scripts.{AllUnforged, script}
use Rattle.pec_screen.specs.Verdicts.{Patterns}
use Rattle.pec_runs.specs.Happened.{Asked, Begun, Halted, Happened, Over, Stage, by_next, outcome_at, outcome_of, stage_of}
use Rattle.pec_runs.specs.Headline.{AllHonest, NoneInjected}
use Rattle.pec_runs.specs.Openings.{Disks, Fails, Form, Holds, Next, NoMore, Resume, Stops, Unfits}
use Rattle.pec_runs.specs.Plays.{IsUnchanged, MayPlay, UnchangedAlong}
use Rattle.pec_runs.specs.Ran.{Counts, PlaysOn, Ran, beginning, world}
use Rattle.pec_runs.specs.ScriptLines.{Script}
use Rattle.pec_runs.specs.Statuses.{Status}
use Rattle.pec_runs.proofs.LineLemmas.{ReadsSo, all_honest, all_unforged}
use Rattle.pec_runs.proofs.MomentLemmas.{StaysSound}
use Rattle.pec_runs.proofs.RunLemmas.{commands_can, has_begun, is_world, sound_beginning}
use Rattle.pec_runs.proofs.StepLemmas.{JointStays}

pub none_changed : (trade : Trade) → IsTrade trade → StaysSound trade → (lucks : List Luck) (sites : List Site)
    (commands : List Command) → Sound trade sites → AllUnforged trade lucks sites commands
    → UnchangedAlong trade lucks sites commands → All IsUnchanged (script trade lucks sites commands).answers
none_changed trade world stays [] sites commands sound given along = All-nil IsUnchanged
none_changed trade world stays (luck ∷ lucks) sites [] sound given along = All-nil IsUnchanged
none_changed trade world stays (luck ∷ lucks) sites (c ∷ commands) sound given along =
    let here = played trade luck sites c
    in All-cons IsUnchanged here.answer (script trade lucks here.after commands).answers (along.0 world sound)
    (none_changed trade world stays lucks here.after commands (stays luck sites c sound given.0) given.1 along.1)

module _ (asked : Asked) (status : Status) (unread before after : Option Bytes) (tells : Type 0)
    (old_disks new_disks : Disks)
    (old new : Counts) (ran : Ran asked status unread before after tells old_disks new_disks old new) (told : tells)
  where
    abbrev happened : Happened
    happened = ran.happened

    abbrev stage : Stage
    stage = stage_of asked happened.hands happened.early happened.parts

    abbrev Honest : Script → Type 0
    Honest script = AllHonest (world happened) happened.lucks (beginning happened) script.commands

    module _ (form : Form) (script : Script) (begun : stage ≡ Begun form script) where
      plays_so : happened.opening.next ≡ NoMore
          → MayPlay (world happened) tells happened.spares (beginning happened) old.disks new.disks script happened.lucks happened.rest
      plays_so all =
          subst (λ (next : Next). PlaysOn tells old_disks new_disks old new happened script next) all
          (has_begun asked status unread before after tells old_disks new_disks old new ran form script begun).plays

      pub honest_run : happened.opening.next ≡ NoMore
          → NoneInjected (world happened) happened.lucks (beginning happened) script.commands → Honest script
      honest_run all none =
          all_honest (world happened) happened.lucks (beginning happened) script.commands ((plays_so all).kept told) none

      module _ (joint : JointStays (world happened)) (stays : StaysSound (world happened))
          (start : (all : ℕ → List Patterns) → Sound (world happened) (at_start (world happened) all)) (reads : ReadsSo)
          (premise : happened.opening.next ≡ NoMore
          → (form ≡ Resume → Fit (world happened) (journals_in happened.opening.journals)) × Honest script) where
        by_end : (next : Next) → happened.opening.next ≡ next
            → All IsUnchanged (by_next (world happened) happened.screens happened.opening happened.lucks happened.rest script next).answers
        by_end NoMore all =
            let is = has_begun asked status unread before after tells old_disks new_disks old new ran form script begun
            in none_changed (world happened)
            (is_world asked status unread before after tells old_disks new_disks old new ran form script begun) stays
            happened.lucks (beginning happened) script.commands
            (sound_beginning (world happened) old_disks happened.screens form happened.opening joint start is.opening all (premise all).0)
            (all_unforged (world happened) happened.lucks (beginning happened) script.commands
            (commands_can asked status unread before after tells old_disks new_disks old new ran form script begun reads)
            (premise all).1)
            ((plays_so all).unchanged told)
        by_end Holds all = All-nil IsUnchanged
        by_end (Unfits unfit) all = All-nil IsUnchanged
        by_end Fails all = All-nil IsUnchanged
        by_end Stops all = All-nil IsUnchanged

    pub run_unchanged : JointStays (world happened) → (IsTrade (world happened) → StaysSound (world happened))
        → ((all : ℕ → List Patterns) → Sound (world happened) (at_start (world happened) all)) → ReadsSo
        → ((form : Form) (script : Script) → stage ≡ Begun form script → happened.opening.next ≡ NoMore
        → (form ≡ Resume → Fit (world happened) (journals_in happened.opening.journals)) × Honest script)
        → All IsUnchanged (outcome_of asked happened).answers
    unfolding outcome_of
    run_unchanged joint stays start reads premise = by_stage stage refl
      where
        by_stage : (at : Stage) → stage ≡ at → All IsUnchanged (outcome_at happened at).answers
        by_stage (Over end) e = All-nil IsUnchanged
        by_stage Halted e = All-nil IsUnchanged
        by_stage (Begun form script) e =
            by_end form script e joint
            (stays (is_world asked status unread before after tells old_disks new_disks old new ran form script e)) start reads
            (premise form script e) happened.opening.next refl
