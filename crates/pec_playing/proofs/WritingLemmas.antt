-- A command that was played, and whose lines were written, is an act of a run.
use Rattle.std.proofs.Common.{◌≡◌, ℕ, ◌≤◌, List, [], ◌∷◌, inl, inr, refl, ap, sym, subst, ◌∙◌, Option, None, Some}
use Rattle.std.proofs.Common.{Result, Err}
use Rattle.std.proofs.lemmas.List.{append-nil}
use Rattle.pec_outside.specs.DiskModel.{Sight}
use Rattle.pec_outside.specs.Flow.{HasRisen, WrotePart, followed_by}
use Rattle.pec_types.specs.Bytes.{Bytes}
use Rattle.pec_directory.specs.Directory.{Provider, providers_of}
use Rattle.pec_ledger.specs.Trade.{Trade}
use Rattle.pec_plays.specs.Commands.{Command, Luck, played}
use Rattle.pec_plays.specs.Scripts.{HandsIn}
use Rattle.pec_screen.specs.Verdicts.{Patterns}
use Rattle.pec_network.specs.Network.{NetworkState, sites}
use Rattle.pec_runs.specs.AnswerLines.{answer_text}
use Rattle.pec_runs.specs.Plays.{MayStray}
use Rattle.pec_runs.specs.Ran.{LeavesOff}
use Rattle.pec_runs.specs.Steps.{Goes, IsCall, IsHanded, IsWritten, NoneFell, NoMemory, Plays, Point, WriteFault}
use Rattle.pec_runs.specs.Steps as runs
use Rattle.pec_playing.specs.Doing.{Keeps}
use Rattle.pec_playing.specs.Playing.{HasPlayed, HasStopped, IsPlayedSo}
use Rattle.pec_playing.specs.Points.{point_of, stop_in}
use Rattle.pec_playing.specs.Spares.{LeavesSpares}
use Rattle.pec_playing.specs.declared.stops.Stop.{Stop}
use Rattle.pec_playing.specs.declared.stops.Stop.TheVariants as stops
use Rattle.pec_playing.proofs.CountLemmas.{counts_later}

-- What pec_runs says of an act from one point to another.
pub record ActLaws {D : Type 0} (sight : D → Sight) (faults : D → ℕ) (trade : Trade) (providers : List Provider)
    (tells : Type 0) (command : Command) (here there : Point D) : Type 0 where
  pub played_so : (luck : Luck) (stop : Option runs.Stop)
      → IsCall trade tells here.state.sites here.state.counts there.state.counts command luck there.state.sites
      → IsHanded trade here.state.spares here.state.sites command luck there.state.spares
      → NoneFell here there
      → IsWritten (answer_text providers (played trade luck here.state.sites command).answer) here there stop
      → Goes trade providers tells sight faults (Plays command ∷ []) here there stop
  pub stopped_so : LeavesOff trade here.state.sites (Some command) there.state.sites → NoneFell here there
      → there.held ≡ here.held → Goes trade providers tells sight faults (Plays command ∷ []) here there (Some NoMemory)
  pub strayed_so : (text : Bytes) (stop : Option runs.Stop) → MayStray tells here.state.sites (Some command)
      → NoneFell here there → there.held ≡ followed_by here.held text
      → (stop ≡ Some WriteFault → HasRisen here.faults there.faults)
      → Goes trade providers tells sight faults (Plays command ∷ []) here there stop

followed_nothing : (held : Option Bytes) → followed_by held [] ≡ held
followed_nothing None = refl
followed_nothing (Some bytes) = ap (λ (b : Bytes). Some b) (append-nil bytes)

module _ {D S : Type 0} (sight : D → Sight) (count : D → ℕ) (disks : Type 0) (tells : Type 0) (trade : Trade)
    (command : Command) (spares left : List Patterns) (old new : NetworkState D S) (keeps : Keeps sight count disks old new) (elsewhere : ℕ → ℕ)
    (before after : Option Bytes) (from upto : ℕ) (later : from ≤ upto) where
  abbrev here : Point D
  here = point_of count elsewhere spares old before from

  abbrev there : Point D
  there = point_of count elsewhere left new after upto

  abbrev GoesSo : Option runs.Stop → Type 0
  GoesSo stop = Goes trade (providers_of old.kept) tells sight count (Plays command ∷ []) here there stop

  fell : NoneFell here there
  fell = record {
    disks = counts_later count old.providers new.providers keeps.many elsewhere keeps.later;
    output = later;
  }

  -- the call of a command that was played so
  call_of : (text : Bytes)
      → (is : IsPlayedSo tells trade (providers_of old.kept) (sites old) here.state.counts there.state.counts command
      text (sites new))
      → IsCall trade tells (sites old) here.state.counts there.state.counts command is.luck (sites new)
  call_of text is = record {
    meet = is.meet;
    memory = is.memory;
    counts = is.counts;
    state = is.state;
    kept = is.kept;
    shown = is.shown;
    unchanged = is.unchanged;
  }

  -- the command was handed its spare, and those are left that its answer leaves
  handed_so : HandsIn spares command → LeavesSpares trade spares (sites old) command left → (luck : Luck)
      → IsHanded trade spares (sites old) command luck left
  handed_so hands leaves luck = record { last = hands; behind = leaves luck }

  module _ (laws : ActLaws sight count trade (providers_of old.kept) tells command here there) where
    -- its lines were written
    pub play_ends : HandsIn spares command → LeavesSpares trade spares (sites old) command left → (text : Bytes)
        → HasPlayed tells trade (providers_of old.kept) (sites old) here.state.counts there.state.counts command text
        (sites new)
        → after ≡ followed_by before text → GoesSo None
    play_ends hands leaves text (inl is) wrote =
        laws.played_so is.luck None (call_of text is) (handed_so hands leaves is.luck) fell (wrote ∙ ap (followed_by before) is.lines)
    play_ends hands leaves text (inr may) wrote = laws.strayed_so text None may fell wrote (λ e. absurd cc)

    -- a front of its lines was written
    pub play_breaks : HandsIn spares command → LeavesSpares trade spares (sites old) command left → (text : Bytes)
        → HasPlayed tells trade (providers_of old.kept) (sites old) here.state.counts there.state.counts command text
        (sites new)
        → WrotePart before after text → HasRisen from upto → (result : Result (Unit {0}) Stop)
        → result ≡ Err stops.WriteFault → GoesSo (stop_in result)
    play_breaks hands leaves text (inl is) part rose result e =
        subst (λ (r : Result (Unit {0}) Stop). GoesSo (stop_in r)) (sym e)
        (laws.played_so is.luck (Some WriteFault) (call_of text is) (handed_so hands leaves is.luck) fell
        (subst (λ (t : Bytes). WrotePart before after t) is.lines part, rose))
    play_breaks hands leaves text (inr may) part rose result e =
        subst (λ (r : Result (Unit {0}) Stop). GoesSo (stop_in r)) (sym e)
        (laws.strayed_so part.wrote.done (Some WriteFault) may fell part.wrote.held (λ same. rose))

    -- memory ran out in it
    pub play_lacks : HasStopped tells trade (sites old) command (sites new) → after ≡ before
        → (result : Result (Unit {0}) Stop) → result ≡ Err stops.NoMemory → GoesSo (stop_in result)
    play_lacks (inl leaves) same result e =
        subst (λ (r : Result (Unit {0}) Stop). GoesSo (stop_in r)) (sym e) (laws.stopped_so leaves fell same)
    play_lacks (inr may) same result e =
        subst (λ (r : Result (Unit {0}) Stop). GoesSo (stop_in r)) (sym e)
        (laws.strayed_so [] (Some NoMemory) may fell (same ∙ sym (followed_nothing before)) (λ e. absurd cc))
