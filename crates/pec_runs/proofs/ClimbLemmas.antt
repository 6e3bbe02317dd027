-- A script is played command by command: what is played behind a command is played from its beginning.
use Rattle.std.proofs.Common.{◌≡◌, ℕ, ◌+◌, ◌≤◌, List, [], ◌∷◌, arith}
use Rattle.std.specs.Prelude.{slice_get}
use Rattle.std.proofs.lemmas.List.Elements.{All-cons, All-nil}
use Rattle.pec_ledger.specs.Network.{Site}
use Rattle.pec_ledger.specs.Trade.{Trade}
use Rattle.pec_plays.specs.Commands.{Command, Luck, played}
use Rattle.pec_plays.specs.Possible.{GaveWhatWasKept, MayMeet}
use Rattle.pec_plays.specs.Scripts.{HandsIn, script}
use Rattle.pec_screen.specs.Verdicts.{Patterns}
use Rattle.pec_runs.specs.Endings.{End}
use Rattle.pec_runs.specs.Plays.{HasMemory, MayPlay, MayStray, Rest, RoseAlong, RoseBy, ShowsItsOwn, Stopped, Strayed, ToTheEnd}
use Rattle.pec_runs.specs.Plays.{UnchangedIn, faults_by, faults_told, spares_left}
use Rattle.pec_runs.specs.ScriptLines.{Script, nothing_but, onto_script}

rose_none : (a b : ℕ) → a ≤ b → RoseBy 0 a b
rose_none a b l = (l, λ h. omega arith)

rose_both : (m n a b c : ℕ) → RoseBy m a b → RoseBy n b c → RoseBy (m + n) a c
rose_both m n a b c first second =
    let l = first.0 in let k = second.0 in (
      omega arith,
      λ h. let x : a + m ≤ b = first.1 (omega arith) in let y : b + n ≤ c = second.1 h in omega
          (arith, x, y),
    )

module _ (trade : Trade) where
  -- what counts rose along a script they rose by in all
  pub rose_in_all : (lucks : List Luck) (sites : List Site) (commands : List Command) (from upto : ℕ → ℕ)
      → RoseAlong trade lucks sites commands from upto → (p : ℕ)
      → RoseBy (faults_told trade p commands (script trade lucks sites commands).answers) (from p) (upto p)
  rose_in_all [] sites [] from upto rose p = rose_none (from p) (upto p) (rose p)
  rose_in_all [] sites (c ∷ commands) from upto rose p = rose_none (from p) (upto p) (rose p)
  rose_in_all (luck ∷ lucks) sites [] from upto rose p = rose_none (from p) (upto p) (rose p)
  rose_in_all (luck ∷ lucks) sites (c ∷ commands) from upto rose p =
      rose_both (faults_by trade p c (played trade luck sites c).answer)
      (faults_told trade p commands (script trade lucks (played trade luck sites c).after commands).answers)
      (from p) (rose.0 p) (upto p) (rose.1 p)
      (rose_in_all lucks (played trade luck sites c).after commands rose.0 upto rose.2 p)

  -- where no fault is told the counts may stay
  pub rose_nowhere : (lucks : List Luck) (sites : List Site) (commands : List Command) (counts : ℕ → ℕ)
      → ((p : ℕ) → faults_told trade p commands (script trade lucks sites commands).answers ≡ 0)
      → RoseAlong trade lucks sites commands counts counts
  rose_nowhere [] sites commands counts none = λ p. omega arith
  rose_nowhere (luck ∷ lucks) sites [] counts none = λ p. omega arith
  rose_nowhere (luck ∷ lucks) sites (c ∷ commands) counts none = (
    counts,
    λ p. let none_here = none p in (omega arith, λ h. omega (arith, none_here)),
    rose_nowhere lucks (played trade luck sites c).after commands counts
        (λ p. let none_here = none p in omega (arith, none_here)),
  )

module _ (trade : Trade) (tells : Type 0) where
  pub plays_none : (spares : List Patterns) (sites : List Site) (from upto : ℕ → ℕ) (written : Script) → ((p : ℕ) → from p ≤ upto p)
      → MayPlay trade tells spares sites from upto written [] Stopped
  plays_none spares sites from upto written later = record {
    enough = omega arith;
    handed = tt;
    meet = tt;
    memory = All-nil HasMemory;
    counts = later;
    kept = λ told. tt;
    shown = λ told. tt;
    unchanged = λ told. tt;
    strays = tt;
  }

  pub plays_over : (spares : List Patterns) (sites : List Site) (from upto : ℕ → ℕ) (end : End) → ((p : ℕ) → from p ≤ upto p)
      → MayPlay trade tells spares sites from upto (nothing_but end) [] ToTheEnd
  plays_over spares sites from upto end later = record {
    enough = omega arith;
    handed = tt;
    meet = tt;
    memory = All-nil HasMemory;
    counts = later;
    kept = λ told. tt;
    shown = λ told. tt;
    unchanged = λ told. tt;
    strays = tt;
  }

  pub plays_astray : (spares : List Patterns) (sites : List Site) (from upto : ℕ → ℕ) (command : Command) (written : Script)
      → ((p : ℕ) → from p ≤ upto p)
      → MayStray tells sites (slice_get (onto_script command written).commands 0)
      → MayPlay trade tells spares sites from upto (onto_script command written) [] Strayed
  plays_astray spares sites from upto command written later may = record {
    enough = omega arith;
    handed = tt;
    meet = tt;
    memory = All-nil HasMemory;
    counts = later;
    kept = λ told. tt;
    shown = λ told. tt;
    unchanged = λ told. tt;
    strays = may;
  }

  pub plays_on : (spares : List Patterns) (sites : List Site) (from mid upto : ℕ → ℕ) (command : Command) (luck : Luck) (written : Script)
      (lucks : List Luck) (rest : Rest)
      → MayMeet trade luck sites command → HandsIn spares command → HasMemory (played trade luck sites command).answer
      → ((p : ℕ) → RoseBy (faults_by trade p command (played trade luck sites command).answer) (from p) (mid p))
      → (tells → GaveWhatWasKept luck) → (tells → ShowsItsOwn luck)
      → (tells → UnchangedIn trade sites (played trade luck sites command).answer)
      → MayPlay trade tells (spares_left spares command (played trade luck sites command).answer)
      (played trade luck sites command).after mid upto written lucks rest
      → MayPlay trade tells spares sites from upto (onto_script command written) (luck ∷ lucks) rest
  plays_on spares sites from mid upto command luck written lucks rest may hands has rose kept shown same more = record {
    enough = let l = more.enough in omega (arith, l);
    handed = (hands, more.handed);
    meet = (may, more.meet);
    memory = All-cons HasMemory (played trade luck sites command).answer
        (script trade lucks (played trade luck sites command).after written.commands).answers has more.memory;
    counts = (mid, rose, more.counts);
    kept = λ told. (kept told, more.kept told);
    shown = λ told. (shown told, more.shown told);
    unchanged = λ told. (same told, more.unchanged told);
    strays = more.strays;
  }
