-- A script of which no fault is told is one without faults, and a script without faults tells none.
use Rattle.std.proofs.Common.{◌≡◌, ℕ, suc, ◌+◌, List, [], ◌∷◌, length, refl, ap, sym, subst, ◌∙◌, arith}
use Rattle.std.specs.Prelude.{All}
use Rattle.std.specs.List.{AllByRecursion}
use Rattle.std.proofs.lemmas.List.Elements.{All-cons, All-head, All-nil, All-tail}
use Rattle.pec_ledger.specs.Network.{Site}
use Rattle.pec_ledger.specs.Trade.{Trade}
use Rattle.pec_plays.specs.Commands.{Command, Luck, Played, played}
use Rattle.pec_plays.specs.Possible.{AllQuiet, GaveWhatWasKept, IsCalm, IsOfKept}
use Rattle.pec_plays.specs.Scripts.{onto, script}
use Rattle.pec_plays.specs.Turns.{Cut, Whole, Fails, Full, Stops, Unread, Other, Sees}
use Rattle.pec_runs.specs.Plays.{AllMeet, HasMemory, IsUnchanged, ShowsItsOwn, faults_by, faults_told}
use Rattle.pec_runs.proofs.QuietLemmas.{calm_luck, calm_quiet, quiet_well, twin}

-- Lucks without faults that lead the same way.
pub record Twins (trade : Trade) (lucks : List Luck) (sites : List Site) (commands : List Command) : Type 0 where
  pub calms : List Luck
  pub quiet : AllQuiet trade calms sites commands
  pub count : length calms ≡ length lucks
  pub same : script trade calms sites commands ≡ script trade lucks sites commands

none_in_sum : (a b : ℕ) → a + b ≡ 0 → (a ≡ 0) × (b ≡ 0)
none_in_sum a b e = (omega (arith, e), omega (arith, e))

module _ (trade : Trade) where
  pub twins : (lucks : List Luck) (sites : List Site) (commands : List Command) → AllMeet trade lucks sites commands
      → AllByRecursion GaveWhatWasKept lucks → AllByRecursion ShowsItsOwn lucks
      → All HasMemory (script trade lucks sites commands).answers
      → All IsUnchanged (script trade lucks sites commands).answers
      → ((k : ℕ) → faults_told trade k commands (script trade lucks sites commands).answers ≡ 0)
      → Twins trade lucks sites commands
  twins [] sites commands meet kept own memory unchanged none =
      record { calms = []; quiet = tt; count = refl; same = refl }
  twins (luck ∷ lucks) sites [] meet kept own memory unchanged none =
      record { calms = luck ∷ lucks; quiet = tt; count = refl; same = refl }
  twins (luck ∷ lucks) sites (c ∷ commands) meet kept own memory unchanged none =
      let here = played trade luck sites c
      in let told = (script trade lucks here.after commands).answers
      in let first = twin trade sites luck c meet.0 kept.0 own.0 (
        All-head HasMemory here.answer told memory,
        λ k.
            (none_in_sum (faults_by trade k c here.answer) (faults_told trade k commands told) (none k)).0,
        All-head IsUnchanged here.answer told unchanged,
      )
      in let later = twins lucks here.after commands meet.1 kept.1 own.1 (All-tail HasMemory here.answer told memory)
      (All-tail IsUnchanged here.answer told unchanged)
      (λ k. (none_in_sum (faults_by trade k c here.answer) (faults_told trade k commands told) (none k)).1)
      in record {
        calms = calm_luck trade sites luck ∷ later.calms;
        quiet = (
          first.0,
          calm_quiet trade sites luck,
          subst (λ (p : Played). AllQuiet trade later.calms p.after commands) first.1 later.quiet,
        );
        count = ap suc later.count;
        same = ap (λ (p : Played). onto p.answer (script trade later.calms p.after commands)) (sym first.1)
            ∙ ap (onto here.answer) later.same;
      }

  -- a script without faults tells none
  pub quiet_meet : (lucks : List Luck) (sites : List Site) (commands : List Command)
      → AllQuiet trade lucks sites commands
      → AllMeet trade lucks sites commands
  quiet_meet [] sites commands quiet = tt
  quiet_meet (luck ∷ lucks) sites [] quiet = tt
  quiet_meet (luck ∷ lucks) sites (c ∷ commands) quiet =
      (quiet.0, quiet_meet lucks (played trade luck sites c).after commands quiet.2)

  pub quiet_memory : (lucks : List Luck) (sites : List Site) (commands : List Command)
      → AllQuiet trade lucks sites commands
      → All HasMemory (script trade lucks sites commands).answers
  quiet_memory [] sites commands quiet = All-nil HasMemory
  quiet_memory (luck ∷ lucks) sites [] quiet = All-nil HasMemory
  quiet_memory (luck ∷ lucks) sites (c ∷ commands) quiet =
      let here = played trade luck sites c
      in All-cons HasMemory here.answer (script trade lucks here.after commands).answers
      (quiet_well trade sites luck quiet.1 c).0
      (quiet_memory lucks here.after commands quiet.2)

  pub quiet_none : (k : ℕ) (lucks : List Luck) (sites : List Site) (commands : List Command)
      → AllQuiet trade lucks sites commands
      → faults_told trade k commands (script trade lucks sites commands).answers ≡ 0
  quiet_none k [] sites [] quiet = refl
  quiet_none k [] sites (c ∷ commands) quiet = refl
  quiet_none k (luck ∷ lucks) sites [] quiet = refl
  quiet_none k (luck ∷ lucks) sites (c ∷ commands) quiet =
      let first = (quiet_well trade sites luck quiet.1 c).1 k
      in let later = quiet_none k lucks (played trade luck sites c).after commands quiet.2
      in omega (arith, first, later)

  pub quiet_unchanged : (lucks : List Luck) (sites : List Site) (commands : List Command)
      → AllQuiet trade lucks sites commands
      → All IsUnchanged (script trade lucks sites commands).answers
  quiet_unchanged [] sites commands quiet = All-nil IsUnchanged
  quiet_unchanged (luck ∷ lucks) sites [] quiet = All-nil IsUnchanged
  quiet_unchanged (luck ∷ lucks) sites (c ∷ commands) quiet =
      let here = played trade luck sites c
      in All-cons IsUnchanged here.answer (script trade lucks here.after commands).answers
      (quiet_well trade sites luck quiet.1 c).2
      (quiet_unchanged lucks here.after commands quiet.2)

  calm_kept : (cut : Cut) → IsCalm cut → IsOfKept cut
  calm_kept Whole calm = tt
  calm_kept (Fails n fault) calm = absurd calm
  calm_kept (Full n) calm = tt
  calm_kept (Stops n) calm = tt
  calm_kept (Unread n fault) calm = absurd calm
  calm_kept (Other out) calm = absurd calm
  calm_kept (Sees looks cut) calm = absurd calm

  pub quiet_kept : (lucks : List Luck) (sites : List Site) (commands : List Command) → length lucks ≡ length commands
      → AllQuiet trade lucks sites commands → AllByRecursion GaveWhatWasKept lucks × AllByRecursion ShowsItsOwn lucks
  quiet_kept [] sites commands e quiet = (tt, tt)
  quiet_kept (luck ∷ lucks) sites [] e quiet = absurd (omega (arith, e))
  quiet_kept (luck ∷ lucks) sites (c ∷ commands) e quiet =
      let more = quiet_kept lucks (played trade luck sites c).after commands
      (let f : length lucks ≡ length commands = omega (arith, e) in f) quiet.2
      in ((λ p. calm_kept (luck.cuts p) (quiet.1.cuts p), more.0), (quiet.1.shows, more.1))
