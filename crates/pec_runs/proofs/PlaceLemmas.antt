-- A script at its places: each answer is that of its command in the state before it.
use Rattle.std.proofs.Common.{◌≡◌, ℕ, zero, suc, ◌+◌, List, [], ◌∷◌, take, ap, sym, ◌∙◌, arith, Some}
use Rattle.std.specs.Prelude.{slice_get}
use Rattle.std.proofs.lemmas.Option.{none-some, same_Some}
use Rattle.pec_ledger.specs.Network.{Site}
use Rattle.pec_ledger.specs.Trade.{Trade}
use Rattle.pec_plays.specs.Commands.{Answer, Command, Luck, played}
use Rattle.pec_plays.specs.Scripts.{AllUnforged, script}
use Rattle.pec_runs.specs.Headline.{state_before}

-- The answer of a place, with the luck of its command, and the state behind it.
pub record AtPlace (trade : Trade) (lucks : List Luck) (sites : List Site) (commands : List Command) (number : ℕ)
    (command : Command) (answer : Answer) : Type 0 where
  pub luck : Luck
  pub said : answer ≡ (played trade luck (state_before trade lucks sites commands number) command).answer
  pub behind : state_before trade lucks sites commands (number + 1)
      ≡ (played trade luck (state_before trade lucks sites commands number) command).after

one_later : (n : ℕ) → n + 1 ≡ suc n
one_later n = omega arith

module _ (trade : Trade) where
  pub at_place : (lucks : List Luck) (sites : List Site) (commands : List Command) (n : ℕ) (command : Command)
      (answer : Answer)
      → slice_get commands n ≡ Some command → slice_get (script trade lucks sites commands).answers n ≡ Some answer
      → AtPlace trade lucks sites commands n command answer
  at_place [] sites commands n command answer is said = absurd (none-some answer said)
  at_place (luck ∷ lucks) sites [] n command answer is said = absurd (none-some command is)
  at_place (luck ∷ lucks) sites (c ∷ commands) zero command answer is said = record {
    luck = luck;
    said = sym (same_Some (played trade luck sites c).answer answer said)
        ∙ ap (λ (x : Command). (played trade luck sites x).answer) (same_Some c command is);
    behind = ap (λ (x : Command). (played trade luck sites x).after) (same_Some c command is);
  }
  at_place (luck ∷ lucks) sites (c ∷ commands) (suc n) command answer is said =
      let later = at_place lucks (played trade luck sites c).after commands n command answer is said
      in record {
        luck = later.luck;
        said = later.said;
        behind = ap (λ (k : ℕ). state_before trade (luck ∷ lucks) sites (c ∷ commands) k) (one_later (suc n))
            ∙ (ap (λ (k : ℕ). state_before trade lucks (played trade luck sites c).after commands k)
            (sym (one_later n)) ∙ later.behind);
      }

  -- what holds of all commands holds of the first ones
  pub unforged_front : (n : ℕ) (lucks : List Luck) (sites : List Site) (commands : List Command)
      → AllUnforged trade lucks sites commands
      → AllUnforged trade (take n lucks) sites commands
  unforged_front zero lucks sites commands all = tt
  unforged_front (suc n) [] sites commands all = tt
  unforged_front (suc n) (luck ∷ lucks) sites [] all = tt
  unforged_front (suc n) (luck ∷ lucks) sites (c ∷ commands) all =
      (all.0, unforged_front n lucks (played trade luck sites c).after commands all.1)
