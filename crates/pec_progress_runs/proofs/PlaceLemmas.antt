-- A script at its places: each answer is that of its command in the state before it, with a luck of the script.
use Rattle.std.proofs.Common.{◌≡◌, ℕ, zero, suc, ◌+◌, List, [], ◌∷◌, ap, sym, subst, ◌∙◌, arith, Some}
use Rattle.std.specs.Prelude.{slice_get}
use Rattle.std.specs.List.{AllByRecursion}
use Rattle.std.proofs.lemmas.Option.{none-some, same_Some}
use Rattle.pec_ledger.specs.Network.{Site}
use Rattle.pec_ledger.specs.Trade.{Trade}
use Rattle.pec_plays.specs.Commands.{Answer, Command, Luck, played}
use Rattle.pec_plays.specs.Possible.{GaveWhatWasKept}
use Rattle.pec_plays.specs.Scripts.{script}
use Rattle.pec_progress_runs.specs.Told.{before}

-- the luck with which a command was played, and the state behind it
pub record AtPlace (trade : Trade) (lucks : List Luck) (sites : List Site) (commands : List Command) (number : ℕ) (command : Command) (answer : Answer) : Type 0 where
  pub luck : Luck
  pub kept : GaveWhatWasKept luck
  pub said : answer ≡ (played trade luck (before trade lucks sites commands number) command).answer
  pub behind : before trade lucks sites commands (number + 1) ≡ (played trade luck (before trade lucks sites commands number) command).after

one_later : (n : ℕ) → n + 1 ≡ suc n
one_later n = omega arith

module _ (trade : Trade) where
  pub at_place : (lucks : List Luck) (sites : List Site) (commands : List Command) → AllByRecursion GaveWhatWasKept lucks → (n : ℕ) (command : Command) (answer : Answer)
      → slice_get commands n ≡ Some command → slice_get (script trade lucks sites commands).answers n ≡ Some answer
      → AtPlace trade lucks sites commands n command answer
  at_place [] sites commands kept n command answer is said = absurd (none-some answer said)
  at_place (luck ∷ lucks) sites [] kept n command answer is said = absurd (none-some command is)
  at_place (luck ∷ lucks) sites (c ∷ commands) kept zero command answer is said = record {
    luck = luck;
    kept = kept.0;
    said = sym (same_Some (played trade luck sites c).answer answer said) ∙ ap (λ (x : Command). (played trade luck sites x).answer) (same_Some c command is);
    behind = ap (λ (x : Command). (played trade luck sites x).after) (same_Some c command is);
  }
  at_place (luck ∷ lucks) sites (c ∷ commands) kept (suc n) command answer is said =
      let later = at_place lucks (played trade luck sites c).after commands kept.1 n command answer is said
      in record {
        luck = later.luck;
        kept = later.kept;
        said = later.said;
        behind = ap (λ (k : ℕ). before trade (luck ∷ lucks) sites (c ∷ commands) k) (one_later (suc n))
            ∙ (ap (λ (k : ℕ). before trade lucks (played trade luck sites c).after commands k) (sym (one_later n)) ∙ later.behind);
      }

  module _ (P : List Site → Type 0) (each : (luck : Luck) (sites : List Site) (command : Command) → P sites → P (played trade luck sites command).after) where
    on_from : (lucks : List Luck) (sites : List Site) (commands : List Command) (k : ℕ) → P sites → P (before trade lucks sites commands k)
    on_from lucks sites commands zero is = is
    on_from [] sites commands (suc k) is = is
    on_from (luck ∷ lucks) sites [] (suc k) is = is
    on_from (luck ∷ lucks) sites (c ∷ commands) (suc k) is = on_from lucks (played trade luck sites c).after commands k (each luck sites c is)

    -- what every command keeps, whatever devices do, holds further on
    pub kept_on : (lucks : List Luck) (sites : List Site) (commands : List Command) (n k : ℕ) → P (before trade lucks sites commands n) → P (before trade lucks sites commands (n + k))
    kept_on lucks sites commands zero k is =
        subst (λ (j : ℕ). P (before trade lucks sites commands j)) (let z : k ≡ 0 + k = omega arith in z) (on_from lucks sites commands k is)
    kept_on [] sites commands (suc n) k is =
        subst (λ (j : ℕ). P (before trade [] sites commands j)) (let z : suc (n + k) ≡ suc n + k = omega arith in z) is
    kept_on (luck ∷ lucks) sites [] (suc n) k is =
        subst (λ (j : ℕ). P (before trade (luck ∷ lucks) sites [] j)) (let z : suc (n + k) ≡ suc n + k = omega arith in z) is
    kept_on (luck ∷ lucks) sites (c ∷ commands) (suc n) k is =
        subst (λ (j : ℕ). P (before trade (luck ∷ lucks) sites (c ∷ commands) j)) (let z : suc (n + k) ≡ suc n + k = omega arith in z)
        (kept_on lucks (played trade luck sites c).after commands n k is)
