-- What archiving an item leaves of a network, by what the account's provider answers.
use Rattle.std.proofs.Common.{◌≡◌, ℕ, List, ap, sym, subst}
use Rattle.std.specs.Prelude.{Option, None, Some, Result}
use Rattle.pec_types.specs.Bytes.{Bytes}
use Rattle.pec_types.specs.declared.turns.ProviderFault.{ProviderFault}
use Rattle.pec_types.specs.declared.turns.ProviderFault.TheVariants as faults
use Rattle.pec_ledger.specs.Network.{Site}
use Rattle.pec_ledger.specs.Trade.{Trade}
use Rattle.pec_plays.specs.Commands.{Answer, Archive, Luck, Refuses, account_home, answers, archived, played}
use Rattle.pec_network.specs.Playing.{IsPlayed}

module _ (trade : Trade) (address : Bytes) (moment place : ℕ) where
  -- the address is that of no provider
  pub archive_nowhere : (luck : Luck) (sites : List Site) → trade.home address ≡ None
      → played trade luck sites (Archive address moment place) ≡ answers sites (Refuses faults.NoAccount)
  unfolding played
  archive_nowhere luck sites none =
      ap (λ (home : Option ℕ). archived trade luck sites (account_home trade address home) moment address place) none

  -- it is that of this one
  pub archive_there : {X : Type 0} (tells : X → Answer) (me : ℕ) (old new : List Site) (r : Result X ProviderFault)
      → trade.home address ≡ Some me
      → IsPlayed tells (λ (luck : Luck). archived trade luck old (account_home trade address (Some me)) moment address place)
      old new r
      → IsPlayed tells (λ (luck : Luck). played trade luck old (Archive address moment place)) old new r
  unfolding played
  archive_there tells me old new r home plays =
      subst (λ (h : Option ℕ). IsPlayed tells
      (λ (luck : Luck). archived trade luck old (account_home trade address h) moment address place) old new r) (sym home)
      plays
