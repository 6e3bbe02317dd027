-- What is found as pairs are decided, where what was kept was read: what screens find in what was taken.
use Rattle.std.proofs.Common.{◌≡◌, ℕ, List, refl, ap}
use Rattle.pec_screen.specs.Verdicts.{Patterns}
use Rattle.pec_ledger.specs.Network.{Site}
use Rattle.pec_ledger.specs.Trade.{Trade}
use Rattle.pec_plays.specs.Decisions.{Looks, kept_looks}
use Rattle.pec_plays.specs.Possible.{IsCalm, IsOfKept}
use Rattle.pec_plays.specs.Turns.{Cut, Whole, Fails, Full, Stops, Unread, Other, Sees, frames_in, looks_by, plan, steps_of}

pub looks_kept : (trade : Trade) (p : ℕ) (screens : List Patterns) (cut : Cut) → IsOfKept cut → looks_by trade p screens cut ≡ kept_looks trade p screens
looks_kept trade p screens Whole kept = refl
looks_kept trade p screens (Fails n fault) kept = refl
looks_kept trade p screens (Full n) kept = refl
looks_kept trade p screens (Stops n) kept = refl
looks_kept trade p screens (Unread n fault) kept = refl
looks_kept trade p screens (Other out) kept = absurd kept
looks_kept trade p screens (Sees looks cut) kept = absurd kept

-- without faults each read gave what was kept
pub calm_is_kept : (cut : Cut) → IsCalm cut → IsOfKept cut
calm_is_kept Whole calm = tt
calm_is_kept (Fails n fault) calm = absurd calm
calm_is_kept (Full n) calm = tt
calm_is_kept (Stops n) calm = absurd calm
calm_is_kept (Unread n fault) calm = absurd calm
calm_is_kept (Other out) calm = absurd calm
calm_is_kept (Sees looks cut) calm = absurd calm

-- the steps of such a turn don't depend on its cut
pub steps_kept : (trade : Trade) (p now : ℕ) (site : Site) (cut : Cut) → IsOfKept cut → steps_of trade p now site cut ≡ steps_of trade p now site Whole
steps_kept trade p now site cut kept =
    ap (λ (looks : Looks). plan trade p now looks site.journal (frames_in site.waiting)) (looks_kept trade p site.screens cut kept)
