-- The disk is looked at.
use Rattle.std.proofs.Common.{◌∙◌, ℕ, Option, subst, sym}
use Rattle.std.specs.Prelude.{IfOk}
use Rattle.pec_runs.specs.Openings.{disks_at}
use Rattle.pec_top.specs.Opened.{IsLookedAgain}
use Rattle.pec_top.proofs.HeadlessLemmas.{looked_held}
use Rattle.pec_top.proofs.opening.looked_again.Goals as goal

pub returns-in-Some-clause-holds : goal.returns-in-Some-clause-holds
returns-in-Some-clause-holds g c =
    let tells = g.P.Depot.tells in
    let reads = g.P.D.Disk.tells in
    let sight = g.P.D.Disk.sight in
    let home = g.P.Depot.home c.args.depot.now in
    subst (λ (asked : Option ℕ). IfOk c.holds_something.result (IsLookedAgain asked (disks_at (tells × reads) sight home)))
    (sym c.in-Some.is ∙ c.asked_again.ensures)
    (looked_held tells reads sight home c.in-Some.number c.holds_something.result c.holds_something.ensures.holds)
