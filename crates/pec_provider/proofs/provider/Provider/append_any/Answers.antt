use Rattle.std.proofs.Common.{Global, Vec}
use Rattle.pec_types.specs.declared.mailboxes.Mark.{Mark}
use Rattle.pec_provider.specs.Provider.{desk_of}
use Rattle.pec_provider.proofs.FollowLemmas.{only_still}
use Rattle.pec_provider.proofs.TurnLemmas.{any_handed}
use Rattle.pec_provider.proofs.provider.Provider.append_any.Goals as goal

pub returns-in_err-append-in-Some-clause-appends : goal.returns-in_err-append-in-Some-clause-appends
returns-in_err-append-in-Some-clause-appends g c = λ trade of.
    any_handed (Vec Mark Global) _ trade c.args.house.now.me c.args.entry _ (desk_of c.args.self.now)
    (desk_of c.append.new.self)
    c.in_err-append-in-Some.field-0.0 c.from_residual.result c.in-Some.is c.from_residual.ensures.1
    (c.in_err-append-in-Some.ensures.appends trade of)

pub returns-in-None-clause-carries : goal.returns-in-None-clause-carries
returns-in-None-clause-carries g c = λ tells.
    only_still g.D.Disk.sight c.args.entry _ c.args.self.now c.self.view_is (c.stands_still.ensures tells)
