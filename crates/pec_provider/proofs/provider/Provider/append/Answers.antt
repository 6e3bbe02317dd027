use Rattle.std.proofs.Common.{subst}
use Rattle.pec_shelf.specs.Looked.{Looked}
use Rattle.pec_provider.specs.Provider.{ProviderState}
use Rattle.pec_provider.proofs.AppendLemmas.{left_any, marks_any, runs_on}
use Rattle.pec_provider.proofs.provider.Provider.append.Goals as goal

pub returns-clause-appends : goal.returns-clause-appends
returns-clause-appends g c = λ trade of.
    left_any c.args.house.now.directory.now c.args.house.now.me _ c.args.self.now c.self.view_is c.enter.new.chronicle
    c.enter.new.shelf 0 c.args.entry c.requires.runs c.requires.up trade of c.enter.result c.enter.ensures.entered
    c.enter.ensures.failed

pub returns-clause-marks : goal.returns-clause-marks
returns-clause-marks g c = λ trade of.
    marks_any c.args.house.now.directory.now c.args.house.now.me _ c.args.self.now c.self.view_is c.args.entry
    c.requires.runs trade of c.enter.result c.enter.ensures.marks

pub returns-clause-runs : goal.returns-clause-runs
returns-clause-runs g c =
    runs_on c.args.house.now.directory.now c.args.house.now.me _ c.args.self.now c.self.view_is c.enter.new.chronicle
    c.enter.new.shelf _ c.enter.ensures.me c.enter.ensures.agree c.requires.runs

pub returns-clause-looked : goal.returns-clause-looked
returns-clause-looked g c = λ trade of.
    subst (λ (p : ProviderState g.row.D.Denot). Looked trade p.shelf c.args.entry c.enter.new.shelf.looks c.args.steps.now c.enter.new.steps c.enter.result) c.self.view_is
    (c.enter.ensures.looked trade of)
