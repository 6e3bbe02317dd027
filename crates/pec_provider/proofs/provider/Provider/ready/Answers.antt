-- What is known of the entries and of the half is known of the provider.
use Rattle.std.proofs.Common.{◌∙◌}
use Rattle.pec_provider.proofs.ReadLemmas.{interrupted_read, still_up}
use Rattle.pec_provider.proofs.RunLemmas.{desk_read, runs_inside, runs_read, up_inside}
use Rattle.pec_provider.proofs.provider.Provider.ready.Goals as goal

pub next_decision-requires-clause-up : goal.next_decision-requires-clause-up
next_decision-requires-clause-up g c = up_inside c.self.view_is c.requires.up

pub next_decision-requires-clause-agree : goal.next_decision-requires-clause-agree
next_decision-requires-clause-agree g c =
    let runs = runs_inside c.args.house.now.directory.now c.args.house.now.me _ c.args.self.now c.self.view_is
    c.requires.runs in
    runs.agree

pub next_decision-requires-clause-is : goal.next_decision-requires-clause-is
next_decision-requires-clause-is g c =
    let runs = runs_inside c.args.house.now.directory.now c.args.house.now.me _ c.args.self.now c.self.view_is
    c.requires.runs in
    runs.is

pub returns-clause-ready : goal.returns-clause-ready
returns-clause-ready g c = rw (← c.self.view_is) c.next_decision.ensures.ready

pub returns-clause-unready : goal.returns-clause-unready
returns-clause-unready g c = rw (← c.self.view_is) c.next_decision.ensures.unready

pub returns-clause-changed : goal.returns-clause-changed
returns-clause-changed g c = rw (← c.self.view_is) c.next_decision.ensures.changed

pub returns-clause-looked : goal.returns-clause-looked
returns-clause-looked g c = rw (← c.self.view_is) c.next_decision.ensures.looked

pub returns-clause-reads : goal.returns-clause-reads
returns-clause-reads g c =
    let kept = c.args.house.now.directory.now in
    let me = c.args.house.now.me in
    rw (← c.self.view_is) (desk_read kept me _ c.next_decision.new.chronicle 0 c.next_decision.result
    c.next_decision.ensures.reads (up_inside c.self.view_is c.requires.up)
    (runs_inside kept me _ c.args.self.now c.self.view_is c.requires.runs))

pub returns-clause-whole : goal.returns-clause-whole
returns-clause-whole g c =
    let runs = runs_inside c.args.house.now.directory.now c.args.house.now.me _ c.args.self.now c.self.view_is
    c.requires.runs in
    interrupted_read c.self.inside.chronicle c.next_decision.new.chronicle c.next_decision.result
    c.next_decision.ensures.reads
    ∙ runs.agree.whole (up_inside c.self.view_is c.requires.up)

pub returns-clause-up : goal.returns-clause-up
returns-clause-up g c =
    still_up c.self.inside.chronicle c.next_decision.new.chronicle c.next_decision.result c.next_decision.ensures.reads
    (up_inside c.self.view_is c.requires.up)

pub returns-clause-runs : goal.returns-clause-runs
returns-clause-runs g c =
    runs_read c.args.house.now.directory.now c.args.house.now.me _ c.args.self.now c.self.view_is
    c.next_decision.new.chronicle _ c.next_decision.result c.next_decision.ensures.reads c.requires.runs

pub returns-clause-carries : goal.returns-clause-carries
returns-clause-carries g c = rw (← c.self.view_is) c.next_decision.ensures.carries
