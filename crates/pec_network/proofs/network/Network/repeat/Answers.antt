use Rattle.std.proofs.Common.{◌∙◌, arith, refl, sym}
use Rattle.pec_network.specs.Judging.{lists_of}
use Rattle.pec_network.proofs.LinkingLemmas.{link_within, repeated_from, senders_of, whole_on_link}
use Rattle.pec_network.proofs.network.Network.repeat.Goals as goal

pub index_mut-requires : goal.index_mut-requires
index_mut-requires g c =
    let within = link_within _ c.args.self.now c.self.view_is c.self.invariant.0 c.args.to c.requires.to in
    let size = c.self.inside.arrivals.ok.0 in
    omega arith

pub repeat-requires : goal.repeat-requires
repeat-requires g c =
    senders_of _ c.args.self.now c.self.view_is c.self.invariant.0 c.args.from c.args.to c.index_mut.result.now c.requires.from
    (link_within _ c.args.self.now c.self.view_is c.self.invariant.0 c.args.to c.requires.to)
    c.index_mut.ensures.value

pub invariant_of-self : goal.invariant_of-self
invariant_of-self g c = (
  whole_on_link c.self.inside.directory c.self.inside.providers.items c.self.inside.arrivals.items c.args.to c.index_mut.result.now
      c.repeat.new.self c.self.invariant.0 (link_within _ c.args.self.now c.self.view_is c.self.invariant.0 c.args.to c.requires.to)
      c.index_mut.ensures.value c.repeat.ensures.links,
  c.self.invariant.1,
)

pub returns-clause-plays : goal.returns-clause-plays
returns-clause-plays g c = λ trade luck.
    let within = link_within _ c.args.self.now c.self.view_is c.self.invariant.0 c.args.to c.requires.to in
    rw (← c.self.view_is)
    (repeated_from c.self.inside.providers.items (lists_of g.J.Judge.patterns c.self.inside.judges.items) c.self.inside.arrivals.items c.args.from c.args.to c.args.place c.index_mut.result.now c.repeat.new.self
    within (c.self.invariant.0.links ∙ sym c.self.invariant.0.count) c.index_mut.ensures.value trade luck c.repeat.result c.repeat.ensures.repeated c.repeat.ensures.no_frame c.repeat.ensures.full c.repeat.ensures.unchanged)

pub returns-clause-others : goal.returns-clause-others
returns-clause-others g c = rw (← c.self.view_is) refl
