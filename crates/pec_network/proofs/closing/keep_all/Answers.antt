use Rattle.std.proofs.Common.{ℕ, ◌∙◌, arith, sym, subst, [], ◌∷◌, Some}
use Rattle.std.proofs.lemmas.List.{append-nil}
use Rattle.pec_outside.specs.Depots.{depot_places}
use Rattle.pec_provider.specs.Provider.{ProviderState}
use Rattle.pec_network.specs.Homes.{AllFrom}
use Rattle.pec_network.proofs.HomeLemmas.{all_kept, kept_next, none_yet, place_for, rest_again}
use Rattle.pec_network.proofs.closing.keep_all.Goals as goal

pub loop-provider-init : goal.loop-provider-init
loop-provider-init g c = record {
  rest = ([], sym (append-nil c.args.providers.items));
  kept = λ tells. none_yet (λ (p : ProviderState g.row.D.Denot). Some p.chronicle.disk) (g.P.Depot.home c.args.depot.now) c.args.providers.items;
  last = none_yet (λ (p : ProviderState g.row.D.Denot). g.D.Counted.faults p.chronicle.disk) (g.P.Depot.last c.args.depot.now) c.args.providers.items;
  later = omega arith;
}

pub overflow_cast-len : goal.overflow_cast-len
overflow_cast-len g c =
    let so_far = c.loop-provider.invariant in
    let few = place_for (λ (p : ProviderState g.row.D.Denot). p) c.args.providers.items c.loop-provider.providers.items c.pop.new.self.items c.in-Some.provider
    so_far.rest.0 so_far.rest.1 c.in-Some.ensures.items depot_places c.requires in
    let size = c.len.ensures ∙ c.pop.new.self.ok.0 in omega arith

pub keep-requires : goal.keep-requires
keep-requires g c =
    let so_far = c.loop-provider.invariant in
    let few = place_for (λ (p : ProviderState g.row.D.Denot). p) c.args.providers.items c.loop-provider.providers.items c.pop.new.self.items c.in-Some.provider
    so_far.rest.0 so_far.rest.1 c.in-Some.ensures.items depot_places c.requires in
    let size = c.len.ensures ∙ c.pop.new.self.ok.0 in omega arith

pub loop-provider-preserved : goal.loop-provider-preserved
loop-provider-preserved g c =
    let so_far = c.loop-provider.invariant in
    let size = c.len.ensures ∙ c.pop.new.self.ok.0 in
    let all = c.args.providers.items in
    let now = c.loop-provider.providers.items in
    let front = c.pop.new.self.items in record {
      rest = (
        c.in-Some.provider ∷ so_far.rest.0,
        rest_again (λ (p : ProviderState g.row.D.Denot). p) all now front c.in-Some.provider so_far.rest.0 so_far.rest.1 c.in-Some.ensures.items,
      );
      kept = λ tells.
          kept_next (λ (p : ProviderState g.row.D.Denot). Some p.chronicle.disk) all now front c.in-Some.provider so_far.rest.0 so_far.rest.1
          c.in-Some.ensures.items (g.P.Depot.home c.args.depot.now) (g.P.Depot.home c.loop-provider.depot) (g.P.Depot.home c.keep.new.self)
          c.len.result size (so_far.kept tells)
          (rw (← c.into_parts-disk.ensures.disk) (c.keep.ensures.kept tells));
      last =
          kept_next (λ (p : ProviderState g.row.D.Denot). g.D.Counted.faults p.chronicle.disk) all now front c.in-Some.provider so_far.rest.0
          so_far.rest.1 c.in-Some.ensures.items (g.P.Depot.last c.args.depot.now) (g.P.Depot.last c.loop-provider.depot)
          (g.P.Depot.last c.keep.new.self) c.len.result size so_far.last
          (rw (← c.into_parts-disk.ensures.disk) c.keep.ensures.last);
      later = let first = so_far.later in let then = c.keep.ensures.later in omega arith;
    }

pub returns-clause-kept : goal.returns-clause-kept
returns-clause-kept g c = λ tells.
    all_kept (λ (p : ProviderState g.row.D.Denot). Some p.chronicle.disk) (g.P.Depot.home c.args.depot.now) (g.P.Depot.home c.loop-provider.depot)
    c.args.providers.items
    (subst (λ (n : ℕ). AllFrom (λ (p : ProviderState g.row.D.Denot). Some p.chronicle.disk) (g.P.Depot.home c.args.depot.now) (g.P.Depot.home c.loop-provider.depot) c.args.providers.items n)
    (sym c.loop-provider.providers.ok.0 ∙ c.in_default.ensures.cases.0) (c.loop-provider.invariant.kept tells))

pub returns-clause-last : goal.returns-clause-last
returns-clause-last g c =
    all_kept (λ (p : ProviderState g.row.D.Denot). g.D.Counted.faults p.chronicle.disk) (g.P.Depot.last c.args.depot.now)
    (g.P.Depot.last c.loop-provider.depot) c.args.providers.items
    (subst (λ (n : ℕ). AllFrom (λ (p : ProviderState g.row.D.Denot). g.D.Counted.faults p.chronicle.disk) (g.P.Depot.last c.args.depot.now) (g.P.Depot.last c.loop-provider.depot) c.args.providers.items n)
    (sym c.loop-provider.providers.ok.0 ∙ c.in_default.ensures.cases.0) c.loop-provider.invariant.last)

pub returns-clause-later : goal.returns-clause-later
returns-clause-later g c = c.loop-provider.invariant.later
